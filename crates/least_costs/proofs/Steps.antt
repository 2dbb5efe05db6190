-- One entry taken out of the queue keeps what the repair knows.
use Rattle.std.proofs.Common.{◌≡◌, ◌≢◌, ℕ, ◌+◌, ◌-◌, ◌*◌, ◌<◌, ◌≤◌, min, List, [], ◌∷◌, length, sym, ◌∙◌, ap, arith, inl, inr, subst}
use Rattle.std.specs.Prelude.{◌==◌, if◌then◌else◌}
use Rattle.std.specs.Int.{from_bool}
use Rattle.std.specs.List.{Contains, All}
use Rattle.std.specs.List.Sorted.{IsPermutation}
use Rattle.std.proofs.lemmas.Bool.{cases_lt}
use Rattle.std.proofs.lemmas.Bool.Decides.{nat_tests}
use Rattle.map_defs.specs.Nets.{Net, HasCosts, IsClosed, IsWithin, IsLeastIn, equation}
use Rattle.map_defs.proofs.Nets.{IsSettled, least_costs}
use Rattle.least_costs.specs.declared.outcome.Outcome.{Outcome}
use Rattle.least_costs.specs.declared.outcome.Outcome.TheVariants.{Passed, Fell, Rose}
use Rattle.least_costs.specs.Ranks.{changed, arrived}
use Rattle.least_costs.specs.Queue.{IsQueued, IsKept, IsDue, next_value, IsOffered, IsSetTo, IsRaised, IsFall, IsRise, IsTake, IsStep, falls, rises, is_first}
use Rattle.least_costs.specs.Best.{Ranked, IsRepairing}
use Rattle.least_costs.proofs.Equations.{same_or, equation_kept, equation_fallen, equation_rises, equation_holds, outside, next_above, next_below, next_most}
use Rattle.least_costs.proofs.Takes.{Taken, take_above, take_below, changed_moves, changed_most, arrived_moves, arrived_most}
use Rattle.least_costs.proofs.Moves.{moved_least, moved_most}
use Rattle.least_costs.proofs.Queues.{popped_left, popped_length, key_least}

-- where the least key is k, all is settled below k
pub settled_at : (g : Net) (d : ℕ → ℕ) (k : ℕ) (entries : List (ℕ × ℕ)) → k ≤ g.top → ((i : ℕ) → IsQueued g d entries i) → All (λ (y : ℕ × ℕ). k ≤ y.0) entries → IsSettled g d k
settled_at g d k entries c queued all = record {
  capped = c;
  value = λ i l. elim (same_or (d i) (equation g d i)) as (λ _. d i ≡ equation g d i) [ inl e ↦ e | inr n ↦ absurd (omega (arith, key_least k (min (d i) (equation g d i), i) entries all (queued i n))) ];
  other = λ i l. elim (same_or (d i) (equation g d i)) as (λ _. d i ≡ equation g d i) [ inl e ↦ e | inr n ↦ absurd (omega (arith, key_least k (min (d i) (equation g d i), i) entries all (queued i n))) ];
}

-- where no step leads from a place to itself
abbrev pub HasNoLoop : Net → Type 0
HasNoLoop g = (i : ℕ) → g.top ≤ g.step i i

-- one value set
abbrev one_set : (ℕ → ℕ) → ℕ → ℕ → ℕ → ℕ
one_set d at v j = if j == at then v else d j

one_is_set : (d : ℕ → ℕ) (at v : ℕ) → IsSetTo d at v (one_set d at v)
one_is_set d at v = record { here = grind (arith, nat_tests); other = λ j n. grind (arith, nat_tests) }

module _ (g : Net) (closed : IsClosed g) (costs : HasCosts g) (no_loop : HasNoLoop g) (old d : ℕ → ℕ) (entries left : List (ℕ × ℕ)) (moved key at : ℕ) (now : IsRepairing g old d entries moved) (popped : IsPermutation entries ((key, at) ∷ left)) (all : All (λ (y : ℕ × ℕ). key ≤ y.0) entries) where
  pub due_of : (i : ℕ) → d i ≢ equation g d i → ◌≡◌ {A = ℕ × ℕ} (min (d i) (equation g d i), i) (key, at) → IsDue g d key at
  due_of i n e =
      let here : i ≡ at = ap (λ (x : ℕ × ℕ). x.1) e in
      let k : min (d i) (equation g d i) ≡ key = ap (λ (x : ℕ × ℕ). x.0) e in
      let within : i < g.size = elim (cases_lt i g.size) as (λ _. i < g.size) [ inl l ↦ l | inr l ↦ absurd (n (omega (arith, now.within i l, now.most i, outside g d i closed now.within l))) ] in
      let P : ℕ → Type 0 = λ c. IsDue g d key c in
      subst P here (record { within = within; disagrees = n; is_key = k })

  -- an entry that isn't due
  pub passed : (IsDue g d key at → ⊥) → IsRepairing g old d left moved
  passed undue = record {
    within = now.within;
    old_most = now.old_most;
    most = now.most;
    queued = λ i n. popped_left (min (d i) (equation g d i), i) (key, at) entries left popped (now.queued i n) (λ e. undue (due_of i n e));
    ranked = now.ranked;
    moved_is = now.moved_is;
  }

  module _ (due : IsDue g d key at) where
    settled_here : IsSettled g d key
    settled_here = settled_at g d key entries (omega (arith, now.most at, due.is_key)) now.queued all

    pub fall_here : equation g d at < d at → Taken g at (old at) (d at) (next_value g d at) 1 0
    fall_here l =
        let P : ℕ → Type 0 = λ v. Taken g at (old at) (d at) v 1 0 in
        let k : equation g d at ≡ key = omega (arith, due.is_key) in
        subst P (sym k ∙ sym (next_above (equation g d at) (d at) g.top l)) (take_above g costs d now.within key settled_here at (old at) k (omega arith) (now.most at) (now.ranked at))

    pub rise_here : d at ≤ equation g d at → Taken g at (old at) (d at) (next_value g d at) 0 1
    rise_here l =
        let P : ℕ → Type 0 = λ v. Taken g at (old at) (d at) v 0 1 in
        let n = due.disagrees in
        let k : d at ≡ key = omega (arith, due.is_key) in
        subst P (sym (next_below (equation g d at) (d at) g.top l)) (take_below g costs d now.within key settled_here at (old at) k (omega arith) (now.ranked at))

    taken_here : (fell : ℕ) × (rose : ℕ) × Taken g at (old at) (d at) (next_value g d at) fell rose
    taken_here = elim (cases_lt (equation g d at) (d at)) as (λ _. (fell : ℕ) × (rose : ℕ) × Taken g at (old at) (d at) (next_value g d at) fell rose) [ inl l ↦ (1, 0, fall_here l) | inr l ↦ (0, 1, rise_here l) ]

    module _ (fell rose : ℕ) (here : Taken g at (old at) (d at) (next_value g d at) fell rose) (d' : ℕ → ℕ) (entries' : List (ℕ × ℕ)) (set : IsSetTo d at (next_value g d at) d') where
      within' : IsWithin g d'
      within' j l = let n : j ≢ at = omega (arith, l, due.within) in omega (arith, set.other j n, now.within j l)

      taken' : Taken g at (old at) (d at) (d' at) fell rose
      taken' = let P : ℕ → Type 0 = λ v. Taken g at (old at) (d at) v fell rose in subst P (sym set.here) here

      -- the place leaves its old value
      moved' : moved + from_bool (old at == d at) ≡ changed old d' g.size
      moved' = ap (λ k. k + from_bool (old at == d at)) now.moved_is ∙ sym (changed_moves old d d' g.size at due.within set.other taken'.left)

      -- and arrives, where it falls
      pub arrived' : arrived g.top old d' g.size ≡ arrived g.top old d g.size + fell
      arrived' = arrived_moves g.top old d d' g.size at fell due.within set.other taken'.arrival

      -- so both counts together rise
      pub on_way : moved + arrived g.top old d g.size + 1 ≤ changed old d' g.size + arrived g.top old d' g.size
      on_way = omega (arith, moved', arrived', taken'.one, taken'.first)

      ranked' : (i : ℕ) → Ranked g i (old i) (d' i)
      ranked' i = elim (same_or i at) as (λ _. Ranked g i (old i) (d' i)) [
        | inl e ↦ (let P : ℕ → Type 0 = λ i. Ranked g i (old i) (d' i) in subst P (sym e) taken'.ranked)
        | inr n ↦ (let P : ℕ → Type 0 = λ v. Ranked g i (old i) v in subst P (sym (set.other i n)) (now.ranked i))
      ]

      -- a place whose key is the same stands there still
      still_queued : IsKept left entries' → (i : ℕ) → i ≢ at → d i ≢ equation g d i → min (d i) (equation g d i) ≡ min (d' i) (equation g d' i) → Contains entries' (min (d' i) (equation g d' i), i)
      still_queued kept i n m k =
          let q = popped_left (min (d i) (equation g d i), i) (key, at) entries left popped (now.queued i m) (λ x. n (ap (λ (x : ℕ × ℕ). x.1) x)) in
          let P : ℕ → Type 0 = λ k. Contains entries' (k, i) in
          subst P k (kept (min (d i) (equation g d i), i) q)

      far_queued : IsKept left entries' → (i : ℕ) → i ≢ at → g.top ≤ g.step at i → IsQueued g d' entries' i
      far_queued kept i n t m =
          let e = equation_kept g d d' at i now.within within' set.other t in
          let v = set.other i n in
          still_queued kept i n (λ x. m (v ∙ (x ∙ sym e))) (omega (arith, e, v))

      most' : (i : ℕ) → d' i ≤ g.top
      most' i = elim (same_or i at) as (λ _. d' i ≤ g.top) [ inl e ↦ rw (e, set.here) (next_most g d at now.within) | inr n ↦ rw (set.other i n) (now.most i) ]

      -- a fall
      fallen_at : IsKept left entries' → equation g d at < d at → (i : ℕ) → IsOffered g d' entries' at i → IsQueued g d' entries' i
      fallen_at kept above i offered m =
          let e = equation g d at in
          let here_is : d' at ≡ e = set.here ∙ next_above e (d at) g.top above in
          elim (same_or i at) as (λ _. Contains entries' (min (d' i) (equation g d' i), i)) [
            | inl q ↦ (let P : ℕ → Type 0 = λ i. d' i ≢ equation g d' i in
                let n : d' at ≢ equation g d' at = subst P q m in
                absurd (n (here_is ∙ sym (equation_kept g d d' at at now.within within' set.other (no_loop at)))))
            | inr n ↦ (let v = set.other i n in
                let s = d' at + g.step at i in
                let q : equation g d' i ≡ min (equation g d i) s = equation_fallen g d d' at i now.within within' set.other (omega arith) in
                let P : ℕ → Type 0 = λ k. Contains entries' (k, i) in
                elim (cases_lt s (min (d i) (equation g d i))) as (λ _. Contains entries' (min (d' i) (equation g d' i), i)) [
                  | inl l ↦ (let o = offered (omega (arith, v)) in let k : s ≡ min (d' i) (equation g d' i) = omega (arith, q, v) in subst P k o)
                  | inr l ↦ still_queued kept i n (λ x. m (omega (arith, q, v, x))) (omega (arith, q, v))
                ])
          ]

      -- all offers, since where no step leads there is none
      offered_all : ((i : ℕ) → g.step at i < g.top → IsOffered g d' entries' at i) → (i : ℕ) → IsOffered g d' entries' at i
      offered_all h i = elim (cases_lt (g.step at i) g.top) as (λ _. IsOffered g d' entries' at i) [ inl l ↦ h i l | inr l ↦ (λ b. absurd (omega (arith, b, most' i))) ]

      -- a rise
      raised_queued : IsKept left entries' → d at ≤ equation g d at → (i : ℕ) → i ≢ at → IsRaised g (d at) d' entries' at i → IsQueued g d' entries' i
      raised_queued kept below i n raised m =
          let e = equation g d i in
          let e' = equation g d' i in
          let v = set.other i n in
          let t : d' at ≡ g.top = set.here ∙ next_below (equation g d at) (d at) g.top below in
          let low : e ≤ e' = equation_rises g d d' at i now.within within' set.other (omega (arith, t, now.most at)) in
          elim (cases_lt e (d at + g.step at i)) as (λ _. Contains entries' (min (d' i) e', i)) [
            | inl l ↦ (let high : e' ≤ e = equation_holds g d d' at i now.within within' set.other l in
                still_queued kept i n (λ x. m (omega (arith, v, x, low, high))) (omega (arith, v, low, high)))
            | inr l ↦ elim (cases_lt (d' i) (d at + g.step at i)) as (λ _. Contains entries' (min (d' i) e', i)) [
              | inl h ↦ still_queued kept i n (λ x. absurd (omega (arith, x, v, h, l))) (omega (arith, v, h, l, low))
              | inr h ↦ elim (same_or (d at + g.step at i) (d' i)) as (λ _. Contains entries' (min (d' i) e', i)) [
                | inr o ↦ raised.above (omega (arith, h, o)) m
                | inl o ↦ (let P : ℕ → Type 0 = λ k. Contains entries' (k, i) in let k : d' i ≡ min (d' i) e' = omega (arith, o, l, low) in subst P k (raised.level o))
              ]
            ]
          ]

      risen_at : IsKept left entries' → IsRise g d d' entries' at → (i : ℕ) → IsQueued g d' entries' i
      risen_at kept rise i = elim (same_or i at) as (λ _. IsQueued g d' entries' i) [
        | inl e ↦ (let P : ℕ → Type 0 = IsQueued g d' entries' in subst P (sym e) rise.here)
        | inr n ↦ elim (cases_lt (g.step at i) g.top) as (λ _. IsQueued g d' entries' i) [
          | inr l ↦ far_queued kept i n l
          | inl l ↦ raised_queued kept rise.below i n (rise.risen i l)
        ]
      ]

      -- a take
      pub taken : ((i : ℕ) → IsQueued g d' entries' i) → IsRepairing g old d' entries' (moved + from_bool (old at == d at))
      taken queued = record {
        within = within';
        old_most = now.old_most;
        most = most';
        queued = queued;
        ranked = ranked';
        moved_is = moved';
      }

    -- a place whose entry is due has another least cost than before
    pub due_moves : (w : ℕ) → IsLeastIn g at w → old at ≢ w
    due_moves w m = let t = taken_here.2 in moved_least g at (old at) (next_value g d at) w t.ranked t.left m

    -- so not all places with another least cost have left and arrived
    pub due_on_way : (w : ℕ → ℕ) → ((i : ℕ) → IsLeastIn g i (w i)) → moved + arrived g.top old d g.size + 1 ≤ 2 * changed old w g.size
    due_on_way w are_least =
        let d' : ℕ → ℕ = one_set d at (next_value g d at) in
        let set : IsSetTo d at (next_value g d at) d' = one_is_set d at (next_value g d at) in
        let t = taken_here in
        omega (arith, on_way t.0 t.1 t.2 d' [] set, arrived_most g.top old d' g.size, moved_most g old d' w g.size (ranked' t.0 t.1 t.2 d' [] set) are_least)

-- only places that have another least cost leave, and only those arrive
pub record AreFewer (m a w : ℕ) : Type 0 where
  pub left : m ≤ w
  pub arrived : a ≤ w

pub fewer : (g : Net) (old d : ℕ → ℕ) (entries : List (ℕ × ℕ)) (moved : ℕ) → IsRepairing g old d entries moved → (w : ℕ → ℕ) → ((i : ℕ) → IsLeastIn g i (w i)) → AreFewer moved (arrived g.top old d g.size) (changed old w g.size)
fewer g old d entries moved now w are_least =
    let l : moved ≤ changed old w g.size = omega (arith, now.moved_is, moved_most g old d w g.size now.ranked are_least) in
    record { left = l; arrived = omega (arith, l, now.moved_is, arrived_most g.top old d g.size) }

-- the measure of the repair
abbrev pub to_go : Net → (ℕ → ℕ) → (ℕ → ℕ) → List (ℕ × ℕ) → ℕ → ℕ
to_go g old d entries moved = 11 * (2 * g.size - (moved + arrived g.top old d g.size)) + length entries

pub record Went (g : Net) (old d : ℕ → ℕ) (entries : List (ℕ × ℕ)) (moved : ℕ) (d' : ℕ → ℕ) (entries' : List (ℕ × ℕ)) (moved' fell rose : ℕ) : Type 0 where
  pub len : length entries' + 1 ≤ length entries + (9 * fell + 10 * rose)
  pub repairing : IsRepairing g old d' entries' moved'
  pub leave : moved + rose ≤ moved'
  pub arrive : arrived g.top old d' g.size ≡ arrived g.top old d g.size + fell
  pub smaller : to_go g old d' entries' moved' < to_go g old d entries moved

-- one entry
module _ (g : Net) (closed : IsClosed g) (costs : HasCosts g) (no_loop : HasNoLoop g) (old d : ℕ → ℕ) (entries left : List (ℕ × ℕ)) (moved key at : ℕ) (now : IsRepairing g old d entries moved) (popped : IsPermutation entries ((key, at) ∷ left)) (all : All (λ (y : ℕ × ℕ). key ≤ y.0) entries) (d' : ℕ → ℕ) (entries' : List (ℕ × ℕ)) where
  -- that was taken
  went_by : (next : Type 0) (fell rose most : ℕ) (s : IsTake g d left key at d' entries' next most) → Taken g at (old at) (d at) (next_value g d at) fell rose → most ≤ 9 * fell + 10 * rose → ((i : ℕ) → IsQueued g d' entries' i) → Went g old d entries moved d' entries' (moved + from_bool (old at == d at)) fell rose
  went_by next fell rose most s here few are_queued =
      let r = taken g closed costs no_loop old d entries left moved key at now popped all s.due fell rose here d' entries' s.value are_queued in
      let o = on_way g closed costs no_loop old d entries left moved key at now popped all s.due fell rose here d' entries' s.value in
      let l = popped_length (key, at) entries left popped in
      let m = changed_most old d' g.size in
      let a = arrived_most g.top old d' g.size in
      record {
        len = omega (arith, s.few, few, l);
        repairing = r;
        leave = omega (arith, here.first);
        arrive = arrived' g closed costs no_loop old d entries left moved key at now popped all s.due fell rose here d' entries' s.value;
        smaller = omega (arith, o, r.moved_is, m, a, s.few, few, here.one, l);
      }

  pub went : (outcome : Outcome) → IsStep g d left key at d' entries' outcome → Went g old d entries moved d' entries' (moved + from_bool (is_first old d at outcome)) (falls outcome) (rises outcome)
  went Passed s =
      let e : moved + 0 ≡ moved = omega arith in
      let P : (ℕ → ℕ) → Type 0 = λ l. Went g old d entries moved l entries' (moved + 0) 0 0 in
      let Q : List (ℕ × ℕ) → Type 0 = λ q. Went g old d entries moved d q (moved + 0) 0 0 in
      let R : ℕ → Type 0 = λ n. IsRepairing g old d left n in
      subst P (sym s.same) (subst Q (sym s.entries_same) (record {
        len = omega (arith, popped_length (key, at) entries left popped);
        repairing = subst R (sym e) (passed g closed costs no_loop old d entries left moved key at now popped all s.due);
        leave = omega arith;
        arrive = omega arith;
        smaller = omega (arith, popped_length (key, at) entries left popped);
      }))
  went Fell s =
      let q = s.queued in
      let here = fall_here g closed costs no_loop old d entries left moved key at now popped all s.due q.above in
      went_by (IsFall g d d' entries' at) 1 0 9 s here (omega arith)
      (λ i. fallen_at g closed costs no_loop old d entries left moved key at now popped all s.due 1 0 here d' entries' s.value s.kept q.above i (offered_all g closed costs no_loop old d entries left moved key at now popped all s.due 1 0 here d' entries' s.value q.fallen i))
  went Rose s =
      let q = s.queued in
      let here = rise_here g closed costs no_loop old d entries left moved key at now popped all s.due q.below in
      went_by (IsRise g d d' entries' at) 0 1 10 s here (omega arith)
      (risen_at g closed costs no_loop old d entries left moved key at now popped all s.due 0 1 here d' entries' s.value s.kept q)

-- with no entry left the values are the least costs
pub all_least : (g : Net) → HasCosts g → (old d : ℕ → ℕ) (entries : List (ℕ × ℕ)) (moved : ℕ) → IsRepairing g old d entries moved → entries ≡ [] → (i : ℕ) → IsLeastIn g i (d i)
all_least g costs old d entries moved now e =
    least_costs g d costs now.within
    (λ i. elim (same_or (d i) (equation g d i)) as (λ _. d i ≡ equation g d i) [ inl q ↦ q | inr n ↦ absurd (omega (arith, (now.queued i n).1, ap length e)) ])
