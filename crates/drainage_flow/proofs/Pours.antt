-- A place that waits for nothing passes on what it has.
use Rattle.std.proofs.Common.{◌≡◌, ◌≢◌, ℕ, zero, suc, ◌-◌, ◌<◌, ◌≤◌, Bool, true, false, eqb, ◌*◌, Option, Some, None, refl, sym, ◌∙◌, ap, arith, inl, inr, ℤ, pos, negsuc, ◌+ℤ◌, ◌-ℤ◌}
use Rattle.std.specs.Prelude.{◌≤ℤ◌, ◌||◌, not}
use Rattle.std.proofs.lemmas.Int.{ints}
use Rattle.std.proofs.lemmas.Bool.{cases_Bool}
use Rattle.map_nums.specs.Numbers.{greatest_value, vmax}
use Rattle.drainage_flow.specs.FlowNets.{IsSmall}
use Rattle.drainage_flow.specs.Nets.{Net, part, sum_to, is_to, inflow, gathered}
use Rattle.drainage_flow.specs.Pouring.{most_load, undone, passed, also, IsPassedOn, IsPouring}
use Rattle.drainage_flow.proofs.Sums.{sum_same, sum_plus, sum_none, sum_changed, sum_picked, part_plus}
use Rattle.drainage_flow.proofs.Above.{to_is}
use Rattle.drainage_flow.proofs.Mending.{same_or_not, gathered_put}
use Rattle.drainage_flow.proofs.Entries.{other_false, same_true}

-- ---- sums

sum_least : (f : ℕ → ℤ) (n : ℕ) → ((d : ℕ) → d < n → pos 0 ≤ℤ f d) → pos 0 ≤ℤ sum_to f n
sum_least f zero h = omega (arith, ints)
sum_least f (suc n) h = omega (arith, ints, sum_least f n (λ d l. h d (omega (arith, l))), h n (omega arith))

pub sum_most : (f e : ℕ → ℤ) (n : ℕ) → ((d : ℕ) → d < n → f d ≤ℤ e d) → sum_to f n ≤ℤ sum_to e n
sum_most f e zero h = omega (arith, ints)
sum_most f e (suc n) h = omega (arith, ints, sum_most f e n (λ d l. h d (omega (arith, l))), h n (omega arith))

pub part_least : (b : Bool) (x : ℤ) → pos 0 ≤ℤ x → pos 0 ≤ℤ part b x
part_least true x h = h
part_least false x h = omega (arith, ints)

part_most : (b : Bool) (x : ℤ) → pos 0 ≤ℤ x → part b x ≤ℤ x
part_most true x h = omega (arith, ints)
part_most false x h = h

pub part_on : (b : Bool) (x : ℤ) → b ≡ true → part b x ≡ x
part_on true x e = refl
part_on false x e = absurd (cc)

pub part_off : (b : Bool) (x : ℤ) → b ≡ false → part b x ≡ pos 0
part_off true x e = absurd (cc)
part_off false x e = refl

also_here : (done : ℕ → Bool) (c : ℕ) → also done c c ≡ true
also_here done c = ap (λ b. b || done c) (same_true c)

also_other : (done : ℕ → Bool) (c d : ℕ) → d ≢ c → also done c d ≡ done d
also_other done c d n = ap (λ b. b || done d) (other_false c d n)

-- ---- one place passes on

module _ (g : Net) (f load : ℕ → ℤ) (done : ℕ → Bool) (c : ℕ) (core : IsPassedOn g f done load) (own : c < g.size) (fresh : done c ≡ false) (ready : inflow g (undone done) c ≡ pos 0) (within : (d : ℕ) → g.down c ≡ Some d → d < g.size) where
  abbrev more : ℕ → Bool
  more = also done c

  -- one less is waited for
  pub less : (x : ℕ) → inflow g (undone more) x ≡ inflow g (undone done) x +ℤ part (is_to (g.down c) x) (negsuc 0)
  unfolding gathered
  less x =
      let here : undone more c ≡ undone done c +ℤ negsuc 0 = ap (λ b. part (not b) (pos 1)) (also_here done c) ∙ sym (ap (λ b. part (not b) (pos 1) +ℤ negsuc 0) fresh) in
      omega (arith, ints, gathered_put g (undone done) (undone more) (negsuc 0) c own here (λ d n. ap (λ b. part (not b) (pos 1)) (also_other done c d n)) x)

  some_wait : (done : ℕ → Bool) (x : ℕ) → pos 0 ≤ℤ inflow g (undone done) x
  unfolding inflow
  some_wait done x = sum_least (λ d. part (is_to (g.down d) x) (undone done d)) g.size (λ d l. part_least (is_to (g.down d) x) (undone done d) (part_least (not (done d)) (pos 1) (omega (arith, ints))))

  -- a place that it drains to waits
  pub waits_for : (x : ℕ) → is_to (g.down c) x ≡ true → pos 1 ≤ℤ inflow g (undone done) x
  waits_for x t = omega (arith, ints, less x, some_wait more x, part_on (is_to (g.down c) x) (negsuc 0) t)

  pub not_here : is_to (g.down c) c ≡ false
  not_here = elim (cases_Bool (is_to (g.down c) c)) as (λ _. is_to (g.down c) c ≡ false) [ inl t ↦ absurd (omega (arith, ints, waits_for c t, ready)) | inr e ↦ e ]

  pub not_done : (x : ℕ) → done x ≡ true → is_to (g.down c) x ≡ false
  not_done x e = elim (cases_Bool (is_to (g.down c) x)) as (λ _. is_to (g.down c) x ≡ false) [
    | inl t ↦ absurd (omega (arith, ints, waits_for x t, core.ended x (within x (to_is (g.down c) x t)) e))
    | inr e ↦ e
  ]

  module _ (f' : ℕ → ℤ) (passes : (x : ℕ) → f' x ≡ f x +ℤ part (is_to (g.down c) x) (f c)) where
    abbrev load' : ℕ → ℤ
    load' x = load x +ℤ part (is_to (g.down c) x) (load c)

    stays : (x : ℕ) → is_to (g.down c) x ≡ false → f' x ≡ f x
    stays x e = omega (arith, ints, passes x, part_off (is_to (g.down c) x) (f c) e)

    passed_here : passed more f' c ≡ passed done f c +ℤ f c
    passed_here = omega (arith, ints, part_on (more c) (f' c) (also_here done c), part_off (done c) (f c) fresh, stays c not_here)

    passed_other : (d : ℕ) → d ≢ c → passed more f' d ≡ passed done f d
    passed_other d n = ap (λ b. part b (f' d)) (also_other done c d n) ∙ same (done d) refl
      where
        same : (b : Bool) → done d ≡ b → part b (f' d) ≡ part b (f d)
        same true e = stays d (not_done d e)
        same false e = refl

    -- what waits to be passed on
    loads_least : (x : ℕ) → x < g.size → pos 0 ≤ℤ load x
    loads_least x l = omega (arith, ints, core.high x l, core.low x l)

    first_sum : sum_to (λ x. part (not (more x)) (load x)) g.size ≡ sum_to (λ x. part (not (done x)) (load x)) g.size +ℤ (pos 0 -ℤ load c)
    first_sum = sum_changed (λ x. part (not (done x)) (load x)) (λ x. part (not (more x)) (load x)) (pos 0 -ℤ load c) c g.size own
        (ap (λ b. part (not b) (load c)) (also_here done c) ∙ omega (arith, ints, ap (λ b. part (not b) (load c)) fresh))
        (λ d l e. ap (λ b. part (not b) (load d)) (also_other done c d (apart d e)))
      where
        apart : (d : ℕ) → eqb d c ≡ false → d ≢ c
        apart d e q = let t : eqb d c ≡ true = ap (λ y. eqb y c) q ∙ same_true c in absurd (cc)

    sent_sum : (o : Option ℕ) → ((d : ℕ) → o ≡ Some d → d < g.size) → sum_to (λ x. part (is_to o x) (load c)) g.size ≤ℤ load c
    sent_sum None h = omega (arith, ints, sum_none g.size, loads_least c own)
    sent_sum (Some d) h = omega (arith, ints, sum_picked (λ x. load c) d g.size (h d refl))

    loads_stay : sum_to (λ x. part (not (more x)) (load' x)) g.size ≤ℤ most_load
    loads_stay =
        let split : sum_to (λ x. part (not (more x)) (load' x)) g.size ≡ sum_to (λ x. part (not (more x)) (load x)) g.size +ℤ sum_to (λ x. part (not (more x)) (part (is_to (g.down c) x) (load c))) g.size
        = sum_same (λ x. part (not (more x)) (load' x)) (λ x. part (not (more x)) (load x) +ℤ part (not (more x)) (part (is_to (g.down c) x) (load c))) g.size (λ x l. part_plus (not (more x)) (load x) (part (is_to (g.down c) x) (load c)))
        ∙ sum_plus (λ x. part (not (more x)) (load x)) (λ x. part (not (more x)) (part (is_to (g.down c) x) (load c))) g.size in
        let few : sum_to (λ x. part (not (more x)) (part (is_to (g.down c) x) (load c))) g.size ≤ℤ sum_to (λ x. part (is_to (g.down c) x) (load c)) g.size
        = sum_most (λ x. part (not (more x)) (part (is_to (g.down c) x) (load c))) (λ x. part (is_to (g.down c) x) (load c)) g.size (λ x l. part_most (not (more x)) (part (is_to (g.down c) x) (load c)) (part_least (is_to (g.down c) x) (load c) (loads_least c own))) in
        omega (arith, ints, split, few, first_sum, sent_sum (g.down c) within, core.loads)

    ended_more : (x : ℕ) → x < g.size → more x ≡ true → inflow g (undone more) x ≡ pos 0
    ended_more x l e = elim (same_or_not x c) as (λ _. inflow g (undone more) x ≡ pos 0) [
      | inl q ↦ rw (q) (omega (arith, ints, less c, ready, part_off (is_to (g.down c) c) (negsuc 0) not_here))
      | inr n ↦ (let d : done x ≡ true = sym (also_other done c x n) ∙ e in omega (arith, ints, less x, core.ended x l d, part_off (is_to (g.down c) x) (negsuc 0) (not_done x d)))
    ]

    pub core_more : IsPassedOn g f' more load'
    core_more = record {
      tied = λ x l. passes x ∙ ap (λ z. z +ℤ part (is_to (g.down c) x) (f c)) (core.tied x l) ∙ sym (gathered_put g (passed done f) (passed more f') (f c) c own passed_here passed_other x);
      high = λ x l. omega (arith, ints, passes x, core.high x l, part_high (is_to (g.down c) x));
      low = λ x l. omega (arith, ints, passes x, core.low x l, part_low (is_to (g.down c) x));
      loads = loads_stay;
      ended = ended_more;
    }
      where
        part_high : (b : Bool) → part b (f c) ≤ℤ part b (load c)
        part_high true = core.high c own
        part_high false = omega (arith, ints)

        part_low : (b : Bool) → pos 0 ≤ℤ (part b (load c) +ℤ part b (f c))
        part_low true = core.low c own
        part_low false = omega (arith, ints)

pub not_none : {P : Type 0} (x : ℕ) → (let n : Option ℕ = None in n) ≡ Some x → P
not_none x e = absurd (cc)

-- ---- the pouring goes on

module _ (g : Net) (c : ℕ) (down down' : ℕ → Option ℕ) (f f' : ℕ → ℤ) (w w' : ℕ → ℕ) (p : IsPouring g (Some c) down f w) where
  own : c < g.size
  own = (p.own c refl).0

  fresh : p.done c ≡ false
  fresh = (p.own c refl).1

  ready : inflow g (undone p.done) c ≡ pos 0
  ready = (p.own c refl).2

  not_some : (x : ℕ) → x ≢ c → Some c ≢ Some x
  not_some x n q = n (cc)

  -- what it drains to is not there
  pub pour_stop : w' c ≡ 0 → ((x : ℕ) → x ≢ c → w' x ≡ w x) → IsPouring g None down f w'
  pour_stop nil same = record {
    done = p.done;
    load = p.load;
    core = p.core;
    downs = p.downs;
    within = p.within;
    waits = λ x l d n. elim (same_or_not x c) as (λ _. pos (w' x) ≡ inflow g (undone p.done) x) [
      | inl q ↦ rw (q) (ap pos nil ∙ sym ready)
      | inr m ↦ ap pos (same x m) ∙ p.waits x l d (not_some x m)
    ];
    fresh = λ x l z. elim (same_or_not x c) as (λ _. p.done x ≡ false) [ inl q ↦ rw (q) fresh | inr m ↦ p.fresh x l (sym (same x m) ∙ z) ];
    own = λ x e. not_none x e;
  }

  module _ (passes : (x : ℕ) → f' x ≡ f x +ℤ part (is_to (g.down c) x) (f c)) (kept : (x : ℕ) → x ≢ c → down' x ≡ down x) where
    abbrev done' : ℕ → Bool
    done' = also p.done c

    within : (d : ℕ) → g.down c ≡ Some d → d < g.size
    within d e = p.within c d own e

    fewer : (x : ℕ) → inflow g (undone done') x ≡ inflow g (undone p.done) x +ℤ part (is_to (g.down c) x) (negsuc 0)
    fewer = less g f p.load p.done c p.core own fresh ready within

    other : (x : ℕ) → done' x ≡ false → (x ≢ c) × (p.done x ≡ false)
    other x e = elim (same_or_not x c) as (λ _. (x ≢ c) × (p.done x ≡ false)) [
      | inl q ↦ (let t : done' x ≡ true = ap done' q ∙ also_here p.done c in absurd (cc))
      | inr n ↦ (n, sym (also_other p.done c x n) ∙ e)
    ]

    now : (next : Option ℕ)
        → ((x : ℕ) → x < g.size → done' x ≡ false → next ≢ Some x → pos (w' x) ≡ inflow g (undone done') x)
        → ((x : ℕ) → x < g.size → w' x ≡ 0 → w x ≡ 0)
        → ((x : ℕ) → next ≡ Some x → (x < g.size) × (done' x ≡ false) × (inflow g (undone done') x ≡ pos 0) × (0 < w' x))
        → IsPouring g next down' f' w'
    now next waits zero_before own' = record {
      done = done';
      load = λ x. p.load x +ℤ part (is_to (g.down c) x) (p.load c);
      core = core_more g f p.load p.done c p.core own fresh ready within f' passes;
      downs = λ x l e. (let o = other x e in kept x o.0 ∙ p.downs x l o.1);
      within = p.within;
      waits = waits;
      fresh = λ x l z. elim (same_or_not x c) as (λ _. done' x ≡ false) [
        | inl q ↦ (let h : w c ≡ 0 = ap w (sym q) ∙ zero_before x l z in absurd (omega (arith, (p.own c refl).3, h)))
        | inr n ↦ also_other p.done c x n ∙ p.fresh x l (zero_before x l z)
      ];
      own = own';
    }

    same_wait : (x : ℕ) → x < g.size → done' x ≡ false → is_to (g.down c) x ≡ false → pos (w x) ≡ inflow g (undone done') x
    same_wait x l e t = let o = other x e in p.waits x l o.1 (not_some x o.0) ∙ omega (arith, ints, fewer x, part_off (is_to (g.down c) x) (negsuc 0) t)

    none_to : (x : ℕ) → g.down c ≡ None → is_to (g.down c) x ≡ false
    none_to x e = ap (λ o. is_to o x) e

    -- where it drains to no place
    pub pour_end : g.down c ≡ None → ((x : ℕ) → w' x ≡ w x) → IsPouring g None down' f' w'
    pour_end e same = now None
        (λ x l d n. ap pos (same x) ∙ same_wait x l d (none_to x e))
        (λ x l z. sym (same x) ∙ z)
        (λ x q. not_none x q)

    module _ (d : ℕ) (e : g.down c ≡ Some d) where
      to_d : is_to (g.down c) d ≡ true
      to_d = ap (λ o. is_to o d) e ∙ same_true d

      to_other : (x : ℕ) → x ≢ d → is_to (g.down c) x ≡ false
      to_other x n = ap (λ o. is_to o x) e ∙ other_false d x n

      not_c : d ≢ c
      not_c q = let t : is_to (g.down c) c ≡ true = ap (is_to (g.down c)) (sym q) ∙ to_d in let u = not_here g f p.load p.done c p.core own fresh ready within in absurd (cc)

      d_fresh : p.done d ≡ false
      d_fresh = elim (cases_Bool (p.done d)) as (λ _. p.done d ≡ false) [ inl t ↦ (let u = not_done g f p.load p.done c p.core own fresh ready within d t in let v = to_d in absurd (cc)) | inr h ↦ h ]

      d_wait : pos (w d) ≡ inflow g (undone p.done) d
      d_wait = p.waits d (within d e) d_fresh (not_some d not_c)

      d_fewer : inflow g (undone done') d ≡ pos (w d) +ℤ negsuc 0
      d_fewer = omega (arith, ints, fewer d, d_wait, part_on (is_to (g.down c) d) (negsuc 0) to_d)

      d_some : 1 ≤ w d
      d_some = omega (arith, ints, d_wait, waits_for g f p.load p.done c p.core own fresh ready within d to_d)

      -- where the place downstream waits for more
      pub pour_wait : 1 < w d → w' d ≡ w d - 1 → ((x : ℕ) → x ≢ d → w' x ≡ w x) → IsPouring g None down' f' w'
      pour_wait h here same = now None
          (λ x l u n. elim (same_or_not x d) as (λ _. pos (w' x) ≡ inflow g (undone done') x) [
            | inl q ↦ rw (q) (omega (arith, ints, d_fewer, here, h))
            | inr m ↦ ap pos (same x m) ∙ same_wait x l u (to_other x m)
          ])
          (λ x l z. elim (same_or_not x d) as (λ _. w x ≡ 0) [ inl q ↦ (let k : w' d ≡ 0 = ap w' (sym q) ∙ z in absurd (omega (arith, k, here, h))) | inr m ↦ sym (same x m) ∙ z ])
          (λ x q. not_none x q)

      -- where it waits for nothing more
      pub pour_on : w d ≤ 1 → ((x : ℕ) → w' x ≡ w x) → IsPouring g (Some d) down' f' w'
      pour_on h same = now (Some d)
          (λ x l u n. ap pos (same x) ∙ same_wait x l u (to_other x (λ q. n (ap Some (sym q)))))
          (λ x l z. sym (same x) ∙ z)
          (λ x q. (let k : x ≡ d = cc in rw (k) (within d e, also_other p.done c d not_c ∙ d_fresh, omega (arith, ints, d_fewer, h, d_some), omega (arith, same d, d_some))))

-- ---- the beginning

part_zero : (b : Bool) → part b (pos 0) ≡ pos 0
part_zero true = refl
part_zero false = refl

sum_even : (v n : ℕ) → sum_to (λ c. pos v) n ≡ pos (v * n)
sum_even v zero = omega (arith, ints)
sum_even v (suc n) = omega (arith, ints, sum_even v n)

-- nothing has passed on
pub pour_first : (g : Net) (down : ℕ → Option ℕ) (f : ℕ → ℤ) (w : ℕ → ℕ) → g.size ≤ 1500000 → ((c : ℕ) → c < g.size → down c ≡ g.down c) → ((c d : ℕ) → c < g.size → g.down c ≡ Some d → d < g.size) → ((c : ℕ) → c < g.size → pos (w c) ≡ inflow g (λ d. pos 1) c) → ((c : ℕ) → c < g.size → f c ≡ g.weight c) → ((c : ℕ) → c < g.size → IsSmall (g.weight c))
    → IsPouring g None down f w
unfolding gathered inflow
pour_first g down f w few same within waits weights small = record {
  done = λ c. false;
  load = λ c. vmax;
  core = record {
    tied = λ c l. weights c l ∙ omega (arith, ints, sum_same (λ d. part (is_to (g.down d) c) (pos 0)) (λ d. pos 0) g.size (λ d m. part_zero (is_to (g.down d) c)), sum_none g.size);
    high = λ c l. (let s = small c l in omega (arith, ints, weights c l, s.high));
    low = λ c l. (let s = small c l in omega (arith, ints, weights c l, s.low));
    loads = omega (arith, ints, sum_even greatest_value g.size, few);
    ended = λ c l e. absurd (cc);
  };
  downs = λ c l e. same c l;
  within = within;
  waits = λ c l e n. waits c l;
  fresh = λ c l e. refl;
  own = λ c e. not_none c e;
}

-- places with the same are pouring alike
pub pour_same : (g : Net) (down down' : ℕ → Option ℕ) (f f' : ℕ → ℤ) (w w' : ℕ → ℕ) → IsPouring g None down f w → ((c : ℕ) → c < g.size → down' c ≡ down c) → ((c : ℕ) → c < g.size → f' c ≡ f c) → ((c : ℕ) → c < g.size → w' c ≡ w c) → IsPouring g None down' f' w'
unfolding gathered inflow
pour_same g down down' f f' w w' p same_down same_flow same_wait = record {
  done = p.done;
  load = p.load;
  core = record {
    tied = λ c l. same_flow c l ∙ p.core.tied c l ∙ ap (λ z. g.weight c +ℤ z) (sum_same (λ d. part (is_to (g.down d) c) (passed p.done f d)) (λ d. part (is_to (g.down d) c) (passed p.done f' d)) g.size (λ d m. ap (λ z. part (is_to (g.down d) c) (part (p.done d) z)) (sym (same_flow d m))));
    high = λ c l. omega (arith, ints, same_flow c l, p.core.high c l);
    low = λ c l. omega (arith, ints, same_flow c l, p.core.low c l);
    loads = p.core.loads;
    ended = p.core.ended;
  };
  downs = λ c l e. same_down c l ∙ p.downs c l e;
  within = p.within;
  waits = λ c l e n. ap pos (same_wait c l) ∙ p.waits c l e n;
  fresh = λ c l z. p.fresh c l (sym (same_wait c l) ∙ z);
  own = λ c e. not_none c e;
}
