-- Numbers that are passed on in ascending order: a number that has reached a place is the least there, since each that was
-- passed on before was no greater, and it is passed on from there to all that a step of least costs leads to.
use Rattle.std.proofs.Common.{◌≡◌, ◌≢◌, ℕ, zero, suc, ◌+◌, ◌<◌, ◌≤◌, ℤ, ◌≤ℤ◌, true, false, List, [], ◌∷◌, ◌++◌, length, Option, Some, None, refl, sym, ◌∙◌, ap, subst, arith, inl, inr}
use Rattle.std.specs.Prelude.{◌⊎◌, is_some, IsTrue, replicate, slice_set}
use Rattle.std.specs.List.{Contains}
use Rattle.std.proofs.lemmas.Bool.{cases_lt, cases_eq}
use Rattle.std.proofs.lemmas.Int.{ints}
use Rattle.std.proofs.lemmas.List.{get_or_past, get_or-replicate, length-replicate, get_or-set_same, get_or-set_other, length-set}
use Rattle.std.proofs.lemmas.List.Elements.{Contains-append_left, Contains-push, Contains-push_cases}
use Rattle.map_nums.specs.Grids.{Cells, cell_at, cells_in, row_of, column_of}
use Rattle.map_nums.specs.Numbers.{is_value}
use Rattle.map_defs.specs.Nearest.{IsNoGreater, BeginsAt, StepsTo}
use Rattle.map_defs.proofs.NearestNet.{number_of, no_greater, le_then}
use Rattle.map_defs.specs.Spread.{friction_at}
use Rattle.friction_spread.specs.Costs.{net_of, step_of}
use Rattle.friction_spread.specs.declared.ground.Spot.{Spot}
use Rattle.friction_neighbor.specs.Fields.{FieldState, IsField, cost_at, own_at, AreLeastValues}
use Rattle.friction_neighbor.specs.declared.fields.Front.{Front}
use Rattle.friction_spread.specs.Spots.{IsSpot, AreNear, weighed}
use Rattle.friction_neighbor.specs.Spots.{IsFront}
use Rattle.friction_neighbor.specs.Floods.{IsTold, IsFlooding, MayGrow, RowTold, RowToldTo, RoundToldTo}
use Rattle.friction_neighbor.proofs.Places.{only_spot, step_is}

-- ---- lists of places

in_rest : (x : ℕ) (xs : List ℕ) (i : ℕ) → Contains xs i → Contains (x ∷ xs) i
in_rest x xs i c = (suc c.0, omega (arith, c.1), c.2)

first_or_rest : (x : ℕ) (xs : List ℕ) (i : ℕ) → Contains (x ∷ xs) i → (x ≡ i) ⊎ Contains xs i
first_or_rest x xs i (zero, l, e) = inl e
first_or_rest x xs i (suc k, l, e) = inr (k, omega (arith, l), e)

last_or_rest : (x : ℕ) (xs : List ℕ) (i : ℕ) → Contains (x ∷ xs) i → Contains (xs ++ x ∷ []) i
last_or_rest x xs i c = elim (first_or_rest x xs i c) as (λ _. Contains (xs ++ x ∷ []) i) [
  | inl e ↦ (let P : ℕ → Type 0 = Contains (xs ++ x ∷ []) in subst P e (Contains-push xs x))
  | inr r ↦ Contains-append_left xs (x ∷ []) i r
]

from_last : (x : ℕ) (xs : List ℕ) (i : ℕ) → Contains (xs ++ x ∷ []) i → Contains (x ∷ xs) i
from_last x xs i c = elim (Contains-push_cases xs x i c) as (λ _. Contains (x ∷ xs) i) [
  | inl r ↦ in_rest x xs i r
  | inr e ↦ (0, omega arith, e)
]

-- one more place behind those after the first
pub more_behind : (x : ℕ) (xs : List ℕ) (y i : ℕ) → Contains (x ∷ xs) i → Contains (x ∷ (xs ++ y ∷ [])) i
more_behind x xs y i c = elim (first_or_rest x xs i c) as (λ _. Contains (x ∷ (xs ++ y ∷ [])) i) [
  | inl e ↦ (0, omega arith, e)
  | inr r ↦ in_rest x (xs ++ y ∷ []) i (Contains-append_left xs (y ∷ []) i r)
]

behind_cases : (x : ℕ) (xs : List ℕ) (y i : ℕ) → Contains (x ∷ (xs ++ y ∷ [])) i → Contains (x ∷ xs) i ⊎ (y ≡ i)
behind_cases x xs y i c = elim (first_or_rest x (xs ++ y ∷ []) i c) as (λ _. Contains (x ∷ xs) i ⊎ (y ≡ i)) [
  | inl e ↦ inl (0, omega arith, e)
  | inr r ↦ elim (Contains-push_cases xs y i r) as (λ _. Contains (x ∷ xs) i ⊎ (y ≡ i)) [ inl m ↦ inl (in_rest x xs i m) | inr e ↦ inr e ]
]

-- ---- values

pub some_or : (c : Option ℤ) → (c ≡ None) ⊎ ((z : ℤ) × (c ≡ Some z))
some_or None = inl refl
some_or (Some z) = inr (z, refl)

pub none_of : (c : Option ℤ) → is_some c ≡ false → c ≡ None
none_of None e = refl
none_of (Some z) e = absurd (cc)

pub some_in : (c : Option ℤ) → is_some c ≡ true → (z : ℤ) × (c ≡ Some z)
some_in None e = absurd (cc)
some_in (Some z) e = (z, refl)

pub le_self : (z : ℤ) → z ≤ℤ z
le_self z = omega (arith, ints)

pub value_within : (values : Cells) (i : ℕ) (z : ℤ) → cell_at values i ≡ Some z → i < length values
value_within values i z e = elim (cases_lt i (length values)) as (λ _. i < length values) [ inl l ↦ l | inr l ↦ (let n : cell_at values i ≡ None = get_or_past values i None l in absurd (cc)) ]

pub grows_then : (a b c : Cells) → MayGrow a b → MayGrow b c → MayGrow a c
grows_then a b c p q i w e = q i w (p i w e)

pub grows_set : (values : Cells) (i : ℕ) (z : ℤ) → i < length values → cell_at values i ≡ None → MayGrow values (slice_set values i (Some z))
grows_set values i z l n j w e = elim (cases_eq j i) as (λ _. cell_at (slice_set values i (Some z)) j ≡ Some w) [
  | inl q ↦ (let m : cell_at values j ≡ None = rw (q) n in absurd (cc))
  | inr q ↦ get_or-set_other values i j (Some z) None q ∙ e
]

pub set_here : (values : Cells) (i : ℕ) (v : Option ℤ) (z : ℤ) → v ≡ Some z → i < length values → cell_at (slice_set values i v) i ≡ Some z
set_here values i v z e l = get_or-set_same values i v None l ∙ e

pub none_all : (n i : ℕ) → cell_at (replicate n None) i ≡ None
none_all n i = elim (cases_lt i n) as (λ _. cell_at (replicate n None) i ≡ None) [ inl l ↦ get_or-replicate n i None None l | inr l ↦ get_or_past (replicate n None) i None (omega (arith, length-replicate {A = Option ℤ} n None, l)) ]

pub no_greater_grows : (old new : Cells) (i : ℕ) (w : ℤ) → MayGrow old new → IsNoGreater (cell_at old i) w → IsNoGreater (cell_at new i) w
no_greater_grows old new i w grows h = let n = number_of (cell_at old i) w h in no_greater (cell_at new i) n.0 w (grows i n.0 n.1) n.2

module _ (f : FieldState) (z : ℤ) where
  pub told_still : (old new : Cells) (c i : ℕ) (w : ℤ) → MayGrow old new → IsTold f w old c i → IsTold f w new c i
  told_still old new c i w grows told s = no_greater_grows old new i w grows (told s)

  -- ---- rows of places

  pub row_told_next : (old new : Cells) (c row k : ℕ) (p : Spot) → MayGrow old new → IsSpot f.ground.size p → p.row ≡ row → p.column ≡ k → IsTold f z new c p.at → RowToldTo f z old c row k → RowToldTo f z new c row (k + 1)
  row_told_next old new c row k p grows h r e here near j l q n m = elim (cases_lt (column_of f.ground.size j) k) as (λ _. IsTold f z new c j) [
    | inl u ↦ told_still old new c j z grows (near j l q n u)
    | inr u ↦ (let same : j ≡ p.at = only_spot f.ground.size p j h (q ∙ sym r) (omega (arith, m, u, e)) in let P : ℕ → Type 0 = IsTold f z new c in subst P (sym same) here)
  ]

  pub round_told_next : (old new : Cells) (c r : ℕ) → MayGrow old new → RowTold f z new c r → RoundToldTo f z old c r → RoundToldTo f z new c (r + 1)
  round_told_next old new c r grows row near j l q n m = elim (cases_lt (row_of f.ground.size j) r) as (λ _. IsTold f z new c j) [
    | inl u ↦ told_still old new c j z grows (near j l q n u)
    | inr u ↦ row j l (omega (arith, m, u)) n
  ]

  -- ---- one place

  pub told_some : (values : Cells) (found : List ℕ) (c i : ℕ) → IsFlooding f z values found → is_some (cell_at values i) ≡ true → IsTold f z values c i
  told_some values found c i h e s = let w = some_in (cell_at values i) e in no_greater (cell_at values i) w.0 z w.1 (h.most i w.0 w.1)

  -- a place that has a value has a cost
  pub costed : (values : Cells) (found : List ℕ) (i : ℕ) (w : ℤ) → IsFlooding f z values found → cell_at values i ≡ Some w → cost_at f i < suc f.ground.limit
  costed values found i w h e = elim (h.attained i w e) as (λ _. cost_at f i < suc f.ground.limit) [ inl b ↦ b.0.0 | inr q ↦ q.1.0 ]

  -- the cost through a place that passes its number on to one that has none
  pub step_here : IsField f → (values : Cells) (found : List ℕ) (from : Front) (to : Spot) (own : ℕ) → IsFront f from → IsSpot f.ground.size to → AreNear to from.spot → own ≡ friction_at f.ground.friction to.at → IsFlooding f z values (from.spot.at ∷ found) → cell_at values to.at ≡ None → cost_at f to.at < suc f.ground.limit →
      step_of f.ground from.spot.at to.at ≡ weighed from.spot to from.friction own
  step_here field values found from to own front spot near e h none l =
      let held : cell_at values from.spot.at ≡ Some z = h.held from.spot.at (0, omega arith, refl) in
      let other : from.spot.at ≢ to.at = λ q. (let m : cell_at values from.spot.at ≡ None = rw (q) none in absurd (cc)) in
      step_is f field from.spot to front.spot spot near other (costed values (from.spot.at ∷ found) from.spot.at z h held) l
      ∙ ap (λ n. weighed from.spot to n (friction_at f.ground.friction to.at)) (sym front.friction) ∙ ap (λ n. weighed from.spot to from.friction n) (sym e)

  -- a number was given to a place that had none
  module _ (values : Cells) (to : ℕ) (l : to < length values) (none : cell_at values to ≡ None) where
    abbrev after : Cells
    after = slice_set values to (Some z)

    here : cell_at after to ≡ Some z
    here = get_or-set_same values to (Some z) None l

    grows : MayGrow values after
    grows = grows_set values to z l none

    -- it came there newly, or was there
    pub given_cases : (i : ℕ) (w : ℤ) → cell_at after i ≡ Some w → ((to ≡ i) × (w ≡ z)) ⊎ (cell_at values i ≡ Some w)
    given_cases i w e = elim (cases_eq i to) as (λ _. ((to ≡ i) × (w ≡ z)) ⊎ (cell_at values i ≡ Some w)) [
      | inl q ↦ (let m : cell_at after i ≡ Some z = rw (q) here in inl (sym q, cc))
      | inr q ↦ inr (sym (get_or-set_other values to i (Some z) None q) ∙ e)
    ]

    given : IsTrue (is_value z) → (found more : List ℕ) → ((i : ℕ) → Contains more i → Contains found i ⊎ (to ≡ i)) → ((i : ℕ) → Contains found i → Contains more i) → Contains more to →
        (BeginsAt (net_of f.ground) (cost_at f) to × (own_at f to ≡ Some z)) ⊎ ((j : ℕ) × StepsTo (net_of f.ground) (cost_at f) j to × (cell_at values j ≡ Some z)) →
        IsFlooding f z values found → IsFlooding f z after more
    given fits found more cases kept new source h = record {
      count = length-set values to (Some z) ∙ h.count;
      in_range = λ i w e. elim (given_cases i w e) as (λ _. IsTrue (is_value w)) [ inl q ↦ (let P : ℤ → Type 0 = λ x. IsTrue (is_value x) in subst P (sym q.1) fits) | inr o ↦ h.in_range i w o ];
      most = λ i w e. elim (given_cases i w e) as (λ _. w ≤ℤ z) [ inl q ↦ (let s = le_self z in rw (q.1) s) | inr o ↦ h.most i w o ];
      attained = λ i w e. elim (given_cases i w e) as (λ _. (BeginsAt (net_of f.ground) (cost_at f) i × (own_at f i ≡ Some w)) ⊎ ((j : ℕ) × StepsTo (net_of f.ground) (cost_at f) j i × (cell_at after j ≡ Some w))) [
        | inl q ↦ rw (← q.0, q.1) (elim source as (λ _. (BeginsAt (net_of f.ground) (cost_at f) to × (own_at f to ≡ Some z)) ⊎ ((j : ℕ) × StepsTo (net_of f.ground) (cost_at f) j to × (cell_at after j ≡ Some z))) [ inl b ↦ inl b | inr s ↦ inr (s.0, s.1, grows s.0 z s.2) ])
        | inr o ↦ elim (h.attained i w o) as (λ _. (BeginsAt (net_of f.ground) (cost_at f) i × (own_at f i ≡ Some w)) ⊎ ((j : ℕ) × StepsTo (net_of f.ground) (cost_at f) j i × (cell_at after j ≡ Some w))) [ inl b ↦ inl b | inr s ↦ inr (s.0, s.1, grows s.0 w s.2) ]
      ];
      held = λ i c. elim (cases i c) as (λ _. cell_at after i ≡ Some z) [ inl o ↦ grows i z (h.held i o) | inr q ↦ rw (← q) here ];
      passed = λ j w e. elim (given_cases j w e) as (λ _. Contains more j ⊎ ((i : ℕ) → IsTold f w after j i)) [
        | inl q ↦ (let P : ℕ → Type 0 = Contains more in inl (subst P q.0 new))
        | inr o ↦ elim (h.passed j w o) as (λ _. Contains more j ⊎ ((i : ℕ) → IsTold f w after j i)) [
          | inl c ↦ inl (kept j c)
          | inr told ↦ inr (λ i. told_still values after j i w grows (told i))
        ]
      ];
    }

    -- to a place to which a step of least costs leads from one that passes it on
    pub given_on : IsTrue (is_value z) → (c : ℕ) (found : List ℕ) → StepsTo (net_of f.ground) (cost_at f) c to → IsFlooding f z values (c ∷ found) → IsFlooding f z after (c ∷ (found ++ to ∷ []))
    given_on fits c found s h =
        given fits (c ∷ found) (c ∷ (found ++ to ∷ [])) (λ i. behind_cases c found to i) (λ i. more_behind c found to i) (in_rest c (found ++ to ∷ []) to (Contains-push found to)) (inr (c, s, h.held c (0, omega arith, refl))) h

    -- to a source of this number
    pub given_first : IsTrue (is_value z) → (found : List ℕ) → found ≡ [] → BeginsAt (net_of f.ground) (cost_at f) to → own_at f to ≡ Some z → IsFlooding f z values [] → IsFlooding f z after (found ++ to ∷ [])
    given_first fits found e b own h =
        let P : List ℕ → Type 0 = λ xs. IsFlooding f z after (xs ++ to ∷ []) in
        subst P (sym e) (given fits [] (to ∷ []) (λ i c. elim (first_or_rest to [] i c) as (λ _. Contains [] i ⊎ (to ≡ i)) [ inl q ↦ inr q | inr r ↦ inl r ]) (λ i c. absurd (omega (arith, c.1))) (0, omega arith, refl) (inl (b, own)) h)

  -- ---- lists of places found

  -- a place is done with that has passed its number on
  pub done_with : (values : Cells) (at : ℕ) (found : List ℕ) → ((i : ℕ) → IsTold f z values at i) → IsFlooding f z values (at ∷ found) → IsFlooding f z values found
  done_with values at found told h = record {
    count = h.count;
    in_range = h.in_range;
    most = h.most;
    attained = h.attained;
    held = λ i c. h.held i (in_rest at found i c);
    passed = λ j w e. elim (h.passed j w e) as (λ _. Contains found j ⊎ ((i : ℕ) → IsTold f w values j i)) [
      | inl c ↦ elim (first_or_rest at found j c) as (λ _. Contains found j ⊎ ((i : ℕ) → IsTold f w values j i)) [
        | inl q ↦ (let s : cell_at values j ≡ Some z = h.held j c in let same : z ≡ w = cc in let P : ℤ → Type 0 = λ x. (i : ℕ) → IsTold f x values j i in let Q : ℕ → Type 0 = λ x. (i : ℕ) → IsTold f z values x i in inr (subst P same (subst Q q told)))
        | inr r ↦ inl r
      ]
      | inr t ↦ inr t
    ];
  }

  pub taken_out : (values : Cells) (at : ℕ) (rest : List ℕ) → IsFlooding f z values (rest ++ at ∷ []) → IsFlooding f z values (at ∷ rest)
  taken_out values at rest h = record {
    count = h.count;
    in_range = h.in_range;
    most = h.most;
    attained = h.attained;
    held = λ i c. h.held i (last_or_rest at rest i c);
    passed = λ j w e. elim (h.passed j w e) as (λ _. Contains (at ∷ rest) j ⊎ ((i : ℕ) → IsTold f w values j i)) [ inl c ↦ inl (from_last at rest j c) | inr t ↦ inr t ];
  }

  -- ---- numbers in turn

  -- nothing has a value yet
  pub none_given : (values : Cells) → length values ≡ cells_in f.ground.size → ((i : ℕ) → cell_at values i ≡ None) → IsFlooding f z values []
  none_given values n none = record {
    count = n;
    in_range = λ i w e. let m = none i in absurd (cc);
    most = λ i w e. let m = none i in absurd (cc);
    attained = λ i w e. let m = none i in absurd (cc);
    held = λ i c. absurd (omega (arith, c.1));
    passed = λ j w e. let m = none j in absurd (cc);
  }

  pub next_number : (values : Cells) (y : ℤ) → z ≤ℤ y → IsFlooding f z values [] → IsFlooding f y values []
  next_number values y le h = record {
    count = h.count;
    in_range = h.in_range;
    most = λ i w e. le_then w z y (h.most i w e) le;
    attained = h.attained;
    held = λ i c. absurd (omega (arith, c.1));
    passed = h.passed;
  }

  -- when all sources have passed theirs on, each place has its least value
  pub flooded : (values : Cells) → ((i : ℕ) (w : ℤ) → BeginsAt (net_of f.ground) (cost_at f) i → own_at f i ≡ Some w → IsNoGreater (cell_at values i) w) → IsFlooding f z values [] → AreLeastValues f values
  flooded values begun h = record {
    count = h.count;
    in_range = h.in_range;
    each = λ i. record {
      attained = h.attained i;
      begun = begun i;
      stepped = λ j w s e. elim (h.passed j w e) as (λ _. IsNoGreater (cell_at values i) w) [ inl c ↦ absurd (omega (arith, c.1)) | inr t ↦ t i s ];
    };
  }
