-- Sources in ascending order of their numbers, and the values when all have passed theirs on.
use Rattle.std.proofs.Common.{◌≡◌, ℕ, Bool, ◌+◌, ◌<◌, ◌≤◌, ℤ, pos, ◌≤ℤ◌, false, List, [], ◌∷◌, ◌++◌, length, get_or, Option, Some, ◌∙◌, ap, subst, arith, inl, inr}
use Rattle.std.specs.List.{Contains}
use Rattle.std.specs.List.Sorted.{IsPermutation, IsSortedBy}
use Rattle.std.specs.Cmp.{int_cmp_total}
use Rattle.std.specs.Ordering.{int_cmp, is_lt}
use Rattle.std.proofs.lemmas.Bool.{cases_lt}
use Rattle.std.proofs.lemmas.Int.{ints}
use Rattle.std.proofs.lemmas.List.{get_or_default}
use Rattle.std.proofs.lemmas.List.Elements.{All-push, Contains-append_left, Contains-push}
use Rattle.std.proofs.lemmas.List.Sorted.{All-permutation, Contains-permutation, ranks_by, sorted_far}
use Rattle.map_nums.specs.Grids.{Cells, cell_at, cells_in}
use Rattle.map_defs.specs.Nearest.{IsNoGreater}
use Rattle.friction_neighbor.specs.declared.seeds.Seed.{Seed}
use Rattle.friction_neighbor.specs.Fields.{FieldState, IsField, cost_at, own_at, AreLeastValues}
use Rattle.friction_neighbor.specs.Seeds.{IsSeed, AreSeedsTo, AreSeeds}
use Rattle.friction_neighbor.specs.Floods.{IsFlooding, MayGrow}
use Rattle.friction_neighbor.proofs.Places.{begins_free}
use Rattle.friction_neighbor.proofs.Flooding.{value_within, no_greater_grows, next_number, flooded}

same_seed : (n m : ℤ) (v w : Option ℤ) (a b : ℕ) → n ≡ m → v ≡ w → a ≡ b → (let s : Seed = record { number = n; value = v; at = a } in s) ≡ (let t : Seed = record { number = m; value = w; at = b } in t)
same_seed n m v w a b e f g = cc

-- ---- gathered, and put in order

module _ (f : FieldState) where
  pub seeds_none : AreSeedsTo f 0 []
  seeds_none = record { each = λ k d l. absurd (omega (arith, l)); all = λ i z l e o. absurd (omega (arith, l)) }

  pub seed_passed : (at : ℕ) (seeds : List Seed) → AreSeedsTo f at seeds → ((z : ℤ) → cost_at f at ≡ 0 → own_at f at ≡ Some z → ⊥) → AreSeedsTo f (at + 1) seeds
  seed_passed at seeds h never = record {
    each = h.each;
    all = λ i z l e o. elim (cases_lt i at) as (λ _. Contains seeds (record { number = z; value = Some z; at = i })) [
      | inl m ↦ h.all i z m e o
      | inr m ↦ (let q : i ≡ at = omega (arith, l, m) in absurd (never z (rw (← q) e) (rw (← q) o)))
    ];
  }

  pub seed_added : (at : ℕ) (new : Seed) (seeds : List Seed) → AreSeedsTo f at seeds → IsSeed f new → new.at ≡ at → AreSeedsTo f (at + 1) (seeds ++ new ∷ [])
  seed_added at new seeds h seed e = record {
    each = All-push (IsSeed f) seeds new h.each seed;
    all = λ i z l free o. elim (cases_lt i at) as (λ _. Contains (seeds ++ new ∷ []) (record { number = z; value = Some z; at = i })) [
      | inl m ↦ Contains-append_left seeds (new ∷ []) (record { number = z; value = Some z; at = i }) (h.all i z m free o)
      | inr m ↦ (let q : new.at ≡ i = omega (arith, l, m, e) in
          let own : own_at f new.at ≡ Some z = rw (q) o in
          let own' : own_at f new.at ≡ Some new.number = seed.number in
          let n : new.number ≡ z = cc in
          let v : new.value ≡ Some z = seed.value ∙ ap Some n in
          let P : Seed → Type 0 = Contains (seeds ++ new ∷ []) in
          let is : new ≡ record { number = z; value = Some z; at = i } = same_seed new.number z new.value (Some z) new.at i n v q in
          subst P is (Contains-push seeds new))
    ];
  }

  not_less : (x y : ℤ) → is_lt (int_cmp y x) ≡ false → x ≤ℤ y
  not_less x y h = grind (arith, ints)

  abbrev pub before : Seed → Seed → Bool
  before a b = is_lt (int_cmp a.number b.number)

  pub seeds_sorted : (xs ys : List Seed) → AreSeedsTo f (cells_in f.ground.size) xs → IsPermutation xs ys → IsSortedBy before ys → AreSeeds f ys
  seeds_sorted xs ys h moved up = record {
    those = record { each = All-permutation (IsSeed f) xs ys moved h.each; all = λ i z l e o. Contains-permutation xs ys (record { number = z; value = Some z; at = i }) moved (h.all i z l e o) };
    ascend = λ i j d l m. not_less (get_or ys i d).number (get_or ys j d).number (sorted_far before (ranks_by int_cmp_total (λ (s : Seed). s.number)) ys up i j d l m);
  }

-- ---- in turn

-- the numbers of the first k seeds were passed on
abbrev pub AreFloodedTo : FieldState → List Seed → Cells → ℕ → Type 0
AreFloodedTo f seeds values k = (y : ℤ) → ((m : ℕ) (d : Seed) → m < k → (get_or seeds m d).number ≤ℤ y) → IsFlooding f y values []

-- and they have values
abbrev pub HaveValuesTo : List Seed → Cells → ℕ → Type 0
HaveValuesTo seeds values k = (m : ℕ) (d : Seed) → m < k → IsNoGreater (cell_at values (get_or seeds m d).at) (get_or seeds m d).number

module _ (f : FieldState) (seeds : List Seed) (h : AreSeeds f seeds) where
  pub flood_ready : (values : Cells) (k : ℕ) (d : Seed) → k < length seeds → AreFloodedTo f seeds values k → IsFlooding f (get_or seeds k d).number values []
  flood_ready values k d l g = g (get_or seeds k d).number (λ m e n.
      let same : get_or seeds k e ≡ get_or seeds k d = get_or_default seeds k e d l in
      let up : (get_or seeds m e).number ≤ℤ (get_or seeds k e).number = h.ascend m k e (omega (arith, n)) l in
      let P : Seed → Type 0 = λ s. (get_or seeds m e).number ≤ℤ s.number in
      subst P same up)

  pub flood_more : (values : Cells) (k : ℕ) (d : Seed) → IsFlooding f (get_or seeds k d).number values [] → AreFloodedTo f seeds values (k + 1)
  flood_more values k d g y above = next_number f (get_or seeds k d).number values y (above k d (omega arith)) g

  pub values_more : (old new : Cells) (k : ℕ) (d : Seed) → k < length seeds → MayGrow old new → IsNoGreater (cell_at new (get_or seeds k d).at) (get_or seeds k d).number → HaveValuesTo seeds old k → HaveValuesTo seeds new (k + 1)
  values_more old new k d l grows has done m e n = elim (cases_lt m k) as (λ _. IsNoGreater (cell_at new (get_or seeds m e).at) (get_or seeds m e).number) [
    | inl u ↦ no_greater_grows old new (get_or seeds m e).at (get_or seeds m e).number grows (done m e u)
    | inr u ↦ (let q : k ≡ m = omega (arith, n, u) in
        let P : Seed → Type 0 = λ s. IsNoGreater (cell_at new s.at) s.number in
        let Q : ℕ → Type 0 = λ x. P (get_or seeds x e) in
        subst Q q (subst P (get_or_default seeds k d e l) has))
  ]

  -- a number that is no less than any of theirs
  highest : (xs : List Seed) → ((i j : ℕ) (d : Seed) → i ≤ j → j < length xs → (get_or xs i d).number ≤ℤ (get_or xs j d).number) → (y : ℤ) × ((m : ℕ) (d : Seed) → m < length xs → (get_or xs m d).number ≤ℤ y)
  highest [] up = (pos 0, λ m d l. absurd (omega (arith, l)))
  highest (x ∷ xs) up =
      let last : Seed = get_or (x ∷ xs) (length xs) x in (
        last.number,
        λ m d l.
            let P : Seed → Type 0 = λ s. (get_or (x ∷ xs) m d).number ≤ℤ s.number in
            subst P (get_or_default (x ∷ xs) (length xs) d x (omega arith)) (up m (length xs) d (omega (arith, l)) (omega arith)),
      )

  pub all_flooded : IsField f → (values : Cells) → AreFloodedTo f seeds values (length seeds) → HaveValuesTo seeds values (length seeds) → AreLeastValues f values
  all_flooded field values g has =
      let y = highest seeds h.ascend in
      flooded f y.0 values
      (λ i w b own.
      let c = h.those.all i w (omega (arith, value_within f.ground.sources i w own, field.sources)) (begins_free f field i b) own in
      let P : Seed → Type 0 = λ s. IsNoGreater (cell_at values s.at) s.number in
      subst P c.2 (has c.0 (record { number = w; value = Some w; at = i }) c.1))
      (g y.0 y.1)
