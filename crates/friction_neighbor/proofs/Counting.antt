-- Counts of places and of marks.
use Rattle.std.proofs.Common.{◌≡◌, ◌≢◌, ℕ, zero, suc, ◌+◌, ◌<◌, ◌≤◌, Bool, true, false, cond, List, [], ◌∷◌, length, get_or, refl, sym, ◌∙◌, ap, subst, arith, inl, inr}
use Rattle.std.specs.Prelude.{◌⊎◌, ◌&&◌, ◌||◌, not, filter, if◌then◌else◌}
use Rattle.std.specs.Int.{from_bool}
use Rattle.std.specs.List.{range_with_len}
use Rattle.std.proofs.lemmas.Bool.{cases_eq, cases_Bool, both_ways, and_parts, and_from}
use Rattle.std.proofs.lemmas.List.{get_or_past}
use Rattle.std.proofs.lemmas.List.Sums.{sum_by-cons}
use Rattle.std.proofs.lemmas.List.FromFn.{length-range_with_len}
use Rattle.map_nums.specs.Grids.{Cells, cell_at, cells_in, places}
use Rattle.map_defs.specs.Differences.{differs}
use Rattle.tile_work.specs.Working.{copies}
use Rattle.changed_cells.proofs.Joining.{differs_so, differs_is, differs_not, fewer, filter_most}
use Rattle.friction_neighbor.specs.Repairs.{wanted_at, differs_alone, alone}
use Rattle.friction_neighbor.specs.Views.{ViewState}
use Rattle.friction_neighbor.proofs.Results.{same_number_of}

-- ---- marks

one_at_most : (b : Bool) → (if b then 1 else 0) ≤ 1
one_at_most true = omega arith
one_at_most false = omega arith

pub copies_most : (marks : List Bool) → copies marks ≤ length marks
copies_most [] = omega arith
copies_most (b ∷ marks) = omega (arith, sum_by-cons (λ (m : Bool). if m then 1 else 0) b marks, one_at_most b, copies_most marks)

marked_first : (b : Bool) (n : ℕ) → b ≡ true → 1 ≤ (if b then 1 else 0) + n
marked_first true n e = omega arith
marked_first false n e = absurd (cc)

pub copies_some : (marks : List Bool) (t : ℕ) → get_or marks t false ≡ true → 1 ≤ copies marks
copies_some [] t e = absurd (both_ways (get_or [] t false) (get_or_past [] t false (omega arith)) e)
copies_some (b ∷ marks) zero e = omega (arith, sum_by-cons (λ (m : Bool). if m then 1 else 0) b marks, marked_first b (copies marks) e)
copies_some (b ∷ marks) (suc t) e = omega (arith, sum_by-cons (λ (m : Bool). if m then 1 else 0) b marks, copies_some marks t e)

-- ---- places

or_step : (v w : Bool) (x : ℕ) (xs ys zs : List ℕ) → length xs ≡ length ys + length zs → length (cond (v || w) (x ∷ xs) xs) ≡ length (cond v (x ∷ ys) ys) + length (cond (not v && w) (x ∷ zs) zs)
or_step true w x xs ys zs e = omega (arith, e)
or_step false true x xs ys zs e = omega (arith, e)
or_step false false x xs ys zs e = e

-- those of one kind, and those of another kind alone
pub either_number : (p q : ℕ → Bool) (xs : List ℕ) → length (filter (λ i. p i || q i) xs) ≡ length (filter p xs) + length (filter (λ i. not (p i) && q i) xs)
either_number p q [] = refl
either_number p q (x ∷ xs) = or_step (p x) (q x) x (filter (λ i. p i || q i) xs) (filter p xs) (filter (λ i. not (p i) && q i) xs) (either_number p q xs)

one_of : (v w : Bool) (x n : ℕ) (xs ys : List ℕ) → v ≡ w → length ys ≡ length xs + n → length (cond w (x ∷ ys) ys) ≡ length (cond v (x ∷ xs) xs) + n
one_of true true x n xs ys e l = omega (arith, l)
one_of true false x n xs ys e l = absurd (cc)
one_of false true x n xs ys e l = absurd (cc)
one_of false false x n xs ys e l = l

one_here : (v w : Bool) (x : ℕ) (xs ys : List ℕ) → v ≡ false → w ≡ true → length xs ≡ length ys → length (cond w (x ∷ ys) ys) ≡ length (cond v (x ∷ xs) xs) + 1
one_here true w x xs ys e k l = absurd (cc)
one_here false true x xs ys e k l = omega (arith, l)
one_here false false x xs ys e k l = absurd (cc)

-- one more place passes
one_more_from : (p q : ℕ → Bool) (at top k n : ℕ) → k + n ≡ top → k ≤ at → at < top → p at ≡ false → q at ≡ true → ((j : ℕ) → j ≢ at → p j ≡ q j) → length (filter q (range_with_len k n)) ≡ length (filter p (range_with_len k n)) + 1
one_more_from p q at top k zero e l m f t h = absurd (omega (arith, e, l, m))
one_more_from p q at top k (suc n) e l m f t h = elim (cases_eq k at) as (λ _. length (cond (q k) (k ∷ filter q (range_with_len (k + 1) n)) (filter q (range_with_len (k + 1) n))) ≡ length (cond (p k) (k ∷ filter p (range_with_len (k + 1) n)) (filter p (range_with_len (k + 1) n))) + 1) [
  | inl s ↦ one_here (p k) (q k) k (filter p (range_with_len (k + 1) n)) (filter q (range_with_len (k + 1) n)) (ap p s ∙ f) (ap q s ∙ t) (after (k + 1) n (omega (arith, s)))
  | inr s ↦ one_of (p k) (q k) k 1 (filter p (range_with_len (k + 1) n)) (filter q (range_with_len (k + 1) n)) (h k s) (one_more_from p q at top (k + 1) n (omega (arith, e)) (omega (arith, l, s)) m f t h)
]
  where
    after : (u v : ℕ) → at < u → length (filter p (range_with_len u v)) ≡ length (filter q (range_with_len u v))
    after u zero l = refl
    after u (suc v) l = omega (arith, one_of (p u) (q u) u 0 (filter p (range_with_len (u + 1) v)) (filter q (range_with_len (u + 1) v)) (h u (omega (arith, l))) (omega (arith, after (u + 1) v (omega (arith, l)))))

pub one_more : (p q : ℕ → Bool) (n at : ℕ) → at < n → p at ≡ false → q at ≡ true → ((j : ℕ) → j ≢ at → p j ≡ q j) → length (filter q (range_with_len 0 n)) ≡ length (filter p (range_with_len 0 n)) + 1
one_more p q n at l f t h = one_more_from p q at n 0 n (omega arith) (omega arith) l f t h

none_kept : (v : Bool) (x : ℕ) (xs : List ℕ) → v ≡ false → length xs ≡ 0 → length (cond v (x ∷ xs) xs) ≡ 0
none_kept true x xs e l = absurd (cc)
none_kept false x xs e l = l

pub no_number : (p : ℕ → Bool) (xs : List ℕ) → ((i : ℕ) → p i ≡ false) → length (filter p xs) ≡ 0
no_number p [] h = refl
no_number p (x ∷ xs) h = none_kept (p x) x (filter p xs) (h x) (no_number p xs h)

one_kept : (v : Bool) (x : ℕ) (xs : List ℕ) → v ≡ true → 1 ≤ length (cond v (x ∷ xs) xs)
one_kept true x xs e = omega arith
one_kept false x xs e = absurd (cc)

still_kept : (v : Bool) (x : ℕ) (xs : List ℕ) → 1 ≤ length xs → 1 ≤ length (cond v (x ∷ xs) xs)
still_kept true x xs l = omega (arith, l)
still_kept false x xs l = l

pub some_kept : (p : ℕ → Bool) (xs : List ℕ) (k : ℕ) → k < length xs → p (get_or xs k 0) ≡ true → 1 ≤ length (filter p xs)
some_kept p [] k l e = absurd (omega (arith, l))
some_kept p (x ∷ xs) zero l e = one_kept (p x) x (filter p xs) e
some_kept p (x ∷ xs) (suc k) l e = still_kept (p x) x (filter p xs) (some_kept p xs k (omega (arith, l)) e)

-- ---- places whose value alone differs

differs_same : (a b c d : Cells) (i : ℕ) → cell_at a i ≡ cell_at c i → cell_at b i ≡ cell_at d i → differs a b i ≡ differs c d i
differs_same a b c d i e f = elim (cases_Bool (differs c d i)) as (λ _. differs a b i ≡ differs c d i) [
  | inl t ↦ differs_so a b i (λ q. differs_is c d i t (sym e ∙ q ∙ f)) ∙ sym t
  | inr t ↦ elim (cases_Bool (differs a b i)) as (λ _. differs a b i ≡ differs c d i) [ inl u ↦ absurd (differs_is a b i u (e ∙ differs_not c d i t ∙ sym f)) | inr u ↦ u ∙ sym t ]
]

and_false : (b : Bool) → (b && false) ≡ false
and_false true = refl
and_false false = refl

and_true : (b : Bool) → (b && true) ≡ b
and_true true = refl
and_true false = refl

module _ (v : ViewState) (old : Cells) where
  abbrev new_cost : ℕ → Bool
  new_cost = differs v.was v.field.costs

  pub alone_few : (values : Cells) → alone v old values ≤ cells_in v.field.ground.size
  alone_few values = omega (arith, filter_most (differs_alone v old values) (places v.field.ground.size), length-range_with_len 0 (cells_in v.field.ground.size))

  pub alone_same : (a b : Cells) → ((i : ℕ) → cell_at a i ≡ cell_at b i) → alone v old a ≡ alone v old b
  alone_same a b h = same_number_of (differs_alone v old a) (differs_alone v old b) (cells_in v.field.ground.size) 0 (cells_in v.field.ground.size) (omega arith) (λ j l. ap (λ d. not (new_cost j) && d) (differs_same old a old b j refl (h j)))

  pub alone_none : (values : Cells) → ((i : ℕ) → cell_at values i ≡ cell_at old i) → alone v old values ≡ 0
  alone_none values h = no_number (differs_alone v old values) (places v.field.ground.size) (λ i. ap (λ d. not (new_cost i) && d) (unchanged i) ∙ and_false (not (new_cost i)))
    where
      unchanged : (i : ℕ) → differs old values i ≡ false
      unchanged i = elim (cases_Bool (differs old values i)) as (λ _. differs old values i ≡ false) [ inl t ↦ absurd (differs_is old values i t (sym (h i))) | inr t ↦ t ]

  -- values on their way differ at no more places than those that are wanted
  pub alone_most : (values cells : Cells) → ((i : ℕ) → (cell_at values i ≡ cell_at old i) ⊎ (cell_at values i ≡ wanted_at v.field i)) → ((i : ℕ) → cell_at cells i ≡ wanted_at v.field i) → alone v old values ≤ alone v old cells
  alone_most values cells kept right = fewer (differs_alone v old values) (differs_alone v old cells) (places v.field.ground.size)
      (λ i t.
      let p = and_parts (not (new_cost i)) (differs old values i) t in
      let n = differs_is old values i p.1 in
      and_from (not (new_cost i)) (differs old cells i) p.0
      (differs_so old cells i (λ e. elim (kept i) as (λ _. ⊥) [ inl q ↦ n (sym q) | inr q ↦ n (e ∙ right i ∙ sym q) ])))

  -- one place was given the wanted value
  module _ (values values' : Cells) (at : ℕ) (l : at < cells_in v.field.ground.size) (kept : (cell_at values at ≡ cell_at old at) ⊎ (cell_at values at ≡ wanted_at v.field at)) (here : cell_at values' at ≡ wanted_at v.field at) (other : (j : ℕ) → j ≢ at → cell_at values' j ≡ cell_at values j) where
    elsewhere : (j : ℕ) → j ≢ at → differs_alone v old values j ≡ differs_alone v old values' j
    elsewhere j n = ap (λ d. not (new_cost j) && d) (differs_same old values old values' j refl (sym (other j n)))

    passed : differs values values' at ≡ false → alone v old values' ≡ alone v old values
    passed e = alone_same values' values (λ j. elim (cases_eq j at) as (λ _. cell_at values' j ≡ cell_at values j) [ inl q ↦ (let P : ℕ → Type 0 = λ k. cell_at values' k ≡ cell_at values k in subst P (sym q) (sym (differs_not values values' at e))) | inr q ↦ other j q ])

    was_old : differs values values' at ≡ true → cell_at values at ≡ cell_at old at
    was_old t = elim kept as (λ _. cell_at values at ≡ cell_at old at) [ inl q ↦ q | inr q ↦ absurd (differs_is values values' at t (q ∙ sym here)) ]

    by_cost : (b : Bool) → new_cost at ≡ b → differs values values' at ≡ true → alone v old values' ≡ alone v old values + from_bool (not b)
    by_cost true c t = let n : alone v old values' ≡ alone v old values = same_number_of (differs_alone v old values') (differs_alone v old values) (cells_in v.field.ground.size) 0 (cells_in v.field.ground.size) (omega arith) (λ j m. elim (cases_eq j at) as (λ _. differs_alone v old values' j ≡ differs_alone v old values j) [
      | inl q ↦ (let d : not (new_cost j) ≡ false = ap (λ k. not (new_cost k)) q ∙ ap not c in ap (λ x. x && differs old values' j) d ∙ sym (ap (λ x. x && differs old values j) d))
      | inr q ↦ sym (elsewhere j q)
    ]) in omega (arith, n)
    by_cost false c t = one_more (differs_alone v old values) (differs_alone v old values') (cells_in v.field.ground.size) at l
        (ap (λ d. not (new_cost at) && d) (differs_same old values old old at refl (was_old t) ∙ self_same) ∙ and_false (not (new_cost at)))
        (and_from (not (new_cost at)) (differs old values' at) (ap not c) (differs_so old values' at (λ e. differs_is values values' at t (was_old t ∙ e))))
        elsewhere
      where
        self_same : differs old old at ≡ false
        self_same = elim (cases_Bool (differs old old at)) as (λ _. differs old old at ≡ false) [ inl u ↦ absurd (differs_is old old at u refl) | inr u ↦ u ]

    pub alone_next : (told : Bool) → told ≡ differs_alone v values values' at → alone v old values' ≡ alone v old values + from_bool told
    alone_next told e = elim (cases_Bool (differs values values' at)) as (λ _. alone v old values' ≡ alone v old values + from_bool told) [
      | inl t ↦ by_cost (new_cost at) refl t ∙ ap (λ b. alone v old values + from_bool b) (sym (e ∙ ap (λ d. not (new_cost at) && d) t ∙ and_true (not (new_cost at))))
      | inr t ↦ (let f : from_bool told ≡ 0 = ap from_bool (e ∙ ap (λ d. not (new_cost at) && d) t ∙ and_false (not (new_cost at))) in omega (arith, passed t, f))
    ]
