-- Places that come into the queue, each once.
use Rattle.std.proofs.Common.{◌≡◌, ℕ, ◌+◌, ◌<◌, Bool, true, false, List, ◌∷◌, length, refl, sym, ◌∙◌, ap, subst, arith, inl, inr}
use Rattle.std.specs.Prelude.{◌⊎◌, slice_set}
use Rattle.std.specs.List.{Contains}
use Rattle.std.specs.List.Sorted.{IsPermutation}
use Rattle.std.proofs.lemmas.Bool.{cases_lt, cases_eq}
use Rattle.std.proofs.lemmas.List.{get_or-set_same, get_or-set_other, length-set}
use Rattle.std.proofs.lemmas.List.Sorted.{Contains-permutation, IsPermutation-sym, length_permutation}
use Rattle.map_nums.specs.Grids.{cells_in, row_of, column_of}
use Rattle.tile_work.specs.PlaceSets.{PlaceSetState}
use Rattle.tile_work.specs.Working.{copies}
use Rattle.tile_work.proofs.Slots.{copies_set}
use Rattle.least_costs.proofs.Queues.{contains_front, pushed_kept, pushed_there}
use Rattle.friction_spread.specs.declared.ground.Spot.{Spot}
use Rattle.friction_neighbor.specs.Fields.{FieldState, cost_at}
use Rattle.friction_neighbor.specs.Mending.{Waits}
use Rattle.friction_neighbor.specs.Puts.{is_marked, ArePut, IsMarkedFrom, RowMarked, RowMarkedTo, RoundMarkedTo}
use Rattle.friction_spread.specs.Spots.{IsSpot}
use Rattle.friction_neighbor.proofs.Places.{only_spot}

module _ (f : FieldState) where
  pub put_none : (entries : List (ℕ × ℕ)) (seen : PlaceSetState) → ArePut f entries seen entries seen
  put_none entries seen = record { size = refl; full = refl; kept = λ x c. c; marked = λ i m. m; entered = λ i m. inl m; each = λ h. h; more = omega arith; count = refl }

  pub same_put : (old a b : List (ℕ × ℕ)) (seen x y : PlaceSetState) → b ≡ a → y ≡ x → ArePut f old seen a x → ArePut f old seen b y
  same_put old a b seen x y e q p = let P : List (ℕ × ℕ) → Type 0 = λ es. ArePut f old seen es y in let Q : PlaceSetState → Type 0 = ArePut f old seen a in subst P (sym e) (subst Q (sym q) p)

  pub put_then : (a b c : List (ℕ × ℕ)) (x y z : PlaceSetState) → ArePut f a x b y → ArePut f b y c z → ArePut f a x c z
  put_then a b c x y z p q = record {
    size = q.size ∙ p.size;
    full = q.full ∙ p.full;
    kept = λ e h. q.kept e (p.kept e h);
    marked = λ i m. q.marked i (p.marked i m);
    entered = λ i m. elim (q.entered i m) as (λ _. (is_marked x i ≡ true) ⊎ Waits (cost_at f) c i) [
      | inr w ↦ inr w
      | inl n ↦ elim (p.entered i n) as (λ _. (is_marked x i ≡ true) ⊎ Waits (cost_at f) c i) [ inl o ↦ inl o | inr w ↦ inr (q.kept (cost_at f i, i) w) ]
    ];
    each = λ h. q.each (p.each h);
    more = omega (arith, p.more, q.more);
    count = omega (arith, p.count, q.count);
  }

  -- one place
  module _ (old new : List (ℕ × ℕ)) (seen seen' : PlaceSetState) (at key : ℕ) (within : at < cells_in f.ground.size) (is : key ≡ cost_at f at) (pushed : IsPermutation ((key, at) ∷ old) new) (fits : at < length seen.marks) (none : is_marked seen at ≡ false) (marks : seen' ≡ record seen { marks = slice_set seen.marks at true }) where
    abbrev more_marks : List Bool
    more_marks = slice_set seen.marks at true

    marks_is : seen'.marks ≡ more_marks
    marks_is = ap (λ (p : PlaceSetState). p.marks) marks

    mark_at : (i : ℕ) → is_marked seen' i ≡ is_marked (record seen { marks = more_marks }) i
    mark_at i = ap (λ (p : PlaceSetState). is_marked p i) marks

    pub here_marked : is_marked seen' at ≡ true
    here_marked = mark_at at ∙ get_or-set_same seen.marks at true false fits

    other_mark : (i : ℕ) → (i ≡ at → ⊥) → is_marked seen' i ≡ is_marked seen i
    other_mark i n = mark_at i ∙ get_or-set_other seen.marks at i true false n

    here_waits : Waits (cost_at f) new at
    here_waits = let P : ℕ → Type 0 = λ k. Contains new (k, at) in subst P is (pushed_there (key, at) old new pushed)

    pub put_one : ArePut f old seen new seen'
    put_one = record {
      size = ap (λ (p : PlaceSetState). p.size) marks;
      full = ap length marks_is ∙ length-set seen.marks at true;
      kept = pushed_kept (key, at) old new pushed;
      marked = λ i m. elim (cases_eq i at) as (λ _. is_marked seen' i ≡ true) [ inl e ↦ ap (is_marked seen') e ∙ here_marked | inr n ↦ other_mark i n ∙ m ];
      entered = λ i m. elim (cases_eq i at) as (λ _. (is_marked seen i ≡ true) ⊎ Waits (cost_at f) new i) [
        | inl e ↦ (let P : ℕ → Type 0 = Waits (cost_at f) new in inr (subst P (sym e) here_waits))
        | inr n ↦ inl (sym (other_mark i n) ∙ m)
      ];
      each = λ h x c. elim (contains_front x (key, at) old (Contains-permutation new ((key, at) ∷ old) x (IsPermutation-sym ((key, at) ∷ old) new pushed) c)) as (λ _. (x.1 < cells_in f.ground.size) × (x.0 ≡ cost_at f x.1)) [
        | inl e ↦ (let P : ℕ × ℕ → Type 0 = λ y. (y.1 < cells_in f.ground.size) × (y.0 ≡ cost_at f y.1) in subst P (sym e) (within, is))
        | inr r ↦ h x r
      ];
      more = omega (arith, copies_set seen.marks at fits none, ap copies marks_is);
      count = omega (arith, copies_set seen.marks at fits none, ap copies marks_is, length_permutation ((key, at) ∷ old) new pushed);
    }

  -- ---- rows of places

  pub row_marked_next : (floor : ℕ) (a b : List (ℕ × ℕ)) (x y : PlaceSetState) (c row k : ℕ) (p : Spot) → ArePut f a x b y → IsSpot f.ground.size p → p.row ≡ row → p.column ≡ k → IsMarkedFrom f floor y p.at → RowMarkedTo f floor x c row k → RowMarkedTo f floor y c row (k + 1)
  row_marked_next floor a b x y c row k p put h r e here near j l q n m = elim (cases_lt (column_of f.ground.size j) k) as (λ _. IsMarkedFrom f floor y j) [
    | inl u ↦ (λ d. put.marked j (near j l q n u d))
    | inr u ↦ (let same : j ≡ p.at = only_spot f.ground.size p j h (q ∙ sym r) (omega (arith, m, u, e)) in let P : ℕ → Type 0 = IsMarkedFrom f floor y in subst P (sym same) here)
  ]

  pub round_marked_next : (floor : ℕ) (a b : List (ℕ × ℕ)) (x y : PlaceSetState) (c r : ℕ) → ArePut f a x b y → RowMarked f floor y c r → RoundMarkedTo f floor x c r → RoundMarkedTo f floor y c (r + 1)
  round_marked_next floor a b x y c r put row near j l q n m = elim (cases_lt (row_of f.ground.size j) r) as (λ _. IsMarkedFrom f floor y j) [
    | inl u ↦ (λ d. put.marked j (near j l q n u d))
    | inr u ↦ row j l (omega (arith, m, u)) n
  ]
