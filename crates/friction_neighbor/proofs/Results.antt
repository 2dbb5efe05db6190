-- The cells that show values, and the work that those of nearest sources are.
use Rattle.std.proofs.Common.{◌≡◌, ℕ, zero, suc, ◌+◌, ◌<◌, ◌≤◌, ℤ, pos, Bool, true, false, cond, not, List, ◌∷◌, length, get_or, Option, Some, None, refl, sym, ◌∙◌, ap, arith, inl, inr}
use Rattle.std.specs.Prelude.{is_some, filter}
use Rattle.std.specs.List.{range_with_len}
use Rattle.std.proofs.lemmas.Bool.{cases_lt, lt-leb, le-leb}
use Rattle.std.proofs.lemmas.List.{get_or_past}
use Rattle.std.proofs.lemmas.List.FromFn.{get_or-map-range_with_len, length-map-range_with_len}
use Rattle.map_nums.specs.Answers.{is_wide}
use Rattle.map_nums.specs.Grids.{Size, Cells, cell_at, cells_in}
use Rattle.map_nums.specs.Numbers.{greatest_value}
use Rattle.layer_tiles.specs.Answers.{IsLeastWide}
use Rattle.layer_tiles.specs.Cells.{IsCell, AreCells}
use Rattle.map_defs.specs.Nearest.{AreNearest}
use Rattle.map_defs.specs.Work.{first_work}
use Rattle.map_defs.proofs.NearestNet.{valued}
use Rattle.friction_spread.specs.Costs.{net_of}
use Rattle.friction_spread.specs.Shown.{shown_at as cost_shown, shown_cells as cost_cells}
use Rattle.friction_spread.proofs.Grounds.{net_closed, net_costs}
use Rattle.friction_spread.proofs.Showing.{cost_narrow, shown_count as count_shown}
use Rattle.friction_spread.proofs.Shown.{costs_here}
use Rattle.friction_neighbor.specs.Fields.{FieldState, IsField, cost_at, own_at}
use Rattle.friction_neighbor.specs.Shown.{shown_cells}
use Rattle.friction_neighbor.proofs.Agreeing.{nearest_agree}
use Rattle.friction_neighbor.proofs.Places.{least, base_number}
use Rattle.friction_neighbor.proofs.Flooding.{some_or}

pub shown_count : (s : Size) (values : Cells) → length (shown_cells s values) ≡ cells_in s
shown_count s values = length-map-range_with_len (cell_at values) 0 (cells_in s)

pub shown_at : (s : Size) (values : Cells) (i : ℕ) → i < cells_in s → cell_at (shown_cells s values) i ≡ cell_at values i
shown_at s values i l = get_or-map-range_with_len (cell_at values) 0 (cells_in s) i i None l (omega arith)

-- a tile whose cells are in range has no cell that is not
pub narrow_answer : (s : Size) (cells : Cells) (t at : ℕ) → ((i : ℕ) → is_wide (cell_at cells i) ≡ false) → IsLeastWide s cells t at → ⊥
narrow_answer s cells t at narrow w = let a : is_wide (cell_at cells at) ≡ true = w.wide in let b = narrow at in absurd (cc)

-- as many places of two kinds, where each of the one is of the other
pub same_number_of : (p q : ℕ → Bool) (top k n : ℕ) → k + n ≡ top → ((j : ℕ) → j < top → p j ≡ q j) → length (filter p (range_with_len k n)) ≡ length (filter q (range_with_len k n))
same_number_of p q top k zero e h = refl
same_number_of p q top k (suc n) e h = one (p k) (q k) (h k (omega (arith, e))) (filter p (range_with_len (k + 1) n)) (filter q (range_with_len (k + 1) n)) (same_number_of p q top (k + 1) n (omega (arith, e)) h)
  where
    one : (a b : Bool) → a ≡ b → (xs ys : List ℕ) → length xs ≡ length ys → length (cond a (k ∷ xs) xs) ≡ length (cond b (k ∷ ys) ys)
    one true true e xs ys l = omega (arith, l)
    one true false e xs ys l = absurd (cc)
    one false true e xs ys l = absurd (cc)
    one false false e xs ys l = l

module _ (f : FieldState) (h : IsField f) (cells : Cells) (near : AreNearest f.ground.size f.ground.sources f.ground.friction f.ground.limit cells) where
  -- a place has a value exactly where it has a cost
  same_places : (i : ℕ) → is_some (cell_at f.costs i) ≡ is_some (cell_at cells i)
  same_places i =
      let shown = costs_here f.ground f.costs h.costs i in
      let agree = nearest_agree f h cells near in
      elim (cases_lt (cost_at f i) (suc f.ground.limit)) as (λ _. is_some (cell_at f.costs i) ≡ is_some (cell_at cells i)) [
        | inl m ↦ (let some = valued (net_of f.ground) (net_closed f.ground) (net_costs f.ground) (own_at f) (base_number f) (cost_at f) (least f h) (cell_at cells) agree (suc (cost_at f i)) i (omega arith) m in
            ap is_some shown ∙ ap (λ (b : Bool). is_some {T = ℤ} (cond b (Some (pos (cost_at f i))) None)) (le-leb (cost_at f i) f.ground.limit (omega (arith, m))) ∙ sym (ap is_some some.1))
        | inr m ↦ (let none : cell_at cells i ≡ None = no_value i m in
            ap is_some shown ∙ ap (λ (b : Bool). is_some {T = ℤ} (cond b (Some (pos (cost_at f i))) None)) (lt-leb (cost_at f i) f.ground.limit (omega (arith, m))) ∙ sym (ap is_some none))
      ]
    where
      no_value : (i : ℕ) → suc f.ground.limit ≤ cost_at f i → cell_at cells i ≡ None
      no_value i m = elim (some_or (cell_at cells i)) as (λ _. cell_at cells i ≡ None) [
        | inl n ↦ n
        | inr z ↦ elim ((nearest_agree f h cells near i).attained z.0 z.1) as (λ _. cell_at cells i ≡ None) [ inl b ↦ absurd (omega (arith, b.0.0, m)) | inr q ↦ absurd (omega (arith, q.1.0, m)) ]
      ]

  pub same_work : first_work f.ground.size cells ≡ first_work f.ground.size f.costs
  same_work = ap (λ n. cells_in f.ground.size + n) (sym (same_number_of (λ i. is_some (cell_at f.costs i)) (λ i. is_some (cell_at cells i)) (cells_in f.ground.size) 0 (cells_in f.ground.size) (omega arith) (λ i l. same_places i)))

narrow : (c : Option ℤ) → IsCell c → is_wide c ≡ false
narrow None k = refl
narrow (Some z) k = ap not k

pub shown_in_range : (s : Size) (values : Cells) → AreCells values → (i : ℕ) → is_wide (cell_at (shown_cells s values) i) ≡ false
shown_in_range s values h i = elim (cases_lt i (cells_in s)) as (λ _. is_wide (cell_at (shown_cells s values) i) ≡ false) [
  | inl l ↦ ap is_wide (shown_at s values i l) ∙ narrow (cell_at values i) (h.each i)
  | inr l ↦ ap is_wide (get_or_past (shown_cells s values) i None (omega (arith, l, shown_count s values)))
]

pub costs_in_range : (s : Size) (limit : ℕ) (costs : List ℕ) → limit ≤ greatest_value → (i : ℕ) → is_wide (cell_at (cost_cells s limit costs) i) ≡ false
costs_in_range s limit costs low i = elim (cases_lt i (cells_in s)) as (λ _. is_wide (cell_at (cost_cells s limit costs) i) ≡ false) [
  | inl l ↦ ap is_wide (get_or-map-range_with_len (cost_shown limit costs) 0 (cells_in s) i i None l (omega arith)) ∙ cost_narrow limit (get_or costs i (suc limit)) low
  | inr l ↦ ap is_wide (get_or_past (cost_cells s limit costs) i None (omega (arith, l, count_shown s limit costs)))
]
