-- Costs that are shown in tiles.
use Rattle.std.proofs.Common.{◌≡◌, inl, inr, ℕ, suc, ◌<◌, ◌≤◌, List, [], ◌∷◌, ◌++◌, length, get_or, Some, None, refl, sym, ◌∙◌, ap, subst, arith, pos, true, false}
use Rattle.std.specs.Prelude.{◌==◌, not, nat_le, filter, is_some, Result, if◌then◌else◌}
use Rattle.std.specs.Int.{from_bool}
use Rattle.std.proofs.lemmas.Bool.Decides.{nat_tests}
use Rattle.std.proofs.lemmas.Bool.{cases_lt, lt-leb, le-leb}
use Rattle.std.proofs.lemmas.List.{get_or_past, get_or_default}
use Rattle.std.proofs.lemmas.List.FromFn.{get_or-map-range_with_len, length-map-range_with_len}
use Rattle.map_nums.specs.Grids.{Size, IsSize, Cells, cell_at, cells_in, places}
use Rattle.map_nums.specs.Numbers.{greatest_value, is_value}
use Rattle.map_nums.specs.Answers.{is_wide}
use Rattle.map_defs.specs.Nets.{IsLeastIn}
use Rattle.map_defs.specs.Rounds.{cost_cell}
use Rattle.map_defs.specs.Spread.{IsSpread}
use Rattle.map_defs.specs.Work.{first_work}
use Rattle.layer_tiles.specs.Tiles.{Block, tiles_in, tile_width}
use Rattle.layer_tiles.specs.Answers.{IsTileAnswer, IsLeastWide}
use Rattle.layer_tiles.specs.PlaceByPlace.{cell_in, IsPlacesAnswer}
use Rattle.layer_tiles.specs.declared.kernels.KernelRefusal.{KernelRefusal}
use Rattle.tile_frame.specs.Frames.{by_row}
use Rattle.tile_frame.proofs.Answering.{grid_answer}
use Rattle.tile_work.specs.Working.{IsPushed}
use Rattle.least_costs.specs.Ranks.{changed}
use Rattle.friction_spread.specs.Costs.{GroundState, cost_of, values, AreCosts, net_of}
use Rattle.friction_spread.specs.Flat.{costs_of}
use Rattle.friction_spread.specs.Lists.{IsCostList, list_cells}
use Rattle.friction_spread.specs.Shown.{shown_at, shown_cells}
use Rattle.friction_spread.specs.declared.lists.CostList.{CostList}
use Rattle.friction_spread.proofs.Grounds.{cost_back}
use Rattle.friction_spread.proofs.Flats.{cost_read, changed_alike}
use Rattle.friction_spread.proofs.Results.{first_moved, spread_from}

no_before : {P : Type 0} → false ≡ true → P
no_before e = absurd (cc)

pub pushed_tile : (s : Size) (t : ℕ) (b : Block) (old new : List (ℕ × Block)) → new ≡ old ++ (t, b) ∷ [] → IsPushed s None t (Some b) old new
pushed_tile s t b old new e = inl (record { tiles = e; changed = λ h. no_before h })

pub shown_answer : (s : Size) (limit : ℕ) (costs : List ℕ) (t : ℕ) (result : Result Block KernelRefusal) → IsSize s → t < tiles_in s → IsPlacesAnswer (by_row (tile_width s t) (λ r c. shown_at limit costs (cell_in s t r c))) s t result → IsTileAnswer s (shown_cells s limit costs) t result
shown_answer s limit costs t result size within a = grid_answer s t (λ r c. shown_at limit costs (cell_in s t r c)) (shown_at limit costs) result size within (λ r c l m. refl) a

-- a cost within a limit is a number that a cell may hold
pub cost_narrow : (limit v : ℕ) → limit ≤ greatest_value → is_wide (cost_cell limit v) ≡ false
cost_narrow limit v l = elim (cases_lt limit v) as (λ _. is_wide (cost_cell limit v) ≡ false) [
  | inl m ↦ rw (lt-leb v limit m) refl
  | inr m ↦ rw (le-leb v limit m) (let h : is_value (pos v) ≡ true = le-leb v greatest_value (omega (arith, m, l)) in ap not h)
]

pub never_wide : {P : Type 0} (s : Size) (limit : ℕ) (costs : List ℕ) (t at : ℕ) → limit ≤ greatest_value → IsLeastWide s (shown_cells s limit costs) t at → P
never_wide s limit costs t at low w =
    let e : is_wide (cell_at (shown_cells s limit costs) at) ≡ is_wide (shown_at limit costs at) = ap is_wide (get_or-map-range_with_len (shown_at limit costs) 0 (cells_in s) at at None w.within (omega arith)) in
    let y : is_wide (cell_at (shown_cells s limit costs) at) ≡ true = w.wide in
    no_before (sym (cost_narrow limit (get_or costs at (suc limit)) low) ∙ sym e ∙ y)

-- ---- costs that are counted

one_test : (limit x y : ℕ) → x ≡ y → x ≤ suc limit → from_bool (nat_le x limit) ≡ (if suc limit == y then 0 else 1)
one_test limit x y e m = grind (arith, nat_tests)

pub one_counted : (limit : ℕ) (costs : List ℕ) (k : ℕ) → k < length costs → get_or costs k 0 ≤ suc limit → from_bool (nat_le (get_or costs k 0) limit) ≡ (if values limit [] k == get_or costs k (suc limit) then 0 else 1)
one_counted limit costs k l m = one_test limit (get_or costs k 0) (get_or costs k (suc limit)) (get_or_default costs k 0 (suc limit) l) m

-- ---- least costs that are shown

pub shown_count : (s : Size) (limit : ℕ) (costs : List ℕ) → length (shown_cells s limit costs) ≡ cells_in s
shown_count s limit costs = length-map-range_with_len (shown_at limit costs) 0 (cells_in s)

module _ (g : GroundState) (costs : List ℕ) (count : length costs ≡ cells_in g.size) (least : (i : ℕ) → IsLeastIn (net_of g) i (costs_of g costs i)) where
  abbrev cells : Cells
  cells = shown_cells g.size g.limit costs

  at : (i : ℕ) → cell_at cells i ≡ cost_cell g.limit (costs_of g costs i)
  at i = elim (cases_lt i (cells_in g.size)) as (λ _. cell_at cells i ≡ cost_cell g.limit (costs_of g costs i)) [
    | inl l ↦ get_or-map-range_with_len (shown_at g.limit costs) 0 (cells_in g.size) i i None l (omega arith)
    | inr l ↦ (let c : costs_of g costs i ≡ suc g.limit = get_or_past costs i (suc g.limit) (omega (arith, l, count)) in
        get_or_past cells i None (omega (arith, l, shown_count g.size g.limit costs)) ∙ sym (rw (c) (rw (lt-leb (suc g.limit) g.limit (omega arith)) refl)))
  ]

  pub shown_values : (i : ℕ) → values g.limit cells i ≡ costs_of g costs i
  shown_values i = ap (cost_of (suc g.limit)) (at i) ∙ cost_back g.limit (costs_of g costs i) (least i).capped

  pub shown_costs : AreCosts g.limit cells
  shown_costs i = at i ∙ ap (cost_cell g.limit) (sym (shown_values i))

  pub shown_least : (i : ℕ) → IsLeastIn (net_of g) i (values g.limit cells i)
  shown_least i = let P : ℕ → Type 0 = IsLeastIn (net_of g) i in subst P (sym (shown_values i)) (least i)

  pub shown_spread : IsSpread g.size g.sources g.friction g.limit cells
  shown_spread = spread_from g cells (shown_count g.size g.limit costs) shown_costs shown_least

  pub costs_most : (i : ℕ) → get_or costs i 0 ≤ suc g.limit
  costs_most i = elim (cases_lt i (length costs)) as (λ _. get_or costs i 0 ≤ suc g.limit) [ inl l ↦ omega (arith, cost_read g costs i l, (least i).capped) | inr l ↦ omega (arith, get_or_past costs i 0 l) ]

  -- as many costs are within the limit as cells show
  pub shown_counted : (limit n : ℕ) → limit ≡ g.limit → n ≡ changed (values limit []) (λ i. get_or costs i (suc limit)) (length costs) → n ≡ length (filter (λ i. is_some (cell_at cells i)) (places g.size))
  shown_counted limit n e m =
      let at_limit : changed (values limit []) (λ i. get_or costs i (suc limit)) (length costs) ≡ changed (values g.limit []) (costs_of g costs) (length costs) = ap (λ (k : ℕ). changed (values k []) (λ i. get_or costs i (suc k)) (length costs)) e in
      let all : changed (values g.limit []) (costs_of g costs) (length costs) ≡ changed (values g.limit []) (costs_of g costs) (cells_in g.size) = ap (changed (values g.limit []) (costs_of g costs)) count in
      m ∙ at_limit ∙ all ∙ changed_alike (values g.limit []) (costs_of g costs) (values g.limit cells) (cells_in g.size) (λ j l. sym (shown_values j)) ∙ first_moved g cells shown_costs

  pub list_is : (list : CostList) → list.limit ≡ g.limit → g.limit ≤ greatest_value → list.costs.items ≡ costs → list.worked ≡ first_work g.size cells → IsCostList g list
  list_is list limit low same work =
      let e : list_cells g.size list ≡ cells = ap (λ n. shown_cells g.size n list.costs.items) limit ∙ ap (shown_cells g.size g.limit) same in
      let P : Cells → Type 0 = IsSpread g.size g.sources g.friction g.limit in
      record {
        limit = omega (arith, limit, low);
        same_limit = limit;
        count = ap length same ∙ count;
        spread = subst P (sym e) shown_spread;
        worked = work ∙ ap (first_work g.size) (sym e);
      }
