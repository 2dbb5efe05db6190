-- Which results are in range, and how much work a repair is at most.
use Rattle.std.proofs.Common.{◌≡◌, ℕ, suc, ◌+◌, ◌^◌, ◌<◌, ◌≤◌, Bool, true, false, cond, List, [], length, Option, Some, None, ℤ, pos, refl, ◌∙◌, ap, subst, arith}
use Rattle.std.specs.Prelude.{not, filter, is_some}
use Rattle.std.specs.List.{position}
use Rattle.std.proofs.lemmas.List.FromFn.{length-range_with_len, length-map-range_with_len, get_or-map-range_with_len}
use Rattle.map_nums.specs.Answers.{is_wide}
use Rattle.map_nums.specs.Numbers.{greatest_value}
use Rattle.map_nums.specs.Grids.{Size, IsSize, Cells, cell_at, cells_in, places}
use Rattle.map_nums.proofs.Ranges.{in_range_from_magnitude}
use Rattle.map_defs.specs.Damage.{has_work}
use Rattle.map_defs.specs.Differences.{has_changed}
use Rattle.map_defs.specs.Flow.{flow_at, flow_grid}
use Rattle.map_defs.specs.Facts.{Class, local_class, class_of}
use Rattle.map_defs.specs.Ops.{Op}
use Rattle.map_defs.specs.Nearest.{begins_at, IsNearestCell, AreNearest}
use Rattle.map_defs.specs.Regions.{IsLabelOf, AreRegions}
use Rattle.map_defs.specs.Spread.{IsSpreadCell, IsSpread}
use Rattle.map_defs.specs.Work.{further_places, first_work, repair_work, op_work}
use Rattle.layer_tiles.specs.Cells.{IsCell, AreCells}
use Rattle.drainage_flow.specs.Overflows.{IsOverflow}
use Rattle.changed_cells.proofs.Joining.{filter_most}
use Rattle.op_jobs.proofs.Listing.{tests_same}
use Rattle.op_jobs.proofs.Ranging.{position_none, position_wide}

-- ---- numbers in range

pos_narrow : (v : ℕ) → v ≤ greatest_value → is_wide (Some (pos v)) ≡ false
pos_narrow v l = ap not (in_range_from_magnitude (pos v) l)

all_narrow : (s : Size) (cells : Cells) → IsSize s → length cells ≡ cells_in s → ((i : ℕ) → i < cells_in s → is_wide (cell_at cells i) ≡ false) → position is_wide cells ≡ None
all_narrow s cells h n each = position_none s cells h n (λ i l m. each i l)

-- ---- spreading

cost_narrow : (s : Size) (sources friction : Cells) (limit i : ℕ) (c : Option ℤ) → limit ≤ greatest_value → IsSpreadCell s sources friction limit i c → is_wide c ≡ false
cost_narrow s sources friction limit i None l h = refl
cost_narrow s sources friction limit i (Some z) l h = ap (λ x. is_wide (Some x)) h.1 ∙ pos_narrow h.0 (omega (arith, l, h.3))

pub spread_narrow : (s : Size) (sources friction : Cells) (limit : ℕ) (cells : Cells) → IsSize s → limit ≤ greatest_value → IsSpread s sources friction limit cells → position is_wide cells ≡ None
spread_narrow s sources friction limit cells h l is = all_narrow s cells h is.full (λ i m. cost_narrow s sources friction limit i (cell_at cells i) l (is.each i m))

-- ---- nearest sources

number_narrow : (s : Size) (sources friction : Cells) (limit i : ℕ) (c : Option ℤ) → AreCells sources → IsNearestCell s sources friction limit i c → is_wide c ≡ false
number_narrow s sources friction limit i None are h = refl
number_narrow s sources friction limit i (Some z) are h = let begun = h.3.some in ap not (subst IsCell begun.3 (are.each (begins_at i begun.0)))

pub nearest_narrow : (s : Size) (sources friction : Cells) (limit : ℕ) (cells : Cells) → IsSize s → AreCells sources → AreNearest s sources friction limit cells → position is_wide cells ≡ None
nearest_narrow s sources friction limit cells h are is = all_narrow s cells h is.full (λ i m. number_narrow s sources friction limit i (cell_at cells i) are (is.each i m))

-- ---- regions

label_narrow : (s : Size) (cells : Cells) (i : ℕ) (c label : Option ℤ) → IsSize s → i < cells_in s → cell_at cells i ≡ c → IsLabelOf s cells i c label → is_wide label ≡ false
label_narrow s cells i None label h l e is = ap is_wide is
label_narrow s cells i (Some z) label h l e is =
    let first = is.2.least i ([], ((l, e), refl), omega (arith, l)) in
    ap is_wide is.1 ∙ pos_narrow (suc is.0) (omega (arith, first, l, h.most_cells))

pub regions_narrow : (s : Size) (cells labels : Cells) → IsSize s → AreRegions s cells labels → position is_wide labels ≡ None
regions_narrow s cells labels h are = all_narrow s labels h are.full (λ i m. label_narrow s cells i (cell_at cells i) (cell_at labels i) h m refl (are.each i m))

-- ---- flow

module _ (s : Size) (surface weights : Cells) (h : IsSize s) where
  flow_count : length (flow_grid s surface weights).cells ≡ cells_in s
  unfolding flow_grid
  flow_count = length-map-range_with_len (flow_at s surface weights) 0 (cells_in s)

  flow_cell : (i : ℕ) → i < cells_in s → cell_at (flow_grid s surface weights).cells i ≡ flow_at s surface weights i
  unfolding flow_grid
  flow_cell i l = get_or-map-range_with_len (flow_at s surface weights) 0 (cells_in s) i i None l (omega arith)

  pub flow_narrow : IsOverflow s surface weights None → position is_wide (flow_grid s surface weights).cells ≡ None
  flow_narrow none = all_narrow s (flow_grid s surface weights).cells h flow_count (λ i l. ap is_wide (flow_cell i l) ∙ none i l)

  pub flow_wide : (at : ℕ) → IsOverflow s surface weights (Some at) → position is_wide (flow_grid s surface weights).cells ≡ Some at
  flow_wide at w = position_wide s (flow_grid s surface weights).cells at h flow_count (record {
    within = w.within;
    wide = ap is_wide (flow_cell at w.within) ∙ w.wide;
    least = λ i l m. ap is_wide (flow_cell i (omega (arith, l, w.within))) ∙ w.least i l;
  })

-- ---- work

-- as many places have a number as a cost
both_shown : (s : Size) (sources friction : Cells) (limit i : ℕ) (c d : Option ℤ) → IsSpreadCell s sources friction limit i c → IsNearestCell s sources friction limit i d → is_some c ≡ is_some d
both_shown s sources friction limit i None None p q = refl
both_shown s sources friction limit i None (Some z) p q = let r = q.1.some in absurd (omega (arith, p r.0 r.1, r.2, q.2))
both_shown s sources friction limit i (Some z) None p q = let r = p.2.some in absurd (omega (arith, q r.0 r.1, r.2, p.3))
both_shown s sources friction limit i (Some z) (Some w) p q = refl

pub nearest_work : (s : Size) (sources friction : Cells) (limit : ℕ) (costs values : Cells) → IsSpread s sources friction limit costs → AreNearest s sources friction limit values → first_work s costs ≡ first_work s values
nearest_work s sources friction limit costs values spread nearest =
    ap (λ (js : List ℕ). cells_in s + length js)
    (tests_same (λ i. is_some (cell_at costs i)) (λ i. is_some (cell_at values i)) (cells_in s) (λ i l. both_shown s sources friction limit i (cell_at costs i) (cell_at values i) (spread.each i l) (nearest.each i l)))

module _ (s : Size) (before after : List Cells) where
  most : (p : ℕ → Bool) → length (filter p (places s)) ≤ cells_in s
  most p = omega (arith, filter_most p (places s), length-range_with_len 0 (cells_in s))

  further_most : (class : Class) (was now : Cells) → length (further_places class s before after was now) ≤ cells_in s
  further_most local_class was now = most _
  further_most class was now = most _

  less_if : (v : Bool) (n m : ℕ) → n < m → cond v n 0 < m
  less_if true n m l = l
  less_if false n m l = omega (arith, l)

  -- the work fits a tally
  pub work_little : (op : Op) (was : Option Cells) (now : Cells) → IsSize s → op_work op s before after was now < 2 ^ 32
  unfolding op_work
  work_little op None now h = less_if (has_work op) (first_work s now) (2 ^ 32) (omega (arith, most (λ i. is_some (cell_at now i)), h.most_cells))
  work_little op (Some was) now h =
      less_if (has_work op) (repair_work (class_of op) s before after was now) (2 ^ 32) (omega (arith, most (has_changed before after), further_most (class_of op) was now, h.most_cells))
