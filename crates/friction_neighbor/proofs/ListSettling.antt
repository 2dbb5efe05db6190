-- What is done with one place that is taken out of the queue, where values are in a list.
use Rattle.std.proofs.Common.{◌≡◌, ℕ, ◌+◌, ◌<◌, ◌≤◌, ℤ, true, List, [], ◌∷◌, length, get_or, Option, None, refl, sym, ◌∙◌, ap, subst, arith, inl, inr}
use Rattle.std.specs.Prelude.{◌⊎◌}
use Rattle.std.specs.List.{All}
use Rattle.std.specs.List.Sorted.{IsPermutation}
use Rattle.std.proofs.lemmas.Bool.{cases_lt, cases_eq}
use Rattle.std.proofs.lemmas.List.{get_or_default}
use Rattle.map_nums.specs.Grids.{Cells, cell_at, cells_in, row_of, column_of}
use Rattle.map_defs.specs.Nearest.{StepsTo}
use Rattle.layer_tiles.specs.Cells.{IsCell, AreCells}
use Rattle.tile_work.specs.PlaceSets.{PlaceSetState}
use Rattle.changed_cells.proofs.Joining.{differs_is}
use Rattle.friction_spread.specs.Costs.{net_of}
use Rattle.friction_spread.proofs.Grounds.{net_costs}
use Rattle.friction_spread.specs.declared.ground.Spot.{Spot}
use Rattle.friction_neighbor.specs.Fields.{FieldState, IsField, cost_at, own_at}
use Rattle.friction_neighbor.specs.Joins.{IsListRepair, IsListDealt}
use Rattle.friction_neighbor.specs.Puts.{is_marked, ArePut, IsMarkedFrom}
use Rattle.friction_neighbor.specs.Repairs.{wanted_at, IsValueRepair}
use Rattle.friction_spread.specs.Spots.{IsSpot}
use Rattle.friction_neighbor.specs.Views.{ViewState}
use Rattle.friction_neighbor.proofs.Agreeing.{wanted_agree}
use Rattle.friction_neighbor.proofs.Places.{only_spot, steps_near}
use Rattle.friction_neighbor.proofs.Righting.{step_lower, mended}
use Rattle.friction_neighbor.proofs.Settling.{place_within, key_is, left_waiting, no_lower, left_or, all_wanted}

-- ---- cells that are read

pub cell_read : (values : Cells) (n i : ℕ) (c : Option ℤ) → length values ≡ n → i < n → c ≡ get_or values i c → c ≡ cell_at values i
cell_read values n i c e l h = h ∙ get_or_default values i c None (omega (arith, e, l))

-- ---- rows that come into the queue

pub line_marked_next : (f : FieldState) (a b : List (ℕ × ℕ)) (x y : PlaceSetState) (row k : ℕ) (p : Spot) → ArePut f a x b y → IsSpot f.ground.size p → p.row ≡ row → p.column ≡ k → IsMarkedFrom f 0 y p.at
    → ((i : ℕ) → i < cells_in f.ground.size → row_of f.ground.size i ≡ row → column_of f.ground.size i < k → is_marked x i ≡ true)
    → (i : ℕ) → i < cells_in f.ground.size → row_of f.ground.size i ≡ row → column_of f.ground.size i < k + 1 → is_marked y i ≡ true
line_marked_next f a b x y row k p put h r e here line i l q m = elim (cases_lt (column_of f.ground.size i) k) as (λ _. is_marked y i ≡ true) [
  | inl u ↦ put.marked i (line i l q u)
  | inr u ↦ (let same : i ≡ p.at = only_spot f.ground.size p i h (q ∙ sym r) (omega (arith, m, u, e)) in ap (is_marked y) same ∙ here (omega arith))
]

-- ---- one entry

-- as if there had been the same costs before
abbrev still : FieldState → ViewState
still f = record { field = f; was = f.costs }

as_repair : (f : FieldState) (old values : Cells) (seen : PlaceSetState) (entries : List (ℕ × ℕ)) → IsListRepair f old values seen entries → IsValueRepair (still f) old values seen entries
as_repair f old values seen entries h = record { size = h.size; waiting = h.waiting; mending = h.mending; round = λ i l e. absurd (differs_is f.costs f.costs i e refl) }

module _ (f : FieldState) (field : IsField f) (old values : Cells) (seen : PlaceSetState) (entries left : List (ℕ × ℕ)) (key at : ℕ) (now : IsListRepair f old values seen entries) (popped : IsPermutation entries ((key, at) ∷ left)) (lowest : All (λ (y : ℕ × ℕ). key ≤ y.0) entries) where
  viewed : IsValueRepair (still f) old values seen entries
  viewed = as_repair f old values seen entries now

  pub entry_within : at < cells_in f.ground.size
  entry_within = place_within (still f) field old values seen entries left key at viewed popped lowest

  pub entry_key : key ≡ cost_at f at
  entry_key = key_is (still f) field old values seen entries left key at viewed popped lowest

  module _ (values' : Cells) (seen' : PlaceSetState) (entries' : List (ℕ × ℕ)) (count : length values' ≡ length values) (did : IsListDealt f at values values' left seen entries' seen') where
    still_cells : AreCells values'
    still_cells = record {
      each = λ i. let P : Option ℤ → Type 0 = IsCell in elim (cases_eq i at) as (λ _. IsCell (cell_at values' i)) [
        | inl e ↦ subst P (sym (ap (cell_at values') e ∙ did.here)) did.cell
        | inr n ↦ subst P (sym (did.other i n)) (now.cells.each i)
      ];
    }

    behind : (cell_at values at ≡ did.value) ⊎ ((k : ℕ) → StepsTo (net_of f.ground) (cost_at f) at k → is_marked seen' k ≡ true)
    behind = elim did.behind as (λ _. (cell_at values at ≡ did.value) ⊎ ((k : ℕ) → StepsTo (net_of f.ground) (cost_at f) at k → is_marked seen' k ≡ true)) [
      | inl e ↦ inl e
      | inr m ↦ inr (λ k s. let h = steps_near f field at k s in m k h.to h.rows h.columns (step_lower (net_of f.ground) (net_costs f.ground) (cost_at f) (own_at f) at k s))
    ]

    pub list_dealt_on : IsListRepair f old values' seen' entries'
    list_dealt_on = record {
      size = did.put.size ∙ now.size;
      count = count ∙ now.count;
      cells = still_cells;
      waiting = did.put.each (left_waiting (still f) field old values seen entries left key at viewed popped lowest);
      mending = mended (net_of f.ground) (net_costs f.ground) (cost_at f) (own_at f) (wanted_at f) (wanted_agree f field) (cell_at old) (cell_at values) (is_marked seen) entries left at did.value now.mending
          (no_lower (still f) field old values seen entries left key at viewed popped lowest) (left_or (still f) field old values seen entries left key at viewed popped lowest)
          did.least (cell_at values') (is_marked seen') entries' did.here did.other did.put.kept did.put.entered behind;
    }

pub list_wanted : (f : FieldState) → IsField f → (old values : Cells) (seen : PlaceSetState) (entries : List (ℕ × ℕ)) → entries ≡ [] → IsListRepair f old values seen entries → (i : ℕ) → cell_at values i ≡ wanted_at f i
list_wanted f field old values seen entries e h = all_wanted (still f) field old values seen entries e (as_repair f old values seen entries h)
