-- What differs after an edit: cells, tiles, zones.
use Rattle.std.specs.Prelude.{ℕ, ◌==◌, Bool, false, not, ◌||◌, List, filter, zip, ℤ, Option, Some, None}
use Rattle.std.specs.List.{list_any}
use Rattle.map_nums.specs.declared.Stat.{Stat}
use Rattle.map_nums.specs.Grids.{Size, Cells, cell_at, places}
use Rattle.map_nums.specs.Tiles.{tiles, tile_of}
use Rattle.map_defs.specs.Cells.{same_cell}
use Rattle.map_defs.specs.Zonal.{zone_statistic}
use Rattle.map_defs.specs.Rounds.{spread_grid}
use Rattle.map_defs.specs.Operate.{operand}
use Rattle.map_defs.specs.Tiles.{is_in_square}

abbrev pub differs : Cells → Cells → ℕ → Bool
differs before after i = not (same_cell (cell_at before i) (cell_at after i))

-- a cell of an operand at place i changed
abbrev pub has_changed : List Cells → List Cells → ℕ → Bool
has_changed before after i = list_any (λ p. differs p.0 p.1 i) (zip before after)

-- tile t has a place that passes
abbrev pub tile_has : Size → (ℕ → Bool) → ℕ → Bool
tile_has s test t = list_any (λ i. tile_of s i == t) (filter test (places s))

-- the square of tile t, grown by r, has one
abbrev pub square_has : ℕ → Size → (ℕ → Bool) → ℕ → Bool
square_has r s test t = list_any (is_in_square r s t) (filter test (places s))

-- a zone has another statistic than before
abbrev pub zone_differs : Stat → Size → List Cells → List Cells → Option ℤ → Bool
zone_differs stat s before after None = false
zone_differs stat s before after (Some z) = not (same_cell (zone_statistic stat s (operand before 0) (operand before 1) z) (zone_statistic stat s (operand after 0) (operand after 1) z))

-- of the zone that place i has after the edit
abbrev pub zone_differs_at : Stat → Size → List Cells → List Cells → ℕ → Bool
zone_differs_at stat s before after i = zone_differs stat s before after (cell_at (operand after 1) i)

-- the least costs, no greater than the limit, that the operands give
abbrev pub costs_by : ℕ → Size → List Cells → Cells
costs_by limit s operands = (spread_grid limit s (operand operands 0) (operand operands 1)).cells

-- place i has another least cost than before, or another cell
abbrev pub cost_or_cell_differs : ℕ → Size → List Cells → List Cells → Cells → Cells → ℕ → Bool
cost_or_cell_differs limit s before after was now i = differs (costs_by limit s before) (costs_by limit s after) i || differs was now i

-- the tiles of a layer that changed; `was` is none where it was undefined
unfoldable pub changed_tiles : Size → Option Cells → Cells → List ℕ
changed_tiles s None now = tiles s
changed_tiles s (Some was) now = filter (tile_has s (differs was now)) (tiles s)
