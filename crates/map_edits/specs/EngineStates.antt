-- The state that the engine keeps of the map machine, and the grid of each layer. It keeps no grid of a statement.
use Rattle.std.specs.Prelude.{ℕ, zero, suc, List, [], map, length, Option, Some, None, option_map}
use Rattle.map_nums.specs.Grids.{Size, Cells, Grid, constant}
pub use Rattle.map_nums.specs.Options.{all_some}
use Rattle.map_defs.specs.Ops.{Name, Term, layer_term, number_term}
use Rattle.map_defs.specs.Operate.{operate}
use Rattle.map_edits.specs.Entries.{Entry}
use Rattle.map_edits.specs.LayerDefs.{Making, given_grid, by_op, LayerDef, layers, find_making}

pub record EngineState : Type 0 where
  pub size : Size
  -- in order of place: that of the first definition
  pub entries : List Entry
  -- how many edits were accepted
  pub number : ℕ

abbrev pub no_entries : Size → EngineState
no_entries size = record { size = size; entries = []; number = 0 }

-- a number is the grid that holds it everywhere
abbrev pub term_cells : Size → (Name → Option Grid) → Term → Option Cells
term_cells size grid_of (layer_term n) = option_map (λ (g : Grid). g.cells) (grid_of n)
term_cells size grid_of (number_term z) = Some (constant size (Some z)).cells

-- the grid of a layer, by the grids of the layers that it reads
abbrev pub made : Size → (Name → Option Grid) → Option Making → Option Grid
made size grid_of None = None
made size grid_of (Some (given_grid grid)) = Some grid
made size grid_of (Some (by_op op)) = option_map (operate size op) (all_some (map (term_cells size grid_of) op.terms))

-- through at most k statements
abbrev pub value_within : ℕ → Size → List LayerDef → Name → Option Grid
value_within zero size ls n = None
value_within (suc k) size ls n = made size (value_within k size ls) (find_making ls n)

-- the grid of a layer; none where it is undefined or isn't there. No statement reads itself, so no more steps are needed than there are layers
unfoldable pub value_of : EngineState → Name → Option Grid
value_of s n = value_within (suc (length (layers s.entries))) s.size (layers s.entries) n
