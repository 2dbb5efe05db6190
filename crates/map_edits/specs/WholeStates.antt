-- The whole state of the map machine: the names, and beside them procedures, labels, symbols and stamps. It keeps no grid of a statement.
use Rattle.std.specs.Prelude.{ℕ, List, [], find, Option, option_map, bytes_eq}
use Rattle.map_nums.specs.Grids.{Size, Cells, Grid}
use Rattle.map_defs.specs.Ops.{Name}
use Rattle.map_defs.specs.Statements.{Procedure}
use Rattle.map_edits.specs.EngineStates.{EngineState, no_entries, value_of}
use Rattle.map_edits.specs.Marks.{Mark}

-- of each tile of a layer the number of the last edit that changed it
pub record Stamps : Type 0 where
  pub name : List ℕ
  pub stamps : List ℕ

pub record WholeState : Type 0 where
  -- sources and statements, the size, and how many edits were accepted
  pub names : EngineState
  -- in order of definition
  pub procedures : List Procedure
  pub labels : List Mark
  pub symbols : List Mark
  -- of the layers that are defined, in order of place
  pub stamps : List Stamps

abbrev pub no_names : Size → WholeState
no_names size = record { names = no_entries size; procedures = []; labels = []; symbols = []; stamps = [] }

-- the cells of a layer; none where it is undefined or isn't there
abbrev pub cells_of : EngineState → Name → Option Cells
cells_of s n = option_map (λ (g : Grid). g.cells) (value_of s n)

abbrev pub stamps_of : List Stamps → Name → Option (List ℕ)
stamps_of all n = option_map (λ (l : Stamps). l.stamps) (find (λ (l : Stamps). bytes_eq l.name n) all)
