-- Laws of the stamps of a layer that is put in place.
use Rattle.std.specs.Prelude.{◌≡◌, ℕ, List, Some, None}
use Rattle.map_nums.specs.Grids.{IsSize, Cells}
use Rattle.map_defs.specs.Ops.{Name}
use Rattle.layer_tiles.specs.Layers.{IsStamped, layer_of}
use Rattle.map_edits.specs.WholeStates.{WholeState, cells_of, stamps_of}
use Rattle.map_edits.specs.StampsAfter.{stamps_at}

-- where a layer stood before, its stamps are those of the state after
abbrev pub OldIsStamped : Type 0
OldIsStamped = (s t : WholeState) (n : Name) (was now : Cells) (old new : List ℕ) → IsSize t.names.size → cells_of s.names n ≡ Some was → cells_of t.names n ≡ Some now → stamps_of s.stamps n ≡ Some old
    → IsStamped t.names.size was now t.names.number old new → new ≡ stamps_at s t n

-- and where it was undefined
abbrev pub NewIsStamped : Type 0
NewIsStamped = (s t : WholeState) (n : Name) (now : Cells) → cells_of s.names n ≡ None → (layer_of t.names.size now t.names.number).stamps ≡ stamps_at s t n
