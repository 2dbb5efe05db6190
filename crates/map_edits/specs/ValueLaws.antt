-- Laws of values: more steps change nothing, and an edit changes only what reads what it edits.
use Rattle.std.specs.Prelude.{◌≡◌, false, not, length, Ok, is_some}
use Rattle.map_nums.specs.Grids.{Size}
use Rattle.map_defs.specs.Ops.{Name}
use Rattle.map_defs.specs.Nodes.{lacks}
use Rattle.map_defs.specs.Depths.{reaches}
use Rattle.map_defs.specs.FlatNames.{IsInside}
use Rattle.map_edits.specs.LayerDefs.{layers, find_making, nodes_of}
use Rattle.map_edits.specs.EngineStates.{EngineState, made, value_of}
use Rattle.map_edits.specs.EditForms.{Edit, edited}
use Rattle.map_edits.specs.Laws.{HasNoCycle}
use Rattle.map_edits.specs.WholeStates.{WholeState, no_names}
use Rattle.map_edits.specs.WholeEdits.{of_names}
use Rattle.map_edits.specs.Counted.{Accepted, accept_counted}
use Rattle.map_edits.specs.GroupLaws.{IsLawful, IsPlainEdit}

-- a layer's grid by the grids of its operands
abbrev pub ValueIsMade : Type 0
ValueIsMade = (s : EngineState) (n : Name) → HasNoCycle (nodes_of s.entries) → value_of s n ≡ made s.size (value_of s) (find_making (layers s.entries) n)

-- a layer has a grid exactly where it lacks no name
abbrev pub DefinedLacksNone : Type 0
DefinedLacksNone = (s : EngineState) (n : Name) → HasNoCycle (nodes_of s.entries) → is_some (value_of s n) ≡ not (is_some (lacks (nodes_of s.entries) n))

-- a layer that doesn't reach the edited name, and isn't one of its flat statements, keeps its grid
abbrev pub OthersKeepValues : Type 0
OthersKeepValues = (s : WholeState) (edit : Edit) (a : Accepted) (m : Name) → IsLawful s → IsPlainEdit edit → accept_counted s (of_names edit) ≡ Ok a
    → (IsInside (edited edit) m → ⊥) → reaches (length (nodes_of s.names.entries)) (nodes_of s.names.entries) (edited edit) m ≡ false → value_of a.state.names m ≡ value_of s.names m

abbrev pub NoneIsLawful : Type 0
NoneIsLawful = (size : Size) → IsLawful (no_names size)
