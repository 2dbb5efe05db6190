-- What is told of a layer.
use Rattle.std.specs.Prelude.{◌≡◌, Some, None, option_map, Result, Ok, Err}
use Rattle.std.specs.Borrow.{Bor}
use Rattle.map_defs.specs.Ops.{Name}
use Rattle.map_defs.specs.Nodes.{missing}
use Rattle.layer_tiles.specs.Layers.{LayerState}
use Rattle.map_edits.specs.LayerDefs.{nodes_of}
use Rattle.map_edits.specs.EngineStates.{value_of}
use Rattle.map_edits.specs.WholeStates.{WholeState, stamps_of}
use Rattle.kept_map.specs.Maps.{grid_of}
use Rattle.kept_map.specs.declared.reads.Missing.{Missing}

-- the layer with the name's grid and its stamps; exactly where it has none, the first missing name, none where the name itself isn't there
abbrev pub TellsLayer : WholeState → Name → Result (Bor LayerState) Missing → Type 0
TellsLayer s n (Ok layer) = (value_of s.names n ≡ Some (grid_of layer.now)) × (stamps_of s.stamps n ≡ Some layer.now.stamps)
TellsLayer s n (Err m) = (value_of s.names n ≡ None) × (missing (nodes_of s.names.entries) n ≡ option_map (λ b. b.now) m.name)
