-- The layers of a state: the sources and the flat statements, in order of place.
use Rattle.std.specs.Prelude.{ℕ, List, [], ◌∷◌, map, find, flat_map, Option, Some, None, option_map, bytes_eq}
use Rattle.map_nums.specs.Grids.{Grid}
use Rattle.map_defs.specs.Ops.{Name, Op, needs_of}
use Rattle.map_defs.specs.Statements.{Flat}
use Rattle.map_defs.specs.Nodes.{Node}
use Rattle.map_edits.specs.Entries.{Def, source, statement, Entry}

pub data Making : Type 0 where
  given_grid : Grid → Making
  by_op : Op → Making

pub record LayerDef : Type 0 where
  pub name : List ℕ
  pub making : Making

abbrev pub flat_layer : Flat → LayerDef
flat_layer f = record { name = f.name; making = by_op f.op }

abbrev pub layers_of : Entry → List LayerDef
layers_of e = of_def e.name e.def
  where
    of_def : Name → Def → List LayerDef
    of_def n (source grid) = record { name = n; making = given_grid grid } ∷ []
    of_def n (statement written flats) = map flat_layer flats

abbrev pub layers : List Entry → List LayerDef
layers entries = flat_map layers_of entries

abbrev pub find_making : List LayerDef → Name → Option Making
find_making ls n = option_map (λ (l : LayerDef). l.making) (find (λ (l : LayerDef). bytes_eq l.name n) ls)

abbrev pub node_of_layer : LayerDef → Node
node_of_layer l = of_making l.name l.making
  where
    of_making : Name → Making → Node
    of_making n (given_grid grid) = record { name = n; needs = None }
    of_making n (by_op op) = record { name = n; needs = Some (needs_of op) }

-- the layers by the names that they read
abbrev pub nodes_of : List Entry → List Node
nodes_of entries = map node_of_layer (layers entries)
