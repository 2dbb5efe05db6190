-- Items and steps without where they lie in memory, as a copy has them.
use Rattle.std.specs.Prelude.{ℕ, Bool, List, map, Option, Some, None}
use Rattle.map_nums.specs.Grids.{Size}
use Rattle.map_defs.specs.Ops.{Name, Op}
use Rattle.map_defs.specs.Statements.{Procedure, Written, Flat}
use Rattle.layer_tiles.specs.Layers.{LayerState}
use Rattle.statement_graph.specs.Groups.{Group}
use Rattle.statement_parser.specs.Views.{op_view, written_view}
use Rattle.statement_parser.specs.declared.op.Op.{Op as Given}
use Rattle.procedure_expand.specs.Flats.{flats_view}
use Rattle.map_edits.specs.Marks.{Mark}
use Rattle.map_waves.specs.declared.keeping.Kept.{Kept}
use Rattle.map_waves.specs.declared.plans.Ref.{Ref}
use Rattle.map_waves.specs.declared.plans.Step.{Step}
use Rattle.op_jobs.specs.declared.beside.Beside.{Beside}
use Rattle.kept_map.specs.declared.maps.Item.{Item}
use Rattle.kept_map.specs.declared.maps.Item.TheVariants.{Source, Statement}
use Rattle.kept_map.specs.declared.maps.KeptMap.{KeptMap}

-- a statement, and the flat statements that it stands for
pub record StatementView : Type 0 where
  pub written : Written
  pub flats : List Flat

-- a source is none
abbrev pub item_view : Item → Option StatementView
item_view Source = None
item_view (Statement written flats) = Some (record { written = written_view written; flats = flats_view flats.items })

abbrev pub named_view : List ℕ × Item → List ℕ × Option StatementView
named_view e = (e.0, item_view e.1)

abbrev pub items_view : List (List ℕ × Item) → List (List ℕ × Option StatementView)
items_view es = map named_view es

-- a step of a plan
pub record StepView : Type 0 where
  pub op : Op
  pub refs : List Ref
  pub depth : ℕ
  pub kept : Option ℕ
  pub written : Bool

abbrev pub step_view : Step Given → StepView
step_view x = record { op = op_view x.op; refs = x.refs.items; depth = x.depth; kept = x.kept; written = x.written }

abbrev pub steps_view : List (Step Given) → List StepView
steps_view xs = map step_view xs

-- ---- a whole map

pub record MapView : Type 0 where
  pub size : Size
  pub items : List (List ℕ × Option StatementView)
  pub graph : List Group
  pub sources : List Name
  pub layers : List LayerState
  pub planned : List Name
  pub steps : List StepView
  pub kept : List (Kept Beside)
  pub procedures : List Procedure
  pub labels : List Mark
  pub symbols : List Mark
  pub number : ℕ

abbrev pub map_view : KeptMap → MapView
map_view m = record {
  size = m.extent;
  items = items_view m.names.entries;
  graph = m.graph;
  sources = m.sources.names.keys;
  layers = m.sources.layers.items;
  planned = m.planned.names.keys;
  steps = steps_view m.planned.steps.items;
  kept = m.kept.items;
  procedures = m.procedures;
  labels = m.labels;
  symbols = m.symbols;
  number = m.number;
}
