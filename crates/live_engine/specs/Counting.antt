-- How many flat statements of a kind there are.
use Rattle.std.specs.Prelude.{◌≡◌, ℕ, Bool, List, count_by, Option, Some, None, option_map}
use Rattle.map_defs.specs.Facts.{class_of}
use Rattle.statement_parser.specs.Views.{op_view}
use Rattle.procedure_expand.specs.declared.flat.Flat.{Flat}
use Rattle.map_edits.specs.Entries.{Entry}
use Rattle.map_edits.specs.LayerDefs.{layers}
use Rattle.map_edits.specs.Limits as limits
use Rattle.map_edits.specs.Limits.{any_kind, zonal_kind, nearest_kind, has_kind, kinds, first_beyond}
use Rattle.map_edits.specs.Refusals.{which_kind}
use Rattle.kept_map.specs.declared.maps.Item.{Item}
use Rattle.kept_map.specs.declared.maps.Item.TheVariants.{Source, Statement}
use Rattle.live_engine.specs.Accepts.{which_of}
use Rattle.live_engine.specs.declared.statement_limits.Kind.{Kind}
use Rattle.live_engine.specs.declared.statement_limits.Kind.TheVariants.{Any, Zonal, Neighbor}
use Rattle.live_engine.specs.declared.edits.Which.{Which}

abbrev pub kind_of : Kind → limits.Kind
kind_of Any = any_kind
kind_of Zonal = zonal_kind
kind_of Neighbor = nearest_kind

-- a flat statement of a kind
abbrev pub is_of : Kind → Flat → Bool
is_of kind f = has_kind (kind_of kind) (class_of (op_view f.op))

abbrev pub item_count : Kind → Item → ℕ
item_count kind Source = 0
item_count kind (Statement written flats) = count_by (is_of kind) flats.items

abbrev pub count_there : Kind → Option Item → ℕ
count_there kind None = 0
count_there kind (Some item) = item_count kind item

-- of what there are too many
abbrev pub IsBeyond : List Entry → Option Which → Type 0
IsBeyond es which = option_map which_of which ≡ option_map which_kind (first_beyond kinds (layers es))
