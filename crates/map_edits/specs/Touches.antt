-- What an edit touches: all that stands for a name, or a rectangle of a source.
use Rattle.std.specs.Prelude.{ℕ, Bool, false, ◌&&◌, List, [], filter, bytes_eq, if◌then◌else◌}
use Rattle.std.specs.List.{list_any}
use Rattle.map_nums.specs.Grids.{Size}
use Rattle.map_nums.specs.Tiles.{tiles}
use Rattle.map_defs.specs.Ops.{Name}
use Rattle.map_defs.specs.Differences.{tile_has}
use Rattle.map_edits.specs.Entries.{Entry}
use Rattle.map_edits.specs.LayerDefs.{LayerDef, layers_of}
pub use Rattle.map_edits.specs.EditForms.{Touch, nothing, whole, within}
use Rattle.map_edits.specs.EditForms.{Edit, paint, edited}
use Rattle.map_edits.specs.Painting.{holds}
use Rattle.map_edits.specs.WholeEdits.{WholeEdit, of_names, put_back}

abbrev pub touch_of_names : Edit → Touch
touch_of_names (paint n r cell) = within n r
touch_of_names edit = whole (edited edit)

-- an edit and its undoing touch the same; what isn't there afterwards doesn't count
abbrev pub touch_of : WholeEdit → Touch
touch_of (of_names edit) = touch_of_names edit
touch_of (put_back p) = p.touch
touch_of e = nothing

-- layer n is one of those that stand for name m
abbrev pub stands_for : List Entry → Name → Name → Bool
stands_for entries m n = list_any (λ (e : Entry). bytes_eq e.name m && list_any (λ (l : LayerDef). bytes_eq l.name n) (layers_of e)) entries

-- all of layer n is touched
abbrev pub is_whole : List Entry → Touch → Name → Bool
is_whole entries (whole m) n = stands_for entries m n
is_whole entries nothing n = false
is_whole entries (within m r) n = false

-- the tiles of source n that are touched
abbrev pub source_damage : Size → Touch → Name → List ℕ
source_damage size nothing n = []
source_damage size (whole m) n = if bytes_eq m n then tiles size else []
source_damage size (within m r) n = if bytes_eq m n then filter (tile_has size (holds size r)) (tiles size) else []
