-- The names after an edit, or the first refusal of its row; faults apart.
use Rattle.std.specs.Prelude.{ℤ, nat_lt, Bool, ◌&&◌, ◌==◌, List, count_by, Option, Some, None, is_some, Result, Ok, Err, if◌then◌else◌}
use Rattle.map_nums.specs.Grids.{Size, Grid, constant}
use Rattle.map_defs.specs.Ops.{Name}
use Rattle.map_defs.specs.Statements.{Flat, Written, Procedure}
use Rattle.map_defs.specs.Expansion.{WrongCall, not_defined, wrong_count, expansion_of}
use Rattle.map_defs.specs.Depths.{is_looped}
use Rattle.map_edits.specs.Entries.{Def, source, statement, Entry, find_def, put_entry, drop_entry}
use Rattle.map_edits.specs.LayerDefs.{layers, nodes_of}
use Rattle.map_edits.specs.EngineStates.{EngineState}
use Rattle.map_edits.specs.EditForms.{Rectangle, Edit, load, new_layer, paint, define, drop_name}
use Rattle.map_edits.specs.Refusals.{sources, which_kind, Refusal, unknown, is_derived, exists_already, wrong_size, beyond, cycle, no_procedure, wrong_terms}
use Rattle.map_edits.specs.Limits.{most_sources, is_source, Kind, kinds, first_beyond}
use Rattle.map_edits.specs.Painting.{is_within, painted}

abbrev pub same_size : Size → Size → Bool
same_size s t = (s.rows == t.rows) && (s.columns == t.columns)

abbrev pub add_source : List Entry → Name → Grid → Result (List Entry) Refusal
add_source entries n grid = if nat_lt (count_by is_source entries) most_sources then Ok (put_entry entries n (source grid)) else Err (beyond sources)

abbrev pub paint_source : EngineState → Name → Rectangle → Option ℤ → Option Def → Result (List Entry) Refusal
paint_source s n r cell None = Err (unknown n)
paint_source s n r cell (Some (statement written flats)) = Err (is_derived n)
paint_source s n r cell (Some (source grid)) = if is_within s.size r then Ok (put_entry s.entries n (source (painted s.size r cell grid))) else Err (wrong_size s.size)

-- a statement was put among the entries: the limits, then a cycle
abbrev pub unless_beyond : Name → List Entry → Option Kind → Result (List Entry) Refusal
unless_beyond n entries (Some kind) = Err (beyond (which_kind kind))
unless_beyond n entries None = if is_looped (nodes_of entries) n then Err (cycle n) else Ok entries

abbrev pub bounded : Name → List Entry → Result (List Entry) Refusal
bounded n entries = unless_beyond n entries (first_beyond kinds (layers entries))

abbrev pub put_statement : List Entry → Name → Written → Result (List Flat) WrongCall → Result (List Entry) Refusal
put_statement entries n written (Err (not_defined p)) = Err (no_procedure p)
put_statement entries n written (Err (wrong_count given wanted)) = Err (wrong_terms given wanted)
put_statement entries n written (Ok flats) = bounded n (put_entry entries n (statement written flats))

abbrev pub define_with : List Procedure → List Entry → Name → Written → Option Def → Result (List Entry) Refusal
define_with ps entries n written (Some (source grid)) = Err (exists_already n)
define_with ps entries n written (Some (statement w flats)) = put_statement entries n written (expansion_of ps n written)
define_with ps entries n written None = put_statement entries n written (expansion_of ps n written)

-- a statement may call these procedures
abbrev pub entries_with : List Procedure → EngineState → Edit → Result (List Entry) Refusal
entries_with ps s (load n grid) =
    if is_some (find_def s.entries n) then Err (exists_already n) else (if same_size grid.size s.size then add_source s.entries n grid else Err (wrong_size s.size))
entries_with ps s (new_layer n cell) = if is_some (find_def s.entries n) then Err (exists_already n) else add_source s.entries n (constant s.size cell)
entries_with ps s (paint n r cell) = paint_source s n r cell (find_def s.entries n)
entries_with ps s (define n written) = define_with ps s.entries n written (find_def s.entries n)
entries_with ps s (drop_name n) = if is_some (find_def s.entries n) then Ok (drop_entry s.entries n) else Err (unknown n)
