-- A statement that is put among the names of a map.
use Rattle.std.specs.Prelude.{List}
use Rattle.map_defs.specs.Ops.{Name}
use Rattle.statement_parser.specs.Views.{written_view}
use Rattle.statement_parser.specs.declared.line.Written.{Written}
use Rattle.procedure_expand.specs.declared.flat.Flat.{Flat}
use Rattle.procedure_expand.specs.Flats.{flats_view}
use Rattle.statement_graph.specs.Groups.{Group, put_group}
use Rattle.statement_graph.specs.declared.refusal.GraphRefusal.{GraphRefusal}
use Rattle.statement_graph.specs.declared.refusal.GraphRefusal.TheVariants as puts
use Rattle.map_edits.specs.Entries.{statement, Entry, put_entry}
use Rattle.map_edits.specs.EditForms.{define}
use Rattle.map_edits.specs.WholeEdits.{WholeEdit, of_names}
use Rattle.kept_map.specs.Groups.{statement_nodes}
use Rattle.kept_map.specs.Maps.{entries_in}
use Rattle.kept_map.specs.declared.maps.KeptMap.{KeptMap}
use Rattle.live_engine.specs.declared.edits.Refusal.{Refusal}
use Rattle.live_engine.specs.declared.edits.Refusal.TheVariants.{Cycle, NoMemory}

abbrev pub defines : Name → Written → WholeEdit
defines n written = of_names (define n (written_view written))

-- the entries with the statement
abbrev pub entries_with_it : KeptMap → Name → Written → List Flat → List Entry
entries_with_it m n written flats = put_entry (entries_in m) n (statement (written_view written) (flats_view flats))

-- the graph with it
abbrev pub groups_with_it : KeptMap → Name → List Flat → List Group
groups_with_it m n flats = put_group m.graph n (statement_nodes (flats_view flats))

-- why the graph doesn't take a statement of this name, as a refusal of the edit
abbrev pub not_put : Name → GraphRefusal → Refusal
not_put n puts.Cycle = Cycle n
not_put n puts.NoMemory = NoMemory
