-- Flat statements and bindings, without where they lie in memory.
use Rattle.std.specs.Prelude.{List, map}
use Rattle.map_defs.specs.Statements as statements
use Rattle.map_defs.specs.Bindings as meant
use Rattle.statement_parser.specs.Views.{term_view, op_view}
use Rattle.procedure_expand.specs.declared.flat.Flat.{Flat}
use Rattle.procedure_expand.specs.declared.bindings.Binding.{Binding}
use Rattle.procedure_expand.specs.declared.bindings.Bindings.{Bindings}

abbrev pub flat_view : Flat → statements.Flat
flat_view f = record { name = f.name; op = op_view f.op }

abbrev pub flats_view : List Flat → List statements.Flat
flats_view fs = map flat_view fs

abbrev pub binding_view : Binding → meant.Binding
binding_view b = record { name = b.name; term = term_view b.term }

abbrev pub bindings_view : List Binding → List meant.Binding
bindings_view bs = map binding_view bs

abbrev pub bound_view : Bindings → List meant.Binding
bound_view b = bindings_view b.list.items
