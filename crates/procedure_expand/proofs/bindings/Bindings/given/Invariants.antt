use Rattle.std.proofs.Common.{◌≡◌, take}
use Rattle.map_defs.specs.Bindings.{given_for}
use Rattle.statement_parser.specs.Views.{terms_view}
use Rattle.procedure_expand.specs.Flats.{bindings_view}
use Rattle.procedure_expand.proofs.bindings.Bindings.given.Given as goal

abbrev pub invariant-loop-at : goal.invariant-loop-at
invariant-loop-at l = bindings_view l.list.items ≡ given_for (take l.at l.takes) (terms_view (take l.at l.given))
