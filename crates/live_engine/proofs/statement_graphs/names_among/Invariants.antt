use Rattle.std.proofs.Common.{◌≡◌, take, flat_map}
use Rattle.map_defs.specs.Ops.{term_names}
use Rattle.statement_parser.specs.Views.{terms_view}
use Rattle.live_engine.proofs.statement_graphs.names_among.Given as goal

-- the names of the terms so far
abbrev pub invariant-loop-term : goal.invariant-loop-term
invariant-loop-term l = l.names.items ≡ flat_map term_names (terms_view (take l.term-index l.terms))
