use Rattle.std.proofs.Common.{◌≡◌, map, take}
use Rattle.statement_parser.specs.Views.{terms_view}
use Rattle.statement_parser.proofs.substitution.terms_with.Given as goal

abbrev pub invariant-loop-term : goal.invariant-loop-term
invariant-loop-term g l = terms_view l.replaced.items ≡ map (g.S.Substitution.becomes l.by) (terms_view (take l.term-index l.terms))
