use Rattle.std.proofs.Common.{subst, sym}
use Rattle.statement_parser.specs.Gives.{Gives}
use Rattle.statement_parser.specs.ReadBodies.{operation_at}
use Rattle.statement_parser.specs.ScopeViews.{scope_of}
use Rattle.statement_parser.specs.Views.{op_view, texts_of, manner_of}
use Rattle.statement_parser.specs.declared.operation.Operation.{Operation}
use Rattle.statement_parser.proofs.bodies.operation.Goals as goal

pub returns-in-Proximity : goal.returns-in-Proximity
returns-in-Proximity c =
    subst (λ (o : Operation). Gives (λ x. (op_view x.0, texts_of x.1.now)) c.spread.result (operation_at (scope_of c.args.scope.now) (manner_of c.args.rows.now) o (texts_of c.args.words.now))) (sym c.in-Proximity.is)
    (c.spread.ensures (manner_of c.args.rows.now))

pub returns-in-Neighbor : goal.returns-in-Neighbor
returns-in-Neighbor c =
    subst (λ (o : Operation). Gives (λ x. (op_view x.0, texts_of x.1.now)) c.neighbor.result (operation_at (scope_of c.args.scope.now) (manner_of c.args.rows.now) o (texts_of c.args.words.now))) (sym c.in-Neighbor.is)
    (c.neighbor.ensures (manner_of c.args.rows.now))
