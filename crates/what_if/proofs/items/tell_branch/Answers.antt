use Rattle.std.proofs.Common.{subst}
use Rattle.std.specs.Prelude.{IfOk}
use Rattle.statement_parser.specs.Views.{items_view}
use Rattle.map_edits.specs.WholeStates.{WholeState}
use Rattle.what_if.specs.Tried.{AreTold}
use Rattle.what_if.proofs.items.tell_branch.Goals as goal

pub returns-clause-told : goal.returns-clause-told
returns-clause-told g c = subst (λ (w : WholeState). IfOk c.tell_all.result (λ told. AreTold w (items_view c.args.items.now) told.items)) c.in_ok-engine.ensures c.tell_all.ensures.told
