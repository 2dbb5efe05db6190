use Rattle.std.proofs.Common.{sym, subst}
use Rattle.statement_parser.specs.Formed.{IsRequest}
use Rattle.statement_parser.specs.Lines.{ask_branches}
use Rattle.statement_parser.specs.Views.{branches_view, request_view}
use Rattle.statement_parser.specs.declared.line.Request.{Request}
use Rattle.map_session.proofs.answers.Asked.answer.Goals as goal

pub branches-requires-clause-formed : goal.branches-requires-clause-formed
branches-requires-clause-formed g c κs within =
    let at = subst (λ (r : Request). IsRequest (request_view r)) c.in-Branch.is c.requires.formed in
    subst (λ bs. IsRequest (ask_branches (branches_view bs))) (sym c.deref.ensures.value) at
