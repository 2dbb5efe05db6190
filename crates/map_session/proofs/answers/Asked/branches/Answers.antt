use Rattle.std.proofs.Common.{ap, ◌∙◌}
use Rattle.statement_parser.specs.Views.{branches_view}
use Rattle.map_session.specs.BranchTexts.{branches_text}
use Rattle.map_session.proofs.BranchSteps.{branches_tellable, branches_said}
use Rattle.map_session.proofs.answers.Asked.branches.Goals as goal

pub branches_reply-requires : goal.branches_reply-requires
branches_reply-requires g c =
    rw c.deref.ensures.value (branches_tellable c.args.self.now.engine.now (branches_view c.args.branches.now) c.in_ok-told.told.items c.in_ok-told.ensures.told)

pub returns-clause-says : goal.returns-clause-says
returns-clause-says g c =
    let branches = branches_view c.args.branches.now in
    (c.shown.ensures.0 ∙ c.in_ok-text.ensures ∙ ap (branches_text 1 branches) c.deref.ensures.value ∙ branches_said c.args.self.now.engine.now 1 branches c.in_ok-told.told.items c.in_ok-told.ensures.told, c.shown.ensures.1)
