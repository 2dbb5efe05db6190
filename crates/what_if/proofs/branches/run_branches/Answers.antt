use Rattle.std.proofs.Common.{◌≡◌, length, sym, ◌∙◌}
use Rattle.statement_parser.specs.Views.{branches_view}
use Rattle.what_if.proofs.Trying.{branches_many, branches_told, reads_all}
use Rattle.what_if.proofs.branches.run_branches.Goals as goal

pub returns-in_err-answers-clause-reads : goal.returns-in_err-answers-clause-reads
returns-in_err-answers-clause-reads g c = reads_all c.args.base.now (branches_view c.args.branches.now) (length c.args.branches.now) _ _ (sym (branches_many c.args.branches.now)) c.run_by.ensures.tally

pub returns-clause-told : goal.returns-clause-told
returns-clause-told g c =
    let many : length c.in_ok-answers.answers.items ≡ length c.args.branches.now = sym c.in_ok-answers.answers.ok.0 ∙ c.in_ok-answers.ensures.len in
    branches_told c.args.base.now (branches_view c.args.branches.now) (length c.args.branches.now) c.in_ok-answers.answers.items c.all_found.result (branches_many c.args.branches.now) many c.in_ok-answers.ensures.each
    c.all_found.ensures.count c.all_found.ensures.each

pub returns-clause-reads : goal.returns-clause-reads
returns-clause-reads g c = reads_all c.args.base.now (branches_view c.args.branches.now) (length c.args.branches.now) _ _ (sym (branches_many c.args.branches.now)) c.run_by.ensures.tally
