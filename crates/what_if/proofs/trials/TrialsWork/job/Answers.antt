use Rattle.std.proofs.Common.{◌≡◌, ◌<◌, Some, slice_get, get_or, sym, subst}
use Rattle.std.proofs.lemmas.Option.{slice_get-get_or}
use Rattle.statement_parser.specs.Formed.{Each, IsItem}
use Rattle.statement_parser.specs.Views.{items_view, branches_view}
use Rattle.what_if.specs.Tried.{branch_at}
use Rattle.what_if.proofs.Trying.{branch_is, branch_formed, branches_many}
use Rattle.what_if.proofs.trials.TrialsWork.job.Goals as goal

pub tell_branch-told-requires-clause-formed : goal.tell_branch-told-requires-clause-formed
tell_branch-told-requires-clause-formed g c κs within =
    let bs = c.args.self.now.branches.now in
    let x = get_or bs c.args.ticket c.index-self-ticket.result in
    let at : slice_get bs c.args.ticket ≡ Some x = slice_get-get_or bs c.args.ticket c.index-self-ticket.result c.requires.below in
    let is : items_view c.as_slice-items.result.now ≡ branch_at (branches_view bs) c.args.ticket = (let same = c.as_slice-items.ensures.value in subst (λ ys. items_view ys ≡ branch_at (branches_view bs) c.args.ticket) (sym same) (branch_is bs c.args.ticket x at)) in
    subst (λ ys. Each IsItem ys) (sym is) (branch_formed (branches_view bs) c.args.ticket c.requires.ready.1 (subst (λ n. c.args.ticket < n) (sym (branches_many bs)) c.requires.below))
