use Rattle.std.proofs.Common.{◌≡◌, ◌++◌, suc, length, drop}
use Rattle.std.specs.List.{AllZip}
use Rattle.statement_parser.specs.Views.{branches_view}
use Rattle.map_session.specs.BranchTexts.{AreTellable, branches_text}
use Rattle.map_session.proofs.branches.branches_reply.Given as goal

abbrev pub invariant-loop-items : goal.invariant-loop-items
invariant-loop-items l = record {
  number : l.number ≡ length l.yielded;
  tellable : AllZip AreTellable (branches_view (drop (length l.yielded) l.branches)) (drop (length l.yielded) l.told);
  text : l.text.items ++ branches_text (suc (length l.yielded)) (branches_view (drop (length l.yielded) l.branches)) (drop (length l.yielded) l.told) ≡ branches_text 1 (branches_view l.branches) l.told;
}
