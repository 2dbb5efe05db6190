use Rattle.std.proofs.Common.{◌≡◌, ◌++◌, length, drop}
use Rattle.std.specs.List.{AllZip}
use Rattle.statement_parser.specs.Views.{items_view}
use Rattle.map_session.specs.BranchTexts.{IsTellable, told_texts, branch_text}
use Rattle.map_session.proofs.branches.put_branch.Given as goal

abbrev pub invariant-loop-item : goal.invariant-loop-item
invariant-loop-item l = record {
  tellable : AllZip IsTellable (items_view (drop (length l.yielded) l.items)) (drop (length l.yielded) l.told);
  text : l.text.items ++ told_texts (items_view (drop (length l.yielded) l.items)) (drop (length l.yielded) l.told) ≡ l.fn.text.items ++ branch_text l.number (items_view l.items) l.told;
}
