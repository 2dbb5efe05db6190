use Rattle.std.proofs.Common.{List, refl, ◌∙◌}
use Rattle.std.proofs.lemmas.List.{length-map}
use Rattle.std.proofs.lemmas.Slice.Zip.{zip_end, AllZip-long}
use Rattle.statement_parser.specs.declared.line.Item.{Item}
use Rattle.statement_parser.specs.Views.{item_view, items_view}
use Rattle.what_if.specs.declared.items.Told.{Told}
use Rattle.map_session.specs.BranchTexts.{IsTellable, told_texts}
use Rattle.map_session.proofs.Pairs.{all_put}
use Rattle.map_session.proofs.branches.put_branch.Goals as goal

pub returns : goal.returns
returns c =
    let items = c.args.items.now in
    let told = c.args.told.now in
    all_put (λ (is : List Item) (ts : List Told). told_texts (items_view is) ts) items told _ _ _
    (zip_end items told c.loop-item.yielded _ c.loop-item.item-iterator c.next.new.self c.next.result (cc) (cc) c.loop-item.yielded_by c.in-None.is c.next.ensures.steps)
    (AllZip-long IsTellable (items_view items) told c.requires ∙ length-map items item_view) refl c.loop-item.invariant.text
