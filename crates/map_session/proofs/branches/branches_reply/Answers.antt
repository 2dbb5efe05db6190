use Rattle.std.proofs.Common.{List, suc, length, refl, ◌∙◌, Vec}
use Rattle.std.specs.declared.alloc.Global.{Global}
use Rattle.std.proofs.lemmas.List.{length-map}
use Rattle.std.proofs.lemmas.Slice.Zip.{zip_end, AllZip-long}
use Rattle.statement_parser.specs.declared.line.Item.{Item}
use Rattle.statement_parser.specs.Views.{items_view, branches_view}
use Rattle.what_if.specs.declared.items.Told.{Told}
use Rattle.map_session.specs.BranchTexts.{AreTellable, branches_text}
use Rattle.map_session.proofs.Pairs.{all_put}
use Rattle.map_session.proofs.branches.branches_reply.Goals as goal

pub returns : goal.returns
returns c =
    let branches = c.args.branches.now in
    let told = c.args.told.now in
    all_put (λ (bs : List (Vec Item Global)) (ts : List (Vec Told Global)). branches_text (suc (length c.loop-items.yielded)) (branches_view bs) ts) branches told _ _ _
    (zip_end branches told c.loop-items.yielded _ c.loop-items.items-iterator c.next.new.self c.next.result (cc) (cc) c.loop-items.yielded_by c.in-None.is c.next.ensures.steps)
    (AllZip-long AreTellable (branches_view branches) told c.requires ∙ length-map branches (λ (b : Vec Item Global). items_view b.items)) refl c.loop-items.invariant.text
