use Rattle.std.proofs.Common.{length, take, refl, sym, ap, ◌∙◌, bytes_eq}
use Rattle.std.specs.Map.Iter.{deref_pair}
use Rattle.std.proofs.lemmas.Iterator.Consumers.{YieldsList-from_rest, YieldsList-turn, YieldsList-end}
use Rattle.std.proofs.lemmas.Option.{slice_get_read}
use Rattle.std.proofs.lemmas.List.{length_push}
use Rattle.std.proofs.Math.Seq.{take-length}
use Rattle.indexmap.specs.IndexMap.{insert_entry}
use Rattle.kept_map.specs.Copies.{items_view}
use Rattle.kept_map.proofs.Copied.{item_next}
use Rattle.kept_map.proofs.copying.copy_items.Goals as goal

pub loop-name-preserved : goal.loop-name-preserved
loop-name-preserved c =
    let items = c.args.items.now.entries in
    let k = length c.loop-name.yielded in
    let gives = c.into_iter-name-iterator.ensures.into_iter_gives in
    let t = YieldsList-turn (YieldsList-from_rest {shows = deref_pair} items gives.0) c.loop-name.yielded _ c.loop-name.yielded_by _ _ (c.in-Some.name, c.in-Some.item) c.in-Some.is c.next.ensures.steps in
    let at = slice_get_read items (length items) k _ refl t.0 t.1 in
    ap items_view (c.in_ok-put_item.ensures ∙ ap (λ n. insert_entry bytes_eq c.loop-name.copies.entries n c.in_ok-own.own) c.in_ok-copy.ensures)
    ∙ item_next items gives.4 c.loop-name.copies.entries k c.loop-name.invariant c.in-Some.name.now c.in-Some.item.now c.in_ok-own.own at c.in_ok-own.ensures
    ∙ ap (λ i. items_view (take i items)) (sym (length_push c.loop-name.yielded (c.in-Some.name, c.in-Some.item)))

pub returns : goal.returns
returns c =
    let items = c.args.items.now.entries in
    let t = YieldsList-end (YieldsList-from_rest {shows = deref_pair} items c.into_iter-name-iterator.ensures.into_iter_gives.0) c.loop-name.yielded _ c.loop-name.yielded_by _ _ c.in-None.is c.next.ensures.steps in
    c.loop-name.invariant ∙ ap (λ i. items_view (take i items)) t.1 ∙ ap items_view (take-length items)
