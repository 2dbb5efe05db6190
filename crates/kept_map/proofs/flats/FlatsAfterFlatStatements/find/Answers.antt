use Rattle.std.proofs.Common.{true, false, take, Option, Some, None, option_map, sym, ap, ◌∙◌, Bor, Bool}
use Rattle.std.specs.Map.Iter.{deref_pair}
use Rattle.std.proofs.lemmas.Iterator.Consumers.{YieldsList-from_rest, YieldsList-turn, YieldsList-end}
use Rattle.std.proofs.Math.Seq.{take-length}
use Rattle.procedure_expand.specs.declared.flat.Flat.{Flat}
use Rattle.edit_plans.specs.Planned.{FlatDef}
use Rattle.edit_plans.proofs.There.{none_where}
use Rattle.kept_map.proofs.EditedFlats.{found_in, found_here, found_later, brought_other, brought_edited, after_by}
use Rattle.kept_map.proofs.flats.FlatsAfterFlatStatements.find.Goals as goal

abbrev told : Bool → Option (Bor Flat) → Option FlatDef
told b o = option_map (λ (f : Bor Flat). record { op = f.now.op; written = b }) o

pub returns-in-Some : goal.returns-in-Some
returns-in-Some c =
    let all = c.args.self.now in
    after_by all.edited.now c.args.name.now all.names.now.entries all.written.now (told true (Some c.in-Some.flat)) (sym (ap (told true) c.in-Some.is) ∙ c.flat_among.ensures true)

pub returns-in-Some-flat_of_item : goal.returns-in-Some-flat_of_item
returns-in-Some-flat_of_item c =
    let all = c.args.self.now in
    let items = all.names.now.entries in
    let t = YieldsList-turn (YieldsList-from_rest {shows = deref_pair} items c.into_iter-other-iterator.ensures.into_iter_gives.0) c.loop-other.yielded _ c.loop-other.yielded_by _ _ (c.in-Some-2.other, c.in-Some-2.item) c.in-Some-2.is c.next.ensures.steps in
    sym (found_here _ _ items c.loop-other.yielded (c.in-Some-2.other, c.in-Some-2.item) (c.in-Some-2.other.now, c.in-Some-2.item.now) c.loop-other.invariant t.0 t.1 _
    (brought_other _ _ (c.in-Some-2.other.now, c.in-Some-2.item.now) (sym c.ne.ensures ∙ c.if-ne.true) ∙ sym c.flat_of_item.ensures ∙ ap (told false) c.in-Some-flat_of_item.is))
    ∙ after_by all.edited.now _ items all.written.now None (sym (ap (told true) (none_where c.flat_among.result c.in_default.not-Some)) ∙ c.flat_among.ensures true)

pub loop-other-preserved-in_default-flat_of_item : goal.loop-other-preserved-in_default-flat_of_item
loop-other-preserved-in_default-flat_of_item c =
    let items = c.args.self.now.names.now.entries in
    let t = YieldsList-turn (YieldsList-from_rest {shows = deref_pair} items c.into_iter-other-iterator.ensures.into_iter_gives.0) c.loop-other.yielded _ c.loop-other.yielded_by _ _ (c.in-Some-2.other, c.in-Some-2.item) c.in-Some-2.is c.next.ensures.steps in
    found_later _ _ items c.loop-other.yielded (c.in-Some-2.other, c.in-Some-2.item) (c.in-Some-2.other.now, c.in-Some-2.item.now) c.loop-other.invariant t.0 t.1
    (brought_other _ _ (c.in-Some-2.other.now, c.in-Some-2.item.now) (sym c.ne.ensures ∙ c.if-ne.true) ∙ sym c.flat_of_item.ensures
    ∙ ap (told false) (none_where c.flat_of_item.result c.in_default-flat_of_item.not-Some))

pub loop-other-preserved : goal.loop-other-preserved
loop-other-preserved c =
    let items = c.args.self.now.names.now.entries in
    let t = YieldsList-turn (YieldsList-from_rest {shows = deref_pair} items c.into_iter-other-iterator.ensures.into_iter_gives.0) c.loop-other.yielded _ c.loop-other.yielded_by _ _ (c.in-Some-2.other, c.in-Some-2.item) c.in-Some-2.is c.next.ensures.steps in
    found_later _ _ items c.loop-other.yielded (c.in-Some-2.other, c.in-Some-2.item) (c.in-Some-2.other.now, c.in-Some-2.item.now) c.loop-other.invariant t.0 t.1
    (brought_edited _ _ (c.in-Some-2.other.now, c.in-Some-2.item.now) (sym c.ne.ensures ∙ c.if-ne.false))

pub returns : goal.returns
returns c =
    let all = c.args.self.now in
    let n = c.args.name.now in
    let items = all.names.now.entries in
    let t = YieldsList-end (YieldsList-from_rest {shows = deref_pair} items c.into_iter-other-iterator.ensures.into_iter_gives.0) c.loop-other.yielded _ c.loop-other.yielded_by _ _ c.in-None.is c.next.ensures.steps in
    sym c.loop-other.invariant ∙ ap (λ k. found_in all.edited.now n (take k items)) t.1 ∙ ap (found_in all.edited.now n) (take-length items)
    ∙ after_by all.edited.now n items all.written.now None (sym (ap (told true) (none_where c.flat_among.result c.in_default.not-Some)) ∙ c.flat_among.ensures true)
