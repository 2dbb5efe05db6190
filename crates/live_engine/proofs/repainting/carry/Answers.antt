use Rattle.std.proofs.Common.{refl, sym, ap, subst, ◌∙◌}
use Rattle.edit_plans.specs.SourceCounts.{joined}
use Rattle.kept_map.specs.Maps.{seen}
use Rattle.kept_map.specs.Repairs.{counts_view}
use Rattle.live_engine.specs.Accepts.{Refuses}
use Rattle.live_engine.proofs.PaintedMaps.{set_up, same_plan, paint_few, paint_settles, paint_put, painted_done, paint_accepted, paint_taken_back}
use Rattle.live_engine.proofs.Accepting.{halted}
use Rattle.live_engine.proofs.repainting.carry.Goals as goal

pub unreachable-requires : goal.unreachable-requires
unreachable-requires g c = let is = c.requires.draft.2 in c.in_default.not-Some is.place (c.get_index_of.ensures.index ∙ is.placed)

pub prepare_kept-requires-clause-set_up : goal.prepare_kept-requires-clause-set_up
prepare_kept-requires-clause-set_up g c κs within =
    let at = sym c.get_index_of.ensures.index ∙ c.in-Some.is in
    (_, _, set_up c.requires.kept c.requires.draft.2 at _, same_plan c.requires.kept c.requires.draft.2 at)

pub returns-in-Err : goal.returns-in-Err
returns-in-Err g c =
    let m = c.args.map.now in
    let at = sym c.get_index_of.ensures.index ∙ c.in-Some.is in
    record {
      carried = λ e grid draft.
          let halt = c.in-Err.ensures.halted _ _ (set_up c.requires.kept draft at _) (same_plan c.requires.kept draft at) in
          (refl, subst (Refuses (seen m) (seen m) e) (sym c.refused-refusal.ensures) (halted (seen m) _ e draft.attempt c.in-Err.halt halt));
      before = tt;
      kept = c.requires.kept;
      reads = λ e grid draft. c.prepare_kept.ensures.tally _ _ (set_up c.requires.kept draft at _) (same_plan c.requires.kept draft at);
    }

pub joined-counts-requires : goal.joined-counts-requires
joined-counts-requires g c =
    let few = paint_few c.requires.kept c.requires.draft.2 (sym c.get_index_of.ensures.index ∙ c.in-Some.is) _ c.in-Ok.prepared c.in-Ok.ensures.prepared in
    record { changed = few.0; evaluated = few.1 }

pub settle-requires : goal.settle-requires
settle-requires g c = paint_settles c.requires.kept c.requires.draft.2 (sym c.get_index_of.ensures.index ∙ c.in-Some.is) _ c.in-Ok.prepared c.in-Ok.ensures.prepared

pub put-patch-requires : goal.put-patch-requires
put-patch-requires g c =
    paint_put c.requires.kept c.requires.draft.2 (sym c.get_index_of.ensures.index ∙ c.in-Some.is) _ c.in-Ok.prepared c.in-Ok.ensures.prepared c.settle.new.map c.settle.ensures

pub returns : goal.returns
returns g c =
    let kept = c.requires.kept in
    let at = sym c.get_index_of.ensures.index ∙ c.in-Some.is in
    let sum = c.joined-counts.ensures ∙ ap (λ k. joined (record { changed = k; evaluated = c.args.repaint.met; worked = 0 }) (counts_view c.in-Ok.prepared.counts)) c.len.ensures.len in
    record {
      carried = λ e grid draft. (paint_accepted kept draft at _ c.in-Ok.prepared c.in-Ok.ensures.prepared _ c.settle.ensures _ c.put-patch.ensures.put c.joined-counts.result sum, refl);
      before = λ e grid draft. paint_taken_back kept draft at _ c.in-Ok.prepared c.in-Ok.ensures.prepared _ c.settle.ensures _ c.put-patch.ensures.put c.put-patch.result c.put-patch.ensures.before;
      kept = (painted_done kept c.requires.draft.2 at _ c.in-Ok.prepared c.in-Ok.ensures.prepared _ c.settle.ensures _ c.put-patch.ensures.put).0;
      reads = λ e grid draft. c.prepare_kept.ensures.tally _ _ (set_up kept draft at _) (same_plan kept draft at);
    }
