use Rattle.std.proofs.Common.{◌∷◌, [], Option, sym, ◌∙◌, subst}
use Rattle.layer_tiles.specs.Layers.{LayerState}
use Rattle.tile_work.specs.Working.{before_of}
use Rattle.friction_neighbor.specs.Results.{values_of}
use Rattle.op_jobs.specs.Nearest.{CanTake, IsNearestMade}
use Rattle.op_jobs.proofs.Kept.{reached_size}
use Rattle.op_jobs.proofs.WholeLayers.{limit_fits, can_take, costs_size, nearest_repaired, nearest_rises}
use Rattle.op_jobs.proofs.whole_nearest.repair_nearest.Goals as goal

pub made_nearest-requires : goal.made_nearest-requires
made_nearest-requires g c =
    let so = c.args.sources.now in
    let fr = c.args.friction.now in
    let ok = c.in_ok-repair.ensures in
    let size = reached_size so.size (before_of (values_of c.args.old)) (so ∷ fr ∷ []) c.args.touched.now c.requires.tiles in
    record {
      size = size ∙ sym ok.sizes.1;
      cost = size ∙ sym ok.sizes.0;
      old = subst (λ (o : Option LayerState). CanTake o c.in_ok-repair.repair.cost) (sym c.costs_before-costs.ensures) (can_take so.size _ c.in_ok-repair.repair.cost ok.sizes.0 (costs_size so fr c.args.limit c.args.old c.requires.right) ok.exact.0);
    }

pub returns-clause-made : goal.returns-clause-made
returns-clause-made g c = λ t u.
    let ok = c.in_ok-repair.ensures in
    let made = subst (λ (o : Option LayerState). IsNearestMade c.args.touched.now o c.in_ok-repair.repair c.made_nearest.result) c.costs_before-costs.ensures c.made_nearest.ensures in
    nearest_repaired c.args.sources.now c.args.friction.now c.args.limit c.args.old c.requires.right t u c.extent-sources.ensures.size _ (limit_fits c.args.limit c.requires.low) c.in_ok-repair.repair ok.sizes c.extent-cost.ensures.patch c.extent-value.ensures.patch
    ok.exact ok.cost ok.value c.args.touched.now c.made_nearest.result c.extent-sources.ensures.change.are_cells (ok.worked t u) c.requires.tiles made

pub returns-in_err-repair-clause-tally : goal.returns-in_err-repair-clause-tally
returns-in_err-repair-clause-tally g c = λ t u.
    nearest_rises c.args.sources.now c.args.friction.now _ c.args.limit (before_of (values_of c.args.old)) t u _ _ (limit_fits c.args.limit c.requires.low) c.extent-sources.ensures.size c.requires.first c.requires.second c.neighbor_repair.ensures.reads

pub returns-clause-tally : goal.returns-clause-tally
returns-clause-tally g c = λ t u.
    nearest_rises c.args.sources.now c.args.friction.now _ c.args.limit (before_of (values_of c.args.old)) t u _ _ (limit_fits c.args.limit c.requires.low) c.extent-sources.ensures.size c.requires.first c.requires.second c.neighbor_repair.ensures.reads
