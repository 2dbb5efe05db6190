use Rattle.std.proofs.Common.{◌∙◌, subst}
use Rattle.op_jobs.specs.Grounds.{IsGround, IsGroundOf}
use Rattle.op_jobs.proofs.LayerLists.{flow_listed, spread_listed, nearest_listed, labels_listed}
use Rattle.op_jobs.proofs.Repairing.{flow_is, spread_is, nearest_is, region_is}
use Rattle.op_jobs.proofs.fresh.make_fresh.Goals as goal

pub spread_by-requires-clause-each : goal.spread_by-requires-clause-each
spread_by-requires-clause-each c = rw (c.in-Costs.is) at c.requires.each

pub nearest_by-requires-clause-each : goal.nearest_by-requires-clause-each
nearest_by-requires-clause-each c = rw (c.in-Nearest.is) at c.requires.each

pub flow_by-requires-clause-each : goal.flow_by-requires-clause-each
flow_by-requires-clause-each c = rw (c.in-Flow.is) at c.requires.each

pub labels_by-requires-clause-each : goal.labels_by-requires-clause-each
labels_by-requires-clause-each c = rw (c.deref.ensures.value) (rw (c.in-Regions.is) at c.requires.each)

pub returns-in_ok-costs-in-Costs-clause-made : goal.returns-in_ok-costs-in-Costs-clause-made
returns-in_ok-costs-in-Costs-clause-made c = λ op operands of ranges is.
    let laid = subst (IsGround c.args.extent operands) c.in-Costs.is is in
    let o = spread_is op c.in-Costs.cells.limit (subst (IsGroundOf op) c.in-Costs.is of) ranges in
    spread_listed c.args.extent c.tiles-tiles.ensures.size operands _ _ laid.sources_are laid.friction_are o.0 o.1 op _ _ c.in_ok-costs-in-Costs.costs o.2 c.alone.ensures c.in_ok-costs-in-Costs.ensures

pub returns-in_ok-nearest_by-in-Nearest-clause-made : goal.returns-in_ok-nearest_by-in-Nearest-clause-made
returns-in_ok-nearest_by-in-Nearest-clause-made c = λ op operands of ranges is.
    let laid = subst (IsGround c.args.extent operands) c.in-Nearest.is is in
    let o = nearest_is op c.in-Nearest.cells.limit (subst (IsGroundOf op) c.in-Nearest.is of) ranges in
    nearest_listed c.args.extent c.tiles-tiles.ensures.size operands _ _ laid.sources_are laid.friction_are o.0 o.1 op _ _ o.2 c.in_ok-nearest_by-in-Nearest.ensures

pub returns-in_ok-list-in-Flow-clause-made : goal.returns-in_ok-list-in-Flow-clause-made
returns-in_ok-list-in-Flow-clause-made c = λ op operands of ranges is.
    let laid = subst (IsGround c.args.extent operands) c.in-Flow.is is in
    let o = flow_is op (subst (IsGroundOf op) c.in-Flow.is of) ranges in
    let made = c.in_ok-list-in-Flow.ensures in
    flow_listed c.args.extent c.tiles-tiles.ensures.size operands _ _ laid.surface_is laid.weights_are o.0 o.1 op _ _ _ o.2 c.alone-in-Flow.ensures made.list made.cells made.work

pub returns-in_ok-labels-in-Regions-clause-made : goal.returns-in_ok-labels-in-Regions-clause-made
returns-in_ok-labels-in-Regions-clause-made c = λ op operands of ranges is.
    let laid = subst (IsGround c.args.extent operands) c.in-Regions.is is in
    let o = region_is op (subst (IsGroundOf op) c.in-Regions.is of) ranges in
    labels_listed c.args.extent c.tiles-tiles.ensures.size operands c.deref.result.now (c.deref.ensures.value ∙ laid.cells_are) c.in_ok-labels-in-Regions.labels c.in_ok-labels-in-Regions.ensures op o.0 _ o.1 c.alone-in-Regions.ensures
