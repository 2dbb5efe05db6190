use Rattle.std.proofs.Common.{refl}
use Rattle.op_jobs.proofs.FreshOps.{path_cells_are, lists_rise}
use Rattle.op_jobs.proofs.fresh.path_cells.Goals as goal

pub returns-clause-cells : goal.returns-clause-cells
returns-clause-cells g c =
    path_cells_are c.args.extent c.args.operands.now _ c.args.limit c.both_of.result.0.now c.both_of.result.1.now c.both_of.ensures c.requires.both.each c.requires.limit refl c.in_ok-sources.ensures.cells c.in_ok-friction.ensures.cells
    c.extent-first.ensures.change.cells c.extent-second.ensures.change.cells

pub returns-clause-looks : goal.returns-clause-looks
returns-clause-looks g c = lists_rise c.args.extent c.args.operands.now c.both_of.result.0.now c.both_of.result.1.now _ _ _ c.both_of.ensures c.requires.both.each c.cells_of.ensures.looks c.cells_of-2.ensures.looks

pub returns-in_err-friction-clause-looks : goal.returns-in_err-friction-clause-looks
returns-in_err-friction-clause-looks g c = lists_rise c.args.extent c.args.operands.now c.both_of.result.0.now c.both_of.result.1.now _ _ _ c.both_of.ensures c.requires.both.each c.cells_of.ensures.looks c.cells_of-2.ensures.looks
