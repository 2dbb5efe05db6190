use Rattle.std.proofs.Common.{pos, sym, subst}
use Rattle.map_defs.specs.Operate.{operate}
use Rattle.map_defs.specs.Ops.{Term, number_term}
use Rattle.layer_tiles.specs.Answers.{IsTileAnswer}
use Rattle.op_jobs.specs.Kernels.{kernel_cells}
use Rattle.op_jobs.specs.declared.kernels.Kernel.{Kernel}
use Rattle.op_jobs.proofs.kernels.make_tile.Goals as goal

-- any term
term : Term
term = number_term (pos 0)

pub returns-in-Zonal-clause-answer : goal.returns-in-Zonal-clause-answer
unfolding operate
returns-in-Zonal-clause-answer g c =
    subst (λ (k : Kernel). IsTileAnswer c.args.extent (kernel_cells c.args.extent c.args.operands.now k) c.args.tile c.zonal_piece.result) (sym c.in-Zonal.is) (c.zonal_piece.ensures.answer term term)

pub returns-in-Sight-clause-answer : goal.returns-in-Sight-clause-answer
unfolding operate
returns-in-Sight-clause-answer g c =
    subst (λ (k : Kernel). IsTileAnswer c.args.extent (kernel_cells c.args.extent c.args.operands.now k) c.args.tile c.sight_piece.result) (sym c.in-Sight.is) (c.sight_piece.ensures.answer term term)
