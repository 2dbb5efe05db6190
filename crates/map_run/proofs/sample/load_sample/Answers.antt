use Rattle.std.proofs.lemmas.Result.{err_from_is_err_and}
use Rattle.map_machine.specs.SampleGrids.{sample_grids}
use Rattle.map_machine.specs.Samples.{sample_state}
use Rattle.map_run.specs.Loads.{grids_stage}
use Rattle.map_run.specs.declared.stop.Stop.TheVariants.{NoMemory}
use Rattle.map_run.proofs.StageLemmas.{comes_before}
use Rattle.map_run.proofs.sample.load_sample.Goals as goal

pub returns-in_err-session-clause-loads : goal.returns-in_err-session-clause-loads
returns-in_err-session-clause-loads g c =
    let p = err_from_is_err_and c.from_residual.result c.from_residual.ensures.1 in
    let n = c.args.side.count in
    rw (p.1, p.2) (comes_before (grids_stage (sample_state n) (sample_grids n)) _ NoMemory tt (λ e. cc))
