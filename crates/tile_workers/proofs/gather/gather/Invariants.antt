use Rattle.std.proofs.Common.{vec_len, ◌-◌}
use Rattle.tile_workers.specs.Shifts.{IsGathering}
use Rattle.tile_workers.proofs.gather.gather.Given as goal

abbrev pub invariant-loop-shift : goal.invariant-loop-shift
invariant-loop-shift g l = IsGathering g.M.Tally.counts l.phase.board.now.table.shared.table_id l.phase.jobs (g.W.Work.looks l.phase.work.now) (g.W.Work.picks l.phase.work.now) (g.W.Work.answers l.phase.work.now) 64 (vec_len l.fn.shifts) ((g.M.Tally.counts l.fn.tally).parts_out - vec_len l.fn.shifts) (g.M.Tally.counts l.fn.tally) (g.M.Tally.counts l.tally) l.all l.shifts.items

abbrev pub decreases-loop-shift : goal.decreases-loop-shift
decreases-loop-shift g l = vec_len l.shifts
