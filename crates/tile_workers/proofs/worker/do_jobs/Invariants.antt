use Rattle.std.proofs.Common.{◌≡◌}
use Rattle.tile_workers.specs.Seats.{drawn, share, IsSameSeat}
use Rattle.tile_workers.specs.Phases.{job_answers}
use Rattle.tile_workers.proofs.Turns.{IsUnderWay}
use Rattle.tile_workers.proofs.worker.do_jobs.Given as goal

abbrev pub invariant-loop-turn : goal.invariant-loop-turn
invariant-loop-turn g l = record {
  same : IsSameSeat l.fn.seat l.seat;
  share : share l.seat ≡ share l.fn.seat;
  under_way : IsUnderWay l.phase.jobs (g.W.Work.looks l.phase.work.now) (g.W.Work.picks l.phase.work.now) (job_answers l.phase.jobs (g.W.Work.answers l.phase.work.now)) l._turn (drawn l.seat) l.laid.items (g.M.Tally.counts l.fn.tally) (g.M.Tally.counts l.tally);
}
