use Rattle.std.proofs.Common.{◌≡◌, ◌+◌, ◌*◌, length, drop, take}
use Rattle.std.specs.Prelude.{sum_by}
use Rattle.std.specs.Vec.Iter.{into_iter_items, into_iter_len}
use Rattle.layer_tiles.specs.Tallies.{RisesBy}
use Rattle.map_waves.specs.Plans.{damage_at}
use Rattle.map_waves.specs.Bases.{plan_of}
use Rattle.map_waves.specs.Tasks.{places_of}
use Rattle.map_waves.specs.Seating.{all_jobs}
use Rattle.map_waves.proofs.Gathering.{IsFinished}
use Rattle.map_waves.proofs.gather.finish_all.Given as goal

abbrev pub invariant-turns : goal.invariant-turns
invariant-turns g l = record {
  queue : into_iter_items l.queue ≡ drop l.place l.fn.jobs.items;
  waiting : into_iter_len l.queue + l.place ≡ length l.fn.jobs.items;
  finished : IsFinished g.K.Maker.means g.K.Maker.formed g.K.Maker.suits l.base l.steps l.depth.first l.depth.end l.depth.tasks.now l.place l.more.items;
  rest : into_iter_items l.rest ≡ drop (all_jobs (take l.place l.fn.jobs.items)) l.fn.answers.items;
  left : into_iter_len l.rest + all_jobs (take l.place l.fn.jobs.items) ≡ length l.fn.answers.items;
  tally : RisesBy (2 * sum_by (λ k. length (damage_at (plan_of g.K.Maker.means l.base l.steps) k)) (places_of (take l.place l.depth.tasks.now))) 0 (g.M.Tally.counts l.fn.tally) (g.M.Tally.counts l.tally);
}

abbrev pub decreases-turns : goal.decreases-turns
decreases-turns g l = into_iter_len l.queue
