use Rattle.std.proofs.Common.{ℕ, nat_le, subst, sym, rules}
use Rattle.std.specs.Prelude.{IfSome}
use Rattle.std.proofs.lemmas.List.Sorted.{IsPartitionPoint-from_clause}
use Rattle.layer_tiles.specs.Tallies.{RisesBy}
use Rattle.map_waves.specs.Seating.{rise_of}
use Rattle.map_waves.proofs.Rowing.{starts_partitioned, IsSought, sought}
use Rattle.map_waves.proofs.tickets.PhaseWork.job.Given.{Over}
use Rattle.map_waves.proofs.tickets.PhaseWork.job.Goals as goal
use Rattle.map_waves.proofs.tickets.PhaseWork.job.Goals.{After-partition_point-past}

-- the statement of the ticket is the one before those that begin past it
job_of : (g : Over) (c : After-partition_point-past g) → IsSought c.args.self.now.jobs.now c.args.self.now.starts.now c.args.ticket c.partition_point-past.result
job_of g c =
    let js = c.args.self.now.jobs.now in
    let starts = c.args.self.now.starts.now in
    let are = c.args.self.now.are_starts in
    let t = c.args.ticket in
    let past = c.partition_point-past in
    sought js starts t past.result are c.requires.below past.ensures.bound (IsPartitionPoint-from_clause (λ (s : ℕ). nat_le s t) starts past.result past.ensures.partitioned (starts_partitioned js starts t are) (λ a r f q. search rules))

pub overflow_sub-place : goal.overflow_sub-place
overflow_sub-place g c = (job_of g (goal.at.overflow_sub-place g c).After-partition_point-past).some

pub overflow_sub-ticket : goal.overflow_sub-ticket
overflow_sub-ticket g c = (job_of g (goal.at.overflow_sub-ticket g c).After-partition_point-past).low

pub do_job-requires-clause-jobs : goal.do_job-requires-clause-jobs
do_job-requires-clause-jobs g c =
    c.args.self.now.are_jobs _ c.index-self-place.result (job_of g (goal.at.do_job-requires-clause-jobs g c).After-partition_point-past).within

pub do_job-requires-clause-below : goal.do_job-requires-clause-below
do_job-requires-clause-below g c = (job_of g (goal.at.do_job-requires-clause-below g c).After-partition_point-past).below c.index-self-place.result

pub returns-clause-answer : goal.returns-clause-answer
returns-clause-answer g c =
    let seat = (job_of g (goal.at.returns-clause-answer g c).After-partition_point-past).seat c.index-self-place.result in
    subst (λ o. IfSome o (λ q. g.K.Maker.pieces q.0 q.1 c.do_job.result)) (sym seat) c.do_job.ensures.piece

pub returns-clause-tally : goal.returns-clause-tally
returns-clause-tally g c =
    let seat = (job_of g (goal.at.returns-clause-tally g c).After-partition_point-past).seat c.index-self-place.result in
    subst (λ o. RisesBy (rise_of g.K.Maker.looks o) (rise_of g.K.Maker.picks o) (g.M.Tally.counts c.args.tally.now) (g.M.Tally.counts c.do_job.new.tally)) (sym seat) c.do_job.ensures.tally
