-- A run whose shelf, source and sink never fail, and tell what they hold.
use Rattle.std.proofs.Common.{ℕ, List, Option, Some, None, arith}
use Rattle.map_nums.specs.Counts.{Rose}
use Rattle.map_machine.specs.Words.{Form, of_files, of_sample}
use Rattle.map_outside.specs.Contents.{Files}
use Rattle.map_run.specs.FaultCounts.{RunCounts, NoneRose}
use Rattle.map_run.specs.Seen.{WhereHeld, WhereTold}
use Rattle.map_run.specs.Steady.{EndsSteady}
use Rattle.map_run.specs.declared.status.Status.{Status}
use Rattle.map_run.specs.declared.status.Status.TheVariants.{Done, Usage, Load, ShelfFault, SourceFault, SinkFault, NoMemory, TooLong}

-- a count that is 0 before and after a call did not rise
pub stays : Rose 0 0 → ⊥
stays rose = omega (arith, rose)

pub none_rises : NoneRose 0 0 0 0 0 0
none_rises = (stays, stays, stays)

-- a fault would have raised a count that is 0
pub ends_steady : (status : Status) → RunCounts 0 0 0 0 0 0 status → EndsSteady status
ends_steady Done counts = tt
ends_steady Usage counts = tt
ends_steady Load counts = tt
ends_steady ShelfFault counts = stays counts.0
ends_steady SourceFault counts = stays counts.1
ends_steady SinkFault counts = stays counts.2
ends_steady NoMemory counts = tt
ends_steady TooLong counts = tt

-- what holds of all that is told holds of this
pub told_here : (form : Option Form) (files : Files) (session : List ℕ) (P : Files → List ℕ → Type 0) → WhereTold form (Some files) (Some session) P → P files session
told_here None files session P told = told
told_here (Some (of_files model ps)) files session P told = told
told_here (Some (of_sample n)) files session P told = told files session

pub held_here : (form : Option Form) (files : Files) (P : Files → Type 0) → WhereHeld form (Some files) P → P files
held_here None files P held = held
held_here (Some (of_files model ps)) files P held = held
held_here (Some (of_sample n)) files P held = held files
