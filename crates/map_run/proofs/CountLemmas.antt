-- Calls that leave the counts of faults, and then one that may fail.
use Rattle.std.proofs.Common.{ℕ, subst}
use Rattle.map_run.specs.FaultCounts.{RunCounts}
use Rattle.map_run.specs.declared.status.Status.{Status}
use Rattle.map_run.specs.declared.status.Status.TheVariants.{Done}

pub counts_then : (f f' f'' s s' s'' k k' k'' : ℕ) (status : Status) → RunCounts f f' s s' k k' Done → RunCounts f' f'' s' s'' k' k'' status → RunCounts f f'' s s'' k k'' status
counts_then f f' f'' s s' s'' k k' k'' status a b =
    subst (λ n. RunCounts n f'' s s'' k k'' status) a.0 (subst (λ n. RunCounts f' f'' n s'' k k'' status) a.1 (subst (λ n. RunCounts f' f'' s' s'' n k'' status) a.2 b))
