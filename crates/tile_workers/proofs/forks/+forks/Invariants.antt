use Rattle.std.proofs.Common.{◌+◌, ◌-◌, ◌*◌, length}
use Rattle.tile_workers.proofs.forks.+forks.Given as goal

abbrev pub decreases-fork_from : goal.decreases-fork_from
decreases-fork_from g l = 4 * length l.s.now

abbrev pub decreases-fork_first : goal.decreases-fork_first
decreases-fork_first g l = 4 * (length l.a.now + length l.b.now) - 1

abbrev pub decreases-fork_first-back : goal.decreases-fork_first-back
decreases-fork_first-back g l = 4 * length l.b.now + 1
