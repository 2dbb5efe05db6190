use Rattle.std.proofs.Common.{◌≡◌, ℕ, [], nat_lt, true, false, subst, rules}
use Rattle.std.specs.List.Sorted.{IsPartitionPoint}
use Rattle.std.proofs.lemmas.List.Sorted.{IsPartitionPoint-from_clause}
use Rattle.layer_tiles.specs.Tiles.{Block}
use Rattle.layer_tiles.specs.Patches.{numbers_of}
use Rattle.layer_tiles.specs.ChangeFacts.{IsNext}
use Rattle.layer_tiles.proofs.Found.{numbers_partitioned}
use Rattle.layer_tiles.proofs.Numbers.{next_number, no_next}
use Rattle.layer_tiles.proofs.patches.number_from.Goals as goal
use Rattle.layer_tiles.proofs.patches.number_from.Goals.{After-partition_point-at}

point : (c : After-partition_point-at) → IsPartitionPoint (λ e. nat_lt e.0 c.args.from ≡ true) (λ e. nat_lt e.0 c.args.from ≡ false) c.args.tiles.now c.partition_point-at.result
point c = IsPartitionPoint-from_clause (λ (e : ℕ × Block). nat_lt e.0 c.args.from) c.args.tiles.now c.partition_point-at.result c.partition_point-at.ensures.partitioned (numbers_partitioned c.args.tiles.now c.args.from c.requires) (λ a r f q. search rules)

pub returns-then-at-tiles-clause-next : goal.returns-then-at-tiles-clause-next
returns-then-at-tiles-clause-next c = subst (λ (e : ℕ × Block). IsNext (numbers_of c.args.tiles.now) c.args.from e.0) c.index-tiles-at.is
    (next_number c.args.tiles.now c.args.from c.partition_point-at.result c.requires (point (goal.at.returns-then-at-tiles-clause-next c).After-partition_point-at) c.index-tiles-at.result c.if-at-tiles.true c.index-tiles-at.is)

pub returns-clause-none : goal.returns-clause-none
returns-clause-none c = no_next c.args.tiles.now c.args.from c.partition_point-at.result c.requires (point (goal.at.returns-clause-none c).After-partition_point-at) (0, record { height = 0; width = 0; cells = [] }) c.if-at-tiles.false
