use Rattle.std.proofs.Common.{◌≡◌}
use Rattle.map_nums.specs.Numbers.{greatest_value}
use Rattle.map_defs.specs.Spread.{IsSpread}
use Rattle.bench_kernels.proofs.spread.repaints.Given as goal

abbrev pub invariant-loop-round : goal.invariant-loop-round
invariant-loop-round l = record {
  friction : l.friction.size ≡ l.sources.size;
  costs : l.costs.size ≡ l.sources.size;
  right : IsSpread l.sources.size l.sources.cells l.friction.cells greatest_value l.costs.cells;
}
