use Rattle.std.proofs.Common.{◌≡◌, ◌++◌, length, map}
use Rattle.std.specs.Vec.Iter.{into_iter_items, into_iter_len}
use Rattle.friction_neighbor.proofs.joins.split.Given as goal

abbrev pub invariant-loop-band : goal.invariant-loop-band
invariant-loop-band l = record {
  all : l.yielded ++ into_iter_items l.band-iterator ≡ l.fn.bands.items;
  left : into_iter_len l.band-iterator ≡ length (into_iter_items l.band-iterator);
  costs : l.costs.items ≡ map (λ b. b.costs) l.yielded;
  values : l.values.items ≡ map (λ b. b.values) l.yielded;
}
