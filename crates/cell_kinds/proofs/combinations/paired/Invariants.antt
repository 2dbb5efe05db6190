use Rattle.std.proofs.Common.{◌≡◌, map, take}
use Rattle.cell_kinds.proofs.combinations.paired.Given as goal

abbrev pub invariant-loop-i : goal.invariant-loop-i
invariant-loop-i l = record {
  zones : map (λ p. p.zone) l.pairs.items ≡ take l.i l.zones;
  values : map (λ p. p.value) l.pairs.items ≡ take l.i l.values;
}
