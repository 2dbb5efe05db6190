use Rattle.std.proofs.Common.{◌≡◌, ℕ, ◌+◌, ◌*◌, ◌<◌, length, get_or, None, List, ℤ}
use Rattle.layer_tiles.specs.Tallies.{TallyState, RisesBy}
use Rattle.layer_tiles.specs.Tiles.{tiles_across}
use Rattle.sight_lines.specs.Searches.{IsKnown, IsSlot, looks_below}
use Rattle.sight_lines.proofs.searches.lend.Given as goal

abbrev pub invariant-loop-k : goal.invariant-loop-k
invariant-loop-k g l = record {
  count : length l.slots.items ≡ l.k;
  each : (kept : List (ℕ × ℤ)) → IsKnown l.all l.of kept → (j : ℕ) → j < l.k → IsSlot kept l.of (l.band * tiles_across l.of.size + j) (get_or l.slots.items j None);
  looks : (first : TallyState) → RisesBy (looks_below l.all l.of.touched (l.band * tiles_across l.of.size)) 0 first (g.M.Tally.counts l.initial.tally) → RisesBy (looks_below l.all l.of.touched (l.band * tiles_across l.of.size + l.k)) 0 first (g.M.Tally.counts l.tally);
}
