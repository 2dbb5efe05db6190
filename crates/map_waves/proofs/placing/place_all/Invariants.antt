use Rattle.std.proofs.Common.{◌≡◌, ℕ, ◌≤◌, length, Some, None, slice_get, get_or, vec_capacity}
use Rattle.map_waves.specs.Placing.{ArePlaced}
use Rattle.map_waves.specs.declared.plans.Step.{Step}
use Rattle.map_waves.proofs.placing.place_all.Given as goal

abbrev pub invariant-loop-k : goal.invariant-loop-k
invariant-loop-k g l = record {
  count : length l.next.items ≡ l.k;
  room : length l.steps ≤ vec_capacity l.next;
  placed : ArePlaced l.extent l.stamp l.fn.slots l.steps l.fn.prepared l.next.items;
  slots : (j i : ℕ) (x : Step _) → l.k ≤ j → slice_get l.steps j ≡ Some x → x.kept ≡ Some i → get_or l.slots i None ≡ get_or l.fn.slots i None;
  prepared : (j : ℕ) → l.k ≤ j → get_or l.prepared j None ≡ get_or l.fn.prepared j None;
}
