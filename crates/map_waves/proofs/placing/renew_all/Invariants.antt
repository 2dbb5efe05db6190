use Rattle.std.proofs.Common.{◌≡◌, ℕ, ◌<◌, ◌≤◌, Option, Some, None, slice_get, get_or}
use Rattle.map_waves.specs.Placing.{IsPlaced}
use Rattle.map_waves.specs.declared.keeping.Kept.{Kept}
use Rattle.map_waves.specs.declared.keeping.Made.{Made}
use Rattle.map_waves.proofs.placing.renew_all.Given as goal

abbrev pub invariant-loop-k : goal.invariant-loop-k
invariant-loop-k g l = record {
  placed : (j : ℕ) (own now : Kept _) (r : Option (Made _)) → j < l.k → slice_get l.fn.kept j ≡ Some own → slice_get l.kept j ≡ Some now → slice_get l.fn.prepared j ≡ Some r → IsPlaced l.extent (Some own) r l.stamp now;
  kept : (j : ℕ) → l.k ≤ j → slice_get l.kept j ≡ slice_get l.fn.kept j;
  prepared : (j : ℕ) → l.k ≤ j → get_or l.prepared j None ≡ get_or l.fn.prepared j None;
}
