-- Where the cells of some rows drain to.
use Rattle.std.specs.Prelude.{◌≡◌, ℕ, ◌+◌, ◌<◌, List, ◌++◌, length, slice_index, Option, Some}
use Rattle.map_nums.specs.Grids.{Size, Cells, moved}
use Rattle.map_defs.specs.Flow.{downstream_of}
use Rattle.drainage_flow.specs.Pouring.{down_in}
use Rattle.drainage_flow.specs.Steepest.{offset_at}

-- where each of n places from `at` on drains to
pub record AreDowns (s : Size) (surface : Cells) (at n : ℕ) (downs : List (Option ℕ)) : Type 0 where
  pub count : length downs ≡ n
  pub each : (k : ℕ) → k < n → down_in downs k ≡ downstream_of s surface (at + k)

-- these were added to a list
pub record AddsDowns (s : Size) (surface : Cells) (at n : ℕ) (old new : List (Option ℕ)) : Type 0 where
  pub added : List (Option ℕ)
  pub joined : new ≡ old ++ added
  pub downs : AreDowns s surface at n added

-- the neighbours of place i lie `left` further than these places
pub record LeadOn (s : Size) (i left : ℕ) (steps : List ℕ) : Type 0 where
  pub each : (k : ℕ) → k < 8 → moved s i (offset_at k) ≡ Some (slice_index steps k + left)
