-- The sources that cost nothing.
use Rattle.std.specs.Prelude.{◌≡◌, ℕ, ◌<◌, ◌≤◌, ℤ, ◌≤ℤ◌, List, length, Some, slice_index_or, IsTrue}
use Rattle.std.specs.List.{All, Contains}
use Rattle.map_nums.specs.Grids.{cells_in}
use Rattle.map_nums.specs.Numbers.{is_value}
use Rattle.friction_neighbor.specs.declared.seeds.Seed.{Seed}
use Rattle.friction_neighbor.specs.Fields.{FieldState, cost_at, own_at}

-- a source that costs nothing, and its number
pub record IsSeed (f : FieldState) (seed : Seed) : Type 0 where
  pub within : seed.at < cells_in f.ground.size
  pub number : own_at f seed.at ≡ Some seed.number
  pub value : seed.value ≡ Some seed.number
  pub in_range : IsTrue (is_value seed.number)
  pub free : cost_at f seed.at ≡ 0

-- all those of the places before n
pub record AreSeedsTo (f : FieldState) (n : ℕ) (seeds : List Seed) : Type 0 where
  pub each : All (IsSeed f) seeds
  pub all : (i : ℕ) (z : ℤ) → i < n → cost_at f i ≡ 0 → own_at f i ≡ Some z → Contains seeds (record { number = z; value = Some z; at = i })

-- all, in ascending order of their numbers
pub record AreSeeds (f : FieldState) (seeds : List Seed) : Type 0 where
  pub those : AreSeedsTo f (cells_in f.ground.size) seeds
  pub ascend : (i j : ℕ) (d : Seed) → i ≤ j → j < length seeds → (slice_index_or seeds i d).number ≤ℤ (slice_index_or seeds j d).number
