-- Counts of ranges of tiles.
use Rattle.std.specs.Prelude.{◌≡◌, ℕ, ◌-◌, ◌*◌, ◌≤◌, ◌&&◌, nat_le, nat_lt, List, [], ◌∷◌, ℤ, pos, Option, None, if◌then◌else◌}
use Rattle.map_nums.specs.Grids.{Size, Cells, cell_at}
use Rattle.layer_tiles.specs.Tiles.{tile_of}
use Rattle.zonal_totals.specs.declared.pairs.Pair.{Pair}
use Rattle.zonal_totals.specs.declared.steps.Step.{Step}
use Rattle.zonal_totals.specs.Pairs.{floor}
use Rattle.zonal_totals.specs.Steps.{net_in, weight, StepsClimb}
use Rattle.zonal_totals.specs.Books.{pairs_in, tile_number}

-- counts of zones and values, and of zones and tiles
pub record CountsState : Type 0 where
  pub values : List Step
  pub tiles : List Step

-- the zone of a place in the tiles from number first to before end, none elsewhere
abbrev pub zone_within : Size → Cells → ℕ → ℕ → ℕ → Option ℤ
zone_within s zones first end i = if nat_le first (tile_of s i) && nat_lt (tile_of s i) end then cell_at zones i else None

-- steps in order that count each pair as often as the places have it, and at most so much together
pub record AreCountsOf (ss : List Step) (s : Size) (zone key : ℕ → Option ℤ) (most : ℕ) : Type 0 where
  pub order : StepsClimb floor ss
  pub few : weight ss ≤ most
  pub counts : (p : Pair) → net_in ss p ≡ pos (pairs_in s zone key p)

-- how often each value and each tile occurs in each zone, in the tiles from number first to before end; a tile has at most
-- 1024 cells
pub record AreTileCounts (s : Size) (values zones : Cells) (first end : ℕ) (c : CountsState) : Type 0 where
  pub value_counts : AreCountsOf c.values s (zone_within s zones first end) (cell_at values) (1024 * (end - first))
  pub tile_counts : AreCountsOf c.tiles s (zone_within s zones first end) (tile_number s) (1024 * (end - first))

-- counts of ranges of tiles that follow one another, from number n to before end
abbrev pub AreRanges : Size → Cells → Cells → ℕ → ℕ → List CountsState → Type 0
AreRanges s values zones n end [] = n ≡ end
AreRanges s values zones n end (c ∷ cs) = (m : ℕ) × (n ≤ m) × AreTileCounts s values zones n m c × AreRanges s values zones m end cs
