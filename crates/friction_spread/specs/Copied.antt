-- Which tiles are copied.
use Rattle.std.specs.Prelude.{◌≡◌, ◌≢◌, ◌⊎◌, ℕ, ◌<◌, List, ℤ, Option, true}
use Rattle.map_nums.specs.Grids.{cells_in}
use Rattle.map_defs.specs.Nets.{IsLeastIn}
use Rattle.layer_tiles.specs.Tiles.{tile_of}
use Rattle.tile_work.specs.Working.{WorkState, is_copied, base_of}
use Rattle.friction_spread.specs.Costs.{GroundState, values, net_of}

-- a tile was copied before, or has place `at`, where `cause` holds
abbrev pub IsCopiedWhere : WorkState → ℕ → Type 0 → WorkState → Type 0
IsCopiedWhere old at cause new = (t : ℕ) → is_copied new t ≡ true → (is_copied old t ≡ true) ⊎ ((t ≡ tile_of old.size at) × cause)

-- the least cost of place i is not its old value
abbrev pub IsMoved : GroundState → Option (List (Option ℤ)) → ℕ → Type 0
IsMoved g before i = (c : ℕ → ℕ) → ((j : ℕ) → IsLeastIn (net_of g) j (c j)) → values g.limit (base_of before) i ≢ c i

abbrev pub HasMoved : GroundState → WorkState → Type 0
HasMoved g w = (i : ℕ) × (i < cells_in g.size) × IsMoved g w.before i

-- each copied tile has such a place
abbrev pub IsCaused : GroundState → WorkState → Type 0
IsCaused g w = (t : ℕ) → is_copied w t ≡ true → (i : ℕ) × (i < cells_in g.size) × (t ≡ tile_of g.size i) × IsMoved g w.before i
