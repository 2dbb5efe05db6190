-- How many tiles a set and patches have.
use Rattle.std.specs.Prelude.{ℕ, Bool, false, ◌&&◌, ◌||◌, not, is_some, length, filter, Option, Some, None}
use Rattle.map_nums.specs.Tiles.{tiles}
use Rattle.layer_tiles.specs.Patches.{PatchState, patch_get}
use Rattle.damage_sets.specs.Sets.{TileSetState, has_tile}

-- there is a patch, and it has tile t
abbrev pub has_in : Option PatchState → ℕ → Bool
has_in None t = false
has_in (Some p) t = is_some (patch_get p.tiles t)

-- a patch has tile t, and neither a set nor another patch has it
abbrev pub is_new : PatchState → TileSetState → Option PatchState → ℕ → Bool
is_new patch set other t = is_some (patch_get patch.tiles t) && not (has_tile set t || has_in other t)

-- how many tiles a set, a patch or a further patch has
abbrev pub count_any : TileSetState → PatchState → Option PatchState → ℕ
count_any set patch further = length (filter (λ t. has_tile set t || (has_in further t || is_some (patch_get patch.tiles t))) (tiles patch.size))
