-- How many tiles the patches of an edit hold.
use Rattle.std.specs.Prelude.{ℕ, Bool, ◌||◌, ◌==◌, count_by}
use Rattle.std.specs.List.{list_any, range_with_len}
use Rattle.layer_tiles.specs.Tiles.{tiles_in}
use Rattle.layer_tiles.specs.Changes.{ChangeState}

-- the patch of the values or that of the zones holds tile t
abbrev pub is_held : ChangeState → ChangeState → ℕ → Bool
is_held values zones t = list_any (λ u. u == t) values.touched || list_any (λ u. u == t) zones.touched

-- how many tiles of the map either patch holds
unfoldable pub tiles_held : ChangeState → ChangeState → ℕ
tiles_held values zones = count_by (is_held values zones) (range_with_len 0 (tiles_in zones.size))
