-- Keys that are numbers of tiles.
use Rattle.std.specs.Prelude.{ℕ, ◌^◌, nat_lt, ℤ, pos, negsuc, Option, Some, None, if◌then◌else◌}
use Rattle.zonal_totals.specs.declared.entries.Entry.{Entry}

-- the number, where it is one of 32 bits
abbrev pub natural : ℤ → Option ℕ
natural (pos n) = if nat_lt n (2 ^ 32) then Some n else None
natural (negsuc n) = None

-- the tile of an entry
abbrev pub tile_at : Option Entry → Option ℕ
tile_at None = None
tile_at (Some e) = natural e.pair.key
