-- Kinds of operations, by their classes.
use Rattle.std.specs.Prelude.{Bool, true, false}
use Rattle.map_defs.specs.Ops.{Op}
use Rattle.map_defs.specs.Facts.{Class, local_class, near_class, zonal_class, path_class, nearest_class, region_class, class_of}

abbrev pub by_reach_in : Class → Bool
by_reach_in (zonal_class stat) = false
by_reach_in path_class = false
by_reach_in (nearest_class limit) = false
by_reach_in region_class = false
by_reach_in class = true

abbrev pub is_plain_in : Class → Bool
is_plain_in local_class = true
is_plain_in (near_class r) = true
is_plain_in class = false

abbrev pub is_zonal_in : Class → Bool
is_zonal_in (zonal_class stat) = true
is_zonal_in class = false

abbrev pub is_nearest_in : Class → Bool
is_nearest_in (nearest_class limit) = true
is_nearest_in class = false

-- its reach alone tells its damage
abbrev pub by_reach : Op → Bool
by_reach op = by_reach_in (class_of op)

-- its tiles come from the operands alone
abbrev pub is_plain : Op → Bool
is_plain op = is_plain_in (class_of op)

abbrev pub is_zonal : Op → Bool
is_zonal op = is_zonal_in (class_of op)

abbrev pub is_nearest : Op → Bool
is_nearest op = is_nearest_in (class_of op)
