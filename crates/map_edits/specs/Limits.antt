-- How many names there may be, by kind.
use Rattle.std.specs.Prelude.{ℕ, ◌≤◌, nat_lt, Bool, true, false, List, [], ◌∷◌, count_by, Option, Some, None, if◌then◌else◌}
use Rattle.map_defs.specs.Facts.{Class, zonal_class, nearest_class, class_of}
use Rattle.map_edits.specs.Entries.{Def, source, statement, Entry}
use Rattle.map_edits.specs.LayerDefs.{Making, given_grid, by_op, LayerDef}

abbrev pub most_sources : ℕ
most_sources = 32

abbrev pub is_source : Entry → Bool
is_source e = of_def e.def
  where
    of_def : Def → Bool
    of_def (source grid) = true
    of_def (statement written flats) = false

-- ---- flat statements

-- kinds of which there may be so many
pub data Kind : Type 0 where
  any_kind : Kind
  zonal_kind : Kind
  nearest_kind : Kind

abbrev pub has_kind : Kind → Class → Bool
has_kind any_kind class = true
has_kind zonal_kind (zonal_class stat) = true
has_kind zonal_kind class = false
has_kind nearest_kind (nearest_class limit) = true
has_kind nearest_kind class = false

abbrev pub most_of : Kind → ℕ
most_of any_kind = 64
most_of zonal_kind = 12
most_of nearest_kind = 8

-- in the order in which they are told
abbrev pub kinds : List Kind
kinds = any_kind ∷ zonal_kind ∷ nearest_kind ∷ []

abbrev pub is_of : Kind → LayerDef → Bool
is_of kind l = of_making l.making
  where
    of_making : Making → Bool
    of_making (given_grid grid) = false
    of_making (by_op op) = has_kind kind (class_of op)

abbrev pub is_flat : LayerDef → Bool
is_flat = is_of any_kind

abbrev pub most_flats : ℕ
most_flats = most_of any_kind

-- the first kind of which there are too many
abbrev pub first_beyond : List Kind → List LayerDef → Option Kind
first_beyond [] ls = None
first_beyond (kind ∷ ks) ls = if nat_lt (most_of kind) (count_by (is_of kind) ls) then Some kind else first_beyond ks ls

-- there are too many of none
abbrev pub AreWithin : List Kind → List LayerDef → Type 0
AreWithin [] ls = Unit {0}
AreWithin (kind ∷ ks) ls = (count_by (is_of kind) ls ≤ most_of kind) × AreWithin ks ls
