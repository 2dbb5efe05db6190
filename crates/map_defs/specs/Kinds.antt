-- The different cells of a grid, how many there are of each, and the pairs of a zone and a value that occur.
use Rattle.std.specs.Prelude.{ℕ, ℤ, int_le, Bool, true, false, List, [], ◌∷◌, map, filter, flat_map, fold, zip, count_by, Option, Some, None, if◌then◌else◌}
use Rattle.map_nums.specs.Grids.{Cells}
use Rattle.map_defs.specs.Cells.{same_cell}

-- null stands before all numbers
abbrev pub is_before : Option ℤ → Option ℤ → Bool
is_before None c = true
is_before (Some z) None = false
is_before (Some z) (Some w) = int_le z w

-- with one more cell, in its place
abbrev pub with_kind : Cells → Option ℤ → Cells
with_kind [] c = c ∷ []
with_kind (d ∷ ds) c = if same_cell c d then d ∷ ds else (if is_before c d then c ∷ d ∷ ds else d ∷ with_kind ds c)

-- null first, then ascending, each once
abbrev pub kinds_of : Cells → Cells
kinds_of cells = fold with_kind [] cells

abbrev pub how_many : Cells → Option ℤ → ℕ
how_many cells c = count_by (same_cell c) cells

-- the values where the zone is this cell
abbrev pub values_in : Cells → Cells → Option ℤ → Cells
values_in zones values z = map (λ p. p.1) (filter (λ p. same_cell z p.0) (zip zones values))

pub record Pair : Type 0 where
  pub zone : Option ℤ
  pub value : Option ℤ
  -- at how many places
  pub count : ℕ

-- the pairs with this zone, by value
abbrev pub pairs_with : Cells → Cells → Option ℤ → List Pair
pairs_with zones values z = map (λ v. record { zone = z; value = v; count = how_many (values_in zones values z) v }) (kinds_of (values_in zones values z))

-- by zone, then value
abbrev pub pairs_of : Cells → Cells → List Pair
pairs_of zones values = flat_map (pairs_with zones values) (kinds_of zones)
