-- The different cells of a grid and the pairs of two, as the code holds them.
use Rattle.std.specs.Prelude.{ℕ, ℤ, ◌+ℤ◌, ◌*ℤ◌, pos, Bool, ◌&&◌, List, map, Option}
use Rattle.map_nums.specs.Grids.{Cells}
use Rattle.map_defs.specs.Cells.{same_cell}
use Rattle.map_defs.specs.Kinds.{Pair as Crossed, kinds_of, how_many, pairs_of}
use Rattle.layer_tiles.specs.Cells.{word_of}
use Rattle.cell_kinds.specs.declared.kinds.Kind.{Kind}
use Rattle.cell_kinds.specs.declared.combinations.Pair.{Pair}
use Rattle.cell_kinds.specs.declared.combinations.Combination.{Combination}

-- ---- cells

abbrev pub kind_from : Option ℤ × ℕ → Kind
kind_from e = record { cell = e.0; count = e.1 }

-- each different cell and how often it stands there, null first and then ascending
abbrev pub counted_kinds : Cells → List Kind
counted_kinds cells = map (λ c. record { cell = c; count = how_many cells c }) (kinds_of cells)

-- ---- pairs

abbrev pub same_pair : Pair → Pair → Bool
same_pair p q = same_cell p.zone q.zone && same_cell p.value q.value

-- the order of pairs: by zone, then by value
abbrev pub rank : Pair → ℤ
rank p = (word_of p.zone *ℤ pos 18446744073709551616) +ℤ word_of p.value

abbrev pub combination_from : Pair × ℕ → Combination
combination_from e = record { zone = e.0.zone; value = e.0.value; count = e.1 }

abbrev pub combination_of : Crossed → Combination
combination_of p = record { zone = p.zone; value = p.value; count = p.count }

-- the pairs that occur and how often each does, by zone, then value
abbrev pub counted_pairs : Cells → Cells → List Combination
counted_pairs zones values = map combination_of (pairs_of zones values)
