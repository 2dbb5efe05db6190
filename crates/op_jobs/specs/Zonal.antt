-- Zonal statements: the damage, the book that is kept, and what a book tells.
use Rattle.std.specs.Prelude.{◌≡◌, ◌≢◌, ◌⊎◌, ℕ, ◌<◌, Bool, true, false, ◌||◌, List, length, filter, slice_index_or, ℤ, Option, Some, None, IsSome, Result}
use Rattle.std.specs.List.{All, position}
use Rattle.std.specs.Ordering.{int_cmp}
use Rattle.std.specs.BTreeMap as tree
use Rattle.map_nums.specs.declared.Stat.{Stat}
use Rattle.map_nums.specs.declared.Stat.TheVariants.{Product}
use Rattle.map_nums.specs.declared.Wide.{Wide}
use Rattle.map_nums.specs.Answers.{is_wide}
use Rattle.map_nums.specs.Exact.{IsExact}
use Rattle.map_nums.specs.Stats.{statistic_of}
use Rattle.map_nums.specs.Grids.{Size, Cells}
use Rattle.map_nums.specs.Tiles.{tiles, tiles_in}
use Rattle.map_defs.specs.Zonal.{zonal_grid}
use Rattle.map_defs.specs.Operate.{operand}
use Rattle.map_defs.specs.Differences.{has_changed, square_has, tile_has, zone_differs_at}
use Rattle.layer_tiles.specs.Changes.{ChangeState}
use Rattle.layer_tiles.specs.Operands.{cells_after}
use Rattle.zonal_totals.specs.Books.{BookState, IsBookOf}
use Rattle.zonal_totals.specs.Numbers.{numbers, part_of}
use Rattle.map_waves.specs.Statements.{cells_were}

-- a tile with a changed operand cell, or with a cell whose zone has another statistic than before
abbrev pub is_zonal_damaged : Stat → Size → List Cells → List Cells → ℕ → Bool
is_zonal_damaged stat s before after t = square_has 0 s (has_changed before after) t || tile_has s (zone_differs_at stat s before after) t

-- the damage of a Zonal statement that was there
abbrev pub zonal_tiles : Stat → Size → List ChangeState → List ℕ
zonal_tiles stat s operands = filter (is_zonal_damaged stat s (cells_were operands) (cells_after operands)) (tiles s)

-- the book of the operands as they were, which were all there; each cell of the statement was in range
pub record IsRightBook (stat : Stat) (s : Size) (operands : List ChangeState) (b : BookState) : Type 0 where
  pub there : All (λ c. IsSome c.before) operands
  pub size : b.size ≡ s
  pub book : IsBookOf b (operand (cells_were operands) 0) (operand (cells_were operands) 1)
  pub in_range : position is_wide (zonal_grid stat s (operand (cells_were operands) 0) (operand (cells_were operands) 1)).cells ≡ None

-- the book counts some cells
pub record CountsCells (b : BookState) : Type 0 where
  pub values : Cells
  pub zones : Cells
  pub is : IsBookOf b values zones

-- the statistic of a zone, as a book tells it
abbrev pub told : Stat → BookState → ℤ → Option ℤ
told stat b z = statistic_of stat (numbers (part_of z b.values))

-- statistics of zones but products, each as a book of some cells tells it
pub record AreStats (stat : Stat) (b : BookState) (m : tree.BTreeMap ℤ (Result (Option ℤ) Wide)) : Type 0 where
  pub no_product : stat ≢ Product
  pub counts : CountsCells b
  pub each : (z : ℤ) (r : Result (Option ℤ) Wide) → tree.get int_cmp m z ≡ Some r → IsExact (told stat b z) r

-- just the tiles that are P were marked
pub record AreMarked (s : Size) (P : ℕ → Type 0) (old new : List Bool) : Type 0 where
  pub count : length new ≡ length old
  pub kept : (t : ℕ) → t < tiles_in s → slice_index_or old t false ≡ true → slice_index_or new t false ≡ true
  pub added : (t : ℕ) → t < tiles_in s → P t → slice_index_or new t false ≡ true
  pub only : (t : ℕ) → t < tiles_in s → slice_index_or new t false ≡ true → (slice_index_or old t false ≡ true) ⊎ P t
