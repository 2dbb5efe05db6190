-- A tile that is made row by row, and a row that is made cell by cell.
use Rattle.std.specs.Prelude.{◌≡◌, ℕ, ◌+◌, ◌*◌, ◌/◌, ◌%◌, ◌<◌, List, length, ℤ, Option, Result, Ok, Err, IsTrue, IsFalse}
use Rattle.map_nums.specs.Answers.{is_wide}
use Rattle.map_nums.specs.Grids.{Size, cell_at}
use Rattle.map_nums.specs.declared.Wide.{Wide}
use Rattle.layer_tiles.specs.Tiles.{Block, tile_width}
use Rattle.layer_tiles.specs.PlaceByPlace.{cell_in}
use Rattle.layer_tiles.specs.declared.kernels.KernelRefusal.{KernelRefusal}
use Rattle.layer_tiles.specs.declared.kernels.KernelRefusal.TheVariants.{Overflow, NoMemory}

-- what q gives at rows and columns, by places in rows of w
unfoldable pub by_row : ℕ → (ℕ → ℕ → Option ℤ) → ℕ → Option ℤ
by_row w q k = q (k / w) (k % w)

-- what becomes of a tile at a cell with this answer
abbrev pub refused_at : ℕ → Result (Option ℤ) Wide → Result (Unit {0}) KernelRefusal
refused_at at (Ok value) = Ok tt
refused_at at (Err wide) = Err (Overflow at)

-- the first n cells of row r have these values, all of them in range; the rows above stay
pub record IsRowMade (value : ℕ → Option ℤ) (width r n : ℕ) (old new : Block) : Type 0 where
  pub height_stays : new.height ≡ old.height
  pub width_stays : new.width ≡ old.width
  pub count : length new.cells ≡ length old.cells
  pub above : (k : ℕ) → k < r * width → cell_at new.cells k ≡ cell_at old.cells k
  pub done : (c : ℕ) → c < n → cell_at new.cells (r * width + c) ≡ value c
  pub in_range : (c : ℕ) → c < n → IsFalse (is_wide (value c))

-- the first n cells of a list have these values, all of them in range
pub record AreCellsOf (value : ℕ → Option ℤ) (n : ℕ) (cells : List (Option ℤ)) : Type 0 where
  pub same : (c : ℕ) → c < n → cell_at cells c ≡ value c
  pub in_range : (c : ℕ) → c < n → IsFalse (is_wide (value c))

-- the first column whose value is out of range is that of cell `at`
pub record IsFirstWide (value : ℕ → Option ℤ) (s : Size) (t r at : ℕ) : Type 0 where
  pub column : ℕ
  pub within : column < tile_width s t
  pub is_at : at ≡ cell_in s t r column
  pub wide : IsTrue (is_wide (value column))
  pub first : (c : ℕ) → c < column → IsFalse (is_wide (value c))

-- why a row was not made; want of memory is free
abbrev pub IsRowRefusal : (ℕ → Option ℤ) → Size → ℕ → ℕ → KernelRefusal → Type 0
IsRowRefusal value s t r (Overflow at) = IsFirstWide value s t r at
IsRowRefusal value s t r NoMemory = Unit {0}

-- row r was made where all its values are in range, and exactly there
abbrev pub IsRowAnswer : (ℕ → Option ℤ) → Size → ℕ → ℕ → Block → Block → Result (Unit {0}) KernelRefusal → Type 0
IsRowAnswer value s t r old new (Ok done) = IsRowMade value (tile_width s t) r (tile_width s t) old new
IsRowAnswer value s t r old new (Err e) = IsRowRefusal value s t r e
