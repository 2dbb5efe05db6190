-- Offsets by rows, and the numbers round a cell of a square.
use Rattle.std.specs.Prelude.{◌≡◌, ℕ, ◌+◌, ◌-◌, ◌*◌, ◌<◌, ◌≤◌, ℤ, pos, neg_ℤ, ◌+ℤ◌, List, map, length, slice_index, slice_range, Option}
use Rattle.std.specs.List.{range_with_len, flat_map}
use Rattle.map_nums.specs.declared.Stat.{Stat}
use Rattle.map_nums.specs.Stats.{statistic_of}
use Rattle.map_nums.specs.Grids.{Size, Cells, Offset, numbers_in}
use Rattle.layer_tiles.specs.Tiles.{Block, tile_height, tile_width}

-- the k-th number from -reach on
abbrev pub step : ℕ → ℕ → ℤ
step reach k = pos k +ℤ neg_ℤ (pos reach)

-- the offsets of row k, where it goes `half` to the left and to the right
abbrev pub row_offsets : ℕ → ℕ → ℕ → List Offset
row_offsets reach half k = map (λ j. (step reach k, step reach j)) (range_with_len (reach - half) (2 * half + 1))

unfoldable pub offsets_by : ℕ → List ℕ → List Offset
offsets_by reach halves = flat_map (λ k. row_offsets reach (slice_index halves k) k) (range_with_len 0 (2 * reach + 1))

-- no row goes further than the reach
pub record HasHalves (reach : ℕ) (halves : List ℕ) : Type 0 where
  pub few : reach ≤ 32
  pub count : length halves ≡ 65
  pub most : (k : ℕ) → k < 65 → slice_index halves k ≤ reach

pub record IsMask (offsets : List Offset) (reach : ℕ) (halves : List ℕ) : Type 0 where
  pub has : HasHalves reach halves
  pub are : offsets ≡ offsets_by reach halves

-- ---- the numbers round row r and column c of a tile, in its square grown by the reach, in rows of w cells

-- the cells at row k of the offsets
abbrev pub piece : ℕ → ℕ → Cells → ℕ → ℕ → ℕ → ℕ → Cells
piece reach half square w r c k = slice_range square ((r + k) * w + (c + reach - half)) ((r + k) * w + (c + reach - half) + (2 * half + 1))

abbrev pub piece_numbers : ℕ → List ℕ → Cells → ℕ → ℕ → ℕ → ℕ → List ℤ
piece_numbers reach halves square w r c k = numbers_in (piece reach (slice_index halves k) square w r c k)

-- the numbers at the first n rows of the offsets
unfoldable pub numbers_to : ℕ → List ℕ → Cells → ℕ → ℕ → ℕ → ℕ → List ℤ
numbers_to reach halves square w r c n = flat_map (piece_numbers reach halves square w r c) (range_with_len 0 n)

-- the numbers at all offsets
abbrev pub numbers_round : ℕ → List ℕ → Cells → ℕ → ℕ → ℕ → List ℤ
numbers_round reach halves square w r c = numbers_to reach halves square w r c (2 * reach + 1)

abbrev pub statistic_round : Stat → ℕ → List ℕ → Cells → ℕ → ℕ → ℕ → Option ℤ
statistic_round stat reach halves square w r c = statistic_of stat (numbers_round reach halves square w r c)

-- the square is larger than the tile by the reach on each side
pub record IsGrown (s : Size) (t reach : ℕ) (b : Block) : Type 0 where
  pub height : b.height ≡ tile_height s t + 2 * reach
  pub width : b.width ≡ tile_width s t + 2 * reach
  pub count : length b.cells ≡ b.height * b.width
