-- The tiles that a rectangle meets, where they stand, counted and listed.
use Rattle.std.proofs.Common.{◌≡◌, ℕ, suc, ◌+◌, ◌-◌, ◌*◌, ◌/◌, ◌%◌, ◌<◌, ◌≤◌, min, ◌&&◌, nat_le, true, sym, ◌∙◌, ap, arith, IsTrue, zero, ◌==◌, Bool, cond, [], ◌∷◌, ◌++◌, filter, length, IsSome, subst}
use Rattle.std.specs.Prelude.{◌↔◌}
use Rattle.std.specs.List.{range_with_len}
use Rattle.std.proofs.lemmas.Bool.{eqb-true, eq-eqb}
use Rattle.std.proofs.lemmas.Bool.Decides.{nat_tests}
use Rattle.std.proofs.lemmas.List.{length-map, length-append}
use Rattle.std.proofs.lemmas.List.Elements.{filter-append}
use Rattle.std.proofs.lemmas.Nat.{div-mul-add, mod-mul-add, mul-le, mul-add-lt, div_below, le-div}
use Rattle.map_nums.specs.Grids.{Size, IsSize, row_of, column_of, cells_in}
use Rattle.map_edits.specs.EditForms.{Rectangle}
use Rattle.map_edits.specs.Painting.{is_within, holds}
use Rattle.layer_tiles.specs.Tiles.{tiles_across, tiles_in, tile_top, tile_left, tile_height, tile_width, tile_start, Block, tiles_down, tile_of}
use Rattle.layer_tiles.proofs.Places.{placed, across_some}
use Rattle.layer_tiles.proofs.Rounds.{here}
use Rattle.layer_tiles.proofs.Lent.{tile_at}
use Rattle.live_engine.specs.Painting.{IsCounted, MeetsRectangle, first_row, last_row, first_column, last_column, met_tiles, met_count}
use Rattle.map_defs.specs.Differences.{tile_has}
use Rattle.layer_tiles.specs.Patches.{PatchState, IsPatch, patch_get, numbers_of}
use Rattle.layer_tiles.specs.Tallies.{TallyState, RisesBy, looked}
use Rattle.layer_tiles.proofs.Rising.{rises_then, rises_looked, rises_within}
use Rattle.layer_tiles.proofs.ChangeLaws.{numbers_within}
use Rattle.layer_tiles.proofs.Found.{Contains-from_get, get-from_Contains}
use Rattle.op_jobs.proofs.WholeTiles.{increasing_filter}
use Rattle.edit_plans.proofs.Restamped.{any_so, any_is}

-- four tests at once
four : (a b c d e f g h : ℕ) → a ≤ b → c ≤ d → e ≤ f → g ≤ h → (nat_le a b && nat_le c d && nat_le e f && nat_le g h) ≡ true
four a b c d e f g h p q r t = grind (arith, nat_tests)

parts : (a b c d e f g h : ℕ) → IsTrue (nat_le a b && nat_le c d && nat_le e f && nat_le g h) → (a ≤ b) × (c ≤ d) × (e ≤ f) × (g ≤ h)
parts a b c d e f g h t = (grind (arith, nat_tests), grind (arith, nat_tests), grind (arith, nat_tests), grind (arith, nat_tests))

-- the row and the column of a place in a tile
pub line_of : (s : Size) (t r c : ℕ) → IsSize s → t < tiles_in s → c < tile_width s t → (row_of s (tile_start s t + r * s.columns + c) ≡ tile_top s t + r) × (column_of s (tile_start s t + r * s.columns + c) ≡ tile_left s t + c)
unfolding tile_start
line_of s t r c h l q =
    let a = placed s t h l in
    let e : tile_top s t * s.columns + tile_left s t + r * s.columns + c ≡ (tile_top s t + r) * s.columns + (tile_left s t + c) = omega arith in
    let column : tile_left s t + c < s.columns = omega (arith, a.last_column) in
    (ap (λ n. n / s.columns) e ∙ div-mul-add (tile_top s t + r) s.columns (tile_left s t + c) column, ap (λ n. n % s.columns) e ∙ mod-mul-add (tile_top s t + r) s.columns (tile_left s t + c) column)

-- a tile stands in the rows and the columns of tiles of the rectangle
record StandsIn (s : Size) (r : Rectangle) (t : ℕ) : Type 0 where
  below : first_row r ≤ t / tiles_across s
  above : t / tiles_across s ≤ last_row r
  behind : first_column r ≤ t % tiles_across s
  before : t % tiles_across s ≤ last_column r

thirty_two : (a b : ℕ) → 32 * a ≡ 32 * b → a ≡ b
thirty_two a b h = omega arith

divided : (a b : ℕ) → a ≤ b → a / 32 ≤ b / 32
divided a b h = omega arith

-- as each that has a cell in the rectangle does
stands_in : (s : Size) (r : Rectangle) (t : ℕ) → IsSize s → MeetsRectangle s r t → StandsIn s r t
unfolding tile_top tile_left
stands_in s r t h m =
    let a = tile_at s m.at h in
    let f = parts r.top (suc (row_of s m.at)) (suc (row_of s m.at)) r.bottom r.left (suc (column_of s m.at)) (suc (column_of s m.at)) r.right m.held in
    let row : t / tiles_across s ≡ row_of s m.at / 32 = thirty_two (t / tiles_across s) (row_of s m.at / 32) (ap (tile_top s) (sym m.tile) ∙ a.top) in
    let column : t % tiles_across s ≡ column_of s m.at / 32 = thirty_two (t % tiles_across s) (column_of s m.at / 32) (ap (tile_left s) (sym m.tile) ∙ a.left) in
    record {
      below = rw row (divided (r.top - 1) (row_of s m.at) (omega (arith, f.0)));
      above = rw row (divided (row_of s m.at) (r.bottom - 1) (omega (arith, f.1)));
      behind = rw column (divided (r.left - 1) (column_of s m.at) (omega (arith, f.2)));
      before = rw column (divided (column_of s m.at) (r.right - 1) (omega (arith, f.3)));
    }

-- the first row of a tile, and a row of it that is near
near_row : (top bottom side q : ℕ) → 1 ≤ top → top ≤ bottom → bottom ≤ side → (top - 1) / 32 ≤ q → q ≤ (bottom - 1) / 32 → 0 < min 32 (side - 32 * q)
    → (top - 1 - 32 * q < min 32 (side - 32 * q)) × (top ≤ suc (32 * q + (top - 1 - 32 * q))) × (suc (32 * q + (top - 1 - 32 * q)) ≤ bottom)
near_row top bottom side q some rise within low high there = (omega arith, omega arith, omega arith)

-- and each that stands in them has one
meets_rectangle : (s : Size) (r : Rectangle) (t : ℕ) → IsSize s → t < tiles_in s → IsCounted r → IsTrue (is_within s r) → StandsIn s r t → MeetsRectangle s r t
unfolding tile_top tile_left tile_height tile_width
meets_rectangle s r t h l counted w stands =
    let a = placed s t h l in
    let f = parts r.top r.bottom r.left r.right r.bottom s.rows r.right s.columns w in
    let row = r.top - 1 - tile_top s t in
    let column = r.left - 1 - tile_left s t in
    let p = near_row r.top r.bottom s.rows (t / tiles_across s) counted.top f.0 f.2 stands.below stands.above a.some_row in
    let q = near_row r.left r.right s.columns (t % tiles_across s) counted.left f.1 f.3 stands.behind stands.before a.some_column in
    let k = here s t row column h l p.0 q.0 in
    let e = line_of s t row column h l q.0 in
    record {
      at = tile_start s t + row * s.columns + column;
      within = k.within;
      tile = k.tile;
      held = rw (e.0, e.1) (four r.top (suc (tile_top s t + row)) (suc (tile_top s t + row)) r.bottom r.left (suc (tile_left s t + column)) (suc (tile_left s t + column)) r.right p.1 p.2 q.1 q.2);
    }

-- ---- tiles that are met

met_has : (s : Size) (r : Rectangle) (t : ℕ) → MeetsRectangle s r t → tile_has s (holds s r) t ≡ true
met_has s r t m = any_so (λ i. tile_of s i == t) (holds s r) 0 (cells_in s) m.at (omega arith) (omega (arith, m.within)) (eq-eqb (tile_of s m.at) t m.tile) m.held

has_met : (s : Size) (r : Rectangle) (t : ℕ) → tile_has s (holds s r) t ≡ true → MeetsRectangle s r t
has_met s r t e =
    let a = any_is (λ i. tile_of s i == t) (holds s r) 0 (cells_in s) e in
    record { at = a.place; within = omega (arith, a.below); tile = eqb-true (tile_of s a.place) t a.first; held = a.second }

-- the tiles of a patch are just those
pub met_numbers : (s : Size) (r : Rectangle) (p : PatchState) → IsPatch p → p.size ≡ s → ((t : ℕ) → IsSome (patch_get p.tiles t) ↔ MeetsRectangle s r t) → length p.tiles ≡ length (met_tiles s r)
met_numbers s r p is size met =
    let numbers : numbers_of p.tiles ≡ met_tiles s r = increasing_filter (tile_has s (holds s r)) (tiles_in s) 0 (numbers_of p.tiles) is.ascends
    (λ t c.
    let within : t < tiles_in s = subst (λ (z : Size). t < tiles_in z) size (numbers_within p is t c) in
    (omega arith, omega (arith, within), met_has s r t ((met t).0 (get-from_Contains p.tiles t c))))
    (λ t a b e. Contains-from_get p.tiles t ((met t).1 (has_met s r t e))) in
    sym (length-map p.tiles (λ (e : ℕ × Block). e.0)) ∙ ap length numbers

-- ---- counts

range_join : (a n k : ℕ) → range_with_len a (n + k) ≡ range_with_len a n ++ range_with_len (a + n) k
range_join a zero k =
    let none : 0 + k ≡ k = omega arith in
    let same : a ≡ a + 0 = omega arith in
    ap (range_with_len a) none ∙ ap (λ j. range_with_len j k) same
range_join a (suc n) k =
    let next : suc n + k ≡ suc (n + k) = omega arith in
    let past : a + 1 + n ≡ a + suc n = omega arith in
    ap (range_with_len a) next ∙ ap (λ ts. a ∷ ts) (range_join (a + 1) n k) ∙ ap (λ j. (a ∷ range_with_len (a + 1) n) ++ range_with_len j k) past

module _ (s : Size) (r : Rectangle) where
  met_join : (a n k : ℕ) → met_count s r a (n + k) ≡ met_count s r a n + met_count s r (a + n) k
  met_join a n k =
      let has = tile_has s (holds s r) in
      ap (λ ts. length (filter has ts)) (range_join a n k) ∙ ap length (filter-append has (range_with_len a n) (range_with_len (a + n) k)) ∙ length-append (filter has (range_with_len a n)) (filter has (range_with_len (a + n) k))

  -- looks at the first of them are no more than at all
  pub met_fewer : (a n k : ℕ) → n ≤ k → (x y : TallyState) → RisesBy (met_count s r a n) 0 x y → RisesBy (met_count s r a k) 0 x y
  met_fewer a n k h x y =
      let split : n + (k - n) ≡ k = omega arith in
      let join = met_join a n (k - n) in
      let whole : met_count s r a (n + (k - n)) ≡ met_count s r a k = ap (met_count s r a) split in
      rises_within (met_count s r a n) 0 (met_count s r a k) 0 x y (omega (arith, join, whole)) (omega arith)

  -- one look more, at one that is met
  met_looked : (a n : ℕ) → MeetsRectangle s r (a + n) → (x y z : TallyState) → RisesBy (met_count s r a n) 0 x y → z ≡ looked 1 y → RisesBy (met_count s r a (n + 1)) 0 x z
  met_looked a n met x y z before look =
      let join = met_join a n 1 in
      let one : met_count s r (a + n) 1 ≡ 1 = ap (λ (b : Bool). length (cond b ((a + n) ∷ []) [])) (met_has s r (a + n) met) in
      rises_within (met_count s r a n + 1) 0 (met_count s r a (n + 1)) 0 x z (omega (arith, join, one)) (omega arith) (rises_looked (met_count s r a n) 0 1 x y z before look)

  -- looks at those of one row of tiles more
  pub met_row : (row : ℕ) (x y z : TallyState) → RisesBy (met_count s r 0 (row * tiles_across s)) 0 x y → RisesBy (met_count s r (row * tiles_across s) (tiles_across s)) 0 y z → RisesBy (met_count s r 0 ((row + 1) * tiles_across s)) 0 x z
  met_row row x y z before own =
      let across = tiles_across s in
      let from : 0 + row * across ≡ row * across = omega arith in
      let next : row * across + across ≡ (row + 1) * across = omega arith in
      let join : met_count s r 0 ((row + 1) * across) ≡ met_count s r 0 (row * across) + met_count s r (row * across) across =
      ap (met_count s r 0) (sym next) ∙ met_join 0 (row * across) across ∙ ap (λ a. met_count s r 0 (row * across) + met_count s r a across) from in
      rises_within (met_count s r 0 (row * across) + met_count s r (row * across) across) (0 + 0) (met_count s r 0 ((row + 1) * across)) 0 x z (omega (arith, join)) (omega arith) (rises_then _ _ _ _ x y z before own)

-- ---- rows of tiles

few_tiles : (s : Size) → IsSize s → tiles_in s ≤ 128 * 128
unfolding tiles_in tiles_down tiles_across
few_tiles s h = mul-le ((s.rows + 31) / 32) ((s.columns + 31) / 32) 128 128 (omega (arith, h.most_rows)) (omega (arith, h.most_columns))

module _ (s : Size) (r : Rectangle) (size : IsSize s) (counted : IsCounted r) (within : IsTrue (is_within s r)) where
  sides : (r.top ≤ r.bottom) × (r.left ≤ r.right) × (r.bottom ≤ s.rows) × (r.right ≤ s.columns)
  sides = parts r.top r.bottom r.left r.right r.bottom s.rows r.right s.columns within

  pub column_within : (column : ℕ) → column ≤ last_column r → column < tiles_across s
  unfolding tiles_across
  column_within column h = let f = sides in let some = counted.left in omega (arith, f.1, f.3)

  row_within : (row : ℕ) → row ≤ last_row r → row < tiles_down s
  unfolding tiles_down
  row_within row h = let f = sides in let some = counted.top in omega (arith, f.0, f.2)

  tile_within : (row column : ℕ) → row ≤ last_row r → column < tiles_across s → row * tiles_across s + column < tiles_in s
  unfolding tiles_in
  tile_within row column h k = omega (arith, mul-add-lt row (tiles_across s) column (tiles_down s) (row_within row h) k)

  pub columns_rise : first_column r ≤ last_column r
  columns_rise = let f = sides in divided (r.left - 1) (r.right - 1) (omega (arith, f.1))

  pub rows_rise : first_row r ≤ last_row r
  rows_rise = let f = sides in divided (r.top - 1) (r.bottom - 1) (omega (arith, f.0))

  pub rows_within : (row : ℕ) → row ≤ last_row r + 1 → row * tiles_across s ≤ tiles_in s
  unfolding tiles_in
  rows_within row h = let w = row_within (last_row r) (omega arith) in mul-le row (tiles_across s) (tiles_down s) (tiles_across s) (omega arith) (omega arith)

  -- where a tile that is met stands among those of its row of tiles
  stands_at : (row t : ℕ) → row * tiles_across s ≤ t → t < (row + 1) * tiles_across s → MeetsRectangle s r t → (first_column r ≤ t - row * tiles_across s) × (t - row * tiles_across s ≤ last_column r)
  stands_at row t from to met =
      let column = t - row * tiles_across s in
      let at : row * tiles_across s + column ≡ t = omega arith in
      let k : column < tiles_across s = omega arith in
      let m : t % tiles_across s ≡ column = ap (λ j. j % tiles_across s) (sym at) ∙ mod-mul-add row (tiles_across s) column k in
      let stands = stands_in s r t size met in
      (omega (arith, stands.behind, m), omega (arith, stands.before, m))

  -- none stands before the columns or behind them
  pub unmet_before : (row t : ℕ) → row * tiles_across s ≤ t → t < row * tiles_across s + first_column r → MeetsRectangle s r t → ⊥
  unmet_before row t from to met =
      let some = column_within (first_column r) columns_rise in
      let stands = stands_at row t from (omega (arith, some)) met in
      omega (arith, stands.0)

  pub unmet_behind : (row t : ℕ) → row * tiles_across s + (last_column r + 1) ≤ t → t < (row + 1) * tiles_across s → MeetsRectangle s r t → ⊥
  unmet_behind row t from to met = let stands = stands_at row t (omega arith) to met in omega (arith, stands.1)

  -- nor above or below the rows
  pub unmet_above : (t : ℕ) → t < first_row r * tiles_across s → MeetsRectangle s r t → ⊥
  unmet_above t to met = let stands = stands_in s r t size met in omega (arith, stands.below, div_below t (tiles_across s) (first_row r) (across_some s size) to)

  pub unmet_below : (t : ℕ) → (last_row r + 1) * tiles_across s ≤ t → MeetsRectangle s r t → ⊥
  unmet_below t from met = let stands = stands_in s r t size met in omega (arith, stands.above, le-div (last_row r + 1) t (tiles_across s) (across_some s size) from)

  -- ---- a row of tiles that is met, with so many across

  module _ (row : ℕ) (rows : (first_row r ≤ row) × (row ≤ last_row r)) (extent : Size) (extent_is : extent ≡ s) (across : ℕ) (across_is : across ≡ tiles_across extent) where
    pub base_is : row * across ≡ row * tiles_across s
    base_is = ap (λ a. row * a) (across_is ∙ ap tiles_across extent_is)

    pub row_few : row * across ≤ 128 * 128
    row_few = omega (arith, base_is, few_tiles s size, tile_within row 0 rows.1 (across_some s size))

    -- a tile of it in the columns, at its place in the row
    pub record IsMet (column : ℕ) : Type 0 where
      pub tile : row * tiles_across s + column ≡ row * across + column
      pub inside : row * across + column < tiles_in s
      pub on_extent : row * across + column < tiles_in extent
      pub few : row * across + column ≤ 128 * 128
      pub met : MeetsRectangle s r (row * across + column)
      pub looks : (x y z : TallyState) → RisesBy (met_count s r (row * tiles_across s) column) 0 x y → z ≡ looked 1 y → RisesBy (met_count s r (row * tiles_across s) (column + 1)) 0 x z
      pub row_looks : (x y z : TallyState) → RisesBy (met_count s r (row * tiles_across s) column) 0 x y → z ≡ looked 1 y → RisesBy (met_count s r (row * tiles_across s) (tiles_across s)) 0 x z

    pub is_met : (column : ℕ) → first_column r ≤ column → column < last_column r + 1 → IsMet column
    is_met column from to =
        let k = column_within column (omega (arith, to)) in
        let t = row * tiles_across s + column in
        let q : t / tiles_across s ≡ row = div-mul-add row (tiles_across s) column k in
        let m : t % tiles_across s ≡ column = mod-mul-add row (tiles_across s) column k in
        let here = tile_within row column rows.1 k in
        let met = meets_rectangle s r t size here counted within (record { below = rw q rows.0; above = rw q rows.1; behind = rw m from; before = rw m (omega (arith, to)) }) in
        let tile : t ≡ row * across + column = omega (arith, base_is) in
        let looks = met_looked s r (row * tiles_across s) column met in
        record {
          tile = tile;
          inside = omega (arith, tile, here);
          on_extent = omega (arith, tile, here, ap tiles_in extent_is);
          few = omega (arith, tile, here, few_tiles s size);
          met = subst (MeetsRectangle s r) tile met;
          looks = looks;
          row_looks = λ x y z before look. met_fewer s r (row * tiles_across s) (column + 1) (tiles_across s) (omega (arith, k)) x z (looks x y z before look);
        }
