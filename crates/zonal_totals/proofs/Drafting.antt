-- The changes of an edit, tile by tile.
use Rattle.std.proofs.Common.{◌≡◌, ℕ, ◌+◌, ◌*◌, ◌/◌, ◌<◌, ◌≤◌, Result, Ok, Err, OnOk, Option, Some, Contains, refl, sym, ap, subst, arith, ℤ, pos}
use Rattle.std.proofs.lemmas.Int.{ints}
use Rattle.map_nums.specs.declared.NoMemory.{NoMemory}
use Rattle.std.proofs.lemmas.Nat.{mul-le}
use Rattle.map_nums.specs.Grids.{Size, IsSize, Cells, cells_in, cell_at}
use Rattle.layer_tiles.specs.Tiles.{Block, tiles_in, tiles_down, tiles_across, tile_size, tile_height, tile_width, tile_block, tile_of}
use Rattle.layer_tiles.specs.Changes.{ChangeState, cells_before}
use Rattle.layer_tiles.proofs.Places.{placed}
use Rattle.zonal_totals.specs.declared.pairs.Pair.{Pair}
use Rattle.zonal_totals.specs.Sums.{sum_to, shift, place_of}
use Rattle.zonal_totals.specs.Books.{tile_number}
use Rattle.zonal_totals.specs.Drafts.{value_shift, tile_shift}
use Rattle.zonal_totals.proofs.Steady.{IsSteady}
use Rattle.zonal_totals.proofs.Sums.{sum_same, sum_zero, tile_cell, place_tile, same_shift}

few : (n d : ℕ) → n ≤ 4096 → (n + 31) / 32 ≤ 128
few n d h = omega arith

pub few_tiles : (s : Size) → IsSize s → tiles_in s ≤ 16384
unfolding tiles_in tiles_down tiles_across
few_tiles s h = omega (arith, mul-le ((s.rows + 31) / 32) ((s.columns + 31) / 32) 128 128 (few s.rows 0 h.most_rows) (few s.columns 0 h.most_columns))

pub small_tile : (s : Size) (t : ℕ) → IsSize s → t < tiles_in s → tile_size s t ≤ 1024
small_tile s t h l = let p = placed s t h l in omega (arith, mul-le (tile_height s t) (tile_width s t) 32 32 p.most_rows p.most_columns)

module _ (s : Size) (size : IsSize s) (t : ℕ) (h : t < tiles_in s) (p : Pair) where
  -- the sums over a lent tile and over its places
  pub lent_values : (zb vb z v : Cells) → sum_to (λ k. shift p (cell_at (tile_block s zb t).cells k) (cell_at (tile_block s vb t).cells k) (cell_at (tile_block s z t).cells k) (cell_at (tile_block s v t).cells k)) (tile_height s t * tile_width s t)
      ≡ sum_to (λ k. shift p (cell_at zb (place_of s t k)) (cell_at vb (place_of s t k)) (cell_at z (place_of s t k)) (cell_at v (place_of s t k))) (tile_size s t)
  lent_values zb vb z v =
      sum_same _ _ (tile_size s t) (λ k l. same_shift p _ _ _ _ _ _ _ _ (tile_cell s size zb t k l) (tile_cell s size vb t k l) (tile_cell s size z t k l) (tile_cell s size v t k l))

  number : (k : ℕ) → k < tile_size s t → Some (pos t) ≡ tile_number s (place_of s t k)
  number k l = ap (λ n. Some (pos n)) (sym (place_tile s size t k h l).1)

  pub lent_zones : (zb z : Cells) → sum_to (λ k. shift p (cell_at (tile_block s zb t).cells k) (Some (pos t)) (cell_at (tile_block s z t).cells k) (Some (pos t))) (tile_height s t * tile_width s t)
      ≡ sum_to (λ k. shift p (cell_at zb (place_of s t k)) (tile_number s (place_of s t k)) (cell_at z (place_of s t k)) (tile_number s (place_of s t k))) (tile_size s t)
  lent_zones zb z =
      sum_same _ _ (tile_size s t) (λ k l. same_shift p _ _ _ _ _ _ _ _ (tile_cell s size zb t k l) (number k l) (tile_cell s size z t k l) (number k l))

  -- the same, as the loans say it
  pub values_lent : (values zones : ChangeState) → values.size ≡ s → zones.size ≡ s → (zb vb z v : Block) (height width : ℕ) → zb ≡ tile_block zones.size (cells_before zones) t → vb ≡ tile_block values.size (cells_before values) t → z ≡ tile_block zones.size zones.cells t → v ≡ tile_block values.size values.cells t
      → height ≡ tile_height s t → width ≡ tile_width s t
      → sum_to (λ k. shift p (cell_at zb.cells k) (cell_at vb.cells k) (cell_at z.cells k) (cell_at v.cells k)) (height * width) ≡ sum_to (λ k. shift p (cell_at (cells_before zones) (place_of s t k)) (cell_at (cells_before values) (place_of s t k)) (cell_at zones.cells (place_of s t k)) (cell_at values.cells (place_of s t k))) (tile_size s t)
  values_lent values zones ev ez zb vb z v height width a b d e f g = rw (a, b, d, e, ev, ez, f, g) (lent_values (cells_before zones) (cells_before values) zones.cells values.cells)

  pub zones_lent : (zones : ChangeState) → zones.size ≡ s → (zb z : Block) (key : Option ℤ) (height width : ℕ) → zb ≡ tile_block zones.size (cells_before zones) t → z ≡ tile_block zones.size zones.cells t → key ≡ Some (pos t)
      → height ≡ tile_height s t → width ≡ tile_width s t
      → sum_to (λ k. shift p (cell_at zb.cells k) key (cell_at z.cells k) key) (height * width) ≡ sum_to (λ k. shift p (cell_at (cells_before zones) (place_of s t k)) (tile_number s (place_of s t k)) (cell_at zones.cells (place_of s t k)) (tile_number s (place_of s t k))) (tile_size s t)
  zones_lent zones ez zb z key height width a d n f g = rw (a, d, ez, n, f, g) (lent_zones (cells_before zones) zones.cells)

no_shift : (p : Pair) (a b c d : Option ℤ) → a ≡ c → b ≡ d → shift p a b c d ≡ pos 0
no_shift p a b c d e f = rw (e, f) (omega (arith, ints))

-- a tile that no patch holds
module _ (values zones : ChangeState) (e : values.size ≡ zones.size) (size : IsSize zones.size) (t : ℕ) (h : t < tiles_in zones.size) (sv : IsSteady values) (sz : IsSteady zones)
    (nv : Contains values.touched t → ⊥) (nz : Contains zones.touched t → ⊥) (p : Pair) where
  same_zone : (k : ℕ) → k < tile_size zones.size t → cell_at (cells_before zones) (place_of zones.size t k) ≡ cell_at zones.cells (place_of zones.size t k)
  same_zone k l =
      let a = place_tile zones.size size t k h l in
      sz (place_of zones.size t k) a.0 (λ c. nz (subst (λ u. Contains zones.touched u) a.1 c))

  same_value : (k : ℕ) → k < tile_size zones.size t → cell_at (cells_before values) (place_of zones.size t k) ≡ cell_at values.cells (place_of zones.size t k)
  same_value k l =
      let a = place_tile zones.size size t k h l in
      let P : Size → Type 0 = λ s. place_of zones.size t k < cells_in s → tile_of s (place_of zones.size t k) ≡ t → cell_at (cells_before values) (place_of zones.size t k) ≡ cell_at values.cells (place_of zones.size t k) in
      subst P e (λ b d. sv (place_of zones.size t k) b (λ c. nv (subst (λ u. Contains values.touched u) d c))) a.0 a.1

  pub still_values : sum_to (λ k. value_shift values zones p (place_of zones.size t k)) (tile_size zones.size t) ≡ pos 0
  still_values = sum_zero _ (tile_size zones.size t) (λ k l. no_shift p _ _ _ _ (same_zone k l) (same_value k l))

  pub still_zones : sum_to (λ k. tile_shift zones p (place_of zones.size t k)) (tile_size zones.size t) ≡ pos 0
  still_zones = sum_zero _ (tile_size zones.size t) (λ k l. no_shift p _ _ _ _ (same_zone k l) refl)

-- ---- clauses

pub on_any : {P : Type 0} (r : Result (Unit {0}) NoMemory) → P → OnOk r P
on_any (Ok x) h = h
on_any (Err e) h = tt
