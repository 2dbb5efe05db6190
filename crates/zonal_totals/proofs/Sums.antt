-- Sums over places, row by row and tile by tile.
use Rattle.std.proofs.Common.{◌≡◌, ◌≢◌, inl, inr, ℕ, zero, suc, ◌+◌, ◌-◌, ◌*◌, ◌/◌, ◌%◌, ◌<◌, ◌≤◌, Bool, true, false, cond, ◌&&◌, ◌==◌, Option, None, refl, sym, ◌∙◌, ap, arith, ℤ, pos, ◌+ℤ◌, ◌-ℤ◌}
use Rattle.std.proofs.lemmas.Int.{ints}
use Rattle.std.proofs.lemmas.Bool.{cases_lt}
use Rattle.std.proofs.lemmas.Bool.Decides.{nat_tests}
use Rattle.std.proofs.lemmas.Nat.{div_below, mod_below, div-add-mod', div-mul-add, mod-mul-add, mul-add-lt, mul-le}
use Rattle.map_nums.specs.Grids.{Size, IsSize, Cells, cells_in, cell_at}
use Rattle.layer_tiles.specs.Tiles.{tile_width, tile_height, tile_size, tile_start, tiles_in, tile_of, tile_cells}
use Rattle.layer_tiles.proofs.Strides.{width_some, get_or-strided}
use Rattle.layer_tiles.proofs.Rounds.{here, back}
use Rattle.layer_tiles.specs.Tiles.{place_in}
use Rattle.zonal_totals.specs.declared.pairs.Pair.{Pair}
use Rattle.zonal_totals.specs.Sums.{sum_to, place_of, pair_at, held, shift}

pub sum_same : (f g : ℕ → ℤ) (n : ℕ) → ((i : ℕ) → i < n → f i ≡ g i) → sum_to f n ≡ sum_to g n
sum_same f g zero h = refl
sum_same f g (suc n) h = omega (arith, ints, sum_same f g n (λ i l. h i (omega arith)), h n (omega arith))

pub sum_zero : (f : ℕ → ℤ) (n : ℕ) → ((i : ℕ) → i < n → f i ≡ pos 0) → sum_to f n ≡ pos 0
sum_zero f zero h = refl
sum_zero f (suc n) h = omega (arith, ints, sum_zero f n (λ i l. h i (omega arith)), h n (omega arith))

pub sum_add : (f g : ℕ → ℤ) (n : ℕ) → sum_to (λ i. f i +ℤ g i) n ≡ sum_to f n +ℤ sum_to g n
sum_add f g zero = refl
sum_add f g (suc n) = omega (arith, ints, sum_add f g n)

pub sum_swap : (f : ℕ → ℕ → ℤ) (n m : ℕ) → sum_to (λ a. sum_to (λ b. f a b) m) n ≡ sum_to (λ b. sum_to (λ a. f a b) n) m
sum_swap f zero m = sym (sum_zero (λ b. pos 0) m (λ i l. refl))
sum_swap f (suc n) m = ap (λ z. z +ℤ sum_to (λ b. f n b) m) (sum_swap f n m) ∙ sym (sum_add (λ b. sum_to (λ a. f a b) n) (λ b. f n b) m)

pub sum_split : (f : ℕ → ℤ) (m n : ℕ) → sum_to f (m + n) ≡ sum_to f m +ℤ sum_to (λ i. f (m + i)) n
sum_split f m zero = let z : m + 0 ≡ m = omega arith in ap (λ k. sum_to f k) z ∙ omega (arith, ints)
sum_split f m (suc n) =
    let e : m + suc n ≡ suc (m + n) = omega arith in
    ap (λ k. sum_to f k) e ∙ omega (arith, ints, sum_split f m n)

-- ---- one place alone

pub is_eq : (a b : ℕ) → (a == b) ≡ true → a ≡ b
is_eq a b h = grind (arith, nat_tests)

pub eq_is : (a b : ℕ) → a ≡ b → (a == b) ≡ true
eq_is a b h = grind (arith, nat_tests)

ne_is : (a b : ℕ) → a ≢ b → (a == b) ≡ false
ne_is a b h = grind (arith, nat_tests)

pub sum_one : (f : ℕ → ℤ) (j n : ℕ) → j < n → sum_to (λ i. cond (i == j) (f i) (pos 0)) n ≡ f j
sum_one f j zero h = absurd (omega arith)
sum_one f j (suc n) h =
    elim (cases_lt j n) [
      | inl below ↦
          let none : (n == j) ≡ false = ne_is n j (λ e. omega arith) in
          rw (none) (omega (arith, ints, sum_one f j n below))
      | inr last ↦
          let e : n ≡ j = omega arith in
          let this : (n == j) ≡ true = eq_is n j e in
          let others = sum_zero (λ i. cond (i == j) (f i) (pos 0)) n (λ i l. let apart : (i == j) ≡ false = ne_is i j (λ q. omega arith) in rw (apart) refl) in
          rw (this) (omega (arith, ints, others, ap f e))
    ]

-- ---- parts of the whole

same_bool : (a b : Bool) → (a ≡ true → b ≡ true) → (b ≡ true → a ≡ true) → a ≡ b
same_bool true true f g = refl
same_bool true false f g = sym (f refl)
same_bool false true f g = g refl
same_bool false false f g = refl

both : (b c : Bool) → (b && c) ≡ true → (b ≡ true) × (c ≡ true)
both true true e = (refl, refl)
both true false e = (refl, e)
both false c e = absurd (cc)

module _ (cells tiles : ℕ) (size : ℕ → ℕ) (cell : ℕ → ℕ → ℕ) (tile place : ℕ → ℕ)
    (within : (t k : ℕ) → t < tiles → k < size t → cell t k < cells)
    (tile_is : (t k : ℕ) → t < tiles → k < size t → tile (cell t k) ≡ t)
    (place_is : (t k : ℕ) → t < tiles → k < size t → place (cell t k) ≡ k)
    (tile_within : (i : ℕ) → i < cells → tile i < tiles)
    (place_within : (i : ℕ) → i < cells → place i < size (tile i))
    (cell_is : (i : ℕ) → i < cells → cell (tile i) (place i) ≡ i) (f : ℕ → ℤ) where
  same_test : (t k i : ℕ) → t < tiles → k < size t → i < cells → (i == cell t k) ≡ ((t == tile i) && (k == place i))
  same_test t k i h l m =
      same_bool (i == cell t k) ((t == tile i) && (k == place i))
      (λ e. let q = is_eq i (cell t k) e in
      let a : (t == tile i) ≡ true = eq_is t (tile i) (sym (ap tile q ∙ tile_is t k h l)) in
      let b : (k == place i) ≡ true = eq_is k (place i) (sym (ap place q ∙ place_is t k h l)) in
      rw (a, b) refl)
      (λ e. let p = both (t == tile i) (k == place i) e in
      eq_is i (cell t k) (sym (ap (λ x. cell x k) (is_eq t (tile i) p.0) ∙ ap (λ x. cell (tile i) x) (is_eq k (place i) p.1) ∙ cell_is i m)))

  spread : (t k : ℕ) → t < tiles → k < size t → f (cell t k) ≡ sum_to (λ i. cond ((t == tile i) && (k == place i)) (f i) (pos 0)) cells
  spread t k h l =
      sym (sum_one f (cell t k) cells (within t k h l))
      ∙ sum_same (λ i. cond (i == cell t k) (f i) (pos 0)) (λ i. cond ((t == tile i) && (k == place i)) (f i) (pos 0)) cells (λ i m. ap (λ b. cond b (f i) (pos 0)) (same_test t k i h l m))

  in_tile : (i t : ℕ) (b : Bool) → sum_to (λ k. cond (b && (k == place i)) (f i) (pos 0)) (size t) ≡ cond b (sum_to (λ k. cond (k == place i) (f i) (pos 0)) (size t)) (pos 0)
  in_tile i t true = refl
  in_tile i t false = sum_zero (λ k. pos 0) (size t) (λ k l. refl)

  once : (i : ℕ) → i < cells → sum_to (λ t. sum_to (λ k. cond ((t == tile i) && (k == place i)) (f i) (pos 0)) (size t)) tiles ≡ f i
  once i h =
      sum_same (λ t. sum_to (λ k. cond ((t == tile i) && (k == place i)) (f i) (pos 0)) (size t)) (λ t. cond (t == tile i) (sum_to (λ k. cond (k == place i) (f i) (pos 0)) (size t)) (pos 0)) tiles (λ t l. in_tile i t (t == tile i))
      ∙ sum_one (λ t. sum_to (λ k. cond (k == place i) (f i) (pos 0)) (size t)) (tile i) tiles (tile_within i h)
      ∙ sum_one (λ k. f i) (place i) (size (tile i)) (place_within i h)

  pub sum_parts : sum_to (λ t. sum_to (λ k. f (cell t k)) (size t)) tiles ≡ sum_to f cells
  sum_parts =
      sum_same (λ t. sum_to (λ k. f (cell t k)) (size t)) (λ t. sum_to (λ i. sum_to (λ k. cond ((t == tile i) && (k == place i)) (f i) (pos 0)) (size t)) cells) tiles
      (λ t h. sum_same (λ k. f (cell t k)) (λ k. sum_to (λ i. cond ((t == tile i) && (k == place i)) (f i) (pos 0)) cells) (size t) (λ k l. spread t k h l)
      ∙ sum_swap (λ k i. cond ((t == tile i) && (k == place i)) (f i) (pos 0)) (size t) cells)
      ∙ sum_swap (λ t i. sum_to (λ k. cond ((t == tile i) && (k == place i)) (f i) (pos 0)) (size t)) tiles cells
      ∙ sum_same (λ i. sum_to (λ t. sum_to (λ k. cond ((t == tile i) && (k == place i)) (f i) (pos 0)) (size t)) tiles) f cells once

-- ---- the tiles of a grid

place_in_is : (s : Size) (i : ℕ) → place_in s i ≡ i / s.columns % 32 * tile_width s (tile_of s i) + i % s.columns % 32
unfolding place_in
place_in_is s i = refl

module _ (s : Size) (size : IsSize s) where
  row_in : (t k : ℕ) → k < tile_size s t → (k / tile_width s t < tile_height s t) × (k % tile_width s t < tile_width s t)
  row_in t k l = let w = width_some (tile_height s t) (tile_width s t) k l in (div_below k (tile_width s t) (tile_height s t) w l, mod_below k (tile_width s t) w)

  pub place_within : (i : ℕ) → i < cells_in s → place_in s i < tile_size s (tile_of s i)
  place_within i h = let b = back s i size h in omega (arith, place_in_is s i, mul-add-lt (i / s.columns % 32) (tile_width s (tile_of s i)) (i % s.columns % 32) (tile_height s (tile_of s i)) b.row b.column)

  pub place_back : (i : ℕ) → i < cells_in s → place_of s (tile_of s i) (place_in s i) ≡ i
  place_back i h =
      let b = back s i size h in
      let w = tile_width s (tile_of s i) in
      let q = div-mul-add (i / s.columns % 32) w (i % s.columns % 32) b.column in
      let m = mod-mul-add (i / s.columns % 32) w (i % s.columns % 32) b.column in
      rw (place_in_is s i, q, m) b.place

  pub sum_tiles : (f : ℕ → ℤ) → sum_to (λ t. sum_to (λ k. f (place_of s t k)) (tile_size s t)) (tiles_in s) ≡ sum_to f (cells_in s)
  sum_tiles f =
      sum_parts (cells_in s) (tiles_in s) (tile_size s) (place_of s) (tile_of s) (place_in s)
      (λ t k h l. let r = row_in t k l in (here s t (k / tile_width s t) (k % tile_width s t) size h r.0 r.1).within)
      (λ t k h l. let r = row_in t k l in (here s t (k / tile_width s t) (k % tile_width s t) size h r.0 r.1).tile)
      (λ t k h l. let r = row_in t k l in (here s t (k / tile_width s t) (k % tile_width s t) size h r.0 r.1).place ∙ div-add-mod' k (tile_width s t))
      (λ i h. (back s i size h).tile)
      place_within
      place_back
      f

  -- a cell of a tile
  pub tile_cell : (cells : Cells) (t k : ℕ) → k < tile_size s t → cell_at (tile_cells s cells t) k ≡ cell_at cells (place_of s t k)
  tile_cell cells t k l =
      let r = row_in t k l in
      get_or-strided cells (tile_start s t) s.columns (tile_height s t) (tile_width s t) (k / tile_width s t) (k % tile_width s t) k None r.0 r.1 (div-add-mod' k (tile_width s t))

  pub place_tile : (t k : ℕ) → t < tiles_in s → k < tile_size s t → (place_of s t k < cells_in s) × (tile_of s (place_of s t k) ≡ t)
  place_tile t k h l =
      let r = row_in t k l in
      let a = here s t (k / tile_width s t) (k % tile_width s t) size h r.0 r.1 in
      (a.within, a.tile)

-- what is 0 from m to n adds nothing
pub sum_gap : (f : ℕ → ℤ) (m n : ℕ) → m ≤ n → ((i : ℕ) → m ≤ i → i < n → f i ≡ pos 0) → sum_to f n ≡ sum_to f m
sum_gap f m n h z =
    let e : n ≡ m + (n - m) = omega arith in
    ap (sum_to f) e ∙ sum_split f m (n - m) ∙ ap (λ x. sum_to f m +ℤ x) (sum_zero (λ i. f (m + i)) (n - m) (λ i l. z (m + i) (omega arith) (omega arith))) ∙ omega (arith, ints)

pub sum_more : (f : ℕ → ℤ) (n : ℕ) → sum_to f (n + 1) ≡ sum_to f n +ℤ f n
sum_more f n = let e : n + 1 ≡ suc n = omega arith in ap (λ k. sum_to f k) e

pub shift_is : (p : Pair) (before after : Option Pair) (zone key zone' key' a b c d : Option ℤ) → before ≡ pair_at a b → after ≡ pair_at c d → a ≡ zone → b ≡ key → c ≡ zone' → d ≡ key' → held p after -ℤ held p before ≡ shift p zone key zone' key'
shift_is p before after zone key zone' key' a b c d e f g h i j = rw (e, f, g, h, i, j) refl

pub row_sum : (f g : ℕ → ℤ) (r w n : ℕ) → n ≡ w → ((c : ℕ) → c < w → g c ≡ f (r * w + c)) → sum_to f ((r + 1) * w) ≡ sum_to f (r * w) +ℤ sum_to g n
row_sum f g r w n e h =
    let z : (r + 1) * w ≡ r * w + w = omega arith in
    ap (λ k. sum_to f k) z ∙ sum_split f (r * w) w ∙ ap (λ x. sum_to f (r * w) +ℤ x) (sum_same (λ c. f (r * w + c)) g w (λ c l. sym (h c l)) ∙ ap (λ k. sum_to g k) (sym e))

pub same_shift : (p : Pair) (a b c d a' b' c' d' : Option ℤ) → a ≡ a' → b ≡ b' → c ≡ c' → d ≡ d' → shift p a b c d ≡ shift p a' b' c' d'
same_shift p a b c d a' b' c' d' e f g h = rw (e, f, g, h) refl

pub rows_fit : (r h w : ℕ) → r < h → r * w + w ≤ h * w
rows_fit r h w l = omega (arith, mul-le (r + 1) w h w (omega arith) (omega arith))
