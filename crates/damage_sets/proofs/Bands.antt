-- Runs and rows of tiles that are marked, and the square of a tile.
use Rattle.std.proofs.Common.{◌≡◌, ◌≢◌, ◌⊎◌, inl, inr, ℕ, ◌+◌, ◌-◌, ◌*◌, ◌/◌, ◌%◌, ◌<◌, ◌≤◌, min, Bool, true, false, List, length, get_or, set, refl, sym, ◌∙◌, ap, arith, ⊎_elim}
use Rattle.std.specs.Prelude.{nat_le, nat_lt}
use Rattle.std.proofs.lemmas.Bool.{cases_eq, cases_lt, and_parts, and_from, leb-true, ltb-true, le-leb, lt-ltb}
use Rattle.std.proofs.lemmas.List.{length-set, get_or-set_same, get_or-set_other}
use Rattle.std.proofs.lemmas.Nat.{div_below, mod_below, div-mul-add, mod-mul-add, mul-add-lt, mul-le, div-add-mod'}
use Rattle.map_nums.specs.Grids.{Size, IsSize, cells_in}
use Rattle.map_nums.specs.Tiles.{tiles_in, tiles_across, tiles_down, tile_top, tile_left}
use Rattle.map_defs.specs.Tiles.{is_by, is_in_square}
use Rattle.damage_sets.specs.Added.{IsAt, IsRunAdded, IsWithin, AreRowsAdded}
use Rattle.damage_sets.specs.Widened.{IsWidened, HasOne}

-- ---- a run of tiles

pub run_none : (first : ℕ) (old : List Bool) → IsRunAdded first first old old
run_none first old = record { count = refl; inside = λ t f e. absurd (omega (arith, f, e)); outside = λ t n. refl }

pub run_more : (first k : ℕ) (old now new : List Bool) → IsRunAdded first k old now → first ≤ k → k < length now → new ≡ set now k true → IsRunAdded first (k + 1) old new
run_more first k old now new r f l e =
    rw (e)
    record {
      count = length-set now k true ∙ r.count;
      inside = λ t a b. ⊎_elim
          (λ (q : t ≡ k). ap (λ j. get_or (set now k true) j false) q ∙ get_or-set_same now k true false l)
          (λ (n : t ≡ k → ⊥). get_or-set_other now k t true false n ∙ r.inside t a (omega (arith, b, n)))
          (cases_eq t k);
      outside = λ t n.
          let other : t ≢ k = λ q. n (omega (arith, q, f)) (omega (arith, q)) in
          get_or-set_other now k t true false other ∙ r.outside t (λ a b. n a (omega (arith, b)));
    }

-- ---- rows of tiles

pub rows_none : (across low left right : ℕ) (old : List Bool) → AreRowsAdded across low low left right old old
rows_none across low left right old = record { count = refl; inside = λ t l w. absurd (omega (arith, w.0, w.1)); outside = λ t n. refl }

module _ (across low q left right : ℕ) (old now new : List Bool) (some : 0 < across) (few : right ≤ across) (order : low ≤ q) (rows : AreRowsAdded across low q left right old now) (run : IsRunAdded (q * across + left) (q * across + right) now new) where
  more_inside : (t : ℕ) → t < length old → IsWithin across low (q + 1) left right t → get_or new t false ≡ true
  more_inside t l w =
      let whole = div-add-mod' t across in
      let rest = mod_below t across some in
      ⊎_elim
      (λ (b : t / across < q).
      let far = mul-le (t / across + 1) across q across (omega (arith, b)) (omega arith) in
      run.outside t (λ a e. absurd (omega (arith, a, far, whole, rest))) ∙ rows.inside t l (w.0, b, w.2, w.3))
      (λ (b : q ≤ t / across).
      let e : t / across ≡ q = omega (arith, b, w.1) in
      let f = ap (λ x. x * across) e in
      run.inside t (omega (arith, whole, f, w.2)) (omega (arith, whole, f, w.3)))
      (cases_lt (t / across) q)

  in_row : (t : ℕ) → q * across + left ≤ t → t < q * across + right → IsWithin across low (q + 1) left right t
  in_row t a b =
      let k = t - q * across in
      let e : t ≡ q * across + k = omega (arith, a) in
      let l : k < across = omega (arith, b, few, e) in
      let d : t / across ≡ q = ap (λ n. n / across) e ∙ div-mul-add q across k l in
      let m : t % across ≡ k = ap (λ n. n % across) e ∙ mod-mul-add q across k l in
      (omega (arith, d, order), omega (arith, d), omega (arith, m, a, e), omega (arith, m, b, e))

  pub rows_more : AreRowsAdded across low (q + 1) left right old new
  rows_more = record {
    count = run.count ∙ rows.count;
    inside = more_inside;
    outside = λ t n. run.outside t (λ a b. n (in_row t a b)) ∙ rows.outside t (λ w. n (w.0, omega (arith, w.1), w.2, w.3));
  }

-- a run of a row of tiles lies within the grid
pub row_within_all : (q across down end tiles : ℕ) → q < down → end ≤ across → tiles ≡ down * across → q * across + end ≤ tiles
row_within_all q across down end tiles l m e = omega (arith, e, m, mul-le (q + 1) across down across (omega (arith, l)) (omega arith))

pub tiles_are : (s : Size) → tiles_in s ≡ tiles_down s * tiles_across s
unfolding tiles_in
tiles_are s = refl

pub some_across : (s : Size) → IsSize s → 0 < tiles_across s
unfolding tiles_across
some_across s h = omega (arith, h.some_column)

pub row_part : (s : Size) (row : ℕ) → row < s.rows → row / 32 < tiles_down s
unfolding tiles_down
row_part s row l = omega (arith, l)

pub column_part : (s : Size) (column : ℕ) → column < s.columns → column / 32 < tiles_across s
unfolding tiles_across
column_part s column l = omega (arith, l)

-- a row of tiles up to one of its columns, in the numbers of the code
pub row_fits : (s e : Size) (band across high right tiles : ℕ) → band < high → high ≤ tiles_down s → right ≤ tiles_across s → across ≡ tiles_across e → tiles ≡ tiles_in e → e ≡ s → (band * across + right ≤ tiles) × (tiles ≡ tiles_in s)
row_fits s e band across high right tiles l h r a t same =
    let b : across ≡ tiles_across s = a ∙ ap tiles_across same in
    let n : tiles ≡ tiles_in s = t ∙ ap tiles_in same in
    (rw (b) (row_within_all band (tiles_across s) (tiles_down s) right tiles (omega (arith, l, h)) r (n ∙ tiles_are s)), n)

-- ---- the square of a tile

-- the tiles whose square, grown by r, has row `row` and column `column`
abbrev pub Reached : Size → ℕ → ℕ → ℕ → ℕ → Type 0
Reached s r row column t = IsWithin (tiles_across s) ((row - r) / 32) (min ((row + r) / 32 + 1) (tiles_down s)) ((column - r) / 32) (min ((column + r) / 32 + 1) (tiles_across s)) t

line_in : (r line q n : ℕ) → q < n → is_by r (32 * q) line ≡ true → ((line - r) / 32 ≤ q) × (q < min ((line + r) / 32 + 1) n)
line_in r line q n l e =
    let p = and_parts (nat_le (32 * q) (line + r)) (nat_lt line (32 * q + 32 + r)) e in
    let a : 32 * q ≤ line + r = leb-true (32 * q) (line + r) p.0 in
    let b : line < 32 * q + 32 + r = ltb-true line (32 * q + 32 + r) p.1 in
    (omega (arith, b), omega (arith, a, l))

line_so : (r line q n : ℕ) → (line - r) / 32 ≤ q → q < min ((line + r) / 32 + 1) n → is_by r (32 * q) line ≡ true
line_so r line q n a b = and_from (nat_le (32 * q) (line + r)) (nat_lt line (32 * q + 32 + r)) (le-leb (32 * q) (line + r) (omega (arith, b))) (lt-ltb line (32 * q + 32 + r) (omega (arith, a)))

module _ (s : Size) (r row column t i : ℕ) (size : IsSize s) (l : t < tiles_in s) (at : IsAt s row column i) where
  down_within : t / tiles_across s < tiles_down s
  unfolding tiles_in
  down_within = div_below t (tiles_across s) (tiles_down s) (some_across s size) l

  square_in : is_in_square r s t i ≡ true → Reached s r row column t
  unfolding is_in_square tile_top tile_left
  square_in e =
      let p = and_parts (is_by r (32 * (t / tiles_across s)) (i / s.columns)) (is_by r (32 * (t % tiles_across s)) (i % s.columns)) e in
      let v = line_in r row (t / tiles_across s) (tiles_down s) down_within (ap (λ x. is_by r (32 * (t / tiles_across s)) x) (sym at.0) ∙ p.0) in
      let w = line_in r column (t % tiles_across s) (tiles_across s) (mod_below t (tiles_across s) (some_across s size)) (ap (λ x. is_by r (32 * (t % tiles_across s)) x) (sym at.1) ∙ p.1) in
      (v.0, v.1, w.0, w.1)

  square_so : Reached s r row column t → is_in_square r s t i ≡ true
  unfolding is_in_square tile_top tile_left
  square_so w =
      and_from (is_by r (32 * (t / tiles_across s)) (i / s.columns)) (is_by r (32 * (t % tiles_across s)) (i % s.columns))
      (ap (λ x. is_by r (32 * (t / tiles_across s)) x) at.0 ∙ line_so r row (t / tiles_across s) (tiles_down s) w.0 w.1)
      (ap (λ x. is_by r (32 * (t % tiles_across s)) x) at.1 ∙ line_so r column (t % tiles_across s) (tiles_across s) w.2 w.3)

-- these tiles are marked
module _ (s : Size) (r row column : ℕ) (old new : List Bool) (size : IsSize s) (within : row < s.rows) (beside : column < s.columns) (count : length old ≡ tiles_in s) (rows : AreRowsAdded (tiles_across s) ((row - r) / 32) (min ((row + r) / 32 + 1) (tiles_down s)) ((column - r) / 32) (min ((column + r) / 32 + 1) (tiles_across s)) old new) where
  here_at : IsAt s row column (row * s.columns + column)
  here_at = (div-mul-add row s.columns column beside, mod-mul-add row s.columns column beside)

  here_in : row * s.columns + column < cells_in s
  here_in = omega (arith, mul-add-lt row s.columns column s.rows within beside)

  marked_in : (t : ℕ) → t < tiles_in s → (v : Bool) → v ≡ is_in_square r s t (row * s.columns + column) → get_or old t false ≡ true → get_or new t false ≡ true
  marked_in t l true v e = rows.inside t (omega (arith, l, count)) (square_in s r row column t (row * s.columns + column) size l here_at (sym v))
  marked_in t l false v e = rows.outside t (λ w. let z = square_so s r row column t (row * s.columns + column) size l here_at w in cc) ∙ e

  marked_only : (t : ℕ) → t < tiles_in s → (v : Bool) → v ≡ is_in_square r s t (row * s.columns + column) → get_or new t false ≡ true → (get_or old t false ≡ true) ⊎ HasOne s r (IsAt s row column) t
  marked_only t l true v e = inr (row * s.columns + column, here_in, here_at, sym v)
  marked_only t l false v e = inl (sym (rows.outside t (λ w. let z = square_so s r row column t (row * s.columns + column) size l here_at w in cc)) ∙ e)

  pub square_widened : IsWidened s r (IsAt s row column) old new
  square_widened = record {
    count = rows.count;
    kept = λ t l e. marked_in t l (is_in_square r s t (row * s.columns + column)) refl e;
    added = λ t l h. rows.inside t (omega (arith, l, count)) (square_in s r row column t h.0 size l h.2 h.3);
    only = λ t l e. marked_only t l (is_in_square r s t (row * s.columns + column)) refl e;
  }
