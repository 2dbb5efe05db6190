-- A cell stays where no operand has another cell within its class's reach, and what changed is felt by the square of its tile.
use Rattle.std.proofs.Common.{◌≡◌, ℕ, ◌<◌, ◌≤◌, Bool, true, false, List, refl, sym, ◌∙◌, ap, zero, suc, ◌+◌, ◌*◌, ◌/◌, ◌%◌, cond, [], ◌∷◌, length, Option, Some, None, arith, ℤ, pos, negsuc, ◌+ℤ◌, ◌*ℤ◌, neg_ℤ, ◌≤ℤ◌, get_or, ◌-◌, ◌&&◌, nat_le, map}
use Rattle.std.specs.Prelude.{◌==◌, nat_lt, int_le, filter, nat_abs}
use Rattle.std.specs.List.{All, range_with_len}
use Rattle.std.proofs.lemmas.Bool.{eqb-true, or_parts, ltb-true, and_parts, leb-true, false_from_ne_true, true_from_ne_false, both_ways}
use Rattle.std.proofs.lemmas.Int.{ints}
use Rattle.std.proofs.lemmas.List.Elements.{All-map, All-filter, All-weaker}
use Rattle.std.proofs.lemmas.List.FromFn.{get_or-range_with_len, length-range_with_len, get_or-map-range_with_len}
use Rattle.std.proofs.lemmas.Nat.{mul-add-lt, div-mul-add, mod-mul-add, div_below, mod_below}
use Rattle.map_nums.specs.Grids.{Size, Cells, cells_in, cell_at, row_of, column_of, gap, Offset, cell_there, place_at, moved, near, numbers_in, grid_by, IsSize}
use Rattle.map_nums.specs.Tiles.{tiles_in, tile_of}
use Rattle.map_nums.specs.declared.Stat.{Stat}
use Rattle.map_nums.specs.Stats.{statistic_of}
use Rattle.map_nums.specs.Compass.{north, north_east, east, south_east, south, south_west, west, north_west}
use Rattle.map_nums.specs.declared.Stat.TheVariants.{Sum}
use Rattle.map_defs.specs.Tiles.{is_in_square}
use Rattle.map_defs.specs.Differences.{differs, has_changed, tile_has, square_has}
use Rattle.map_defs.specs.Focal.{span, square, disc, offsets_of, focal_numbers, focal_at, focal_grid}
use Rattle.map_defs.specs.Facts.{radius_of}
use Rattle.map_defs.specs.Local.{cells_at, LocalOp, local_at, local_cell, local_grid}
use Rattle.map_defs.specs.Operate.{operand}
use Rattle.map_defs.specs.Incremental.{Form, partition_form, frontage_form, form_at, form_grid, linkage_at, length_at, partition_at, frontage_at, gradient_at, aspect_at}
use Rattle.map_defs.specs.Drainage.{winner_at, direction_at, direction_grid}
use Rattle.map_defs.specs.Sight.{Sighting, apart, steps, between, is_under, is_free, sees, sees_from, sight_at}
use Rattle.map_defs.proofs.Squares.{square_from_near}
use Rattle.damage_sets.proofs.Whole.{any_so, any_one}
use Rattle.changed_cells.proofs.Joining.{differs_is, differs_not}
use Rattle.sight_lines.specs.Lines.{line_cell, is_line_free}
use Rattle.sight_lines.proofs.Steps.{on_line, abs_is}
use Rattle.sight_lines.proofs.Free.{same_between, steps_are}
use Rattle.sight_lines.proofs.OnMap.{free_on}
use Rattle.op_jobs.proofs.Agreeing.{All-flat_map, map_agree}

-- ---- what stays and what is felt

-- no operand has another cell within r rows and r columns of place i
abbrev pub IsQuiet : ℕ → Size → List Cells → List Cells → ℕ → Type 0
IsQuiet r s before after i = (j : ℕ) → j < cells_in s → gap (row_of s i) (row_of s j) ≤ r → gap (column_of s i) (column_of s j) ≤ r → has_changed before after j ≡ false

-- a cell stays where no operand has another one so near
abbrev pub Stays : ℕ → Size → List Cells → List Cells → Cells → Cells → Type 0
Stays r s before after was now = (i : ℕ) → i < cells_in s → IsQuiet r s before after i → cell_at was i ≡ cell_at now i

module _ (r : ℕ) (s : Size) (before after : List Cells) (was now : Cells) (t : ℕ) (within : t < tiles_in s) where
  quiet_in : square_has r s (has_changed before after) t ≡ false → (i : ℕ) → i < cells_in s → tile_of s i ≡ t → IsQuiet r s before after i
  quiet_in none i l e j m rows columns = false_from_ne_true (has_changed before after j) (λ f.
      let near = square_from_near r s t j within m (record { place = i; within = l; of_tile = e; rows = rows; columns = columns }) in
      both_ways (square_has r s (has_changed before after) t) none (any_so (is_in_square r s t) (has_changed before after) (cells_in s) j m f near))

  -- a tile that changed has a changed operand cell so near
  pub felt : Stays r s before after was now → tile_has s (differs was now) t ≡ true → square_has r s (has_changed before after) t ≡ true
  felt stays e = true_from_ne_false (square_has r s (has_changed before after) t) (λ f.
      let a = any_one (λ i. tile_of s i == t) (differs was now) (cells_in s) e in
      differs_is was now a.0 a.2 (stays a.0 a.1 (quiet_in f a.0 a.1 (eqb-true (tile_of s a.0) t a.3))))

-- ---- the cells at offsets of a bounded length

-- ---- operands without another cell at a place

first_same : (x y : Cells) (xs ys : List Cells) (i : ℕ) → has_changed (x ∷ xs) (y ∷ ys) i ≡ false → (cell_at x i ≡ cell_at y i) × (has_changed xs ys i ≡ false)
first_same x y xs ys i e =
    let p = or_parts (differs x y i) (has_changed xs ys i) e in
    (differs_not x y i p.0, p.1)

pub same_cells : (before after : List Cells) (i : ℕ) → length before ≡ length after → has_changed before after i ≡ false → cells_at before i ≡ cells_at after i
same_cells [] [] i n e = refl
same_cells [] (y ∷ ys) i n e = absurd (omega arith)
same_cells (x ∷ xs) [] i n e = absurd (omega arith)
same_cells (x ∷ xs) (y ∷ ys) i n e =
    let p = first_same x y xs ys i e in
    let rest = same_cells xs ys i (omega arith) p.1 in
    rw (p.0, rest) refl

pub same_operand : (before after : List Cells) (k i : ℕ) → length before ≡ length after → has_changed before after i ≡ false → cell_at (operand before k) i ≡ cell_at (operand after k) i
same_operand [] [] k i n e = refl
same_operand [] (y ∷ ys) k i n e = absurd (omega arith)
same_operand (x ∷ xs) [] k i n e = absurd (omega arith)
same_operand (x ∷ xs) (y ∷ ys) zero i n e = (first_same x y xs ys i e).0
same_operand (x ∷ xs) (y ∷ ys) (suc k) i n e = same_operand xs ys k i (omega arith) (first_same x y xs ys i e).1

-- ---- offsets

-- by at most r rows and r columns
pub record IsShort (r : ℕ) (o : Offset) : Type 0 where
  pub up : neg_ℤ (pos r) ≤ℤ o.0
  pub down : o.0 ≤ℤ pos r
  pub left : neg_ℤ (pos r) ≤ℤ o.1
  pub right : o.1 ≤ℤ pos r

-- what a place was made of
place_lines : (s : Size) (r c : ℤ) (y : ℕ) → place_at s r c ≡ Some y → (r ≡ pos (y / s.columns)) × (c ≡ pos (y % s.columns)) × (y < cells_in s)
place_lines s (pos r) (pos c) y e = lines (nat_lt r s.rows) (nat_lt c s.columns) refl refl e
  where
    lines : (a b : Bool) → nat_lt r s.rows ≡ a → nat_lt c s.columns ≡ b → cond (a && b) (Some (r * s.columns + c)) None ≡ Some y → (pos r ≡ pos (y / s.columns)) × (pos c ≡ pos (y % s.columns)) × (y < cells_in s)
    lines true true p q e =
        let f : r * s.columns + c ≡ y = cc in
        let u : (r * s.columns + c) / s.columns ≡ r = div-mul-add r s.columns c (ltb-true c s.columns q) in
        let v : (r * s.columns + c) % s.columns ≡ c = mod-mul-add r s.columns c (ltb-true c s.columns q) in
        let w = mul-add-lt r s.columns c s.rows (ltb-true r s.rows p) (ltb-true c s.columns q) in
        (ap pos (sym u ∙ ap (λ z. z / s.columns) f), ap pos (sym v ∙ ap (λ z. z % s.columns) f), omega (arith, w, f))
    lines true false p q e = absurd (cc)
    lines false b p q e = absurd (cc)
place_lines s (pos r) (negsuc c) y e = absurd (cc)
place_lines s (negsuc r) c y e = absurd (cc)

moved_gap : (r a b : ℕ) (z : ℤ) → neg_ℤ (pos r) ≤ℤ z → z ≤ℤ pos r → pos a +ℤ z ≡ pos b → gap a b ≤ r
moved_gap r a b z l m e = omega (arith, ints)

-- the cells at short offsets are as before
pub near_same : (r : ℕ) (s : Size) (before after : List Cells) (k i : ℕ) → length before ≡ length after → IsQuiet r s before after i → (o : Offset) → IsShort r o → near s (operand before k) i o ≡ near s (operand after k) i o
near_same r s before after k i n quiet o short = there (moved s i o) refl
  where
    there : (p : Option ℕ) → moved s i o ≡ p → cell_there (operand before k) p ≡ cell_there (operand after k) p
    there None e = refl
    there (Some j) e =
        let p = place_lines s (pos (row_of s i) +ℤ o.0) (pos (column_of s i) +ℤ o.1) j e in
        same_operand before after k j n
        (quiet j p.2 (moved_gap r (row_of s i) (row_of s j) o.0 short.up short.down p.0) (moved_gap r (column_of s i) (column_of s j) o.1 short.left short.right p.1))

-- ---- those of a radius

step_short : (r k : ℕ) → k < 2 * r + 1 → (neg_ℤ (pos r) ≤ℤ (pos k +ℤ neg_ℤ (pos r))) × ((pos k +ℤ neg_ℤ (pos r)) ≤ℤ pos r)
step_short r k l = (omega (arith, ints), omega (arith, ints))

span_short : (r : ℕ) → All (λ z. (neg_ℤ (pos r) ≤ℤ z) × (z ≤ℤ pos r)) (span r)
span_short r =
    All-map (λ z. (neg_ℤ (pos r) ≤ℤ z) × (z ≤ℤ pos r)) (λ k. pos k +ℤ neg_ℤ (pos r)) (range_with_len 0 (2 * r + 1))
    (λ k d l.
    let m : k < 2 * r + 1 = omega (arith, l, length-range_with_len 0 (2 * r + 1)) in
    let is : get_or (range_with_len 0 (2 * r + 1)) k d ≡ k = get_or-range_with_len 0 (2 * r + 1) k d m ∙ omega arith in
    rw (is) (step_short r k m))

square_short : (r : ℕ) → All (IsShort r) (square r)
unfolding square
square_short r =
    All-flat_map (IsShort r) (λ dr. map (λ dc. (dr, dc)) (span r)) (span r)
    (λ k d l.
    let dr = get_or (span r) k d in
    let row = span_short r k d l in
    All-map (IsShort r) (λ dc. (dr, dc)) (span r) (λ j e m. let column = span_short r j e m in record { up = row.0; down = row.1; left = column.0; right = column.1 }))

pub offsets_short : (r : Option ℕ) → All (IsShort (radius_of r)) (offsets_of r)
unfolding disc
offsets_short None = square_short 1
offsets_short (Some r) = All-filter (λ o. int_le (o.0 *ℤ o.0 +ℤ o.1 *ℤ o.1) (pos (r * r))) (IsShort r) (square r) (square_short r)

-- ---- each class

-- the cell of a grid that is made place by place
made_at : (s : Size) (f : ℕ → Option ℤ) (i : ℕ) → i < cells_in s → cell_at (grid_by s f).cells i ≡ f i
made_at s f i h = get_or-map-range_with_len f 0 (cells_in s) i i None h (omega arith)

pub by_places : (r : ℕ) (s : Size) (before after : List Cells) (f g : ℕ → Option ℤ) → ((i : ℕ) → i < cells_in s → IsQuiet r s before after i → f i ≡ g i) → Stays r s before after (grid_by s f).cells (grid_by s g).cells
by_places r s before after f g same i h quiet = made_at s f i h ∙ same i h quiet ∙ sym (made_at s g i h)

module _ (s : Size) (before after : List Cells) (count : length before ≡ length after) where
  pub local_stays : (l : LocalOp) → Stays 0 s before after (local_grid s l before).cells (local_grid s l after).cells
  unfolding local_grid
  local_stays l = by_places 0 s before after (local_at l before) (local_at l after)
      (λ i h quiet. ap (local_cell l) (same_cells before after i count (quiet i h (omega arith) (omega arith))))

  pub focal_stays : (stat : Stat) (r : Option ℕ) → Stays (radius_of r) s before after (focal_grid stat (offsets_of r) s (operand before 0)).cells (focal_grid stat (offsets_of r) s (operand after 0)).cells
  unfolding focal_grid focal_numbers
  focal_stays stat r = by_places (radius_of r) s before after (focal_at stat (offsets_of r) s (operand before 0)) (focal_at stat (offsets_of r) s (operand after 0))
      (λ i h quiet. ap (λ cells. statistic_of stat (numbers_in cells))
      (map_agree (near s (operand before 0) i) (near s (operand after 0) i) (offsets_of r)
      (All-weaker (IsShort (radius_of r)) (λ o. near s (operand before 0) i o ≡ near s (operand after 0) i o) (near_same (radius_of r) s before after 0 i count quiet) (offsets_of r) (offsets_short r))))

-- ---- the eight neighbours

module _ (s : Size) (was now : Cells) (i : ℕ) where
  abbrev Same : Offset → Type 0
  Same o = near s was i o ≡ near s now i o

  -- what is made of the own number and of the neighbours
  module _ (own : cell_at was i ≡ cell_at now i) (n : Same north) (ne : Same north_east) (e : Same east) (se : Same south_east) (so : Same south) (sw : Same south_west) (w : Same west) (nw : Same north_west) where
    form_same : (form : Form) → form_at form s was i ≡ form_at form s now i
    unfolding linkage_at length_at partition_at frontage_at gradient_at aspect_at
    form_same partition_form = rw (own, n, e, so, w) refl
    form_same frontage_form = rw (own, n, e, so, w) refl
    form_same form = rw (own, n, ne, e, se, so, sw, w, nw) refl

    direction_same : direction_at s was i ≡ direction_at s now i
    unfolding direction_at winner_at
    direction_same = rw (own, n, ne, e, se, so, sw, w, nw) refl

module _ (s : Size) (before after : List Cells) (count : length before ≡ length after) where
  own_same : (i : ℕ) → i < cells_in s → IsQuiet 1 s before after i → cell_at (operand before 0) i ≡ cell_at (operand after 0) i
  own_same i h quiet = same_operand before after 0 i count (quiet i h (omega arith) (omega arith))

  -- at the k-th offset from the north-west
  side : (i : ℕ) → IsQuiet 1 s before after i → (k : ℕ) → k < 9 → Same s (operand before 0) (operand after 0) i (get_or (square 1) k north)
  unfolding square
  side i quiet k l = near_same 1 s before after 0 i count quiet (get_or (square 1) k north) (offsets_short None k north l)

  pub form_stays : (form : Form) → Stays 1 s before after (form_grid form s (operand before 0)).cells (form_grid form s (operand after 0)).cells
  unfolding form_grid square
  form_stays form = by_places 1 s before after (form_at form s (operand before 0)) (form_at form s (operand after 0)) (λ i h quiet.
      let at = side i quiet in
      form_same s (operand before 0) (operand after 0) i (own_same i h quiet) (at 1 (omega arith)) (at 2 (omega arith)) (at 5 (omega arith)) (at 8 (omega arith)) (at 7 (omega arith)) (at 6 (omega arith)) (at 3 (omega arith)) (at 0 (omega arith)) form)

  pub direction_stays : Stays 1 s before after (direction_grid s (operand before 0)).cells (direction_grid s (operand after 0)).cells
  unfolding direction_grid square
  direction_stays = by_places 1 s before after (direction_at s (operand before 0)) (direction_at s (operand after 0)) (λ i h quiet.
      let at = side i quiet in
      direction_same s (operand before 0) (operand after 0) i (own_same i h quiet) (at 1 (omega arith)) (at 2 (omega arith)) (at 5 (omega arith)) (at 8 (omega arith)) (at 7 (omega arith)) (at 6 (omega arith)) (at 3 (omega arith)) (at 0 (omega arith)))

-- ---- the sums of viewers

-- ---- lists

-- what is picked and what is read are the same
picked : (f g : ℕ → Option ℤ) (p q : ℕ → Bool) (n k : ℕ) → ((i : ℕ) → i < k + n → (p i ≡ q i) × (p i ≡ true → f i ≡ g i)) → map f (filter p (range_with_len k n)) ≡ map g (filter q (range_with_len k n))
picked f g p q zero k same = refl
picked f g p q (suc n) k same =
    let h = same k (omega arith) in
    let rest = picked f g p q n (k + 1) (λ i l. same i (omega (arith, l))) in
    first (p k) (q k) h.0 h.1 rest
  where
    first : (v w : Bool) → v ≡ w → (v ≡ true → f k ≡ g k) → map f (filter p (range_with_len (k + 1) n)) ≡ map g (filter q (range_with_len (k + 1) n)) → map f (cond v (k ∷ filter p (range_with_len (k + 1) n)) (filter p (range_with_len (k + 1) n))) ≡ map g (cond w (k ∷ filter q (range_with_len (k + 1) n)) (filter q (range_with_len (k + 1) n)))
    first true true e h r = ap (λ (x : Option ℤ). x ∷ map f (filter p (range_with_len (k + 1) n))) (h refl) ∙ ap (λ (xs : Cells). g k ∷ xs) r
    first true false e h r = cc
    first false true e h r = cc
    first false false e h r = r

-- ---- a place

-- two grids have the same cells within r rows and columns of place t
abbrev pub AreSameNear : Size → ℕ → ℕ → Cells → Cells → Type 0
AreSameNear s r t a b = (i : ℕ) → i < cells_in s → gap (row_of s t) (row_of s i) ≤ r → gap (column_of s t) (column_of s i) ≤ r → cell_at a i ≡ cell_at b i

module _ (s : Size) (size : IsSize s) (r t v : ℕ) (tl : t < cells_in s) (vl : v < cells_in s) (reached : steps (apart s v t) ≤ r) where
  t_column : t % s.columns < s.columns
  t_column = mod_below t s.columns size.some_column

  v_column : v % s.columns < s.columns
  v_column = mod_below v s.columns size.some_column

  t_row : t / s.columns < s.rows
  t_row = div_below t s.columns s.rows size.some_column tl

  v_row : v / s.columns < s.rows
  v_row = div_below v s.columns s.rows size.some_column vl

  rows_apart : gap (t / s.columns) (v / s.columns) ≤ r
  rows_apart = omega (arith, reached, steps_are (v / s.columns) (v % s.columns) (t / s.columns) (t % s.columns))

  columns_apart : gap (t % s.columns) (v % s.columns) ≤ r
  columns_apart = omega (arith, reached, steps_are (v / s.columns) (v % s.columns) (t / s.columns) (t % s.columns))

  module _ (a b : Cells) (same : AreSameNear s r t a b) where
    -- each cell between the two is near
    line_same : (k : ℕ) → 1 ≤ k → k < steps (apart s v t) → line_cell a s.columns (v / s.columns) (v % s.columns) k (apart s v t) ≡ line_cell b s.columns (v / s.columns) (v % s.columns) k (apart s v t)
    line_same k l m =
        let w = s.columns in
        let n = steps (apart s v t) in
        let p = on_line n k (v / w) (t / w) (omega arith) (omega arith) in
        let q = on_line n k (v % w) (t % w) (omega arith) (omega arith) in
        let f = abs_is p.place _ p.is in
        let g = abs_is q.place _ q.is in
        let inside : q.place < w = omega (arith, q.most, t_column, v_column) in
        let above : p.place < s.rows = omega (arith, p.most, t_row, v_row) in
        let i = p.place * w + q.place in
        let row : i / w ≡ p.place = div-mul-add p.place w q.place inside in
        let column : i % w ≡ q.place = mod-mul-add p.place w q.place inside in
        let rows : gap (t / w) (i / w) ≤ r = omega (arith, row, rows_apart, p.most, p.least) in
        let columns : gap (t % w) (i % w) ≤ r = omega (arith, column, columns_apart, q.most, q.least) in
        let read = λ (cells : Cells). ap (λ y. get_or cells (y * w + nat_abs (pos (v % w) +ℤ between n k (apart s v t).1)) None) f ∙ ap (λ x. get_or cells (p.place * w + x) None) g in
        read a ∙ same i (omega (arith, mul-add-lt p.place w q.place s.rows above inside)) rows columns ∙ sym (read b)

    free_same : (low high : ℤ) → is_free s a v (apart s v t) low high ≡ is_free s b v (apart s v t) low high
    unfolding is_line_free
    free_same low high =
        sym (free_on s a v t size vl tl low high)
        ∙ same_between _ _ 1 (steps (apart s v t) - 1) (λ k l m. ap (is_under (steps (apart s v t)) k low high) (line_same k l (omega arith)))
        ∙ free_on s b v t size vl tl low high

    pub sees_same : (sight : Sighting) → sees sight s a v t ≡ sees sight s b v t
    unfolding sees
    sees_same sight =
        ap (λ (c : Option ℤ). sees_from sight s a v t c (cell_at a t)) (same v vl rows_apart columns_apart)
        ∙ ap (λ (c : Option ℤ). sees_from sight s a v t (cell_at b v) c) (same t tl (omega arith) (omega arith))
        ∙ with_cells (cell_at b v) (cell_at b t)
      where
        with_cells : (c d : Option ℤ) → sees_from sight s a v t c d ≡ sees_from sight s b v t c d
        with_cells None d = refl
        with_cells (Some c) None = refl
        with_cells (Some c) (Some d) = free_same (c +ℤ sight.from) (d +ℤ sight.to)

-- where both operands stay within the reach, the sum stays
pub sight_same : (sight : Sighting) (s : Size) (viewers surface viewers' surface' : Cells) (t : ℕ) → IsSize s → t < cells_in s → AreSameNear s sight.reach t viewers viewers' → AreSameNear s sight.reach t surface surface' → sight_at sight s viewers surface t ≡ sight_at sight s viewers' surface' t
unfolding sight_at
sight_same sight s viewers surface viewers' surface' t size l first second =
    ap (λ (xs : Cells). statistic_of Sum (numbers_in xs))
    (picked (cell_at viewers) (cell_at viewers') (seen surface) (seen surface') (cells_in s) 0
    (λ v m. (tests v (omega (arith, m)) (nat_le (steps (apart s v t)) sight.reach) refl, λ e. let p = and_parts (nat_le (steps (apart s v t)) sight.reach) (sees sight s surface v t) e in let n = leb-true (steps (apart s v t)) sight.reach p.0 in let vl : v < cells_in s = omega (arith, m) in first v vl (rows_apart s size sight.reach t v l vl n) (columns_apart s size sight.reach t v l vl n))))
  where
    seen : Cells → ℕ → Bool
    seen cells v = nat_le (steps (apart s v t)) sight.reach && sees sight s cells v t

    tests : (v : ℕ) → v < cells_in s → (b : Bool) → nat_le (steps (apart s v t)) sight.reach ≡ b → seen surface v ≡ seen surface' v
    tests v vl true e = ap (λ b. nat_le (steps (apart s v t)) sight.reach && b) (sees_same s size sight.reach t v l vl (leb-true (steps (apart s v t)) sight.reach e) surface surface' second sight)
    tests v vl false e = ap (λ b. b && sees sight s surface v t) e ∙ sym (ap (λ b. b && sees sight s surface' v t) e)
