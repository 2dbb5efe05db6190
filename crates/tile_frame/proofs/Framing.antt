-- Rows that are made cell by cell, and tiles that are made row by row.
use Rattle.std.proofs.Common.{◌≡◌, ◌≢◌, ℕ, ◌+◌, ◌-◌, ◌*◌, ◌<◌, ◌≤◌, length, get_or, set, IsTrue, IsFalse, Option, None, ℤ, Result, Ok, Err, IfOk, refl, sym, ◌∙◌, ap, subst, arith, below_more, ⊎_elim, Bool, true, false, min, if◌then◌else◌}
use Rattle.std.specs.Result.{is_err}
use Rattle.std.proofs.lemmas.Bool.{cases_lt}
use Rattle.std.proofs.lemmas.List.{get_or-set_same, get_or-set_other, length-set}
use Rattle.std.proofs.lemmas.Nat.{mul-add-lt, div-mul-add, mod-mul-add}
use Rattle.map_nums.specs.Answers.{is_wide}
use Rattle.map_nums.specs.Exact.{IsExact}
use Rattle.map_nums.specs.Grids.{Size, Cells}
use Rattle.map_nums.specs.declared.Wide.{Wide}
use Rattle.layer_tiles.specs.Tiles.{Block, tile_start, tile_top, tile_left, tile_height, tile_width}
use Rattle.layer_tiles.specs.PlaceByPlace.{IsPlaceRefusal, IsLeastPlace, IsMade}
use Rattle.layer_tiles.specs.declared.kernels.KernelRefusal.{KernelRefusal}
use Rattle.layer_tiles.specs.declared.kernels.KernelRefusal.TheVariants.{Overflow}
use Rattle.layer_tiles.specs.declared.kernels.KernelRefusal.TheVariants as refusal
use Rattle.tile_frame.specs.Frames.{by_row, refused_at, AreCellsOf, IsRowMade, IsFirstWide, IsRowRefusal, IsRowAnswer}

-- ---- a row

-- no cell yet
pub row_none : (value : ℕ → Option ℤ) (width r : ℕ) (b : Block) → IsRowMade value width r 0 b b
row_none value width r b = record {
  height_stays = refl;
  width_stays = refl;
  count = refl;
  above = λ k l. refl;
  done = λ c l. absurd (omega (arith, l));
  in_range = λ c l. absurd (omega (arith, l));
}

-- one more cell
row_more : (value : ℕ → Option ℤ) (width height r c : ℕ) (old made new : Block) (cell : Option ℤ) → IsRowMade value width r c old made → old.width ≡ width → length old.cells ≡ height * width → r < height → c < width → (cell ≡ value c) × IsFalse (is_wide (value c)) → new ≡ record made { cells = set made.cells (r * made.width + c) cell } → IsRowMade value width r (c + 1) old new
row_more value width height r c old made new cell m w count p q a n =
    let at = r * width + c in
    let there : new ≡ record made { cells = set made.cells at cell } = n ∙ ap (λ j. record made { cells = set made.cells (r * j + c) cell }) (m.width_stays ∙ w) in
    let within : at < length made.cells = omega (arith, mul-add-lt r width c height p q, count, m.count) in
    rw (there)
    record {
      height_stays = m.height_stays;
      width_stays = m.width_stays;
      count = length-set made.cells at cell ∙ m.count;
      above = λ k l. let other : k ≢ at = omega arith in get_or-set_other made.cells at k cell None other ∙ m.above k l;
      done = below_more _ _
          (λ j l. let other : r * width + j ≢ at = omega arith in get_or-set_other made.cells at (r * width + j) cell None other ∙ m.done j l)
          (get_or-set_same made.cells at cell None within ∙ a.0);
      in_range = below_more _ _ m.in_range a.1;
    }

-- the answer of one more cell
pub row_put : (value : ℕ → Option ℤ) (width height r c at : ℕ) (old made new : Block) (answer : Result (Option ℤ) Wide) → IsRowMade value width r c old made → old.width ≡ width → length old.cells ≡ height * width → r < height → c < width → IsExact (value c) answer → IfOk answer (λ cell. new ≡ record made { cells = set made.cells (r * made.width + c) cell }) → refused_at at answer ≡ Ok tt → IsRowMade value width r (c + 1) old new
row_put value width height r c at old made new (Ok cell) m w count p q a n e = row_more value width height r c old made new cell m w count p q a n
row_put value width height r c at old made new (Err wide) m w count p q a n e = cc

-- one more cell of a list
cells_more : (value : ℕ → Option ℤ) (c : ℕ) (cells : Cells) (cell : Option ℤ) → AreCellsOf value c cells → c < length cells → cell ≡ value c → IsFalse (is_wide (value c)) → AreCellsOf value (c + 1) (set cells c cell)
cells_more value c cells cell a l is ranged = record {
  same = below_more _ _
      (λ j b. let other : j ≢ c = omega arith in get_or-set_other cells c j cell None other ∙ a.same j b)
      (get_or-set_same cells c cell None l ∙ is);
  in_range = below_more _ _ a.in_range ranged;
}

-- a cell behind the first n
cells_beyond : (value : ℕ → Option ℤ) (n c : ℕ) (cells : Cells) (cell : Option ℤ) → AreCellsOf value n cells → n ≤ c → AreCellsOf value n (set cells c cell)
cells_beyond value n c cells cell a l = record {
  same = λ j b. let other : j ≢ c = omega arith in get_or-set_other cells c j cell None other ∙ a.same j b;
  in_range = a.in_range;
}

-- c columns of a row are made, and `end` is the first of them whose value is out of range, or the width
pub record AreMadeTo (value : ℕ → Option ℤ) (width c end : ℕ) (cells : Cells) : Type 0 where
  pub most : end ≤ width
  pub made : AreCellsOf value (min c end) cells
  pub wide : end < width → (end < c) × IsTrue (is_wide (value end))

-- one more column
pub made_more : (value : ℕ → Option ℤ) (width c end : ℕ) (cells : Cells) (answer : Result (Option ℤ) Wide) (cell : Option ℤ) → AreMadeTo value width c end cells → c < width → c < length cells → IsExact (value c) answer → IfOk answer (λ v. cell ≡ v) → AreMadeTo value width (c + 1) (if is_err answer then min end c else end) (set cells c cell)
made_more value width c end cells answer cell m within l x is = ⊎_elim (λ (b : c < end). before answer b x is) (λ (b : end ≤ c). behind answer b) (cases_lt c end)
  where
    TO : ℕ → Type 0
    TO n = AreMadeTo value width (c + 1) n (set cells c cell)

    before : (answer : Result (Option ℤ) Wide) → c < end → IsExact (value c) answer → IfOk answer (λ v. cell ≡ v) → TO (if is_err answer then min end c else end)
    before (Ok v) b x is =
        let whole : min c end ≡ c = omega arith in
        let more : min (c + 1) end ≡ c + 1 = omega arith in
        let all : end ≡ width = ⊎_elim (λ (w : end < width). absurd (omega (arith, (m.wide w).0))) (λ (w : width ≤ end). omega (arith, m.most)) (cases_lt end width) in
        record {
          most = m.most;
          made = subst (λ n. AreCellsOf value n (set cells c cell)) (sym more) (cells_more value c cells cell (subst (λ n. AreCellsOf value n cells) whole m.made) l (is ∙ x.0) x.1);
          wide = λ w. absurd (omega (arith, all, w));
        }
    before (Err e) b x is =
        let whole : min c end ≡ c = omega arith in
        let same : min end c ≡ c = omega arith in
        let end_at : min (c + 1) (min end c) ≡ c = omega arith in
        record {
          most = omega (arith, same, within);
          made = subst (λ n. AreCellsOf value n (set cells c cell)) (sym end_at) (cells_beyond value c c cells cell (subst (λ n. AreCellsOf value n cells) whole m.made) (omega arith));
          wide = λ w. (omega (arith, same), subst (λ n. IsTrue (is_wide (value n))) (sym same) x);
        }

    behind : (answer : Result (Option ℤ) Wide) → end ≤ c → TO (if is_err answer then min end c else end)
    behind answer b =
        let kept : (if is_err answer then min end c else end) ≡ end = same_end (is_err answer) in
        let whole : min c end ≡ end = omega arith in
        let more : min (c + 1) end ≡ end = omega arith in
        subst TO (sym kept)
        record {
          most = m.most;
          made = subst (λ n. AreCellsOf value n (set cells c cell)) (sym more) (cells_beyond value end c cells cell (subst (λ n. AreCellsOf value n cells) whole m.made) b);
          wide = λ w. (omega (arith, b), (m.wide w).1);
        }
      where
        same_end : (d : Bool) → (if d then min end c else end) ≡ end
        same_end true = omega (arith, b)
        same_end false = refl

-- the first column whose value is out of range
pub first_wide : (value : ℕ → Option ℤ) (s : Size) (t r c at : ℕ) → ((k : ℕ) → k < c → IsFalse (is_wide (value k))) → c < tile_width s t → at ≡ (tile_top s t + r) * s.columns + tile_left s t + c → IsTrue (is_wide (value c)) → IsFirstWide value s t r at
unfolding tile_start
first_wide value s t r c at before q l w = record { column = c; within = q; is_at = omega (arith, l); wide = w; first = before }

-- or why the row has none
pub row_refused : (value : ℕ → Option ℤ) (s : Size) (t r c at : ℕ) (old made : Block) (answer : Result (Option ℤ) Wide) (e : KernelRefusal) → IsRowMade value (tile_width s t) r c old made → c < tile_width s t → at ≡ (tile_top s t + r) * s.columns + tile_left s t + c → IsExact (value c) answer → refused_at at answer ≡ Err e → IsRowRefusal value s t r e
row_refused value s t r c at old made (Ok cell) e m q l a x = cc
row_refused value s t r c at old made (Err wide) (Overflow place) m q l a x = let same : place ≡ at = cc in first_wide value s t r c place m.in_range q (same ∙ l) a
row_refused value s t r c at old made (Err wide) refusal.NoMemory m q l a x = tt

-- the same values by another name
pub row_as : (f g : ℕ → Option ℤ) (s : Size) (t r : ℕ) (old new : Block) (result : Result (Unit {0}) KernelRefusal) → ((c : ℕ) → c < tile_width s t → f c ≡ g c) → IsRowAnswer f s t r old new result → IsRowAnswer g s t r old new result
row_as f g s t r old new (Ok done) same m = record {
  height_stays = m.height_stays;
  width_stays = m.width_stays;
  count = m.count;
  above = m.above;
  done = λ c l. m.done c l ∙ same c l;
  in_range = λ c l. subst (λ (x : Option ℤ). IsFalse (is_wide x)) (same c l) (m.in_range c l);
}
row_as f g s t r old new (Err (Overflow at)) same m = record {
  column = m.column;
  within = m.within;
  is_at = m.is_at;
  wide = subst (λ (x : Option ℤ). IsTrue (is_wide x)) (same m.column m.within) m.wide;
  first = λ c l. let before : c < tile_width s t = omega (arith, m.within) in subst (λ (x : Option ℤ). IsFalse (is_wide x)) (same c before) (m.first c l);
}
row_as f g s t r old new (Err refusal.NoMemory) same m = tt

-- ---- a tile

pub by_row-is : (w : ℕ) (q : ℕ → ℕ → Option ℤ) (r c : ℕ) → c < w → by_row w q (r * w + c) ≡ q r c
unfolding by_row
by_row-is w q r c l = rw (div-mul-add r w c l, mod-mul-add r w c l) refl

-- the rows above row r are made, and row r was made
pub rows_then : (q : ℕ → ℕ → Option ℤ) (height width r : ℕ) (old new : Block) → IsMade (by_row width q) height width (r * width) old → IsRowMade (q r) width r width old new → IsMade (by_row width q) height width ((r + 1) * width) new
rows_then q height width r old new m row = record {
  height_is = row.height_stays ∙ m.height_is;
  width_is = row.width_stays ∙ m.width_is;
  count = row.count ∙ m.count;
  done = λ j l. ⊎_elim
      (λ (a : j < r * width). row.above j a ∙ m.done j a)
      (λ (a : r * width ≤ j).
      let c = j - r * width in
      let in_row : c < width = omega arith in
      let at : r * width + c ≡ j = omega arith in
      ap (λ k. get_or new.cells k None) (sym at) ∙ row.done c in_row ∙ sym (by_row-is width q r c in_row) ∙ ap (by_row width q) at)
      (cases_lt j (r * width));
  in_range = λ j l. ⊎_elim
      (λ (a : j < r * width). m.in_range j a)
      (λ (a : r * width ≤ j).
      let c = j - r * width in
      let in_row : c < width = omega arith in
      let at : r * width + c ≡ j = omega arith in
      subst (λ k. IsFalse (is_wide (by_row width q k))) at (subst (λ (x : Option ℤ). IsFalse (is_wide x)) (sym (by_row-is width q r c in_row)) (row.in_range c in_row)))
      (cases_lt j (r * width));
}

-- row r has a value out of range
pub rows_refused : (q : ℕ → ℕ → Option ℤ) (s : Size) (t r : ℕ) (old : Block) (e : KernelRefusal) → IsMade (by_row (tile_width s t) q) (tile_height s t) (tile_width s t) (r * tile_width s t) old → r < tile_height s t → IsRowRefusal (q r) s t r e → IsPlaceRefusal (by_row (tile_width s t) q) s t e
rows_refused q s t r old (Overflow at) m p f = least_place q s t r at old m p f
  where
    least_place : (q : ℕ → ℕ → Option ℤ) (s : Size) (t r at : ℕ) (old : Block) → IsMade (by_row (tile_width s t) q) (tile_height s t) (tile_width s t) (r * tile_width s t) old → r < tile_height s t → IsFirstWide (q r) s t r at → IsLeastPlace (by_row (tile_width s t) q) s t at
    least_place q s t r at old m p f =
        let w = tile_width s t in
        record {
          row = r;
          column = f.column;
          row_within = p;
          column_within = f.within;
          is_at = f.is_at;
          wide = subst (λ (x : Option ℤ). IsTrue (is_wide x)) (sym (by_row-is w q r f.column f.within)) f.wide;
          least = λ k l. ⊎_elim
              (λ (a : k < r * w). m.in_range k a)
              (λ (a : r * w ≤ k).
              let c = k - r * w in
              let before : c < f.column = omega arith in
              let in_row : c < w = omega (arith, f.within) in
              let at : r * w + c ≡ k = omega arith in
              subst (λ j. IsFalse (is_wide (by_row w q j))) at (subst (λ (x : Option ℤ). IsFalse (is_wide x)) (sym (by_row-is w q r c in_row)) (f.first c before)))
              (cases_lt k (r * w));
        }
rows_refused q s t r old refusal.NoMemory m p f = tt
