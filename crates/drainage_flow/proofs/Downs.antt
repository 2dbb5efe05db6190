-- Where the cells of some rows drain to, band after band and cell after cell.
use Rattle.std.proofs.Common.{◌≡◌, ℕ, zero, suc, ◌+◌, ◌-◌, ◌*◌, ◌/◌, ◌%◌, ◌<◌, ◌≤◌, List, [], ◌∷◌, ◌++◌, length, take, drop, Option, Some, None, refl, sym, ◌∙◌, ap, subst, arith, inl, inr, append_assoc, ℤ, pos, negsuc, ◌+ℤ◌}
use Rattle.std.specs.Prelude.{◌-ℤ◌, slice_index}
use Rattle.std.proofs.lemmas.Bool.{cases_lt}
use Rattle.std.proofs.lemmas.Int.{ints}
use Rattle.std.proofs.lemmas.List.{length-append, get_or_append_left, get_or-append_right, get_or-take, get_or-drop, length-take, length-drop}
use Rattle.std.proofs.lemmas.Nat.{div-mul-add, mod-mul-add, mul-le}
use Rattle.map_nums.specs.Grids.{Size, Cells, Offset, cell_at, cell_there, cells_in, moved, near, row_of, column_of}
use Rattle.map_defs.specs.Flow.{downstream_of}
use Rattle.drainage_flow.specs.Pouring.{down_in}
use Rattle.drainage_flow.specs.Steepest.{offset_at}
use Rattle.drainage_flow.specs.Around.{AreRowsRound}
use Rattle.drainage_flow.specs.Bands.{AreDowns, AddsDowns, LeadOn}
use Rattle.drainage_flow.proofs.Places.{line_some, place_some}

-- ---- one band after another

pub downs_join : (s : Size) (surface : Cells) (at n m : ℕ) (xs ys : List (Option ℕ)) → AreDowns s surface at n xs → AreDowns s surface (at + n) m ys → AreDowns s surface at (n + m) (xs ++ ys)
downs_join s surface at n m xs ys a b = record {
  count = length-append xs ys ∙ omega (arith, a.count, b.count);
  each = λ k l. elim (cases_lt k n) as (λ _. down_in (xs ++ ys) k ≡ downstream_of s surface (at + k)) [
    | inl h ↦ get_or_append_left xs ys None k (omega (arith, a.count, h)) ∙ a.each k h
    | inr h ↦ (let e : at + n + (k - n) ≡ at + k = omega arith in get_or-append_right xs ys n k None a.count h ∙ b.each (k - n) (omega arith) ∙ ap (downstream_of s surface) e)
  ];
}

pub downs_one : (s : Size) (surface : Cells) (at : ℕ) (d : Option ℕ) → d ≡ downstream_of s surface at → AreDowns s surface at 1 (d ∷ [])
downs_one s surface at d e = record {
  count = refl;
  each = λ k l. let z : k ≡ 0 = omega arith in let f : at ≡ at + k = omega arith in ap (down_in (d ∷ [])) z ∙ e ∙ ap (downstream_of s surface) f;
}

-- ---- what was added to a list

pub adds_then : (s : Size) (surface : Cells) (at n next m : ℕ) (xs ys zs : List (Option ℕ)) → next ≡ at + n → AddsDowns s surface at n xs ys → AddsDowns s surface next m ys zs → AddsDowns s surface at (n + m) xs zs
adds_then s surface at n next m xs ys zs e a b = record {
  added = a.added ++ b.added;
  joined = b.joined ∙ ap (λ (l : List (Option ℕ)). l ++ b.added) a.joined ∙ append_assoc xs a.added b.added;
  downs = downs_join s surface at n m a.added b.added a.downs (subst (λ j. AreDowns s surface j m b.added) e b.downs);
}

pub adds_one : (s : Size) (surface : Cells) (at n : ℕ) (xs ys zs : List (Option ℕ)) (d : Option ℕ) → AddsDowns s surface at n xs ys → d ≡ downstream_of s surface (at + n) → zs ≡ ys ++ d ∷ [] → AddsDowns s surface at (n + 1) xs zs
adds_one s surface at n xs ys zs d a e j = adds_then s surface at n (at + n) 1 xs ys zs refl a (record { added = d ∷ []; joined = j; downs = downs_one s surface (at + n) d e })

-- as many, by another sum
pub adds_count : (s : Size) (surface : Cells) (at n m : ℕ) (xs ys : List (Option ℕ)) → n ≡ m → AddsDowns s surface at n xs ys → AddsDowns s surface at m xs ys
adds_count s surface at n m xs ys e a = subst (λ k. AddsDowns s surface at k xs ys) e a

-- a row of its first cell, the inner ones, and its last
pub row_joined : (s : Size) (surface : Cells) (row columns : ℕ) (xs ys zs ws : List (Option ℕ)) → columns ≡ s.columns → 1 < s.columns → AddsDowns s surface (row * columns) 1 xs ys → AddsDowns s surface (row * s.columns + 1) (s.columns - 2) ys zs → AddsDowns s surface (row * columns + columns - 1) 1 zs ws → AddsDowns s surface (row * s.columns) s.columns xs ws
row_joined s surface row columns xs ys zs ws e wide a b c =
    let at = row * s.columns in
    let a : AddsDowns s surface at 1 xs ys = rw e at a in
    let c : AddsDowns s surface (at + s.columns - 1) 1 zs ws = rw e at c in
    adds_count s surface at (1 + (s.columns - 2) + 1) s.columns xs ws (omega arith)
    (adds_then s surface at (1 + (s.columns - 2)) (at + s.columns - 1) 1 xs zs ws (omega arith) (adds_then s surface at 1 (at + 1) (s.columns - 2) xs ys zs refl a b) c)

-- one more row
pub rows_joined : (s : Size) (surface : Cells) (first row : ℕ) (xs ys zs : List (Option ℕ)) → first ≤ row → AddsDowns s surface (first * s.columns) ((row - first) * s.columns) xs ys → AddsDowns s surface (row * s.columns) s.columns ys zs → AddsDowns s surface (first * s.columns) ((row + 1 - first) * s.columns) xs zs
rows_joined s surface first row xs ys zs l a b =
    let from : row ≡ first + (row - first) = omega arith in
    let more : row + 1 - first ≡ row - first + 1 = omega arith in
    adds_count s surface (first * s.columns) ((row - first) * s.columns + s.columns) ((row + 1 - first) * s.columns) xs zs (omega (arith, ap (λ n. n * s.columns) more))
    (adds_then s surface (first * s.columns) ((row - first) * s.columns) (row * s.columns) s.columns xs ys zs (omega (arith, ap (λ n. n * s.columns) from)) a b)

-- ---- an inner cell of a row

moved_at : (s : Size) (i row column r c : ℕ) (o : Offset) → i ≡ row * s.columns + column → column < s.columns → r < s.rows → c < s.columns → pos row +ℤ o.0 ≡ pos r → pos column +ℤ o.1 ≡ pos c → moved s i o ≡ Some (r * s.columns + c)
moved_at s i row column r c o e l h k down right =
    let q : row_of s i ≡ row = ap (λ n. n / s.columns) e ∙ div-mul-add row s.columns column l in
    let m : column_of s i ≡ column = ap (λ n. n % s.columns) e ∙ mod-mul-add row s.columns column l in
    place_some s (pos (row_of s i) +ℤ o.0) (pos (column_of s i) +ℤ o.1) r c
    (sym (line_some (pos (row_of s i) +ℤ o.0) s.rows r (ap (λ n. pos n +ℤ o.0) q ∙ down) h))
    (sym (line_some (pos (column_of s i) +ℤ o.1) s.columns c (ap (λ n. pos n +ℤ o.1) m ∙ right) k))

-- a cell of a row that was cut out
pub row_cell : (xs : Cells) (a n k : ℕ) → k < n → cell_at (take n (drop a xs)) k ≡ cell_at xs (a + k)
row_cell xs a n k l = get_or-take n (drop a xs) k None l ∙ get_or-drop a xs k None

-- the cell in column left + 1 of a row with rows above and below it
module _ (s : Size) (surface : Cells) (up row start left i : ℕ) (next : row ≡ up + 1) (begins : start ≡ row * s.columns) (is_at : i ≡ start + 1 + left) (below : row + 1 < s.rows) (wide : left + 2 < s.columns) where
  moved_here : (r c n : ℕ) (o : Offset) → r < s.rows → c < s.columns → pos row +ℤ o.0 ≡ pos r → pos (left + 1) +ℤ o.1 ≡ pos c → r * s.columns + c ≡ n → moved s i o ≡ Some n
  moved_here r c n o h k down right e =
      moved_at s i row (left + 1) r c o (omega (arith, begins, is_at)) (omega arith) h k down right ∙ ap (λ (m : ℕ). let f : Option ℕ = Some m in f) e

  near_here : (r j : ℕ) (down : ℤ) → r < s.rows → j < 3 → pos row +ℤ down ≡ pos r → near s surface i (down, pos j -ℤ pos 1) ≡ cell_at surface (r * s.columns + (left + j))
  near_here r j down h k e = ap (cell_there surface) (moved_here r (left + j) (r * s.columns + (left + j)) (down, pos j -ℤ pos 1) h (omega arith) e (omega (arith, ints)) refl)

  rows_here : (over own under : Cells) → length over ≡ s.columns → length own ≡ s.columns → length under ≡ s.columns → ((k : ℕ) → k < s.columns → cell_at over k ≡ cell_at surface (up * s.columns + k)) → ((k : ℕ) → k < s.columns → cell_at own k ≡ cell_at surface (row * s.columns + k)) → ((k : ℕ) → k < s.columns → cell_at under k ≡ cell_at surface ((row + 1) * s.columns + k)) → AreRowsRound s surface i over own under left
  rows_here over own under lo lw lu o w u = record {
    above_within = omega arith;
    here_within = omega arith;
    below_within = omega arith;
    own = w (left + 1) (omega arith) ∙ ap (cell_at surface) (omega (arith, begins, is_at));
    above_is = λ j l. o (left + j) (omega arith) ∙ sym (near_here up j (negsuc 0) (omega arith) l (omega (arith, ints)));
    here_is = λ j l. w (left + j) (omega arith) ∙ sym (near_here row j (pos 0) (omega arith) l (omega (arith, ints)));
    below_is = λ j l. u (left + j) (omega arith) ∙ sym (near_here (row + 1) j (pos 1) below l (omega (arith, ints)));
  }

  leads_here : LeadOn s i left ((start - s.columns + 1) ∷ (start - s.columns + 2) ∷ (start + 2) ∷ (start + s.columns + 2) ∷ (start + s.columns + 1) ∷ (start + s.columns) ∷ start ∷ (start - s.columns) ∷ [])
  leads_here = record { each = each }
    where
      over : start ≡ up * s.columns + s.columns
      over = omega (arith, begins, ap (λ n. n * s.columns) next)

      under : (row + 1) * s.columns ≡ start + s.columns
      under = omega (arith, begins)

      each : (k : ℕ) → k < 8 → moved s i (offset_at k) ≡ Some (slice_index ((start - s.columns + 1) ∷ (start - s.columns + 2) ∷ (start + 2) ∷ (start + s.columns + 2) ∷ (start + s.columns + 1) ∷ (start + s.columns) ∷ start ∷ (start - s.columns) ∷ []) k + left)
      each zero l = moved_here up (left + 1) (start - s.columns + 1 + left) (negsuc 0, pos 0) (omega arith) (omega arith) (omega (arith, ints)) (omega (arith, ints)) (omega (arith, over))
      each (suc zero) l = moved_here up (left + 2) (start - s.columns + 2 + left) (negsuc 0, pos 1) (omega arith) wide (omega (arith, ints)) (omega (arith, ints)) (omega (arith, over))
      each (suc (suc zero)) l = moved_here row (left + 2) (start + 2 + left) (pos 0, pos 1) (omega arith) wide (omega (arith, ints)) (omega (arith, ints)) (omega (arith, begins))
      each (suc (suc (suc zero))) l = moved_here (row + 1) (left + 2) (start + s.columns + 2 + left) (pos 1, pos 1) below wide (omega (arith, ints)) (omega (arith, ints)) (omega (arith, under))
      each (suc (suc (suc (suc zero)))) l = moved_here (row + 1) (left + 1) (start + s.columns + 1 + left) (pos 1, pos 0) below (omega arith) (omega (arith, ints)) (omega (arith, ints)) (omega (arith, under))
      each (suc (suc (suc (suc (suc zero))))) l = moved_here (row + 1) left (start + s.columns + left) (pos 1, negsuc 0) below (omega arith) (omega (arith, ints)) (omega (arith, ints)) (omega (arith, under))
      each (suc (suc (suc (suc (suc (suc zero)))))) l = moved_here row left (start + left) (pos 0, negsuc 0) (omega arith) (omega arith) (omega (arith, ints)) (omega (arith, ints)) (omega (arith, begins))
      each (suc (suc (suc (suc (suc (suc (suc zero))))))) l = moved_here up left (start - s.columns + left) (negsuc 0, negsuc 0) (omega arith) (omega arith) (omega (arith, ints)) (omega (arith, ints)) (omega (arith, over))
      each (suc (suc (suc (suc (suc (suc (suc (suc k)))))))) l = absurd (omega arith)

  -- by rows that are cut out of the map's cells
  pub rows_cut : (w : ℕ) → w ≡ s.columns → length surface ≡ cells_in s → AreRowsRound s surface i (take (start - (start - w)) (drop (start - w) surface)) (take (start + w - start) (drop start surface)) (take (start + 2 * w - (start + w)) (drop (start + w) surface)) left
  rows_cut w e count =
      let over : start ≡ up * s.columns + s.columns = omega (arith, begins, ap (λ n. n * s.columns) next) in
      let under : (row + 1) * s.columns ≡ start + s.columns = omega (arith, begins) in
      let most = mul-le (row + 2) s.columns s.rows s.columns (omega arith) (omega arith) in
      let first : start - w + w ≡ start = omega (arith, e, over) in
      let end : start + w + w ≤ length surface = omega (arith, e, count, begins, most) in
      rows_here
      (take (start - (start - w)) (drop (start - w) surface)) (take (start + w - start) (drop start surface)) (take (start + 2 * w - (start + w)) (drop (start + w) surface))
      (simp (length-take, length-drop) (omega arith)) (simp (length-take, length-drop) (omega arith)) (simp (length-take, length-drop) (omega arith))
      (λ k l. row_cell surface (start - w) (start - (start - w)) k (omega arith) ∙ ap (cell_at surface) (omega arith))
      (λ k l. row_cell surface start (start + w - start) k (omega arith) ∙ ap (cell_at surface) (omega (arith, begins)))
      (λ k l. row_cell surface (start + w) (start + 2 * w - (start + w)) k (omega arith) ∙ ap (cell_at surface) (omega (arith, under)))

  pub leads_on : (w : ℕ) (steps : List ℕ) → w ≡ s.columns → steps ≡ (start - w + 1) ∷ (start - w + 2) ∷ (start + 2) ∷ (start + w + 2) ∷ (start + w + 1) ∷ (start + w) ∷ start ∷ (start - w) ∷ [] → LeadOn s i left steps
  leads_on w steps e is = rw (is, e) leads_here
