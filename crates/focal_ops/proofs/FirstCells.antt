-- What the first cells of a square add up to, and its pieces.
use Rattle.std.proofs.Common.{◌≡◌, ◌≢◌, inl, inr, ℕ, zero, suc, ◌+◌, ◌-◌, ◌*◌, ◌<◌, ◌≤◌, Bool, true, false, cond, List, [], ◌∷◌, ◌++◌, length, get_or, set, take, replicate, Option, None, Some, ℤ, pos, ◌+ℤ◌, ◌-ℤ◌, refl, sym, ◌∙◌, ap, arith, fold, below_more, slice_range, FitsSigned, w64}
use Rattle.std.specs.Int.{int_div_euclid}
use Rattle.std.specs.Ordering.{int_eq}
use Rattle.std.proofs.lemmas.Int.{ints}
use Rattle.std.proofs.lemmas.List.{get_or-set_same, get_or-set_other, take_more, length-append}
use Rattle.std.proofs.lemmas.Bool.{cases_lt}
use Rattle.map_nums.specs.Stats.{statistic_of, total_of}
use Rattle.map_nums.specs.Grids.{Size, Cells, numbers_in}
use Rattle.layer_tiles.specs.Tiles.{Block, tile_height, tile_width}
use Rattle.focal_ops.specs.Masks.{HasHalves, IsGrown, numbers_to, numbers_round, piece_numbers}
use Rattle.focal_ops.specs.Totals.{IsFront, IsWithin, Rises, count_of, differences, of_totals, summed}
use Rattle.focal_ops.proofs.Spans.{numbers_in-append}
use Rattle.focal_ops.proofs.Mosts.{slice_two}
use Rattle.focal_ops.proofs.Round.{numbers_more, row_end}

-- f of joined lists is the sum
abbrev pub IsAdditive : (List ℤ → ℤ) → Type 0
IsAdditive f = (xs ys : List ℤ) → f (xs ++ ys) ≡ f xs +ℤ f ys

fold_from : (a : ℤ) (xs : List ℤ) → fold ◌+ℤ◌ a xs ≡ a +ℤ fold ◌+ℤ◌ (pos 0) xs
fold_from a [] = omega (arith, ints)
fold_from a (x ∷ xs) = omega (arith, ints, fold_from (a +ℤ x) xs, fold_from (pos 0 +ℤ x) xs)

fold_two : (a : ℤ) (xs ys : List ℤ) → fold ◌+ℤ◌ a (xs ++ ys) ≡ fold ◌+ℤ◌ (fold ◌+ℤ◌ a xs) ys
fold_two a [] ys = refl
fold_two a (x ∷ xs) ys = fold_two (a +ℤ x) xs ys

pub total_adds : IsAdditive total_of
total_adds xs ys = fold_two (pos 0) xs ys ∙ fold_from (total_of xs) ys

pub count_adds : IsAdditive count_of
count_adds xs ys = omega (arith, ints, length-append xs ys)

-- ---- bounds

pub within_zero : (n : ℕ) → IsWithin n (pos 0)
within_zero n = record { low = omega (arith, ints); high = omega (arith, ints) }

pub within_more : (m n : ℕ) (z : ℤ) → m ≤ n → IsWithin m z → IsWithin n z
within_more m n z h w = record { low = omega (arith, ints, w.low, h); high = omega (arith, ints, w.high, h) }

pub within_sum : (m : ℕ) (x v : ℤ) → IsWithin m x → IsWithin 1 v → IsWithin (m + 1) (x +ℤ v)
within_sum m x v p q = record { low = omega (arith, ints, p.low, q.low); high = omega (arith, ints, p.high, q.high) }

pub within_rise : (k : ℕ) (x r : ℤ) → IsWithin (65 * k) x → IsWithin 65 r → IsWithin (65 * (k + 1)) (x +ℤ r)
within_rise k x r p q = record { low = omega (arith, ints, p.low, q.low); high = omega (arith, ints, p.high, q.high) }

one_further : (k : ℕ) (a b d : ℤ) → IsWithin k (b -ℤ a) → IsWithin 1 (d -ℤ b) → IsWithin (k + 1) (d -ℤ a)
one_further k a b d p q = record { low = omega (arith, ints, p.low, q.low); high = omega (arith, ints, p.high, q.high) }

nowhere : (a : ℤ) → IsWithin 0 (a -ℤ a)
nowhere a = record { low = omega (arith, ints); high = omega (arith, ints) }

-- over k places the fronts rise by k numbers
pub rise_over : (fronts : List ℤ) (n i k : ℕ) → Rises n fronts → i + k ≤ n → IsWithin k (get_or fronts (i + k) (pos 0) -ℤ get_or fronts i (pos 0))
rise_over fronts n i zero h l = let e : i + 0 ≡ i = omega arith in rw (e) (nowhere (get_or fronts i (pos 0)))
rise_over fronts n i (suc k) h l =
    let e : i + suc k ≡ i + k + 1 = omega arith in
    let f : suc k ≡ k + 1 = omega arith in
    rw (e, f) (one_further k (get_or fronts i (pos 0)) (get_or fronts (i + k) (pos 0)) (get_or fronts (i + k + 1) (pos 0)) (rise_over fronts n i k h (omega (arith, l))) (h (i + k) (omega (arith, l))))

pub just : (x v : ℤ) → (x +ℤ v) -ℤ x ≡ v
just x v = omega (arith, ints)

-- ---- fronts

front_next : (f : List ℤ → ℤ) → IsAdditive f → (square : Cells) (m : ℕ) (cell : Option ℤ) (x v : ℤ) → m < length square → cell ≡ get_or square m cell → x ≡ f (numbers_in (take m square)) → v ≡ f (numbers_in (cell ∷ [])) → x +ℤ v ≡ f (numbers_in (take (m + 1) square))
front_next f add square m cell x v l is e g =
    ap (λ z. z +ℤ v) e ∙ ap (λ z. f (numbers_in (take m square)) +ℤ z) g
    ∙ sym (add (numbers_in (take m square)) (numbers_in (cell ∷ [])))
    ∙ ap f (sym (ap numbers_in (take_more square m cell l ∙ ap (λ (c : Option ℤ). take m square ++ c ∷ []) (sym is)) ∙ numbers_in-append (take m square) (cell ∷ [])))

pub total_next : (square : Cells) (m : ℕ) (cell : Option ℤ) (x v : ℤ) → m < length square → cell ≡ get_or square m cell → x ≡ total_of (numbers_in (take m square)) → v ≡ total_of (numbers_in (cell ∷ [])) → x +ℤ v ≡ total_of (numbers_in (take (m + 1) square))
total_next square m cell x v l is e g = front_next total_of total_adds square m cell x v l is e g

pub count_next : (square : Cells) (m : ℕ) (cell : Option ℤ) (x v : ℤ) → m < length square → cell ≡ get_or square m cell → x ≡ count_of (numbers_in (take m square)) → v ≡ count_of (numbers_in (cell ∷ [])) → x +ℤ v ≡ count_of (numbers_in (take (m + 1) square))
count_next square m cell x v l is e g = front_next count_of count_adds square m cell x v l is e g

pub front_more : (f : List ℤ → ℤ) (square : Cells) (m : ℕ) (fronts : List ℤ) (word : ℤ) → IsFront f square m fronts → m + 1 < length fronts → word ≡ f (numbers_in (take (m + 1) square)) → IsWithin 1 (word -ℤ get_or fronts m (pos 0)) → IsFront f square (m + 1) (set fronts (m + 1) word)
front_more f square m fronts word h room e w = record {
  is = λ j l. elim (cases_lt j (m + 1)) as (λ _. get_or (set fronts (m + 1) word) j (pos 0) ≡ f (numbers_in (take j square))) [
    | inl a ↦ (let ne : j ≢ m + 1 = omega (arith, a) in get_or-set_other fronts (m + 1) j word (pos 0) ne ∙ h.is j (omega (arith, a)))
    | inr a ↦ (let same : j ≡ m + 1 = omega (arith, a, l) in rw (same) (get_or-set_same fronts (m + 1) word (pos 0) room ∙ e))
  ];
  rises = λ j l.
      let here : j ≢ m + 1 = omega (arith, l) in
      elim (cases_lt j m) as (λ _. IsWithin 1 (get_or (set fronts (m + 1) word) (j + 1) (pos 0) -ℤ get_or (set fronts (m + 1) word) j (pos 0))) [
        | inl a ↦ (let ne : j + 1 ≢ m + 1 = omega (arith, a) in rw (get_or-set_other fronts (m + 1) (j + 1) word (pos 0) ne, get_or-set_other fronts (m + 1) j word (pos 0) here) (h.rises j a))
        | inr a ↦ (let same : j ≡ m = omega (arith, a, l) in rw (get_or-set_other fronts (m + 1) j word (pos 0) here, same, get_or-set_same fronts (m + 1) word (pos 0) room) w)
      ];
}

from_start : (xs : Cells) (n : ℕ) → slice_range xs 0 n ≡ take n xs
from_start xs n = let e : n - 0 ≡ n = omega arith in ap (λ k. take k xs) e

-- a piece is what the fronts rise by
front_piece : (f : List ℤ → ℤ) → IsAdditive f → (square : Cells) (n : ℕ) (fronts : List ℤ) (i w : ℕ) → IsFront f square n fronts → i + w ≤ n → f (numbers_in (slice_range square i (i + w))) ≡ get_or fronts (i + w) (pos 0) -ℤ get_or fronts i (pos 0)
front_piece f add square n fronts i w h l =
    let a = h.is i (omega arith) in
    let b = h.is (i + w) l in
    let front : take (i + w) square ≡ take i square ++ slice_range square i (i + w) = sym (from_start square (i + w)) ∙ slice_two square 0 i (i + w) (omega arith) (omega arith) ∙ ap (λ xs. xs ++ slice_range square i (i + w)) (from_start square i) in
    let s : f (numbers_in (take (i + w) square)) ≡ f (numbers_in (take i square)) +ℤ f (numbers_in (slice_range square i (i + w))) = ap (λ xs. f (numbers_in xs)) front ∙ ap f (numbers_in-append (take i square) (slice_range square i (i + w))) ∙ add (numbers_in (take i square)) (numbers_in (slice_range square i (i + w))) in
    rise (f (numbers_in (slice_range square i (i + w)))) (get_or fronts i (pos 0)) (get_or fronts (i + w) (pos 0)) (b ∙ s ∙ ap (λ z. z +ℤ f (numbers_in (slice_range square i (i + w)))) (sym a))
  where
    rise : (p a b : ℤ) → b ≡ a +ℤ p → p ≡ b -ℤ a
    rise p a b e = omega (arith, ints, e)

pub differences_are : (f : List ℤ → ℤ) → IsAdditive f → f [] ≡ pos 0 → (reach : ℕ) (halves : List ℕ) (square : Cells) (fronts : List ℤ) (w r c n k : ℕ) → IsFront f square n fronts → ((j : ℕ) → j < k → (r + j) * w + (c + reach - get_or halves j 0) + (2 * get_or halves j 0 + 1) ≤ n) → differences reach halves fronts w r c k ≡ f (numbers_to reach halves square w r c k)
unfolding numbers_to
differences_are f add none reach halves square fronts w r c n zero h room = sym none
differences_are f add none reach halves square fronts w r c n (suc k) h room = one_more
    (differences_are f add none reach halves square fronts w r c n k h (λ j l. room j (omega (arith, l))))
    (front_piece f add square n fronts ((r + k) * w + (c + reach - get_or halves k 0)) (2 * get_or halves k 0 + 1) h (room k (omega arith)))
  where
    one_more : differences reach halves fronts w r c k ≡ f (numbers_to reach halves square w r c k) → f (piece_numbers reach halves square w r c k) ≡ get_or fronts ((r + k) * w + (c + reach - get_or halves k 0) + (2 * get_or halves k 0 + 1)) (pos 0) -ℤ get_or fronts ((r + k) * w + (c + reach - get_or halves k 0)) (pos 0) → differences reach halves fronts w r c (suc k) ≡ f (numbers_to reach halves square w r c (suc k))
    one_more e g =
        let next : suc k ≡ k + 1 = omega arith in
        ap (λ z. z +ℤ (get_or fronts ((r + k) * w + (c + reach - get_or halves k 0) + (2 * get_or halves k 0 + 1)) (pos 0) -ℤ get_or fronts ((r + k) * w + (c + reach - get_or halves k 0)) (pos 0))) e
        ∙ ap (λ z. f (numbers_to reach halves square w r c k) +ℤ z) (sym g)
        ∙ sym (add (numbers_to reach halves square w r c k) (piece_numbers reach halves square w r c k))
        ∙ ap f (sym (numbers_more reach halves square w r c k))
        ∙ ap (λ j. f (numbers_to reach halves square w r c j)) (sym next)

-- what the fronts rise by round a cell of a tile
pub rises_are : (f : List ℤ → ℤ) → IsAdditive f → f [] ≡ pos 0 → (s : Size) (t reach : ℕ) (halves : List ℕ) (b : Block) (fronts : List ℤ) (r c : ℕ) → HasHalves reach halves → IsGrown s t reach b → IsFront f b.cells (length b.cells) fronts → r < tile_height s t → c < tile_width s t → differences reach halves fronts b.width r c (2 * reach + 1) ≡ f (numbers_round reach halves b.cells b.width r c)
rises_are f add none s t reach halves b fronts r c h g front p q =
    differences_are f add none reach halves b.cells fronts b.width r c (length b.cells) (2 * reach + 1) front
    (λ j l.
    let most = h.most j (omega (arith, l, h.few)) in
    let end = row_end (r + j) b.height b.width (length b.cells) (omega (arith, l, p, g.height)) (omega (arith, g.count)) in
    omega (arith, end, most, q, g.width))

-- ---- what totals stand for

not_zero : (n : ℕ) → int_eq (pos (suc n)) (pos 0) ≡ false
not_zero n = grind (arith, ints)

pub totals_are : (mean : Bool) (zs : List ℤ) → statistic_of (summed mean) zs ≡ of_totals mean (total_of zs) (count_of zs)
totals_are false [] = refl
totals_are true [] = refl
totals_are false (z ∷ zs) = sym (ap (λ b. cond b None (Some (total_of (z ∷ zs)))) (not_zero (length zs)))
totals_are true (z ∷ zs) = sym (ap (λ b. cond b None (Some (int_div_euclid (total_of (z ∷ zs)) (count_of (z ∷ zs))))) (not_zero (length zs)))

pub zero_at : (n k : ℕ) → get_or (replicate n (pos 0)) k (pos 0) ≡ pos 0
zero_at zero k = refl
zero_at (suc n) zero = refl
zero_at (suc n) (suc k) = zero_at n k

pub adds_more : (old totals left right : List ℤ) (c : ℕ) (word : ℤ) → ((j : ℕ) → j < c → get_or totals j (pos 0) ≡ get_or old j (pos 0) +ℤ (get_or right j (pos 0) -ℤ get_or left j (pos 0))) → ((j : ℕ) → c ≤ j → get_or totals j (pos 0) ≡ get_or old j (pos 0)) → c < length totals → word ≡ get_or totals c (pos 0) +ℤ (get_or right c (pos 0) -ℤ get_or left c (pos 0)) → (j : ℕ) → j < c + 1 → get_or (set totals c word) j (pos 0) ≡ get_or old j (pos 0) +ℤ (get_or right j (pos 0) -ℤ get_or left j (pos 0))
adds_more old totals left right c word done rest room e =
    below_more (λ j. get_or (set totals c word) j (pos 0) ≡ get_or old j (pos 0) +ℤ (get_or right j (pos 0) -ℤ get_or left j (pos 0))) c
    (λ j l. let ne : j ≢ c = omega arith in get_or-set_other totals c j word (pos 0) ne ∙ done j l)
    (get_or-set_same totals c word (pos 0) room ∙ e ∙ ap (λ z. z +ℤ (get_or right c (pos 0) -ℤ get_or left c (pos 0))) (rest c (omega arith)))

pub fits_rise : (r : ℤ) → IsWithin 65 r → FitsSigned w64 r
fits_rise r p = omega (arith, ints, p.low, p.high)

pub fits_total : (k : ℕ) (x r : ℤ) → k ≤ 65 → IsWithin (65 * k) x → IsWithin 65 r → FitsSigned w64 (x +ℤ r)
fits_total k x r few p q = omega (arith, ints, few, p.low, p.high, q.low, q.high)

pub fits_next : (m : ℕ) (x v : ℤ) → m < 9216 → IsWithin m x → IsWithin 1 v → FitsSigned w64 (x +ℤ v)
fits_next m x v l p q = omega (arith, ints, l, p.low, p.high, q.low, q.high)
