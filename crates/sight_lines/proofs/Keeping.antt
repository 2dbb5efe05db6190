-- Viewers that stay where they were.
use Rattle.std.proofs.Common.{◌≡◌, ℕ, zero, suc, ◌+◌, ◌-◌, ◌<◌, ◌≤◌, ◌&&◌, true, false, nat_le, nat_lt, cond, List, [], ◌∷◌, ◌++◌, length, get_or, take, filter, Option, Some, None, ℤ, pos, refl, sym, ◌∙◌, ap, subst, arith, is_some}
use Rattle.std.specs.List.{All, range_with_len, count_by}
use Rattle.std.proofs.lemmas.Bool.Decides.{nat_tests}
use Rattle.std.proofs.lemmas.List.{append_assoc, take_more}
use Rattle.std.proofs.lemmas.List.Elements.{filter-append}
use Rattle.std.proofs.lemmas.List.FromFn.{length-range_with_len}
use Rattle.std.proofs.lemmas.List.Sums.{sum_by-cons}
use Rattle.map_defs.specs.Sight.{viewer_count}
use Rattle.map_nums.specs.Grids.{Size, Cells, cells_in, cell_at}
use Rattle.sight_lines.specs.Found.{IsTaken, IsFound, is_between}
use Rattle.sight_lines.specs.Viewed.{add_viewer, viewers_at, viewers_of}
use Rattle.sight_lines.proofs.Places.{viewers_append}

-- ---- how many there are

one_of : (i n : ℕ) (o : Option ℤ) (rest : List (ℕ × ℤ)) → length rest ≡ n → length (add_viewer i o rest) ≡ cond (is_some o) 1 0 + n
one_of i n None rest e = omega (arith, e)
one_of i n (Some z) rest e = omega (arith, e)

pub as_many : (xs cells : Cells) (a : ℕ) → ((k : ℕ) → k < length xs → get_or xs k None ≡ get_or cells (a + k) None) → length (viewers_at cells (range_with_len a (length xs))) ≡ count_by (λ c. is_some c) xs
as_many [] cells a h = refl
as_many (x ∷ xs) cells a h =
    let z : a + 0 ≡ a = omega arith in
    let here : get_or cells a None ≡ x = sym (h 0 (omega arith) ∙ ap (λ i. get_or cells i None) z) in
    let more = as_many xs cells (a + 1) (λ k l. let e : a + suc k ≡ a + 1 + k = omega arith in h (suc k) (omega arith) ∙ ap (λ i. get_or cells i None) e) in
    ap (λ o. length (add_viewer a o (viewers_at cells (range_with_len (a + 1) (length xs))))) here
    ∙ one_of a (count_by (λ c. is_some c) xs) x (viewers_at cells (range_with_len (a + 1) (length xs))) more
    ∙ sym (sum_by-cons (λ (c : Option ℤ). cond (is_some c) 1 0) x xs)

no_more : (i : ℕ) (o : Option ℤ) (rest : List (ℕ × ℤ)) (n : ℕ) → length rest ≤ n → length (add_viewer i o rest) ≤ n + 1
no_more i None rest n h = omega (arith, h)
no_more i (Some z) rest n h = omega (arith, h)

at_most_all : (cells : Cells) (is : List ℕ) → length (viewers_at cells is) ≤ length is
at_most_all cells [] = omega arith
at_most_all cells (i ∷ is) = omega (arith, no_more i (cell_at cells i) (viewers_at cells is) (length is) (at_most_all cells is))

-- no more than places
pub found_few : (cells : Cells) (n : ℕ) (pairs : List (ℕ × ℤ)) (count : ℕ) → IsFound cells n pairs count → count ≤ n
found_few cells n pairs count f = omega (arith, f.count_is, at_most_all cells (range_with_len 0 n), length-range_with_len 0 n)

-- ---- those between two places

range_split : (a m n : ℕ) → range_with_len a (m + n) ≡ range_with_len a m ++ range_with_len (a + m) n
range_split a zero n =
    let z : 0 + n ≡ n = omega arith in
    let e : a ≡ a + 0 = omega arith in
    ap (λ k. range_with_len a k) z ∙ ap (λ x. range_with_len x n) e
range_split a (suc m) n =
    let z : suc m + n ≡ suc (m + n) = omega arith in
    let e : a + 1 + m ≡ a + suc m = omega arith in
    ap (λ k. range_with_len a k) z ∙ ap (λ xs. a ∷ xs) (range_split (a + 1) m n ∙ ap (λ x. range_with_len (a + 1) m ++ range_with_len x n) e)

keep_one : (from to a : ℕ) (o : Option ℤ) (rest : List (ℕ × ℤ)) → (nat_le from a && nat_lt a to) ≡ true → filter (is_between from to) rest ≡ rest → filter (is_between from to) (add_viewer a o rest) ≡ add_viewer a o rest
keep_one from to a None rest t h = h
keep_one from to a (Some z) rest t h = rw (t) (ap (λ (es : List (ℕ × ℤ)). (a, z) ∷ es) h)

keep_all : (cells : Cells) (from to a n : ℕ) → from ≤ a → a + n ≤ to → filter (is_between from to) (viewers_at cells (range_with_len a n)) ≡ viewers_at cells (range_with_len a n)
keep_all cells from to a zero h l = refl
keep_all cells from to a (suc n) h l = keep_one from to a (cell_at cells a) (viewers_at cells (range_with_len (a + 1) n)) (inside from to a h (omega arith)) (keep_all cells from to (a + 1) n (omega arith) (omega arith))
  where
    inside : (from to a : ℕ) → from ≤ a → a < to → (nat_le from a && nat_lt a to) ≡ true
    inside from to a h l = grind (arith, nat_tests)

drop_one : (from to a : ℕ) (o : Option ℤ) (rest : List (ℕ × ℤ)) → (nat_le from a && nat_lt a to) ≡ false → filter (is_between from to) rest ≡ [] → filter (is_between from to) (add_viewer a o rest) ≡ []
drop_one from to a None rest t h = h
drop_one from to a (Some z) rest t h = rw (t) h

drop_all : (cells : Cells) (from to a n : ℕ) → ((i : ℕ) → a ≤ i → i < a + n → (nat_le from i && nat_lt i to) ≡ false) → filter (is_between from to) (viewers_at cells (range_with_len a n)) ≡ []
drop_all cells from to a zero h = refl
drop_all cells from to a (suc n) h = drop_one from to a (cell_at cells a) (viewers_at cells (range_with_len (a + 1) n)) (h a (omega arith) (omega arith)) (drop_all cells from to (a + 1) n (λ i l m. h i (omega arith) (omega arith)))

below : (from to i : ℕ) → i < from → (nat_le from i && nat_lt i to) ≡ false
below from to i h = grind (arith, nat_tests)

above : (from to i : ℕ) → to ≤ i → (nat_le from i && nat_lt i to) ≡ false
above from to i h = grind (arith, nat_tests)

none_after : (xs : List (ℕ × ℤ)) → xs ++ [] ≡ xs
none_after [] = refl
none_after (x ∷ xs) = ap (λ ys. x ∷ ys) (none_after xs)

between_are : (cells : Cells) (at n total : ℕ) → at + n ≤ total → filter (is_between at (at + n)) (viewers_at cells (range_with_len 0 total)) ≡ viewers_at cells (range_with_len at n)
between_are cells at n total h =
    let p = is_between at (at + n) in
    let rest = total - at - n in
    let whole : total ≡ at + (n + rest) = omega arith in
    let z : 0 + at ≡ at = omega arith in
    let split : range_with_len 0 total ≡ range_with_len 0 at ++ (range_with_len at n ++ range_with_len (at + n) rest) =
    ap (λ k. range_with_len 0 k) whole ∙ range_split 0 at (n + rest) ∙ ap (λ k. range_with_len 0 at ++ range_with_len k (n + rest)) z ∙ ap (λ xs. range_with_len 0 at ++ xs) (range_split at n rest) in
    let apart : viewers_at cells (range_with_len 0 total) ≡ viewers_at cells (range_with_len 0 at) ++ (viewers_at cells (range_with_len at n) ++ viewers_at cells (range_with_len (at + n) rest)) =
    ap (viewers_at cells) split ∙ viewers_append cells (range_with_len 0 at) (range_with_len at n ++ range_with_len (at + n) rest)
    ∙ ap (λ es. viewers_at cells (range_with_len 0 at) ++ es) (viewers_append cells (range_with_len at n) (range_with_len (at + n) rest)) in
    let first = drop_all cells at (at + n) 0 at (λ i l m. below at (at + n) i (omega arith)) in
    let middle = keep_all cells at (at + n) at n (omega arith) (omega arith) in
    let last = drop_all cells at (at + n) (at + n) rest (λ i l m. above at (at + n) i l) in
    ap (filter p) apart
    ∙ filter-append p (viewers_at cells (range_with_len 0 at)) (viewers_at cells (range_with_len at n) ++ viewers_at cells (range_with_len (at + n) rest))
    ∙ ap (λ es. filter p (viewers_at cells (range_with_len 0 at)) ++ es) (filter-append p (viewers_at cells (range_with_len at n)) (viewers_at cells (range_with_len (at + n) rest)))
    ∙ rw (first, middle, last) (none_after (viewers_at cells (range_with_len at n)))

same_viewers : (before cells : Cells) (a n : ℕ) → ((i : ℕ) → a ≤ i → i < a + n → get_or before i None ≡ get_or cells i None) → viewers_at before (range_with_len a n) ≡ viewers_at cells (range_with_len a n)
same_viewers before cells a zero h = refl
same_viewers before cells a (suc n) h =
    ap (λ o. add_viewer a o (viewers_at before (range_with_len (a + 1) n))) (h a (omega arith) (omega arith))
    ∙ ap (add_viewer a (cell_at cells a)) (same_viewers before cells (a + 1) n (λ i l m. h i (omega arith) (omega arith)))

-- those of a list that stands for the cells before
pub found_kept : (before cells : Cells) (at n total : ℕ) (kept new : List (ℕ × ℤ)) (found : ℕ) → at + n ≤ total → kept ≡ viewers_at before (range_with_len 0 total) → ((i : ℕ) → at ≤ i → i < at + n → get_or before i None ≡ get_or cells i None) → IsTaken (viewers_at cells (range_with_len 0 at) ++ filter (is_between at (at + n)) kept) new found → IsFound cells (at + n) new found
found_kept before cells at n total kept new found h e same taken =
    let z : 0 + at ≡ at = omega arith in
    let more : viewers_at cells (range_with_len 0 (at + n)) ≡ viewers_at cells (range_with_len 0 at) ++ viewers_at cells (range_with_len at n) =
    ap (viewers_at cells) (range_split 0 at n ∙ ap (λ k. range_with_len 0 at ++ range_with_len k n) z) ∙ viewers_append cells (range_with_len 0 at) (range_with_len at n) in
    let these : filter (is_between at (at + n)) kept ≡ viewers_at cells (range_with_len at n) = ap (filter (is_between at (at + n))) e ∙ between_are before at n total h ∙ same_viewers before cells at n same in
    subst (λ (all : List (ℕ × ℤ)). IsTaken all new found) (ap (λ es. viewers_at cells (range_with_len 0 at) ++ es) these ∙ sym more) taken

-- ---- one more

pub taken_more : (from to : ℕ) (all kept new : List (ℕ × ℤ)) (k found : ℕ) → k < length kept → IsTaken ((all ++ filter (is_between from to) (take k kept)) ++ filter (is_between from to) (get_or kept k (0, pos 0) ∷ [])) new found → IsTaken (all ++ filter (is_between from to) (take (k + 1) kept)) new found
taken_more from to all kept new k found l taken =
    let p = is_between from to in
    let e = get_or kept k (0, pos 0) in
    let more : filter p (take k kept) ++ filter p (e ∷ []) ≡ filter p (take (k + 1) kept) = sym (ap (filter p) (take_more kept k (0, pos 0) l) ∙ filter-append p (take k kept) (e ∷ [])) in
    subst (λ (es : List (ℕ × ℤ)). IsTaken es new found) (append_assoc all (filter p (take k kept)) (filter p (e ∷ [])) ∙ ap (λ es. all ++ es) more) taken

-- ---- the whole grid

pub viewers_are : (s : Size) (cells : Cells) → viewers_of s cells ≡ viewers_at cells (range_with_len 0 (cells_in s))
unfolding viewers_of
viewers_are s cells = refl

pub count_found : (s : Size) (cells : Cells) (pairs : List (ℕ × ℤ)) (count : ℕ) → length cells ≡ cells_in s → IsFound cells (cells_in s) pairs count → count ≡ viewer_count cells
count_found s cells pairs count n f =
    f.count_is ∙ ap (λ k. length (viewers_at cells (range_with_len 0 k))) (sym n)
    ∙ as_many cells cells 0 (λ k l. let e : k ≡ 0 + k = omega arith in ap (λ i. get_or cells i None) e)

pub few_found : (s : Size) (cells : Cells) (pairs : List (ℕ × ℤ)) (count : ℕ) → length cells ≡ cells_in s → count ≤ 64 → IsFound cells (cells_in s) pairs count → (pairs ≡ viewers_of s cells) × (viewer_count cells ≤ 64)
few_found s cells pairs count n l f = (f.few l ∙ sym (viewers_are s cells), omega (arith, l, count_found s cells pairs count n f))

-- ---- where they stand

one_within : (a m : ℕ) (o : Option ℤ) (rest : List (ℕ × ℤ)) → a < m → All (λ e. e.0 < m) rest → All (λ e. e.0 < m) (add_viewer a o rest)
one_within a m None rest l h k d p = h k d p
one_within a m (Some z) rest l h zero d p = l
one_within a m (Some z) rest l h (suc k) d p = h k d (omega arith)

all_within : (cells : Cells) (a n m : ℕ) → a + n ≤ m → All (λ e. e.0 < m) (viewers_at cells (range_with_len a n))
all_within cells a zero m h k d l = absurd (omega (arith, l))
all_within cells a (suc n) m h k d l = one_within a m (cell_at cells a) (viewers_at cells (range_with_len (a + 1) n)) (omega arith) (all_within cells (a + 1) n m (omega arith)) k d l

-- the viewers of a grid stand on it
pub viewers_on_map : (s : Size) (cells : Cells) → All (λ e. e.0 < cells_in s) (viewers_of s cells)
unfolding viewers_of
viewers_on_map s cells = all_within cells 0 (cells_in s) (cells_in s) (omega arith)
