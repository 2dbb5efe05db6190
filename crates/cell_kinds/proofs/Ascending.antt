-- A list of cells that was sorted by the numbers that stand for them.
use Rattle.std.proofs.Common.{◌≡◌, ℕ, suc, ◌+◌, Bool, false, List, [], ◌∷◌, get_or, refl, sym, ◌∙◌, ap, subst, arith, ℤ, ◌≤ℤ◌, Option, Some, None, All, IsPermutation, map}
use Rattle.std.specs.Ordering.{int_cmp, is_lt}
use Rattle.std.specs.List.Sorted.{IsSortedBy}
use Rattle.std.proofs.lemmas.Int.{ints}
use Rattle.std.proofs.lemmas.List.Elements.{All-head, All-tail, All-from_get_or}
use Rattle.map_nums.specs.Grids.{Cells}
use Rattle.layer_tiles.specs.Cells.{IsCell, AreCells, word_of}
use Rattle.cell_kinds.proofs.Compared.{IsUpTo}
use Rattle.cell_kinds.proofs.KindLists.{up_to_all}
use Rattle.map_defs.specs.Cells.{same_cell}
use Rattle.map_defs.specs.Kinds.{kinds_of, how_many}
use Rattle.cell_kinds.specs.declared.kinds.Kind.{Kind}
use Rattle.cell_kinds.specs.Counted.{kind_from, counted_kinds}
use Rattle.cell_kinds.specs.Runs.{runs_of}
use Rattle.cell_kinds.proofs.Counting.{Rises, with_count, runs_told, told-permutation}

pub not_less : (a b : ℤ) → is_lt (int_cmp a b) ≡ false → b ≤ℤ a
not_less a b h = grind (arith, ints)

pub sorted_tail : {X : Type 0} (lt : X → X → Bool) (x : X) (xs : List X) → IsSortedBy lt (x ∷ xs) → IsSortedBy lt xs
sorted_tail lt x xs s = λ k d a b. let e : suc k + 1 ≡ suc (k + 1) = omega arith in subst (λ (n : ℕ). lt (get_or (x ∷ xs) n d) (get_or xs k d) ≡ false) e (s (suc k) d (omega arith) (omega arith))

-- the numbers that stand for cells have their order
pub up_to_from_words : (c d : Option ℤ) → IsCell c → IsCell d → word_of c ≤ℤ word_of d → IsUpTo c d
up_to_from_words None d h k l = tt
up_to_from_words (Some z) None h k l = absurd (grind (arith, ints))
up_to_from_words (Some z) (Some w) h k l = l

-- each of a list is null or in range
abbrev pub InRange : Cells → Type 0
InRange [] = Unit {0}
InRange (c ∷ cs) = IsCell c × InRange cs

-- elements in the order of the numbers that stand for their cells
pub rises_from_sorted : {X : Type 0} (f : X → Option ℤ) (xs : List X) → InRange (map f xs) → IsSortedBy (λ (a b : X). is_lt (int_cmp (word_of (f a)) (word_of (f b)))) xs → Rises (map f xs)
rises_from_sorted f [] h s = tt
rises_from_sorted f (x ∷ []) h s = (tt, tt)
rises_from_sorted {X} f (x ∷ y ∷ ys) h s =
    let l : IsUpTo (f x) (f y) = up_to_from_words (f x) (f y) h.0 h.1.0 (not_less (word_of (f y)) (word_of (f x)) (s 0 x (omega arith) (omega arith))) in
    let rest = rises_from_sorted f (y ∷ ys) h.1 (sorted_tail (λ (a b : X). is_lt (int_cmp (word_of (f a)) (word_of (f b)))) x (y ∷ ys) s) in
    ((l, up_to_all (f x) (f y) (map f ys) l rest.0), rest)

pub in_range_from_all : (xs : Cells) → All IsCell xs → InRange xs
in_range_from_all [] h = tt
in_range_from_all (x ∷ xs) h = (All-head IsCell x xs h, in_range_from_all xs (All-tail IsCell x xs h))

pub in_range_from_cells : (xs : Cells) → AreCells xs → InRange xs
in_range_from_cells xs a = in_range_from_all xs (All-from_get_or IsCell xs None (λ i l. a.each i))

kinds_from : (cells ks : Cells) → map kind_from (map (with_count cells) ks) ≡ map (λ (c : Option ℤ). record { cell = c; count = how_many cells c }) ks
kinds_from cells [] = refl
kinds_from cells (k ∷ ks) = ap (λ (l : List Kind). record { cell = k; count = how_many cells k } ∷ l) (kinds_from cells ks)

-- the runs of cells that were put in order are the kinds
pub sorted_kinds : (cells sorted : Cells) → IsPermutation cells sorted → Rises sorted → map kind_from (runs_of same_cell sorted) ≡ counted_kinds cells
sorted_kinds cells sorted perm rises =
    ap (λ (es : List (Option ℤ × ℕ)). map kind_from es) (runs_told sorted rises ∙ sym (told-permutation cells sorted perm))
    ∙ kinds_from cells (kinds_of cells)
