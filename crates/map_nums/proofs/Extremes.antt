-- The greatest and the least of a list, from a fold over it.
use Rattle.std.proofs.Common.{◌≡◌, ◌⊎◌, inl, inr, suc, true, List, [], ◌∷◌, fold, refl, sym, ◌∙◌, ap, arith, ℤ, ◌≤ℤ◌, Contains}
use Rattle.std.specs.Prelude.{int_le}
use Rattle.std.specs.Int.{int_max, int_min}
use Rattle.std.specs.List.{reduce}
use Rattle.std.specs.Ordering.{int_cmp, max_by_ordering, min_by_ordering}
use Rattle.std.proofs.lemmas.Int.{ints, fold-int_max_bounds, fold-int_max_reached, fold-int_min_bounds, fold-int_min_reached}
use Rattle.std.proofs.lemmas.List.Elements.{All-cons, All-weaker}
use Rattle.map_nums.specs.Stats.{maximum_of, minimum_of}
use Rattle.map_nums.proofs.Picks.{find_leading}

greater_is : (x y : ℤ) → max_by_ordering (int_cmp x y) x y ≡ int_max x y
greater_is x y = grind (arith, ints)

lesser_is : (x y : ℤ) → min_by_ordering (int_cmp x y) x y ≡ int_min x y
lesser_is x y = grind (arith, ints)

fold_agree : (f g : ℤ → ℤ → ℤ) → ((x y : ℤ) → f x y ≡ g x y) → (a : ℤ) (xs : List ℤ) → fold f a xs ≡ fold g a xs
fold_agree f g h a [] = refl
fold_agree f g h a (x ∷ xs) = fold_agree f g h (f a x) xs ∙ ap (λ b. fold g b xs) (h a x)

pub le_is_true : (x y : ℤ) → x ≤ℤ y → int_le x y ≡ true
le_is_true x y h = grind (arith, ints)

-- two numbers of which neither is below the other
pub le_both : (x y : ℤ) → int_le x y ≡ true → int_le y x ≡ true → x ≡ y
le_both x y h k = grind (arith, ints)

reached_here : (x : ℤ) (xs : List ℤ) (m : ℤ) → (m ≡ x) ⊎ Contains xs m → Contains (x ∷ xs) m
reached_here x xs m (inl e) = (0, omega arith, sym e)
reached_here x xs m (inr c) = (suc c.0, omega (arith, c.1), c.2)

pub maximum_from_reduce : (xs : List ℤ) → reduce (λ x y. max_by_ordering (int_cmp x y) x y) xs ≡ maximum_of xs
unfolding maximum_of
maximum_from_reduce [] = refl
maximum_from_reduce (x ∷ xs) =
    let m = fold (λ y z. max_by_ordering (int_cmp y z) y z) x xs in
    let e : m ≡ fold int_max x xs = fold_agree (λ y z. max_by_ordering (int_cmp y z) y z) int_max greater_is x xs in
    let b = fold-int_max_bounds x xs m e in
    let all = All-cons (λ y. int_le y m ≡ true) x xs (le_is_true x m b.0) (All-weaker (λ y. y ≤ℤ m) (λ y. int_le y m ≡ true) (λ y. le_is_true y m) xs b.1) in
    sym (find_leading (λ y z. int_le z y) (x ∷ xs) m (reached_here x xs m (fold-int_max_reached x xs m e)) all (λ y z h k. le_both y z k h))

pub minimum_from_reduce : (xs : List ℤ) → reduce (λ x y. min_by_ordering (int_cmp x y) x y) xs ≡ minimum_of xs
unfolding minimum_of
minimum_from_reduce [] = refl
minimum_from_reduce (x ∷ xs) =
    let m = fold (λ y z. min_by_ordering (int_cmp y z) y z) x xs in
    let e : m ≡ fold int_min x xs = fold_agree (λ y z. min_by_ordering (int_cmp y z) y z) int_min lesser_is x xs in
    let b = fold-int_min_bounds x xs m e in
    let all = All-cons (λ y. int_le m y ≡ true) x xs (le_is_true m x b.0) (All-weaker (λ y. m ≤ℤ y) (λ y. int_le m y ≡ true) (λ y. le_is_true m y) xs b.1) in
    sym (find_leading int_le (x ∷ xs) m (reached_here x xs m (fold-int_min_reached x xs m e)) all (λ y z h k. le_both y z h k))
