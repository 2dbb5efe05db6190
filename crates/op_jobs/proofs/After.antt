-- What stands after some others in a list.
use Rattle.std.proofs.Common.{◌≡◌, List, [], ◌∷◌, ◌++◌, length, Some, slice_get, refl, subst}

pub first_after : {X : Type 0} (xs : List X) (x : X) (ys all : List X) → xs ++ x ∷ ys ≡ all → slice_get all (length xs) ≡ Some x
first_after {X} xs x ys all e = subst (λ (zs : List X). slice_get zs (length xs) ≡ Some x) e (at xs)
  where
    at : (xs : List X) → slice_get (xs ++ x ∷ ys) (length xs) ≡ Some x
    at [] = refl
    at (z ∷ zs) = at zs
