-- The first of a list, and one more.
use Rattle.std.proofs.Common.{◌≡◌, ℕ, zero, suc, ◌+◌, List, [], ◌∷◌, ◌++◌, take, slice_get, Some, ap, add-one}
use Rattle.std.proofs.lemmas.Option.{none-some, same_Some}

pub taken_to : {X : Type 0} (xs : List X) (k : ℕ) (x : X) → slice_get xs k ≡ Some x → take (k + 1) xs ≡ take k xs ++ x ∷ []
taken_to [] k x e = absurd (none-some x e)
taken_to (y ∷ ys) zero x e = ap (λ z. z ∷ []) (same_Some y x e)
taken_to (y ∷ ys) (suc k) x e = rw add-one (ap (λ zs. y ∷ zs) (rw add-one at (taken_to ys k x e)))
