-- Lists of which places are set, and what is read of them.
use Rattle.std.proofs.Common.{◌≡◌, ◌≢◌, ℕ, zero, suc, ◌<◌, List, [], ◌∷◌, length, get_or, set, Some, slice_get, refl, sym, ap, ◌∙◌}
use Rattle.std.proofs.lemmas.List.{get_or_read}
use Rattle.std.proofs.lemmas.Option.{none-some, slice_get-get_or}

pub slice_get-set_same : {X : Type 0} (xs : List X) (i : ℕ) (x y : X) → slice_get xs i ≡ Some y → slice_get (set xs i x) i ≡ Some x
slice_get-set_same [] i x y at = absurd (none-some y at)
slice_get-set_same (z ∷ xs) zero x y at = refl
slice_get-set_same (z ∷ xs) (suc i) x y at = slice_get-set_same xs i x y at

pub slice_get-set_other : {X : Type 0} (xs : List X) (i j : ℕ) (x : X) → j ≢ i → slice_get (set xs i x) j ≡ slice_get xs j
slice_get-set_other [] i j x other = refl
slice_get-set_other (z ∷ xs) zero zero x other = absurd (other refl)
slice_get-set_other (z ∷ xs) zero (suc j) x other = refl
slice_get-set_other (z ∷ xs) (suc i) zero x other = refl
slice_get-set_other (z ∷ xs) (suc i) (suc j) x other = slice_get-set_other xs i j x (λ same. other (ap suc same))

-- what is read at a place that has what it had
pub read_same : {X : Type 0} (now old : List X) (k : ℕ) (x y d : X) → x ≡ get_or now k x → y ≡ x → k < length now → k < length old → get_or now k d ≡ get_or old k d → slice_get old k ≡ Some y
read_same now old k x y d read is within there same = slice_get-get_or old k d there ∙ ap (λ z. Some z) (sym (is ∙ get_or_read now k x within read d ∙ same))
