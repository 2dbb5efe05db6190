-- The runs of a list: the element of each, and how often it stands there side by side.
use Rattle.std.specs.Prelude.{ℕ, ◌+◌, Bool, List, [], ◌∷◌, if◌then◌else◌}

-- the runs with one more element in front
abbrev pub put_front : {X : Type 0} → (X → X → Bool) → X → List (X × ℕ) → List (X × ℕ)
put_front same x [] = (x, 1) ∷ []
put_front same x (e ∷ es) = if same x e.0 then (x, e.1 + 1) ∷ es else (x, 1) ∷ e ∷ es

abbrev pub runs_of : {X : Type 0} → (X → X → Bool) → List X → List (X × ℕ)
runs_of same [] = []
runs_of same (x ∷ xs) = put_front same x (runs_of same xs)
