-- Lists of numbers.
use Rattle.std.specs.Prelude.{ℕ, suc, ◌≤◌, Bool, true, false, cond, leb, eqb, List, [], ◌∷◌, sum_by}

abbrev pub one_if : Bool → ℕ
one_if true = 1
one_if false = 0

-- how often x stands in the list
abbrev pub times : ℕ → List ℕ → ℕ
times x xs = sum_by (λ y. one_if (eqb y x)) xs

-- each number is above the one before, and none is below `low`
abbrev pub AscendsFrom : ℕ → List ℕ → Type 0
AscendsFrom low [] = Unit {0}
AscendsFrom low (x ∷ xs) = (low ≤ x) × AscendsFrom (suc x) xs

-- each number is above the one before
abbrev pub Ascends : List ℕ → Type 0
Ascends xs = AscendsFrom 0 xs

-- x before the first number that isn't below it
abbrev pub put_in : ℕ → List ℕ → List ℕ
put_in x [] = x ∷ []
put_in x (y ∷ ys) = cond (leb x y) (x ∷ y ∷ ys) (y ∷ put_in x ys)

-- two ascending lists as one
abbrev pub merged : List ℕ → List ℕ → List ℕ
merged [] ys = ys
merged (x ∷ xs) ys = put_in x (merged xs ys)
