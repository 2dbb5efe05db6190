-- All of a list of options, and the first of them.
use Rattle.std.specs.Prelude.{List, [], ◌∷◌, Option, Some, None, option_map}

-- what all hold; none where one is none
abbrev pub all_some : {A : Type 0} → List (Option A) → Option (List A)
all_some [] = Some []
all_some (None ∷ os) = None
all_some (Some x ∷ os) = option_map (λ xs. x ∷ xs) (all_some os)

-- what the first holds that isn't none
abbrev pub first_some : {A : Type 0} → List (Option A) → Option A
first_some [] = None
first_some (None ∷ os) = first_some os
first_some (Some x ∷ os) = Some x
