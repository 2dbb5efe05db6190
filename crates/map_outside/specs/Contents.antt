-- What the calls of the outside do to what is told of its content. `None` tells nothing.
use Rattle.std.specs.Prelude.{ℕ, ◌≡◌, ◌<◌, List, ◌++◌, length, take, ⊤, Option, Some, None, Result, Ok, Err, MatchResult, Vec}
use Rattle.std.specs.declared.alloc.Global.{Global}
use Rattle.map_outside.specs.declared.shelves.FetchFault.{FetchFault}
use Rattle.map_outside.specs.declared.shelves.FetchFault.TheVariants.{Long}

-- what is told of files: the bytes under each name, or that nothing is held there
abbrev pub Files : Type 0
Files = List ℕ → Option (List ℕ)

-- a fetch gave the bytes that are held, or said that they are too long
abbrev pub Fetches : Option Files → List ℕ → ℕ → Result (Vec ℕ Global) FetchFault → Type 0
Fetches None name limit r = ⊤
Fetches (Some files) name limit r = MatchResult r (λ v. files name ≡ Some v.items)
    (λ e. e ≡ Long → (bytes : List ℕ) × (files name ≡ Some bytes) × (limit < length bytes))

-- what is held grew by these bytes. It may cease to be told, and is then never told again
abbrev pub Grows : Option (List ℕ) → Option (List ℕ) → List ℕ → Type 0
Grows None None bytes = ⊤
Grows None (Some new) bytes = ⊥
Grows (Some old) None bytes = ⊤
Grows (Some old) (Some new) bytes = new ≡ old ++ bytes

-- a put appended all of the bytes, or a front of them
abbrev pub PutGrows : {T E : Type 0} → Option (List ℕ) → Option (List ℕ) → Result T E → List ℕ → Type 0
PutGrows old new (Ok x) bytes = Grows old new bytes
PutGrows old new (Err e) bytes = (n : ℕ) × Grows old new (take n bytes)
