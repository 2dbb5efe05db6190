-- How all that a reader has left is taken, up to a limit.
use Rattle.std.specs.Prelude.{ℕ, ◌≡◌, ◌≤◌, ◌+◌, List, length, ⊤, Option, Result, Ok, Err, Vec}
use Rattle.std.specs.Io.KnownBytes.{Consumes, IsAtEnd}
use Rattle.std.specs.declared.alloc.Global.{Global}
use Rattle.map_outside.specs.declared.shelves.FetchFault.{FetchFault}
use Rattle.map_outside.specs.declared.shelves.FetchFault.TheVariants.{Failed, Long, NoMemory}

-- all bytes to the end, at most the limit; or one more than the limit was there
abbrev pub TakesAll : Option (List ℕ) → Option (List ℕ) → ℕ → Result (Vec ℕ Global) FetchFault → Type 0
TakesAll left left' limit (Ok v) = Consumes left left' v.items × IsAtEnd left' × (length v.items ≤ limit)
TakesAll left left' limit (Err Long) = (bytes : List ℕ) × Consumes left left' bytes × (length bytes ≡ limit + 1)
TakesAll left left' limit (Err Failed) = ⊤
TakesAll left left' limit (Err NoMemory) = ⊤
