-- What is kept of a piece of the session that no line feed has ended yet.
use Rattle.std.specs.Prelude.{ℕ, ◌≡◌, ◌≤◌, Bool, List, ◌++◌, ◌∷◌, [], length, if◌then◌else◌}
use Rattle.map_machine.specs.Lines.{without_return}

-- its length, its bytes where it isn't too long, and what stands before a carriage return at its end
pub record IsKept (piece kept : List ℕ) (bytes : ℕ) (returns : Bool) : Type 0 where
  pub count : bytes ≡ length piece
  pub whole : length piece ≤ 4097 → kept ≡ piece
  pub line : piece ≡ without_return piece ++ (if returns then 13 ∷ [] else [])
