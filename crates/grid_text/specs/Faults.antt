-- What is wrong with a text that is no grid.
use Rattle.std.specs.Prelude.{ℕ, Option, Some, None, Result, Ok, Err}

-- bytes and indexes count from 1
pub data Fault : Type 0 where
  -- the byte of a token that is no key, or a key again, or that stands where a key is needed
  key : ℕ → Fault
  -- the byte of a header value that is not of its form, or is missing
  number : ℕ → Fault
  -- rows and columns that no map has
  limits : ℕ → ℕ → Fault
  -- the good cells that are there, and how many are needed
  few : ℕ → ℕ → Fault
  -- the byte of a token after the last cell
  more : ℕ → Fault
  -- the index of a cell that is no whole number
  cell : ℕ → Fault
  -- the index of a cell that is out of range
  range : ℕ → Fault

-- the value, or this fault where there is none
abbrev pub or_fault : {A : Type 0} → Fault → Option A → Result A Fault
or_fault fault None = Err fault
or_fault fault (Some a) = Ok a

-- goes on where there is no fault
infixl 10 ◌>>=◌
abbrev pub ◌>>=◌ : {A B : Type 0} → Result A Fault → (A → Result B Fault) → Result B Fault
(Ok a) >>= f = f a
(Err fault) >>= f = Err fault
