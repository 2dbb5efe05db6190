-- Terms: the operands of an operation as they are written. A name is its bytes.
use Rattle.std.specs.Prelude.{ℕ, ℤ, List, [], ◌∷◌}

abbrev pub Name : Type 0
Name = List ℕ

-- a number stands for the grid that has it everywhere
pub data Term : Type 0 where
  layer_term : Name → Term
  number_term : ℤ → Term

abbrev pub term_names : Term → List Name
term_names (layer_term n) = n ∷ []
term_names (number_term z) = []
