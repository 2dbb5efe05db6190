-- The calls of a form in memory.
use Rattle.std.specs.Prelude.{ℕ, ◌==◌, Bool, List}
use Rattle.std.specs.List.{list_any}
use Rattle.map_nums.specs.Counts.{raised}

-- how many were made, the numbers of those that are to fail, counted from 1, and how many failed
pub record CallState : Type 0 where
  pub made : ℕ
  pub fails : List ℕ
  pub faults : ℕ

abbrev pub is_listed : List ℕ → ℕ → Bool
is_listed fails call = list_any (λ n. n == call) fails

-- the next call is to fail
abbrev pub is_next_listed : CallState → Bool
is_next_listed c = is_listed c.fails (raised c.made 1)

-- one more call was made
abbrev pub called : CallState → CallState
called c = record c { made = raised c.made 1 }

-- one more call was made, and failed
abbrev pub failed : CallState → CallState
failed c = record c { made = raised c.made 1; faults = raised c.faults 1 }
