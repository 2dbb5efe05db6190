-- What is added to the heights of viewers and of targets.
use Rattle.std.specs.Prelude.{ℤ, IsTrue}
use Rattle.map_nums.specs.Numbers.{is_value}

-- both are numbers that a cell may hold
pub record AreHeights (from to : ℤ) : Type 0 where
  pub from_in_range : IsTrue (is_value from)
  pub to_in_range : IsTrue (is_value to)
