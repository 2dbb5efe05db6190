-- What a call that gives a statistic and wants no memory answers.
use Rattle.std.specs.Prelude.{◌≡◌, ℤ, Option, Result, Ok, Err, IsTrue, IsFalse}
use Rattle.map_nums.specs.Answers.{is_wide}
use Rattle.map_nums.specs.declared.Wide.{Wide}

-- the statistic where a cell may hold it, and exactly there
abbrev pub IsExact : Option ℤ → Result (Option ℤ) Wide → Type 0
IsExact s (Ok r) = (r ≡ s) × IsFalse (is_wide s)
IsExact s (Err wide) = IsTrue (is_wide s)
