-- Ways down as numbers.
use Rattle.std.specs.Prelude.{◌≡◌, ℕ, ◌-◌, ℤ, pos, ◌+ℤ◌, ◌*ℤ◌, Option, Some, None}
use Rattle.drainage_flow.specs.Steepest.{IsFirstSteepest}

-- the greater the steeper, and of two as steep the first
abbrev pub marked : ℤ → ℕ → ℤ
marked fall k = fall *ℤ pos 8 +ℤ pos (7 - k)

-- 7 where no way falls
abbrev pub mark_of : ℤ → Option ℕ → ℤ
mark_of best None = pos 7
mark_of best (Some k) = marked best k

-- the mark of the first steepest of k ways
pub record IsMark (falls : ℕ → ℤ) (k : ℕ) (mark : ℤ) : Type 0 where
  pub best : ℤ
  pub to : Option ℕ
  pub steepest : IsFirstSteepest falls k best to
  pub is : mark ≡ mark_of best to
