-- The sign of a cell: its symbol, or a plain one.
use Rattle.std.specs.Prelude.{ℕ, ◌+◌, ℤ, pos, negsuc, nat_le, List, [], ◌∷◌, Option, Some, None, if◌then◌else◌}
use Rattle.map_defs.specs.Ops.{Name}
use Rattle.map_edits.specs.Marks.{Mark, find_mark}

-- the digit of 0 to 9, * above, - below
abbrev pub plain_sign : ℤ → ℕ
plain_sign (negsuc n) = 45
plain_sign (pos n) = if nat_le n 9 then 48 + n else 42

abbrev pub sign_by : Option (List ℕ) → ℤ → ℕ
sign_by (Some (sign ∷ signs)) z = sign
sign_by (Some []) z = plain_sign z
sign_by None z = plain_sign z

-- a dot for null
abbrev pub sign_of : List Mark → Name → Option ℤ → ℕ
sign_of symbols n None = 46
sign_of symbols n (Some z) = sign_by (find_mark symbols n z) z
