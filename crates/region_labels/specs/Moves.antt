-- Labels of places that are numbered anew.
use Rattle.std.specs.Prelude.{ℕ, zero, suc, ◌+◌, ◌<◌, ℤ, pos, negsuc, ◌+ℤ◌, Option, Some, None}

-- the label of the place that lies so many places further
abbrev pub moved_label : ℕ → Option ℤ → Option ℤ
moved_label by None = None
moved_label by (Some z) = Some (z +ℤ pos by)

-- it is a label of a map's place
abbrev pub IsUpTo : ℕ → Option ℤ → Type 0
IsUpTo by None = Unit {0}
IsUpTo by (Some (pos zero)) = ⊥
IsUpTo by (Some (pos (suc place))) = place + by < 1500000
IsUpTo by (Some (negsuc n)) = ⊥
