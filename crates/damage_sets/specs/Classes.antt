-- How far off a changed cell is felt.
use Rattle.std.specs.Prelude.{ℕ}
use Rattle.damage_sets.specs.declared.classes.Class.{Class}
use Rattle.damage_sets.specs.declared.classes.Class.TheVariants.{Cells, Square}

-- so many rows and columns
abbrev pub reach_of : Class → ℕ
reach_of Cells = 0
reach_of (Square radius) = radius
