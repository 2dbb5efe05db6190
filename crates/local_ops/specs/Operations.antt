-- A Local operation as its definition has it.
use Rattle.std.specs.Prelude.{◌≡◌, ℕ, ◌≤◌, true, false}
use Rattle.map_defs.specs.Local.{of_stat, difference, ratio, rating}
use Rattle.map_defs.specs.Local as local
use Rattle.local_ops.specs.declared.ops.LocalOp.{LocalOp}
use Rattle.local_ops.specs.declared.ops.LocalOp.TheVariants.{Stat, Ignoring, Difference, Ratio, Rating}

abbrev pub op_of : LocalOp → local.LocalOp
op_of (Stat stat) = of_stat stat false
op_of (Ignoring stat) = of_stat stat true
op_of Difference = difference
op_of Ratio = ratio
op_of (Rating rates) = rating rates

-- the operation takes n operands
abbrev pub Takes : local.LocalOp → ℕ → Type 0
Takes (of_stat stat ignoring) n = (2 ≤ n) × (n ≤ 8)
Takes difference n = n ≡ 2
Takes ratio n = n ≡ 2
Takes (rating rates) n = n ≡ 1
