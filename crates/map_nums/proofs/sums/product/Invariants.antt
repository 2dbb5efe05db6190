use Rattle.std.proofs.Common.{take}
use Rattle.map_nums.specs.Stats.{product_of}
use Rattle.map_nums.proofs.Products.{IsHeld}
use Rattle.map_nums.proofs.Ranges.{most}
use Rattle.map_nums.proofs.sums.product.Given as goal

abbrev pub invariant-loop-value : goal.invariant-loop-value
invariant-loop-value l = IsHeld most (product_of (take l.value-index l.values)) l.product
