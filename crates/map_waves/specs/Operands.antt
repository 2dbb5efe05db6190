-- What a statement's operands are to it.
use Rattle.std.specs.Prelude.{◌≡◌, List, [], ℤ, Option, Some}
use Rattle.map_nums.specs.Grids.{Size}
use Rattle.map_defs.specs.Damage.{changed_tiles}
use Rattle.layer_tiles.specs.Changes.{ChangeState}

-- an operand of this size, whose patch holds exactly the tiles that changed
pub record IsOperand (s : Size) (c : ChangeState) : Type 0 where
  pub size : c.size ≡ s
  pub exact : (was : List (Option ℤ)) → c.before ≡ Some was → c.touched ≡ changed_tiles s (Some was) c.cells
  pub same : (was : List (Option ℤ)) → c.before ≡ Some was → c.touched ≡ [] → c.cells ≡ was
