-- Sight statements: the damage, and the viewers that are kept.
use Rattle.std.specs.Prelude.{◌≡◌, ℕ, Bool, true, false, List, filter, ℤ, IsSome}
use Rattle.std.specs.List.{All}
use Rattle.map_nums.specs.Grids.{Size}
use Rattle.map_nums.specs.Tiles.{tiles}
use Rattle.map_defs.specs.Operate.{operand}
use Rattle.map_defs.specs.Differences.{has_changed, square_has}
use Rattle.layer_tiles.specs.Changes.{ChangeState}
use Rattle.layer_tiles.specs.Operands.{cells_after}
use Rattle.sight_lines.specs.Viewed.{viewers_of}
use Rattle.map_waves.specs.Statements.{cells_were}

-- the tiles that a reach feels a changed operand cell in; all of them where the statement was not there
abbrev pub felt_tiles : Bool → ℕ → Size → List ChangeState → List ℕ
felt_tiles false r s operands = tiles s
felt_tiles true r s operands = filter (square_has r s (has_changed (cells_were operands) (cells_after operands))) (tiles s)

-- the viewers of the operands as they were, which were all there
pub record AreRightViewers (s : Size) (operands : List ChangeState) (viewers : List (ℕ × ℤ)) : Type 0 where
  pub there : All (λ c. IsSome c.before) operands
  pub are : viewers ≡ viewers_of s (operand (cells_were operands) 0)
