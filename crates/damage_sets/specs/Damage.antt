-- The tiles that a change reaches.
use Rattle.std.specs.Prelude.{ℕ, List, length, map}
use Rattle.std.specs.List.{sum_by}
use Rattle.map_nums.specs.Grids.{Size}
use Rattle.map_defs.specs.Differences.{has_changed, square_has}
use Rattle.layer_tiles.specs.Changes.{ChangeState, cells_before}
use Rattle.layer_tiles.specs.Operands.{cells_after}
use Rattle.damage_sets.specs.Sets.{TileSetState, set_by}

-- the tiles whose square, grown by r, has a changed cell of an operand
abbrev pub damage_of : ℕ → Size → List ChangeState → TileSetState
damage_of r s operands = set_by s (square_has r s (has_changed (map cells_before operands) (cells_after operands)))

-- how many tiles the operands' patches hold
abbrev pub touched_in : List ChangeState → ℕ
touched_in operands = sum_by (λ c. length c.touched) operands
