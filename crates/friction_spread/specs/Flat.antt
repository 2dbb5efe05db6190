-- Costs in lists, by place.
use Rattle.std.specs.Prelude.{ℕ, suc, List, slice_index_or}
use Rattle.friction_spread.specs.Costs.{GroundState}

-- the cost of a place; `top` past the end
abbrev pub costs_of : GroundState → List ℕ → ℕ → ℕ
costs_of g costs i = slice_index_or costs i (suc g.limit)
