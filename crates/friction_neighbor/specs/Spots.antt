-- Places with their costs and frictions.
use Rattle.std.specs.Prelude.{◌≡◌, ◌^◌, ◌<◌, ◌≤◌}
use Rattle.map_defs.specs.Spread.{friction_at}
use Rattle.friction_spread.specs.Spots.{IsSpot}
use Rattle.friction_neighbor.specs.declared.fields.Front.{Front}
use Rattle.friction_neighbor.specs.Fields.{FieldState, cost_at}

-- a place with its own cost and friction
pub record IsFront (f : FieldState) (from : Front) : Type 0 where
  pub spot : IsSpot f.ground.size from.spot
  pub cost : from.cost ≡ cost_at f from.spot.at
  pub friction : from.friction ≡ friction_at f.ground.friction from.spot.at
  pub low_cost : from.cost ≤ 2 ^ 50
  pub low_friction : from.friction < 2 ^ 50
