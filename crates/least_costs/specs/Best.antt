-- What is known of a place's value while values are repaired.
use Rattle.std.specs.Prelude.{◌≡◌, ◌≢◌, ℕ, ◌<◌, ◌≤◌, List}
use Rattle.map_defs.specs.Nets.{Net, IsWithin, cost_in}
use Rattle.least_costs.specs.Ranks.{changed}
use Rattle.least_costs.specs.Queue.{IsQueued}

-- v is what some path costs, and no path costs less
pub record IsBest (g : Net) (i v : ℕ) : Type 0 where
  pub least : (js : List ℕ) → v ≤ cost_in g i js
  pub path : List ℕ
  pub costs : cost_in g i path ≡ v

-- o was the value, v is: still the same, none since each path costs more than o, or the least cost
pub data Ranked : Net → ℕ → ℕ → ℕ → Type 0 where
  same : {g : Net} {i o v : ℕ} → v ≡ o → Ranked g i o v
  raised : {g : Net} {i o v : ℕ} → v ≡ g.top → o < g.top → ((js : List ℕ) → o < cost_in g i js) → Ranked g i o v
  least : {g : Net} {i o v : ℕ} → v < g.top → v ≢ o → IsBest g i v → Ranked g i o v

-- the values are on their way from old, and `moved` of them have left it
pub record IsRepairing (g : Net) (old d : ℕ → ℕ) (entries : List (ℕ × ℕ)) (moved : ℕ) : Type 0 where
  pub within : IsWithin g d
  pub old_most : (i : ℕ) → old i ≤ g.top
  pub most : (i : ℕ) → d i ≤ g.top
  pub queued : (i : ℕ) → IsQueued g d entries i
  pub ranked : (i : ℕ) → Ranked g i (old i) (d i)
  pub moved_is : moved ≡ changed old d g.size
