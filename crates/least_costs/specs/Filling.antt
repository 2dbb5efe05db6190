-- Values that only fall, each to what a path costs that was found. Places whose steps are still to be tried stand in a queue.
use Rattle.std.specs.Prelude.{◌≡◌, ◌⊎◌, ℕ, ◌+◌, ◌<◌, ◌≤◌, List, ◌∷◌, length}
use Rattle.std.specs.List.{Contains}
use Rattle.map_defs.specs.Nets.{Net, cost_in}
use Rattle.least_costs.specs.Ranks.{sum_to}

-- the value of i is no more than the cost through c, where a step leads from c to i
abbrev pub IsRelaxed : Net → (ℕ → ℕ) → ℕ → ℕ → Type 0
IsRelaxed g d c i = g.step c i < g.top → d i ≤ d c + g.step c i

-- each value is what some path costs; and its place stands in the queue under it, or its steps were tried
pub record IsFilling (g : Net) (d : ℕ → ℕ) (entries : List (ℕ × ℕ)) : Type 0 where
  pub most : (i : ℕ) → d i ≤ g.top
  pub reached : (i : ℕ) → d i < g.top → (js : List ℕ) × (cost_in g i js ≡ d i)
  pub tried : (c : ℕ) → d c < g.top → Contains entries (d c, c) ⊎ ((i : ℕ) → IsRelaxed g d c i)

-- each entry that is put in lowers a value, so this falls with each that is taken out
abbrev pub left_to_do : Net → (ℕ → ℕ) → List (ℕ × ℕ) → ℕ
left_to_do g d entries = sum_to d g.size + length entries

-- some values fell to the costs through place c, whose value is v
pub record IsOffering (g : Net) (v c : ℕ) (d : ℕ → ℕ) (entries : List (ℕ × ℕ)) (d' : ℕ → ℕ) (entries' : List (ℕ × ℕ)) : Type 0 where
  pub falls : (k : ℕ) → d' k ≤ d k
  pub here : d' c ≡ d c
  pub filling : IsFilling g d ((v, c) ∷ entries) → IsFilling g d' ((v, c) ∷ entries')
  pub less : left_to_do g d' entries' ≤ left_to_do g d entries
