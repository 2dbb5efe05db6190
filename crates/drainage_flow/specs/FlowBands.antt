-- The flow within bands of rows, which later pass on to one another.
use Rattle.std.specs.Prelude.{◌≡◌, ℕ, zero, suc, ◌+◌, ◌-◌, ◌<◌, ◌≤◌, ℤ, pos, List, [], ◌∷◌, length, map, Option, None}
use Rattle.std.specs.List.{flat_map}
use Rattle.map_nums.specs.Grids.{Size, Cells}
use Rattle.drainage_flow.specs.Nets.{Net, inflow}
use Rattle.drainage_flow.specs.FlowNets.{IsSmall, net_of, weight_at}
use Rattle.drainage_flow.specs.Pouring.{Places, IsPouring, laid}
use Rattle.drainage_flow.specs.declared.flow_band.FlowBand.{FlowBand}

-- places `first` to before `end` hold what they bring, and wait for all that drains to them
pub record AreBegun (g : Net) (first end : ℕ) (r : Places) : Type 0 where
  pub downs : (c : ℕ) → first ≤ c → c < end → r.down c ≡ g.down c
  pub flows : (c : ℕ) → first ≤ c → c < end → r.flow c ≡ g.weight c
  pub waits : (c : ℕ) → first ≤ c → c < end → pos (r.wait c) ≡ inflow g (λ d. pos 1) c

-- some places of a net pass on, and some have
abbrev pub ArePouring : Net → Places → Type 0
ArePouring g r = IsPouring g None r.down r.flow r.wait

-- what a band holds in place of what stands from `first` on
abbrev pub in_place : ℕ → FlowBand → Places → Places
in_place first b r = record { down = laid first b.downs.items r.down; flow = laid first b.flows.items r.flow; wait = laid first b.waits.items r.wait }

-- a band for n places from `first` on: put in place of them where they have not begun, it leaves a pouring a pouring
pub record IsFlowBand (s : Size) (surface weights : Cells) (first n : ℕ) (b : FlowBand) : Type 0 where
  pub downs_count : length b.downs.items ≡ n
  pub waits_count : length b.waits.items ≡ n
  pub flows_count : length b.flows.items ≡ n
  pub small : (c : ℕ) → first ≤ c → c < first + n → IsSmall (weight_at surface weights c)
  pub pours : (r : Places) → ArePouring (net_of s surface weights) r → AreBegun (net_of s surface weights) first (first + n) r → ArePouring (net_of s surface weights) (in_place first b r)

-- bands for the places `first` to before `end`, one after another
abbrev pub AreFlowBands : Size → Cells → Cells → ℕ → ℕ → List FlowBand → Type 0
AreFlowBands s surface weights first end [] = first ≡ end
AreFlowBands s surface weights first end (b ∷ bs) = IsFlowBand s surface weights first (length b.downs.items) b × AreFlowBands s surface weights (first + length b.downs.items) end bs

-- their lists, one after another
abbrev pub all_downs : List FlowBand → List (Option ℕ)
all_downs bs = flat_map (λ b. b.downs.items) bs

abbrev pub all_waits : List FlowBand → List ℕ
all_waits bs = flat_map (λ b. b.waits.items) bs

abbrev pub all_flows : List FlowBand → List ℤ
all_flows bs = flat_map (λ b. b.flows.items) bs

-- how many places each has
abbrev pub counts_of : List FlowBand → List ℕ
counts_of bs = map (λ b. length b.downs.items) bs

-- the three lists of each are as long as one another
abbrev pub AreEven : List FlowBand → Type 0
AreEven [] = Unit {0}
AreEven (b ∷ bs) = (length b.waits.items ≡ length b.downs.items) × (length b.flows.items ≡ length b.downs.items) × AreEven bs

-- of parts with so many places, number `at` of all is number i of part k
abbrev pub IsSeat : List ℕ → ℕ → ℕ → ℕ → Type 0
IsSeat [] at k i = ⊥
IsSeat (n ∷ ns) at zero i = (at ≡ i) × (i < n)
IsSeat (n ∷ ns) at (suc k) i = (n ≤ at) × IsSeat ns (at - n) k i
