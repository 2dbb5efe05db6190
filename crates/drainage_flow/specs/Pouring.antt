-- A first flow: each place passes on what it has once all that drains to it has come in.
use Rattle.std.specs.Prelude.{◌≡◌, ◌≢◌, ◌⊎◌, ◌||◌, ◌==◌, not, ℕ, ◌+◌, ◌-◌, ◌<◌, ◌≤◌, ℤ, pos, ◌+ℤ◌, ◌≤ℤ◌, Bool, true, false, List, length, slice_index_or, slice_set, nat_lt, if◌then◌else◌, Option, Some, None}
use Rattle.drainage_flow.specs.Nets.{Net, part, sum_to, is_to, inflow, gathered}

-- the most that all places have to pass on
abbrev pub most_load : ℤ
most_load = pos 4000000000000000000000

-- one for each place that has not passed on
abbrev pub undone : (ℕ → Bool) → ℕ → ℤ
undone done d = part (not (done d)) (pos 1)

-- what a place passes on, once it has
abbrev pub passed : (ℕ → Bool) → (ℕ → ℤ) → ℕ → ℤ
passed done f d = part (done d) (f d)

abbrev pub also : (ℕ → Bool) → ℕ → ℕ → Bool
also done c d = (c == d) || done d

-- each place has its weight and what was passed on to it, and no place that has passed on waits for more; what waits to be passed on is no more than it was
pub record IsPassedOn (g : Net) (f : ℕ → ℤ) (done : ℕ → Bool) (load : ℕ → ℤ) : Type 0 where
  pub tied : (c : ℕ) → c < g.size → f c ≡ gathered g (passed done f) c
  pub high : (c : ℕ) → c < g.size → f c ≤ℤ load c
  pub low : (c : ℕ) → c < g.size → pos 0 ≤ℤ (load c +ℤ f c)
  pub loads : sum_to (λ c. part (not (done c)) (load c)) g.size ≤ℤ most_load
  pub ended : (c : ℕ) → c < g.size → done c ≡ true → inflow g (undone done) c ≡ pos 0

-- some places have passed on; each of the others knows where it drains to and how many it waits for: none where it may pass on, all but place `here`, which is about to
pub record IsPouring (g : Net) (here : Option ℕ) (down : ℕ → Option ℕ) (f : ℕ → ℤ) (w : ℕ → ℕ) : Type 0 where
  pub done : ℕ → Bool
  pub load : ℕ → ℤ
  pub core : IsPassedOn g f done load
  pub downs : (c : ℕ) → c < g.size → done c ≡ false → down c ≡ g.down c
  pub within : (c d : ℕ) → c < g.size → g.down c ≡ Some d → d < g.size
  pub waits : (c : ℕ) → c < g.size → done c ≡ false → here ≢ Some c → pos (w c) ≡ inflow g (undone done) c
  pub fresh : (c : ℕ) → c < g.size → w c ≡ 0 → done c ≡ false
  pub own : (c : ℕ) → here ≡ Some c → (c < g.size) × (done c ≡ false) × (inflow g (undone done) c ≡ pos 0) × (0 < w c)

-- ---- over lists

abbrev pub down_in : List (Option ℕ) → ℕ → Option ℕ
down_in downs c = slice_index_or downs c None

abbrev pub flow_in : List ℤ → ℕ → ℤ
flow_in flows c = slice_index_or flows c (pos 0)

abbrev pub wait_in : List ℕ → ℕ → ℕ
wait_in waits c = slice_index_or waits c 0

-- a list in place of what stands from `first` on
abbrev pub laid : {X : Type 0} → ℕ → List X → (ℕ → X) → ℕ → X
laid first xs f c = if nat_lt c first then f c else slice_index_or xs (c - first) (f c)

-- what the places of a net have
pub record Places : Type 0 where
  pub down : ℕ → Option ℕ
  pub flow : ℕ → ℤ
  pub wait : ℕ → ℕ

-- three lists for n places from `first` on, among places of the net; where they are for all, the first `end` of them aren't ready any more
pub record ArePools (g : Net) (r : Places) (first n end : ℕ) (here : Option ℕ) (downs : List (Option ℕ)) (waits : List ℕ) (flows : List ℤ) : Type 0 where
  pub within : first + n ≤ g.size
  pub downs_count : length downs ≡ n
  pub waits_count : length waits ≡ n
  pub flows_count : length flows ≡ n
  pub pouring : IsPouring g here (laid first downs r.down) (laid first flows r.flow) (laid first waits r.wait)
  pub started : first ≡ 0 → n ≡ g.size → (k : ℕ) → k < end → 0 < wait_in waits k

-- place d by its number in a list of n from `first` on, where it is one of them
abbrev pub place_in : ℕ → ℕ → ℕ → Option ℕ
place_in first n d = if nat_lt d first then None else if nat_lt (d - first) n then Some (d - first) else None

-- the place of the net, by its number in a list
abbrev pub place_of : ℕ → Option ℕ → Option ℕ
place_of first None = None
place_of first (Some k) = Some (first + k)

-- what comes to a place, which may then wait for nothing more
abbrev pub TakesIn : List ℕ → ℕ → List ℕ → Bool → Type 0
TakesIn waits at waits' ready = ((1 < wait_in waits at) × (waits' ≡ slice_set waits at (wait_in waits at - 1)) × (ready ≡ false)) ⊎ ((wait_in waits at ≤ 1) × (waits' ≡ waits) × (ready ≡ true))

-- a place that is ready is none any more, and told to be one
abbrev pub Starts : List ℕ → ℕ → List ℕ → Bool → Type 0
Starts waits at waits' ready = ((wait_in waits at ≡ 0) × (waits' ≡ slice_set waits at 1) × (ready ≡ true)) ⊎ ((wait_in waits at ≢ 0) × (waits' ≡ waits) × (ready ≡ false))

-- how a place passes on what it has to another of the list, which may then wait for nothing more; it stays ready where that is none of them
abbrev pub PassesTo : Option ℕ → ℕ → List (Option ℕ) → List ℕ → List ℤ → List (Option ℕ) → List ℕ → List ℤ → Option ℕ → Type 0
PassesTo None at downs waits flows downs' waits' flows' next = (downs' ≡ downs) × (waits' ≡ slice_set waits at 0) × (flows' ≡ flows) × (next ≡ None)
PassesTo (Some d) at downs waits flows downs' waits' flows' next =
    (downs' ≡ slice_set downs at None) × (flows' ≡ slice_set flows d (flow_in flows d +ℤ flow_in flows at))
    × (((1 < wait_in waits d) × (waits' ≡ slice_set waits d (wait_in waits d - 1)) × (next ≡ None)) ⊎ ((wait_in waits d ≤ 1) × (waits' ≡ waits) × (next ≡ Some d)))

abbrev pub Passes : ℕ → Option ℕ → ℕ → List (Option ℕ) → List ℕ → List ℤ → List (Option ℕ) → List ℕ → List ℤ → Option ℕ → Type 0
Passes first None at downs waits flows downs' waits' flows' next = (downs' ≡ downs) × (waits' ≡ waits) × (flows' ≡ flows) × (next ≡ None)
Passes first (Some d) at downs waits flows downs' waits' flows' next = PassesTo (place_in first (length downs) d) at downs waits flows downs' waits' flows' next

-- a place that one drains to, by its number in a list of n from `first` on
abbrev pub number_to : ℕ → ℕ → Option ℕ → Option ℕ
number_to first n None = None
number_to first n (Some d) = place_in first n d

-- one more place drains to this one
abbrev pub waited : Option ℕ → List ℕ → List ℕ
waited None waits = waits
waited (Some k) waits = slice_set waits k (wait_in waits k + 1)

-- the first n places of `downs` were counted for those from `first` on that they drain to
pub record AddsWaits (downs : List (Option ℕ)) (n first : ℕ) (old new : List ℕ) : Type 0 where
  pub count : length new ≡ length old
  pub each : (k : ℕ) → k < length old → pos (wait_in new k) ≡ pos (wait_in old k) +ℤ sum_to (λ d. part (is_to (down_in downs d) (first + k)) (pos 1)) n
  pub few : (k : ℕ) → wait_in new k ≤ wait_in old k + n
