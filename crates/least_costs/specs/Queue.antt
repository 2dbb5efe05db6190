-- What is done with the places that disagree with their equation. They stand in a queue, each under the lesser of its value and its equation's.
use Rattle.std.specs.Prelude.{◌≡◌, ◌≢◌, ℕ, ◌+◌, ◌<◌, ◌≤◌, ◌==◌, List, length, min, Bool, false, if◌then◌else◌, nat_lt}
use Rattle.std.specs.List.{Contains}
use Rattle.map_defs.specs.Nets.{Net, equation}
use Rattle.least_costs.specs.declared.outcome.Outcome.{Outcome}
use Rattle.least_costs.specs.declared.outcome.Outcome.TheVariants.{Passed, Fell, Rose}

abbrev pub IsQueued : Net → (ℕ → ℕ) → List (ℕ × ℕ) → ℕ → Type 0
IsQueued g d entries i = d i ≢ equation g d i → Contains entries (min (d i) (equation g d i), i)

-- what stood in the queue stands there still
abbrev pub IsKept : List (ℕ × ℕ) → List (ℕ × ℕ) → Type 0
IsKept old new = (x : ℕ × ℕ) → Contains old x → Contains new x

-- the place disagrees, and this is its key
pub record IsDue (g : Net) (d : ℕ → ℕ) (key at : ℕ) : Type 0 where
  pub within : at < g.size
  pub disagrees : d at ≢ equation g d at
  pub is_key : min (d at) (equation g d at) ≡ key

-- the value after a take
abbrev pub next_value : Net → (ℕ → ℕ) → ℕ → ℕ
next_value g d at = let e = equation g d at in if nat_lt e (d at) then e else g.top

-- the cost through c, if it is below i's value, stands in the queue
abbrev pub IsOffered : Net → (ℕ → ℕ) → List (ℕ × ℕ) → ℕ → ℕ → Type 0
IsOffered g d entries c i = d c + g.step c i < d i → Contains entries (d c + g.step c i, i)

-- where a step leads
abbrev pub IsOfferedBy : Net → (ℕ → ℕ) → List (ℕ × ℕ) → ℕ → ℕ → Type 0
IsOfferedBy g d entries c i = g.step c i < g.top → IsOffered g d entries c i

abbrev pub OfferedFrom : Net → (ℕ → ℕ) → List (ℕ × ℕ) → ℕ → Type 0
OfferedFrom g d entries c = (i : ℕ) → IsOfferedBy g d entries c i

-- the value of c was v: a place that stood on c stands in the queue under its own value, whatever its equation gives now; one above the cost through c stands there if it disagrees; one below did not need c
pub record IsRaised (g : Net) (v : ℕ) (d : ℕ → ℕ) (entries : List (ℕ × ℕ)) (c i : ℕ) : Type 0 where
  pub above : v + g.step c i < d i → IsQueued g d entries i
  pub level : v + g.step c i ≡ d i → Contains entries (d i, i)

-- where a step leads
abbrev pub IsRisen : Net → ℕ → (ℕ → ℕ) → List (ℕ × ℕ) → ℕ → ℕ → Type 0
IsRisen g v d entries c i = g.step c i < g.top → IsRaised g v d entries c i

-- one value was set
pub record IsSetTo (d : ℕ → ℕ) (at v : ℕ) (d' : ℕ → ℕ) : Type 0 where
  pub here : d' at ≡ v
  pub other : (j : ℕ) → j ≢ at → d' j ≡ d j

-- the value was above the equation's, and fell to it
pub record IsFall (g : Net) (d d' : ℕ → ℕ) (entries' : List (ℕ × ℕ)) (at : ℕ) : Type 0 where
  pub above : equation g d at < d at
  pub fallen : OfferedFrom g d' entries' at

-- the value was below the equation's, and rose to `top`: the place stands in the queue if it disagrees, and the others as their costs ask for it
pub record IsRise (g : Net) (d d' : ℕ → ℕ) (entries' : List (ℕ × ℕ)) (at : ℕ) : Type 0 where
  pub below : d at ≤ equation g d at
  pub here : IsQueued g d' entries' at
  pub risen : (i : ℕ) → IsRisen g (d at) d' entries' at i

-- the place got its next value, with what that asks for, and at most `most` entries came into the queue
pub record IsTake (g : Net) (d : ℕ → ℕ) (entries : List (ℕ × ℕ)) (key at : ℕ) (d' : ℕ → ℕ) (entries' : List (ℕ × ℕ)) (next : Type 0) (most : ℕ) : Type 0 where
  pub due : IsDue g d key at
  pub value : IsSetTo d at (next_value g d at) d'
  pub kept : IsKept entries entries'
  pub queued : next
  pub few : length entries' ≤ length entries + most

pub record IsPassed (g : Net) (d : ℕ → ℕ) (entries : List (ℕ × ℕ)) (key at : ℕ) (d' : ℕ → ℕ) (entries' : List (ℕ × ℕ)) : Type 0 where
  pub due : IsDue g d key at → ⊥
  pub same : d' ≡ d
  pub entries_same : entries' ≡ entries

-- what is done with an entry: a fall offers the cost through the place to others, at most nine; a rise queues at most as many, and the place itself
abbrev pub IsStep : Net → (ℕ → ℕ) → List (ℕ × ℕ) → ℕ → ℕ → (ℕ → ℕ) → List (ℕ × ℕ) → Outcome → Type 0
IsStep g d entries key at d' entries' Passed = IsPassed g d entries key at d' entries'
IsStep g d entries key at d' entries' Fell = IsTake g d entries key at d' entries' (IsFall g d d' entries' at) 9
IsStep g d entries key at d' entries' Rose = IsTake g d entries key at d' entries' (IsRise g d d' entries' at) 10

-- how many values fell, and how many rose
abbrev pub falls : Outcome → ℕ
falls Passed = 0
falls Fell = 1
falls Rose = 0

abbrev pub rises : Outcome → ℕ
rises Passed = 0
rises Fell = 0
rises Rose = 1

-- the place left its old value
abbrev pub is_first : (ℕ → ℕ) → (ℕ → ℕ) → ℕ → Outcome → Bool
is_first old d at Passed = false
is_first old d at Fell = old at == d at
is_first old d at Rose = old at == d at
