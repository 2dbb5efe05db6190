-- Changes of the counts of pairs.
use Rattle.std.specs.Prelude.{◌≢◌, ℕ, suc, ◌+◌, List, [], ◌∷◌, ℤ, pos, negsuc, ◌+ℤ◌, ◌<ℤ◌, ◌≤ℤ◌, if◌then◌else◌}
use Rattle.zonal_totals.specs.declared.pairs.Pair.{Pair}
use Rattle.zonal_totals.specs.declared.steps.Step.{Step}
use Rattle.zonal_totals.specs.Pairs.{same_pair, rank, IsShort}

-- by how much a step changes the count of pair p
abbrev pub step_at : Step → Pair → ℤ
step_at s p = if same_pair s.pair p then s.by else pos 0

-- by how much the count of pair p changes
abbrev pub net_in : List Step → Pair → ℤ
net_in [] p = pos 0
net_in (s ∷ ss) p = step_at s p +ℤ net_in ss p

-- how far a number is from 0
abbrev pub size : ℤ → ℕ
size (pos n) = n
size (negsuc n) = suc n

-- all changes together
abbrev pub weight : List Step → ℕ
weight [] = 0
weight (s ∷ ss) = size s.by + weight ss

-- the rank of the last step, r where there is none
abbrev pub top_step : ℤ → List Step → ℤ
top_step r [] = r
top_step r (s ∷ ss) = top_step (rank s.pair) ss

-- the ranks ascend, all above r, and no step is of 0
abbrev pub StepsClimb : ℤ → List Step → Type 0
StepsClimb r [] = Unit {0}
StepsClimb r (s ∷ ss) = (r <ℤ rank s.pair) × (s.by ≢ pos 0) × IsShort s.pair × StepsClimb (rank s.pair) ss

-- the ranks do not fall, and begin at r or above
abbrev pub StepsRise : ℤ → List Step → Type 0
StepsRise r [] = Unit {0}
StepsRise r (s ∷ ss) = (r ≤ℤ rank s.pair) × StepsRise (rank s.pair) ss

abbrev pub AllShort : List Step → Type 0
AllShort [] = Unit {0}
AllShort (s ∷ ss) = IsShort s.pair × AllShort ss
