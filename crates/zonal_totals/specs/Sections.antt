-- Counts in sections of whole zones.
use Rattle.std.specs.Prelude.{◌≡◌, ◌^◌, ◌<◌, ◌++◌, List, [], ◌∷◌, length, ℤ, pos, negsuc, ◌+ℤ◌, ◌*ℤ◌}
use Rattle.map_nums.specs.Stats.{total_of}
use Rattle.zonal_totals.specs.declared.entries.Entry.{Entry}
use Rattle.zonal_totals.specs.declared.steps.Step.{Step}
use Rattle.zonal_totals.specs.Entries.{Climbs}
use Rattle.zonal_totals.specs.Merges.{IsMerged}
use Rattle.zonal_totals.specs.Numbers.{numbers}

-- a section keeps the sum of its entries, which are so few that 128 bits hold it
pub record IsSection (es : List Entry) (sum : ℤ) : Type 0 where
  pub total : sum ≡ total_of (numbers es)
  pub few : length es < 2 ^ 31

-- the entries of all sections
abbrev pub joined : List (List Entry) → List Entry
joined [] = []
joined (es ∷ cs) = es ++ joined cs

-- no pair of zone z ranks higher
abbrev pub end_of : ℤ → ℤ
end_of z = (z *ℤ pos 18446744073709551616) +ℤ pos 9223372036854775807

-- below every zone
abbrev pub lowest : ℤ
lowest = negsuc 9223372036854775808

-- the zone of the last entry, z where there is none
abbrev pub last_zone : ℤ → List Entry → ℤ
last_zone z [] = z
last_zone z (e ∷ es) = last_zone e.pair.zone es

-- the first and the last entry have the same zone
abbrev pub IsOneZone : List Entry → Type 0
IsOneZone [] = ⊥
IsOneZone (e ∷ es) = e.pair.zone ≡ last_zone e.pair.zone es

-- each section has an entry, the ranks ascend, and no zone, nor z, is in a section and in one before
abbrev pub AreSections : ℤ → List (List Entry) → Type 0
AreSections z [] = Unit {0}
AreSections z (es ∷ cs) = (0 < length es) × Climbs (end_of z) es × AreSections (last_zone z es) cs

-- old has become new by the entries of a section after steps
pub record IsRenewed (old : List (List Entry)) (es : List Entry) (ss : List Step) (new : List (List Entry)) : Type 0 where
  pub entries : List Entry
  pub merged : IsMerged es ss entries
  pub sections : AreSections lowest new
  pub joins : joined new ≡ joined old ++ entries
