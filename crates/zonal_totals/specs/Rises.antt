-- What changes of counts add to the total of the numbers.
use Rattle.std.specs.Prelude.{List, [], ◌∷◌, ℤ, pos, ◌+ℤ◌, ◌*ℤ◌}
use Rattle.zonal_totals.specs.declared.steps.Step.{Step}

-- by how much the total of the numbers rises
abbrev pub rise_of : List Step → ℤ
rise_of [] = pos 0
rise_of (s ∷ ss) = (s.pair.key *ℤ s.by) +ℤ rise_of ss
