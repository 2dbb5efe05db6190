-- The zones of changes.
use Rattle.std.specs.Prelude.{List, [], ◌∷◌, ℤ, Option, Some, if◌then◌else◌}
use Rattle.map_defs.specs.Cells.{has_number}
use Rattle.zonal_totals.specs.declared.steps.Step.{Step}

-- the zones of steps, one after another, each once where equal ones stand side by side; o is the zone before
abbrev pub zones_from : Option ℤ → List Step → List ℤ
zones_from o [] = []
zones_from o (s ∷ ss) = if has_number s.pair.zone o then zones_from o ss else s.pair.zone ∷ zones_from (Some s.pair.zone) ss
