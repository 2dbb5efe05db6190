-- Changes of counts put together.
use Rattle.std.specs.Prelude.{List, [], ◌∷◌, fold, pos, ◌+ℤ◌, if◌then◌else◌}
use Rattle.std.specs.Ordering.{int_eq}
use Rattle.zonal_totals.specs.declared.steps.Step.{Step}
use Rattle.zonal_totals.specs.Pairs.{same_pair}

abbrev pub kept : Step → List Step
kept s = if int_eq s.by (pos 0) then [] else s ∷ []

-- what two steps in a row become
abbrev pub meet : Step → Step → List Step
meet t s = if same_pair t.pair s.pair then kept (record { pair = s.pair; by = t.by +ℤ s.by }) else t ∷ kept s

-- a step is added to the last one where that is of the same pair, else put behind
abbrev pub put_step : List Step → Step → List Step
put_step [] s = kept s
put_step (t ∷ []) s = meet t s
put_step (t ∷ u ∷ ts) s = t ∷ put_step (u ∷ ts) s

abbrev pub settled : List Step → List Step
settled ss = fold put_step [] ss
