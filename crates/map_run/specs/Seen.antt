-- What is seen of shelf, source, sink and tally.
use Rattle.std.specs.Prelude.{ℕ, List, Option, Some, IfSome}
use Rattle.map_machine.specs.Words.{Form, of_sample}
use Rattle.map_outside.specs.Contents.{Files}
use Rattle.map_run.specs.Progress.{Progress}

-- the content of shelf and source, where it is told, their counts of faults, and how far the run has come
pub record Seen : Type 0 where
  pub files : Option Files
  pub left : Option (List ℕ)
  pub shelf : ℕ
  pub source : ℕ
  pub progress : Progress

-- a fact of the files that are held, where they are told. A sample has none, so that for it they may be any
abbrev pub WhereHeld : Option Form → Option Files → (Files → Type 0) → Type 0
WhereHeld (Some (of_sample n)) held P = (files : Files) → P files
WhereHeld form held P = IfSome held P

-- and of the bytes of a session
abbrev pub WhereTold : Option Form → Option Files → Option (List ℕ) → (Files → List ℕ → Type 0) → Type 0
WhereTold (Some (of_sample n)) held left P = (files : Files) (session : List ℕ) → P files session
WhereTold form held left P = IfSome held (λ files. IfSome left (P files))
