-- What a sink was given of a text, and what was read for it.
use Rattle.std.specs.Prelude.{ℕ, ◌≡◌, List, ◌++◌, length, Option}
use Rattle.map_edits.specs.Allowances.{Reads}
use Rattle.map_outside.specs.Contents.{Grows}
use Rattle.map_run.specs.Progress.{Progress, Rises}

-- a front of the text was written
pub record WritesFront (held held' : Option (List ℕ)) (text : List ℕ) : Type 0 where
  pub front : List ℕ
  pub rest : List ℕ
  pub whole : text ≡ front ++ rest
  pub wrote : Grows held held' front

-- a front of the text was written, and no more was read than goes with so many bytes
pub record ReadsAsWritten (a b : Progress) (text : List ℕ) (reads : ℕ → Reads) : Type 0 where
  pub written : WritesFront a.held b.held text
  pub rose : Rises (reads (length written.front)) a.tally b.tally
