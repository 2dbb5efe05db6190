-- The bytes of replies.
use Rattle.std.specs.Prelude.{ℕ, List, ◌++◌, codes, decimal}
use Rattle.map_defs.specs.Ops.{Name}
use Rattle.map_edits.specs.EditCounts.{Counts}
use Rattle.map_machine.specs.Causes.{counted}

-- the reply to an accepted edit or load, by the number of edits so far and by what it counts
abbrev pub counted_reply : ℕ → Counts → List ℕ
counted_reply number c = counted (codes "ok") number ++ counted (codes " changed") c.changed ++ counted (codes " evaluated") c.evaluated ++ counted (codes " worked") c.worked ++ codes "\n"

-- the reply to a refused line
abbrev pub refused_reply : List ℕ → List ℕ
refused_reply cause = codes "refused " ++ cause ++ codes "\n"

-- the reply to a refused load
abbrev pub load_refused_reply : Name → List ℕ → List ℕ
load_refused_reply name cause = codes "refused load " ++ name ++ codes " " ++ cause ++ codes "\n"

-- the reply to a request on a layer that lacks a name
abbrev pub undefined_reply : Name → Name → List ℕ
undefined_reply name lacking = codes "undefined " ++ name ++ codes ": " ++ lacking ++ codes "\n"

-- the reply that tells the cell in a row and a column
abbrev pub value_reply : Name → ℕ → ℕ → List ℕ → List ℕ
value_reply name r c cell = codes "value " ++ name ++ codes " " ++ decimal r ++ codes " " ++ decimal c ++ codes " " ++ cell ++ codes "\n"
