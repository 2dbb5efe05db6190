-- Procedures that may be called: each calls earlier ones alone, and dotted names made of theirs are names.
use Rattle.std.specs.Prelude.{ℕ, ◌≤◌, List, [], ◌∷◌, length, IsTrue}
use Rattle.map_words.specs.Names.{is_plain}
use Rattle.map_defs.specs.Ops.{Name}
use Rattle.map_defs.specs.Statements.{Inner, Procedure}
use Rattle.map_defs.specs.FlatNames.{Each}
use Rattle.map_defs.specs.MadeProcedures.{inner_names, AreMade}

abbrev pub IsPlain : Name → Type 0
IsPlain n = IsTrue (is_plain n)

-- as short as a plain name is
abbrev pub IsShort : Name → Type 0
IsShort n = length n ≤ 32

abbrev pub AreShort : List Inner → Type 0
AreShort is = Each IsShort (inner_names is)

abbrev pub HaveShortNames : List Procedure → Type 0
HaveShortNames [] = Unit {0}
HaveShortNames (p ∷ ps) = AreShort p.body × HaveShortNames ps

abbrev pub most_procedures : ℕ
most_procedures = 32

pub record AreProcs (ps : List Procedure) : Type 0 where
  pub made : AreMade ps
  pub short : HaveShortNames ps
  pub few : length ps ≤ most_procedures
