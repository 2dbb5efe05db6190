-- Operations whose numbers are in range, whatever their names are.
use Rattle.std.specs.Prelude.{IsTrue}
use Rattle.map_nums.specs.Numbers.{is_value}
use Rattle.map_defs.specs.Ops.{Term, layer_term, number_term, Op}
use Rattle.map_defs.specs.Facts.{HasTerms}
use Rattle.statement_parser.specs.Formed.{Each, IsHead}

-- a name, or a number that a cell may hold
abbrev pub IsInRange : Term → Type 0
IsInRange (layer_term n) = Unit {0}
IsInRange (number_term z) = IsTrue (is_value z)

abbrev pub HasRanges : Op → Type 0
HasRanges op = IsHead op.head × HasTerms op × Each IsInRange op.terms
