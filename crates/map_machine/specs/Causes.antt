-- The texts of what refuses a line or a load.
use Rattle.std.specs.Prelude.{ℕ, List, ◌++◌, codes, decimal}
use Rattle.statement_parser.specs.Texts.{Refusal as LineRefusal, long, syntax, operation, number}
use Rattle.grid_text.specs.Faults as grids
use Rattle.map_edits.specs.Faults.{Fault, too_many_viewers, overflow}
use Rattle.map_edits.specs.Refusals.{Which, sources, statements, zonals, neighbors, labels, symbols, procedures, Refusal, unknown, is_derived, exists_already, wrong_size, beyond, cycle, fault, no_procedure, wrong_terms}

-- a word and a number
abbrev pub counted : List ℕ → ℕ → List ℕ
counted word n = word ++ codes " " ++ decimal n

-- a word and two numbers
abbrev pub counted_twice : List ℕ → ℕ → ℕ → List ℕ
counted_twice word m n = counted word m ++ codes " " ++ decimal n

abbrev pub which_text : Which → List ℕ
which_text sources = codes "sources"
which_text statements = codes "statements"
which_text zonals = codes "zonals"
which_text neighbors = codes "neighbors"
which_text labels = codes "labels"
which_text symbols = codes "symbols"
which_text procedures = codes "procedures"

abbrev pub fault_text : Fault → List ℕ
fault_text (too_many_viewers n count) = counted (codes "viewers " ++ n) count
fault_text (overflow n r c) = counted_twice (codes "overflow " ++ n) r c

-- why an edit is refused
abbrev pub edit_cause : Refusal → List ℕ
edit_cause (unknown n) = codes "unknown " ++ n
edit_cause (is_derived n) = codes "derived " ++ n
edit_cause (exists_already n) = codes "exists " ++ n
edit_cause (wrong_size s) = counted_twice (codes "size") s.rows s.columns
edit_cause (beyond which) = codes "limit " ++ which_text which
edit_cause (cycle n) = codes "cycle " ++ n
edit_cause (fault f) = fault_text f
edit_cause (no_procedure n) = codes "procedure " ++ n
edit_cause (wrong_terms given wanted) = counted_twice (codes "count") given wanted

-- why bytes are no line
abbrev pub line_cause : LineRefusal → List ℕ
line_cause (long length) = counted (codes "long") length
line_cause (syntax at) = counted (codes "syntax") at
line_cause (operation at) = counted (codes "operation") at
line_cause (number at) = counted (codes "number") at

-- why bytes are no grid
abbrev pub grid_cause : grids.Fault → List ℕ
grid_cause (grids.key at) = counted (codes "key") at
grid_cause (grids.number at) = counted (codes "number") at
grid_cause (grids.limits rows columns) = counted_twice (codes "limits") rows columns
grid_cause (grids.few have need) = counted_twice (codes "few") have need
grid_cause (grids.more at) = counted (codes "more") at
grid_cause (grids.cell index) = counted (codes "cell") index
grid_cause (grids.range index) = counted (codes "range") index
