-- Which lines are there: those whose rows are.
use Rattle.std.specs.Prelude.{Bool, true, false, ◌∷◌, List, IsTrue}
use Rattle.map_nums.specs.declared.Stat.TheVariants.{Sum}
use Rattle.map_defs.specs.Ops.{Head, local_head, sight_head, Op}
use Rattle.map_defs.specs.Statements.{Written, plain, call, Inner}
use Rattle.statement_parser.specs.Lines.{Manner, Edit, define, paint, new_layer, drop, define_procedure, put_label, put_symbol, Item, make, Request, ask_value, ask_grid, ask_show, ask_legend, ask_table, ask_stamps, ask_list, ask_branches, Line, blank, edit, undo, ask, model, quit}
use Rattle.statement_parser.specs.Formed.{Each}
use Rattle.statement_parser.specs.Operations.{operation_text, operation_of, has_row}
use Rattle.statement_parser.specs.Commands.{command_text, has_command}
use Rattle.statement_parser.specs.declared.operation.Operation.{Operation}
use Rattle.statement_parser.specs.declared.operation.Operation.TheVariants.{Local}
use Rattle.statement_parser.specs.declared.command.Command.{Command}
use Rattle.statement_parser.specs.declared.command.Command.TheVariants.{Model, Procedure, Paint, New, Drop, Label, Symbol, Undo, Branch, Value, Grid, Show, Legend, Table, Stamps, List as Listing, Quit}

-- the operation's row is there
abbrev pub HasRow : Manner → Operation → Type 0
HasRow m o = IsTrue (has_row (Local Sum ∷ m.operations) (operation_text o))

-- the command's row is there
abbrev pub HasCommand : Manner → Command → Type 0
HasCommand m c = IsTrue (has_command m.commands (command_text c))

-- nulls are ignored in it
abbrev pub is_ignoring : Head → Bool
is_ignoring (local_head s ignoring) = ignoring
is_ignoring head = false

-- where they are, the language has words for it
abbrev pub MayIgnore : Manner → Bool → Type 0
MayIgnore m true = IsTrue m.ignoring
MayIgnore m false = Unit {0}

-- what else it asks of the language: that nulls may be ignored, that FocalSum may radiate
abbrev pub MayBe : Manner → Head → Type 0
MayBe m (sight_head s) = IsTrue m.sight
MayBe m head = MayIgnore m (is_ignoring head)

abbrev pub IsOpThere : Manner → Op → Type 0
IsOpThere m o = HasRow m (operation_of o.head) × MayBe m o.head

abbrev pub IsWrittenThere : Manner → Written → Type 0
IsWrittenThere m (plain o) = IsOpThere m o
IsWrittenThere m (call p ts) = IsTrue m.calls

-- the rows of each statement of a body
abbrev pub AreInnerThere : Manner → List Inner → Type 0
AreInnerThere m is = Each (λ (i : Inner). IsWrittenThere m i.written) is

abbrev pub IsEditThere : Manner → Edit → Type 0
IsEditThere m (define n w) = IsWrittenThere m w
IsEditThere m (define_procedure p) = HasCommand m Procedure × AreInnerThere m p.body
IsEditThere m (paint n r1 c1 r2 c2 v) = HasCommand m Paint
IsEditThere m (new_layer n v) = HasCommand m New
IsEditThere m (drop n) = HasCommand m Drop
IsEditThere m (put_label n z t) = HasCommand m Label
IsEditThere m (put_symbol n z b) = HasCommand m Symbol

-- the words of an item belong to its line, and ask for no row of their own
abbrev pub IsItemThere : Manner → Item → Type 0
IsItemThere m (make (define n w)) = IsWrittenThere m w
IsItemThere m i = Unit {0}

abbrev pub IsRequestThere : Manner → Request → Type 0
IsRequestThere m (ask_value n r c) = HasCommand m Value
IsRequestThere m (ask_grid n) = HasCommand m Grid
IsRequestThere m (ask_show n) = HasCommand m Show
IsRequestThere m (ask_legend n) = HasCommand m Legend
IsRequestThere m (ask_table n v) = HasCommand m Table
IsRequestThere m (ask_stamps n) = HasCommand m Stamps
IsRequestThere m ask_list = HasCommand m Listing
IsRequestThere m (ask_branches bs) = HasCommand m Branch × Each (Each (IsItemThere m)) bs

abbrev pub IsThere : Manner → Line → Type 0
IsThere m blank = Unit {0}
IsThere m (edit e) = IsEditThere m e
IsThere m undo = HasCommand m Undo
IsThere m (ask r) = IsRequestThere m r
IsThere m (model l) = HasCommand m Model
IsThere m quit = HasCommand m Quit
