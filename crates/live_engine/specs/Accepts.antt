-- What an edit answers.
use Rattle.std.specs.Prelude.{◌≡◌, Result, Ok, Err, IsTrue}
use Rattle.layer_tiles.specs.Tallies.{TallyState, RisesBy}
use Rattle.map_words.specs.Names.{is_plain}
use Rattle.statement_parser.specs.Formed.{IsEdit}
use Rattle.statement_parser.specs.Views.{edit_view}
use Rattle.map_edits.specs.WholeStates.{WholeState}
use Rattle.map_edits.specs.WholeEdits.{WholeEdit, of_names}
use Rattle.map_edits.specs.EditForms.{load}
use Rattle.map_edits.specs.LineEdits.{line_edit}
use Rattle.map_edits.specs.Counted.{accept_counted}
use Rattle.map_edits.specs.Allowances.{edit_reads}
use Rattle.map_edits.specs.Faults.{too_many_viewers, overflow}
use Rattle.map_edits.specs.Refusals as refusals
use Rattle.kept_map.specs.Maps.{grid_of}
use Rattle.kept_map.specs.Repairs.{counts_view}
use Rattle.live_engine.specs.declared.edits.Edit.{Edit}
use Rattle.live_engine.specs.declared.edits.Edit.TheVariants.{Load, Line}
use Rattle.live_engine.specs.declared.edits.Accepted.{Accepted}
use Rattle.live_engine.specs.declared.edits.Which.{Which}
use Rattle.live_engine.specs.declared.edits.Which.TheVariants as which
use Rattle.live_engine.specs.declared.edits.Refusal.{Refusal}
use Rattle.live_engine.specs.declared.edits.Refusal.TheVariants.{Unknown, Derived, Exists, Size, Limit, Cycle, Viewers, Overflow, NoProcedure, Terms, NoMemory}

abbrev pub edit_of : Edit → WholeEdit
edit_of (Load n layer) = of_names (load n (grid_of layer))
edit_of (Line e) = line_edit (edit_view e)

-- names are plain, and numbers in the range of their place
abbrev pub IsFormedEdit : Edit → Type 0
IsFormedEdit (Load n layer) = IsTrue (is_plain n)
IsFormedEdit (Line e) = IsEdit (edit_view e)

abbrev pub which_of : Which → refusals.Which
which_of which.Sources = refusals.sources
which_of which.Statements = refusals.statements
which_of which.Zonals = refusals.zonals
which_of which.Neighbors = refusals.neighbors
which_of which.Labels = refusals.labels
which_of which.Symbols = refusals.symbols
which_of which.Procedures = refusals.procedures

-- refused so, and the state is as before; want of memory is free
abbrev pub Refuses : WholeState → WholeState → WholeEdit → Refusal → Type 0
Refuses old new e (Unknown n) = (accept_counted old e ≡ Err (refusals.unknown n)) × (new ≡ old)
Refuses old new e (Derived n) = (accept_counted old e ≡ Err (refusals.is_derived n)) × (new ≡ old)
Refuses old new e (Exists n) = (accept_counted old e ≡ Err (refusals.exists_already n)) × (new ≡ old)
Refuses old new e (Size rows columns) = (accept_counted old e ≡ Err (refusals.wrong_size (record { rows = rows; columns = columns }))) × (new ≡ old)
Refuses old new e (Limit w) = (accept_counted old e ≡ Err (refusals.beyond (which_of w))) × (new ≡ old)
Refuses old new e (Cycle n) = (accept_counted old e ≡ Err (refusals.cycle n)) × (new ≡ old)
Refuses old new e (Viewers n count) = (accept_counted old e ≡ Err (refusals.fault (too_many_viewers n count))) × (new ≡ old)
Refuses old new e (Overflow n r c) = (accept_counted old e ≡ Err (refusals.fault (overflow n r c))) × (new ≡ old)
Refuses old new e (NoProcedure n) = (accept_counted old e ≡ Err (refusals.no_procedure n)) × (new ≡ old)
Refuses old new e (Terms given wanted) = (accept_counted old e ≡ Err (refusals.wrong_terms given wanted)) × (new ≡ old)
Refuses old new e NoMemory = new ≡ old

-- the state that the edit makes, with its number and its counts; or why it is refused
abbrev pub Accepts : WholeState → WholeState → WholeEdit → Result Accepted Refusal → Type 0
Accepts old new e (Ok accepted) = (accept_counted old e ≡ Ok (record { state = new; counts = counts_view accepted.counts })) × (accepted.number ≡ new.names.number)
Accepts old new e (Err refusal) = Refuses old new e refusal

-- no more is read than an edit of this state may read
abbrev pub ReadsWithin : WholeState → WholeEdit → TallyState → TallyState → Type 0
ReadsWithin s e before after = RisesBy (edit_reads s e).looks (edit_reads s e).picks before after
