-- What refuses a line, an edit or a load, in words.
use Rattle.std.specs.Prelude.{ℕ, List, Option, Some, None}
use Rattle.statement_parser.specs.declared.refusal.LineRefusal.{LineRefusal}
use Rattle.statement_parser.specs.declared.refusal.LineRefusal.TheVariants as a_line
use Rattle.statement_parser.specs.Texts.{long, syntax, operation, number}
use Rattle.grid_text.specs.declared.GridRefusal.{GridRefusal}
use Rattle.grid_text.specs.declared.GridRefusal.TheVariants as a_grid
use Rattle.grid_text.specs.Faults as grids
use Rattle.live_engine.specs.declared.edits.Refusal.{Refusal}
use Rattle.live_engine.specs.declared.edits.Refusal.TheVariants as an_edit
use Rattle.live_engine.specs.Accepts.{which_of}
use Rattle.map_edits.specs.Refusals as edits
use Rattle.map_edits.specs.Faults as faults
use Rattle.map_machine.specs.Causes.{line_cause, edit_cause, grid_cause}

-- none where memory was wanted
abbrev pub line_told : LineRefusal → Option (List ℕ)
line_told (a_line.Long length) = Some (line_cause (long length))
line_told (a_line.Syntax at) = Some (line_cause (syntax at))
line_told (a_line.Operation at) = Some (line_cause (operation at))
line_told (a_line.Number at) = Some (line_cause (number at))
line_told a_line.NoMemory = None

abbrev pub edit_told : Refusal → Option (List ℕ)
edit_told (an_edit.Unknown n) = Some (edit_cause (edits.unknown n))
edit_told (an_edit.Derived n) = Some (edit_cause (edits.is_derived n))
edit_told (an_edit.Exists n) = Some (edit_cause (edits.exists_already n))
edit_told (an_edit.Size rows columns) = Some (edit_cause (edits.wrong_size (record { rows = rows; columns = columns })))
edit_told (an_edit.Limit which) = Some (edit_cause (edits.beyond (which_of which)))
edit_told (an_edit.Cycle n) = Some (edit_cause (edits.cycle n))
edit_told (an_edit.Viewers n c) = Some (edit_cause (edits.fault (faults.too_many_viewers n c)))
edit_told (an_edit.Overflow n r c) = Some (edit_cause (edits.fault (faults.overflow n r c)))
edit_told (an_edit.NoProcedure n) = Some (edit_cause (edits.no_procedure n))
edit_told (an_edit.Terms given wanted) = Some (edit_cause (edits.wrong_terms given wanted))
edit_told an_edit.NoMemory = None

abbrev pub grid_told : GridRefusal → Option (List ℕ)
grid_told (a_grid.Key at) = Some (grid_cause (grids.key at))
grid_told (a_grid.Number at) = Some (grid_cause (grids.number at))
grid_told (a_grid.Size rows columns) = Some (grid_cause (grids.limits rows columns))
grid_told (a_grid.Few have need) = Some (grid_cause (grids.few have need))
grid_told (a_grid.More at) = Some (grid_cause (grids.more at))
grid_told (a_grid.Cell index) = Some (grid_cause (grids.cell index))
grid_told (a_grid.Range index) = Some (grid_cause (grids.range index))
grid_told a_grid.NoMemory = None
