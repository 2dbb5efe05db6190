-- How much a line may read.
use Rattle.std.specs.Prelude.{ℕ, List, [], ◌∷◌, Result, Ok, Err}
use Rattle.map_lines.specs.Present.{rows_at}
use Rattle.statement_parser.specs.Lines.{Line, blank, edit, undo, ask, model, quit}
use Rattle.statement_parser.specs.Texts.{Refusal as LineRefusal}
use Rattle.statement_parser.specs.LineOf.{line_of}
use Rattle.map_edits.specs.LineEdits.{line_edit}
use Rattle.map_edits.specs.Pasts.{Past}
use Rattle.map_edits.specs.WholeEdits.{put_back}
use Rattle.map_edits.specs.Allowances.{Reads, no_reads, edit_reads}
use Rattle.map_machine.specs.States.{MapState}
use Rattle.map_machine.specs.RequestReads.{request_reads}

-- taking back an edit may read what an edit may
abbrev pub undo_reads : MapState → List Past → Reads
undo_reads s [] = no_reads
undo_reads s (p ∷ ps) = edit_reads s.whole (put_back p)

abbrev pub reads_by : MapState → Result Line LineRefusal → Reads
reads_by s (Ok blank) = no_reads
reads_by s (Ok (edit e)) = edit_reads s.whole (line_edit e)
reads_by s (Ok undo) = undo_reads s s.pasts
reads_by s (Ok (ask r)) = request_reads s.whole r
reads_by s (Ok (model l)) = no_reads
reads_by s (Ok quit) = no_reads
reads_by s (Err r) = no_reads

-- from the state before it; a line of any length
unfoldable pub line_reads : MapState → List ℕ → Reads
line_reads s line = reads_by s (line_of (rows_at s.place) line)
