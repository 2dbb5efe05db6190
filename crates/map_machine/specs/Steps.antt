-- What one line does to a state, and what is replied.
use Rattle.std.specs.Prelude.{ℕ, Bool, true, false, List, [], ◌∷◌, Result, Ok, Err, codes}
use Rattle.map_lines.specs.Present.{first_place, rows_at}
use Rattle.statement_parser.specs.Lines.{Line, blank, edit, undo, ask, model, quit}
use Rattle.statement_parser.specs.Texts.{Refusal as LineRefusal, long}
use Rattle.statement_parser.specs.LineOf.{line_of}
use Rattle.statement_parser.specs.declared.language.Language.{Language}
use Rattle.statement_parser.specs.declared.language.Place.{Place}
use Rattle.map_edits.specs.Refusals.{Refusal}
use Rattle.map_edits.specs.Counted.{Accepted, done, accept_counted}
use Rattle.map_edits.specs.Pasts.{Past, with_parts, with_past}
use Rattle.map_edits.specs.Touches.{touch_of}
use Rattle.map_edits.specs.WholeEdits.{WholeEdit}
use Rattle.map_edits.specs.LineEdits.{line_edit}
use Rattle.map_machine.specs.declared.Kind.{Kind}
use Rattle.map_machine.specs.declared.Kind.TheVariants as kinds
use Rattle.map_machine.specs.States.{MapState}
use Rattle.map_machine.specs.Replies.{counted_reply, refused_reply}
use Rattle.map_machine.specs.Causes.{edit_cause, line_cause}
use Rattle.map_machine.specs.Answers.{answer_to}

-- the state after a line, the reply, and what became of the line
pub record Stepped : Type 0 where
  pub state : MapState
  pub reply : List ℕ
  pub kind : Kind

-- the state is as before
abbrev pub unchanged : MapState → List ℕ → Kind → Stepped
unchanged s reply kind = record { state = s; reply = reply; kind = kind }

-- no later line sets the language
abbrev pub later : Language → Place
later l = record { language = l; early = false }

-- an accepted edit of a line can be taken back
abbrev pub edited : MapState → WholeEdit → Result Accepted Refusal → Stepped
edited s e (Ok a) = record { state = record s { place = later s.place.language; whole = a.state; pasts = with_past s.whole (touch_of e) s.pasts }; reply = counted_reply a.state.names.number a.counts; kind = kinds.Accepted }
edited s e (Err r) = unchanged s (refused_reply (edit_cause r)) kinds.Refused

-- the parts of the newest of the earlier states are put back. Stamps and the number of edits go on, and what is taken back can't be taken back again
abbrev pub undone : MapState → List Past → Stepped
undone s [] = unchanged s (refused_reply (codes "nothing")) kinds.Refused
undone s (p ∷ ps) = taken_back s ps (done p.touch s.whole (with_parts s.whole p.parts))
  where
    taken_back : MapState → List Past → Accepted → Stepped
    taken_back s ps a = record { state = record s { whole = a.state; pasts = ps }; reply = counted_reply a.state.names.number a.counts; kind = kinds.Accepted }

abbrev pub step_by : MapState → Result Line LineRefusal → Stepped
step_by s (Ok blank) = unchanged s [] kinds.Silent
step_by s (Ok (edit e)) = edited s (line_edit e) (accept_counted s.whole (line_edit e))
step_by s (Ok undo) = undone s s.pasts
step_by s (Ok (ask r)) = unchanged s (answer_to s r) kinds.Shown
step_by s (Ok (model l)) = record { state = record s { place = later l }; reply = []; kind = kinds.Model }
step_by s (Ok quit) = unchanged s [] kinds.Quit
step_by s (Err r) = unchanged s (refused_reply (line_cause r)) kinds.Refused

-- what a line does
unfoldable pub step_of : MapState → List ℕ → Stepped
step_of s line = step_by s (line_of (rows_at s.place) line)

abbrev pub ends : Result Line LineRefusal → Bool
ends (Ok quit) = true
ends r = false

-- the line ends the session, wherever it stands
unfoldable pub is_quit : List ℕ → Bool
is_quit line = ends (line_of (rows_at first_place) line)

-- the reply to a line that is too long, by its length
unfoldable pub long_reply : ℕ → List ℕ
long_reply length = refused_reply (line_cause (long length))
