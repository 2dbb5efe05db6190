-- The text of a session: the replies to its lines, put end to end.
use Rattle.std.specs.Prelude.{ℕ, Bool, List, [], ◌∷◌, ◌++◌, length, take, if◌then◌else◌, nat_lt}
use Rattle.map_machine.specs.declared.Kind.{Kind}
use Rattle.map_machine.specs.declared.Kind.TheVariants.{Refused}
use Rattle.map_machine.specs.Limits.{longest_line}
use Rattle.map_machine.specs.Lines.{ended_lines, lines_of}
use Rattle.map_machine.specs.States.{MapState}
use Rattle.map_machine.specs.Steps.{step_of, is_quit, long_reply}

abbrev pub is_long : List ℕ → Bool
is_long line = nat_lt longest_line (length line)

-- the reply to any line
abbrev pub reply_to : MapState → List ℕ → List ℕ
reply_to s line = if is_long line then long_reply (length line) else (step_of s line).reply

-- the state after any line: one that is too long changes nothing
abbrev pub state_to : MapState → List ℕ → MapState
state_to s line = if is_long line then s else (step_of s line).state

-- what becomes of any line
abbrev pub kind_to : MapState → List ℕ → Kind
kind_to s line = if is_long line then Refused else (step_of s line).kind

-- the replies to these lines, up to the first that ends the session
abbrev pub replies_to : MapState → List (List ℕ) → List ℕ
replies_to s [] = []
replies_to s (line ∷ lines) = if is_quit line then [] else reply_to s line ++ replies_to (state_to s line) lines

-- the state after these lines, of which none ends the session
abbrev pub state_after : MapState → List (List ℕ) → MapState
state_after s [] = s
state_after s (line ∷ lines) = state_after (state_to s line) lines

-- the lines of a session that are played: of one that has the limit or more, those that end among its first bytes
abbrev pub session_lines : ℕ → List ℕ → List (List ℕ)
session_lines limit bytes = if nat_lt (length bytes) limit then lines_of bytes else ended_lines (take limit bytes)

-- the text of a session, from a state
abbrev pub session_text : ℕ → MapState → List ℕ → List ℕ
session_text limit s bytes = replies_to s (session_lines limit bytes)
