-- The lines of a model file, which are played before the session. A refused one ends the run, and quit ends the file's part alone.
use Rattle.std.specs.Prelude.{ℕ, nat_lt, Bool, true, false, List, [], ◌∷◌, ◌++◌, length, Option, Some, None, codes, if◌then◌else◌}
use Rattle.map_machine.specs.declared.Kind.{Kind}
use Rattle.map_machine.specs.declared.Kind.TheVariants.{Refused}
use Rattle.map_machine.specs.States.{MapState}
use Rattle.map_machine.specs.Replies.{refused_reply}
use Rattle.map_machine.specs.Causes.{counted}
use Rattle.map_machine.specs.Lines.{lines_of}
use Rattle.map_machine.specs.Steps.{is_quit}
use Rattle.map_machine.specs.Text.{reply_to, state_to, kind_to}
use Rattle.map_machine.specs.LoadTexts.{Files}
use Rattle.map_machine.specs.Openings.{Opening, turned_back, not_held}

abbrev pub is_refused : Kind → Bool
is_refused Refused = true
is_refused kind = false

-- a file of more bytes than are fetched counts as one refused line
unfoldable pub long_model_reply : ℕ → List ℕ
long_model_reply most = refused_reply (counted (codes "model long") most)

-- ---- the text; `next` is the text after the file's part

-- the text from these lines on
abbrev pub model_lines_text : MapState → List (List ℕ) → (MapState → List ℕ) → List ℕ
model_lines_text s [] next = next s
model_lines_text s (line ∷ lines) next =
    if is_quit line then next s
    else reply_to s line ++ (if is_refused (kind_to s line) then [] else model_lines_text (state_to s line) lines next)

-- the text from the file on: where nothing is held, the run breaks off before it
abbrev pub model_file_text : ℕ → Option (List ℕ) → MapState → (MapState → List ℕ) → List ℕ
model_file_text most None s next = []
model_file_text most (Some bytes) s next = if nat_lt most (length bytes) then long_model_reply most else model_lines_text s (lines_of bytes) next

-- the text from the file on, where there is one
abbrev pub model_text : ℕ → Files → Option (List ℕ) → MapState → (MapState → List ℕ) → List ℕ
model_text most files None s next = next s
model_text most files (Some file) s next = model_file_text most (files file) s next

-- ---- how it comes out; `next` tells it after the file's part

abbrev pub model_lines_opening : MapState → List (List ℕ) → (MapState → Opening) → Opening
model_lines_opening s [] next = next s
model_lines_opening s (line ∷ lines) next =
    if is_quit line then next s
    else (if is_refused (kind_to s line) then turned_back else model_lines_opening (state_to s line) lines next)

abbrev pub model_file_opening : ℕ → Option (List ℕ) → MapState → (MapState → Opening) → Opening
model_file_opening most None s next = not_held
model_file_opening most (Some bytes) s next = if nat_lt most (length bytes) then turned_back else model_lines_opening s (lines_of bytes) next

abbrev pub model_opening : ℕ → Files → Option (List ℕ) → MapState → (MapState → Opening) → Opening
model_opening most files None s next = next s
model_opening most files (Some file) s next = model_file_opening most (files file) s next
