-- How much the lines of a session may read, of whose text so many bytes are written: what the first may whose replies are whole among them, and the next one.
use Rattle.std.specs.Prelude.{ℕ, ◌-◌, nat_le, List, [], ◌∷◌, length, if◌then◌else◌}
use Rattle.map_edits.specs.Allowances.{Reads, no_reads, together}
use Rattle.map_machine.specs.States.{MapState}
use Rattle.map_machine.specs.Steps.{is_quit}
use Rattle.map_machine.specs.Text.{reply_to, state_to}
use Rattle.map_machine.specs.LineReads.{line_reads}

-- of a command with this reply. Where the reply is whole among the bytes written, `next` tells what is read after it, by the bytes left
abbrev pub and_then : Reads → List ℕ → ℕ → (ℕ → Reads) → Reads
and_then reads reply written next = if nat_le (length reply) written then together reads (next (written - length reply)) else reads

-- of these lines, up to the first that ends the session
abbrev pub lines_reads : MapState → List (List ℕ) → ℕ → Reads
lines_reads s [] written = no_reads
lines_reads s (line ∷ lines) written = if is_quit line then no_reads else and_then (line_reads s line) (reply_to s line) written (lines_reads (state_to s line) lines)
