use Rattle.std.proofs.Common.{◌≡◌, ◌+◌, ◌-◌, ◌≤◌, length}
use Rattle.grid_text.specs.Heads.{pairs_in}
use Rattle.grid_text.specs.Keys.{nothing}
use Rattle.grid_text.specs.Places.{tokens_left}
use Rattle.grid_text.specs.Tokens.{tokens_of}
use Rattle.grid_text.proofs.headers.read_pairs.Given as goal

abbrev pub invariant-loop-name : goal.invariant-loop-name
invariant-loop-name l = record {
  read : pairs_in (length l.bytes + 1) l.found (tokens_left l.bytes l.next) ≡ pairs_in (length l.bytes + 1) nothing (tokens_of l.bytes);
  within : l.next ≤ length l.bytes;
}

abbrev pub decreases-loop-name : goal.decreases-loop-name
decreases-loop-name l = length l.bytes - l.next
