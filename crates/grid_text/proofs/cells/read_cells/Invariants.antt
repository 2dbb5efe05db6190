use Rattle.std.proofs.Common.{◌≡◌, ◌-◌, ◌≤◌, length}
use Rattle.grid_text.specs.Contents.{cells_from}
use Rattle.grid_text.specs.Places.{tokens_left}
use Rattle.grid_text.proofs.CellLists.{with_front}
use Rattle.grid_text.proofs.cells.read_cells.Given as goal

abbrev pub invariant-loop-token : goal.invariant-loop-token
invariant-loop-token l = record {
  read : with_front l.cells.items (cells_from l.null l.need (length l.cells.items) (tokens_left l.bytes l.next)) ≡ cells_from l.null l.need 0 (tokens_left l.bytes l.from);
  count : length l.cells.items ≤ l.need;
  within : l.next ≤ length l.bytes;
}

abbrev pub decreases-loop-token : goal.decreases-loop-token
decreases-loop-token l = length l.bytes - l.next
