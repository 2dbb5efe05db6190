use Rattle.std.proofs.Common.{◌≡◌, ◌++◌, map, take, decimal}
use Rattle.grid_text.specs.Printed.{spaced}
use Rattle.map_display.proofs.stamps.put_row.Given as goal

abbrev pub invariant-loop-i : goal.invariant-loop-i
invariant-loop-i l = l.text.items ≡ l.initial.text.items ++ spaced (map decimal (take l.i l.row))
