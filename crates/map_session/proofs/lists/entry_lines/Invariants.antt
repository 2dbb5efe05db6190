use Rattle.std.proofs.Common.{◌≡◌, ◌≤◌, length, take}
use Rattle.std.specs.List.{flat_map}
use Rattle.map_machine.specs.Listing.{entry_line}
use Rattle.map_session.proofs.lists.entry_lines.Given as goal

abbrev pub invariant-loop-place : goal.invariant-loop-place
invariant-loop-place l = record { text : l.text.items ≡ flat_map entry_line (take l.place l.engine.names.entries); within : l.place ≤ length l.engine.names.entries }
