use Rattle.std.proofs.Common.{◌≡◌, ◌≤◌, length, take}
use Rattle.std.specs.List.{flat_map}
use Rattle.map_session.specs.Lines.{procedure_line}
use Rattle.map_session.proofs.lists.procedure_lines.Given as goal

abbrev pub invariant-loop-place : goal.invariant-loop-place
invariant-loop-place l = record { text : l.text.items ≡ flat_map procedure_line (take l.place l.engine.procedures); within : l.place ≤ length l.engine.procedures }
