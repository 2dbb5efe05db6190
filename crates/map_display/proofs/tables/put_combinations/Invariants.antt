use Rattle.std.proofs.Common.{◌≡◌, ◌++◌, take}
use Rattle.std.specs.List.{flat_map}
use Rattle.map_display.specs.Lines.{combination_line}
use Rattle.map_display.proofs.tables.put_combinations.Given as goal

abbrev pub invariant-loop-combination : goal.invariant-loop-combination
invariant-loop-combination l = l.text.items ≡ l.initial.text.items ++ flat_map combination_line (take l.combination-index l.all)
