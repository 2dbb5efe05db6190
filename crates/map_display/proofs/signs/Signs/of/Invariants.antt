use Rattle.std.proofs.Common.{◌≡◌, ℕ, ◌<◌, pos, List, length, get_or, Some}
use Rattle.map_defs.specs.Ops.{Name}
use Rattle.map_edits.specs.Marks.{Mark}
use Rattle.map_machine.specs.Signs.{sign_of}
use Rattle.map_display.specs.OfLayer.{AreOf}
use Rattle.map_display.proofs.signs.Signs.of.Given as goal

abbrev pub invariant-loop-number : goal.invariant-loop-number
invariant-loop-number l = record {
  count : length l.table.items ≡ l.number;
  value : l.value ≡ pos l.number;
  signs : (symbols : List Mark) (n : Name) → AreOf symbols n l.marks → (k d : ℕ) → k < l.number → get_or l.table.items k d ≡ sign_of symbols n (Some (pos k));
}
