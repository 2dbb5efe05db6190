use Rattle.std.proofs.Common.{◌≡◌, take, length}
use Rattle.kept_map.specs.Copies.{items_view}
use Rattle.kept_map.proofs.copying.copy_items.Given as goal

abbrev pub invariant-loop-name : goal.invariant-loop-name
invariant-loop-name l = items_view l.copies.entries ≡ items_view (take (length l.yielded) l.items.entries)
