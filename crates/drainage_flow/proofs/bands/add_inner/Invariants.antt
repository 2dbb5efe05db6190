use Rattle.std.proofs.Common.{◌+◌, ◌*◌}
use Rattle.drainage_flow.specs.Bands.{AddsDowns}
use Rattle.drainage_flow.proofs.bands.add_inner.Given as goal

abbrev pub invariant-loop-left : goal.invariant-loop-left
invariant-loop-left l = AddsDowns l.fn.extent l.surface (l.row * l.fn.extent.columns + 1) l.left l.initial.downs.items l.downs.items
