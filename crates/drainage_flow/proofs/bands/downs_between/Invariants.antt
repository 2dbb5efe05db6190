use Rattle.std.proofs.Common.{◌*◌, ◌-◌, []}
use Rattle.drainage_flow.specs.Bands.{AddsDowns}
use Rattle.drainage_flow.proofs.bands.downs_between.Given as goal

abbrev pub invariant-loop-row : goal.invariant-loop-row
invariant-loop-row l = AddsDowns l.extent l.surface (l.first * l.extent.columns) ((l.row - l.first) * l.extent.columns) [] l.downs.items
