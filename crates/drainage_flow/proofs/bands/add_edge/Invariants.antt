use Rattle.drainage_flow.specs.Bands.{AddsDowns}
use Rattle.drainage_flow.proofs.bands.add_edge.Given as goal

abbrev pub invariant-loop-k : goal.invariant-loop-k
invariant-loop-k l = AddsDowns l.extent l.surface l.at l.k l.initial.downs.items l.downs.items
