use Rattle.drainage_flow.specs.Pouring.{AddsWaits}
use Rattle.drainage_flow.proofs.pouring.add_waits.Given as goal

abbrev pub invariant-loop-at : goal.invariant-loop-at
invariant-loop-at l = AddsWaits l.downs l.at l.first l.initial.waits l.waits
