use Rattle.std.proofs.Common.{◌≡◌, ◌++◌, List, ℤ, length, drop}
use Rattle.drainage_flow.specs.FlowBands.{all_flows}
use Rattle.drainage_flow.specs.Whole.{AreInRange}
use Rattle.drainage_flow.proofs.whole.first_wide.Given as goal

-- the bands before this one have some flows, all in range
abbrev pub invariant-loop-band : goal.invariant-loop-band
invariant-loop-band l = (xs : List ℤ) × (l.first ≡ length xs) × AreInRange xs × (xs ++ all_flows (drop l.band-index l.bands) ≡ all_flows l.bands)
