use Rattle.kept_map.specs.Lowering.{IsLowered}
use Rattle.kept_map.proofs.Ready.{AreChangedTo}
use Rattle.kept_map.proofs.sources.lower_sources.Given as goal

abbrev pub invariant-loop-at : goal.invariant-loop-at
invariant-loop-at l = AreChangedTo (λ k. IsLowered l.fn.place) l.at l.fn.steps l.steps
