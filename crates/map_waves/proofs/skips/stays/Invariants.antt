use Rattle.std.proofs.Common.{◌≡◌, ℕ, ◌≤◌, length, [], take}
use Rattle.std.specs.List.{All}
use Rattle.map_waves.specs.Plans.{operand_in, changes_to}
use Rattle.map_waves.specs.Bases.{plan_of}
use Rattle.map_waves.specs.declared.plans.Ref.{Ref}
use Rattle.map_waves.proofs.skips.stays.Given as goal

abbrev pub invariant-loop-place : goal.invariant-loop-place
invariant-loop-place g l = record {
  same : (k : ℕ) → length l.prepared ≤ k → All (λ (r : Ref). (operand_in (plan_of g.K.Maker.means l.base l.steps) (changes_to (plan_of g.K.Maker.means l.base l.steps) k) r).touched ≡ []) (take l.place-index l.step.refs.items);
}
