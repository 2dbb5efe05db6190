use Rattle.std.proofs.Common.{◌≡◌, inl, inr, ℕ, ◌≤◌, ap, subst, arith}
use Rattle.std.proofs.lemmas.Bool.{cases_lt}
use Rattle.map_nums.specs.Grids.{cells_in}
use Rattle.friction_spread.specs.Costs.{base_of}
use Rattle.friction_spread.specs.Flat.{costs_of}
use Rattle.friction_spread.proofs.Grounds.{base_outside}
use Rattle.friction_spread.proofs.Flats.{none_tried}
use Rattle.friction_spread.proofs.first.begin.Goals as goal

pub loop-at-init : goal.loop-at-init
loop-at-init c = record {
  filling = none_tried c.args.ground.now (costs_of c.args.ground.now c.args.costs.now) c.args.queue.now c.requires.none;
  begun = λ i l. absurd (omega (arith, l));
}

pub loop-at-preserved : goal.loop-at-preserved
loop-at-preserved c =
    let gr = c.args.ground.now in
    let ok = c.in_ok-begin_at.ensures in
    let P : ℕ → Type 0 = λ i. costs_of gr c.begin_at.new.costs i ≤ base_of gr i in
    record {
      filling = ok.filling;
      begun = λ i l. elim (cases_lt i c.loop-at.at) as (λ _. P i) [
        | inl m ↦ omega (arith, ok.falls i, c.loop-at.invariant.begun i m)
        | inr m ↦ (let q : c.loop-at.at ≡ i = omega (arith, l, m) in subst P q ok.begun)
      ];
    }

pub returns-clause-begun : goal.returns-clause-begun
returns-clause-begun c = λ i.
    let gr = c.args.ground.now in
    elim (cases_lt i c.loop-at.at) as (λ _. costs_of gr c.loop-at.costs i ≤ base_of gr i) [
      | inl l ↦ c.loop-at.invariant.begun i l
      | inr l ↦ omega (arith, c.loop-at.invariant.filling.most i, base_outside gr i (omega (arith, l, c.loop-at-test.false, c.cells-at-end.ensures.cells, ap cells_in c.extent.ensures.extent)))
    ]
