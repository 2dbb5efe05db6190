use Rattle.std.proofs.Common.{length, sym, arith}
use Rattle.map_waves.specs.Plans.{change_at, damage_at, work_at}
use Rattle.map_waves.specs.Bases.{plan_of}
use Rattle.map_waves.proofs.Totals.{total_start, total_next}
use Rattle.map_waves.proofs.Phasing.{numbers_at}
use Rattle.map_waves.proofs.counting.count_all.Goals as goal

pub loop-one-init : goal.loop-one-init
loop-one-init g c =
    let plan = plan_of g.K.Maker.means c.args.base.now c.args.steps.now in
    record {
      changed = sym (total_start (λ i. length (change_at plan i).touched));
      evaluated = sym (total_start (λ i. length (damage_at plan i)));
      worked = sym (total_start (work_at plan));
      few_changed = omega arith;
      few_evaluated = omega arith;
      little_worked = omega arith;
    }

pub with-counts-requires-clause-worked : goal.with-counts-requires-clause-worked
with-counts-requires-clause-worked g c =
    let numbers = numbers_at g.K.Maker.means g.K.Maker.suits c.args.base.now c.args.steps.now c.args.prepared.now c.requires.prepared c.requires.all c.loop-one.one-index c.one-item.result (omega arith) c.one-item.is in
    omega (arith, numbers.little, c.loop-one.invariant.little_worked, c.requires.few, c.requires.all)

pub loop-one-preserved : goal.loop-one-preserved
loop-one-preserved g c =
    let plan = plan_of g.K.Maker.means c.args.base.now c.args.steps.now in
    let i = c.loop-one.one-index in
    let numbers = numbers_at g.K.Maker.means g.K.Maker.suits c.args.base.now c.args.steps.now c.args.prepared.now c.requires.prepared c.requires.all i c.one-item.result (omega arith) c.one-item.is in
    let in_all = c.loop-one.invariant in
    let with = c.with-counts.ensures in
    record {
      changed = omega (arith, total_next (λ i. length (change_at plan i).touched) i, numbers.changed, in_all.changed, with.changed);
      evaluated = omega (arith, total_next (λ i. length (damage_at plan i)) i, numbers.evaluated, in_all.evaluated, with.evaluated);
      worked = omega (arith, total_next (work_at plan) i, numbers.worked, in_all.worked, with.worked);
      few_changed = omega (arith, in_all.few_changed, with.changed, with.few_changed);
      few_evaluated = omega (arith, in_all.few_evaluated, with.evaluated, with.few_evaluated);
      little_worked = omega (arith, in_all.little_worked, with.worked, numbers.little);
    }
