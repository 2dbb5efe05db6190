use Rattle.std.proofs.Common.{◌≡◌, ◌*◌, ◌^◌, ◌≤◌}
use Rattle.map_waves.specs.Plans.{changed_to, evaluated_to, worked_to}
use Rattle.map_waves.specs.Bases.{plan_of}
use Rattle.map_waves.proofs.counting.count_all.Given as goal

abbrev pub invariant-loop-one : goal.invariant-loop-one
invariant-loop-one g l = record {
  changed : l.counts.changed ≡ changed_to (plan_of g.K.Maker.means l.base l.steps) l.one-index;
  evaluated : l.counts.evaluated ≡ evaluated_to (plan_of g.K.Maker.means l.base l.steps) l.one-index;
  worked : l.counts.worked ≡ worked_to (plan_of g.K.Maker.means l.base l.steps) l.one-index;
  few_changed : l.counts.changed ≤ l.one-index * 2 ^ 32;
  few_evaluated : l.counts.evaluated ≤ l.one-index * 2 ^ 32;
  little_worked : l.counts.worked ≤ l.one-index * 2 ^ 32;
}
