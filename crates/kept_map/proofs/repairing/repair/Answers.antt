use Rattle.std.proofs.Common.{◌≡◌, length, ap, ◌∙◌, arith}
use Rattle.statement_parser.specs.Views.{op_view}
use Rattle.map_waves.specs.Plans.{changed_to, evaluated_to, worked_to}
use Rattle.map_waves.specs.Bases.{plan_of}
use Rattle.map_waves.specs.Phases.{IsStop}
use Rattle.map_waves.proofs.Phasing.{prepared_faultless}
use Rattle.op_jobs.specs.Beside.{suits}
use Rattle.kept_map.proofs.Allowed.{told_is, reached_by}
use Rattle.kept_map.proofs.repairing.repair.Goals as goal

pub repair_all-requires-clause-planned : goal.repair_all-requires-clause-planned
repair_all-requires-clause-planned g c κs within = rw c.as_slice.ensures.value c.requires.planned

pub repair_all-requires-clause-right : goal.repair_all-requires-clause-right
repair_all-requires-clause-right g c κs within = rw c.as_slice.ensures.value c.requires.right

pub count_all-counts-requires-clause-prepared : goal.count_all-counts-requires-clause-prepared
count_all-counts-requires-clause-prepared g c κs = rw (c.as_slice-in-Ok.ensures.value, c.as_slice-in-Ok-2.ensures.value) (rw c.as_slice.ensures.value at c.in-Ok.ensures.all.1)

pub returns-in-Ok : goal.returns-in-Ok
returns-in-Ok g c =
    let base = c.args.base.now in
    let items = c.args.planned.now.steps.items in
    let same = c.as_slice.ensures.value in
    let counted = c.as_slice-in-Ok.ensures.value in
    let prepared = rw same at c.in-Ok.ensures.all.1 in
    let slice : length c.as_slice.result.now ≡ length items = ap length same in
    let count : length c.in-Ok.made.items ≡ length items = omega (arith, c.in-Ok.ensures.all.0, slice) in
    record {
      count = count;
      made = prepared;
      changed = c.count_all-counts.ensures.changed ∙ ap (λ xs. changed_to (plan_of op_view base xs) (length xs)) counted;
      evaluated = c.count_all-counts.ensures.evaluated ∙ ap (λ xs. evaluated_to (plan_of op_view base xs) (length xs)) counted;
      worked = c.count_all-counts.ensures.worked ∙ ap (λ xs. worked_to (plan_of op_view base xs) (length xs)) counted;
      faultless = prepared_faultless op_view suits base items 0 (length items) c.in-Ok.made.items prepared (omega (arith, count)) (omega arith);
      halted = tt;
      tally = rw same at c.in-Ok.ensures.tally;
    }

pub returns-in-Err : goal.returns-in-Err
returns-in-Err g c =
    let base = c.args.base.now in
    let items = c.args.planned.now.steps.items in
    let names = c.args.planned.now.names.keys in
    let plan = plan_of op_view base items in
    let same = c.as_slice.ensures.value in
    let stop : IsStop plan 0 (length names) c.in-Err.stop = rw c.requires.named (rw same at c.in-Err.ensures.all) in
    let phase = rw same at c.in-Err.ensures.tally in
    record {
      count = tt;
      made = tt;
      changed = tt;
      evaluated = tt;
      worked = tt;
      faultless = tt;
      halted = told_is base.extent plan names c.in-Err.stop c.told.result c.told.ensures stop;
      tally = (phase.0, reached_by base.extent plan names items phase.0 c.in-Err.stop c.told.result c.told.ensures stop phase.1, phase.2);
    }
