use Rattle.std.proofs.Common.{subst}
use Rattle.std.specs.Option.{option_copied}
use Rattle.op_jobs.specs.Repairs.{IsRepairOf}
use Rattle.op_jobs.specs.declared.own.Lone.{Lone}
use Rattle.op_jobs.specs.declared.own.Repair.TheVariants.{Alone}
use Rattle.op_jobs.proofs.Repairing.{flow_is, spread_is, region_is, right_to, answer_from, rises_from}
use Rattle.op_jobs.proofs.WholeLayers.{flow_before, spread_before, regions_before}
use Rattle.op_jobs.proofs.whole.repair_whole.Goals as goal

pub repair_flow-requires-clause-before : goal.repair_flow-requires-clause-before
repair_flow-requires-clause-before g c =
    let given = c.requires.right in
    let is = flow_is given.0 (subst (λ (l : Lone). IsRepairOf given.0 (Alone l)) c.in-Flow.is given.1) given.2.formed in
    flow_before c.both_of.result.0.now c.both_of.result.1.now is.0 is.1 (option_copied c.args.old) (right_to c.args.operands.now _ _ _ c.both_of.ensures is.2 (option_copied c.args.old) given.3)

pub returns-in-Flow-clause-answer : goal.returns-in-Flow-clause-answer
returns-in-Flow-clause-answer g c = λ op of ranges.
    let is = flow_is op (subst (λ (l : Lone). IsRepairOf op (Alone l)) c.in-Flow.is of) ranges in
    answer_from c.args.operands.now _ _ _ c.both_of.ensures is.2 _ _ (c.repair_flow.ensures.answer is.0 is.1)

pub returns-in-Flow-clause-tally : goal.returns-in-Flow-clause-tally
returns-in-Flow-clause-tally g c = λ op of ranges.
    let is = flow_is op (subst (λ (l : Lone). IsRepairOf op (Alone l)) c.in-Flow.is of) ranges in
    rises_from c.args.operands.now _ _ _ c.both_of.ensures is.2 _ _ _ (c.repair_flow.ensures.tally is.0 is.1)

pub repair_spread-requires-clause-before : goal.repair_spread-requires-clause-before
repair_spread-requires-clause-before g c =
    let given = c.requires.right in
    let is = spread_is given.0 c.in-Spread.limit (subst (λ (l : Lone). IsRepairOf given.0 (Alone l)) c.in-Spread.is given.1) given.2.formed in
    spread_before c.both_of-in-Spread.result.0.now c.both_of-in-Spread.result.1.now _ is.0 is.1 (option_copied c.args.old) (right_to c.args.operands.now _ _ _ c.both_of-in-Spread.ensures is.2 (option_copied c.args.old) given.3)

pub returns-in-Spread-clause-answer : goal.returns-in-Spread-clause-answer
returns-in-Spread-clause-answer g c = λ op of ranges.
    let is = spread_is op c.in-Spread.limit (subst (λ (l : Lone). IsRepairOf op (Alone l)) c.in-Spread.is of) ranges in
    answer_from c.args.operands.now _ _ _ c.both_of-in-Spread.ensures is.2 _ _ (c.repair_spread.ensures.answer is.0 is.1)

pub returns-in-Spread-clause-tally : goal.returns-in-Spread-clause-tally
returns-in-Spread-clause-tally g c = λ op of ranges.
    let is = spread_is op c.in-Spread.limit (subst (λ (l : Lone). IsRepairOf op (Alone l)) c.in-Spread.is of) ranges in
    rises_from c.args.operands.now _ _ _ c.both_of-in-Spread.ensures is.2 _ _ _ (c.repair_spread.ensures.tally is.0 is.1)

pub repair_regions-requires-clause-before : goal.repair_regions-requires-clause-before
repair_regions-requires-clause-before g c =
    let given = c.requires.right in
    let is = region_is given.0 (subst (λ (l : Lone). IsRepairOf given.0 (Alone l)) c.in-Regions.is given.1) given.2.formed in
    regions_before c.only_of.result.now is.0 (option_copied c.args.old) (right_to c.args.operands.now _ _ _ c.only_of.ensures is.1 (option_copied c.args.old) given.3)

pub returns-in-Regions-clause-answer : goal.returns-in-Regions-clause-answer
returns-in-Regions-clause-answer g c = λ op of ranges.
    let is = region_is op (subst (λ (l : Lone). IsRepairOf op (Alone l)) c.in-Regions.is of) ranges in
    answer_from c.args.operands.now _ _ _ c.only_of.ensures is.1 _ _ (c.repair_regions.ensures.answer is.0)

pub returns-in-Regions-clause-tally : goal.returns-in-Regions-clause-tally
returns-in-Regions-clause-tally g c = λ op of ranges.
    let is = region_is op (subst (λ (l : Lone). IsRepairOf op (Alone l)) c.in-Regions.is of) ranges in
    rises_from c.args.operands.now _ _ _ c.only_of.ensures is.1 _ _ _ (c.repair_regions.ensures.tally is.0)
