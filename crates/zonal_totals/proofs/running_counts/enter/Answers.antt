use Rattle.std.proofs.Common.{◌<◌, length, arith}
use Rattle.std.proofs.lemmas.Result.{IfOk-weaker}
use Rattle.zonal_totals.proofs.Running.{behind_net, behind_weight, slot_fits, same_net, same_weight, other_net, other_weight}
use Rattle.zonal_totals.proofs.running_counts.enter.Goals as goal

pub returns-then-is_empty-clause-net : goal.returns-then-is_empty-clause-net
returns-then-is_empty-clause-net c =
    let now = c.args.counts.now in
    IfOk-weaker c.put.result _ _ (λ _ e. behind_net now.recent.items now.steps.items c.in-Some.pair c.args.pair.now c.in-Some.is _ e) c.put.ensures

pub returns-then-is_empty-clause-weight : goal.returns-then-is_empty-clause-weight
returns-then-is_empty-clause-weight c =
    let now = c.args.counts.now in
    IfOk-weaker c.put.result _ _ (λ _ e. behind_weight now.recent.items now.steps.items c.in-Some.pair c.args.pair.now c.in-Some.is _ e) c.put.ensures

pub together-requires : goal.together-requires
together-requires c =
    let now = c.args.counts.now in
    let there : c.slot_of-slot.result < length now.recent.items = omega (arith, c.slot_of-slot.ensures, c.len.ensures) in
    slot_fits now.recent.items now.steps.items c.in-Some.pair c.args.pair.now c.in-Some.is c.slot_of-slot.result c.index.result.now there c.index.ensures c.requires

pub returns-then-is-clause-net : goal.returns-then-is-clause-net
returns-then-is-clause-net c =
    let now = c.args.counts.now in
    let there : c.slot_of-slot.result < length now.recent.items = omega (arith, c.slot_of-slot.ensures, c.len.ensures) in
    same_net now.recent.items now.steps.items c.in-Some.pair c.args.pair.now c.in-Some.is c.slot_of-slot.result c.index.result.now there c.index.ensures (c.is.ensures.0 c.if-is.true) c.together.result c.together.ensures

pub returns-then-is-clause-weight : goal.returns-then-is-clause-weight
returns-then-is-clause-weight c =
    let now = c.args.counts.now in
    let there : c.slot_of-slot.result < length now.recent.items = omega (arith, c.slot_of-slot.ensures, c.len.ensures) in
    same_weight now.recent.items now.steps.items c.in-Some.pair c.args.pair.now c.in-Some.is c.slot_of-slot.result c.index.result.now there c.index.ensures c.together.result c.together.ensures

pub returns-clause-net : goal.returns-clause-net
returns-clause-net c =
    let now = c.args.counts.now in
    let there : c.slot_of-slot.result < length now.recent.items = omega (arith, c.slot_of-slot.ensures, c.len.ensures) in
    IfOk-weaker c.keep.result _ _ (λ _ e. other_net now.recent.items now.steps.items c.in-Some.pair c.args.pair.now c.in-Some.is c.slot_of-slot.result c.index.result.now there c.index.ensures _ e) c.keep.ensures

pub returns-clause-weight : goal.returns-clause-weight
returns-clause-weight c =
    let now = c.args.counts.now in
    let there : c.slot_of-slot.result < length now.recent.items = omega (arith, c.slot_of-slot.ensures, c.len.ensures) in
    IfOk-weaker c.keep.result _ _ (λ _ e. other_weight now.recent.items now.steps.items c.in-Some.pair c.args.pair.now c.in-Some.is c.slot_of-slot.result c.index.result.now there c.index.ensures _ e) c.keep.ensures
