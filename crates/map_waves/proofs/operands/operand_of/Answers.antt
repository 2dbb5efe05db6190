use Rattle.std.proofs.Common.{◌<◌, length, get_or, None, refl, sym, ap, subst, ◌∙◌, arith}
use Rattle.std.proofs.lemmas.Option.{slice_get-get_or, slice_get_read}
use Rattle.layer_tiles.specs.Changes.{constant_change}
use Rattle.map_waves.specs.Plans.{operand_in, changes_to}
use Rattle.map_waves.specs.Bases.{IsRef, plan_of}
use Rattle.map_waves.proofs.Running.{changes_at}
use Rattle.map_waves.proofs.Reading.{prepared_at}
use Rattle.map_waves.proofs.operands.operand_of.Goals as goal

pub step_change-requires : goal.step_change-requires
step_change-requires g c =
    let base = c.args.base.now in
    let own = c.in-Statement.own in
    let within : own < length c.args.prepared.now = subst (IsRef base (length c.args.prepared.now)) c.in-Statement.is c.requires.within in
    let few = c.requires.few in
    let x = get_or c.args.steps.now own c.index-steps-own.result in
    (prepared_at g.K.Maker.means g.K.Maker.suits base c.args.steps.now c.args.prepared.now c.requires.prepared own x c.index-prepared-own.result
    (slice_get-get_or c.args.steps.now own c.index-steps-own.result (omega arith))
    (slice_get_read c.args.prepared.now (length c.args.prepared.now) own c.index-prepared-own.result refl within c.index-prepared-own.is)).ready

pub returns-in-Statement : goal.returns-in-Statement
returns-in-Statement g c k h =
    let base = c.args.base.now in
    let own = c.in-Statement.own in
    let plan = plan_of g.K.Maker.means base c.args.steps.now in
    let within : own < length c.args.prepared.now = subst (IsRef base (length c.args.prepared.now)) c.in-Statement.is c.requires.within in
    let few = c.requires.few in
    let x = get_or c.args.steps.now own c.index-steps-own.result in
    let made = prepared_at g.K.Maker.means g.K.Maker.suits base c.args.steps.now c.args.prepared.now c.requires.prepared own x c.index-prepared-own.result
    (slice_get-get_or c.args.steps.now own c.index-steps-own.result (omega arith))
    (slice_get_read c.args.prepared.now (length c.args.prepared.now) own c.index-prepared-own.result refl within c.index-prepared-own.is) in
    c.step_change.ensures ∙ made.change ∙ sym (changes_at plan own k (constant_change base.extent None) (omega arith)) ∙ ap (operand_in plan (changes_to plan k)) (sym c.in-Statement.is)
