use Rattle.std.proofs.Common.{◌≡◌, ◌<◌, length, None, Some, slice_get, refl, ap, subst, ◌∙◌, arith}
use Rattle.std.proofs.lemmas.Option.{slice_get_read}
use Rattle.layer_tiles.specs.Changes.{ChangeState, constant_change}
use Rattle.map_waves.specs.Plans.{operand_in, changes_to}
use Rattle.map_waves.specs.Bases.{IsRef, plan_of}
use Rattle.map_waves.specs.declared.plans.Ref.{Ref}
use Rattle.map_waves.proofs.Running.{changes_at}
use Rattle.map_waves.proofs.Making.{quiet_step}
use Rattle.map_waves.proofs.skips.has_changed.Goals as goal

pub returns-in-Statement : goal.returns-in-Statement
returns-in-Statement g c quiet k h =
    let base = c.args.base.now in
    let own = c.in-Statement.own in
    let plan = plan_of g.K.Maker.means base c.args.steps.now in
    let within : own < length c.args.prepared.now = subst (IsRef base (length c.args.prepared.now)) c.in-Statement.is c.requires.within in
    let there : slice_get c.args.prepared.now own ≡ Some c.index-prepared-own.result = slice_get_read c.args.prepared.now (length c.args.prepared.now) own c.index-prepared-own.result refl within c.index-prepared-own.is in
    ap (λ (r : Ref). (operand_in plan (changes_to plan k) r).touched) c.in-Statement.is
    ∙ ap (λ (d : ChangeState). d.touched) (changes_at plan own k (constant_change base.extent None) (omega arith))
    ∙ quiet_step g.K.Maker.means g.K.Maker.suits base c.args.steps.now c.args.prepared.now c.requires.prepared c.requires.few own c.index-prepared-own.result there (c.has_tiles.ensures quiet)
