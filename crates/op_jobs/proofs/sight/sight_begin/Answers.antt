use Rattle.std.proofs.Common.{◌∙◌, sym, rules}
use Rattle.std.specs.Prelude.{is_some}
use Rattle.op_jobs.proofs.SightDamage.{damage_felt, begin_one, begin_both}
use Rattle.op_jobs.proofs.sight.sight_begin.Goals as goal

pub returns-in_err-viewers-clause-halt : goal.returns-in_err-viewers-clause-halt
returns-in_err-viewers-clause-halt g c = λ sight t u. let h = c.in_err-viewers.ensures.halt sight t u in let e = c.from_residual.ensures in search (rules, h)

pub returns-in_err-viewers-clause-looks : goal.returns-in_err-viewers-clause-looks
returns-in_err-viewers-clause-looks g c = λ sight t u was e f.
    begin_one sight t u c.args.extent was c.args.operands.now c.args.reach (is_some c.args.kept) e f (c.viewers_after.ensures.looks c.args.reach)

pub returns-in-Ok-clause-damage : goal.returns-in-Ok-clause-damage
returns-in-Ok-clause-damage g c = λ sight t u was e f.
    rw (c.is_some.ensures) at c.in-Ok.ensures.tiles ∙ sym (damage_felt sight t u c.args.extent was c.args.operands.now c.args.reach (is_some c.args.kept) e f)

pub returns-in-Ok-clause-looks : goal.returns-in-Ok-clause-looks
returns-in-Ok-clause-looks g c = λ sight t u was e f.
    begin_both sight t u c.args.extent was c.args.operands.now c.args.reach (is_some c.args.kept) e f (c.viewers_after.ensures.looks c.args.reach) (rw (c.is_some.ensures) at c.felt.ensures.looks)

pub returns-in-Err-clause-looks : goal.returns-in-Err-clause-looks
returns-in-Err-clause-looks g c = λ sight t u was e f.
    begin_both sight t u c.args.extent was c.args.operands.now c.args.reach (is_some c.args.kept) e f (c.viewers_after.ensures.looks c.args.reach) (rw (c.is_some.ensures) at c.felt.ensures.looks)
