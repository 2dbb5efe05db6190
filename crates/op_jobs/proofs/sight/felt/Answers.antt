use Rattle.std.proofs.Common.{◌≡◌, true, ◌∙◌, rules}
use Rattle.std.proofs.lemmas.Result.{IfOk-weaker}
use Rattle.op_jobs.proofs.Both.{two_of, one_size}
use Rattle.op_jobs.proofs.SightDamage.{felt_looks, felt_list}
use Rattle.op_jobs.proofs.sight.felt.Goals as goal

pub returns-in_err-set-clause-looks : goal.returns-in_err-set-clause-looks
returns-in_err-set-clause-looks g c =
    let there : c.args.there ≡ true = search rules in
    rw (there) (felt_looks c.args.reach c.requires.both (c.requires.before there) c.damaged.ensures.looks)

pub returns-clause-looks : goal.returns-clause-looks
returns-clause-looks g c =
    let there : c.args.there ≡ true = search rules in
    rw (there) (felt_looks c.args.reach c.requires.both (c.requires.before there) c.damaged.ensures.looks)

pub returns-clause-tiles : goal.returns-clause-tiles
returns-clause-tiles g c =
    let there : c.args.there ≡ true = search rules in
    let p = two_of c.args.operands.now c.requires.both.two in
    let list = felt_list c.args.reach c.args.extent c.args.operands.now c.in_ok-set.set (one_size p.1.1 c.requires.both) c.in_ok-set.ensures.damage in
    rw (there) (IfOk-weaker c.tiles_of.result _ _ (λ tiles h. h ∙ list) c.tiles_of.ensures)
