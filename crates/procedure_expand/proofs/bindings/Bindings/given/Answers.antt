use Rattle.std.proofs.Common.{length, ◌<◌, arith}
use Rattle.std.proofs.lemmas.Grind.{common_steps}
use Rattle.procedure_expand.proofs.Giving.{given_more}
use Rattle.procedure_expand.proofs.bindings.Bindings.given.Goals as goal

pub loop-at-preserved : goal.loop-at-preserved
loop-at-preserved c =
    let h : c.loop-at.at < length c.args.takes.now = omega arith in
    let k : c.loop-at.at < length c.args.given.now = omega arith in
    let more = given_more c.args.takes.now c.args.given.now c.loop-at.at c.index-takes-at.result c.index-given-at.result h k in
    grind (arith, common_steps, more)
