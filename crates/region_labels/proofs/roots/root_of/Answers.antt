use Rattle.std.proofs.Common.{◌≡◌, sym, ◌∙◌, ap, arith}
use Rattle.region_labels.specs.Roots.{told_in, root_in}
use Rattle.region_labels.proofs.Rooting.{root_told, root_top}
use Rattle.region_labels.proofs.Tying.{told_least}
use Rattle.region_labels.proofs.roots.root_of.Goals as goal

pub loop-next-preserved : goal.loop-next-preserved
loop-next-preserved c =
    let labels = c.args.labels.now in
    record {
      same = ap (root_in labels) c.loop-next.invariant.told ∙ root_told (told_in labels) (told_least labels c.requires.back) c.loop-next.root ∙ c.loop-next.invariant.same;
      told = c.told-next-in-loop-next.ensures.told;
      least = omega (arith, c.loop-next-test.true, c.loop-next.invariant.least);
    }

pub returns-clause-root : goal.returns-clause-root
returns-clause-root c =
    let labels = c.args.labels.now in
    let back = told_least labels c.requires.back in
    let last : told_in labels c.loop-next.root ≡ c.loop-next.root = omega (arith, c.loop-next.invariant.told, c.loop-next-test.false, back c.loop-next.root) in
    sym (root_top (told_in labels) back c.loop-next.root last) ∙ c.loop-next.invariant.same
