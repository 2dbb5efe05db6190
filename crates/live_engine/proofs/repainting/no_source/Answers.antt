use Rattle.std.proofs.Common.{refl, sym, ◌∙◌}
use Rattle.kept_map.specs.Maps.{seen}
use Rattle.live_engine.proofs.Accepting.{accept_refused}
use Rattle.live_engine.proofs.Unpainted.{paint_unknown, paint_derived}
use Rattle.live_engine.proofs.repainting.no_source.Goals as goal

pub returns-then-has : goal.returns-then-has
returns-then-has c = λ r cell.
    let m = c.args.map.now in
    (accept_refused (seen m) _ _ (paint_derived m c.requires.kept c.args.name r cell c.requires.none _ refl (sym c.has.ensures ∙ c.if-has.true)), refl)

pub returns-else-has : goal.returns-else-has
returns-else-has c = λ r cell.
    let m = c.args.map.now in
    (accept_refused (seen m) _ _ (paint_unknown m c.requires.kept c.args.name r cell (sym c.has.ensures ∙ c.if-has.false)), refl)
