use Rattle.std.proofs.Common.{sym, ap, ◌∙◌}
use Rattle.map_machine.specs.LayerAnswers.{lacking, look_in}
use Rattle.what_if.proofs.looks.look.Goals as goal

pub returns-in-Ok-clause-seen : goal.returns-in-Ok-clause-seen
returns-in-Ok-clause-seen g c =
    let names = c.args.engine.now.names in
    c.cell_of.ensures.seen (lacking names c.args.name.now) ∙ ap (λ v. look_in v (lacking names c.args.name.now) c.args.r c.args.c) (sym c.in-Ok.ensures.tells.0)
