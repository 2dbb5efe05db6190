use Rattle.std.proofs.Common.{sym, ◌∙◌}
use Rattle.map_waves.proofs.Finding.{quiet_picks, all_are_found}
use Rattle.map_waves.proofs.parts.find_all.Goals as goal

pub returns-in_err-answers-clause-looks : goal.returns-in_err-answers-clause-looks
returns-in_err-answers-clause-looks g c = quiet_picks c.args.count _ _ _ c.run_by.ensures.tally

pub returns-clause-found : goal.returns-clause-found
returns-clause-found g c =
    all_are_found g.K.Maker.grounded g.K.Maker.part c.args.extent (g.K.Maker.means c.args.op.now) c.args.operands.now c.args.ground.now c.args.count c.in_ok-answers.answers.items c.all_found.result c.requires.ground (sym c.in_ok-answers.answers.ok.0 ∙ c.in_ok-answers.ensures.len) c.in_ok-answers.ensures.each
    c.all_found.ensures.count c.all_found.ensures.each

pub returns-clause-looks : goal.returns-clause-looks
returns-clause-looks g c = quiet_picks c.args.count _ _ _ c.run_by.ensures.tally
