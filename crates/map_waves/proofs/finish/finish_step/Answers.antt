use Rattle.std.proofs.Common.{◌≡◌, Some, sym, ap, ◌∙◌}
use Rattle.map_waves.specs.Keeping.{kept_now}
use Rattle.map_waves.specs.Bases.{kept_by}
use Rattle.map_waves.proofs.Making.{kept_layer}
use Rattle.map_waves.proofs.Gathering.{repaired_written, made_left, made_new, made_narrowed, narrowed_rises}
use Rattle.map_waves.proofs.finish.finish_step.Goals as goal

pub returns-then-not-step-clause-made : goal.returns-then-not-step-clause-made
returns-then-not-step-clause-made g c =
    made_left g.K.Maker.means g.K.Maker.suits c.args.base.now c.args.step.now c.args.jobs c.in_ok-made.made c.requires.over c.in_ok-made.ensures c.requires.base c.requires.faultless c.if-not-step.true

pub leave_out_same-requires : goal.leave_out_same-requires
leave_out_same-requires g c =
    let base = c.args.base.now in
    let there : kept_by base c.args.step.now.kept ≡ Some c.in-Some.kept.now = sym c.kept_of.ensures ∙ ap kept_now c.in-Some.is in
    let repaired = repaired_written g.K.Maker.means g.K.Maker.suits base c.args.step.now c.args.jobs c.in_ok-made.made c.requires.over c.in_ok-made.ensures c.if-not-step.false in
    (kept_layer base c.requires.base c.args.step.now.kept c.in-Some.kept.now there).0 ∙ sym repaired.size

pub returns-in-None-clause-made : goal.returns-in-None-clause-made
returns-in-None-clause-made g c =
    made_new g.K.Maker.means g.K.Maker.suits c.args.base.now c.args.step.now c.args.jobs c.in_ok-made.made c.requires.over c.in_ok-made.ensures c.requires.base c.requires.faultless c.if-not-step.false
    (sym c.kept_of.ensures ∙ ap kept_now c.in-None.is)

pub returns-in-Some-clause-made : goal.returns-in-Some-clause-made
returns-in-Some-clause-made g c =
    made_narrowed g.K.Maker.means g.K.Maker.suits c.args.base.now c.args.step.now c.args.jobs c.in_ok-made.made c.requires.over c.in_ok-made.ensures c.requires.base c.requires.faultless c.if-not-step.false
    c.in-Some.kept.now (sym c.kept_of.ensures ∙ ap kept_now c.in-Some.is) c.leave_out_same.ensures.patch c.leave_out_same.new.made c.leave_out_same.ensures.made

pub returns-in-Some-clause-tally : goal.returns-in-Some-clause-tally
returns-in-Some-clause-tally g c =
    narrowed_rises g.K.Maker.means g.K.Maker.suits c.args.base.now c.args.step.now c.args.jobs c.in_ok-made.made c.requires.over c.in_ok-made.ensures c.requires.base c.requires.faultless c.if-not-step.false
    _ _ c.leave_out_same.ensures.looks
