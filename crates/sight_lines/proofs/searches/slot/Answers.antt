use Rattle.std.proofs.Common.{◌+◌, arith}
use Rattle.sight_lines.proofs.Looking.{looks_all, looks_touched, looks_within}
use Rattle.sight_lines.proofs.searches.slot.Goals as goal

pub returns-then-all-clause-looks : goal.returns-then-all-clause-looks
returns-then-all-clause-looks g c first r = looks_all c.args.all c.args.of.now.size c.args.of.now.touched c.args.tile first _ _ c.extent-extent.ensures.size c.requires.within c.if-all.true c.window.ensures.looks r

pub returns-then-touched-clause-looks : goal.returns-then-touched-clause-looks
returns-then-touched-clause-looks g c first r = looks_touched c.args.all c.args.of.now.size c.args.of.now.touched c.args.tile first _ _ c.extent-extent.ensures.size c.requires.within c.if-all.false (c.touched.ensures.0 c.if-touched.true) c.window-then-touched.ensures.looks r

pub returns-clause-looks : goal.returns-clause-looks
returns-clause-looks g c first r = looks_within c.args.all c.args.of.now.touched c.args.tile (c.args.tile + 1) first _ (omega arith) r
