use Rattle.std.proofs.Common.{sym, ◌∙◌}
use Rattle.friction_spread.specs.Costs.{values}
use Rattle.friction_spread.proofs.Seen.{seen_next}
use Rattle.friction_spread.proofs.looks.look_unless_marked.Goals as goal

pub returns-then-has-clause-queued : goal.returns-then-has-clause-queued
returns-then-has-clause-queued g c = c.requires.seen.queued c.args.at.at (sym c.has.ensures ∙ c.if-has.true)

pub returns-clause-seen : goal.returns-clause-seen
returns-clause-seen g c = seen_next c.args.ground.now (values c.args.ground.now.limit c.args.labels.now.cells) c.args.queue.now c.look.new.queue c.args.seen.now c.add.new.self c.args.at.at c.in_ok-look.ensures.kept c.in_ok-look.ensures.queued c.in_ok-add.ensures.ok c.requires.seen
