use Rattle.std.proofs.Common.{sym, ◌∙◌}
use Rattle.edit_plans.proofs.Positions.{added_at}
use Rattle.edit_plans.proofs.planning.source_at.Goals as goal

pub returns-in-Some-added : goal.returns-in-Some-added
returns-in-Some-added c = added_at c.args.sources.held.now.keys c.args.sources.added c.in-Some-added.added c.args.name.now c.len.result c.in-Some-added.is (sym c.get_index_of.ensures.index ∙ c.in-None.is) (sym c.eq.ensures ∙ c.if-eq.true) c.len.ensures.len
