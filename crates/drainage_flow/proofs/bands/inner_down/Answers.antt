use Rattle.std.proofs.Common.{sym, ◌∙◌}
use Rattle.drainage_flow.proofs.Steepest.{downstream_none, downstream_some}
use Rattle.drainage_flow.proofs.bands.inner_down.Goals as goal

pub returns-in-Some : goal.returns-in-Some
returns-in-Some c = λ s surface i h leads. sym (leads.each c.in-Some.k c.in-Some.ensures.few) ∙ downstream_some s surface i c.in-Some.k (c.in-Some.ensures.winner s surface i h) c.in-Some.ensures.few

pub returns-in-None : goal.returns-in-None
returns-in-None c = λ s surface i h leads. downstream_none s surface i (c.in-None.ensures.winner s surface i h)
