use Rattle.std.proofs.Common.{sym, ◌∙◌, ap, subst, List}
use Rattle.zonal_totals.specs.declared.entries.Entry.{Entry}
use Rattle.zonal_totals.specs.Merges.{Fits}
use Rattle.zonal_totals.specs.Sections.{joined}
use Rattle.zonal_totals.proofs.registers.Register.after.Goals as goal

pub renewed-requires-clause-fits : goal.renewed-requires-clause-fits
renewed-requires-clause-fits c = subst (λ (l : List Entry). Fits l c.args.steps.now) (sym (ap joined c.deref.ensures.value ∙ c.self.view_is)) c.requires.fits
