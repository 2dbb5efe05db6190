use Rattle.std.proofs.Common.{refl, sym, subst}
use Rattle.map_defs.specs.Statements.{Written}
use Rattle.map_defs.specs.FlatNames.{Each}
use Rattle.map_defs.specs.MadeProcedures.{IsUndotted, written_names}
use Rattle.procedure_expand.specs.CalledProcedures.{IsPlain}
use Rattle.line_checks.proofs.procedures.flats.Goals as goal

pub expand-requires-clause-plain : goal.expand-requires-clause-plain
expand-requires-clause-plain c = subst IsPlain (sym c.in_ok-name.ensures.0) c.in_ok-name.ensures.1

pub expand-requires-clause-undotted : goal.expand-requires-clause-undotted
expand-requires-clause-undotted c =
    let P : Written → Type 0 = λ w. Each IsUndotted (written_names w) in
    subst P (sym c.in_ok-written.ensures) (refl, tt)
