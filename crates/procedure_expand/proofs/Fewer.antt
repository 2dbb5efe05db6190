-- A procedure less.
use Rattle.std.proofs.Common.{◌≡◌, List, [], ◌∷◌, ◌++◌, ap, subst, ◌∙◌, arith}
use Rattle.std.proofs.lemmas.List.{length-append, map-append}
use Rattle.map_defs.specs.Statements.{Procedure}
use Rattle.map_defs.specs.MadeProcedures.{AreMadeAfter}
use Rattle.statement_parser.specs.declared.procedure.Procedure.{Procedure as Held}
use Rattle.statement_parser.specs.Procedures.{procedure_view, procedures_view}
use Rattle.procedure_expand.specs.CalledProcedures.{HaveShortNames, AreProcs}

made_front : (before ps qs : List Procedure) → AreMadeAfter before (ps ++ qs) → AreMadeAfter before ps
made_front before [] qs h = tt
made_front before (p ∷ ps) qs h = (h.0, h.1, h.2, made_front (before ++ p ∷ []) ps qs h.3)

short_front : (ps qs : List Procedure) → HaveShortNames (ps ++ qs) → HaveShortNames ps
short_front [] qs h = tt
short_front (p ∷ ps) qs h = (h.0, short_front ps qs h.1)

procs_front : (ps qs : List Procedure) → AreProcs (ps ++ qs) → AreProcs ps
procs_front ps qs h = let few = h.few in record { made = made_front [] ps qs h.made; short = short_front ps qs h.short; few = omega (arith, length-append ps qs) }

-- those that are left may still be called
pub procs_left : (held left gone : List Held) → held ≡ left ++ gone → AreProcs (procedures_view held) → AreProcs (procedures_view left)
procs_left held left gone e h = procs_front (procedures_view left) (procedures_view gone) (subst AreProcs (ap procedures_view e ∙ map-append procedure_view left gone) h)
