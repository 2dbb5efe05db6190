-- A worked procedure may stand alone.
use Rattle.std.proofs.Common.{◌≡◌, ◌<◌, List, [], length, None, refl, sym, subst, arith}
use Rattle.map_defs.specs.Statements.{Procedure}
use Rattle.map_defs.specs.Expansion.{find_procedure}
use Rattle.map_defs.specs.Calls.{wrong_call}
use Rattle.map_defs.specs.MadeProcedures.{IsBody}
use Rattle.statement_parser.specs.declared.procedure.Procedure.{Procedure as Held}
use Rattle.statement_parser.specs.Procedures.{procedure_view}
use Rattle.procedure_expand.specs.CalledProcedures.{AreShort, most_procedures}
use Rattle.procedure_expand.specs.WorkedProcedures.{twice}
use Rattle.procedure_expand.proofs.WorkedBodies.{twice_body, twice_short}

-- what adding a procedure asks
pub record MayAdd (ps : List Procedure) (p : Procedure) : Type 0 where
  pub new : find_procedure ps p.name ≡ None
  pub right : wrong_call ps p.body ≡ None
  pub body : IsBody p.body
  pub short : AreShort p.body
  pub few : length ps < most_procedures

twice_may : MayAdd [] twice
unfolding wrong_call
twice_may = record { new = refl; right = refl; body = twice_body; short = twice_short; few = omega arith }

pub add_twice : (ps : List Procedure) (p : Held) → ps ≡ [] → procedure_view p ≡ twice → MayAdd ps (procedure_view p)
add_twice ps p same view =
    let P : List Procedure → Type 0 = λ l. MayAdd l (procedure_view p) in
    subst P (sym same) (subst (MayAdd []) (sym view) twice_may)
