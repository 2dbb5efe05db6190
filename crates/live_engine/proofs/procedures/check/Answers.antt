use Rattle.std.proofs.Common.{◌≡◌, ◌+◌, List, length, None, Err, refl, sym, ap, ◌∙◌, subst, arith}
use Rattle.std.proofs.lemmas.Bool.{lt-ltb}
use Rattle.map_defs.specs.Statements as meant
use Rattle.map_defs.specs.Expansion.{find_procedure}
use Rattle.map_defs.specs.Calls.{wrong_call}
use Rattle.statement_parser.specs.Procedures.{procedure_view}
use Rattle.map_edits.specs.WholeStates.{WholeState}
use Rattle.map_edits.specs.WholeEdits.{define_procedure as defines}
use Rattle.procedure_expand.specs.Answers.{Finds}
use Rattle.procedure_expand.specs.declared.refusal.ExpandRefusal.{ExpandRefusal}
use Rattle.procedure_expand.specs.declared.refusal.ExpandRefusal.TheVariants.{Unknown, Count, Limit, NoMemory}
use Rattle.live_engine.specs.Accepts.{Refuses}
use Rattle.live_engine.specs.Expanding.{not_expanded}
use Rattle.live_engine.specs.declared.edits.Refusal.{Refusal}
use Rattle.live_engine.proofs.Accepting.{accept_refused}
use Rattle.live_engine.proofs.procedures.check.Goals as goal

module _ (s : WholeState) (p : meant.Procedure) (new : find_procedure s.procedures p.name ≡ None) where
  refused : (e : ExpandRefusal) → Finds {V = Unit {0}} (wrong_call s.procedures p.body) (Err e) → Refuses s s (defines p) (not_expanded e)
  refused (Unknown n) is = (accept_refused s _ _ (rw (new, is) refl), refl)
  refused (Count given wanted) is = (accept_refused s _ _ (rw (new, is) refl), refl)
  refused Limit is = absurd is
  refused NoMemory is = refl

pub returns-in-Err-clause-refused : goal.returns-in-Err-clause-refused
returns-in-Err-clause-refused c = λ s same.
    let p = procedure_view c.args.procedure.now in
    let finds : Finds {V = Unit {0}} (wrong_call s.procedures p.body) (Err c.in-Err.refusal) =
    subst (λ (ps : List meant.Procedure). Finds {V = Unit {0}} (wrong_call ps p.body) (Err c.in-Err.refusal)) (sym same) c.in-Err.ensures in
    subst (λ (r : Refusal). Refuses s s (defines p) r) (sym c.not_expanded.ensures)
    (refused s p (ap (λ (ps : List meant.Procedure). find_procedure ps p.name) same ∙ c.requires.new) c.in-Err.refusal finds)

pub returns-then-count-ge-MOST_PROCEDURES-clause-refused : goal.returns-then-count-ge-MOST_PROCEDURES-clause-refused
returns-then-count-ge-MOST_PROCEDURES-clause-refused c = λ s same.
    let p = procedure_view c.args.procedure.now in
    let count : length s.procedures ≡ length c.args.procedures.now = ap (λ (ps : List meant.Procedure). length ps) same in
    let new = ap (λ (ps : List meant.Procedure). find_procedure ps p.name) same ∙ c.requires.new in
    let right = ap (λ (ps : List meant.Procedure). wrong_call ps p.body) same ∙ c.in-Ok.ensures in
    (accept_refused s _ _ (rw (new, right, lt-ltb 32 (length s.procedures + 1) (omega (arith, count, c.count.ensures.count, c.if-count-ge-MOST_PROCEDURES.true))) refl), refl)
