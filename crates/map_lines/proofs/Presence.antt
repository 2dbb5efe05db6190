-- Which rows are there at each place.
use Rattle.std.proofs.Common.{◌≡◌, Bool, true, false, List, [], ◌∷◌, ◌++◌, refl, subst, sym}
use Rattle.std.specs.Prelude.{◌||◌, codes}
use Rattle.map_words.specs.Bytes.{Text}
use Rattle.std.specs.List.{list_any}
use Rattle.map_nums.specs.declared.Stat.TheVariants.{Sum, Product}
use Rattle.map_defs.specs.Ops.{Head, sight_head, Op}
use Rattle.map_defs.specs.Statements.{Written, plain, call, Inner, Procedure}
use Rattle.statement_parser.specs.Formed.{IsOp, IsWritten, AreInner, IsProcedure}
use Rattle.statement_parser.specs.Operations.{operation_of}
use Rattle.statement_parser.specs.There.{HasRow, HasCommand, is_ignoring, MayIgnore, MayBe, IsOpThere, IsWrittenThere, AreInnerThere}
use Rattle.statement_parser.specs.ProcedureTexts.{procedure_text}
use Rattle.statement_parser.proofs.FormedLines.{IsRow}
use Rattle.statement_parser.proofs.BackWords.{row_of}
use Rattle.statement_parser.proofs.BackBytes.{written_back}
use Rattle.statement_parser.proofs.ProcedureBack.{reads_back}
use Rattle.statement_parser.specs.declared.language.Language.TheVariants.{Two}
use Rattle.statement_parser.specs.declared.language.Place.{Place}
use Rattle.statement_parser.specs.declared.command.Command.TheVariants.{Procedure as Named}
use Rattle.statement_parser.specs.declared.op.Form.TheVariants.{Linkage}
use Rattle.statement_parser.specs.declared.operation.Operation.{Operation}
use Rattle.statement_parser.specs.declared.operation.Operation.TheVariants.{Local, Focal, Zonal, Incremental}
use Rattle.map_lines.specs.Present.{may_ignore, rows_at}
use Rattle.map_lines.specs.ReadAgain.{ignores, ReadsStatements, ReadsProcedures}

module _ (p : Place) where
  may_ignored : (b : Bool) → (b ≡ true → p.language ≡ Two) → MayIgnore (rows_at p) b
  unfolding rows_at
  may_ignored true k = subst (λ l. may_ignore l ≡ true) (sym (k refl)) refl
  may_ignored false k = tt

  may_be : (head : Head) → (is_ignoring head ≡ true → p.language ≡ Two) → MayBe (rows_at p) head
  unfolding rows_at
  may_be (sight_head s) k = refl
  may_be head k = may_ignored (is_ignoring head) k

  -- each row is there, computed
  row_there : (o : Operation) → IsRow o → HasRow (rows_at p) o
  unfolding rows_at
  row_there (Focal Product) r = absurd r
  row_there (Zonal Product) r = absurd r
  row_there (Local Sum) r = refl
  row_there (Incremental Linkage) r = refl
  row_there o r = refl

  op_there : (o : Op) → IsOp o → (is_ignoring o.head ≡ true → p.language ≡ Two) → IsOpThere (rows_at p) o
  op_there o h k = (row_there (operation_of o.head) (row_of o.head h.0), may_be o.head k)

  pub written_there : (w : Written) → IsWritten w → (ignores w ≡ true → p.language ≡ Two) → IsWrittenThere (rows_at p) w
  unfolding rows_at
  written_there (plain o) h k = op_there o h k
  written_there (call q ts) h k = refl

  any_left : (a b : Bool) → a ≡ true → (a || b) ≡ true
  any_left true b e = refl
  any_left false b e = absurd (cc)

  any_right : (a b : Bool) → b ≡ true → (a || b) ≡ true
  any_right true b e = refl
  any_right false b e = e

  abbrev any_ignores : List Inner → Bool
  any_ignores is = list_any (λ (i : Inner). ignores i.written) is

  body_there : (ns : List Text) (is : List Inner) (last : Inner) → AreInner ns is → IsWritten last.written → (any_ignores (is ++ last ∷ []) ≡ true → p.language ≡ Two) → AreInnerThere (rows_at p) (is ++ last ∷ [])
  body_there ns [] last h w k = (written_there last.written w (λ e. k (any_left (ignores last.written) false e)), tt)
  body_there ns (i ∷ is) last h w k = (
    written_there i.written h.1.0 (λ e. k (any_left (ignores i.written) (any_ignores (is ++ last ∷ [])) e)),
    body_there (ns ++ i.name ∷ []) is last h.2 w (λ e. k (any_right (ignores i.written) (any_ignores (is ++ last ∷ [])) e)),
  )

  procedures_there : HasCommand (rows_at p) Named
  unfolding rows_at
  procedures_there = elim p.early as (λ e. HasCommand (rows_at (record p { early = e })) Named) [
    | true ↦ refl
    | false ↦ refl
  ]

  inner_there : (q : Procedure) → IsProcedure q → (any_ignores q.body ≡ true → p.language ≡ Two) → AreInnerThere (rows_at p) q.body
  inner_there q h k =
      let b = h.body in
      let last : Inner = record { name = codes "result"; written = b.last } in
      subst (λ (body : List Inner). AreInnerThere (rows_at p) body) (sym b.whole)
      (body_there q.takes b.before last b.inner b.result.0 (λ e. k (subst (λ (body : List Inner). any_ignores body ≡ true) (sym b.whole) e)))

  pub statements_read : ReadsStatements p
  statements_read n w named formed k short = written_back (rows_at p) n w named formed (written_there w formed k) short

  pub procedures_read : ReadsProcedures p
  procedures_read q formed k short = reads_back q (procedure_text q) refl (rows_at p) formed (procedures_there, inner_there q formed k) short
