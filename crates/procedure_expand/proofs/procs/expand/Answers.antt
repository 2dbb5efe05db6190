use Rattle.std.proofs.Common.{Global, Vec, ◌≡◌, Ok, [], sym, ap, subst, ◌∙◌}
use Rattle.std.proofs.lemmas.Result.{err_from_is_err_and}
use Rattle.map_defs.specs.Expansion.{expansion_of, both_flats}
use Rattle.map_defs.specs.Calls.{wrong_in}
use Rattle.statement_parser.specs.Views.{written_view}
use Rattle.statement_parser.specs.Procedures.{procedures_view}
use Rattle.map_defs.specs.MadeProcedures.{AreMade}
use Rattle.procedure_expand.specs.declared.flat.Flat.{Flat}
use Rattle.procedure_expand.specs.Flats.{flats_view}
use Rattle.map_defs.proofs.Totals.{made_bodies}
use Rattle.map_defs.proofs.Naming.{expansion_naming}
use Rattle.procedure_expand.proofs.Checks.{both_start, plain_prefix, checked_stops, put_stops, put_refused}
use Rattle.procedure_expand.proofs.procs.expand.Goals as goal

pub returns-in_err-check_written-clause-expanded : goal.returns-in_err-check_written-clause-expanded
returns-in_err-check_written-clause-expanded c =
    let same : procedures_view c.as_slice.result.now ≡ c.args.procs.now = ap procedures_view c.as_slice.ensures.value ∙ c.procs.view_is in
    let p = err_from_is_err_and c.from_residual.result c.from_residual.ensures.1 in
    rw (p.1, p.2)
    (checked_stops c.args.procs.now c.args.name.now (written_view c.args.written.now) (Unit {0}) Global _ (wrong_in (procedures_view c.as_slice.result.now) (written_view c.args.written.now)) (ap (λ ps. wrong_in ps (written_view c.args.written.now)) same) c.in_err-check_written.ensures)

pub put_written-requires-clause-short : goal.put_written-requires-clause-short
put_written-requires-clause-short c = rw c.as_slice-2.ensures.value c.procs.invariant.short

pub put_written-requires-clause-prefix : goal.put_written-requires-clause-prefix
put_written-requires-clause-prefix c = rw c.as_slice-2.ensures.value (plain_prefix c.procs.inside.list.items c.args.name.now c.requires.plain c.procs.invariant.few)

pub returns-in_err-put_written-clause-expanded : goal.returns-in_err-put_written-clause-expanded
returns-in_err-put_written-clause-expanded c =
    let same : procedures_view c.as_slice.result.now ≡ c.args.procs.now = ap procedures_view c.as_slice.ensures.value ∙ c.procs.view_is in
    let same' : procedures_view c.as_slice-2.result.now ≡ c.args.procs.now = ap procedures_view c.as_slice-2.ensures.value ∙ c.procs.view_is in
    let all : both_flats (Ok (flats_view c.new-out.result.items)) (expansion_of (procedures_view c.as_slice-2.result.now) c.args.name.now (written_view c.args.written.now)) ≡ expansion_of c.args.procs.now c.args.name.now (written_view c.args.written.now) =
    rw (c.new-out.ensures.items, same') (both_start _) in
    let p = err_from_is_err_and c.from_residual-in_err-put_written.result c.from_residual-in_err-put_written.ensures.1 in
    rw (p.1, p.2)
    (put_stops c.args.procs.now c.args.name.now (written_view c.args.written.now) (subst AreMade c.procs.view_is c.procs.invariant.made) (ap (λ ps. wrong_in ps (written_view c.args.written.now)) (sym same) ∙ c.in_ok-check_written.ensures) (Unit {0}) (flats_view c.put_written.new.out.items) _ _ all c.in_err-put_written.ensures Global)

pub returns-in_err-put_written-clause-wrong : goal.returns-in_err-put_written-clause-wrong
returns-in_err-put_written-clause-wrong c =
    let same : procedures_view c.as_slice.result.now ≡ c.args.procs.now = ap procedures_view c.as_slice.ensures.value ∙ c.procs.view_is in
    let same' : procedures_view c.as_slice-2.result.now ≡ c.args.procs.now = ap procedures_view c.as_slice-2.ensures.value ∙ c.procs.view_is in
    let all : both_flats (Ok (flats_view c.new-out.result.items)) (expansion_of (procedures_view c.as_slice-2.result.now) c.args.name.now (written_view c.args.written.now)) ≡ expansion_of c.args.procs.now c.args.name.now (written_view c.args.written.now) =
    rw (c.new-out.ensures.items, same') (both_start _) in
    let p = err_from_is_err_and c.from_residual-in_err-put_written.result c.from_residual-in_err-put_written.ensures.1 in
    rw (p.1, p.2)
    (put_refused c.args.procs.now c.args.name.now (written_view c.args.written.now) (subst AreMade c.procs.view_is c.procs.invariant.made) (ap (λ ps. wrong_in ps (written_view c.args.written.now)) (sym same) ∙ c.in_ok-check_written.ensures) (Unit {0}) (flats_view c.put_written.new.out.items) _ _ all c.in_err-put_written.ensures (Vec Flat Global))

pub returns-clause-named : goal.returns-clause-named
returns-clause-named c =
    let same' : procedures_view c.as_slice-2.result.now ≡ c.args.procs.now = ap procedures_view c.as_slice-2.ensures.value ∙ c.procs.view_is in
    let all : both_flats (Ok (flats_view c.new-out.result.items)) (expansion_of (procedures_view c.as_slice-2.result.now) c.args.name.now (written_view c.args.written.now)) ≡ expansion_of c.args.procs.now c.args.name.now (written_view c.args.written.now) =
    rw (c.new-out.ensures.items, same') (both_start _) in
    expansion_naming c.args.procs.now c.args.name.now (written_view c.args.written.now) (flats_view c.put_written.new.out.items) (made_bodies [] c.args.procs.now (subst AreMade c.procs.view_is c.procs.invariant.made)) c.requires.undotted
    (sym all ∙ c.in_ok-put_written.ensures.0)
