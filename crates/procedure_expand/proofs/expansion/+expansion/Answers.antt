use Rattle.std.proofs.Common.{rules, ◌≡◌, ◌+◌, ◌-◌, ◌*◌, ◌≤◌, ◌∷◌, ◌++◌, [], length, cond, sym, subst, ℕ, arith}
use Rattle.std.proofs.lemmas.Result.{err_from_is_err_and}
use Rattle.std.proofs.lemmas.List.{length-map}
use Rattle.std.proofs.lemmas.Grind.{common_steps}
use Rattle.statement_parser.specs.Views.{term_view, terms_view}
use Rattle.statement_parser.specs.Procedures.{procedure_view, procedures_view, body_view}
use Rattle.map_defs.specs.Ops.{layer_term}
use Rattle.map_defs.specs.Expansion.{body_flats, call_flats, dotted}
use Rattle.map_defs.specs.MadeProcedures.{is_result}
use Rattle.procedure_expand.specs.Flats.{flats_view, bound_view}
use Rattle.procedure_expand.specs.Answers.{IsPrefix}
use Rattle.procedure_expand.proofs.Putting.{item_short, item_prefix, body_next, body_stops, call_made}
use Rattle.procedure_expand.proofs.Plain.{found_short}
use Rattle.procedure_expand.proofs.expansion.+expansion.Goals as goal

pub expand_body-join-requires-clause-short : goal.expand_body-join-requires-clause-short
expand_body-join-requires-clause-short t c =
    let short = item_short c.args.body.now c.loop-inner.inner-index c.inner-item.result c.requires.body c.loop-inner-test.true c.inner-item.is in
    let prefix : length c.args.prefix.now + 33 * (c.args.depth + 1) ≤ 1088 = c.requires.prefix.short in
    omega arith

pub expand_body-expand_inner-requires : goal.expand_body-expand_inner-requires
expand_body-expand_inner-requires t c =
    let longer : c.in_ok-longer.longer ≡ dotted c.args.prefix.now c.inner-item.result.0 = c.in_ok-longer.ensures in (
      search rules,
      (
        c.requires.short,
        (
          item_prefix c.args.depth c.args.prefix.now c.in_ok-longer.longer c.args.body.now c.loop-inner.inner-index c.inner-item.result c.requires.prefix c.requires.body c.loop-inner-test.true c.inner-item.is longer,
          c.loop-inner.invariant.few,
        ),
      ),
    )

pub expand_body-returns-in_err-expand_inner : goal.expand_body-returns-in_err-expand_inner
expand_body-returns-in_err-expand_inner t c =
    let longer : c.in_ok-longer.longer ≡ dotted c.args.prefix.now c.inner-item.result.0 = c.in_ok-longer.ensures in
    let own : c.in_ok-own.own ≡ cond (is_result c.inner-item.result.0) c.args.name.now c.in_ok-longer.longer = c.in_ok-own.ensures in
    let p = err_from_is_err_and c.from_residual-in_err-expand_inner.result c.from_residual-in_err-expand_inner.ensures.1 in
    rw (p.1, p.2)
    (body_stops (call_flats c.args.depth (procedures_view c.args.scope.now.procedures.now)) c.args.name.now c.args.prefix.now (bound_view c.loop-inner.bindings) (flats_view c.loop-inner.out.items) c.args.body.now c.loop-inner.inner-index c.inner-item.result c.in_ok-longer.longer c.in_ok-own.own _
    c.loop-inner-test.true c.inner-item.is longer own c.loop-inner.invariant.all (Unit {0}) (Unit {0}) (flats_view c.expand_inner.new.out.items) (flats_view c.expand_inner.new.out.items) _ c.in_err-expand_inner.ensures)

pub expand_body-loop-inner-preserved : goal.expand_body-loop-inner-preserved
expand_body-loop-inner-preserved t c =
    let longer : c.in_ok-longer.longer ≡ dotted c.args.prefix.now c.inner-item.result.0 = c.in_ok-longer.ensures in
    let own : c.in_ok-own.own ≡ cond (is_result c.inner-item.result.0) c.args.name.now c.in_ok-longer.longer = c.in_ok-own.ensures in
    let next : bound_view c.bind.new.self ≡ bound_view c.loop-inner.bindings ++ record { name = c.inner-item.result.0; term = layer_term c.in_ok-own.own } ∷ [] = grind (arith, common_steps) in
    record {
      all = body_next (call_flats c.args.depth (procedures_view c.args.scope.now.procedures.now)) c.args.name.now c.args.prefix.now (bound_view c.loop-inner.bindings) (flats_view c.loop-inner.out.items) c.args.body.now c.loop-inner.inner-index c.inner-item.result c.in_ok-longer.longer c.in_ok-own.own _
          c.loop-inner-test.true c.inner-item.is longer own c.loop-inner.invariant.all (flats_view c.expand_inner.new.out.items) (bound_view c.bind.new.self) c.in_ok-expand_inner.ensures.0 next;
      few = c.in_ok-expand_inner.ensures.1;
    }

pub expand_call-expand_body-requires : goal.expand_call-expand_body-requires
expand_call-expand_body-requires t c =
    let depth : c.args.depth - 1 + 1 ≡ c.args.depth = omega arith in
    let P : ℕ → Type 0 = λ d. IsPrefix d c.args.prefix.now in (
      search rules,
      (
        c.requires.short,
        (
          rw c.as_slice-2.ensures.value (found_short (procedures_view c.args.scope.now.procedures.now) c.args.called.now (procedure_view c.in-Some.procedure.now) c.requires.short (sym c.in-Some.ensures)),
          (
            subst P (sym depth) c.requires.prefix,
            c.requires.few,
          ),
        ),
      ),
    )

pub expand_call-returns : goal.expand_call-returns
expand_call-returns t c =
    let lengths : length (terms_view c.args.given.now) ≡ length c.in-Some.procedure.now.takes.items = omega (arith, length-map c.args.given.now term_view) in
    let made = call_made c.args.depth (procedures_view c.args.scope.now.procedures.now) c.args.name c.args.prefix.now c.args.called.now (terms_view c.args.given.now) (procedure_view c.in-Some.procedure.now) c.if-depth-eq0.false (sym c.in-Some.ensures) lengths in
    let e : call_flats c.args.depth (procedures_view c.args.scope.now.procedures.now) c.args.name c.args.prefix.now c.args.called.now (terms_view c.args.given.now)
    ≡ body_flats (call_flats (c.args.depth - 1) (procedures_view c.args.scope.now.procedures.now)) c.args.name c.args.prefix.now (bound_view c.in_ok-bindings.bindings) (body_view c.as_slice-2.result.now) =
    rw (c.in_ok-bindings.ensures, c.as_slice.ensures.value, c.as_slice-2.ensures.value) made in
    rw e c.expand_body.ensures
