use Rattle.std.proofs.Common.{◌≡◌, sym, ap, ◌∙◌, arith, Some, slice_get, option_map, map}
use Rattle.std.proofs.lemmas.List.{take_all}
use Rattle.std.proofs.lemmas.Option.{slice_get_within}
use Rattle.map_nums.specs.Options.{all_some}
use Rattle.statement_parser.specs.Views.{op_view, term_view}
use Rattle.statement_parser.proofs.TermLemmas.{past_last}
use Rattle.edit_plans.specs.Planned.{ref_for, source_names}
use Rattle.edit_plans.proofs.There.{none_where}
use Rattle.edit_plans.proofs.Operands.{none_of_all, refs_next}
use Rattle.edit_plans.proofs.planning.refs_of.Goals as goal

pub ref_of-requires : goal.ref_of-requires
ref_of-requires c = c.requires.values c.loop-term.k (term_view c.in-Some.term.now) (sym c.term.ensures ∙ ap (option_map (λ t. term_view t.now)) c.in-Some.is)

pub returns-in_default-ref_of : goal.returns-in_default-ref_of
returns-in_default-ref_of c =
    let f = ref_for (source_names c.args.sources) c.args.names.now.keys in
    let us = (op_view c.args.op.now).terms in
    let here : slice_get us c.loop-term.k ≡ Some (term_view c.in-Some.term.now) = sym c.term.ensures ∙ ap (option_map (λ t. term_view t.now)) c.in-Some.is in
    sym (none_of_all f us c.loop-term.k (term_view c.in-Some.term.now) here (sym c.ref_of.ensures ∙ none_where c.ref_of.result c.in_default-ref_of.not-Some))

pub overflow_add-k : goal.overflow_add-k
overflow_add-k c =
    let us = (op_view c.args.op.now).terms in
    let here : slice_get us c.loop-term.k ≡ Some (term_view c.in-Some.term.now) = sym c.term.ensures ∙ ap (option_map (λ t. term_view t.now)) c.in-Some.is in
    let within = slice_get_within us c.loop-term.k (term_view c.in-Some.term.now) here in
    let few = c.requires.few in
    omega arith

pub loop-term-smaller : goal.loop-term-smaller
loop-term-smaller c =
    let us = (op_view c.args.op.now).terms in
    let here : slice_get us c.loop-term.k ≡ Some (term_view c.in-Some.term.now) = sym c.term.ensures ∙ ap (option_map (λ t. term_view t.now)) c.in-Some.is in
    let within = slice_get_within us c.loop-term.k (term_view c.in-Some.term.now) here in
    omega arith

pub loop-term-preserved : goal.loop-term-preserved
loop-term-preserved c =
    let f = ref_for (source_names c.args.sources) c.args.names.now.keys in
    let us = (op_view c.args.op.now).terms in
    let here : slice_get us c.loop-term.k ≡ Some (term_view c.in-Some.term.now) = sym c.term.ensures ∙ ap (option_map (λ t. term_view t.now)) c.in-Some.is in
    refs_next f us c.loop-term.k c.loop-term.refs.items c.push.new.self.items (term_view c.in-Some.term.now) c.in-Some-ref_of.operand c.loop-term.invariant here (sym c.ref_of.ensures ∙ c.in-Some-ref_of.is) c.in_ok-push.ensures.items

pub returns : goal.returns
returns c =
    let f = ref_for (source_names c.args.sources) c.args.names.now.keys in
    let us = (op_view c.args.op.now).terms in
    let long = past_last (λ t. term_view t.now) us c.loop-term.k c.term.result c.term.ensures c.in_default.not-Some in
    sym c.loop-term.invariant ∙ ap (λ vs. all_some (map f vs)) (take_all c.loop-term.k us long)
