use Rattle.std.proofs.Common.{◌≡◌, ◌+◌, ◌*◌, ◌≤◌, Ok, length, drop}
use Rattle.statement_parser.specs.Procedures.{procedures_view, body_view}
use Rattle.map_defs.specs.Expansion.{both_flats, body_flats, call_flats}
use Rattle.procedure_expand.specs.Flats.{flats_view, bound_view}
use Rattle.procedure_expand.specs.Answers.{most_flats}
use Rattle.procedure_expand.proofs.expansion.+expansion.Given as goal

abbrev pub decreases-expand_body : goal.decreases-expand_body
decreases-expand_body l = 3 * l.depth + 2

abbrev pub decreases-expand_call : goal.decreases-expand_call
decreases-expand_call l = 3 * l.depth

abbrev pub decreases-expand_inner : goal.decreases-expand_inner
decreases-expand_inner l = 3 * l.depth + 1

-- what is put out and what is left are all
abbrev pub invariant-expand_body-loop-inner : goal.invariant-expand_body-loop-inner
invariant-expand_body-loop-inner l = record {
  all : both_flats (Ok (flats_view l.out.items)) (body_flats (call_flats l.depth (procedures_view l.scope.procedures.now)) l.name l.prefix (bound_view l.bindings) (body_view (drop l.inner-index l.body)))
      ≡ both_flats (Ok (flats_view l.initial.out.items)) (body_flats (call_flats l.depth (procedures_view l.scope.procedures.now)) l.name l.prefix (bound_view l.initial.bindings) (body_view l.body));
  few : length (flats_view l.out.items) ≤ most_flats;
}
