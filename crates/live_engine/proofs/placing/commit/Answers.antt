use Rattle.std.proofs.Common.{◌≡◌, ◌<◌, ℕ, List, length, map, Option, Some, slice_get, refl, sym, ap, subst, ◌∙◌, arith}
use Rattle.std.specs.Vec.{with_items}
use Rattle.std.proofs.lemmas.List.{with_items_is}
use Rattle.map_nums.specs.Counts.{raised}
use Rattle.op_jobs.specs.declared.beside.Beside.{Beside}
use Rattle.map_waves.specs.declared.keeping.Kept.{Kept}
use Rattle.statement_parser.specs.declared.op.Op.{Op as Given}
use Rattle.map_waves.specs.Placing.{HaveOwnSlots, AreReady, ArePlaced}
use Rattle.map_waves.specs.declared.plans.Step.{Step}
use Rattle.edit_plans.specs.declared.planning.Planned.{Planned}
use Rattle.kept_map.specs.Commits.{Rests}
use Rattle.kept_map.proofs.Ready.{slots_within, own_slots, are_ready}
use Rattle.live_engine.proofs.placing.commit.Goals as goal

pub put_in_place-requires-clause-own : goal.put_in_place-requires-clause-own
put_in_place-requires-clause-own c = subst HaveOwnSlots (sym c.as_mut_slice.ensures.value) (own_slots c.args.map.now _ _ _ _ _ _ c.requires.kept c.requires.prepared.5.under c.requires.prepared.4)

pub put_in_place-requires-clause-slots : goal.put_in_place-requires-clause-slots
put_in_place-requires-clause-slots c =
    subst (λ (xs : List (Step Given)). (k i : ℕ) (x : Step Given) → slice_get xs k ≡ Some x → x.kept ≡ Some i → i < length c.args.map.now.kept.items) (sym c.as_mut_slice.ensures.value)
    (slots_within c.args.map.now _ _ _ _ _ _ c.requires.kept c.requires.prepared.5.under)

pub put_in_place-requires-clause-ready : goal.put_in_place-requires-clause-ready
put_in_place-requires-clause-ready c =
    subst (λ (xs : List (Step Given)). AreReady c.args.map.now.extent (map (λ k. Some k) c.args.map.now.kept.items) xs c.args.replanned.prepared.made.items) (sym c.as_mut_slice.ensures.value)
    (are_ready c.args.map.now _ _ _ _ _ _ c.requires.kept c.requires.prepared.5.under c.args.replanned.prepared.made.items c.requires.prepared.5.made)

pub returns-clause-put : goal.returns-clause-put
returns-clause-put c =
    let steps = c.as_mut_slice.ensures.value in
    let moved = c.put_in_place.new.steps in
    let long : length moved ≡ c.args.replanned.planned.steps.len = omega (arith, c.put_in_place.auto.steps, c.as_mut_slice.ensures.len) in
    let is : (with_items c.args.replanned.planned.steps moved).items ≡ moved = with_items_is c.args.replanned.planned.steps moved long in
    let slots : List (Option (Kept Beside)) = map (λ k. Some k) c.args.map.now.kept.items in
    let number : c.saturating_add-number.result ≡ raised c.args.map.now.number 1 = omega (arith, c.saturating_add-number.ensures) in
    let plan : Planned = record { names = c.args.replanned.planned.names; steps = with_items c.args.replanned.planned.steps moved } in
    record {
      others = λ j. record c.args.map.now { graph = c.replace.ensures.after j; planned = plan; kept = c.put_in_place.new.kept; number = number j };
      plan_names = refl;
      rests = subst (Rests c.args.replanned.planned.steps.items) (sym is) (subst (λ xs. Rests xs moved) steps c.put_in_place.ensures.rest);
      kept_count = c.put_in_place.ensures.count ∙ ap length steps;
      placed = subst (λ k. ArePlaced c.args.map.now.extent k slots c.args.replanned.planned.steps.items c.args.replanned.prepared.made.items c.put_in_place.new.kept.items) number
          (subst (λ xs. ArePlaced c.args.map.now.extent c.saturating_add-number.result slots xs c.args.replanned.prepared.made.items c.put_in_place.new.kept.items) steps c.put_in_place.ensures.placed);
    }
