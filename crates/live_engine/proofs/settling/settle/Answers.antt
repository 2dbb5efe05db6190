use Rattle.std.proofs.Common.{◌≡◌, length, map, Some, slice_get, refl, sym, ap, subst, ◌∙◌, arith}
use Rattle.std.specs.Vec.{with_items}
use Rattle.std.proofs.lemmas.List.{with_items_is}
use Rattle.std.proofs.lemmas.Option.{slice_get_within}
use Rattle.map_nums.specs.Counts.{raised}
use Rattle.map_waves.specs.Placing.{IsPlaced, slot_of}
use Rattle.kept_map.proofs.Ready.{slot_kept}
use Rattle.map_waves.proofs.Rowing.{some_at}
use Rattle.live_engine.proofs.settling.settle.Goals as goal

pub returns : goal.returns
returns c =
    let old = c.args.map.now in
    let moved = c.renew_all.new.kept in
    let long : length moved ≡ old.kept.len = omega (arith, c.renew_all.auto.kept, c.as_mut_slice.ensures.len) in
    let is : (with_items old.kept moved).items ≡ moved = with_items_is old.kept moved long in
    let was = c.as_mut_slice.ensures.value in
    let made = c.as_mut_slice-2.ensures.value in
    let number : c.saturating_add-number.result ≡ raised old.number 1 = omega (arith, c.saturating_add-number.ensures) in
    record {
      others = ap (λ k. record old { kept = with_items old.kept moved; number = k }) number;
      statements = record {
        plan_names = refl;
        rests = (refl, λ k x here. (x, here, c.requires.rest k x here, refl));
        kept_count = ap length is ∙ c.renew_all.ensures.count ∙ ap length was ∙ c.requires.kept;
        placed = λ k now x r at here there.
            let own = some_at old.kept.items k (let within = slice_get_within moved k now (ap (λ xs. slice_get xs k) (sym is) ∙ at) in let count = c.renew_all.ensures.count ∙ ap length was in omega (arith, within, count)) in
            let slot : slot_of (map (λ l. Some l) old.kept.items) x.kept ≡ Some own.0 = ap (slot_of (map (λ l. Some l) old.kept.items)) (c.requires.rest k x here).kept ∙ slot_kept old.kept.items (Some k) ∙ own.1 in
            subst (λ o. IsPlaced old.extent o r (raised old.number 1) now) (sym slot)
            (subst (λ n. IsPlaced old.extent (Some own.0) r n now) number
            (c.renew_all.ensures.placed k own.0 now r (ap (λ xs. slice_get xs k) was ∙ own.1) (ap (λ xs. slice_get xs k) (sym is) ∙ at) (ap (λ xs. slice_get xs k) made ∙ there)));
      };
    }
