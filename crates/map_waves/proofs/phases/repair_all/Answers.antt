use Rattle.std.proofs.Common.{◌≡◌, ◌+◌, ◌-◌, ◌*◌, ◌<◌, ◌≤◌, List, ◌++◌, length, Option, Ok, rules, sym, ap, subst, ◌∙◌, arith}
use Rattle.std.proofs.lemmas.List.{length-append}
use Rattle.map_waves.specs.Plans.{damage_at, work_at, evaluated_to, worked_to}
use Rattle.layer_tiles.specs.Tallies.{RisesBy}
use Rattle.map_waves.specs.Bases.{plan_of}
use Rattle.map_waves.specs.Prepared.{ArePrepared}
use Rattle.map_waves.specs.Phases.{AreFaultless, AreAlike, IsStop, IsPhase}
use Rattle.map_waves.specs.declared.keeping.Made.{Made}
use Rattle.map_waves.proofs.Phasing.{faultless_then, prepared_then, prepared_faultless, rises_phase}
use Rattle.map_waves.proofs.Depths.{reached}
use Rattle.map_waves.proofs.phases.repair_all.Goals as goal

pub repair_phase-requires-clause-prepared : goal.repair_phase-requires-clause-prepared
repair_phase-requires-clause-prepared g c ls lives =
    subst (λ rs. ArePrepared g.K.Maker.means g.K.Maker.suits c.args.base.now c.args.steps.now 0 rs) (sym c.deref.ensures.value) c.depths.invariant.prepared

pub returns-in-Err-clause-tally : goal.returns-in-Err-clause-tally
returns-in-Err-clause-tally g c =
    let plan = plan_of g.K.Maker.means c.args.base.now c.args.steps.now in
    let steps = c.args.steps.now in
    let items = c.depths.prepared.items in
    let first = length items in
    let end = c.phase_end-end.result in
    let same : c.deref.result.now ≡ items = c.deref.ensures.value in
    let at : c.len-in-depths.result ≡ first = search rules in
    let some : first < end = let above = c.phase_end-end.ensures.some in omega arith in
    let alike : AreAlike steps first end = subst (λ n. AreAlike steps n end) at c.phase_end-end.ensures.alike in
    let stop : IsStop plan first end c.in-Err.stop = subst (λ (rs : List (Option (Made _))). IsStop plan (length rs) end c.in-Err.stop) same c.in-Err.ensures.phase in
    let rise = subst (λ (rs : List (Option (Made _))). RisesBy (62 * (evaluated_to plan end - evaluated_to plan (length rs))) (1000 * (worked_to plan end - worked_to plan (length rs))) (g.M.Tally.counts c.depths.tally) (g.M.Tally.counts c.repair_phase.new.tally)) same c.in-Err.ensures.tally in (
      end,
      reached plan steps first end c.in-Err.stop c.depths.invariant.faultless alike c.phase_end-end.ensures.most some stop,
      rises_phase (λ i. length (damage_at plan i)) (work_at plan) first end _ _ _ (omega arith) c.depths.invariant.tally rise,
    )

pub returns-in_default-clause-tally : goal.returns-in_default-clause-tally
returns-in_default-clause-tally g c =
    let plan = plan_of g.K.Maker.means c.args.base.now c.args.steps.now in
    let steps = c.args.steps.now in
    let items = c.depths.prepared.items in
    let first = length items in
    let end = c.phase_end-end.result in
    let same : c.deref.result.now ≡ items = c.deref.ensures.value in
    let at : c.len-in-depths.result ≡ first = search rules in
    let some : first < end = let above = c.phase_end-end.ensures.some in omega arith in
    let alike : AreAlike steps first end = subst (λ n. AreAlike steps n end) at c.phase_end-end.ensures.alike in
    let rise = subst (λ (rs : List (Option (Made _))). RisesBy (62 * (evaluated_to plan end - evaluated_to plan (length rs))) (1000 * (worked_to plan end - worked_to plan (length rs))) (g.M.Tally.counts c.depths.tally) (g.M.Tally.counts c.repair_phase.new.tally)) same c.in-Ok.ensures.tally in (
      end,
      (first, c.depths.invariant.faultless, (some, c.phase_end-end.ensures.most, alike)),
      rises_phase (λ i. length (damage_at plan i)) (work_at plan) first end _ _ _ (omega arith) c.depths.invariant.tally rise,
    )

pub depths-preserved : goal.depths-preserved
depths-preserved g c =
    let means = g.K.Maker.means in
    let suits = g.K.Maker.suits in
    let base = c.args.base.now in
    let steps = c.args.steps.now in
    let plan = plan_of means base steps in
    let items = c.depths.prepared.items in
    let first = length items in
    let end = c.phase_end-end.result in
    let same : c.deref.result.now ≡ items = c.deref.ensures.value in
    let at : c.len-in-depths.result ≡ first = search rules in
    let some : first < end = let above = c.phase_end-end.ensures.some in omega arith in
    let most : end ≤ length steps = c.phase_end-end.ensures.most in
    let phase : IsPhase means suits base steps first end (Ok c.in-Ok.more) = subst (λ (rs : List (Option (Made _))). IsPhase means suits base steps (length rs) end (Ok c.in-Ok.more)) same c.in-Ok.ensures.phase in
    let rise = subst (λ (rs : List (Option (Made _))). RisesBy (62 * (evaluated_to plan end - evaluated_to plan (length rs))) (1000 * (worked_to plan end - worked_to plan (length rs))) (g.M.Tally.counts c.depths.tally) (g.M.Tally.counts c.repair_phase.new.tally)) same c.in-Ok.ensures.tally in
    let grown : c.append.new.self.items ≡ items ++ c.in-Ok.more.items = c.in-Ok-append.ensures.items in
    let count : length c.append.new.self.items ≡ end = let more = phase.0 in let joined = ap length grown ∙ length-append items c.in-Ok.more.items in omega arith in
    let meets : first + length c.in-Ok.more.items ≡ end = let more = phase.0 in omega arith in
    record {
      most = omega arith;
      prepared = subst (λ rs. ArePrepared means suits base steps 0 rs) (sym grown) (prepared_then means suits base steps 0 first items c.in-Ok.more.items c.depths.invariant.prepared phase.1 (omega arith));
      faultless = subst (λ n. AreFaultless plan 0 n) (sym count) (faultless_then plan 0 first end c.depths.invariant.faultless (prepared_faultless means suits base steps first end c.in-Ok.more.items phase.1 meets most));
      tally = subst (λ n. RisesBy (62 * evaluated_to plan n) (1000 * worked_to plan n) (g.M.Tally.counts c.args.tally.now) (g.M.Tally.counts c.repair_phase.new.tally)) (sym count)
          (rises_phase (λ i. length (damage_at plan i)) (work_at plan) first end _ _ _ (omega arith) c.depths.invariant.tally rise);
    }

pub repair_phase-requires-clause-whole : goal.repair_phase-requires-clause-whole
repair_phase-requires-clause-whole g c ls lives more =
    let whole = c.requires.whole more in
    let so_far = c.depths.invariant.tally in
    (so_far.is_part_stays ∙ whole.0, so_far.parts_out_stay ∙ whole.1)

pub repair_phase-requires-clause-alike : goal.repair_phase-requires-clause-alike
repair_phase-requires-clause-alike g c ls lives =
    let at : c.len-in-depths.result ≡ length c.depths.prepared.items = search rules in
    subst (λ rs. AreAlike c.args.steps.now (length rs) c.phase_end-end.result) (sym c.deref.ensures.value) (subst (λ n. AreAlike c.args.steps.now n c.phase_end-end.result) at c.phase_end-end.ensures.alike)

pub returns-clause-tally : goal.returns-clause-tally
returns-clause-tally g c = (length c.depths.prepared.items, omega (arith, c.depths.invariant.most), c.depths.invariant.tally)
