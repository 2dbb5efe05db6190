use Rattle.std.proofs.Common.{◌≡◌, ℕ, ◌+◌, ◌*◌, get_or, inl, inr, arith, subst, sym, ◌∙◌, ap}
use Rattle.std.proofs.lemmas.Bool.{cases_lt}
use Rattle.layer_tiles.proofs.Rising.{rises_none, rises_then, rises_within}
use Rattle.friction_spread.specs.Costs.{values, net_of}
use Rattle.friction_spread.proofs.repair.look_at_all.Goals as goal
use Rattle.friction_spread.specs.Rows.{RoundQueued}

pub loop-at-preserved : goal.loop-at-preserved
loop-at-preserved g c =
    let gr = c.args.ground.now in
    let ok = c.in_ok-look_round.ensures in
    let P : ℕ → Type 0 = RoundQueued (net_of gr) gr.size (values gr.limit c.args.labels.now.cells) c.look_round.new.queue in
    record {
      queued = λ k l. elim (cases_lt k c.loop-at.at-index) as (λ _. P (get_or c.args.changed.now k 0)) [
        | inl m ↦ (λ j p q r x. ok.kept _ (c.loop-at.invariant.queued k m j p q r x))
        | inr m ↦ (let e : k ≡ c.loop-at.at-index = omega (arith, l, m) in subst P (c.spot.ensures.at ∙ ap (λ n. get_or c.args.changed.now n 0) (sym e)) ok.queued)
      ];
      seen = ok.seen;
      len = omega (arith, ok.len, c.loop-at.invariant.len);
      picks = rises_within (0 + 0) (189 * c.loop-at.at-index + 189) 0 (189 * (c.loop-at.at-index + 1)) _ _ (omega arith) (omega arith) (rises_then 0 (189 * c.loop-at.at-index) 0 189 _ _ _ c.loop-at.invariant.picks c.look_round.ensures.picks);
    }

pub loop-at-init : goal.loop-at-init
loop-at-init g c =
    let gr = c.args.ground.now in
    record {
      queued = λ k l. absurd (omega (arith, l));
      seen = c.in_ok-seen.ensures gr (values gr.limit c.args.labels.now.cells) c.args.queue.now (sym c.extent.ensures.extent);
      len = omega arith;
      picks = rises_none _;
    }

pub returns-in_err-seen-clause-picks : goal.returns-in_err-seen-clause-picks
returns-in_err-seen-clause-picks g c = rises_within 0 0 _ _ _ _ (omega arith) (omega arith) (rises_none _)
