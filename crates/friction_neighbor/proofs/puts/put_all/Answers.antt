use Rattle.std.proofs.Common.{◌≡◌, ℕ, ◌+◌, ◌*◌, get_or, inl, inr, arith, subst, sym, ◌∙◌, ap}
use Rattle.std.proofs.lemmas.Bool.{cases_lt}
use Rattle.layer_tiles.proofs.Rising.{rises_then, rises_within}
use Rattle.friction_neighbor.specs.Puts.{RoundMarked}
use Rattle.friction_neighbor.proofs.Putting.{put_then}
use Rattle.friction_neighbor.proofs.puts.put_all.Goals as goal

pub loop-at-preserved : goal.loop-at-preserved
loop-at-preserved g c =
    let f = c.args.field.now.field in
    let ok = c.in_ok-put_round.ensures in
    let i = c.loop-at.invariant in
    let P : ℕ → Type 0 = RoundMarked f 0 c.put_round.new.seen in
    record {
      size = ok.put.size ∙ i.size;
      put = put_then f c.args.queue.now c.loop-at.queue c.put_round.new.queue c.args.seen.now c.loop-at.seen c.put_round.new.seen i.put ok.put;
      marked = λ k l. elim (cases_lt k c.loop-at.at-index) as (λ _. P (get_or c.args.places.now k 0)) [
        | inl m ↦ (λ j p q r x. ok.put.marked j (i.marked k m j p q r x))
        | inr m ↦ (let e : k ≡ c.loop-at.at-index = omega (arith, l, m) in subst P (c.spot-spot.ensures.at ∙ ap (λ n. get_or c.args.places.now n 0) (sym e)) ok.marked)
      ];
      len = omega (arith, ok.len, i.len);
      picks = rises_within (0 + 0) (9 * c.loop-at.at-index + 9) 0 (9 * (c.loop-at.at-index + 1)) _ _ (omega arith) (omega arith) (rises_then 0 (9 * c.loop-at.at-index) 0 9 _ _ _ i.picks c.put_round.ensures.picks);
    }
