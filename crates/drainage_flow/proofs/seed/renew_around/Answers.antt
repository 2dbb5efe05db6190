use Rattle.std.proofs.Common.{◌≡◌, ◌+◌, ◌*◌, ◌∙◌, true, ap, arith, inl, inr}
use Rattle.std.proofs.lemmas.Bool.{cases_lt}
use Rattle.map_nums.specs.Grids.{moved}
use Rattle.drainage_flow.specs.Steepest.{offset_at}
use Rattle.drainage_flow.specs.Seeding.{is_marked}
use Rattle.drainage_flow.proofs.Rising.{rises_both}
use Rattle.drainage_flow.proofs.seed.renew_around.Goals as goal

pub loop-k-preserved : goal.loop-k-preserved
loop-k-preserved g c =
    let i = c.loop-k.invariant in
    let e = c.in_ok-renew_neighbour.ensures in
    record {
      size = e.size ∙ i.size;
      seeded = e.seeded;
      marked = e.stays c.args.at i.marked;
      around = λ k j l m. elim (cases_lt k c.loop-k.k) as (λ _. is_marked c.renew_neighbour.new.seeds.marks.marks j ≡ true) [
        | inl b ↦ e.stays j (i.around k j b m)
        | inr b ↦ (let q : c.loop-k.k ≡ k = omega (arith, l, b) in e.marked j (ap (λ n. moved c.args.surface.now.size c.args.at (offset_at n)) q ∙ m))
      ];
      stays = λ x y. e.stays x (i.stays x y);
      picks = rises_both (26 + 26 * c.loop-k.k) 26 (26 + 26 * (c.loop-k.k + 1)) _ _ _ i.picks e.picks (omega arith);
    }
