use Rattle.std.proofs.Common.{◌≡◌, ℕ, ◌<◌, ◌∙◌, None, length, ap, arith}
use Rattle.std.proofs.lemmas.Int.{ints}
use Rattle.std.proofs.lemmas.List.{get_or_default}
use Rattle.map_nums.specs.Grids.{Cells, cell_at}
use Rattle.zonal_totals.specs.Sums.{held, pair_at}
use Rattle.zonal_totals.proofs.Sums.{sum_more}
use Rattle.zonal_totals.proofs.Ranging.{same_held}
use Rattle.zonal_totals.proofs.counts.count_row.Goals as goal

pub enter-requires : goal.enter-requires
enter-requires c = omega (arith, c.requires.room, c.loop-c.invariant.weight, c.loop-c-test.true)

pub loop-c-preserved : goal.loop-c-preserved
loop-c-preserved c =
    let i = c.loop-c.c in
    let z : Cells = c.args.zones.now in
    let k : Cells = c.args.keys.now in
    let l : i < length z = c.loop-c-test.true in
    let inv = c.loop-c.invariant in
    record {
      net = λ p.
          let f = λ (j : ℕ). held p (pair_at (cell_at z j) (cell_at k j)) in
          let e : held p c.pair_of-pair.result ≡ held p (pair_at (cell_at z i) (cell_at k i)) =
          ap (held p) c.pair_of-pair.ensures
          ∙ same_held p _ _ _ _ (c.index-zones-c.is ∙ get_or_default z i _ None l) (c.index-keys-c.is ∙ get_or_default k i _ None (omega (arith, l, c.requires.keys))) in
          omega (arith, ints, inv.net p, c.in_ok-enter.ensures.net p, e, sum_more f i);
      weight = omega (arith, inv.weight, c.in_ok-enter.ensures.weight);
    }
