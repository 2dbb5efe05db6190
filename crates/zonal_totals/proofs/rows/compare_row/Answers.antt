use Rattle.std.proofs.Common.{◌≡◌, ℕ, ◌+◌, ◌<◌, ◌+ℤ◌, ◌-ℤ◌, ◌∙◌, None, length, ℤ, arith}
use Rattle.std.proofs.lemmas.Int.{ints}
use Rattle.std.proofs.lemmas.List.{get_or_default}
use Rattle.map_nums.specs.Grids.{Cells, cell_at}
use Rattle.zonal_totals.specs.Steps.{net_in}
use Rattle.zonal_totals.specs.Sums.{sum_to, shift, held}
use Rattle.zonal_totals.proofs.Sums.{sum_more, shift_is}
use Rattle.zonal_totals.proofs.rows.compare_row.Goals as goal

pub loop-c-preserved : goal.loop-c-preserved
loop-c-preserved c =
    let i = c.loop-c.c in
    let zb : Cells = c.args.zones_before.now in
    let kb : Cells = c.args.keys_before.now in
    let z : Cells = c.args.zones.now in
    let k : Cells = c.args.keys.now in
    let l : i < length z = c.loop-c-test.true in
    let inv = c.loop-c.invariant in
    record {
      net = λ p.
          let f = λ (j : ℕ). shift p (cell_at zb j) (cell_at kb j) (cell_at z j) (cell_at k j) in
          let e = shift_is p c.pair_of-before.result c.pair_of-after.result (cell_at zb i) (cell_at kb i) (cell_at z i) (cell_at k i) c.index-zones_before-c.result c.index-keys_before-c.result c.index-zones-c.result c.index-keys-c.result c.pair_of-before.ensures c.pair_of-after.ensures
          (c.index-zones_before-c.is ∙ get_or_default zb i _ None (omega (arith, l, c.requires.zones_before)))
          (c.index-keys_before-c.is ∙ get_or_default kb i _ None (omega (arith, l, c.requires.keys_before)))
          (c.index-zones-c.is ∙ get_or_default z i _ None l)
          (c.index-keys-c.is ∙ get_or_default k i _ None (omega (arith, l, c.requires.keys))) in
          let m : sum_to f (i + 1) ≡ sum_to f i +ℤ shift p (cell_at zb i) (cell_at kb i) (cell_at z i) (cell_at k i) = sum_more f i in
          turn (net_in c.args.steps.now.items p) (net_in c.loop-c.steps.items p) (net_in c.change.new.steps.items p) (sum_to f i) (sum_to f (i + 1)) (shift p (cell_at zb i) (cell_at kb i) (cell_at z i) (cell_at k i)) (held p c.pair_of-after.result -ℤ held p c.pair_of-before.result) (inv.net p) (c.in_ok-change.ensures.net p) e m;
      weight = omega (arith, inv.weight, c.in_ok-change.ensures.weight);
    }
  where
    turn : (first old new sum sum' part part' : ℤ) → old ≡ first +ℤ sum → new ≡ old +ℤ part' → part' ≡ part → sum' ≡ sum +ℤ part → new ≡ first +ℤ sum'
    turn first old new sum sum' part part' a b d e = omega (arith, ints, a, b, d, e)
