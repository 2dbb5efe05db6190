use Rattle.std.proofs.Common.{◌≡◌, ℕ, List, get_or, sym, ◌∙◌, ℤ, ◌+ℤ◌, ◌-ℤ◌, pos, arith, rules, FitsSigned, to_z, of_z, w64}
use Rattle.std.proofs.lemmas.Int.{to_z-of_z}
use Rattle.std.proofs.lemmas.List.{length-set}
use Rattle.map_nums.specs.Stats.{total_of}
use Rattle.focal_ops.specs.Totals.{IsWithin, count_of}
use Rattle.focal_ops.proofs.FirstCells.{total_next, count_next, front_more, just, within_sum, fits_next}
use Rattle.focal_ops.proofs.fronts.fill_fronts.Goals as goal

-- a sum is kept as it is
kept : (x v : ℤ) → FitsSigned w64 v → FitsSigned w64 (x +ℤ v) → to_z w64 (of_z w64 (x +ℤ to_z w64 (of_z w64 v))) ≡ x +ℤ v
kept x v f g = rw (to_z-of_z w64 v f) (to_z-of_z w64 (x +ℤ v) g)

rise_here : (fronts : List ℤ) (m : ℕ) (x v : ℤ) → get_or fronts m (pos 0) ≡ x → IsWithin 1 v → IsWithin 1 ((x +ℤ v) -ℤ get_or fronts m (pos 0))
rise_here fronts m x v e w = rw (e, just x v) w

pub loop-m-preserved : goal.loop-m-preserved
loop-m-preserved c =
    let square = c.args.square.now in
    let m = c.loop-m.m in
    let i = c.loop-m.invariant in
    let x = to_z w64 c.loop-m.sum-bits in
    let y = to_z w64 c.loop-m.found-bits in
    let v = c.number_in-sum.result in
    let n = c.count_in-found.result in
    let fits_v : FitsSigned w64 v = search rules in
    let fits_n : FitsSigned w64 n = search rules in
    let a = kept x v fits_v (fits_next m x v (omega (arith, c.loop-m-test.true, c.requires.most)) i.sum_within c.number_in-sum.ensures.within) in
    let b = kept y n fits_n (fits_next m y n (omega (arith, c.loop-m-test.true, c.requires.most)) i.found_within c.count_in-found.ensures.within) in
    let sum = total_next square m c.index-square-m.result x v (omega (arith, c.loop-m-test.true, c.requires.most)) c.index-square-m.is i.sum c.number_in-sum.ensures.number in
    let found = count_next square m c.index-square-m-in-loop-m.result y n (omega (arith, c.loop-m-test.true, c.requires.most)) c.index-square-m-in-loop-m.is i.found c.count_in-found.ensures.count in
    let sum_within = within_sum m x v i.sum_within c.number_in-sum.ensures.within in
    let found_within = within_sum m y n i.found_within c.count_in-found.ensures.within in
    rw (a, b)
    record {
      sum = sum;
      found = found;
      sum_within = sum_within;
      found_within = found_within;
      sums = front_more total_of square m c.loop-m.sums (x +ℤ v) i.sums (omega (arith, c.loop-m-test.true, c.requires.most, c.requires.sums_room, c.loop-m.auto.sums, length-set c.args.sums.now 0 (pos 0))) sum (rise_here c.loop-m.sums m x v (i.sums.is m (omega arith) ∙ sym i.sum) c.number_in-sum.ensures.within);
      counts = front_more count_of square m c.loop-m.counts (y +ℤ n) i.counts (omega (arith, c.loop-m-test.true, c.requires.most, c.requires.counts_room, c.loop-m.auto.counts, length-set c.args.counts.now 0 (pos 0))) found (rise_here c.loop-m.counts m y n (i.counts.is m (omega arith) ∙ sym i.found) c.count_in-found.ensures.within);
    }
