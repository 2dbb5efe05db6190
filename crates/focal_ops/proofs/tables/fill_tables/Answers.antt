use Rattle.std.proofs.Common.{Bool, ◌≡◌, ℕ, ◌+◌, ◌*◌, ◌^◌, ◌<◌, ◌≤◌, length, get_or, List, ℤ, pos, refl, slice_range, sym, subst, arith, below_more}
use Rattle.std.specs.Int.{int_max}
use Rattle.map_nums.specs.Grids.{Cells, numbers_in}
use Rattle.std.proofs.lemmas.Nat.{pow_pos}
use Rattle.focal_ops.specs.Extremes.{IsMost, IsTable}
use Rattle.focal_ops.proofs.Mosts.{table_join}
use Rattle.focal_ops.proofs.Powers.{pow_step, pow_le}
use Rattle.focal_ops.proofs.Round.{row_end}
use Rattle.focal_ops.proofs.tables.fill_tables.Goals as goal

-- a table that is kept
kept : (l : Bool) (square : Cells) (n q p w here : ℕ) (old new : List ℤ) → n ≡ length square → here ≡ p * n → q < p + 1 → 0 < w → ((j : ℕ) → j < here + n → get_or new j (pos 0) ≡ get_or old j (pos 0)) → IsTable l square q w old → IsTable l square q w new
kept l square n q p w here old new e at h some k t m r =
    let low : q * n + n ≤ here + n = row_end q (p + 1) n (here + n) h (omega (arith, at)) in
    let same : q * length square ≡ q * n = rw (e) refl in
    rw (k (q * length square + m) (omega (arith, low, same, r, e, some))) (t m r)

-- and the next one
next : (l : Bool) (square : Cells) (n p w v here : ℕ) (old new : List ℤ) → n ≡ length square → here ≡ p * n → v ≡ 2 * w → ((m : ℕ) → m + 2 * w ≤ n → get_or new (here + n + m) (pos 0) ≡ int_max (get_or old (here + m) (pos 0)) (get_or old (here + (m + w)) (pos 0))) → IsTable l square p w old → IsTable l square (p + 1) v new
next l square n p w v here old new e at f j t m r =
    let r2 : m + 2 * w ≤ n = omega (arith, r, f, e) in
    let r1 : m + w + w ≤ length square = omega (arith, r, f) in
    let here2 : p * length square ≡ here = rw (← e) (sym at) in
    let next2 : (p + 1) * length square + m ≡ here + n + m = omega (arith, here2, e) in
    let first : IsMost l (numbers_in (slice_range square m (m + w))) (get_or old (here + m) (pos 0)) = subst (λ (k : ℕ). IsMost l (numbers_in (slice_range square m (m + w))) (get_or old (k + m) (pos 0))) here2 (t m (omega (arith, r1))) in
    let second : IsMost l (numbers_in (slice_range square (m + w) (m + w + w))) (get_or old (here + (m + w)) (pos 0)) = subst (λ (k : ℕ). IsMost l (numbers_in (slice_range square (m + w) (m + w + w))) (get_or old (k + (m + w)) (pos 0))) here2 (t (m + w) r1) in
    rw (f, next2) (table_join l square m w (get_or old (here + m) (pos 0)) (get_or old (here + (m + w)) (pos 0)) (get_or new (here + n + m) (pos 0)) first second (j m r2))

pub fill_next-requires-clause-narrow : goal.fill_next-requires-clause-narrow
fill_next-requires-clause-narrow c = omega (arith, pow_le (c.loop-p.p + 1) c.args.levels (omega (arith, c.loop-p-test.true)), pow_step c.loop-p.p, c.loop-p.invariant.width, c.requires.long)

pub fill_next-requires-clause-some : goal.fill_next-requires-clause-some
fill_next-requires-clause-some c = omega (arith, pow_pos c.loop-p.p, c.loop-p.invariant.width)

pub loop-p-preserved : goal.loop-p-preserved
loop-p-preserved c =
    let p = c.loop-p.p in
    let i = c.loop-p.invariant in
    let l = c.args.least in
    let square = c.args.square.now in
    let n = length square in
    let width : c.loop-p.width * 2 ≡ 2 ^ (p + 1) = omega (arith, pow_step p, i.width) in
    record {
      width = width;
      here = omega (arith, i.here);
      tables = below_more (λ q. IsTable l square q (2 ^ q) c.fill_next.new.tables) (p + 1)
          (λ q h. kept l square n q p (2 ^ q) c.loop-p.here c.loop-p.tables c.fill_next.new.tables refl i.here h (pow_pos2 q) c.fill_next.ensures.kept (i.tables q h))
          (next l square n p c.loop-p.width (2 ^ (p + 1)) c.loop-p.here c.loop-p.tables c.fill_next.new.tables refl i.here (omega (arith, width)) c.fill_next.ensures.joined (subst (λ (w : ℕ). IsTable l square p w c.loop-p.tables) (sym i.width) (i.tables p (omega arith))));
    }
  where
    pow_pos2 : (q : ℕ) → 0 < 2 ^ q
    pow_pos2 q = omega (arith, pow_pos q)
