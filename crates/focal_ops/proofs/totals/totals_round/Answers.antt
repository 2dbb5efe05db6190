use Rattle.std.proofs.Common.{◌≡◌, ℕ, suc, ◌+◌, ◌-◌, ◌*◌, ◌<◌, ◌≤◌, get_or, length, slice_range, List, ℤ, pos, ◌+ℤ◌, ◌-ℤ◌, replicate, refl, ◌∙◌, ap, arith}
use Rattle.std.proofs.lemmas.List.{length-replicate}
use Rattle.focal_ops.specs.Totals.{IsWithin, Rises, differences}
use Rattle.focal_ops.proofs.Joins.{slice_long, sliced}
use Rattle.focal_ops.proofs.Round.{row_end}
use Rattle.focal_ops.proofs.FirstCells.{zero_at, within_zero, within_more, rise_over}
use Rattle.focal_ops.proofs.totals.totals_round.Goals as goal

zero_within : (n k : ℕ) → IsWithin 0 (get_or (replicate n (pos 0)) k (pos 0))
zero_within n k = rw (zero_at n k) (within_zero 0)

next_row : (reach : ℕ) (halves : List ℕ) (fronts : List ℤ) (v r j k first last w : ℕ) (old new : ℤ) → old ≡ differences reach halves fronts v r j k → new ≡ old +ℤ (get_or (slice_range fronts last (last + w)) j (pos 0) -ℤ get_or (slice_range fronts first (first + w)) j (pos 0)) → j < w → first + j ≡ (r + k) * v + (j + reach - get_or halves k 0) → last + j ≡ (r + k) * v + (j + reach - get_or halves k 0) + (2 * get_or halves k 0 + 1) → new ≡ differences reach halves fronts v r j (k + 1)
next_row reach halves fronts v r j k first last w old new e g l p q =
    let next : suc k ≡ k + 1 = omega arith in
    g
    ∙ ap (λ z. z +ℤ (get_or (slice_range fronts last (last + w)) j (pos 0) -ℤ get_or (slice_range fronts first (first + w)) j (pos 0))) e
    ∙ ap (λ z. differences reach halves fronts v r j k +ℤ (z -ℤ get_or (slice_range fronts first (first + w)) j (pos 0))) (sliced fronts last w j _ l q)
    ∙ ap (λ z. differences reach halves fronts v r j k +ℤ (get_or fronts ((r + k) * v + (j + reach - get_or halves k 0) + (2 * get_or halves k 0 + 1)) (pos 0) -ℤ z)) (sliced fronts first w j _ l p)
    ∙ ap (differences reach halves fronts v r j) next

pub loop-k-init : goal.loop-k-init
loop-k-init c = record { room = length-replicate {A = ℤ} 32 (pos 0); totals = λ k l. zero_at 32 k; within = λ k l. zero_within 32 k }

pub slice_bounds-add-end-in-loop-k : goal.slice_bounds-add-end-in-loop-k
slice_bounds-add-end-in-loop-k c =
    let b = c.args.near.now in
    let k = c.loop-k.k in
    let row : k < 65 = omega (arith, c.loop-k-test.true, c.requires.mask.few) in
    let most = c.requires.mask.most k row in
    let start : c.start_of.result ≡ (c.args.r + k) * b.width = c.start_of.ensures ∙ ap (λ w. (c.args.r + k) * w) c.width-width.ensures in
    let end = row_end (c.args.r + k) b.height b.width (length b.cells) (omega (arith, c.loop-k-test.true, c.requires.row)) (omega (arith, c.requires.count)) in
    omega (arith, start, end, most, c.requires.columns, c.requires.room)

pub slice_bounds-add-end-in-loop-k-2 : goal.slice_bounds-add-end-in-loop-k-2
slice_bounds-add-end-in-loop-k-2 c =
    let b = c.args.near.now in
    let k = c.loop-k.k in
    let row : k < 65 = omega (arith, c.loop-k-test.true, c.requires.mask.few) in
    let most = c.requires.mask.most k row in
    let start : c.start_of.result ≡ (c.args.r + k) * b.width = c.start_of.ensures ∙ ap (λ w. (c.args.r + k) * w) c.width-width.ensures in
    let end = row_end (c.args.r + k) b.height b.width (length b.cells) (omega (arith, c.loop-k-test.true, c.requires.row)) (omega (arith, c.requires.count)) in
    omega (arith, start, end, most, c.requires.columns, c.requires.room)

-- a piece of at most 65 cells
piece_within : (fronts : List ℤ) (n first last w half j : ℕ) → Rises n fronts → j < w → last ≡ first + (2 * half + 1) → half ≤ 32 → last + j ≤ n → IsWithin 65 (get_or (slice_range fronts last (last + w)) j (pos 0) -ℤ get_or (slice_range fronts first (first + w)) j (pos 0))
piece_within fronts n first last w half j rises l e few room =
    let at : last + j ≡ (first + j) + (2 * half + 1) = omega arith in
    let r = rise_over fronts n (first + j) (2 * half + 1) rises (omega arith) in
    rw (sliced fronts last w j (last + j) l refl, sliced fronts first w j (first + j) l refl, at) (within_more (2 * half + 1) 65 (get_or fronts ((first + j) + (2 * half + 1)) (pos 0) -ℤ get_or fronts (first + j) (pos 0)) (omega arith) r)

pub add-requires-clause-rises : goal.add-requires-clause-rises
add-requires-clause-rises c =
    let b = c.args.near.now in
    let k = c.loop-k.k in
    let half = get_or c.args.mask.now.halves k 0 in
    let w = c.args.columns in
    let fronts = c.args.fronts.now in
    let row : k < 65 = omega (arith, c.loop-k-test.true, c.requires.mask.few) in
    let most : half ≤ c.args.mask.now.reach = c.requires.mask.most k row in
    let start : c.start_of.result ≡ (c.args.r + k) * b.width = c.start_of.ensures ∙ ap (λ w. (c.args.r + k) * w) c.width-width.ensures in
    let end = row_end (c.args.r + k) b.height b.width (length b.cells) (omega (arith, c.loop-k-test.true, c.requires.row)) (omega (arith, c.requires.count)) in
    let first = c.start_of.result + (c.args.mask.now.reach - half) in
    let last = first + (2 * half + 1) in
    let long : length (slice_range fronts first (first + w)) ≡ w = slice_long fronts first w (omega (arith, start, end, most, c.requires.columns, c.requires.room)) in
    λ j l. let m : j < w = rw long at l in piece_within fronts (length b.cells) first last w half j c.requires.fronts m refl (omega (arith, most, c.requires.mask.few)) (omega (arith, start, end, most, m, c.requires.columns, c.requires.room))

pub loop-k-preserved : goal.loop-k-preserved
loop-k-preserved c =
    let b = c.args.near.now in
    let reach = c.args.mask.now.reach in
    let halves = c.args.mask.now.halves in
    let k = c.loop-k.k in
    let half = get_or halves k 0 in
    let r = c.args.r in
    let w = c.args.columns in
    let fronts = c.args.fronts.now in
    let row : k < 65 = omega (arith, c.loop-k-test.true, c.requires.mask.few) in
    let most : half ≤ reach = c.requires.mask.most k row in
    let start : c.start_of.result ≡ (r + k) * b.width = c.start_of.ensures ∙ ap (λ w. (r + k) * w) c.width-width.ensures in
    let end = row_end (r + k) b.height b.width (length b.cells) (omega (arith, c.loop-k-test.true, c.requires.row)) (omega (arith, c.requires.count)) in
    let first = c.start_of.result + (reach - half) in
    let last = first + (2 * half + 1) in
    let long : length (slice_range fronts first (first + w)) ≡ w = slice_long fronts first w (omega (arith, start, end, most, c.requires.columns, c.requires.room)) in
    record {
      room = c.add.auto.totals ∙ c.loop-k.invariant.room;
      totals = λ j l.
          next_row reach halves fronts b.width r j k first last w (get_or c.loop-k.totals j (pos 0)) (get_or c.add.new.totals j (pos 0)) (c.loop-k.invariant.totals j l)
          (c.add.ensures.sums j (rw (long) l)) l (omega (arith, most, start)) (omega (arith, most, start));
      within = λ j l. c.add.ensures.within j (rw (long) l);
    }
