use Rattle.std.proofs.Common.{slice_range, Bool, List, [], ℤ, ◌%◌, replicate, ◌≡◌, ℕ, ◌+◌, ◌-◌, ◌*◌, ◌^◌, ◌<◌, ◌≤◌, get_or, length, pos, ◌∙◌, ap, arith}
use Rattle.std.specs.Int.{int_max}
use Rattle.std.proofs.lemmas.Nat.{one_shl, pow_pos}
use Rattle.map_nums.specs.Grids.{Cells}
use Rattle.std.proofs.lemmas.List.{get_or-replicate, length-replicate}
use Rattle.focal_ops.specs.Masks.{numbers_to, piece_numbers}
use Rattle.focal_ops.specs.Extremes.{IsMost, IsTable, nothing}
use Rattle.focal_ops.proofs.Mosts.{is_most-append, table_cover, most_nothing}
use Rattle.focal_ops.proofs.Powers.{level_below}
use Rattle.focal_ops.proofs.Joins.{slice_long, sliced}
use Rattle.focal_ops.proofs.Round.{numbers_more, row_end}
use Rattle.focal_ops.proofs.extremes.words_round.Goals as goal

-- a word of one more row of offsets
one_more : (l : Bool) (reach : ℕ) (halves : List ℕ) (square : Cells) (w r c k p : ℕ) (tables : List ℤ) (old new : ℤ) → IsMost l (numbers_to reach halves square w r c k) old → 2 ^ p ≤ 2 * get_or halves k 0 + 1 → 2 * get_or halves k 0 + 1 < 2 * 2 ^ p → get_or halves k 0 ≤ reach → (r + k) * w + (c + reach - get_or halves k 0) + (2 * get_or halves k 0 + 1) ≤ length square → IsTable l square p (2 ^ p) tables → new ≡ int_max old (int_max (get_or tables (p * length square + ((r + k) * w + (c + reach - get_or halves k 0))) (pos 0)) (get_or tables (p * length square + ((r + k) * w + (c + reach - get_or halves k 0) + (2 * get_or halves k 0 + 1 - 2 ^ p))) (pos 0))) → IsMost l (numbers_to reach halves square w r c (k + 1)) new
one_more l reach halves square w r c k p tables old new h low high most room t e =
    let half = get_or halves k 0 in
    let i = (r + k) * w + (c + reach - half) in
    let wide = 2 * half + 1 in
    let a = get_or tables (p * length square + i) (pos 0) in
    let b = get_or tables (p * length square + (i + (wide - 2 ^ p))) (pos 0) in
    rw (numbers_more reach halves square w r c k)
    (is_most-append l (numbers_to reach halves square w r c k) (piece_numbers reach halves square w r c k) old (int_max a b) new h
    (table_cover l square i (2 ^ p) wide a b low (omega (arith, high)) (t i (omega (arith, room, low))) (t (i + (wide - 2 ^ p)) (omega (arith, room, low))))
    e)

join_slices : (tables : List ℤ) (first last w j a b : ℕ) (old new : ℤ) → new ≡ int_max old (int_max (get_or (slice_range tables first (first + w)) j (pos 0)) (get_or (slice_range tables last (last + w)) j (pos 0))) → j < w → first + j ≡ a → last + j ≡ b → new ≡ int_max old (int_max (get_or tables a (pos 0)) (get_or tables b (pos 0)))
join_slices tables first last w j a b old new e l p q =
    e
    ∙ ap (λ z. int_max old (int_max z (get_or (slice_range tables last (last + w)) j (pos 0)))) (sliced tables first w j a l p)
    ∙ ap (λ z. int_max old (int_max (get_or tables a (pos 0)) z)) (sliced tables last w j b l q)

pub loop-k-init : goal.loop-k-init
unfolding numbers_to
loop-k-init c = record { room = length-replicate {A = ℤ} 32 nothing; words = λ k l. init c.args.least 32 k (omega (arith, l, c.requires.few)) }
  where
    init : (l : Bool) (n k : ℕ) → k < n → IsMost l [] (get_or (replicate n nothing) k (pos 0))
    init l n k h = rw (get_or-replicate {A = ℤ} n k nothing (pos 0) h) (most_nothing l)

pub slice_bounds-join-end-in-loop-k : goal.slice_bounds-join-end-in-loop-k
slice_bounds-join-end-in-loop-k c =
    let b = c.args.near.now in
    let reach = c.args.mask.now.reach in
    let halves = c.args.mask.now.halves in
    let k = c.loop-k.k in
    let half = get_or halves k 0 in
    let p = c.ilog2-p.result in
    let n = length b.cells in
    let t = c.requires.tables in
    let row : k < 65 = omega (arith, c.loop-k-test.true, c.requires.mask.few) in
    let most : half ≤ reach = c.requires.mask.most k row in
    let shift : (1 * 2 ^ p) % 2 ^ 32 ≡ 2 ^ p = one_shl p 32 c.ilog2-p.ensures.bound in
    let power = c.ilog2-p.ensures.power_le in
    let some = pow_pos p in
    let same : length c.cells.result.now ≡ n = ap length c.cells.ensures.cells in
    let count : n ≡ b.height * b.width = omega (arith, same, c.cells.ensures.count) in
    let end : (c.args.r + k) * b.width + b.width ≤ n = row_end (c.args.r + k) b.height b.width n (omega (arith, c.loop-k-test.true, c.requires.row)) (omega (arith, count)) in
    let level : p ≤ t.levels = level_below p t.levels (2 * reach + 1) (omega (arith, power, most)) t.enough in
    let table : p * n + n ≤ length c.args.tables.now = row_end p (t.levels + 1) n (length c.args.tables.now) (omega (arith, level)) (omega (arith, t.count)) in
    let start : c.start_of.result ≡ (c.args.r + k) * b.width = c.start_of.ensures ∙ ap (λ w. (c.args.r + k) * w) c.width-width.ensures in
    let begin : c.start_of-in-loop-k.result ≡ p * n = c.start_of-in-loop-k.ensures ∙ ap (λ m. p * m) same in
    omega (arith, table, start, begin, end, most, c.requires.columns)

pub slice_bounds-join-end-in-loop-k-2 : goal.slice_bounds-join-end-in-loop-k-2
slice_bounds-join-end-in-loop-k-2 c =
    let b = c.args.near.now in
    let reach = c.args.mask.now.reach in
    let halves = c.args.mask.now.halves in
    let k = c.loop-k.k in
    let half = get_or halves k 0 in
    let p = c.ilog2-p.result in
    let n = length b.cells in
    let t = c.requires.tables in
    let row : k < 65 = omega (arith, c.loop-k-test.true, c.requires.mask.few) in
    let most : half ≤ reach = c.requires.mask.most k row in
    let shift : (1 * 2 ^ p) % 2 ^ 32 ≡ 2 ^ p = one_shl p 32 c.ilog2-p.ensures.bound in
    let power = c.ilog2-p.ensures.power_le in
    let some = pow_pos p in
    let same : length c.cells.result.now ≡ n = ap length c.cells.ensures.cells in
    let count : n ≡ b.height * b.width = omega (arith, same, c.cells.ensures.count) in
    let end : (c.args.r + k) * b.width + b.width ≤ n = row_end (c.args.r + k) b.height b.width n (omega (arith, c.loop-k-test.true, c.requires.row)) (omega (arith, count)) in
    let level : p ≤ t.levels = level_below p t.levels (2 * reach + 1) (omega (arith, power, most)) t.enough in
    let table : p * n + n ≤ length c.args.tables.now = row_end p (t.levels + 1) n (length c.args.tables.now) (omega (arith, level)) (omega (arith, t.count)) in
    let start : c.start_of.result ≡ (c.args.r + k) * b.width = c.start_of.ensures ∙ ap (λ w. (c.args.r + k) * w) c.width-width.ensures in
    let begin : c.start_of-in-loop-k.result ≡ p * n = c.start_of-in-loop-k.ensures ∙ ap (λ m. p * m) same in
    omega (arith, table, start, begin, end, most, shift, some, power, c.requires.columns)

pub loop-k-preserved : goal.loop-k-preserved
loop-k-preserved c =
    let b = c.args.near.now in
    let reach = c.args.mask.now.reach in
    let halves = c.args.mask.now.halves in
    let k = c.loop-k.k in
    let half = get_or halves k 0 in
    let p = c.ilog2-p.result in
    let n = length b.cells in
    let t = c.requires.tables in
    let row : k < 65 = omega (arith, c.loop-k-test.true, c.requires.mask.few) in
    let most : half ≤ reach = c.requires.mask.most k row in
    let shift : (1 * 2 ^ p) % 2 ^ 32 ≡ 2 ^ p = one_shl p 32 c.ilog2-p.ensures.bound in
    let power = c.ilog2-p.ensures.power_le in
    let some = pow_pos p in
    let same : length c.cells.result.now ≡ n = ap length c.cells.ensures.cells in
    let count : n ≡ b.height * b.width = omega (arith, same, c.cells.ensures.count) in
    let end : (c.args.r + k) * b.width + b.width ≤ n = row_end (c.args.r + k) b.height b.width n (omega (arith, c.loop-k-test.true, c.requires.row)) (omega (arith, count)) in
    let level : p ≤ t.levels = level_below p t.levels (2 * reach + 1) (omega (arith, power, most)) t.enough in
    let table : p * n + n ≤ length c.args.tables.now = row_end p (t.levels + 1) n (length c.args.tables.now) (omega (arith, level)) (omega (arith, t.count)) in
    let start : c.start_of.result ≡ (c.args.r + k) * b.width = c.start_of.ensures ∙ ap (λ w. (c.args.r + k) * w) c.width-width.ensures in
    let begin : c.start_of-in-loop-k.result ≡ p * n = c.start_of-in-loop-k.ensures ∙ ap (λ m. p * m) same in
    let w = c.args.columns in
    let tables = c.args.tables.now in
    let first = c.start_of-in-loop-k.result + (c.start_of.result + (reach - half)) in
    let last = first + (2 * half + 1 - 2 ^ p) in
    record {
      room = c.join.auto.words ∙ c.loop-k.invariant.room;
      words = λ j l.
          one_more c.args.least reach halves b.cells b.width c.args.r j k p tables (get_or c.loop-k.words j (pos 0)) (get_or c.join.new.words j (pos 0)) (c.loop-k.invariant.words j l) power c.ilog2-p.ensures.next_power_gt most
          (omega (arith, end, l, c.requires.columns, most))
          (t.are p level)
          (join_slices tables first last w j _ _ (get_or c.loop-k.words j (pos 0)) (get_or c.join.new.words j (pos 0))
          (rw shift at c.join.ensures j (rw (slice_long tables first w (omega (arith, table, start, begin, end, most, c.requires.columns))) l))
          l (omega (arith, most, start, begin)) (omega (arith, most, power, start, begin)));
    }
