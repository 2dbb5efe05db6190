use Rattle.std.proofs.Common.{◌≡◌, ◌∙◌, ℕ, ◌<◌, length, get_or, ap, sym, arith}
use Rattle.std.proofs.lemmas.List.{get_or_default}
use Rattle.layer_tiles.specs.Tiles.{Block}
use Rattle.layer_tiles.proofs.Swapping.{swapping_none, swapping_more, swapping_all, swapped_number}
use Rattle.layer_tiles.proofs.writes.swap_tiles.Goals as goal

pub loop-at-init : goal.loop-at-init
loop-at-init c = swapping_none c.args.extent c.args.entries.now c.args.tiles.now c.requires.whole

pub bounds-tiles-number : goal.bounds-tiles-number
bounds-tiles-number c =
    let n = swapped_number c.args.extent c.args.entries.now c.args.tiles.now c.loop-at.entries c.loop-at.tiles c.loop-at.at c.index-entries-at.result c.requires.patch c.loop-at.invariant c.loop-at-test.true c.index-entries-at.is in
    omega (arith, n.0, ap (λ (e : ℕ × Block). e.0) c.index-entries-at.is)

pub loop-at-preserved : goal.loop-at-preserved
loop-at-preserved c =
    let e = c.index-entries-at.result in
    let t : (get_or c.loop-at.entries c.loop-at.at e).0 ≡ e.0 = ap (λ (e : ℕ × Block). e.0) (sym c.index-entries-at.is) in
    let l : c.loop-at.at < length c.loop-at.entries = omega (arith, c.loop-at-test.true, c.loop-at.auto.entries) in
    let n = swapped_number c.args.extent c.args.entries.now c.args.tiles.now c.loop-at.entries c.loop-at.tiles c.loop-at.at e c.requires.patch c.loop-at.invariant c.loop-at-test.true c.index-entries-at.is in
    let x : c.swap.new.x ≡ get_or c.loop-at.tiles e.0 c.swap.new.x = c.swap.ensures.x_after ∙ ap (λ (k : ℕ). get_or c.loop-at.tiles k c.index-tiles-number.result) t ∙ get_or_default c.loop-at.tiles e.0 c.index-tiles-number.result c.swap.new.x n.0 in
    let y : c.swap.new.y ≡ e = c.swap.ensures.y_after ∙ get_or_default c.loop-at.entries c.loop-at.at c.index-entries-at-in-loop-at.result e l ∙ sym c.index-entries-at.is in
    rw (t, y) (swapping_more c.args.extent c.args.entries.now c.args.tiles.now c.loop-at.entries c.loop-at.tiles c.loop-at.at e c.requires.patch c.loop-at.invariant c.loop-at-test.true c.index-entries-at.is c.swap.new.x x)

pub returns-clause-whole : goal.returns-clause-whole
returns-clause-whole c = c.loop-at.invariant.whole

pub returns-clause-cells : goal.returns-clause-cells
returns-clause-cells c = (swapping_all c.args.extent c.args.entries.now c.args.tiles.now c.loop-at.entries c.loop-at.tiles c.loop-at.at c.loop-at.invariant c.loop-at-test.false).1

pub returns-clause-taken : goal.returns-clause-taken
returns-clause-taken c = (swapping_all c.args.extent c.args.entries.now c.args.tiles.now c.loop-at.entries c.loop-at.tiles c.loop-at.at c.loop-at.invariant c.loop-at-test.false).0
