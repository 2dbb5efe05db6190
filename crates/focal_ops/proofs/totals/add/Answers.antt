use Rattle.std.proofs.Common.{◌≡◌, ◌*◌, refl, get_or, pos, ◌+ℤ◌, ◌-ℤ◌, arith, rules, FitsSigned, to_z, of_z, w64}
use Rattle.std.proofs.lemmas.Int.{to_z-of_z}
use Rattle.focal_ops.specs.Totals.{IsWithin}
use Rattle.focal_ops.proofs.Joins.{rest_more}
use Rattle.focal_ops.proofs.FirstCells.{adds_more, fits_rise, fits_total, within_rise}
use Rattle.focal_ops.proofs.totals.add.Goals as goal
use Rattle.focal_ops.proofs.totals.add.Goals.{After-totals-in-loop-c-2-1}

within : (c : After-totals-in-loop-c-2-1) → IsWithin (65 * c.args.k) (get_or c.loop-c.totals c.loop-c.c (pos 0))
within c = rw (c.loop-c.invariant.rest c.loop-c.c (omega arith)) (c.requires.totals c.loop-c.c c.loop-c-test.true)

rise : (c : After-totals-in-loop-c-2-1) → to_z w64 (of_z w64 (to_z w64 (of_z w64 (get_or c.args.right.now c.loop-c.c (pos 0))) -ℤ to_z w64 (of_z w64 (get_or c.args.left.now c.loop-c.c (pos 0))))) ≡ get_or c.args.right.now c.loop-c.c (pos 0) -ℤ get_or c.args.left.now c.loop-c.c (pos 0)
rise c =
    let a = get_or c.args.left.now c.loop-c.c (pos 0) in
    let b = get_or c.args.right.now c.loop-c.c (pos 0) in
    let fits_a : FitsSigned w64 a = search rules in
    let fits_b : FitsSigned w64 b = search rules in
    rw (to_z-of_z w64 a fits_a, to_z-of_z w64 b fits_b)
    (to_z-of_z w64 (b -ℤ a) (fits_rise (b -ℤ a) (c.requires.rises c.loop-c.c c.loop-c-test.true)))

total : (c : After-totals-in-loop-c-2-1) → FitsSigned w64 (get_or c.loop-c.totals c.loop-c.c (pos 0) +ℤ (get_or c.args.right.now c.loop-c.c (pos 0) -ℤ get_or c.args.left.now c.loop-c.c (pos 0)))
total c = fits_total c.args.k (get_or c.loop-c.totals c.loop-c.c (pos 0)) (get_or c.args.right.now c.loop-c.c (pos 0) -ℤ get_or c.args.left.now c.loop-c.c (pos 0)) c.requires.few (within c) (c.requires.rises c.loop-c.c c.loop-c-test.true)

pub overflow_add-totals : goal.overflow_add-totals
overflow_add-totals c =
    let x = get_or c.loop-c.totals c.loop-c.c (pos 0) in
    let fits_x : FitsSigned w64 x = search rules in
    rw (rise c, to_z-of_z w64 x fits_x) (total c)

pub loop-c-preserved : goal.loop-c-preserved
loop-c-preserved c =
    let d = (goal.at.loop-c-preserved c).After-totals-in-loop-c-2-1 in
    let x = get_or c.loop-c.totals c.loop-c.c (pos 0) in
    let word = x +ℤ (get_or c.args.right.now c.loop-c.c (pos 0) -ℤ get_or c.args.left.now c.loop-c.c (pos 0)) in
    let fits_x : FitsSigned w64 x = search rules in
    rw (rise d, to_z-of_z w64 x fits_x, to_z-of_z w64 word (total d))
    record {
      done = adds_more c.args.totals.now c.loop-c.totals c.args.left.now c.args.right.now c.loop-c.c word c.loop-c.invariant.done c.loop-c.invariant.rest (omega (arith, c.requires.room, c.loop-c-test.true, c.loop-c.auto.totals)) refl;
      rest = rest_more c.args.totals.now c.loop-c.totals c.loop-c.c word c.loop-c.invariant.rest;
    }

pub returns-clause-within : goal.returns-clause-within
returns-clause-within c = λ j l. rw (c.loop-c.invariant.done j (omega (arith, l, c.loop-c-test.false))) (within_rise c.args.k (get_or c.args.totals.now j (pos 0)) (get_or c.args.right.now j (pos 0) -ℤ get_or c.args.left.now j (pos 0)) (c.requires.totals j l) (c.requires.rises j l))
