use Rattle.std.proofs.Common.{◌+◌, ◌*◌, ◌-◌, get_or, refl, sym, ap, ◌∙◌, arith}
use Rattle.std.proofs.lemmas.List.Sums.{fold_more}
use Rattle.grid_text.proofs.FewDigits.{digit_fits, few_digits}
use Rattle.grid_text.proofs.numbers.digits_number.Goals as goal

pub overflow_mul-number : goal.overflow_mul-number
overflow_mul-number c =
    let f = digit_fits c.args.text.now c.loop-byte.number (get_or c.args.text.now c.loop-byte.byte-index 0) c.loop-byte.byte-index c.requires.digits c.requires.few c.loop-byte-test.true c.loop-byte.invariant.bound refl in
    omega (arith, f.least, f.below, f.bound)

pub overflow_sub-number : goal.overflow_sub-number
overflow_sub-number c =
    let f = digit_fits c.args.text.now c.loop-byte.number (get_or c.args.text.now c.loop-byte.byte-index 0) c.loop-byte.byte-index c.requires.digits c.requires.few c.loop-byte-test.true c.loop-byte.invariant.bound refl in
    omega (arith, f.least)

pub overflow_add-number : goal.overflow_add-number
overflow_add-number c =
    let f = digit_fits c.args.text.now c.loop-byte.number (get_or c.args.text.now c.loop-byte.byte-index 0) c.loop-byte.byte-index c.requires.digits c.requires.few c.loop-byte-test.true c.loop-byte.invariant.bound refl in
    omega (arith, f.least, f.below, f.bound)

pub loop-byte-preserved : goal.loop-byte-preserved
loop-byte-preserved c =
    let f = digit_fits c.args.text.now c.loop-byte.number (get_or c.args.text.now c.loop-byte.byte-index 0) c.loop-byte.byte-index c.requires.digits c.requires.few c.loop-byte-test.true c.loop-byte.invariant.bound refl in
    record {
      value = ap (λ n. 10 * n + (get_or c.args.text.now c.loop-byte.byte-index 0 - 48)) c.loop-byte.invariant.value ∙ sym (fold_more (λ n b. 10 * n + (b - 48)) 0 c.args.text.now c.loop-byte.byte-index 0 c.loop-byte-test.true);
      bound = f.below;
    }

pub returns-clause-bound : goal.returns-clause-bound
returns-clause-bound c = few_digits c.loop-byte.byte-index c.loop-byte.number (omega (arith, c.loop-byte.auto.byte-index-end, c.requires.few)) c.loop-byte.invariant.bound
