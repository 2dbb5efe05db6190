use Rattle.std.proofs.Common.{arith}
use Rattle.grid_text.proofs.FewDigits.{few_digits}
use Rattle.grid_text.proofs.numbers.few_digits.Goals as goal

pub overflow_mul-number : goal.overflow_mul-number
overflow_mul-number c =
    omega (arith, few_digits c.loop-byte.byte-index c.loop-byte.number (omega (arith, c.loop-byte-test.true, c.if-text-gt-MOST_DIGITS.false)) c.loop-byte.invariant.bound)

pub overflow_add-number : goal.overflow_add-number
overflow_add-number c =
    omega (arith, few_digits c.loop-byte.byte-index c.loop-byte.number (omega (arith, c.loop-byte-test.true, c.if-text-gt-MOST_DIGITS.false)) c.loop-byte.invariant.bound, c.type_inv.text c.loop-byte.byte-index)

pub returns-clause-bound : goal.returns-clause-bound
returns-clause-bound c = few_digits c.loop-byte.byte-index c.loop-byte.number (omega (arith, c.loop-byte.auto.byte-index-end, c.if-text-gt-MOST_DIGITS.false)) c.loop-byte.invariant.bound
