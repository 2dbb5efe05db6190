use Rattle.std.proofs.Common.{rules, ℕ, ◌∙◌, Some, ap, sym, length, nat_lt, nat_le}
use Rattle.std.specs.Char.{is_ascii_digit}
use Rattle.std.specs.List.{list_all}
use Rattle.std.proofs.lemmas.Bool.{and_parts, ltb-true}
use Rattle.grid_text.specs.Numbers.{are_digits}
use Rattle.grid_text.proofs.NumberTexts.{natural_digits}
use Rattle.grid_text.proofs.Naturals.{digits_pass, short_natural, long_natural}
use Rattle.grid_text.proofs.numbers.read_natural.Goals as goal

pub returns-in-Some : goal.returns-in-Some
returns-in-Some c =
    let text = c.args.text.now in
    let parts = and_parts (are_digits text) (nat_le (length text) 18) (c.in-Some.ensures.some.0 (search rules)) in
    let digits = and_parts (nat_lt 0 (length text)) (list_all is_ascii_digit text) parts.0 in
    (natural_digits text (ltb-true 0 (length text) digits.0) digits.1 ∙ ap (λ (k : ℕ). Some k) (sym c.in-Some.ensures.value), c.in-Some.ensures.bound)

pub returns-then-digits-gt-MOST_DIGITS : goal.returns-then-digits-gt-MOST_DIGITS
returns-then-digits-gt-MOST_DIGITS c =
    long_natural c.args.text.now c.split_at.result.0.now c.split_at.result.1.now c.significant-digits.result.now c.digits_len-count.result
    c.digits_len-count.ensures.count c.if-count-eq0.false c.split_at.ensures.front c.split_at.ensures.back (cc) c.significant-digits.ensures c.if-digits-gt-MOST_DIGITS.true

pub digits_number-requires-clause-digits : goal.digits_number-requires-clause-digits
digits_number-requires-clause-digits c =
    digits_pass c.args.text.now c.split_at.result.0.now c.significant-digits.result.now c.digits_len-count.result c.digits_len-count.ensures.count c.split_at.ensures.front c.significant-digits.ensures

pub returns : goal.returns
returns c =
    short_natural c.args.text.now c.split_at.result.0.now c.split_at.result.1.now c.significant-digits.result.now c.digits_len-count.result c.digits_number.result
    c.digits_len-count.ensures.count c.if-count-eq0.false c.split_at.ensures.front c.split_at.ensures.back (cc) c.significant-digits.ensures c.digits_number.ensures.value c.digits_number.ensures.bound
