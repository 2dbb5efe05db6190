-- Numbers of few digits.
use Rattle.std.proofs.Common.{◌≡◌, ℕ, ◌+◌, ◌-◌, ◌*◌, ◌^◌, ◌<◌, ◌≤◌, true, nat_le, List, length, get_or, arith, add-one, pow-suc, refl}
use Rattle.std.specs.Char.{is_ascii_digit}
use Rattle.std.specs.List.{list_all}
use Rattle.std.proofs.lemmas.Bool.{and_parts, leb-true}
use Rattle.std.proofs.lemmas.List.Sums.{AllPass-from_list_all}
use Rattle.std.proofs.Math.Nat.{pow-le-pow_right}

-- the next digit of a number that has i digits
pub record DigitFits (n b i : ℕ) : Type 0 where
  pub least : 48 ≤ b
  pub most : b ≤ 57
  pub below : 10 * n + (b - 48) < 10 ^ (i + 1)
  pub bound : 10 ^ (i + 1) ≤ 1000000000000000000

digit_at : (text : List ℕ) (i : ℕ) → list_all is_ascii_digit text ≡ true → i < length text → (48 ≤ get_or text i 0) × (get_or text i 0 ≤ 57)
digit_at text i h l =
    let range = and_parts (nat_le 48 (get_or text i 0)) (nat_le (get_or text i 0) 57) (AllPass-from_list_all is_ascii_digit text h i 0 l) in
    (leb-true 48 (get_or text i 0) range.0, leb-true (get_or text i 0) 57 range.1)

power_fits : (k : ℕ) → k ≤ 18 → 10 ^ k ≤ 10 ^ 18
power_fits k l = pow-le-pow_right {n = 10} (omega arith) {i = k} {j = 18} l

pub digit_fits : (text : List ℕ) (n b i : ℕ) → list_all is_ascii_digit text ≡ true → length text ≤ 18 → i < length text → n < 10 ^ i → b ≡ get_or text i 0 → DigitFits n b i
digit_fits text n b i h few l m e =
    let digit = digit_at text i h l in
    let next : 10 ^ (i + 1) ≡ 10 ^ i * 10 = rw (add-one, pow-suc) refl in
    record {
      least = rw e digit.0;
      most = rw e digit.1;
      below = omega (arith, next, m, digit.0, digit.1, e);
      bound = power_fits (i + 1) (omega (arith, few, l));
    }

pub few_digits : (k n : ℕ) → k ≤ 18 → n < 10 ^ k → n < 1000000000000000000
few_digits k n few m = omega (arith, power_fits k few, m)
