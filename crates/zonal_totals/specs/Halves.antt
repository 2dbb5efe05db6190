-- Numbers in two halves of 32 bits.
use mir.Syntax.{w64}
use Rattle.std.specs.Prelude.{◌≡◌, ℕ, ◌<◌, ◌+◌, ◌*◌, ◌/◌, ◌%◌, ◌^◌, ℤ}
use Rattle.std.specs.Int.{cast_signed, cast_unsigned}
use Rattle.std.proofs.Common.{ap, ◌∙◌, arith}
use Rattle.std.proofs.lemmas.Int.{of_z-to_z}
use Rattle.std.proofs.lemmas.Nat.{shr_high, mod_low}

-- the number of a high half and a low one
abbrev pub from_halves : ℕ → ℕ → ℤ
from_halves high low = cast_signed w64 (high * 2 ^ 32 + low)

abbrev pub high_half : ℤ → ℕ
high_half z = cast_unsigned w64 z / 2 ^ 32

abbrev pub low_half : ℤ → ℕ
low_half z = cast_unsigned w64 z % 2 ^ 32

pub high_half_back : (h l : ℕ) → h < 2 ^ 32 → l < 2 ^ 32 → high_half (from_halves h l) ≡ h
high_half_back h l p q =
    ap (λ (n : ℕ). n / 2 ^ 32) (of_z-to_z w64 (h * 2 ^ 32 + l) (omega (arith, p, q))) ∙ shr_high h 32 l q

pub low_half_back : (h l : ℕ) → h < 2 ^ 32 → l < 2 ^ 32 → low_half (from_halves h l) ≡ l
low_half_back h l p q =
    ap (λ (n : ℕ). n % 2 ^ 32) (of_z-to_z w64 (h * 2 ^ 32 + l) (omega (arith, p, q))) ∙ mod_low h 32 l q
