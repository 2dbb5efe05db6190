-- Whole numbers of at most 18 digits after leading zeros.
use Rattle.std.specs.Prelude.{◌≡◌, ℕ, ◌^◌, ◌<◌, ◌≤◌, ◌==◌, ℤ, List, drop, Some, None, IsTrue, IsFalse}
use Rattle.std.specs.List.{prefix_len}
use Rattle.grid_text.specs.Numbers.{natural_in, whole_in, is_short}
use Rattle.grid_text.specs.declared.numbers.Natural.{Natural}
use Rattle.grid_text.specs.declared.numbers.Natural.TheVariants as naturals
use Rattle.grid_text.specs.declared.numbers.Whole.{Whole}
use Rattle.grid_text.specs.declared.numbers.Whole.TheVariants as wholes

-- digits after leading zeros
abbrev pub significant : List ℕ → List ℕ
significant text = drop (prefix_len (λ b. b == 48) text) text

abbrev pub IsNatural : List ℕ → Natural → Type 0
IsNatural text naturals.Not = natural_in text ≡ None
IsNatural text naturals.Long = (n : ℕ) × (natural_in text ≡ Some n) × (10 ^ 18 ≤ n)
IsNatural text (naturals.Short n) = (natural_in text ≡ Some n) × (n < 10 ^ 18)

abbrev pub IsWhole : List ℕ → Whole → Type 0
IsWhole text wholes.Not = whole_in text ≡ None
IsWhole text wholes.Long = (z : ℤ) × (whole_in text ≡ Some z) × IsFalse (is_short z)
IsWhole text (wholes.Short z) = (whole_in text ≡ Some z) × IsTrue (is_short z)
