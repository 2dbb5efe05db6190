-- A product that is held at one past a bound once it lies outside.
use Rattle.std.proofs.Common.{◌≡◌, ◌⊎◌, inl, inr, ℕ, zero, suc, ◌<◌, ◌≤◌, ℤ, pos, negsuc, ◌*ℤ◌, unsigned_abs, refl, sym, ap, ◌∙◌, arith}
use Rattle.std.specs.Int.{int_max, int_min}
use Rattle.std.proofs.Math.Nat.{mul-le-mul}
use Rattle.std.proofs.lemmas.Bool.{cases_lt}
use Rattle.std.proofs.lemmas.Int.{ints, clamps, unsigned_abs-mul}

abbrev pub clamped : ℕ → ℤ → ℤ
clamped m z = int_max (negsuc m) (int_min z (pos (suc m)))

-- they are the same, or both are past the bound
pub record IsHeld (m : ℕ) (whole held : ℤ) : Type 0 where
  pub near : unsigned_abs held ≤ suc m
  pub agrees : ((held ≡ whole) × (unsigned_abs held ≤ m)) ⊎ ((m < unsigned_abs held) × (m < unsigned_abs whole))

clamped_within : (m : ℕ) (z : ℤ) → unsigned_abs z ≤ m → clamped m z ≡ z
clamped_within m (pos n) h = omega (arith, ints, clamps)
clamped_within m (negsuc n) h = omega (arith, ints, clamps)

clamped_past : (m : ℕ) (z : ℤ) → m < unsigned_abs z → unsigned_abs (clamped m z) ≡ suc m
clamped_past m (pos n) h = let e : clamped m (pos n) ≡ pos (suc m) = omega (arith, ints, clamps) in ap unsigned_abs e
clamped_past m (negsuc n) h = let e : clamped m (negsuc n) ≡ negsuc m = omega (arith, ints, clamps) in ap unsigned_abs e

-- a product that is the same, or past the bound with the other
held_at : (m : ℕ) (whole z : ℤ) → (z ≡ whole) ⊎ ((m < unsigned_abs z) × (m < unsigned_abs whole)) → IsHeld m whole (clamped m z)
held_at m whole z (inl e) =
    elim (cases_lt m (unsigned_abs z)) [
      | inl l ↦ record { near = omega (arith, clamped_past m z l); agrees = inr (omega (arith, clamped_past m z l), omega (arith, ap unsigned_abs e)) }
      | inr l ↦ let s = clamped_within m z l in record { near = omega (arith, ap unsigned_abs s); agrees = inl (s ∙ e, omega (arith, ap unsigned_abs s)) }
    ]
held_at m whole z (inr p) = record { near = omega (arith, clamped_past m z p.0); agrees = inr (omega (arith, clamped_past m z p.0), p.1) }

zero_or : (v : ℤ) → (v ≡ pos 0) ⊎ (1 ≤ unsigned_abs v)
zero_or (pos zero) = inl refl
zero_or (pos (suc n)) = inr (omega arith)
zero_or (negsuc n) = inr (omega arith)

times_nothing : (a v : ℤ) → v ≡ pos 0 → a *ℤ v ≡ pos 0
times_nothing a v e = rw (e) (omega (arith, ints))

grows : (m : ℕ) (a v : ℤ) → m < unsigned_abs a → 1 ≤ unsigned_abs v → m < unsigned_abs (a *ℤ v)
grows m a v h l = omega (arith, unsigned_abs-mul a v, mul-le-mul h l)

past_or_same : (m : ℕ) (whole held v : ℤ) → ((held ≡ whole) × (unsigned_abs held ≤ m)) ⊎ ((m < unsigned_abs held) × (m < unsigned_abs whole)) → ((held *ℤ v) ≡ (whole *ℤ v)) ⊎ ((m < unsigned_abs (held *ℤ v)) × (m < unsigned_abs (whole *ℤ v)))
past_or_same m whole held v (inl p) = inl (ap (λ a. a *ℤ v) p.0)
past_or_same m whole held v (inr p) =
    elim (zero_or v) [ inl e ↦ inl (times_nothing held v e ∙ sym (times_nothing whole v e)) | inr l ↦ inr (grows m held v p.0 l, grows m whole v p.1 l) ]

-- one factor more
pub held_times : (m : ℕ) (whole held v : ℤ) → IsHeld m whole held → IsHeld m (whole *ℤ v) (clamped m (held *ℤ v))
held_times m whole held v h = held_at m (whole *ℤ v) (held *ℤ v) (past_or_same m whole held v h.agrees)
