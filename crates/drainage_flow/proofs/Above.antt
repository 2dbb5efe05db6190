-- What agrees with its equations above a place is settled there, since all that drains to the place lies above it.
use Rattle.std.proofs.Common.{◌≡◌, ℕ, zero, suc, ◌+◌, ◌<◌, Bool, true, false, Option, Some, None, refl, sym, ◌∙◌, ap, arith, inl, inr, ℤ, pos, negsuc, ◌+ℤ◌, ◌-ℤ◌, ◌<ℤ◌}
use Rattle.std.specs.Prelude.{◌≤ℤ◌}
use Rattle.std.proofs.lemmas.Int.{ints, by_lt_z}
use Rattle.std.proofs.lemmas.Bool.{cases_lt}
use Rattle.std.proofs.lemmas.Bool.Decides.{nat_tests}
use Rattle.drainage_flow.specs.Nets.{Net, part, is_to, inflow, gathered, IsFalling, Agrees}
use Rattle.drainage_flow.proofs.Sums.{sum_same}

-- what drains to c, drains to c
pub to_is : (o : Option ℕ) (c : ℕ) → is_to o c ≡ true → o ≡ Some c
to_is None c e = absurd (cc)
to_is (Some b) c e = let q : b ≡ c = grind (arith, nat_tests) in ap Some q

part_same : (b : Bool) (x y : ℤ) → (b ≡ true → x ≡ y) → part b x ≡ part b y
part_same true x y h = h refl
part_same false x y h = refl

-- a height that none is above
pub peak : (h : ℕ → ℤ) (n : ℕ) → (z : ℤ) × ((d : ℕ) → d < n → h d ≤ℤ z)
peak h zero = (pos 0, λ d l. absurd (omega arith))
peak h (suc n) = let p = peak h n in by_lt_z (h n) p.0
    (λ l. (p.0, λ d m. elim (cases_lt d n) as (λ _. h d ≤ℤ p.0) [ inl k ↦ p.1 d k | inr k ↦ (let q : d ≡ n = omega arith in rw (q) (omega (arith, ints, l))) ]))
    (λ l. (h n, λ d m. elim (cases_lt d n) as (λ _. h d ≤ℤ h n) [ inl k ↦ omega (arith, ints, p.1 d k, l) | inr k ↦ (let q : d ≡ n = omega arith in rw (q) (omega (arith, ints))) ]))

pub far_above : (x y : ℤ) → (k : ℕ) × (y <ℤ (x +ℤ pos k))
far_above (pos a) (pos b) = (b + 1, omega (arith, ints))
far_above (pos a) (negsuc b) = (0, omega (arith, ints))
far_above (negsuc a) (pos b) = (a + b + 2, omega (arith, ints))
far_above (negsuc a) (negsuc b) = (a + 2, omega (arith, ints))

module _ (g : Net) (h : ℕ → ℤ) (falling : IsFalling g h) where
  -- what agrees with f on all that is above c comes into c as it does with f
  pub gathered_same : (f e : ℕ → ℤ) (c : ℕ) → ((d : ℕ) → d < g.size → h c <ℤ h d → f d ≡ e d) → gathered g f c ≡ gathered g e c
  unfolding gathered inflow
  gathered_same f e c above = ap (λ x. g.weight c +ℤ x) (sum_same (λ d. part (is_to (g.down d) c) (f d)) (λ d. part (is_to (g.down d) c) (e d)) g.size
      (λ d l. part_same (is_to (g.down d) c) (f d) (e d) (λ t. above d l (falling.falls d c l (to_is (g.down d) c t)))))

  module _ (f e : ℕ → ℤ) (agrees : Agrees g e) (z : ℤ) (above : (d : ℕ) → d < g.size → z <ℤ h d → f d ≡ gathered g f d) where
    near_peak : (top : ℤ) → ((d : ℕ) → d < g.size → h d ≤ℤ top) → (k d : ℕ) → d < g.size → z <ℤ h d → top <ℤ (h d +ℤ pos k) → f d ≡ e d
    near_peak top most zero d l u t = absurd (omega (arith, ints, most d l))
    near_peak top most (suc k) d l u t =
        above d l u ∙ gathered_same f e d (λ b m v. near_peak top most k b m (omega (arith, ints, u, v)) (omega (arith, ints, t, v))) ∙ sym (agrees d l)

    -- above z, f is e
    pub settled_above : (d : ℕ) → d < g.size → z <ℤ h d → f d ≡ e d
    settled_above d l u = let p = peak h g.size in let far = far_above (h d) p.0 in near_peak p.0 p.1 far.0 d l u far.1

  -- amounts that agree everywhere are one
  pub agreeing_same : (f e : ℕ → ℤ) → Agrees g f → Agrees g e → (c : ℕ) → c < g.size → f c ≡ e c
  agreeing_same f e a b c l = settled_above f e b (h c -ℤ pos 1) (λ d m u. a d m) c l (omega (arith, ints))
