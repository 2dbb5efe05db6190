-- Some values agree along the steps that least costs use: each place takes its own from those of lesser cost.
use Rattle.std.proofs.Common.{◌≡◌, ℕ, zero, suc, ◌+◌, ◌<◌, ℤ, ◌≤ℤ◌, Bool, true, false, cond, Option, Some, None, refl, sym, ◌∙◌, ap, subst, arith, inl, inr}
use Rattle.std.specs.Prelude.{◌⊎◌, ◌&&◌, ◌==◌, nat_lt, int_le, if◌then◌else◌}
use Rattle.std.proofs.lemmas.Bool.{cases_lt, cases_Bool, and_parts, and_from, eqb-true, eq-eqb, ltb-true, lt-ltb}
use Rattle.std.proofs.lemmas.Int.{ints}
use Rattle.map_defs.specs.Nets.{Net, HasCosts, IsWithin}
use Rattle.map_defs.specs.Nearest.{IsNoGreater, BeginsAt, StepsTo, IsLeastValue}
use Rattle.map_defs.proofs.NearestNet.{number_of, no_greater, le_then}

-- ---- the lesser of two cells

abbrev lesser : Option ℤ → Option ℤ → Option ℤ
lesser None c = c
lesser (Some z) None = Some z
lesser (Some z) (Some w) = if int_le z w then Some z else Some w

lesser_is : (a b : Option ℤ) → (lesser a b ≡ a) ⊎ (lesser a b ≡ b)
lesser_is None b = inr refl
lesser_is (Some z) None = inl refl
lesser_is (Some z) (Some w) = chosen (int_le z w)
  where
    chosen : (t : Bool) → (cond t (Some z) (Some w) ≡ Some z) ⊎ (cond t (Some z) (Some w) ≡ Some w)
    chosen true = inl refl
    chosen false = inr refl

least_of_two : (t : Bool) (z w : ℤ) → (t ≡ true → z ≤ℤ w) → (t ≡ false → w ≤ℤ z) → IsNoGreater (cond t (Some z) (Some w)) z × IsNoGreater (cond t (Some z) (Some w)) w
least_of_two true z w h k = (omega (arith, ints), h refl)
least_of_two false z w h k = (k refl, omega (arith, ints))

lesser_most : (a b : Option ℤ) (z : ℤ) → (a ≡ Some z) ⊎ (b ≡ Some z) → IsNoGreater (lesser a b) z
lesser_most None b z (inl e) = absurd (cc)
lesser_most None b z (inr e) = no_greater b z z e (omega (arith, ints))
lesser_most (Some x) None z (inl e) = no_greater (Some x) z z e (omega (arith, ints))
lesser_most (Some x) None z (inr e) = absurd (cc)
lesser_most (Some x) (Some y) z (inl e) = let q : x ≡ z = cc in let P : ℤ → Type 0 = IsNoGreater (lesser (Some x) (Some y)) in subst P q (least_of_two (int_le x y) x y (λ t. grind (arith, ints)) (λ t. grind (arith, ints))).0
lesser_most (Some x) (Some y) z (inr e) = let q : y ≡ z = cc in let P : ℤ → Type 0 = IsNoGreater (lesser (Some x) (Some y)) in subst P q (least_of_two (int_le x y) x y (λ t. grind (arith, ints)) (λ t. grind (arith, ints))).1

pub no_greater_then : (c : Option ℤ) (w z : ℤ) → IsNoGreater c w → w ≤ℤ z → IsNoGreater c z
no_greater_then c w z h l = let n = number_of c w h in no_greater c n.0 z n.1 (le_then n.0 w z n.2 l)

chosen_some : (b : Bool) (c : Option ℤ) (z : ℤ) → cond b c None ≡ Some z → (b ≡ true) × (c ≡ Some z)
chosen_some true c z e = (refl, e)
chosen_some false c z e = absurd (cc)

chosen_so : (b : Bool) (c : Option ℤ) → b ≡ true → cond b c None ≡ c
chosen_so true c e = refl
chosen_so false c e = absurd (cc)

module _ (g : Net) (costs : HasCosts g) (d : ℕ → ℕ) (within : IsWithin g d) (own : ℕ → Option ℤ) where
  abbrev begins : ℕ → Bool
  begins i = nat_lt (d i) g.top && (d i == g.base i)

  abbrev steps : ℕ → ℕ → Bool
  steps j i = nat_lt (d i) g.top && (d j + g.step j i == d i)

  steps_is : (j i : ℕ) → steps j i ≡ true → StepsTo g d j i
  steps_is j i e = let p = and_parts (nat_lt (d i) g.top) (d j + g.step j i == d i) e in (ltb-true (d i) g.top p.0, eqb-true (d j + g.step j i) (d i) p.1)

  steps_so : (j i : ℕ) → StepsTo g d j i → steps j i ≡ true
  steps_so j i s = and_from (nat_lt (d i) g.top) (d j + g.step j i == d i) (lt-ltb (d i) g.top s.0) (eq-eqb (d j + g.step j i) (d i) s.1)

  begins_is : (i : ℕ) → begins i ≡ true → BeginsAt g d i
  begins_is i e = let p = and_parts (nat_lt (d i) g.top) (d i == g.base i) e in (ltb-true (d i) g.top p.0, eqb-true (d i) (g.base i) p.1)

  begins_so : (i : ℕ) → BeginsAt g d i → begins i ≡ true
  begins_so i b = and_from (nat_lt (d i) g.top) (d i == g.base i) (lt-ltb (d i) g.top b.0) (eq-eqb (d i) (g.base i) b.1)

  -- the least of its own number and of what steps from the places below n bring
  abbrev brought : (ℕ → Option ℤ) → ℕ → ℕ → Option ℤ
  brought v i j = if steps j i then v j else None

  abbrev begun : ℕ → Option ℤ
  begun i = if begins i then own i else None

  least_to : (ℕ → Option ℤ) → ℕ → ℕ → Option ℤ
  least_to v i zero = begun i
  least_to v i (suc n) = lesser (brought v i n) (least_to v i n)

  from_some : (v : ℕ → Option ℤ) (i n : ℕ) (z : ℤ) → least_to v i n ≡ Some z → (begun i ≡ Some z) ⊎ ((j : ℕ) × (brought v i j ≡ Some z))
  unfolding least_to
  from_some v i zero z e = inl e
  from_some v i (suc n) z e = elim (lesser_is (brought v i n) (least_to v i n)) as (λ _. (begun i ≡ Some z) ⊎ ((j : ℕ) × (brought v i j ≡ Some z))) [
    | inl q ↦ inr (n, sym q ∙ e)
    | inr q ↦ from_some v i n z (sym q ∙ e)
  ]

  -- no greater than what is no greater than the rest
  no_more : (v : ℕ → Option ℤ) (i n : ℕ) (z : ℤ) → IsNoGreater (least_to v i n) z → IsNoGreater (least_to v i (suc n)) z
  unfolding least_to
  no_more v i n z h = let m = number_of (least_to v i n) z h in no_greater_then (lesser (brought v i n) (least_to v i n)) m.0 z (lesser_most (brought v i n) (least_to v i n) m.0 (inr m.1)) m.2

  most_begun : (v : ℕ → Option ℤ) (i n : ℕ) (z : ℤ) → begun i ≡ Some z → IsNoGreater (least_to v i n) z
  unfolding least_to
  most_begun v i zero z e = no_greater (begun i) z z e (omega (arith, ints))
  most_begun v i (suc n) z e = no_more v i n z (most_begun v i n z e)

  most_brought : (v : ℕ → Option ℤ) (i n j : ℕ) (z : ℤ) → j < n → brought v i j ≡ Some z → IsNoGreater (least_to v i n) z
  unfolding least_to
  most_brought v i zero j z l e = absurd (omega (arith, l))
  most_brought v i (suc n) j z l e = elim (cases_lt j n) as (λ _. IsNoGreater (least_to v i (suc n)) z) [
    | inl m ↦ no_more v i n z (most_brought v i n j z m e)
    | inr m ↦ (let q : j ≡ n = omega (arith, l, m) in lesser_most (brought v i n) (least_to v i n) z (inl (ap (brought v i) (sym q) ∙ e)))
  ]

  brought_same : (v w : ℕ → Option ℤ) (i j : ℕ) → ((k : ℕ) → d k < d i → v k ≡ w k) → brought v i j ≡ brought w i j
  brought_same v w i j h = elim (cases_Bool (steps j i)) as (λ _. brought v i j ≡ brought w i j) [
    | inl t ↦ chosen_so (steps j i) (v j) t ∙ h j (let s = steps_is j i t in let c = costs j i in omega (arith, s.1, c)) ∙ sym (chosen_so (steps j i) (w j) t)
    | inr t ↦ rw (t) refl
  ]

  least_same : (v w : ℕ → Option ℤ) (i n : ℕ) → ((k : ℕ) → d k < d i → v k ≡ w k) → least_to v i n ≡ least_to w i n
  unfolding least_to
  least_same v w i zero h = refl
  least_same v w i (suc n) h = ap (λ c. lesser c (least_to v i n)) (brought_same v w i n h) ∙ ap (lesser (brought w i n)) (least_same v w i n h)

  -- those of the costs below a number
  value_to : ℕ → ℕ → Option ℤ
  value_to zero i = None
  value_to (suc fuel) i = least_to (value_to fuel) i g.size

  stable : (fuel other i : ℕ) → d i < fuel → d i < other → value_to fuel i ≡ value_to other i
  unfolding value_to
  stable zero other i l m = absurd (omega (arith, l))
  stable (suc fuel) zero i l m = absurd (omega (arith, m))
  stable (suc fuel) (suc other) i l m = least_same (value_to fuel) (value_to other) i g.size (λ k h. stable fuel other k (omega (arith, h, l)) (omega (arith, h, m)))

  pub value : ℕ → Option ℤ
  value i = value_to (suc (d i)) i

  value_is : (i : ℕ) → value i ≡ least_to value i g.size
  unfolding value value_to
  value_is i = least_same (value_to (d i)) value i g.size (λ k h. stable (d i) (suc (d k)) k h (omega arith))

  pub agrees : (i : ℕ) → IsLeastValue g d own value i
  agrees i = record {
    attained = λ z e. elim (from_some value i g.size z (sym (value_is i) ∙ e)) as (λ _. (BeginsAt g d i × (own i ≡ Some z)) ⊎ ((j : ℕ) × StepsTo g d j i × (value j ≡ Some z))) [
      | inl b ↦ (let p = chosen_some (begins i) (own i) z b in inl (begins_is i p.0, p.1))
      | inr q ↦ (let p = chosen_some (steps q.0 i) (value q.0) z q.1 in inr (q.0, steps_is q.0 i p.0, p.1))
    ];
    begun = λ z b o. rw (value_is i) (most_begun value i g.size z (chosen_so (begins i) (own i) (begins_so i b) ∙ o));
    stepped = λ j z s e. elim (cases_lt j g.size) as (λ _. IsNoGreater (value i) z) [
      | inl l ↦ rw (value_is i) (most_brought value i g.size j z l (chosen_so (steps j i) (value j) (steps_so j i s) ∙ e))
      | inr l ↦ (let w = within j l in absurd (omega (arith, w, s.0, s.1)))
    ];
  }
