-- Places that are followed back to the last one.
use Rattle.std.proofs.Common.{◌≡◌, ◌≢◌, ◌⊎◌, inl, inr, ℕ, zero, suc, ◌<◌, ◌≤◌, refl, sym, ◌∙◌, ap, subst, arith}
use Rattle.std.specs.Prelude.{◌==◌, if◌then◌else◌}
use Rattle.std.proofs.lemmas.Bool.{cases_eq, eq-eqb, ne_eqb}
use Rattle.region_labels.specs.Roots.{followed, root_of}

module _ (told : ℕ → ℕ) (back : (i : ℕ) → told i ≤ i) where
  -- a place that tells itself stays
  followed_top : (n i : ℕ) → told i ≡ i → followed told n i ≡ i
  followed_top zero i e = refl
  followed_top (suc n) i e = ap (followed told n) e ∙ followed_top n i e

  told_zero : told 0 ≡ 0
  told_zero = omega (arith, back 0)

  -- so many steps as the place's number are enough
  followed_enough : (n m i : ℕ) → i ≤ n → i ≤ m → followed told n i ≡ followed told m i
  followed_enough zero m i l k =
      let e : i ≡ 0 = omega (arith, l) in
      let P : ℕ → Type 0 = λ j. followed told 0 j ≡ followed told m j in
      subst P (sym e) (sym (followed_top m 0 told_zero))
  followed_enough (suc n) zero i l k =
      let e : i ≡ 0 = omega (arith, k) in
      let P : ℕ → Type 0 = λ j. followed told (suc n) j ≡ followed told 0 j in
      subst P (sym e) (followed_top (suc n) 0 told_zero)
  followed_enough (suc n) (suc m) i l k = elim (cases_eq (told i) i) as (λ _. followed told (suc n) i ≡ followed told (suc m) i) [
    | inl e ↦ followed_top (suc n) i e ∙ sym (followed_top (suc m) i e)
    | inr e ↦ (let b = back i in followed_enough n m (told i) (omega (arith, b, e, l)) (omega (arith, b, e, k)))
  ]

  pub root_told : (i : ℕ) → root_of told (told i) ≡ root_of told i
  root_told i = let b = back i in followed_enough (told i) i (told i) (omega arith) b ∙ followed_enough (suc i) i i (omega arith) (omega arith)

  pub root_top : (i : ℕ) → told i ≡ i → root_of told i ≡ i
  root_top i e = followed_top i i e

  followed_back : (n i : ℕ) → followed told n i ≤ i
  followed_back zero i = omega arith
  followed_back (suc n) i = omega (arith, followed_back n (told i), back i)

  pub root_back : (i : ℕ) → root_of told i ≤ i
  root_back i = followed_back i i

  followed_last : (n i : ℕ) → i ≤ n → told (followed told n i) ≡ followed told n i
  followed_last zero i l = let e : i ≡ 0 = omega (arith, l) in ap told e ∙ told_zero ∙ sym e
  followed_last (suc n) i l = elim (cases_eq (told i) i) as (λ _. told (followed told (suc n) i) ≡ followed told (suc n) i) [
    | inl e ↦ ap told (followed_top (suc n) i e) ∙ e ∙ sym (followed_top (suc n) i e)
    | inr e ↦ (let b = back i in followed_last n (told i) (omega (arith, b, e, l)))
  ]

  -- the last place tells itself
  pub root_last : (i : ℕ) → told (root_of told i) ≡ root_of told i
  root_last i = followed_last i i (omega arith)

  followed_only : (f : ℕ → ℕ) → ((i : ℕ) → f (told i) ≡ f i) → ((i : ℕ) → told i ≡ i → f i ≡ i) → (n i : ℕ) → i ≤ n → f i ≡ followed told n i
  followed_only f up top zero i l = let e : i ≡ 0 = omega (arith, l) in ap f e ∙ top 0 told_zero ∙ sym e
  followed_only f up top (suc n) i l = elim (cases_eq (told i) i) as (λ _. f i ≡ followed told (suc n) i) [
    | inl e ↦ top i e ∙ sym (followed_top (suc n) i e)
    | inr e ↦ (let b = back i in sym (up i) ∙ followed_only f up top n (told i) (omega (arith, b, e, l)))
  ]

  -- nothing else is the same at a place and at the one that it tells
  pub root_only : (f : ℕ → ℕ) → ((i : ℕ) → f (told i) ≡ f i) → ((i : ℕ) → told i ≡ i → f i ≡ i) → (i : ℕ) → f i ≡ root_of told i
  root_only f up top i = followed_only f up top i i (omega arith)

  -- a property that a place has of the one that it tells, it has of the last one
  followed_keeps : (P : ℕ → ℕ → Type 0) → ((i : ℕ) → P i i) → ((i j k : ℕ) → P i j → P j k → P i k) → ((i : ℕ) → P (told i) i) → (n i : ℕ) → P (followed told n i) i
  followed_keeps P self trans one zero i = self i
  followed_keeps P self trans one (suc n) i = trans (followed told n (told i)) (told i) i (followed_keeps P self trans one n (told i)) (one i)

-- places before n lead to where they did, if only others tell another place
pub followed_alike : (one other : ℕ → ℕ) (k n i : ℕ) → ((j : ℕ) → one j ≤ j) → ((j : ℕ) → j < k → other j ≡ one j) → i < k → followed other n i ≡ followed one n i
followed_alike one other k zero i back same l = refl
followed_alike one other k (suc n) i back same l = ap (followed other n) (same i l) ∙ followed_alike one other k n (one i) back same (let b = back i in omega (arith, b, l))

-- ---- one place tells another one

module _ (one other : ℕ → ℕ) (low high : ℕ) (back : (i : ℕ) → one i ≤ i) (order : low ≤ high) (low_top : one low ≡ low) (high_top : one high ≡ high) (here : other high ≡ low) (else_same : (i : ℕ) → i ≢ high → other i ≡ one i) where
  back_still : (i : ℕ) → other i ≤ i
  back_still i = elim (cases_eq i high) as (λ _. other i ≤ i) [
    | inl e ↦ (let t : other i ≡ low = ap other e ∙ here in omega (arith, t, e, order))
    | inr n ↦ (let t = else_same i n in let b = back i in omega (arith, t, b))
  ]

  abbrev tied : ℕ → ℕ
  tied x = if x == high then low else x

  tied_high : tied high ≡ low
  tied_high = rw (eq-eqb high high refl) refl

  tied_other : (x : ℕ) → x ≢ high → tied x ≡ x
  tied_other x n = rw (ne_eqb x high n) refl

  tied_low : tied low ≡ low
  tied_low = elim (cases_eq low high) as (λ _. tied low ≡ low) [ inl e ↦ ap tied e ∙ tied_high | inr n ↦ tied_other low n ]

  tied_up : (i : ℕ) → tied (root_of one (other i)) ≡ tied (root_of one i)
  tied_up i = elim (cases_eq i high) as (λ _. tied (root_of one (other i)) ≡ tied (root_of one i)) [
    | inl e ↦ ap (λ x. tied (root_of one x)) (ap other e ∙ here) ∙ ap tied (root_top one back low low_top) ∙ tied_low ∙ sym (ap (λ x. tied (root_of one x)) e ∙ ap tied (root_top one back high high_top) ∙ tied_high)
    | inr n ↦ ap (λ x. tied (root_of one x)) (else_same i n) ∙ ap tied (root_told one back i)
  ]

  tied_top : (i : ℕ) → other i ≡ i → tied (root_of one i) ≡ i
  tied_top i t = elim (cases_eq i high) as (λ _. tied (root_of one i) ≡ i) [
    | inl e ↦ (let l : low ≡ i = sym here ∙ ap other (sym e) ∙ t in ap (λ x. tied (root_of one x)) e ∙ ap tied (root_top one back high high_top) ∙ tied_high ∙ l)
    | inr n ↦ ap tied (root_top one back i (sym (else_same i n) ∙ t)) ∙ tied_other i n
  ]

  pub root_tied : (i : ℕ) → tied (root_of one i) ≡ root_of other i
  root_tied i = root_only other back_still (λ j. tied (root_of one j)) tied_up tied_top i

  pub tied_alike : (i j : ℕ) → root_of one i ≡ root_of one j → root_of other i ≡ root_of other j
  tied_alike i j e = sym (root_tied i) ∙ ap tied e ∙ root_tied j

  -- places that led to either lead to one now
  tied_to : (i : ℕ) → (root_of one i ≡ low) ⊎ (root_of one i ≡ high) → root_of other i ≡ low
  tied_to i (inl e) = sym (root_tied i) ∙ ap tied e ∙ tied_low
  tied_to i (inr e) = sym (root_tied i) ∙ ap tied e ∙ tied_high

  pub tied_both : (i j : ℕ) → (root_of one i ≡ low) ⊎ (root_of one i ≡ high) → (root_of one j ≡ low) ⊎ (root_of one j ≡ high) → root_of other i ≡ root_of other j
  tied_both i j p q = tied_to i p ∙ sym (tied_to j q)
