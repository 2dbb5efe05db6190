-- A sum over flat statements by depth is the sum over them in order of place.
use Rattle.std.proofs.Common.{◌≡◌, ℕ, zero, suc, ◌+◌, Bool, ◌==◌, ◌&&◌, nat_le, nat_lt, List, [], ◌∷◌, filter, flat_map, sum_by, inl, inr, refl, sym, ap, ◌∙◌, arith, is_some, if◌then◌else◌}
use Rattle.std.specs.List.{AllByRecursion, range_with_len}
use Rattle.std.proofs.lemmas.Bool.{cases_Bool}
use Rattle.std.proofs.lemmas.Bool.Decides.{nat_tests}
use Rattle.std.proofs.lemmas.List.Sums.{sum_by-cons, sum_by-append}
use Rattle.map_defs.specs.Nodes.{Node}
use Rattle.map_defs.specs.Depths.{depth_in}
use Rattle.map_edits.specs.CountLaws.{DepthIsPlace}

module _ {X : Type 0} (f : X → ℕ) where
  pub sum_filter : (q : X → Bool) (xs : List X) → sum_by f (filter q xs) ≡ sum_by (λ x. if q x then f x else 0) xs
  sum_filter q [] = refl
  sum_filter q (x ∷ xs) =
      let rest = sum_filter q xs in let all = sum_by-cons (λ x. if q x then f x else 0) x xs in
      elim (cases_Bool (q x)) [
        | inl e ↦
            let here : (if q x then f x else 0) ≡ f x = rw e refl in
            let kept : sum_by f (filter q (x ∷ xs)) ≡ f x + sum_by f (filter q xs) = rw e (sum_by-cons f x (filter q xs)) in
            omega arith
        | inr e ↦
            let here : (if q x then f x else 0) ≡ 0 = rw e refl in
            let kept : sum_by f (filter q (x ∷ xs)) ≡ sum_by f (filter q xs) = rw e refl in
            omega arith
      ]

pub sum_same : {X : Type 0} (f g : X → ℕ) (xs : List X) → ((x : X) → f x ≡ g x) → sum_by f xs ≡ sum_by g xs
sum_same f g [] same = refl
sum_same f g (x ∷ xs) same =
    let here = same x in
    let rest = sum_same f g xs same in
    let first = sum_by-cons f x xs in
    let second = sum_by-cons g x xs in
    omega arith

pub sum_each : {X : Type 0} (P : X → Type 0) (f g : X → ℕ) → ((x : X) → P x → f x ≡ g x) → (xs : List X) → AllByRecursion P xs → sum_by f xs ≡ sum_by g xs
sum_each P f g same [] each = refl
sum_each P f g same (x ∷ xs) each =
    let here = same x each.0 in
    let rest = sum_each P f g same xs each.1 in
    let first = sum_by-cons f x xs in
    let second = sum_by-cons g x xs in
    omega arith

pub sum_both : {X : Type 0} (f g h : X → ℕ) (xs : List X) → ((x : X) → f x + g x ≡ h x) → sum_by f xs + sum_by g xs ≡ sum_by h xs
sum_both f g h [] same = refl
sum_both f g h (x ∷ xs) same =
    let here = same x in
    let rest = sum_both f g h xs same in
    let first = sum_by-cons f x xs in
    let second = sum_by-cons g x xs in
    let both = sum_by-cons h x xs in
    omega arith

module _ {X : Type 0} (f : X → ℕ) (flat : X → Bool) (rank : X → ℕ) where
  -- f of what is flat and of a rank from a on, below b
  abbrev between : ℕ → ℕ → X → ℕ
  between a b x = if flat x then (if nat_le a (rank x) then (if nat_lt (rank x) b then f x else 0) else 0) else 0

  abbrev at_rank : ℕ → X → ℕ
  at_rank d x = if flat x && (rank x == d) then f x else 0

  next_rank : (a n : ℕ) (x : X) → at_rank a x + between (a + 1) (a + suc n) x ≡ between a (a + suc n) x
  next_rank a n x = elim (cases_Bool (flat x)) [ inl e ↦ rw e (grind (arith, nat_tests)) | inr e ↦ rw e refl ]

  none_between : (a : ℕ) (x : X) → between a (a + 0) x ≡ 0
  none_between a x = elim (cases_Bool (flat x)) [ inl e ↦ rw e (grind (arith, nat_tests)) | inr e ↦ rw e refl ]

  sum_zero : (g : X → ℕ) (xs : List X) → ((x : X) → g x ≡ 0) → sum_by g xs ≡ 0
  sum_zero g [] none = refl
  sum_zero g (x ∷ xs) none = let here = none x in let rest = sum_zero g xs none in let both = sum_by-cons g x xs in omega arith

  sum_ranked : (xs : List X) (a n : ℕ) → sum_by f (flat_map (λ d. filter (λ x. flat x && (rank x == d)) xs) (range_with_len a n)) ≡ sum_by (between a (a + n)) xs
  sum_ranked xs a zero = sym (sum_zero (between a (a + 0)) xs (none_between a))
  sum_ranked xs a (suc n) =
      let rest = sum_ranked xs (a + 1) n in
      let split = sum_by-append f (filter (λ x. flat x && (rank x == a)) xs) (flat_map (λ d. filter (λ x. flat x && (rank x == d)) xs) (range_with_len (a + 1) n)) in
      let own = sum_filter f (λ x. flat x && (rank x == a)) xs in
      let same : a + 1 + n ≡ a + suc n = omega arith in
      let moved : sum_by (between (a + 1) (a + 1 + n)) xs ≡ sum_by (between (a + 1) (a + suc n)) xs = ap (λ b. sum_by (between (a + 1) b) xs) same in
      let both = sum_both (at_rank a) (between (a + 1) (a + suc n)) (between a (a + suc n)) xs (next_rank a n) in
      omega arith

  -- ---- the same in one test

  abbrev is_between : ℕ → X → Bool
  is_between k x = flat x && (nat_le 1 (rank x) && nat_le (rank x) k)

  one_test : (k : ℕ) (x : X) → between 1 (1 + k) x ≡ (if is_between k x then f x else 0)
  one_test k x = elim (cases_Bool (flat x)) [ inl e ↦ rw e (grind (arith, nat_tests)) | inr e ↦ rw e refl ]

  pub sum_within : (k : ℕ) (xs : List X) → sum_by f (flat_map (λ d. filter (λ x. flat x && (rank x == d)) xs) (range_with_len 1 k)) ≡ sum_by f (filter (is_between k) xs)
  sum_within k xs = sum_ranked xs 1 k ∙ sum_same (between 1 (1 + k)) (λ x. if is_between k x then f x else 0) xs (one_test k) ∙ sym (sum_filter f (is_between k) xs)

pub depth_is_place : DepthIsPlace
depth_is_place count k nodes = sum_within count (λ (node : Node). is_some node.needs) (λ (node : Node). depth_in nodes node.name) k nodes
