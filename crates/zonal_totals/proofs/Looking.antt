-- Which tiles the patches hold, and how often these are looked at.
use Rattle.std.proofs.Common.{◌≡◌, inl, inr, ℕ, zero, suc, ◌+◌, ◌*◌, ◌<◌, ◌≤◌, Bool, true, false, cond, ◌||◌, ◌==◌, List, [], ◌∷◌, Option, Some, None, Contains, refl, ap, arith, pos}
use Rattle.std.specs.Prelude.{nat_lt, IfSome, IfNone, count_by}
use Rattle.std.specs.List.{list_any, range_with_len}
use Rattle.std.proofs.lemmas.Int.{ints}
use Rattle.std.proofs.lemmas.Bool.{cases_lt}
use Rattle.std.proofs.lemmas.Bool.Decides.{nat_tests}
use Rattle.layer_tiles.specs.Tiles.{tiles_in}
use Rattle.layer_tiles.specs.Changes.{ChangeState}
use Rattle.layer_tiles.specs.ChangeFacts.{IsChange, IsNext}
use Rattle.zonal_totals.specs.Drafts.{IsNextHeld, least_of}
use Rattle.zonal_totals.specs.Looks.{is_held, tiles_held}
use Rattle.zonal_totals.proofs.Revising.{count_range, same_pos}

is_eq : (a b : ℕ) → (a == b) ≡ true → a ≡ b
is_eq a b h = grind (arith, nat_tests)

itself : (a b : ℕ) → a ≡ b → (a == b) ≡ true
itself a b h = grind (arith, nat_tests)

or_right : (b c : Bool) → c ≡ true → (b || c) ≡ true
or_right true c e = refl
or_right false c e = e

or_left : (b c : Bool) → b ≡ true → (b || c) ≡ true
or_left true c e = refl
or_left false c e = absurd (cc)

or_false : (b c : Bool) → (b ≡ true → ⊥) → (c ≡ true → ⊥) → (b || c) ≡ false
or_false true c f g = absurd (f refl)
or_false false true f g = absurd (g refl)
or_false false false f g = refl

any_from_contains : (us : List ℕ) (t : ℕ) → Contains us t → list_any (λ u. u == t) us ≡ true
any_from_contains [] t (k, h, e) = absurd (omega arith)
any_from_contains (u ∷ us) t (zero, h, e) = or_left (u == t) (list_any (λ u. u == t) us) (itself u t e)
any_from_contains (u ∷ us) t (suc k, h, e) = or_right (u == t) (list_any (λ u. u == t) us) (any_from_contains us t (k, omega arith, e))

contains_by : (u : ℕ) (us : List ℕ) (t : ℕ) (b : Bool) → (u == t) ≡ b → (list_any (λ u. u == t) us ≡ true → Contains us t) → (b || list_any (λ u. u == t) us) ≡ true → Contains (u ∷ us) t
contains_by u us t true e go h = (0, omega arith, is_eq u t e)
contains_by u us t false e go h = let c = go h in (suc c.0, omega (arith, c.1), c.2)

contains_from_any : (us : List ℕ) (t : ℕ) → list_any (λ u. u == t) us ≡ true → Contains us t
contains_from_any [] t h = absurd (cc)
contains_from_any (u ∷ us) t h = contains_by u us t (u == t) refl (contains_from_any us t) h

module _ (values zones : ChangeState) (t : ℕ) where
  pub held_values : Contains values.touched t → is_held values zones t ≡ true
  held_values c = or_left _ _ (any_from_contains values.touched t c)

  pub held_zones : Contains zones.touched t → is_held values zones t ≡ true
  held_zones c = or_right _ _ (any_from_contains zones.touched t c)

  pub free_tile : (Contains values.touched t → ⊥) → (Contains zones.touched t → ⊥) → is_held values zones t ≡ false
  free_tile f g = or_false _ _ (λ e. f (contains_from_any values.touched t e)) (λ e. g (contains_from_any zones.touched t e))

  pub not_values : is_held values zones t ≡ false → Contains values.touched t → ⊥
  not_values e c = let h = held_values c in cc

  pub not_zones : is_held values zones t ≡ false → Contains zones.touched t → ⊥
  not_zones e c = let h = held_zones c in cc

-- ---- the next one

lt_is : (a b : ℕ) → nat_lt a b ≡ true → a < b
lt_is a b h = grind (arith, nat_tests)

le_is : (a b : ℕ) → nat_lt a b ≡ false → b ≤ a
le_is a b h = grind (arith, nat_tests)

module _ (values zones : ChangeState) (cv : IsChange values) (cz : IsChange zones) (e : values.size ≡ zones.size) (n : ℕ) where
  abbrev Next : ChangeState → ℕ → Type 0
  Next c t = IsNext c.touched n t

  abbrev NoNext : ChangeState → Type 0
  NoNext c = (t : ℕ) → Contains c.touched t → t < n

  value_first : (a : ℕ) → Next values a → ((t : ℕ) → Contains zones.touched t → n ≤ t → a ≤ t) → IsNextHeld values zones n (Some a)
  value_first a x f = (
    x.not_below,
    omega (arith, cv.within a x.held, ap tiles_in e),
    held_values values zones a x.held,
    λ t h l. free_tile values zones t (λ c. omega (arith, x.least t c h, l)) (λ c. omega (arith, f t c h, l)),
  )

  zone_first : (b : ℕ) → Next zones b → ((t : ℕ) → Contains values.touched t → n ≤ t → b ≤ t) → IsNextHeld values zones n (Some b)
  zone_first b y f = (
    y.not_below,
    cz.within b y.held,
    held_zones values zones b y.held,
    λ t h l. free_tile values zones t (λ c. omega (arith, f t c h, l)) (λ c. omega (arith, y.least t c h, l)),
  )

  first_by : (a b : ℕ) (c : Bool) → nat_lt b a ≡ c → Next values a → Next zones b → IsNextHeld values zones n (cond c (Some b) (Some a))
  first_by a b true q x y = zone_first b y (λ t c h. omega (arith, x.least t c h, lt_is b a q))
  first_by a b false q x y = value_first a x (λ t c h. omega (arith, y.least t c h, le_is b a q))

  pub next_held : (a b : Option ℕ) → IfSome a (Next values) → IfNone a (NoNext values) → IfSome b (Next zones) → IfNone b (NoNext zones) → IsNextHeld values zones n (least_of a b)
  next_held None None x f y g = λ t h l. free_tile values zones t (λ c. omega (arith, f t c, h)) (λ c. omega (arith, g t c, h))
  next_held None (Some b) x f y g = zone_first b y (λ t c h. absurd (omega (arith, f t c, h)))
  next_held (Some a) None x f y g = value_first a x (λ t c h. absurd (omega (arith, g t c, h)))
  next_held (Some a) (Some b) x f y g = first_by a b (nat_lt b a) refl x y

-- ---- looks

-- four looks at each tile below number n that either patch holds
abbrev pub looks_below : ChangeState → ChangeState → ℕ → ℕ
looks_below values zones zero = 0
looks_below values zones (suc t) = looks_below values zones t + cond (is_held values zones t) 4 0

pos_tick : (b : Bool) → pos (cond b 1 0) ≡ cond b (pos 1) (pos 0)
pos_tick true = refl
pos_tick false = refl

count_more : (q : ℕ → Bool) (n : ℕ) → count_by q (range_with_len 0 (suc n)) ≡ count_by q (range_with_len 0 n) + cond (q n) 1 0
count_more q n =
    let z : 0 + n ≡ n = omega arith in
    let last = ap (λ k. cond (q k) (pos 1) (pos 0)) z in
    same_pos _ _ (omega (arith, ints, count_range q 0 (suc n), count_range q 0 n, last, pos_tick (q n)))

four : (b : Bool) → cond b 4 0 ≡ 4 * cond b 1 0
four true = refl
four false = refl

looks_counted : (values zones : ChangeState) (n : ℕ) → looks_below values zones n ≡ 4 * count_by (is_held values zones) (range_with_len 0 n)
looks_counted values zones zero = refl
looks_counted values zones (suc n) = omega (arith, looks_counted values zones n, count_more (is_held values zones) n, four (is_held values zones n))

pub looks_held : (values zones : ChangeState) → looks_below values zones (tiles_in zones.size) ≡ 4 * tiles_held values zones
unfolding tiles_held
looks_held values zones = looks_counted values zones (tiles_in zones.size)

pub looks_rise : (values zones : ChangeState) (m n : ℕ) → m ≤ n → looks_below values zones m ≤ looks_below values zones n
looks_rise values zones m zero h = let e : m ≡ 0 = omega arith in omega (arith, ap (looks_below values zones) e)
looks_rise values zones m (suc n) h =
    elim (cases_lt m (suc n)) [
      | inl l ↦ omega (arith, looks_rise values zones m n (omega arith))
      | inr l ↦ let e : m ≡ suc n = omega arith in omega (arith, ap (looks_below values zones) e)
    ]

four_there : (b : Bool) → b ≡ true → cond b 4 0 ≡ 2 + 2
four_there true e = refl
four_there false e = absurd (cc)

pub looks_more : (values zones : ChangeState) (n : ℕ) → is_held values zones n ≡ true → looks_below values zones (n + 1) ≡ looks_below values zones n + 4
looks_more values zones n h =
    let e : n + 1 ≡ suc n = omega arith in
    omega (arith, ap (looks_below values zones) e, four_there (is_held values zones n) h)
