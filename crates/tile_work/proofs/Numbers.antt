-- The numbers of the copied tiles.
use Rattle.std.proofs.Common.{◌≡◌, ◌≢◌, inl, inr, ℕ, zero, suc, ◌+◌, ◌-◌, ◌<◌, ◌≤◌, true, false, List, [], ◌∷◌, length, map, get_or, replicate, Option, Some, None, refl, sym, ◌∙◌, ap, subst, arith}
use Rattle.std.specs.Prelude.{slice_set, is_some}
use Rattle.std.specs.List.{Contains, insert}
use Rattle.std.specs.List.Sorted.{IsStrictlyIncreasing, IsNonDecreasingBy}
use Rattle.std.proofs.lemmas.Bool.{cases_eq, cases_lt, both_ways}
use Rattle.std.proofs.lemmas.List.{get_or-set_same, get_or-set_other, get_or-map, length-map, get_or_default, get_or_past}
use Rattle.std.proofs.lemmas.List.Edits.{length-insert, get_or-insert_below, get_or-insert_at, get_or-insert_above}
use Rattle.std.proofs.lemmas.List.Sorted.{IsNonDecreasingBy-from_all_adjacent, IsPermutation-insert, Contains-permutation}
use Rattle.layer_tiles.specs.Tiles.{Block}
use Rattle.tile_work.specs.Working.{AreCopied, IsInserted, slot_at, copies}
use Rattle.tile_work.proofs.Slots.{copied_set, copies_set, no_copies, no_slot, none_block, set_some}

-- a number that was not there is put in
module _ (old new : List ℕ) (n : ℕ) (up : IsStrictlyIncreasing old) (i : IsInserted old n new) (absent : (k : ℕ) → k < length old → get_or old k 0 ≢ n) where
  abbrev p : ℕ
  p = i.place

  long : length new ≡ length old + 1
  long = ap length i.is ∙ length-insert old p n i.within

  low : (k : ℕ) → k < p → get_or new k 0 ≡ get_or old k 0
  low k l = ap (λ xs. get_or xs k 0) i.is ∙ get_or-insert_below old p n 0 k l i.within

  here : get_or new p 0 ≡ n
  here = ap (λ xs. get_or xs p 0) i.is ∙ get_or-insert_at old p n 0 i.within

  high : (k : ℕ) → p ≤ k → get_or new (k + 1) 0 ≡ get_or old k 0
  high k l = ap (λ xs. get_or xs (k + 1) 0) i.is ∙ get_or-insert_above old p n 0 k l i.within

  pub rises_on : IsStrictlyIncreasing new
  rises_on k l = elim (cases_lt (k + 1) p) as (λ _. get_or new k 0 < get_or new (k + 1) 0) [
    | inl a ↦ omega (arith, low k (omega (arith, a)), low (k + 1) a, up k (omega (arith, a, i.within)))
    | inr a ↦ elim (cases_lt k p) as (λ _. get_or new k 0 < get_or new (k + 1) 0) [
      | inl b ↦ (let e : k + 1 ≡ p = omega (arith, a, b) in rw (e, here) (omega (arith, low k b, i.below k b)))
      | inr b ↦ elim (cases_eq k p) as (λ _. get_or new k 0 < get_or new (k + 1) 0) [
        | inl e ↦ (let m : p < length old = omega (arith, l, long, e) in
            let c = i.above p (omega arith) m in
            let d = absent p m in
            let q : get_or new k 0 ≡ n = ap (λ j. get_or new j 0) e ∙ here in
            let r : get_or new (k + 1) 0 ≡ get_or old p 0 = ap (λ j. get_or new (j + 1) 0) e ∙ high p (omega arith) in
            omega arith)
        | inr e ↦ (let j = k - 1 in
            let q : j + 1 ≡ k = omega (arith, b, e) in
            let r : get_or new k 0 ≡ get_or old j 0 = ap (λ x. get_or new x 0) (sym q) ∙ high j (omega (arith, b, e)) in
            let t : get_or new (k + 1) 0 ≡ get_or old (j + 1) 0 = ap (λ x. get_or new (x + 1) 0) (sym q) ∙ high (j + 1) (omega (arith, b, q)) in
            omega (arith, r, t, up j (omega (arith, l, long, q))))
      ]
    ]
  ]

  -- each number there was there, or is the new one
  pub each_on : (P : ℕ → Type 0) → P n → ((k : ℕ) → k < length old → P (get_or old k 0)) → (k : ℕ) → k < length new → P (get_or new k 0)
  each_on P one each k l = elim (cases_lt k p) as (λ _. P (get_or new k 0)) [
    | inl a ↦ subst P (sym (low k a)) (each k (omega (arith, a, i.within)))
    | inr a ↦ elim (cases_eq k p) as (λ _. P (get_or new k 0)) [
      | inl e ↦ subst P (sym (ap (λ j. get_or new j 0) e ∙ here)) one
      | inr e ↦ (let j = k - 1 in
          let q : j + 1 ≡ k = omega (arith, a, e) in
          subst P (sym (ap (λ x. get_or new x 0) (sym q) ∙ high j (omega (arith, a, e)))) (each j (omega (arith, l, long, q))))
    ]
  ]

  pub holds_new : Contains new n
  holds_new = (p, omega (arith, i.within, long), get_or_default new p n 0 (omega (arith, i.within, long)) ∙ here)

  pub holds_old : (u : ℕ) → Contains old u → Contains new u
  holds_old u c = let P : List ℕ → Type 0 = λ xs. Contains xs u in subst P (sym i.is) (Contains-permutation (n ∷ old) (insert old p n) u (IsPermutation-insert old p n) (suc c.0, omega (arith, c.1), c.2))

-- whether a slot is filled after one was
filled : (slots : List (Option Block)) (t u : ℕ) (b : Block) → t < length slots → is_some (slot_at slots u) ≡ true → is_some (slot_at (slice_set slots t (Some b)) u) ≡ true
filled slots t u b l e = elim (cases_eq u t) as (λ _. is_some (slot_at (slice_set slots t (Some b)) u) ≡ true) [
  | inl q ↦ rw (q) (ap is_some (get_or-set_same slots t (Some b) None l))
  | inr q ↦ ap is_some (get_or-set_other slots t u (Some b) None q) ∙ e
]

-- one more tile is copied
pub copied_one : (slots : List (Option Block)) (numbers new : List ℕ) (t : ℕ) (b : Block) → t < length slots → slot_at slots t ≡ None → AreCopied slots numbers → IsInserted numbers t new → AreCopied (slice_set slots t (Some b)) new
copied_one slots numbers new t b l none a i =
    let absent : (k : ℕ) → k < length numbers → get_or numbers k 0 ≢ t = λ k m e. both_ways (is_some (slot_at slots t)) (ap is_some none) (ap (λ u. is_some (slot_at slots u)) (sym e) ∙ a.each k m) in
    let not_yet : get_or (map is_some slots) t false ≡ false = get_or-map is_some slots t None false l ∙ ap is_some none in
    record {
      rises = rises_on numbers new t a.rises i absent;
      each = each_on numbers new t a.rises i absent (λ u. is_some (slot_at (slice_set slots t (Some b)) u) ≡ true) (ap is_some (get_or-set_same slots t (Some b) None l)) (λ k m. filled slots t (get_or numbers k 0) b l (a.each k m));
      all = λ u e. elim (cases_eq u t) as (λ _. Contains new u) [
        | inl q ↦ rw (q) (holds_new numbers new t a.rises i absent)
        | inr q ↦ holds_old numbers new t a.rises i absent u (a.all u (ap is_some (sym (get_or-set_other slots t u (Some b) None q)) ∙ e))
      ];
      count = long numbers new t a.rises i absent ∙ ap (λ n. n + 1) a.count ∙ sym (ap copies (copied_set slots t b) ∙ copies_set (map is_some slots) t (omega (arith, l, length-map slots is_some)) not_yet);
    }

-- a tile that was copied is written
pub copied_again : (slots : List (Option Block)) (numbers : List ℕ) (t : ℕ) (b new : Block) → t < length slots → slot_at slots t ≡ Some b → AreCopied slots numbers → AreCopied (slice_set slots t (Some new)) numbers
copied_again slots numbers t b new l e a =
    record {
      rises = a.rises;
      each = λ k m. filled slots t (get_or numbers k 0) new l (a.each k m);
      all = λ u f. elim (cases_eq u t) as (λ _. Contains numbers u) [
        | inl q ↦ a.all u (ap (λ v. is_some (slot_at slots v)) q ∙ ap is_some e)
        | inr q ↦ a.all u (ap is_some (sym (get_or-set_other slots t u (Some new) None q)) ∙ f)
      ];
      count = a.count ∙ ap copies (sym (set_some slots t b new l e));
    }

-- no tile is copied
pub copied_none : (n : ℕ) → AreCopied (replicate n none_block) []
copied_none n = record {
  rises = λ k l. absurd (omega (arith, l));
  each = λ k l. absurd (omega (arith, l));
  all = λ t e. absurd (both_ways (is_some (slot_at (replicate n none_block) t)) (ap is_some (no_slot n t)) e);
  count = sym (no_copies n);
}

-- each is the number of a slot
pub number_within : (slots : List (Option Block)) (numbers : List ℕ) (k : ℕ) → AreCopied slots numbers → k < length numbers → get_or numbers k 0 < length slots
number_within slots numbers k a l = elim (cases_lt (get_or numbers k 0) (length slots)) as (λ _. get_or numbers k 0 < length slots) [
  | inl m ↦ m
  | inr m ↦ absurd (both_ways (is_some (slot_at slots (get_or numbers k 0))) (ap is_some (get_or_past slots (get_or numbers k 0) none_block m)) (a.each k l))
]

pub never_falls : (xs : List ℕ) → IsStrictlyIncreasing xs → IsNonDecreasingBy (λ x. x) xs
never_falls xs up = IsNonDecreasingBy-from_all_adjacent (λ (x : ℕ). x) xs
    (λ k d l. let h = up k (omega arith) in let a = get_or_default xs k d 0 (omega arith) in let b = get_or_default xs (k + 1) d 0 l in omega arith)

-- ---- the numbers below a place in the list, and those from it on

abbrev pub ArePast : List ℕ → ℕ → ℕ → Type 0
ArePast numbers k n = (j : ℕ) → j < k → get_or numbers j 0 < n

abbrev pub AreAhead : List ℕ → ℕ → ℕ → Type 0
AreAhead numbers k n = (j : ℕ) → k ≤ j → j < length numbers → n ≤ get_or numbers j 0

risen : (xs : List ℕ) → IsStrictlyIncreasing xs → (j d : ℕ) → j + d < length xs → get_or xs j 0 + d ≤ get_or xs (j + d) 0
risen xs up j zero l = let e : j + 0 ≡ j = omega arith in rw (e) (omega arith)
risen xs up j (suc d) l =
    let e : j + suc d ≡ j + d + 1 = omega arith in
    let a = risen xs up j d (omega (arith, l)) in
    let b = up (j + d) (omega (arith, l)) in
    rw (e) (omega (arith, a, b))

pub rises_far : (xs : List ℕ) → IsStrictlyIncreasing xs → (j k : ℕ) → j < k → k < length xs → get_or xs j 0 < get_or xs k 0
rises_far xs up j k l m =
    let e : j + (k - j) ≡ k = omega (arith, l) in
    let r = risen xs up j (k - j) (omega (arith, l, m)) in
    omega (arith, r, l, ap (λ x. get_or xs x 0) e)

pub past_here : (xs : List ℕ) → IsStrictlyIncreasing xs → (k : ℕ) → k < length xs → ArePast xs k (get_or xs k 0)
past_here xs up k l j m = rises_far xs up j k m l

pub ahead_here : (xs : List ℕ) → IsStrictlyIncreasing xs → (k : ℕ) → k < length xs → AreAhead xs k (get_or xs k 0)
ahead_here xs up k l j m n = elim (cases_eq j k) as (λ _. get_or xs k 0 ≤ get_or xs j 0) [
  | inl e ↦ omega (arith, ap (λ x. get_or xs x 0) e)
  | inr e ↦ omega (arith, rises_far xs up k j (omega (arith, m, e)) n)
]

-- a tile between those is not copied
pub none_between : (slots : List (Option Block)) (numbers : List ℕ) (k m n t : ℕ) → AreCopied slots numbers → ArePast numbers k m → AreAhead numbers k n → m ≤ t → t < n → slot_at slots t ≡ None
none_between slots numbers k m n t a past ahead l h = empty (slot_at slots t) refl
  where
    missing : Contains numbers t → ⊥
    missing c =
        let is : get_or numbers c.0 0 ≡ t = sym (get_or_default numbers c.0 t 0 c.1) ∙ c.2 in
        elim (cases_lt c.0 k) as (λ _. ⊥) [
          | inl b ↦ omega (arith, past c.0 b, is, l)
          | inr b ↦ omega (arith, ahead c.0 b c.1, is, h)
        ]

    empty : (o : Option Block) → slot_at slots t ≡ o → o ≡ None
    empty None e = refl
    empty (Some b) e = absurd (missing (a.all t (ap is_some e)))
