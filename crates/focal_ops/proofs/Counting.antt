-- The different numbers of a list, with one number more, and the one that leads by its key.
use Rattle.std.proofs.Common.{◌≡◌, ◌≢◌, inl, inr, ℕ, ◌+◌, ◌%◌, ◌<◌, ◌≤◌, Bool, true, false, cond, ◌&&◌, ◌||◌, ◌==◌, List, [], ◌∷◌, ◌++◌, length, get_or, set, take, Some, refl, sym, ◌∙◌, ap, subst, arith, below_more, get_or-set_other, get_or-set_same, ℤ, pos, ◌-ℤ◌, ◌≤ℤ◌}
use Rattle.std.specs.Prelude.{int_le, nat_lt}
use Rattle.std.specs.List.{find, list_all, list_any}
use Rattle.std.specs.Ordering.{int_eq}
use Rattle.std.proofs.lemmas.Int.{ints}
use Rattle.std.proofs.lemmas.Bool.{cases_lt, cases_eq}
use Rattle.std.proofs.lemmas.Bool.Decides.{nat_tests}
use Rattle.std.proofs.lemmas.List.{get_or-take, length-take-le, get_or_default, take_more, take_all}
use Rattle.std.proofs.lemmas.List.Folds.{list_any_at, list_any_none}
use Rattle.std.proofs.lemmas.List.Sorted.{IsPermutation-to_front}
use Rattle.std.proofs.lemmas.List.Sums.{count_by_more_yes, count_by_more_no, count_by-le-length}
use Rattle.map_nums.specs.Stats.{occurrences, variety_of, majority_of, minority_of, statistic_of}
use Rattle.map_nums.proofs.Ascending.{equals_itself, differs}
use Rattle.map_nums.proofs.Extremes.{le_is_true, le_both}
use Rattle.map_nums.proofs.Picks.{count_by-none, find_leading}
use Rattle.map_nums.proofs.Varieties.{variety_of-permutation}
use Rattle.focal_ops.specs.Kinds.{AreKinds, IsKey, by_counts}

pub occurrences_few : (x : ℤ) (xs : List ℤ) → occurrences x xs ≤ length xs
unfolding occurrences
occurrences_few x xs = count_by-le-length (λ y. int_eq y x) xs

-- ---- the number at place i

module _ (xs : List ℤ) (i : ℕ) (here : i < length xs) where
  abbrev x : ℤ
  x = get_or xs i (pos 0)

  occurs_here : (z : ℤ) → get_or xs i (pos 0) ≡ z → occurrences z (take (i + 1) xs) ≡ occurrences z (take i xs) + 1
  unfolding occurrences
  occurs_here z e = count_by_more_yes (λ y. int_eq y z) xs i (pos 0) here (subst (λ y. int_eq y z ≡ true) (sym e) (equals_itself z))

  occurs_not : (z : ℤ) → get_or xs i (pos 0) ≢ z → occurrences z (take (i + 1) xs) ≡ occurrences z (take i xs)
  unfolding occurrences
  occurs_not z ne = count_by_more_no (λ y. int_eq y z) xs i (pos 0) here (differs (get_or xs i (pos 0)) z ne)

  variety_more : variety_of (take (i + 1) xs) ≡ cond (list_any (λ y. int_eq y (get_or xs i (pos 0))) (take i xs)) 0 1 + variety_of (take i xs)
  variety_more = ap variety_of (take_more xs i (pos 0) here) ∙ variety_of-permutation (take i xs ++ get_or xs i (pos 0) ∷ []) (get_or xs i (pos 0) ∷ take i xs) (IsPermutation-to_front (take i xs) (get_or xs i (pos 0)))

  seen : (j : ℕ) → j < i → get_or xs j (pos 0) ≡ get_or xs i (pos 0) → list_any (λ y. int_eq y (get_or xs i (pos 0))) (take i xs) ≡ true
  seen j l e = list_any_at (λ y. int_eq y (get_or xs i (pos 0))) (take i xs) j (pos 0) (omega (arith, length-take-le i xs (omega arith))) (rw (get_or-take i xs j (pos 0) l, e) (equals_itself (get_or xs i (pos 0))))

  module _ (new : (j : ℕ) → j < i → get_or xs j (pos 0) ≢ get_or xs i (pos 0)) where
    none_is : (k : ℕ) (d : ℤ) → k < length (take i xs) → int_eq (get_or (take i xs) k d) (get_or xs i (pos 0)) ≡ false
    none_is k d l =
        let below : k < i = omega (arith, length-take-le i xs (omega arith)) in
        let within : k < length xs = omega arith in
        rw (get_or-take i xs k d below, get_or_default xs k d (pos 0) within) (differs (get_or xs k (pos 0)) (get_or xs i (pos 0)) (new k below))

    unseen : list_any (λ y. int_eq y (get_or xs i (pos 0))) (take i xs) ≡ false
    unseen = list_any_none (λ y. int_eq y (get_or xs i (pos 0))) (take i xs) none_is

    occurs_first : occurrences (get_or xs i (pos 0)) (take (i + 1) xs) ≡ 1
    unfolding occurrences
    occurs_first = omega (arith, occurs_here (get_or xs i (pos 0)) refl, count_by-none (λ y. int_eq y (get_or xs i (pos 0))) (take i xs) none_is)

  module _ (values : List ℤ) (counts : List ℕ) (n : ℕ) (h : AreKinds xs i values counts n) where
    -- it is kind k
    pub kinds_again : (k : ℕ) → k < n → k < length counts → get_or values k (pos 0) ≡ get_or xs i (pos 0) → AreKinds xs (i + 1) values (set counts k (get_or counts k 0 + 1)) n
    kinds_again k l room e =
        let s = h.are k l in
        record {
          few = omega (arith, h.few);
          variety = omega (arith, h.variety, rw (seen s.0 s.1 (s.2 ∙ e)) at variety_more);
          counted = λ j m. elim (cases_eq j k) [
            | inl same ↦ rw (same, get_or-set_same counts k (get_or counts k 0 + 1) 0 room) (omega (arith, h.counted k l, occurs_here (get_or values k (pos 0)) (sym e)))
            | inr ne ↦ get_or-set_other counts k j (get_or counts k 0 + 1) 0 ne ∙ h.counted j m ∙ sym (occurs_not (get_or values j (pos 0)) (λ q. ne (h.apart j k m l (sym q ∙ sym e))))
          ];
          are = λ j m. let t = h.are j m in (t.0, omega (arith, t.1), t.2);
          apart = h.apart;
          all = below_more (λ j. (t : ℕ) × (t < n) × (get_or values t (pos 0) ≡ get_or xs j (pos 0))) i h.all (k, l, e);
        }

    module _ (no : (k : ℕ) → k < n → get_or values k (pos 0) ≢ get_or xs i (pos 0)) (room : n < length values) where
      new_here : (j : ℕ) → j < i → get_or xs j (pos 0) ≢ get_or xs i (pos 0)
      new_here j l e = let t = h.all j l in no t.0 t.1 (t.2 ∙ e)

      kept : (k : ℕ) → k < n → get_or (set values n (get_or xs i (pos 0))) k (pos 0) ≡ get_or values k (pos 0)
      kept k l = get_or-set_other values n k (get_or xs i (pos 0)) (pos 0) (omega arith)

      put : get_or (set values n (get_or xs i (pos 0))) n (pos 0) ≡ get_or xs i (pos 0)
      put = get_or-set_same values n (get_or xs i (pos 0)) (pos 0) room

      apart_still : (j k : ℕ) → j < n + 1 → k < n + 1 → get_or (set values n (get_or xs i (pos 0))) j (pos 0) ≡ get_or (set values n (get_or xs i (pos 0))) k (pos 0) → j ≡ k
      apart_still j k l m e = elim (cases_lt j n) [
        | inl a ↦ elim (cases_lt k n) [
          | inl b ↦ h.apart j k a b (sym (kept j a) ∙ e ∙ kept k b)
          | inr b ↦ let same : k ≡ n = omega arith in absurd (no j a (sym (kept j a) ∙ e ∙ ap (λ t. get_or (set values n (get_or xs i (pos 0))) t (pos 0)) same ∙ put))
        ]
        | inr a ↦ let this : j ≡ n = omega arith in elim (cases_lt k n) [
          | inl b ↦ absurd (no k b (sym (kept k b) ∙ sym e ∙ ap (λ t. get_or (set values n (get_or xs i (pos 0))) t (pos 0)) this ∙ put))
          | inr b ↦ omega arith
        ]
      ]

      -- it is a new kind
      pub kinds_new : n < length counts → AreKinds xs (i + 1) (set values n (get_or xs i (pos 0))) (set counts n 1) (n + 1)
      kinds_new wide = record {
        few = omega (arith, h.few);
        variety = omega (arith, h.variety, rw (unseen new_here) at variety_more);
        counted = below_more (λ k. get_or (set counts n 1) k 0 ≡ occurrences (get_or (set values n (get_or xs i (pos 0))) k (pos 0)) (take (i + 1) xs)) n
            (λ k l. get_or-set_other counts n k 1 0 (omega arith) ∙ h.counted k l ∙ sym (occurs_not (get_or values k (pos 0)) (λ q. no k l (sym q))) ∙ ap (λ z. occurrences z (take (i + 1) xs)) (sym (kept k l)))
            (get_or-set_same counts n 1 0 wide ∙ sym (occurs_first new_here) ∙ ap (λ z. occurrences z (take (i + 1) xs)) (sym put));
        are = below_more (λ k. (j : ℕ) × (j < i + 1) × (get_or xs j (pos 0) ≡ get_or (set values n (get_or xs i (pos 0))) k (pos 0))) n
            (λ k l. let t = h.are k l in (t.0, omega (arith, t.1), t.2 ∙ sym (kept k l)))
            (i, omega arith, sym put);
        apart = apart_still;
        all = below_more (λ j. (k : ℕ) × (k < n + 1) × (get_or (set values n (get_or xs i (pos 0))) k (pos 0) ≡ get_or xs j (pos 0))) i
            (λ j l. let t = h.all j l in (t.0, omega (arith, t.1), kept t.0 t.1 ∙ t.2))
            (n, omega arith, put);
      }

-- ---- the leader by its key

-- m occurrences lead k, or where they are as many, s holds
abbrev ahead : Bool → ℕ → ℕ → Bool → Bool
ahead false m k s = nat_lt k m || ((k == m) && s)
ahead true m k s = nat_lt m k || ((k == m) && s)

-- y leads z
abbrev is_before : Bool → List ℤ → ℤ → ℤ → Bool
is_before least xs y z = ahead least (occurrences y xs) (occurrences z xs) (int_le y z)

only_one : (least : Bool) (m k : ℕ) (s t : Bool) → ahead least m k s ≡ true → ahead least k m t ≡ true → (s ≡ true) × (t ≡ true)
only_one false m k s t h g = (grind (arith, nat_tests), grind (arith, nat_tests))
only_one true m k s t h g = (grind (arith, nat_tests), grind (arith, nat_tests))

one_leads : (least : Bool) (xs : List ℤ) (y z : ℤ) → is_before least xs y z ≡ true → is_before least xs z y ≡ true → y ≡ z
one_leads least xs y z h g = let b = only_one least (occurrences y xs) (occurrences z xs) (int_le y z) (int_le z y) h g in le_both y z b.0 b.1

by_more : (m k : ℕ) (s : Bool) → k < m → (nat_lt k m || ((k == m) && s)) ≡ true
by_more m k s l = grind (arith, nat_tests)

by_fewer : (m k : ℕ) (s : Bool) → m < k → (nat_lt m k || ((k == m) && s)) ≡ true
by_fewer m k s l = grind (arith, nat_tests)

by_number : (m k : ℕ) (s : Bool) → k ≡ m → s ≡ true → (nat_lt k m || ((k == m) && s)) ≡ true
by_number m k s e t = grind (arith, nat_tests)

by_number_again : (m k : ℕ) (s : Bool) → k ≡ m → s ≡ true → (nat_lt m k || ((k == m) && s)) ≡ true
by_number_again m k s e t = grind (arith, nat_tests)

-- the number whose key is not above leads
before_by_key : (least : Bool) (y z : ℤ) (m k a b : ℕ) → m ≤ 64 → k ≤ 64 → IsKey least y m a → IsKey least z k b → a ≤ b → ahead least m k (int_le y z) ≡ true
before_by_key false y z m k a b fm fk p q l = elim (cases_lt k m) [
  | inl more ↦ by_more m k (int_le y z) more
  | inr rest ↦
      let same : k ≡ m = omega (arith, ints, p.is, p.low, p.high, q.is, q.low, q.high) in
      let below : y ≤ℤ z = omega (arith, ints, p.is, q.is, same) in
      by_number m k (int_le y z) same (le_is_true y z below)
]
before_by_key true y z m k a b fm fk p q l = elim (cases_lt m k) [
  | inl fewer ↦ by_fewer m k (int_le y z) fewer
  | inr rest ↦
      let same : k ≡ m = omega (arith, ints, p.is, p.low, p.high, q.is, q.low, q.high) in
      let below : y ≤ℤ z = omega (arith, ints, p.is, q.is, same) in
      by_number_again m k (int_le y z) same (le_is_true y z below)
]

-- the number of a key
key_number : (least : Bool) (z : ℤ) (m key : ℕ) → IsKey least z m key → pos (key % 18446744073709551616) -ℤ pos 9223372036854775808 ≡ z
key_number least z m key p = omega (arith, ints, p.is, p.low, p.high)

statistic_is : (least : Bool) (xs : List ℤ) → statistic_of (by_counts least) xs ≡ find (λ y. list_all (is_before least xs y) xs) xs
unfolding majority_of minority_of
statistic_is false xs = refl
statistic_is true xs = refl

module _ (xs values : List ℤ) (counts : List ℕ) (n : ℕ) (h : AreKinds xs (length xs) values counts n) where
  counts_are : (k : ℕ) → k < n → get_or counts k 0 ≡ occurrences (get_or values k (pos 0)) xs
  counts_are k l = h.counted k l ∙ ap (occurrences (get_or values k (pos 0))) (take_all (length xs) xs (omega arith))

  pub counts_few : length xs ≤ 64 → (k : ℕ) → k < n → get_or counts k 0 ≤ 64
  counts_few few k l = omega (arith, counts_are k l, occurrences_few (get_or values k (pos 0)) xs)

  pub none_left : n ≡ 0 → length xs ≡ 0
  none_left e = elim (cases_lt 0 (length xs)) [
    | inl some ↦ let t = h.all 0 some in absurd (omega (arith, t.1))
    | inr none ↦ omega arith
  ]

  -- the kind with the least key
  pub leader_is : (least : Bool) (key : ℕ) → length xs ≤ 64 → ((k : ℕ) → k < n → (other : ℕ) × IsKey least (get_or values k (pos 0)) (get_or counts k 0) other × (key ≤ other)) → (k : ℕ) → k < n → IsKey least (get_or values k (pos 0)) (get_or counts k 0) key → Some (pos (key % 18446744073709551616) -ℤ pos 9223372036854775808) ≡ statistic_of (by_counts least) xs
  leader_is least key few first k l is =
      let y = get_or values k (pos 0) in
      let s = h.are k l in
      let there : get_or xs s.0 y ≡ y = get_or_default xs s.0 y (pos 0) s.1 ∙ s.2 in
      let before = λ (j : ℕ) (d : ℤ) (m : j < length xs).
      (let t = h.all j m in
      let z = get_or values t.0 (pos 0) in
      let f = first t.0 t.1 in
      let b = before_by_key least y z (get_or counts k 0) (get_or counts t.0 0) key f.0 (counts_few few k l) (counts_few few t.0 t.1) is f.1 f.2 in
      subst (λ u. is_before least xs y u ≡ true) (t.2 ∙ sym (get_or_default xs j d (pos 0) m))
      (subst (λ o. ahead least o (occurrences z xs) (int_le y z) ≡ true) (counts_are k l) (subst (λ o. ahead least (get_or counts k 0) o (int_le y z) ≡ true) (counts_are t.0 t.1) b))) in
      ap Some (key_number least y (get_or counts k 0) key is)
      ∙ sym (statistic_is least xs ∙ find_leading (is_before least xs) xs y (s.0, s.1, there) before (one_leads least xs))
