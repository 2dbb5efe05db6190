-- The value that leads a list in ascending order, run by run.
use Rattle.std.proofs.Common.{◌≡◌, ◌≢◌, inl, inr, ℕ, ◌+◌, ◌<◌, ◌≤◌, Bool, true, false, cond, ◌&&◌, ◌||◌, ◌==◌, List, [], ◌∷◌, length, get_or, take, Option, Some, None, IfSome, IsSomeAnd, option_map, refl, sym, ◌∙◌, ap, subst, arith, ℤ, pos, ◌≤ℤ◌}
use Rattle.std.specs.Prelude.{int_le}
use Rattle.std.specs.List.{find, list_all}
use Rattle.std.specs.List.Sorted.{IsSorted}
use Rattle.std.specs.Ordering.{int_cmp}
use Rattle.std.proofs.lemmas.Int.{ints}
use Rattle.std.proofs.lemmas.Bool.{cases_lt}
use Rattle.std.proofs.lemmas.Bool.Decides.{nat_tests}
use Rattle.std.proofs.lemmas.List.{get_or_default}
use Rattle.map_nums.specs.Stats.{occurrences, majority_of, minority_of}
use Rattle.map_nums.specs.Leaders.{prefers, leader_of, better_run, IsSameAsNext}
use Rattle.map_nums.specs.declared.runs.Run.{Run}
use Rattle.map_nums.specs.declared.runs.Wanted.{Wanted}
use Rattle.map_nums.specs.declared.runs.Wanted.TheVariants.{Most, Least}
use Rattle.map_nums.proofs.Ascending.{same_or_not, occurrences_more, occurrences_none, occurrences_whole, occurrences_fresh}
use Rattle.map_nums.proofs.Extremes.{le_both, le_is_true}
use Rattle.map_nums.proofs.Medians.{rises}
use Rattle.map_nums.proofs.Picks.{find_leading}

-- x leads y
abbrev pub is_before : Wanted → List ℤ → ℤ → ℤ → Bool
is_before w xs x y = prefers w (occurrences x xs) (occurrences y xs) || ((occurrences y xs == occurrences x xs) && int_le x y)

-- The first i places are looked at. The last run among them, where it goes on, has count places so far; best leads all others.
pub record IsLeading (w : Wanted) (ys : List ℤ) (i count : ℕ) (best : Option Run) : Type 0 where
  pub within : count ≤ i
  pub counted : i < length ys → count ≡ occurrences (get_or ys i (pos 0)) (take i ys)
  pub known : IfSome best (λ run. (run.count ≡ occurrences run.value ys) × (j : ℕ) × (j < i) × (get_or ys j (pos 0) ≡ run.value))
  pub ahead : (k : ℕ) → k < i → (i < length ys → get_or ys k (pos 0) ≢ get_or ys i (pos 0)) → IsSomeAnd best (λ run. is_before w ys run.value (get_or ys k (pos 0)) ≡ true)

-- ---- the order by which one value leads another

before_itself : (w : Wanted) (o : ℕ) (x : ℤ) → (prefers w o o || ((o == o) && int_le x x)) ≡ true
before_itself Most o x = grind (arith, nat_tests, ints)
before_itself Least o x = grind (arith, nat_tests, ints)

before_chain : (w : Wanted) (m n o : ℕ) (s t : Bool) → prefers w m n ≡ true → (prefers w n o || ((o == n) && s)) ≡ true → (prefers w m o || ((o == m) && t)) ≡ true
before_chain Most m n o s t h k = grind (arith, nat_tests)
before_chain Least m n o s t h k = grind (arith, nat_tests)

before_unless : (w : Wanted) (m n : ℕ) (s : Bool) → prefers w m n ≡ false → s ≡ true → (prefers w n m || ((m == n) && s)) ≡ true
before_unless Most m n s h e = grind (arith, nat_tests)
before_unless Least m n s h e = grind (arith, nat_tests)

only_one : (w : Wanted) (m n : ℕ) (s t : Bool) → (prefers w m n || ((n == m) && s)) ≡ true → (prefers w n m || ((m == n) && t)) ≡ true → (s ≡ true) × (t ≡ true)
only_one Most m n s t h k = (grind (arith, nat_tests), grind (arith, nat_tests))
only_one Least m n s t h k = (grind (arith, nat_tests), grind (arith, nat_tests))

-- no two values lead each other
pub one_leads : (w : Wanted) (xs : List ℤ) (x y : ℤ) → is_before w xs x y ≡ true → is_before w xs y x ≡ true → x ≡ y
one_leads w xs x y h k = let b = only_one w (occurrences x xs) (occurrences y xs) (int_le x y) (int_le y x) h k in le_both x y b.0 b.1

pub leader_of-find : (w : Wanted) (xs : List ℤ) → leader_of w xs ≡ find (λ x. list_all (is_before w xs x) xs) xs
unfolding majority_of minority_of
leader_of-find Most xs = refl
leader_of-find Least xs = refl

-- ---- the loop's turns

module _ (w : Wanted) (ys : List ℤ) where
  pub IsLeading-none : IsLeading w ys 0 0 None
  IsLeading-none = record { within = omega arith; counted = λ h. occurrences_none (get_or ys 0 (pos 0)); known = tt; ahead = λ k l. absurd (omega arith) }

  abbrev IsKnown : ℕ → Run → Type 0
  IsKnown i run = (run.count ≡ occurrences run.value ys) × (j : ℕ) × (j < i) × (get_or ys j (pos 0) ≡ run.value)

  known_on : (i : ℕ) (best : Option Run) → IfSome best (IsKnown i) → IfSome best (IsKnown (i + 1))
  known_on i None h = tt
  known_on i (Some b) h = (h.0, h.1, omega (arith, h.2), h.3)

  module _ (i count : ℕ) (here : i < length ys) where
    -- the run goes on
    pub IsLeading-on : (best : Option Run) → IsLeading w ys i count best → IsSameAsNext ys i → IsLeading w ys (i + 1) (count + 1) best
    IsLeading-on best h s = record {
      within = omega (arith, h.within);
      counted = λ l. subst (λ x. count + 1 ≡ occurrences x (take (i + 1) ys)) (sym s.1) (omega (arith, h.counted here, occurrences_more ys i here));
      known = known_on i best h.known;
      ahead = λ k l apart. elim (cases_lt k i) [
        | inl below ↦ h.ahead k below (λ _ e. apart s.0 (e ∙ sym s.1))
        | inr above ↦ let same : k ≡ i = omega arith in absurd (apart s.0 (ap (λ j. get_or ys j (pos 0)) same ∙ sym s.1))
      ];
    }

    module _ (sorted : IsSorted int_cmp ys) (last : IsSameAsNext ys i → ⊥) where
      abbrev x : ℤ
      x = get_or ys i (pos 0)

      abbrev run : Run
      run = record { value = get_or ys i (pos 0); count = count + 1 }

      whole : (best : Option Run) → IsLeading w ys i count best → count + 1 ≡ occurrences x ys
      whole best h = omega (arith, h.counted here, occurrences_more ys i here, occurrences_whole ys sorted i here last)

      -- what holds of the earlier values but x, and of x, holds of all so far
      all_so_far : (P : ℤ → Type 0) → ((k : ℕ) → k < i → get_or ys k (pos 0) ≢ x → P (get_or ys k (pos 0))) → P x → (k : ℕ) → k < i + 1 → P (get_or ys k (pos 0))
      all_so_far P others this k l =
          elim (same_or_not (get_or ys k (pos 0)) x) [
            | inl e ↦ subst P (sym e) this
            | inr n ↦ elim (cases_lt k i) [
              | inl below ↦ others k below n
              | inr above ↦ let same : k ≡ i = omega arith in absurd (n (ap (λ j. get_or ys j (pos 0)) same))
            ]
          ]

      taken : (best : Option Run) → IsLeading w ys i count best → ((k : ℕ) → k < i → get_or ys k (pos 0) ≢ x → is_before w ys x (get_or ys k (pos 0)) ≡ true) → IsLeading w ys (i + 1) 0 (Some run)
      taken best h others = record {
        within = omega arith;
        counted = occurrences_fresh ys sorted i here last;
        known = (whole best h, i, omega arith, refl);
        ahead = λ k l apart. all_so_far (λ y. is_before w ys x y ≡ true) others (before_itself w (occurrences x ys) x) k l;
      }

      kept : (b : Run) → IsLeading w ys i count (Some b) → prefers w (count + 1) b.count ≡ false → IsLeading w ys (i + 1) 0 (Some b)
      kept b h e =
          let e' : prefers w (occurrences x ys) (occurrences b.value ys) ≡ false = rw (whole (Some b) h, h.known.0) at e in
          let below : b.value ≤ℤ x = subst (λ y. y ≤ℤ x) h.known.3 (rises ys sorted h.known.1 i (pos 0) (omega (arith, h.known.2)) here) in
          let this = before_unless w (occurrences x ys) (occurrences b.value ys) (int_le b.value x) e' (le_is_true b.value x below) in
          record {
            within = omega arith;
            counted = occurrences_fresh ys sorted i here last;
            known = known_on i (Some b) h.known;
            ahead = λ k l apart. all_so_far (λ y. is_before w ys b.value y ≡ true) (λ j below n. h.ahead j below (λ _. n)) this k l;
          }

      chosen : (b : Run) → IsLeading w ys i count (Some b) → (t : Bool) → prefers w (count + 1) b.count ≡ t → IsLeading w ys (i + 1) 0 (cond t (Some run) (Some b))
      chosen b h true e =
          let e' : prefers w (occurrences x ys) (occurrences b.value ys) ≡ true = rw (whole (Some b) h, h.known.0) at e in
          taken (Some b) h (λ k l n. before_chain w (occurrences x ys) (occurrences b.value ys) (occurrences (get_or ys k (pos 0)) ys) (int_le b.value (get_or ys k (pos 0))) (int_le x (get_or ys k (pos 0))) e' (h.ahead k l (λ _. n)))
      chosen b h false e = kept b h e

      -- the run ends
      pub IsLeading-last : (best : Option Run) → IsLeading w ys i count best → IsLeading w ys (i + 1) 0 (better_run w best run)
      IsLeading-last None h = taken None h (λ k l n. absurd (h.ahead k l (λ _. n)))
      IsLeading-last (Some b) h = chosen b h (prefers w (count + 1) b.count) refl

  empty_leader : (xs : List ℤ) → length xs ≡ 0 → None ≡ find (λ x. list_all (is_before w xs x) xs) xs
  empty_leader [] e = refl
  empty_leader (x ∷ xs) e = absurd (omega arith)

  -- after the last place
  pub leader_is : (i count : ℕ) (best : Option Run) → IsLeading w ys i count best → i ≡ length ys → option_map (λ run. run.value) best ≡ leader_of w ys
  leader_is i count None h end =
      elim (cases_lt 0 (length ys)) [
        | inl some ↦ absurd (h.ahead 0 (omega arith) (λ l. absurd (omega arith)))
        | inr none ↦ empty_leader ys (omega arith) ∙ sym (leader_of-find w ys)
      ]
  leader_is i count (Some b) h end =
      sym (leader_of-find w ys ∙ find_leading (is_before w ys) ys b.value (h.known.1, omega arith, get_or_default ys h.known.1 b.value (pos 0) (omega arith) ∙ h.known.3)
      (λ k d l. subst (λ y. is_before w ys b.value y ≡ true) (get_or_default ys k (pos 0) d l) (h.ahead k (omega arith) (λ l'. absurd (omega arith))))
      (one_leads w ys))
