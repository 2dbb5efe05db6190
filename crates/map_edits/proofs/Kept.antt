-- Edits bring no cycle: fewer needs close none, and new needs of one name close one only through that name.
use Rattle.std.proofs.Common.{◌≡◌, ℕ, zero, suc, ◌+◌, ◌≤◌, true, false, ◌||◌, List, [], ◌∷◌, length, bytes_eq, inl, inr, refl, sym, ap, subst, ◌∙◌, arith}
use Rattle.std.specs.List.{list_any}
use Rattle.std.proofs.lemmas.Bool.{true≢false, both_ways, or_parts, or_left, or_right, false_from_ne_true, cases_Bool}
use Rattle.map_defs.specs.Ops.{Name}
use Rattle.map_defs.specs.Nodes.{Node, needs_in}
use Rattle.map_defs.specs.Depths.{reaches, is_looped}
use Rattle.map_edits.specs.Laws.{is_among, HasNoCycle}
use Rattle.map_edits.proofs.Among.{same_name, bytes_eq-self, any_at, any_found, none_at, any_none, any_more}
use Rattle.map_edits.proofs.Chains.{goes_on, chains_end, no_cycle_from_ends}

-- ---- fewer needs

module _ (old new : List Node) (fewer : (n m : Name) → is_among m (needs_in new n) ≡ true → is_among m (needs_in old n) ≡ true) where
  goes_on_before : (k : ℕ) (n : Name) → goes_on k new n ≡ true → goes_on k old n ≡ true
  goes_on_before zero n e = refl
  goes_on_before (suc k) n e = let r = any_found (goes_on k new) (needs_in new n) e in any_at (goes_on k old) (needs_in old n) r.0 (fewer n r.0 r.1) (goes_on_before k r.0 r.2)

  -- where each name needs no other than before, no cycle comes
  pub no_cycle_fewer : HasNoCycle old → HasNoCycle new
  no_cycle_fewer none = no_cycle_from_ends new (λ n. (suc (length old), false_from_ne_true (goes_on (suc (length old)) new n) (λ e. both_ways (goes_on (suc (length old)) old n) (chains_end old none n) (goes_on_before (suc (length old)) n e))))

-- ---- each chain from a name ends

abbrev pub Ends : List Node → Name → Type 0
Ends nodes m = (k : ℕ) × (goes_on k nodes m ≡ false)

goes_on_down : (j k : ℕ) (nodes : List Node) (n : Name) → j ≤ k → goes_on k nodes n ≡ true → goes_on j nodes n ≡ true
goes_on_down zero k nodes n h e = refl
goes_on_down (suc j) zero nodes n h e = absurd (omega arith)
goes_on_down (suc j) (suc k) nodes n h e = any_more (goes_on k nodes) (goes_on j nodes) (needs_in nodes n) (λ m. goes_on_down j k nodes m (omega arith)) e

ends_up : (j k : ℕ) (nodes : List Node) (n : Name) → j ≤ k → goes_on j nodes n ≡ false → goes_on k nodes n ≡ false
ends_up j k nodes n h e = false_from_ne_true (goes_on k nodes n) (λ g. both_ways (goes_on j nodes n) e (goes_on_down j k nodes n h g))

ends_within : (nodes : List Node) (qs : List Name) → ((q : Name) → is_among q qs ≡ true → Ends nodes q) → (k : ℕ) × (list_any (goes_on k nodes) qs ≡ false)
ends_within nodes [] each = (0, refl)
ends_within nodes (q ∷ qs) each =
    let first = each q (or_left (bytes_eq q q) (is_among q qs) (bytes_eq-self q)) in
    let rest = ends_within nodes qs (λ p a. each p (or_right (bytes_eq q p) (is_among p qs) a)) in
    let most : ℕ = first.0 + rest.0 in
    let here : goes_on most nodes q ≡ false = ends_up first.0 most nodes q (omega arith) first.1 in
    let later : list_any (goes_on most nodes) qs ≡ false = any_none (goes_on most nodes) qs (λ p a. ends_up rest.0 most nodes p (omega arith) (none_at (goes_on rest.0 nodes) qs p a rest.1)) in
    (most, ap (λ b. b || list_any (goes_on most nodes) qs) here ∙ later)

pub ends_by_needs : (nodes : List Node) (m : Name) → ((q : Name) → is_among q (needs_in nodes m) ≡ true → Ends nodes q) → Ends nodes m
ends_by_needs nodes m each = let r = ends_within nodes (needs_in nodes m) each in (suc r.0, r.1)

-- ---- other needs of what stands for one name

pub not_here : (j : ℕ) (nodes : List Node) (n m : Name) → reaches j nodes n m ≡ false → bytes_eq m n ≡ false
not_here zero nodes n m e = e
not_here (suc j) nodes n m e = (or_parts (bytes_eq m n) (list_any (reaches j nodes n) (needs_in nodes m)) e).0

-- names away from n need what they needed, and no name that isn't away but n itself
module _ (old new : List Node) (n : Name) (IsAway : Name → Type 0) (others : (m : Name) → IsAway m → needs_in new m ≡ needs_in old m)
    (stays : (m q : Name) → IsAway m → is_among q (needs_in new m) ≡ true → bytes_eq q n ≡ false → IsAway q) where
  -- a chain that never comes to n is as it was
  pub as_before : (k j : ℕ) (m : Name) → IsAway m → goes_on (suc k) old m ≡ false → k ≤ j → reaches j new n m ≡ false → goes_on (suc k) new m ≡ false
  as_before zero j m away e h r = any_none (goes_on zero new) (needs_in new m) (λ t a. none_at (goes_on zero old) (needs_in old m) t (ap (is_among t) (sym (others m away)) ∙ a) e)
  as_before (suc k) zero m away e h r = absurd (omega arith)
  as_before (suc k) (suc j) m away e h r =
      let later = (or_parts (bytes_eq m n) (list_any (reaches j new n) (needs_in new m)) r).1 in
      any_none (goes_on (suc k) new) (needs_in new m) (λ t a.
      let free : reaches j new n t ≡ false = none_at (reaches j new n) (needs_in new m) t a later in
      as_before k j t (stays m t away a (not_here j new n t free)) (none_at (goes_on (suc k) old) (needs_in old m) t (ap (is_among t) (sym (others m away)) ∙ a) e) (omega arith) free)

  pub other_ends : Ends new n → (k : ℕ) (m : Name) → IsAway m → goes_on k old m ≡ false → Ends new m
  other_ends own zero m away e = absurd (true≢false e)
  other_ends own (suc k) m away e = ends_by_needs new m (λ q a. elim (cases_Bool (bytes_eq q n)) [
    | inl same ↦ subst (Ends new) (sym (same_name q n same)) own
    | inr differs ↦ other_ends own k q (stays m q away a differs) (none_at (goes_on k old) (needs_in old m) q (ap (is_among q) (sym (others m away)) ∙ a) e)
  ])

-- where one name alone needs others than before, and isn't looped, no cycle comes
pub no_cycle_changed : (old new : List Node) (n : Name) → ((m : Name) → bytes_eq m n ≡ false → needs_in new m ≡ needs_in old m) → length old ≤ length new → HasNoCycle old → is_looped new n ≡ false → HasNoCycle new
unfolding is_looped
no_cycle_changed old new n others sizes none alone =
    let IsOther : Name → Type 0 = λ m. bytes_eq m n ≡ false in
    let stays : (m q : Name) → IsOther m → is_among q (needs_in new m) ≡ true → bytes_eq q n ≡ false → IsOther q = λ m q away a differs. differs in
    let own : Ends new n = ends_by_needs new n (λ q a.
    let free : reaches (length new) new n q ≡ false = none_at (reaches (length new) new n) (needs_in new n) q a alone in
    (suc (length old), as_before old new n IsOther others stays (length old) (length new) q (not_here (length new) new n q free) (chains_end old none q) sizes free)) in
    no_cycle_from_ends new (λ m. elim (cases_Bool (bytes_eq m n)) [
      | inl same ↦ subst (Ends new) (sym (same_name m n same)) own
      | inr away ↦ other_ends old new n IsOther others stays own (suc (length old)) m away (chains_end old none m)
    ])
