-- In the order by depth each flat statement stands after those that it needs.
use Rattle.std.proofs.Common.{◌≡◌, ℕ, zero, suc, ◌+◌, ◌<◌, ◌≤◌, Bool, true, false, cond, ◌==◌, ◌&&◌, List, [], ◌∷◌, ◌++◌, filter, flat_map, length, Some, is_some, bytes_eq, refl, sym, ap, subst, ◌∙◌, arith, inl, inr}
use Rattle.std.specs.Bool.{⊤}
use Rattle.std.specs.List.{list_any, range_with_len}
use Rattle.std.proofs.lemmas.Bool.{false≢true, or_cases, or_left, or_right, and_parts, and_from, eqb-true, eq-eqb, cases_lt, cases_Bool}
use Rattle.std.proofs.lemmas.Option.{same_Some}
use Rattle.std.proofs.lemmas.List.Folds.{list_any-append}
use Rattle.map_defs.specs.Ops.{Name}
use Rattle.map_defs.specs.Nodes.{Node, find_node, needs_in}
use Rattle.map_defs.specs.Depths.{depth_in, by_depth}
use Rattle.map_edits.specs.Laws.{is_among, is_named_in, HasNoCycle}
use Rattle.map_edits.proofs.Among.{same_name}
use Rattle.map_edits.proofs.Listed.{Each, each_more, each_append}
use Rattle.map_edits.proofs.Looks.{find_node-name}
use Rattle.map_edits.proofs.Unfolds.{depth_of_flat, depth_in_le_nodes, needed_is_less_deep}

-- ---- lists in order of a rank

module _ (rank : Node → ℕ) where
  abbrev pub AllFrom : ℕ → List Node → Type 0
  AllFrom d xs = Each (λ x. d ≤ rank x) xs

  abbrev pub AllAt : ℕ → List Node → Type 0
  AllAt d xs = Each (λ x. rank x ≡ d) xs

  abbrev pub IsRising : List Node → Type 0
  IsRising [] = ⊤
  IsRising (x ∷ xs) = AllFrom (rank x) xs × IsRising xs

  pub from_less : (d e : ℕ) (xs : List Node) → d ≤ e → AllFrom e xs → AllFrom d xs
  from_less d e xs h all = each_more (λ x. e ≤ rank x) (λ x. d ≤ rank x) (λ x above. omega arith) xs all

  from_append : (d : ℕ) (xs ys : List Node) → AllAt d xs → AllFrom d ys → AllFrom d (xs ++ ys)
  from_append d xs ys at from = each_append (λ x. d ≤ rank x) xs ys (each_more (λ x. rank x ≡ d) (λ x. d ≤ rank x) (λ x same. omega arith) xs at) from

  rising_append : (d : ℕ) (xs ys : List Node) → AllAt d xs → AllFrom d ys → IsRising ys → IsRising (xs ++ ys)
  rising_append d [] ys at from rising = rising
  rising_append d (x ∷ xs) ys at from rising = let first : rank x ≡ d = at.0 in (from_less (rank x) d (xs ++ ys) (omega arith) (from_append d xs ys at.1 from), rising_append d xs ys at.1 from rising)

  -- what passes a test that only lower ranks pass is not among the higher
  pub none_from : (q : Node → Bool) (d : ℕ) → ((y : Node) → q y ≡ true → rank y < d) → (xs : List Node) → AllFrom d xs → list_any q xs ≡ true → ⊥
  none_from q d low [] all e = false≢true e
  none_from q d low (x ∷ xs) all e = elim (or_cases (q x) (list_any q xs) e) [
    | inl h ↦ let below : rank x < d = low x h in let above : d ≤ rank x = all.0 in absurd (omega arith)
    | inr h ↦ none_from q d low xs all.1 h
  ]

  stands_before : (q : Node → Bool) (node : Node) (after : List Node) → ((y : Node) → q y ≡ true → rank y < rank node) → (before : List Node) → IsRising (before ++ node ∷ after)
      → list_any q (before ++ node ∷ after) ≡ true → list_any q before ≡ true
  stands_before q node after low [] rising e = elim (or_cases (q node) (list_any q after) e) [
    | inl h ↦ let less : rank node < rank node = low node h in absurd (omega arith)
    | inr h ↦ absurd (none_from q (rank node) low after rising.0 h)
  ]
  stands_before q node after low (b ∷ before) rising e = elim (or_cases (q b) (list_any q (before ++ node ∷ after)) e) [
    | inl h ↦ or_left (q b) (list_any q before) h
    | inr h ↦ or_right (q b) (list_any q before) (stands_before q node after low before rising.1 h)
  ]

  -- ---- rank by rank

  module _ (p : ℕ → Node → Bool) (at : (d : ℕ) (x : Node) → p d x ≡ true → rank x ≡ d) (nodes : List Node) where
    pub filter_at : (d : ℕ) (xs : List Node) → AllAt d (filter (p d) xs)
    filter_at d [] = tt
    filter_at d (x ∷ xs) = elim (cases_Bool (p d x)) [ inl h ↦ rw h (at d x h, filter_at d xs) | inr h ↦ rw h (filter_at d xs) ]

    abbrev pub ranked : ℕ → ℕ → List Node
    ranked a k = flat_map (λ d. filter (p d) nodes) (range_with_len a k)

    pub ranked_from : (a k : ℕ) → AllFrom a (ranked a k)
    ranked_from a zero = tt
    ranked_from a (suc k) = from_append a (filter (p a) nodes) (ranked (a + 1) k) (filter_at a nodes) (from_less a (a + 1) (ranked (a + 1) k) (omega arith) (ranked_from (a + 1) k))

    pub ranked_rising : (a k : ℕ) → IsRising (ranked a k)
    ranked_rising a zero = tt
    ranked_rising a (suc k) = rising_append a (filter (p a) nodes) (ranked (a + 1) k) (filter_at a nodes) (from_less a (a + 1) (ranked (a + 1) k) (omega arith) (ranked_from (a + 1) k)) (ranked_rising (a + 1) k)

    -- what is at one rank is among all
    ranked_any : (q : Node → Bool) (d a k : ℕ) → a ≤ d → d < a + k → list_any q (filter (p d) nodes) ≡ true → list_any q (ranked a k) ≡ true
    ranked_any q d a zero low high e = absurd (omega arith)
    ranked_any q d a (suc k) low high e = list_any-append q (filter (p a) nodes) (ranked (a + 1) k) ∙ elim (cases_lt a d) [
      | inl h ↦ or_right (list_any q (filter (p a) nodes)) (list_any q (ranked (a + 1) k)) (ranked_any q d (a + 1) k (omega arith) (omega arith) e)
      | inr h ↦ let same : d ≡ a = omega arith in or_left (list_any q (filter (p a) nodes)) (list_any q (ranked (a + 1) k)) (ap (λ c. list_any q (filter (p c) nodes)) (sym same) ∙ e)
    ]

-- ---- the order by depth

filter_finds : (p : Node → Bool) (n : Name) (node : Node) (xs : List Node) → find_node xs n ≡ Some node → p node ≡ true → is_named_in n (filter p xs) ≡ true
filter_finds p n node [] e h = absurd cc
filter_finds p n node (x ∷ xs) e h = elim (cases_Bool (bytes_eq x.name n)) [
  | inl same ↦ let found : Some x ≡ Some node = rw same at e in let is : x ≡ node = same_Some x node found in rw (ap p is ∙ h) (or_left (bytes_eq x.name n) (is_named_in n (filter p xs)) same)
  | inr differs ↦ later (p x) (filter_finds p n node xs (rw differs at e) h)
]
  where
    later : (b : Bool) → is_named_in n (filter p xs) ≡ true → is_named_in n (cond b (x ∷ filter p xs) (filter p xs)) ≡ true
    later true rest = or_right (bytes_eq x.name n) (is_named_in n (filter p xs)) rest
    later false rest = rest

abbrev pub depth_at : List Node → Node → ℕ
depth_at nodes node = depth_in nodes node.name

abbrev pub is_flat_at : List Node → ℕ → Node → Bool
is_flat_at nodes d node = is_some node.needs && (depth_in nodes node.name == d)

pub flat_at : (nodes : List Node) (d : ℕ) (x : Node) → is_flat_at nodes d x ≡ true → depth_at nodes x ≡ d
flat_at nodes d x e = eqb-true (depth_at nodes x) d (and_parts (is_some x.needs) (depth_at nodes x == d) e).1

module _ (nodes : List Node) (none : HasNoCycle nodes) where
  -- each flat statement is in the order by depth
  pub all_flats_listed : (n : Name) (node : Node) (ns : List Name) → find_node nodes n ≡ Some node → node.needs ≡ Some ns → is_named_in n (by_depth nodes) ≡ true
  unfolding by_depth
  all_flats_listed n node ns e is =
      let d = depth_in nodes node.name in
      let named : node.name ≡ n = find_node-name nodes n node e in
      let flat = depth_of_flat nodes none n node ns e is in
      let deep : d ≡ depth_in nodes n = ap (depth_in nodes) named in
      let high = depth_in_le_nodes nodes none n in
      let passes : is_flat_at nodes d node ≡ true = and_from (is_some node.needs) (d == d) (ap is_some is) (eq-eqb d d refl) in
      ranked_any (depth_at nodes) (is_flat_at nodes) (flat_at nodes) nodes (λ x. bytes_eq x.name n) d 1 (length nodes) (omega arith) (omega arith) (filter_finds (is_flat_at nodes d) n node nodes e passes)

  -- and stands after each flat statement that it needs
  pub needs_come_before : (before after : List Node) (node : Node) → by_depth nodes ≡ before ++ node ∷ after → (m : Name) → is_among m (needs_in nodes node.name) ≡ true
      → (found : Node) (ns : List Name) → find_node nodes m ≡ Some found → found.needs ≡ Some ns → is_named_in m before ≡ true
  unfolding by_depth
  needs_come_before before after node split m needed found ns e is =
      let low : (y : Node) → bytes_eq y.name m ≡ true → depth_at nodes y < depth_at nodes node = λ y same.
      let named : depth_in nodes y.name ≡ depth_in nodes m = ap (depth_in nodes) (same_name y.name m same) in
      let less = needed_is_less_deep nodes none node.name m needed in
      omega arith in
      let rising : IsRising (depth_at nodes) (before ++ node ∷ after) = subst (IsRising (depth_at nodes)) split (ranked_rising (depth_at nodes) (is_flat_at nodes) (flat_at nodes) nodes 1 (length nodes)) in
      let listed : list_any (λ (x : Node). bytes_eq x.name m) (before ++ node ∷ after) ≡ true = ap (is_named_in m) (sym split) ∙ all_flats_listed m found ns e is in
      stands_before (depth_at nodes) (λ x. bytes_eq x.name m) node after low before rising listed
