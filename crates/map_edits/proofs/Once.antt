-- Where no name stands twice, each node is found by its name, and by depth each is listed once.
use Rattle.std.proofs.Common.{◌≡◌, ℕ, zero, suc, ◌+◌, ◌<◌, Bool, true, false, List, [], ◌∷◌, ◌++◌, map, filter, length, None, is_some, bytes_eq, refl, sym, ap, ◌∙◌, inl, inr, arith}
use Rattle.std.specs.Bool.{⊤}
use Rattle.std.proofs.lemmas.Bool.{or_parts, or_from, false_from_ne_true, cases_Bool}
use Rattle.std.proofs.lemmas.List.Folds.{list_any-append}
use Rattle.map_defs.specs.Ops.{Name}
use Rattle.map_defs.specs.FlatNames.{IsIn, AreApart}
use Rattle.map_defs.specs.Nodes.{Node, find_node}
use Rattle.map_defs.specs.Depths.{depth_in, by_depth}
use Rattle.map_edits.specs.Laws.{is_named_in}
use Rattle.map_edits.proofs.Among.{same_name, bytes_eq-turned}
use Rattle.map_edits.proofs.Looks.{none_there}
use Rattle.map_edits.proofs.Listed.{Each, IsFoundIn, one_more, IsListed, found_listed}
use Rattle.map_edits.proofs.Order.{AllFrom, AllAt, none_from, filter_at, ranked, ranked_from, depth_at, is_flat_at, flat_at}

-- no name stands twice
abbrev pub IsOnce : List Node → Type 0
IsOnce [] = ⊤
IsOnce (x ∷ xs) = (is_named_in x.name xs ≡ false) × IsOnce xs

-- ---- what is found, and what is named

pub find_named : (xs : List Node) (n : Name) → is_some (find_node xs n) ≡ is_named_in n xs
find_named [] n = refl
find_named (x ∷ xs) n = elim (cases_Bool (bytes_eq x.name n)) [ inl h ↦ rw h refl | inr h ↦ rw h (find_named xs n) ]

pub not_found : (xs : List Node) (n : Name) → find_node xs n ≡ None → is_named_in n xs ≡ false
not_found xs n e = sym (find_named xs n) ∙ ap is_some e

-- what isn't there by its name isn't named
pub not_named : (n : Name) (xs : List Node) → (IsIn n (map (λ (x : Node). x.name) xs) → ⊥) → is_named_in n xs ≡ false
not_named n [] away = refl
not_named n (x ∷ xs) away = or_from (bytes_eq x.name n) (is_named_in n xs) (false_from_ne_true (bytes_eq x.name n) (λ same. away (inl (sym (same_name x.name n same))))) (not_named n xs (λ at. away (inr at)))

pub once_apart : (xs : List Node) → AreApart (map (λ (x : Node). x.name) xs) → IsOnce xs
once_apart [] apart = tt
once_apart (x ∷ xs) apart = (not_named x.name xs apart.0, once_apart xs apart.1)

-- each is the one that is found by its name
pub once_found : (xs : List Node) → IsOnce xs → Each (IsFoundIn xs) xs
once_found [] once = tt
once_found (x ∷ xs) once = one_more x xs (none_there (find_node xs x.name) (find_named xs x.name ∙ once.0)) (once_found xs once.1)

pub once_listed : (nodes : List Node) → IsOnce nodes → Each (IsListed nodes) (by_depth nodes)
once_listed nodes once = found_listed nodes (once_found nodes once)

-- ---- parts of a list, and two in a row

named_filter : (p : Node → Bool) (n : Name) (xs : List Node) → is_named_in n xs ≡ false → is_named_in n (filter p xs) ≡ false
named_filter p n [] e = refl
named_filter p n (x ∷ xs) e =
    let parts = or_parts (bytes_eq x.name n) (is_named_in n xs) e in
    let rest = named_filter p n xs parts.1 in
    elim (cases_Bool (p x)) [ inl h ↦ rw h (or_from (bytes_eq x.name n) (is_named_in n (filter p xs)) parts.0 rest) | inr h ↦ rw h rest ]

pub once_filter : (p : Node → Bool) (xs : List Node) → IsOnce xs → IsOnce (filter p xs)
once_filter p [] once = tt
once_filter p (x ∷ xs) once = elim (cases_Bool (p x)) [ inl h ↦ rw h (named_filter p x.name xs once.0, once_filter p xs once.1) | inr h ↦ rw h (once_filter p xs once.1) ]

pub once_append : (xs ys : List Node) → IsOnce xs → IsOnce ys → Each (λ x. is_named_in x.name ys ≡ false) xs → IsOnce (xs ++ ys)
once_append [] ys first rest apart = rest
once_append (x ∷ xs) ys first rest apart =
    (list_any-append (λ (y : Node). bytes_eq y.name x.name) xs ys ∙ or_from (is_named_in x.name xs) (is_named_in x.name ys) first.0 apart.0, once_append xs ys first.1 rest apart.1)

-- ---- by depth

module _ (nodes : List Node) (once : IsOnce nodes) where
  -- a name at one depth is at no greater
  at_one_depth : (d e : ℕ) (ys xs : List Node) → d < e → AllAt (depth_at nodes) d xs → AllFrom (depth_at nodes) e ys → Each (λ x. is_named_in x.name ys ≡ false) xs
  at_one_depth d e ys [] h at from = tt
  at_one_depth d e ys (x ∷ xs) h at from = (here, at_one_depth d e ys xs h at.1 from)
    where
      low : (y : Node) → bytes_eq y.name x.name ≡ true → depth_at nodes y < e
      low y same = let named : depth_in nodes y.name ≡ depth_in nodes x.name = ap (depth_in nodes) (same_name y.name x.name same) in let first : depth_at nodes x ≡ d = at.0 in omega arith

      here : is_named_in x.name ys ≡ false
      here = false_from_ne_true (is_named_in x.name ys) (none_from (depth_at nodes) (λ y. bytes_eq y.name x.name) e low ys from)

  ranked_once : (a k : ℕ) → IsOnce (ranked (depth_at nodes) (is_flat_at nodes) (flat_at nodes) nodes a k)
  ranked_once a zero = tt
  ranked_once a (suc k) =
      let rest = ranked (depth_at nodes) (is_flat_at nodes) (flat_at nodes) nodes (a + 1) k in
      once_append (filter (is_flat_at nodes a) nodes) rest (once_filter (is_flat_at nodes a) nodes once) (ranked_once (a + 1) k)
      (at_one_depth a (a + 1) rest (filter (is_flat_at nodes a) nodes) (omega arith) (filter_at (depth_at nodes) (is_flat_at nodes) (flat_at nodes) nodes a nodes) (ranked_from (depth_at nodes) (is_flat_at nodes) (flat_at nodes) nodes (a + 1) k))

  pub by_depth_once : IsOnce (by_depth nodes)
  unfolding by_depth
  by_depth_once = ranked_once 1 (length nodes)

pub once_between : (node : Node) (after before : List Node) → IsOnce (before ++ node ∷ after) → (is_named_in node.name before ≡ false) × (is_named_in node.name after ≡ false)
once_between node after [] once = (refl, once.0)
once_between node after (b ∷ before) once =
    let rest = once_between node after before once.1 in
    let parts = or_parts (is_named_in b.name before) (is_named_in b.name (node ∷ after)) (sym (list_any-append (λ (y : Node). bytes_eq y.name b.name) before (node ∷ after)) ∙ once.0) in
    let differs = (or_parts (bytes_eq node.name b.name) (is_named_in b.name after) parts.1).0 in
    (or_from (bytes_eq b.name node.name) (is_named_in node.name before) (bytes_eq-turned node.name b.name differs) rest.0, rest.1)
