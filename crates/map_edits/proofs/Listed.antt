-- What holds of each element of a list; and where no name stands twice, each node that is listed by depth is the one that is found by its name.
use Rattle.std.proofs.Common.{◌≡◌, Bool, true, ◌&&◌, ◌==◌, List, [], ◌∷◌, ◌++◌, filter, flat_map, length, Some, None, is_some, bytes_eq, inl, inr, refl, sym, ap, ◌∙◌}
use Rattle.std.specs.List.{AllByRecursion, range_with_len}
use Rattle.std.proofs.lemmas.Bool.{cases_Bool, and_parts}
use Rattle.std.proofs.lemmas.Option.{none-some}
use Rattle.map_defs.specs.Nodes.{Node, find_node}
use Rattle.map_defs.specs.Depths.{depth_in, by_depth}
use Rattle.map_edits.proofs.Among.{same_name, bytes_eq-self}

-- ---- what holds of each element of a list

abbrev pub Each : (Node → Type 0) → List Node → Type 0
Each P xs = AllByRecursion P xs

module _ {X : Type 0} (P : X → Type 0) where
  pub each_more : (Q : X → Type 0) → ((x : X) → P x → Q x) → (xs : List X) → AllByRecursion P xs → AllByRecursion Q xs
  each_more Q more [] each = tt
  each_more Q more (x ∷ xs) each = (more x each.0, each_more Q more xs each.1)

  pub each_append : (xs ys : List X) → AllByRecursion P xs → AllByRecursion P ys → AllByRecursion P (xs ++ ys)
  each_append [] ys first rest = rest
  each_append (x ∷ xs) ys first rest = (first.0, each_append xs ys first.1 rest)

  pub each_filter : (p : X → Bool) (xs : List X) → AllByRecursion P xs → AllByRecursion (λ x. P x × (p x ≡ true)) (filter p xs)
  each_filter p [] each = tt
  each_filter p (x ∷ xs) each = elim (cases_Bool (p x)) [ inl h ↦ rw h ((each.0, h), each_filter p xs each.1) | inr h ↦ rw h (each_filter p xs each.1) ]

  pub each_flat_map : {Y : Type 0} (f : Y → List X) → ((y : Y) → AllByRecursion P (f y)) → (ys : List Y) → AllByRecursion P (flat_map f ys)
  each_flat_map f each [] = tt
  each_flat_map f each (y ∷ ys) = each_append (f y) (flat_map f ys) (each y) (each_flat_map f each ys)

  pub each_split : (x : X) (after before : List X) → AllByRecursion P (before ++ x ∷ after) → P x
  each_split x after [] each = each.0
  each_split x after (b ∷ before) each = each_split x after before each.1

-- ---- the nodes of entries

abbrev pub IsFoundIn : List Node → Node → Type 0
IsFoundIn nodes node = find_node nodes node.name ≡ Some node

-- what is found behind a node with a name of its own
found_behind : (x : Node) (xs : List Node) → find_node xs x.name ≡ None → (node : Node) → IsFoundIn xs node → IsFoundIn (x ∷ xs) node
found_behind x xs alone node found = elim (cases_Bool (bytes_eq x.name node.name)) [
  | inl same ↦ absurd (none-some node (sym alone ∙ ap (find_node xs) (same_name x.name node.name same) ∙ found))
  | inr differs ↦ rw differs found
]

pub one_more : (x : Node) (xs : List Node) → find_node xs x.name ≡ None → Each (IsFoundIn xs) xs → Each (IsFoundIn (x ∷ xs)) (x ∷ xs)
one_more x xs alone each = (rw (bytes_eq-self x.name) refl, each_more (IsFoundIn xs) (IsFoundIn (x ∷ xs)) (found_behind x xs alone) xs each)

-- ---- the nodes listed by depth

-- a flat statement that is found by its name
abbrev pub IsListed : List Node → Node → Type 0
IsListed nodes node = IsFoundIn nodes node × (is_some node.needs ≡ true)

pub found_listed : (nodes : List Node) → Each (IsFoundIn nodes) nodes → Each (IsListed nodes) (by_depth nodes)
unfolding by_depth
found_listed nodes found =
    each_flat_map (IsListed nodes) (λ d. filter (λ (node : Node). is_some node.needs && (depth_in nodes node.name == d)) nodes)
    (λ d. each_more (λ node. IsFoundIn nodes node × ((is_some node.needs && (depth_in nodes node.name == d)) ≡ true)) (IsListed nodes)
    (λ node r. (r.0, (and_parts (is_some node.needs) (depth_in nodes node.name == d) r.1).0))
    (filter (λ (node : Node). is_some node.needs && (depth_in nodes node.name == d)) nodes)
    (each_filter (IsFoundIn nodes) (λ node. is_some node.needs && (depth_in nodes node.name == d)) nodes found))
    (range_with_len 1 (length nodes))
