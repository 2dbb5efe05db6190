-- Without a cycle each chain of names, each needed by the one before, ends: it visits new nodes all along, so it is no longer than there are nodes.
use Rattle.std.proofs.Common.{◌≡◌, ℕ, zero, suc, ◌+◌, ◌<◌, ◌≤◌, max, Bool, true, false, cond, List, [], ◌∷◌, fold, length, Option, Some, None, bytes_eq, ◌⊎◌, refl, sym, ap, subst, ◌∙◌, arith, inl, inr}
use Rattle.std.specs.List.{list_any}
use Rattle.std.proofs.lemmas.Bool.{true≢false, false≢true, both_ways, or_cases, or_left, or_right, false_from_ne_true, cases_Bool}
use Rattle.map_defs.specs.Ops.{Name}
use Rattle.map_defs.specs.Nodes.{Node, find_node, needs_in}
use Rattle.map_defs.specs.Depths.{depth_within, reaches, is_looped}
use Rattle.map_edits.specs.Laws.{is_among, HasNoCycle}
use Rattle.map_edits.proofs.Among.{same_name, bytes_eq-self, bytes_eq-turned, any_at, any_found, none_at, any_more, fold_max_le, fold_max_at}

-- ---- what is reached

-- one step more at the end of a path
pub reaches_then : (j : ℕ) (nodes : List Node) (n m : Name) → is_among m (needs_in nodes n) ≡ true → (t : Name) → reaches j nodes n t ≡ true → reaches (suc j) nodes m t ≡ true
reaches_then zero nodes n m a t e =
    let here : is_among m (needs_in nodes t) ≡ true = subst (λ q. is_among m (needs_in nodes q) ≡ true) (sym (same_name t n e)) a in
    or_right (bytes_eq t m) (list_any (reaches zero nodes m) (needs_in nodes t)) (any_at (reaches zero nodes m) (needs_in nodes t) m here (bytes_eq-self m))
reaches_then (suc j) nodes n m a t e = elim (or_cases (bytes_eq t n) (list_any (reaches j nodes n) (needs_in nodes t)) e) [
  | inl h ↦
      let here : is_among m (needs_in nodes t) ≡ true = subst (λ q. is_among m (needs_in nodes q) ≡ true) (sym (same_name t n h)) a in
      or_right (bytes_eq t m) (list_any (reaches (suc j) nodes m) (needs_in nodes t)) (any_at (reaches (suc j) nodes m) (needs_in nodes t) m here (or_left (bytes_eq m m) (list_any (reaches j nodes m) (needs_in nodes m)) (bytes_eq-self m)))
  | inr h ↦ or_right (bytes_eq t m) (list_any (reaches (suc j) nodes m) (needs_in nodes t)) (any_more (reaches j nodes n) (reaches (suc j) nodes m) (needs_in nodes t) (reaches_then j nodes n m a) h)
]

-- in more steps no less is reached
pub reaches_up : (j k : ℕ) (nodes : List Node) (n : Name) → j ≤ k → (t : Name) → reaches j nodes n t ≡ true → reaches k nodes n t ≡ true
reaches_up zero zero nodes n h t e = e
reaches_up zero (suc k) nodes n h t e = or_left (bytes_eq t n) (list_any (reaches k nodes n) (needs_in nodes t)) e
reaches_up (suc j) zero nodes n h t e = absurd (omega arith)
reaches_up (suc j) (suc k) nodes n h t e = elim (or_cases (bytes_eq t n) (list_any (reaches j nodes n) (needs_in nodes t)) e) [
  | inl same ↦ or_left (bytes_eq t n) (list_any (reaches k nodes n) (needs_in nodes t)) same
  | inr later ↦ or_right (bytes_eq t n) (list_any (reaches k nodes n) (needs_in nodes t)) (any_more (reaches j nodes n) (reaches k nodes n) (needs_in nodes t) (reaches_up j k nodes n (omega arith)) later)
]

-- ---- how many nodes weren't visited

abbrev unseen : List Name → List Node → ℕ
unseen seen [] = 0
unseen seen (x ∷ xs) = cond (is_among x.name seen) 0 1 + unseen seen xs

unseen_all : (nodes : List Node) → unseen [] nodes ≤ length nodes
unseen_all [] = omega arith
unseen_all (x ∷ xs) = let rest = unseen_all xs in omega arith

unseen_le : (n : Name) (seen : List Name) (nodes : List Node) → unseen (n ∷ seen) nodes ≤ unseen seen nodes
unseen_le n seen [] = omega arith
unseen_le n seen (x ∷ xs) = let rest = unseen_le n seen xs in elim (cases_Bool (bytes_eq n x.name)) [ inl h ↦ rw h (omega arith) | inr h ↦ rw h (omega arith) ]

-- a visit to a node that wasn't visited leaves fewer
unseen_lt : (n : Name) (seen : List Name) (nodes : List Node) (node : Node) → find_node nodes n ≡ Some node → is_among n seen ≡ false → unseen (n ∷ seen) nodes < unseen seen nodes
unseen_lt n seen [] node e new = absurd cc
unseen_lt n seen (x ∷ xs) node e new = elim (cases_Bool (bytes_eq x.name n)) [
  | inl same ↦
      let named : x.name ≡ n = same_name x.name n same in
      let before : is_among x.name seen ≡ false = ap (λ q. is_among q seen) named ∙ new in
      let now : bytes_eq n x.name ≡ true = ap (bytes_eq n) named ∙ bytes_eq-self n in
      let le = unseen_le n seen xs in
      rw (before, now) (omega arith)
  | inr differs ↦ let rest = unseen_lt n seen xs node (rw differs at e) new in rw (bytes_eq-turned x.name n differs) (omega arith)
]

-- ---- a trail: the names visited, each of which reaches the name where it stands

abbrev Trail : List Node → List Name → Name → Type 0
Trail nodes seen n = (s : Name) → is_among s seen ≡ true → list_any (reaches (length seen) nodes n) (needs_in nodes s) ≡ true

trail_step : (nodes : List Node) (seen : List Name) (n m : Name) → Trail nodes seen n → is_among m (needs_in nodes n) ≡ true → Trail nodes (n ∷ seen) m
trail_step nodes seen n m trail a s e = go (or_cases (bytes_eq n s) (is_among s seen) e)
  where
    go : (bytes_eq n s ≡ true) ⊎ (is_among s seen ≡ true) → list_any (reaches (suc (length seen)) nodes m) (needs_in nodes s) ≡ true
    go (inl h) =
        let here : is_among m (needs_in nodes s) ≡ true = subst (λ q. is_among m (needs_in nodes q) ≡ true) (same_name n s h) a in
        any_at (reaches (suc (length seen)) nodes m) (needs_in nodes s) m here (or_left (bytes_eq m m) (list_any (reaches (length seen) nodes m) (needs_in nodes m)) (bytes_eq-self m))
    go (inr h) = any_more (reaches (length seen) nodes n) (reaches (suc (length seen)) nodes m) (needs_in nodes s) (reaches_then (length seen) nodes n m a) (trail s h)

needs_some : (nodes : List Node) (n a : Name) (ns : List Name) → find_node nodes n ≡ Some (record { name = a; needs = Some ns }) → needs_in nodes n ≡ ns
needs_some nodes n a ns e = rw e refl

depth_some : (k : ℕ) (nodes : List Node) (n a : Name) (ns : List Name) → find_node nodes n ≡ Some (record { name = a; needs = Some ns }) → depth_within (suc k) nodes n ≡ suc (fold (λ d m. max d (depth_within k nodes m)) 0 ns)
depth_some k nodes n a ns e = rw e refl

module _ (nodes : List Node) (none : HasNoCycle nodes) where
  -- a name that needs others stands on no trail that leads to it
  unvisited : (seen : List Name) (n : Name) → Trail nodes seen n → length seen ≤ length nodes → is_among n seen ≡ false
  unfolding is_looped
  unvisited seen n trail short = false_from_ne_true (is_among n seen) (λ e.
      both_ways (is_looped nodes n) (none n) (any_more (reaches (length seen) nodes n) (reaches (length nodes) nodes n) (needs_in nodes n) (reaches_up (length seen) (length nodes) nodes n short) (trail n e)))

  module _ (k : ℕ) (seen : List Name) (n : Name) (trail : Trail nodes seen n) (room : length seen + unseen seen nodes ≤ length nodes)
      (next : (m : Name) → Trail nodes (n ∷ seen) m → length (n ∷ seen) + unseen (n ∷ seen) nodes ≤ length nodes → depth_within k nodes m ≤ unseen (n ∷ seen) nodes) where
    shallow_parts : (a : Name) (o : Option (List Name)) → find_node nodes n ≡ Some (record { name = a; needs = o }) → depth_within (suc k) nodes n ≤ unseen seen nodes
    shallow_parts a None e = rw e (omega arith)
    shallow_parts a (Some ns) e =
        let new : is_among n seen ≡ false = unvisited seen n trail (omega arith) in
        let fewer : unseen (n ∷ seen) nodes < unseen seen nodes = unseen_lt n seen nodes (record { name = a; needs = Some ns }) e new in
        let less : fold (λ d m. max d (depth_within k nodes m)) 0 ns ≤ unseen (n ∷ seen) nodes = fold_max_le (depth_within k nodes) (unseen (n ∷ seen) nodes) 0 ns (omega arith)
        (λ m b. next m (trail_step nodes seen n m trail (ap (is_among m) (needs_some nodes n a ns e) ∙ b)) (omega arith)) in
        omega (arith, depth_some k nodes n a ns e)

    shallow_found : (o : Option Node) → find_node nodes n ≡ o → depth_within (suc k) nodes n ≤ unseen seen nodes
    shallow_found None e = rw e (omega arith)
    shallow_found (Some node) e = shallow_parts node.name node.needs e

  shallow : (k : ℕ) (seen : List Name) (n : Name) → Trail nodes seen n → length seen + unseen seen nodes ≤ length nodes → depth_within k nodes n ≤ unseen seen nodes
  shallow zero seen n trail room = omega arith
  shallow (suc k) seen n trail room = shallow_found k seen n trail room (shallow k (n ∷ seen)) (find_node nodes n) refl

  -- in any number of steps, no depth is greater than there are nodes
  pub depth_le_nodes : (k : ℕ) (n : Name) → depth_within k nodes n ≤ length nodes
  depth_le_nodes k n =
      let all = unseen_all nodes in
      let le = shallow k [] n (λ s e. absurd (false≢true e)) (omega arith) in
      omega arith

-- ---- chains

-- a chain of k steps goes on from the name
abbrev pub goes_on : ℕ → List Node → Name → Bool
goes_on zero nodes n = true
goes_on (suc k) nodes n = list_any (goes_on k nodes) (needs_in nodes n)

-- who needs a name is deeper
depth_step_parts : (k : ℕ) (nodes : List Node) (n m a : Name) (o : Option (List Name)) → find_node nodes n ≡ Some (record { name = a; needs = o }) → is_among m (needs_in nodes n) ≡ true → depth_within k nodes m < depth_within (suc k) nodes n
depth_step_parts k nodes n m a None e b = let no : needs_in nodes n ≡ [] = rw e refl in absurd (false≢true (ap (is_among m) (sym no) ∙ b))
depth_step_parts k nodes n m a (Some ns) e b =
    let le = fold_max_at (depth_within k nodes) 0 ns m (ap (is_among m) (sym (needs_some nodes n a ns e)) ∙ b) in
    omega (arith, depth_some k nodes n a ns e)

pub depth_step : (k : ℕ) (nodes : List Node) (n m : Name) → is_among m (needs_in nodes n) ≡ true → depth_within k nodes m < depth_within (suc k) nodes n
depth_step k nodes n m b = go (find_node nodes n) refl
  where
    go : (o : Option Node) → find_node nodes n ≡ o → depth_within k nodes m < depth_within (suc k) nodes n
    go None e = let no : needs_in nodes n ≡ [] = rw e refl in absurd (false≢true (ap (is_among m) (sym no) ∙ b))
    go (Some node) e = depth_step_parts k nodes n m node.name node.needs e b

deep : (k : ℕ) (nodes : List Node) (n : Name) → goes_on k nodes n ≡ true → k ≤ depth_within k nodes n
deep zero nodes n e = omega arith
deep (suc k) nodes n e =
    let r = any_found (goes_on k nodes) (needs_in nodes n) e in
    omega (arith, deep k nodes r.0 r.2, depth_step k nodes n r.0 r.1)

-- without a cycle each chain ends
pub chains_end : (nodes : List Node) → HasNoCycle nodes → (n : Name) → goes_on (suc (length nodes)) nodes n ≡ false
chains_end nodes none n = false_from_ne_true (goes_on (suc (length nodes)) nodes n) (λ e. let long = deep (suc (length nodes)) nodes n e in let short = depth_le_nodes nodes none (suc (length nodes)) n in absurd (omega arith))

pub goes_on_less : (k : ℕ) (nodes : List Node) (n : Name) → goes_on (suc k) nodes n ≡ true → goes_on k nodes n ≡ true
goes_on_less zero nodes n e = refl
goes_on_less (suc k) nodes n e = any_more (goes_on (suc k) nodes) (goes_on k nodes) (needs_in nodes n) (goes_on_less k nodes) e

-- a chain goes on from what reaches a name from which one does
reached_goes_on : (j k : ℕ) (nodes : List Node) (n : Name) → goes_on k nodes n ≡ true → (t : Name) → reaches j nodes n t ≡ true → goes_on k nodes t ≡ true
reached_goes_on zero k nodes n g t e = ap (goes_on k nodes) (same_name t n e) ∙ g
reached_goes_on (suc j) k nodes n g t e = elim (or_cases (bytes_eq t n) (list_any (reaches j nodes n) (needs_in nodes t)) e) [
  | inl h ↦ ap (goes_on k nodes) (same_name t n h) ∙ g
  | inr h ↦ goes_on_less k nodes t (any_more (reaches j nodes n) (goes_on k nodes) (needs_in nodes t) (reached_goes_on j k nodes n g) h)
]

-- round a cycle a chain goes on for ever
looped_goes_on : (k : ℕ) (nodes : List Node) (n : Name) → is_looped nodes n ≡ true → goes_on k nodes n ≡ true
unfolding is_looped
looped_goes_on zero nodes n e = refl
looped_goes_on (suc k) nodes n e = any_more (reaches (length nodes) nodes n) (goes_on k nodes) (needs_in nodes n) (reached_goes_on (length nodes) k nodes n (looped_goes_on k nodes n e)) e

-- where each chain ends there is no cycle
pub no_cycle_from_ends : (nodes : List Node) → ((n : Name) → (k : ℕ) × (goes_on k nodes n ≡ false)) → HasNoCycle nodes
no_cycle_from_ends nodes end n = let r = end n in false_from_ne_true (is_looped nodes n) (λ e. both_ways (goes_on r.0 nodes n) r.1 (looped_goes_on r.0 nodes n e))

-- ---- more steps change nothing

-- a recursion by steps stays as it is once chains have ended, if it looks only at what a name needs
pub settles : {X : Type 0} (nodes : List Node) (f : ℕ → Name → X) → ((k : ℕ) (n : Name) → ((m : Name) → is_among m (needs_in nodes n) ≡ true → f k m ≡ f (suc k) m) → f (suc k) n ≡ f (suc (suc k)) n)
    → (k : ℕ) (n : Name) → goes_on k nodes n ≡ false → f k n ≡ f (suc k) n
settles nodes f same zero n e = absurd (true≢false e)
settles nodes f same (suc k) n e = same k n (λ m a. settles nodes f same k m (none_at (goes_on k nodes) (needs_in nodes n) m a e))
