-- Each round is one step more of depth, of what is missing, and of what is reached.
use Rattle.std.proofs.Common.{◌≡◌, ℕ, zero, suc, ◌+◌, ◌<◌, ◌≤◌, max, Bool, false, ◌||◌, List, [], ◌∷◌, ◌++◌, map, fold, length, take, set, get_or, Option, Some, None, option_map, unwrap_or, slice_get, bytes_eq, refl, sym, ap, ◌∙◌, arith, IfSome}
use Rattle.std.specs.Option.{option_or}
use Rattle.std.specs.List.{list_any, All}
use Rattle.std.proofs.Math.Nat.{max-le}
use Rattle.std.proofs.lemmas.List.{take_more_set, map_push, map_more, length-map}
use Rattle.std.proofs.lemmas.List.Folds.{fold_stays}
use Rattle.std.proofs.lemmas.Option.{slice_get-get_or, slice_get-map}
use Rattle.std.proofs.Math.Bool.{or_assoc, or-false}
use Rattle.map_defs.specs.Ops.{Name}
use Rattle.map_defs.specs.Nodes.{Node, find_node, needs_in, lacks_within, first_some}
use Rattle.map_defs.specs.Depths.{depth_within, reaches, is_looped}
use Rattle.statement_graph.specs.Tables.{Shown, shown, shown_all, shown_at, table_at, found_or_missing, seen, joined, unjoined, deeper, step_of, needs_at, flat_depth}
use Rattle.statement_graph.specs.declared.row.Row.{Row}
use Rattle.statement_graph.specs.declared.node.Entry.{Entry}
use Rattle.statement_graph.specs.Seats.{node_at, nodes_at}
use Rattle.statement_graph.specs.Firsts.{IsFirst}
use Rattle.statement_graph.proofs.Finding.{looked-map, find_node-name, node_there}

-- ---- a name that isn't there

depth_missing : (k : ℕ) (nodes : List Node) (m : Name) → find_node nodes m ≡ None → depth_within k nodes m ≡ 0
depth_missing zero nodes m e = refl
depth_missing (suc k) nodes m e = rw e refl

needs_missing : (nodes : List Node) (m : Name) → find_node nodes m ≡ None → needs_in nodes m ≡ []
needs_missing nodes m e = rw e refl

-- a name that isn't there lacks itself
pub lacks_missing : (k : ℕ) (nodes : List Node) (m : Name) → find_node nodes m ≡ None → lacks_within (suc k) nodes m ≡ Some m
lacks_missing k nodes m e = rw e refl

reaches_missing : (k : ℕ) (nodes : List Node) (n m : Name) → find_node nodes m ≡ None → reaches k nodes n m ≡ bytes_eq m n
reaches_missing zero nodes n m e = refl
reaches_missing (suc k) nodes n m e = ap (λ ms. bytes_eq m n || list_any (reaches k nodes n) ms) (needs_missing nodes m e) ∙ or-false (bytes_eq m n)

abbrev made : ℕ → Option (Option Name) → Bool → Shown
made d l r = record { depth = d; lack = l; reached = r }

same_shown : (a b : Shown) → a.depth ≡ b.depth → a.lack ≡ b.lack → a.reached ≡ b.reached → a ≡ b
same_shown a b d l r = ap (λ x. made x a.lack a.reached) d ∙ ap (λ x. made b.depth x a.reached) l ∙ ap (made b.depth b.lack) r

-- at any step
pub shown_missing : (k : ℕ) (nodes : List Node) (n m : Name) → find_node nodes m ≡ None → shown_at k nodes n m ≡ found_or_missing n m None
shown_missing k nodes n m e = same_shown (shown_at k nodes n m) _ (depth_missing (suc k) nodes m e) (ap (option_map Some) (lacks_missing k nodes m e)) (reaches_missing k nodes n m e)

pub seen_at : (k : ℕ) (nodes : List Node) (n m : Name) → seen nodes (table_at k nodes n) n m ≡ shown_at k nodes n m
seen_at k nodes n m = ap (found_or_missing n m) (looked-map (λ node. shown_at k nodes n node.name) nodes m) ∙ go (find_node nodes m) refl
  where
    go : (o : Option Node) → find_node nodes m ≡ o → found_or_missing n m (option_map (λ (node : Node). shown_at k nodes n node.name) o) ≡ shown_at k nodes n m
    go None e = sym (shown_missing k nodes n m e)
    go (Some node) e = ap (shown_at k nodes n) (find_node-name nodes m node e)

-- ---- what needs add

option_or-none : {A : Type 0} (o : Option A) → option_or o None ≡ o
option_or-none None = refl
option_or-none (Some x) = refl

or_first : (l : Option (Option Name)) (o : Option Name) (os : List (Option Name))
    → option_or (option_or l (option_map Some o)) (option_map Some (first_some os)) ≡ option_or l (option_map Some (first_some (o ∷ os)))
or_first None None os = refl
or_first None (Some x) os = refl
or_first (Some y) None os = refl
or_first (Some y) (Some x) os = refl

module _ (k : ℕ) (nodes : List Node) (n : Name) where
  all_needs : Shown → List Name → Shown
  all_needs s ms = record {
    depth = fold (λ d m. max d (depth_within (suc k) nodes m)) s.depth ms;
    lack = option_or s.lack (option_map Some (first_some (map (lacks_within (suc k) nodes) ms)));
    reached = s.reached || list_any (reaches k nodes n) ms;
  }

  fold-seen : (s : Shown) (ms : List Name) → fold joined s (map (seen nodes (table_at k nodes n) n) ms) ≡ all_needs s ms
  unfolding all_needs
  fold-seen s [] = same_shown _ _ refl (sym (option_or-none s.lack)) (sym (or-false s.reached))
  fold-seen s (m ∷ ms) =
      ap (λ t. fold joined (joined s t) (map (seen nodes (table_at k nodes n) n) ms)) (seen_at k nodes n m)
      ∙ fold-seen (joined s (shown_at k nodes n m)) ms
      ∙ same_shown _ _ refl (or_first s.lack (lacks_within (suc k) nodes m) (map (lacks_within (suc k) nodes) ms)) (or_assoc s.reached (reaches k nodes n m) (list_any (reaches k nodes n) ms))

  step_parts : (m a : Name) (o : Option (List Name)) → find_node nodes m ≡ Some (record { name = a; needs = o }) → a ≡ m
      → deeper o (all_needs (unjoined n (record { name = a; needs = o })) (unwrap_or o [])) ≡ shown_at (suc k) nodes n m
  unfolding all_needs
  step_parts m a None e same = same_shown _ _ (rw e refl) (rw e refl) (rw e (ap (λ q. bytes_eq q n || false) same))
  step_parts m a (Some ns) e same = same_shown _ _ (rw e refl) (rw e refl) (rw e (ap (λ q. bytes_eq q n || list_any (reaches k nodes n) ns) same))

  pub step_at : (m : Name) (node : Node) → find_node nodes m ≡ Some node → step_of nodes (table_at k nodes n) n node ≡ shown_at (suc k) nodes n m
  step_at m node e = ap (deeper node.needs) (fold-seen (unjoined n node) (needs_at node)) ∙ step_parts m node.name node.needs e (find_node-name nodes m node e)

-- ---- the first round

abbrev no_lack : Name → Option Name
no_lack m = None

first_none : (ms : List Name) → first_some (map no_lack ms) ≡ None
first_none [] = refl
first_none (m ∷ ms) = first_none ms

first_parts : (nodes : List Node) (n m a : Name) (o : Option (List Name)) → find_node nodes m ≡ Some (record { name = a; needs = o }) → a ≡ m
    → ◌≡◌ {A = Shown} (record { depth = flat_depth o; lack = None; reached = bytes_eq a n }) (shown_at 0 nodes n m)
first_parts nodes n m a None e same = same_shown _ _ (rw e refl) (rw e refl) (ap (λ q. bytes_eq q n) same)
first_parts nodes n m a (Some ns) e same =
    same_shown _ _ (rw e (ap suc (sym (fold_stays (λ (d : ℕ) (x : Name). max d 0) 0 (λ x. refl) ns)))) (rw e (ap (option_map Some) (sym (first_none ns)))) (ap (λ q. bytes_eq q n) same)

pub first_at : (nodes : List Node) (n m : Name) (node : Node) → find_node nodes m ≡ Some node
    → ◌≡◌ {A = Shown} (record { depth = flat_depth node.needs; lack = None; reached = bytes_eq node.name n }) (shown_at 0 nodes n m)
first_at nodes n m node e = first_parts nodes n m node.name node.needs e (find_node-name nodes m node e)

-- ---- depths are no greater than the steps

fold_max_le : {A : Type 0} (f : A → ℕ) (b d : ℕ) (xs : List A) → d ≤ b → ((x : A) → f x ≤ b) → fold (λ a x. max a (f x)) d xs ≤ b
fold_max_le f b d [] h below = h
fold_max_le f b d (x ∷ xs) h below = fold_max_le f b (max d (f x)) xs (max-le h (below x)) below

depth_parts : (k : ℕ) (nodes : List Node) (m a : Name) (o : Option (List Name)) → find_node nodes m ≡ Some (record { name = a; needs = o }) → ((q : Name) → depth_within k nodes q ≤ k) → depth_within (suc k) nodes m ≤ suc k
depth_parts k nodes m a None e below = rw e (omega arith)
depth_parts k nodes m a (Some ns) e below = let h = fold_max_le (depth_within k nodes) k 0 ns (omega arith) below in rw e (omega arith)

pub depth_within-le : (k : ℕ) (nodes : List Node) (m : Name) → depth_within k nodes m ≤ k
depth_within-le zero nodes m = omega arith
depth_within-le (suc k) nodes m = go (find_node nodes m) refl (depth_within-le k nodes)
  where
    go : (o : Option Node) → find_node nodes m ≡ o → ((q : Name) → depth_within k nodes q ≤ k) → depth_within (suc k) nodes m ≤ suc k
    go None e below = rw e (omega arith)
    go (Some node) e below = depth_parts k nodes m node.name node.needs e below

-- ---- one place more of a round

any_node : Node
any_node = record { name = []; needs = None }

pub one_more : (nodes all : List Node) (f : Node → Shown) (rows : List Row) (at : ℕ) (row : Row) → at < length rows → at < length nodes
    → shown_all all (take at rows) ≡ map f (take at nodes) → IfSome (slice_get nodes at) (λ node. shown all row ≡ f node) → shown_all all (take (at + 1) (set rows at row)) ≡ map f (take (at + 1) nodes)
one_more nodes all f rows at row in_rows in_nodes before here =
    let got : slice_get nodes at ≡ Some (get_or nodes at any_node) = slice_get-get_or nodes at any_node in_nodes in
    let same : shown all row ≡ f (get_or nodes at any_node) = rw got at here in
    ap (shown_all all) (take_more_set rows at row in_rows) ∙ map_push (shown all) (take at rows) row
    ∙ ap (λ s. s ++ shown all row ∷ []) before ∙ ap (λ s. map f (take at nodes) ++ s ∷ []) same ∙ sym (map_more f nodes at any_node in_nodes)

-- the row of a place by what is found by its name
at_first : (nodes : List Node) (at first : ℕ) (R : Node → Type 0) (Q : Node → Type 0) → first < length nodes → at < length nodes → IsFirst nodes at first → IfSome (slice_get nodes first) R
    → ((node found : Node) → find_node nodes node.name ≡ Some found → R found → Q node) → IfSome (slice_get nodes at) Q
at_first nodes at first R Q first_in at_in is r goes =
    let got : slice_get nodes at ≡ Some (get_or nodes at any_node) = slice_get-get_or nodes at any_node at_in in
    let got_first : slice_get nodes first ≡ Some (get_or nodes first any_node) = slice_get-get_or nodes first any_node first_in in
    let found = rw got at is in
    let here = rw got_first at r in
    rw got (goes (get_or nodes at any_node) (get_or nodes first any_node) (found ∙ got_first) here)

pub next_step : (es : List Entry) (rows : List Row) (n : Name) (k : ℕ) (next : List Row) (at : ℕ) (row : Row) → at < length es → at < length next → IsFirst (nodes_at es) at at
    → IfSome (slice_get (nodes_at es) at) (λ node. shown (nodes_at es) row ≡ step_of (nodes_at es) (shown_all (nodes_at es) rows) n node)
    → shown_all (nodes_at es) rows ≡ table_at k (nodes_at es) n
    → shown_all (nodes_at es) (take at next) ≡ map (λ (node : Node). shown_at (suc k) (nodes_at es) n node.name) (take at (nodes_at es))
    → shown_all (nodes_at es) (take (at + 1) (set next at row)) ≡ map (λ (node : Node). shown_at (suc k) (nodes_at es) n node.name) (take (at + 1) (nodes_at es))
next_step es rows n k next at row at_in at_next is step table before =
    let nodes = nodes_at es in
    let len : length nodes ≡ length es = length-map es node_at in
    one_more nodes nodes (λ node. shown_at (suc k) nodes n node.name) next at row at_next (omega arith) before
    (at_first nodes at at (λ node. shown nodes row ≡ step_of nodes (shown_all nodes rows) n node) (λ node. shown nodes row ≡ shown_at (suc k) nodes n node.name) (omega arith) (omega arith) is step
    (λ node found e s. s ∙ ap (λ t. step_of nodes t n found) table ∙ step_at k nodes n node.name found e))

slice_get-take : {X : Type 0} (xs : List X) (k i : ℕ) → i < k → slice_get (take k xs) i ≡ slice_get xs i
slice_get-take xs zero i h = absurd (omega arith)
slice_get-take [] (suc k) i h = refl
slice_get-take (x ∷ xs) (suc k) zero h = refl
slice_get-take (x ∷ xs) (suc k) (suc i) h = slice_get-take xs k i (omega arith)

-- a place whose name stands before it has the row of that place
pub next_copied : (es : List Entry) (n : Name) (k : ℕ) (next : List Row) (at first : ℕ) (d : Row) → at < length es → at < length next → first < at → IsFirst (nodes_at es) at first
    → shown_all (nodes_at es) (take at next) ≡ map (λ (node : Node). shown_at (suc k) (nodes_at es) n node.name) (take at (nodes_at es))
    → shown_all (nodes_at es) (take (at + 1) (set next at (get_or next first d))) ≡ map (λ (node : Node). shown_at (suc k) (nodes_at es) n node.name) (take (at + 1) (nodes_at es))
next_copied es n k next at first d at_in at_next first_in is before =
    let nodes = nodes_at es in
    let f : Node → Shown = λ node. shown_at (suc k) nodes n node.name in
    let len : length nodes ≡ length es = length-map es node_at in
    let row = get_or next first d in
    let there : slice_get next first ≡ Some row = slice_get-get_or next first d (omega arith) in
    let left : slice_get (shown_all nodes (take at next)) first ≡ Some (shown nodes row) = slice_get-map (shown nodes) (take at next) first ∙ ap (option_map (shown nodes)) (slice_get-take next at first first_in ∙ there) in
    let right : slice_get (map f (take at nodes)) first ≡ option_map f (slice_get nodes first) = slice_get-map f (take at nodes) first ∙ ap (option_map f) (slice_get-take nodes at first first_in) in
    let both : option_map f (slice_get nodes first) ≡ Some (shown nodes row) = sym right ∙ ap (λ l. slice_get l first) (sym before) ∙ left in
    let got : slice_get nodes first ≡ Some (get_or nodes first any_node) = slice_get-get_or nodes first any_node (omega arith) in
    let here : IfSome (slice_get nodes first) (λ node. shown nodes row ≡ f node) = rw got (let same : Some (f (get_or nodes first any_node)) ≡ Some (shown nodes row) = ap (option_map f) (sym got) ∙ both in cc) in
    one_more nodes nodes f next at row at_next (omega arith) before
    (at_first nodes at first (λ node. shown nodes row ≡ f node) (λ node. shown nodes row ≡ f node) (omega arith) (omega arith) is here
    (λ node found e s. s ∙ ap (shown_at (suc k) nodes n) (find_node-name nodes node.name found e)))

-- the row of a place that needs nothing yet
pub first_step : (es : List Entry) (rows : List Row) (n : Name) (at first : ℕ) (row : Row) → at < length es → at < length rows → first < length es → IsFirst (nodes_at es) at first
    → IfSome (slice_get (nodes_at es) first) (λ node. shown (nodes_at es) row ≡ record { depth = flat_depth node.needs; lack = None; reached = bytes_eq node.name n })
    → shown_all (nodes_at es) (take at rows) ≡ map (λ (node : Node). shown_at 0 (nodes_at es) n node.name) (take at (nodes_at es))
    → shown_all (nodes_at es) (take (at + 1) (set rows at row)) ≡ map (λ (node : Node). shown_at 0 (nodes_at es) n node.name) (take (at + 1) (nodes_at es))
first_step es rows n at first row at_in at_rows first_in is step before =
    let nodes = nodes_at es in
    let len : length nodes ≡ length es = length-map es node_at in
    one_more nodes nodes (λ node. shown_at 0 nodes n node.name) rows at row at_rows (omega arith) before
    (at_first nodes at first (λ node. shown nodes row ≡ record { depth = flat_depth node.needs; lack = None; reached = bytes_eq node.name n }) (λ node. shown nodes row ≡ shown_at 0 nodes n node.name) (omega arith) (omega arith) is step
    (λ node found e s. s ∙ first_at nodes n node.name found e))

-- depths of a table are small
shown_depths : (all nodes : List Node) (n : Name) (k : ℕ) (rows : List Row) → shown_all all rows ≡ map (λ (node : Node). shown_at k all n node.name) nodes → (i : ℕ) (d : Row) → i < length rows → (get_or rows i d).depth ≤ suc k
shown_depths all nodes n k [] e i d h = absurd (omega arith)
shown_depths all [] n k (r ∷ rows) e i d h = absurd cc
shown_depths all (node ∷ nodes) n k (r ∷ rows) e zero d h =
    let same : shown all r ≡ shown_at k all n node.name = cc in
    let depth : r.depth ≡ depth_within (suc k) all node.name = ap (λ (s : Shown). s.depth) same in
    let le = depth_within-le (suc k) all node.name in
    omega arith
shown_depths all (node ∷ nodes) n k (r ∷ rows) e (suc i) d h =
    let rest : shown_all all rows ≡ map (λ (node : Node). shown_at k all n node.name) nodes = cc in
    shown_depths all nodes n k rows rest i d (omega arith)

pub shallow_at : (nodes : List Node) (n : Name) (k b : ℕ) (rows : List Row) → shown_all nodes rows ≡ table_at k nodes n → suc k + 1 < b → All (λ r. r.depth + 1 < b) rows
shallow_at nodes n k b rows e h i d within = let le = shown_depths nodes nodes n k rows e i d within in omega arith

pub first_row : (es : List Entry) (n : Name) (at : ℕ) (e : Entry) (depth : ℕ) (reached : Bool) → at < length es → e ≡ get_or es at e → depth ≡ flat_depth (node_at e).needs → reached ≡ bytes_eq (node_at e).name n
    → IfSome (slice_get (nodes_at es) at) (λ node. shown (nodes_at es) (record { depth = depth; lack = None; reached = reached }) ≡ record { depth = flat_depth node.needs; lack = None; reached = bytes_eq node.name n })
first_row es n at e depth reached within is d r = rw (node_there es at e within is) (same_shown _ _ d refl r)

-- ---- what is reached

list_any-agree : (f g : Name → Bool) → ((m : Name) → f m ≡ g m) → (ms : List Name) → list_any f ms ≡ list_any g ms
list_any-agree f g same [] = refl
list_any-agree f g same (m ∷ ms) = ap (λ b. b || list_any f ms) (same m) ∙ ap (λ b. g m || b) (list_any-agree f g same ms)

needs_found : (nodes : List Node) (m : Name) (node : Node) → find_node nodes m ≡ Some node → needs_in nodes m ≡ needs_at node
needs_found nodes m node e = rw e refl

pub looped_missing : (nodes : List Node) (n : Name) → find_node nodes n ≡ None → false ≡ is_looped nodes n
unfolding is_looped
looped_missing nodes n e = ap (list_any (reaches (length nodes) nodes n)) (sym (needs_missing nodes n e))

pub looped_found : (es : List Entry) (rows : List Row) (n : Name) (node : Node) (needs : List Name) (b : Bool) → find_node (nodes_at es) n ≡ Some node → needs ≡ needs_at node → shown_all (nodes_at es) rows ≡ table_at (length es) (nodes_at es) n
    → b ≡ list_any (λ m. (seen (nodes_at es) (shown_all (nodes_at es) rows) n m).reached) needs → b ≡ is_looped (nodes_at es) n
unfolding is_looped
looped_found es rows n node needs b e are table is =
    let nodes = nodes_at es in
    let len : length es ≡ length nodes = sym (length-map es node_at) in
    is ∙ ap (λ t. list_any (λ m. (seen nodes t n m).reached) needs) (table ∙ ap (λ k. table_at k nodes n) len)
    ∙ list_any-agree (λ m. (seen nodes (table_at (length nodes) nodes n) n m).reached) (reaches (length nodes) nodes n) (λ m. ap (λ (s : Shown). s.reached) (seen_at (length nodes) nodes n m)) needs
    ∙ ap (list_any (reaches (length nodes) nodes n)) (are ∙ sym (needs_found nodes n node e))
