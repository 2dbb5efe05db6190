-- Without a cycle, value, lack and depth follow their equations, with no count of steps.
use Rattle.std.proofs.Common.{◌≡◌, ℕ, suc, ◌<◌, ◌≤◌, max, true, List, [], ◌∷◌, map, flat_map, fold, length, Option, Some, None, is_some, option_map, bytes_eq, if◌then◌else◌, refl, sym, ap, ◌∙◌, arith}
use Rattle.std.proofs.lemmas.Bool.{or_left, or_right}
use Rattle.map_nums.specs.Grids.{Size, Grid}
use Rattle.map_defs.specs.Ops.{Name, Term, layer_term, number_term, term_names}
use Rattle.map_defs.specs.Operate.{operate}
use Rattle.map_defs.specs.Nodes.{Node, find_node, needs_in, lacks_within, lacks, first_some}
use Rattle.map_defs.specs.Depths.{depth_within, depth_in}
use Rattle.map_edits.specs.LayerDefs.{Making, given_grid, by_op, LayerDef, layers, find_making, node_of_layer, nodes_of}
use Rattle.map_edits.specs.EngineStates.{EngineState, all_some, term_cells, made, value_within, value_of}
use Rattle.map_edits.specs.Laws.{is_among, HasNoCycle}
use Rattle.map_edits.proofs.Among.{bytes_eq-self, map_agree, fold_max_agree}
use Rattle.map_edits.proofs.Chains.{chains_end, settles, depth_le_nodes, depth_step}
use Rattle.map_edits.proofs.Looks.{found_needs, making_needs, needs_in-layers, length-nodes}

-- ---- lacks

lacks_settles : (nodes : List Node) (k : ℕ) (n : Name) → ((m : Name) → is_among m (needs_in nodes n) ≡ true → lacks_within k nodes m ≡ lacks_within (suc k) nodes m)
    → lacks_within (suc k) nodes n ≡ lacks_within (suc (suc k)) nodes n
lacks_settles nodes k n same = ap (λ os. if is_some (find_node nodes n) then first_some os else Some n) (map_agree (lacks_within k nodes) (lacks_within (suc k) nodes) (needs_in nodes n) same)

pub lacks_unfolds : (nodes : List Node) → HasNoCycle nodes → (n : Name) → lacks nodes n ≡ (if is_some (find_node nodes n) then first_some (map (lacks nodes) (needs_in nodes n)) else Some n)
unfolding lacks
lacks_unfolds nodes none n = settles nodes (λ k m. lacks_within k nodes m) (lacks_settles nodes) (suc (length nodes)) n (chains_end nodes none n)

-- ---- depth

abbrev pub deepest : (Name → ℕ) → List Name → ℕ
deepest depth ns = fold (λ d m. max d (depth m)) 0 ns

-- the depth of a name, by the depths of the names that it needs
abbrev pub depth_by : (Name → ℕ) → Option Node → ℕ
depth_by depth None = 0
depth_by depth (Some node) = of_needs node.needs
  where
    of_needs : Option (List Name) → ℕ
    of_needs None = 0
    of_needs (Some ns) = suc (deepest depth ns)

depth_parts : (k : ℕ) (nodes : List Node) (n a : Name) (o : Option (List Name)) → find_node nodes n ≡ Some (record { name = a; needs = o }) → depth_within (suc k) nodes n ≡ depth_by (depth_within k nodes) (Some (record { name = a; needs = o }))
depth_parts k nodes n a None e = rw e refl
depth_parts k nodes n a (Some ns) e = rw e refl

depth_steps : (k : ℕ) (nodes : List Node) (n : Name) → depth_within (suc k) nodes n ≡ depth_by (depth_within k nodes) (find_node nodes n)
depth_steps k nodes n = go (find_node nodes n) refl
  where
    go : (o : Option Node) → find_node nodes n ≡ o → depth_within (suc k) nodes n ≡ depth_by (depth_within k nodes) o
    go None e = rw e refl
    go (Some node) e = depth_parts k nodes n node.name node.needs e

by_parts : (f g : Name → ℕ) (a : Name) (o : Option (List Name)) → ((m : Name) → is_among m (found_needs (Some (record { name = a; needs = o }))) ≡ true → f m ≡ g m)
    → depth_by f (Some (record { name = a; needs = o })) ≡ depth_by g (Some (record { name = a; needs = o }))
by_parts f g a None same = refl
by_parts f g a (Some ns) same = ap suc (fold_max_agree f g 0 ns same)

by_agree : (f g : Name → ℕ) (o : Option Node) → ((m : Name) → is_among m (found_needs o) ≡ true → f m ≡ g m) → depth_by f o ≡ depth_by g o
by_agree f g None same = refl
by_agree f g (Some node) same = by_parts f g node.name node.needs same

depth_settles : (nodes : List Node) (k : ℕ) (n : Name) → ((m : Name) → is_among m (needs_in nodes n) ≡ true → depth_within k nodes m ≡ depth_within (suc k) nodes m)
    → depth_within (suc k) nodes n ≡ depth_within (suc (suc k)) nodes n
depth_settles nodes k n same =
    depth_steps k nodes n
    ∙ by_agree (depth_within k nodes) (depth_within (suc k) nodes) (find_node nodes n) same
    ∙ sym (depth_steps (suc k) nodes n)

depth_stays : (nodes : List Node) → HasNoCycle nodes → (n : Name) → depth_in nodes n ≡ depth_within (suc (suc (length nodes))) nodes n
depth_stays nodes none n = settles nodes (λ k m. depth_within k nodes m) (depth_settles nodes) (suc (length nodes)) n (chains_end nodes none n)

pub depth_unfolds : (nodes : List Node) → HasNoCycle nodes → (n : Name) → depth_in nodes n ≡ depth_by (depth_in nodes) (find_node nodes n)
depth_unfolds nodes none n = depth_stays nodes none n ∙ depth_steps (suc (length nodes)) nodes n

-- who needs a name is deeper
pub needed_is_less_deep : (nodes : List Node) → HasNoCycle nodes → (n m : Name) → is_among m (needs_in nodes n) ≡ true → depth_in nodes m < depth_in nodes n
needed_is_less_deep nodes none n m a = omega (arith, depth_step (suc (length nodes)) nodes n m a, depth_stays nodes none n)

-- a flat statement is one deeper than the deepest name that it needs
pub depth_of_flat : (nodes : List Node) → HasNoCycle nodes → (n : Name) (node : Node) (ns : List Name) → find_node nodes n ≡ Some node → node.needs ≡ Some ns → depth_in nodes n ≡ suc (fold (λ d m. max d (depth_in nodes m)) 0 ns)
depth_of_flat nodes none n node ns e is = depth_unfolds nodes none n ∙ rw e (rw is refl)

pub depth_in_le_nodes : (nodes : List Node) → HasNoCycle nodes → (n : Name) → depth_in nodes n ≤ length nodes
depth_in_le_nodes nodes none n = depth_le_nodes nodes none (suc (length nodes)) n

-- ---- value

pub cells_agree : (size : Size) (f g : Name → Option Grid) (ts : List Term) → ((m : Name) → is_among m (flat_map term_names ts) ≡ true → f m ≡ g m) → map (term_cells size f) ts ≡ map (term_cells size g) ts
cells_agree size f g [] same = refl
cells_agree size f g (layer_term n ∷ ts) same =
    let first : f n ≡ g n = same n (or_left (bytes_eq n n) (is_among n (flat_map term_names ts)) (bytes_eq-self n)) in
    let rest : map (term_cells size f) ts ≡ map (term_cells size g) ts = cells_agree size f g ts (λ m a. same m (or_right (bytes_eq n m) (is_among m (flat_map term_names ts)) a)) in
    ap (λ o. option_map (λ (g : Grid). g.cells) o ∷ map (term_cells size f) ts) first ∙ ap (λ os. term_cells size g (layer_term n) ∷ os) rest
cells_agree size f g (number_term z ∷ ts) same = ap (λ os. term_cells size f (number_term z) ∷ os) (cells_agree size f g ts same)

-- a grid is made by the grids of the names that it needs alone
pub made_agree : (size : Size) (f g : Name → Option Grid) (o : Option Making) → ((m : Name) → is_among m (making_needs o) ≡ true → f m ≡ g m) → made size f o ≡ made size g o
made_agree size f g None same = refl
made_agree size f g (Some (given_grid grid)) same = refl
made_agree size f g (Some (by_op op)) same = ap (λ os. option_map (operate size op) (all_some os)) (cells_agree size f g op.terms same)

module _ (size : Size) (ls : List LayerDef) where
  value_settles : (k : ℕ) (n : Name) → ((m : Name) → is_among m (needs_in (map node_of_layer ls) n) ≡ true → value_within k size ls m ≡ value_within (suc k) size ls m)
      → value_within (suc k) size ls n ≡ value_within (suc (suc k)) size ls n
  value_settles k n same = made_agree size (value_within k size ls) (value_within (suc k) size ls) (find_making ls n) (λ m a. same m (ap (is_among m) (needs_in-layers ls n) ∙ a))

-- the grid of a layer, by the grids of the layers that it reads
pub value_unfolds : (s : EngineState) → HasNoCycle (nodes_of s.entries) → (n : Name) → value_of s n ≡ made s.size (value_of s) (find_making (layers s.entries) n)
unfolding value_of
value_unfolds s none n =
    let ls = layers s.entries in
    let ends = rw (length-nodes s.entries) at (chains_end (nodes_of s.entries) none n) in
    settles (nodes_of s.entries) (λ k m. value_within k s.size ls m) (value_settles s.size ls) (suc (length ls)) n ends
