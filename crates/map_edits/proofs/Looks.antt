-- A layer and its node are found together.
use Rattle.std.proofs.Common.{◌≡◌, Bool, true, List, [], ◌∷◌, map, length, find, Option, Some, None, is_some, option_map, bytes_eq, inl, inr, refl, ap, ◌∙◌, unwrap_or, false}
use Rattle.std.proofs.lemmas.Bool.{true≢false, cases_Bool}
use Rattle.std.proofs.lemmas.List.{length-map}
use Rattle.map_defs.specs.Ops.{Name, needs_of}
use Rattle.map_edits.proofs.Among.{same_name}
use Rattle.map_defs.specs.Nodes.{Node, find_node, needs_in}
use Rattle.map_edits.specs.Entries.{Entry}
use Rattle.map_edits.specs.LayerDefs.{Making, given_grid, by_op, LayerDef, layers, find_making, node_of_layer, nodes_of}

name_parts : (a : Name) (making : Making) → (node_of_layer (record { name = a; making = making })).name ≡ a
name_parts a (given_grid grid) = refl
name_parts a (by_op op) = refl

-- a layer's node has its name
pub node_of_layer-name : (l : LayerDef) → (node_of_layer l).name ≡ l.name
node_of_layer-name l = name_parts l.name l.making

abbrev pub find_layer : List LayerDef → Name → Option LayerDef
find_layer ls n = find (λ (l : LayerDef). bytes_eq l.name n) ls

pub find_node-map : (ls : List LayerDef) (n : Name) → find_node (map node_of_layer ls) n ≡ option_map node_of_layer (find_layer ls n)
find_node-map [] n = refl
find_node-map (l ∷ ls) n = elim (cases_Bool (bytes_eq l.name n)) [ inl h ↦ simp (node_of_layer-name, h) | inr h ↦ simp (node_of_layer-name, h) (find_node-map ls n) ]

-- what is found passes the test
pub found_passes : {X : Type 0} (p : X → Bool) (xs : List X) (x : X) → find p xs ≡ Some x → p x ≡ true
found_passes p [] x e = absurd cc
found_passes p (y ∷ ys) x e = elim (cases_Bool (p y)) [ inl h ↦ let same : y ≡ x = cc in cc | inr h ↦ found_passes p ys x (simp h at e) ]

pub find_node-name : (nodes : List Node) (n : Name) (node : Node) → find_node nodes n ≡ Some node → node.name ≡ n
find_node-name nodes n node e = same_name node.name n (found_passes (λ (x : Node). bytes_eq x.name n) nodes node e)

find_layer-name : (ls : List LayerDef) (n : Name) (l : LayerDef) → find_layer ls n ≡ Some l → l.name ≡ n
find_layer-name ls n l e = same_name l.name n (found_passes (λ (k : LayerDef). bytes_eq k.name n) ls l e)

abbrev pub made_node : Name → Making → Node
made_node n making = node_of_layer (record { name = n; making = making })

-- a node by how its layer is made
pub find_node-making : (ls : List LayerDef) (n : Name) → find_node (map node_of_layer ls) n ≡ option_map (made_node n) (find_making ls n)
find_node-making ls n = find_node-map ls n ∙ go (find_layer ls n) refl
  where
    go : (o : Option LayerDef) → find_layer ls n ≡ o → option_map node_of_layer o ≡ option_map (made_node n) (option_map (λ (l : LayerDef). l.making) o)
    go None e = refl
    go (Some l) e = ap (λ q. Some (made_node q l.making)) (find_layer-name ls n l e)

-- the names that a making needs
abbrev pub making_needs : Option Making → List Name
making_needs None = []
making_needs (Some (given_grid grid)) = []
making_needs (Some (by_op op)) = needs_of op

-- the names that a node needs that is found
abbrev pub found_needs : Option Node → List Name
found_needs None = []
found_needs (Some node) = unwrap_or node.needs []

making_found : (n : Name) (o : Option Making) → found_needs (option_map (made_node n) o) ≡ making_needs o
making_found n None = refl
making_found n (Some (given_grid grid)) = refl
making_found n (Some (by_op op)) = refl

pub needs_in-layers : (ls : List LayerDef) (n : Name) → needs_in (map node_of_layer ls) n ≡ making_needs (find_making ls n)
needs_in-layers ls n = ap found_needs (find_node-making ls n) ∙ making_found n (find_making ls n)

-- ---- what is there

pub is_some-option_map : {X Y : Type 0} (f : X → Y) (o : Option X) → is_some (option_map f o) ≡ is_some o
is_some-option_map f None = refl
is_some-option_map f (Some x) = refl

pub none_there : {X : Type 0} (o : Option X) → is_some o ≡ false → o ≡ None
none_there None e = refl
none_there (Some x) e = absurd (true≢false e)

pub is_some-layers : (ls : List LayerDef) (n : Name) → is_some (find_node (map node_of_layer ls) n) ≡ is_some (find_making ls n)
is_some-layers ls n = ap is_some (find_node-making ls n) ∙ is_some-option_map (made_node n) (find_making ls n)

pub length-nodes : (entries : List Entry) → length (nodes_of entries) ≡ length (layers entries)
length-nodes entries = length-map (layers entries) node_of_layer
