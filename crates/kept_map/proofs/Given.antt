-- The sources of a state, as layers, as nodes and by value; and the groups of its entries, which after an edit are those that the graph makes of theirs.
use Rattle.std.proofs.Common.{◌≡◌, inl, inr, subst, true, List, [], ◌∷◌, Option, Some, None, option_map, bytes_eq, refl, sym, ap, ◌∙◌, ◌++◌, map, is_some, IsTrue, IsFalse, Err}
use Rattle.std.proofs.lemmas.Bool.{false≢true, cases_Bool}
use Rattle.std.proofs.lemmas.Option.{none-some, same_Some}
use Rattle.map_nums.specs.Grids.{Grid}
use Rattle.map_defs.specs.Ops.{Name}
use Rattle.map_defs.specs.Nodes.{find_node, Node}
use Rattle.map_defs.specs.MadeProcedures.{IsUndotted}
use Rattle.map_edits.specs.Entries.{Def, source, statement, Entry, find_def, put_entry, drop_entry}
use Rattle.map_edits.specs.LayerDefs.{Making, given_grid, by_op, layers, find_making, nodes_of, layers_of, node_of_layer}
use Rattle.map_edits.specs.EngineStates.{EngineState, made, value_of}
use Rattle.map_edits.specs.Laws.{IsApart, HasNoCycle}
use Rattle.map_edits.specs.GroupLaws.{IsGroup, AreGroups}
use Rattle.map_edits.proofs.Among.{same_name, bytes_eq-self}
use Rattle.map_edits.proofs.Heads.{head_of, head_undotted}
use Rattle.map_edits.proofs.Looks.{made_node, find_node-making}
use Rattle.map_edits.proofs.Unfolds.{value_unfolds}
use Rattle.map_edits.proofs.Groups.{def_layers, group_making, making_by_head}
use Rattle.edit_plans.specs.Planned.{is_source_node}
use Rattle.edit_plans.proofs.TouchedAlone.{never_given, given_named}
use Rattle.std.proofs.lemmas.List.{map-append}
use Rattle.map_defs.specs.Statements.{Flat, Written}
use Rattle.map_defs.specs.Depths.{is_looped}
use Rattle.statement_graph.specs.Groups.{Group, nodes_in, has_group, put_group, drop_group}
use Rattle.statement_graph.specs.Puts.{source_node as node_of_source, IsPut}
use Rattle.statement_graph.specs.declared.refusal.GraphRefusal.{GraphRefusal}
use Rattle.statement_graph.specs.declared.refusal.GraphRefusal.TheVariants.{Cycle, NoMemory}
use Rattle.kept_map.specs.Groups.{group_of, groups_of, statement_nodes, IsGraphWith}

-- a name that is there has no dot, and its layers are a group
pub group_there : (es : List Entry) (n : Name) (d : Def) → AreGroups es → find_def es n ≡ Some d → IsUndotted n × IsGroup n d
group_there [] n d groups e = absurd (none-some d e)
group_there (x ∷ es) n d groups e = elim (cases_Bool (bytes_eq x.name n)) [
  | inl h ↦ (let is : find_def (x ∷ es) n ≡ Some x.def = rw h refl in subst (λ q. IsUndotted q × IsGroup q d) (same_name x.name n h) (groups.0, subst (IsGroup x.name) (same_Some x.def d (sym is ∙ e)) groups.1))
  | inr h ↦ (let next : find_def (x ∷ es) n ≡ find_def es n = rw h refl in group_there es n d groups.2 (sym next ∙ e))
]

pub undotted : (es : List Entry) (n : Name) (d : Def) → AreGroups es → find_def es n ≡ Some d → IsUndotted n
undotted es n d groups e = (group_there es n d groups e).0

module _ (es : List Entry) (n : Name) (groups : AreGroups es) (apart : IsApart es) where
  pub source_making : (grid : Grid) → find_def es n ≡ Some (source grid) → find_making (layers es) n ≡ Some (given_grid grid)
  source_making grid e =
      let head = head_undotted n (undotted es n (source grid) groups e) in
      let own : find_making (def_layers n (source grid)) n ≡ Some (given_grid grid) = rw (bytes_eq-self n) refl in
      making_by_head es n groups apart
      ∙ ap (group_making n) (ap (find_def es) head ∙ e)
      ∙ ap (λ q. find_making (def_layers q (source grid)) n) head ∙ own

  pub making_source : (grid : Grid) → find_making (layers es) n ≡ Some (given_grid grid) → find_def es n ≡ Some (source grid)
  making_source grid e = go (find_def es (head_of n)) refl (sym (making_by_head es n groups apart) ∙ e)
    where
      of_def : (d : Def) → find_making (def_layers n d) n ≡ Some (given_grid grid) → d ≡ source grid
      of_def (source g) made = let is : Some (given_grid g) ≡ Some (given_grid grid) = simp (bytes_eq-self n) at made in cc
      of_def (statement w flats) made = absurd (never_given flats n grid made)

      go : (o : Option Def) → find_def es (head_of n) ≡ o → group_making n o ≡ Some (given_grid grid) → find_def es n ≡ Some (source grid)
      go None at made = absurd (none-some (given_grid grid) made)
      go (Some d) at made =
          let head : head_of n ≡ n = same_name (head_of n) n (given_named (head_of n) n d grid made) in
          ap (find_def es) (sym head) ∙ at ∙ ap (λ q. Some q) (of_def d (ap (λ q. find_making (def_layers q d) n) (sym head) ∙ made))

  pub source_node : (grid : Grid) → find_def es n ≡ Some (source grid) → find_node (nodes_of es) n ≡ Some (record { name = n; needs = None })
  source_node grid e = find_node-making (layers es) n ∙ ap (option_map (made_node n)) (source_making grid e)

  -- what has no needs is a source
  pub node_source : is_source_node (find_node (nodes_of es) n) ≡ true → (grid : Grid) × (find_def es n ≡ Some (source grid))
  node_source is = go (find_making (layers es) n) refl (ap is_source_node (sym (find_node-making (layers es) n)) ∙ is)
    where
      go : (o : Option Making) → find_making (layers es) n ≡ o → is_source_node (option_map (made_node n) o) ≡ true → (grid : Grid) × (find_def es n ≡ Some (source grid))
      go None at h = absurd (false≢true h)
      go (Some (given_grid grid)) at h = (grid, making_source grid at)
      go (Some (by_op op)) at h = absurd (false≢true h)

pub source_value : (s : EngineState) (n : Name) (grid : Grid) → AreGroups s.entries → IsApart s.entries → HasNoCycle (nodes_of s.entries) → find_def s.entries n ≡ Some (source grid) → value_of s n ≡ Some grid
source_value s n grid groups apart none e = value_unfolds s none n ∙ ap (made s.size (value_of s)) (source_making s.entries n groups apart grid e)

-- ---- groups

pub nodes_in_groups : (es : List Entry) → nodes_in (groups_of es) ≡ nodes_of es
nodes_in_groups [] = refl
nodes_in_groups (e ∷ es) = ap (λ ns. map node_of_layer (layers_of e) ++ ns) (nodes_in_groups es) ∙ sym (map-append node_of_layer (layers_of e) (layers es))

pub has_group_is : (es : List Entry) (n : Name) → has_group (groups_of es) n ≡ is_some (find_def es n)
has_group_is [] n = refl
has_group_is (e ∷ es) n = elim (cases_Bool (bytes_eq e.name n)) [ inl h ↦ rw h refl | inr h ↦ rw h (has_group_is es n) ]

pub groups_put : (es : List Entry) (n : Name) (written : Written) (flats : List Flat) → put_group (groups_of es) n (statement_nodes flats) ≡ groups_of (put_entry es n (statement written flats))
groups_put [] n written flats = refl
groups_put (e ∷ es) n written flats = elim (cases_Bool (bytes_eq e.name n)) [ inl h ↦ rw h refl | inr h ↦ rw h (ap (λ gs. group_of e ∷ gs) (groups_put es n written flats)) ]

-- a new source comes last
pub groups_add : (es : List Entry) (n : Name) (grid : Grid) → find_def es n ≡ None → groups_of es ++ record { name = n; nodes = node_of_source n ∷ [] } ∷ [] ≡ groups_of (put_entry es n (source grid))
groups_add [] n grid none = refl
groups_add (e ∷ es) n grid none = elim (cases_Bool (bytes_eq e.name n)) [
  | inl h ↦ (let is : find_def (e ∷ es) n ≡ Some e.def = rw h refl in absurd (none-some e.def (sym none ∙ is)))
  | inr h ↦ (let next : find_def (e ∷ es) n ≡ find_def es n = rw h refl in rw h (ap (λ gs. group_of e ∷ gs) (groups_add es n grid (sym next ∙ none))))
]

-- a source's groups don't depend on its grid
pub groups_repaint : (es : List Entry) (n : Name) (old new : Grid) → find_def es n ≡ Some (source old) → groups_of es ≡ groups_of (put_entry es n (source new))
groups_repaint [] n old new there = absurd cc
groups_repaint (e ∷ es) n old new there = elim (cases_Bool (bytes_eq e.name n)) [
  | inl h ↦ (let is : find_def (e ∷ es) n ≡ Some e.def = rw h refl in
      rw h (ap (λ d. group_of (record { name = e.name; def = d }) ∷ groups_of es) (same_Some e.def (source old) (sym is ∙ there))))
  | inr h ↦ (let next : find_def (e ∷ es) n ≡ find_def es n = rw h refl in rw h (ap (λ gs. group_of e ∷ gs) (groups_repaint es n old new (sym next ∙ there))))
]

pub groups_drop : (es : List Entry) (n : Name) → drop_group (groups_of es) n ≡ groups_of (drop_entry es n)
groups_drop [] n = refl
groups_drop (e ∷ es) n = elim (cases_Bool (bytes_eq e.name n)) [ inl h ↦ rw h (groups_drop es n) | inr h ↦ rw h (ap (λ gs. group_of e ∷ gs) (groups_drop es n)) ]

-- ---- a statement is put into a copy

module _ (given graph next : List Group) (n : Name) (given_nodes nodes : List Node) where
  pub graph_with : given ≡ graph → given_nodes ≡ nodes → (next ≡ put_group given n given_nodes) × IsFalse (is_looped (nodes_in (put_group given n given_nodes)) n)
      → (next ≡ put_group graph n nodes) × IsFalse (is_looped (nodes_in (put_group graph n nodes)) n)
  graph_with same all put =
      let P : List Group → List Node → Type 0 = λ g ns. (next ≡ put_group g n ns) × IsFalse (is_looped (nodes_in (put_group g n ns)) n) in
      subst (λ g. P g nodes) same (subst (P given) all put)

  pub graph_without : (refusal : GraphRefusal) → given ≡ graph → given_nodes ≡ nodes → IsPut {V = Unit {0}} given next n given_nodes (Err refusal) → IsGraphWith graph n nodes (Err refusal)
  graph_without Cycle same all put =
      let P : List Group → List Node → Type 0 = λ g ns. IsTrue (is_looped (nodes_in (put_group g n ns)) n) in
      subst (λ g. P g nodes) same (subst (P given) all put.1)
  graph_without NoMemory same all put = tt
