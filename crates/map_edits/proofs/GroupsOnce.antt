-- No name stands twice, though a statement may stand for several flat ones.
use Rattle.std.proofs.Common.{◌≡◌, false, List, [], ◌∷◌, map, None, option_map, refl, sym, ap, subst, ◌∙◌}
use Rattle.std.proofs.lemmas.List.{map-append}
use Rattle.map_defs.specs.Ops.{Name}
use Rattle.map_defs.specs.Statements.{Flat}
use Rattle.map_defs.specs.FlatNames.{AreApart, flat_names}
use Rattle.map_defs.specs.FlatNames as names
use Rattle.map_defs.specs.MadeProcedures.{IsUndotted}
use Rattle.map_defs.specs.Nodes.{Node}
use Rattle.map_edits.specs.Entries.{Def, source, statement, Entry, find_def}
use Rattle.map_edits.specs.LayerDefs.{flat_layer, layers_of, layers, node_of_layer, nodes_of}
use Rattle.map_edits.specs.Laws.{is_named_in, IsApart}
use Rattle.map_edits.specs.GroupLaws.{IsGroup, AreGroups}
use Rattle.map_edits.specs.ListingLaws.{AreListed, AllAreListed}
use Rattle.map_edits.proofs.Looks.{find_node-making, made_node}
use Rattle.map_edits.proofs.Listed.{Each, each_more, each_split, IsFoundIn, IsListed}
use Rattle.map_edits.proofs.Once.{IsOnce, not_found, once_apart, once_found, once_listed, once_append, once_between, by_depth_once}
use Rattle.map_edits.proofs.Order.{all_flats_listed, needs_come_before}
use Rattle.map_edits.proofs.Heads.{head_of, head_undotted, IsHeaded, all_headed}
use Rattle.map_edits.proofs.Groups.{def_layers, group_making, making_by_head}

-- ---- one group

abbrev flat_nodes : List Flat → List Node
flat_nodes fs = map node_of_layer (map flat_layer fs)

node_names : (fs : List Flat) → map (λ (x : Node). x.name) (flat_nodes fs) ≡ flat_names fs
node_names [] = refl
node_names (f ∷ fs) = ap (λ ns. f.name ∷ ns) (node_names fs)

group_once : (n : Name) (d : Def) → IsGroup n d → IsOnce (map node_of_layer (def_layers n d))
group_once n (source grid) group = (refl, tt)
group_once n (statement written flats) group = once_apart (flat_nodes flats) (subst AreApart (sym (node_names flats)) group.apart)

-- ---- all groups

abbrev HeadedNode : Name → Node → Type 0
HeadedNode n x = head_of x.name ≡ n

flats_headed : (n : Name) (fs : List Flat) → names.Each (IsHeaded n) (flat_names fs) → Each (HeadedNode n) (flat_nodes fs)
flats_headed n [] each = tt
flats_headed n (f ∷ fs) each = (each.0, flats_headed n fs each.1)

group_headed : (n : Name) (d : Def) → IsUndotted n → IsGroup n d → Each (HeadedNode n) (map node_of_layer (def_layers n d))
group_headed n (source grid) plain group = (head_undotted n plain, tt)
group_headed n (statement written flats) plain group = flats_headed n flats (all_headed n flats plain group)

-- what has the front of a name that isn't there isn't there
not_there : (es : List Entry) (n : Name) → AreGroups es → IsApart es → find_def es n ≡ None → (x : Node) → HeadedNode n x → is_named_in x.name (nodes_of es) ≡ false
not_there es n groups apart none x head =
    not_found (nodes_of es) x.name (find_node-making (layers es) x.name ∙ ap (option_map (made_node x.name)) (making_by_head es x.name groups apart ∙ ap (group_making x.name) (ap (find_def es) head ∙ none)))

pub groups_once : (es : List Entry) → AreGroups es → IsApart es → IsOnce (nodes_of es)
groups_once [] groups apart = tt
groups_once (e ∷ es) groups apart = subst IsOnce (sym (map-append node_of_layer (layers_of e) (layers es)))
    (once_append (map node_of_layer (layers_of e)) (nodes_of es) (group_once e.name e.def groups.1) (groups_once es groups.2 apart.1)
    (each_more (HeadedNode e.name) (λ x. is_named_in x.name (nodes_of es) ≡ false) (not_there es e.name groups.2 apart.1 apart.0) (map node_of_layer (layers_of e)) (group_headed e.name e.def groups.0 groups.1)))

-- ---- each node is the one that is found by its name, and is listed once by depth

pub groups_found : (es : List Entry) → AreGroups es → IsApart es → Each (IsFoundIn (nodes_of es)) (nodes_of es)
groups_found es groups apart = once_found (nodes_of es) (groups_once es groups apart)

pub are_listed : AreListed
are_listed s before after node l split =
    let es = s.names.entries in
    let all = nodes_of es in
    let found = each_split (IsListed all) node after before (subst (Each (IsListed all)) split (once_listed all (groups_once es l.groups l.apart))) in
    let once = once_between node after before (subst IsOnce split (by_depth_once all (groups_once es l.groups l.apart))) in
    record {
      found = found.0;
      first = once.0;
      last = once.1;
      needs = λ m needed ns a at flat. needs_come_before all l.none_looped before after node split m a needed ns at flat;
    }

pub all_are_listed : AllAreListed
all_are_listed s n node ns l at flat = all_flats_listed (nodes_of s.names.entries) l.none_looped n node ns at flat
