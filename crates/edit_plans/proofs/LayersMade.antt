-- Where names stand apart, each layer is the one that is found by its name.
use Rattle.std.proofs.Common.{◌≡◌, false, List, [], ◌∷◌, map, Some, None, bytes_eq, sym, ap, ◌∙◌, inl, inr}
use Rattle.std.specs.List.{AllByRecursion}
use Rattle.std.proofs.lemmas.Bool.{cases_Bool}
use Rattle.std.proofs.lemmas.Option.{none-some}
use Rattle.map_defs.specs.Ops.{Name}
use Rattle.map_edits.specs.LayerDefs.{LayerDef, layers, find_making, node_of_layer}
use Rattle.map_edits.specs.EngineStates.{EngineState}
use Rattle.map_edits.specs.Laws.{is_named_in}
use Rattle.map_edits.proofs.Among.{same_name, bytes_eq-self}
use Rattle.map_edits.proofs.Looks.{node_of_layer-name, none_there, is_some-layers}
use Rattle.map_edits.proofs.Once.{IsOnce, find_named}
use Rattle.map_edits.proofs.GroupsOnce.{groups_once}
use Rattle.edit_plans.specs.Orderly.{IsOrderly}
use Rattle.map_edits.proofs.Listed.{each_more}

-- what holds of each layer of a list
abbrev pub EachLayer : (LayerDef → Type 0) → List LayerDef → Type 0
EachLayer P ls = AllByRecursion P ls

abbrev pub IsFoundBy : List LayerDef → LayerDef → Type 0
IsFoundBy ls l = find_making ls l.name ≡ Some l.making

pub none_named : (ls : List LayerDef) (n : Name) → is_named_in n (map node_of_layer ls) ≡ false → find_making ls n ≡ None
none_named ls n e = none_there (find_making ls n) (sym (is_some-layers ls n) ∙ find_named (map node_of_layer ls) n ∙ e)

found_behind : (l : LayerDef) (ls : List LayerDef) → is_named_in l.name (map node_of_layer ls) ≡ false → (m : LayerDef) → IsFoundBy ls m → IsFoundBy (l ∷ ls) m
found_behind l ls new m found = elim (cases_Bool (bytes_eq l.name m.name)) [
  | inl same ↦ absurd (none-some m.making (sym (none_named ls l.name new) ∙ ap (find_making ls) (same_name l.name m.name same) ∙ found))
  | inr differs ↦ simp differs found
]

all_found : (ls : List LayerDef) → IsOnce (map node_of_layer ls) → EachLayer (IsFoundBy ls) ls
all_found [] once = tt
all_found (l ∷ ls) once =
    let new : is_named_in l.name (map node_of_layer ls) ≡ false = ap (λ n. is_named_in n (map node_of_layer ls)) (sym (node_of_layer-name l)) ∙ once.0 in
    (simp bytes_eq-self, each_more (IsFoundBy ls) (IsFoundBy (l ∷ ls)) (found_behind l ls new) ls (all_found ls once.1))

pub layers_found : (t : EngineState) → IsOrderly t → EachLayer (IsFoundBy (layers t.entries)) (layers t.entries)
layers_found t orderly = all_found (layers t.entries) (groups_once t.entries orderly.groups orderly.apart)
