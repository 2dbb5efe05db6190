-- Words of the laws on states: no name needs itself, and none stands twice.
use Rattle.std.specs.Prelude.{◌≡◌, Bool, false, List, [], ◌∷◌, None, bytes_eq, ⊤}
use Rattle.std.specs.List.{list_any}
use Rattle.map_defs.specs.Ops.{Name}
use Rattle.map_defs.specs.Nodes.{Node}
use Rattle.map_defs.specs.Depths.{is_looped}
use Rattle.map_edits.specs.Entries.{Entry, find_def}

-- the name is one of these
abbrev pub is_among : Name → List Name → Bool
is_among n ns = list_any (λ (m : Name). bytes_eq m n) ns

-- one of these nodes has the name
abbrev pub is_named_in : Name → List Node → Bool
is_named_in n nodes = list_any (λ (node : Node). bytes_eq node.name n) nodes

-- no name is reached from the names that it needs
abbrev pub HasNoCycle : List Node → Type 0
HasNoCycle nodes = (n : Name) → is_looped nodes n ≡ false

-- no name stands twice
abbrev pub IsApart : List Entry → Type 0
IsApart [] = ⊤
IsApart (e ∷ es) = (find_def es e.name ≡ None) × IsApart es
