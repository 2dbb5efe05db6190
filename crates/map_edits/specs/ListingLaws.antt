-- Laws of the flat statements in order of depth.
use Rattle.std.specs.Prelude.{◌≡◌, true, false, List, ◌∷◌, ◌++◌, Some}
use Rattle.map_defs.specs.Ops.{Name}
use Rattle.map_defs.specs.Nodes.{Node, find_node, needs_in}
use Rattle.map_defs.specs.Depths.{by_depth}
use Rattle.map_edits.specs.LayerDefs.{nodes_of}
use Rattle.map_edits.specs.Laws.{is_among, is_named_in}
use Rattle.map_edits.specs.WholeStates.{WholeState}
use Rattle.map_edits.specs.GroupLaws.{IsLawful}

-- where a flat statement stands among the others
pub record IsListedAt (nodes before after : List Node) (node : Node) : Type 0 where
  -- it is the one that is found by its name
  pub found : find_node nodes node.name ≡ Some node
  -- its name stands neither before nor after
  pub first : is_named_in node.name before ≡ false
  pub last : is_named_in node.name after ≡ false
  -- each flat statement that it needs stands before
  pub needs : (m : Name) (needed : Node) (ns : List Name) → is_among m (needs_in nodes node.name) ≡ true → find_node nodes m ≡ Some needed → needed.needs ≡ Some ns → is_named_in m before ≡ true

abbrev pub AreListed : Type 0
AreListed = (s : WholeState) (before after : List Node) (node : Node) → IsLawful s → by_depth (nodes_of s.names.entries) ≡ before ++ node ∷ after → IsListedAt (nodes_of s.names.entries) before after node

-- and each is listed
abbrev pub AllAreListed : Type 0
AllAreListed = (s : WholeState) (n : Name) (node : Node) (ns : List Name) → IsLawful s → find_node (nodes_of s.names.entries) n ≡ Some node → node.needs ≡ Some ns → is_named_in n (by_depth (nodes_of s.names.entries)) ≡ true
