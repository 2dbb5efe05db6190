-- The first place of a name that may stand twice.
use Rattle.std.specs.Prelude.{◌≡◌, ℕ, List, slice_get, IfSome}
use Rattle.map_defs.specs.Nodes.{Node, find_node}

-- first is the place that is found by the name of the one at a place
abbrev pub IsFirst : List Node → ℕ → ℕ → Type 0
IsFirst nodes at first = IfSome (slice_get nodes at) (λ node. find_node nodes node.name ≡ slice_get nodes first)
