-- The flat statements of one depth, gone through for the one at a place.
use Rattle.std.specs.Prelude.{◌≡◌, ℕ, ◌==◌, Bool, ◌&&◌, List, ◌++◌, filter, slice_get, Some, is_some}
use Rattle.map_defs.specs.Nodes.{Node}
use Rattle.map_defs.specs.Depths.{depth_in}
use Rattle.statement_graph.specs.declared.row.Nth.{Nth}
use Rattle.statement_graph.specs.declared.row.Nth.TheVariants.{Found, Left}
use Rattle.statement_graph.specs.Puts.{flat_node}

abbrev pub is_at_depth : List Node → ℕ → Node → Bool
is_at_depth all d node = is_some node.needs && (depth_in all node.name == d)

-- the flat statements at a depth, in order
abbrev pub at_depth : List Node → ℕ → List Node
at_depth all d = filter (is_at_depth all d) all

-- the one at this place of the list, or how far past its end the place is
abbrev pub IsNth : Nth → List Node → ℕ → Type 0
IsNth (Found r) xs k = slice_get xs k ≡ Some (flat_node r.now)
IsNth (Left left) xs k = (rest : List Node) → slice_get (xs ++ rest) k ≡ slice_get rest left
