-- Where names stand first, for all places and for all needs one after the other.
use Rattle.std.specs.Prelude.{◌≡◌, ℕ, ◌+◌, ◌<◌, ◌≤◌, List, [], length, flat_map, Option, None, slice_index, slice_index_or}
use Rattle.map_defs.specs.Ops.{Name}
use Rattle.map_defs.specs.Nodes.{Node}
use Rattle.statement_graph.specs.Firsts.{IsFirst}
use Rattle.statement_graph.specs.Tables.{needs_at, place_of}

-- the needs of all nodes, in order
abbrev pub all_needs : List Node → List Name
all_needs nodes = flat_map needs_at nodes

-- from this one on, the links are the places of the names
abbrev pub IsLinkedFrom : List Node → ℕ → List Name → List (Option ℕ) → Type 0
IsLinkedFrom nodes start names links = (k : ℕ) → k < length names → slice_index_or links (start + k) None ≡ place_of nodes (slice_index_or names k [])

-- the first place of each name
abbrev pub IsFirstTo : List Node → ℕ → List ℕ → Type 0
IsFirstTo nodes count firsts = (at : ℕ) → at < count → IsFirst nodes at (slice_index firsts at) × (slice_index firsts at ≤ at)

pub record IsLinked (nodes : List Node) (firsts : List ℕ) (links : List (Option ℕ)) : Type 0 where
  pub places : IsFirstTo nodes (length nodes) firsts
  pub needs : IsLinkedFrom nodes 0 (all_needs nodes) links

pub record HasRoom (nodes : List Node) (firsts : List ℕ) (links : List (Option ℕ)) : Type 0 where
  pub places : length nodes ≤ length firsts
  pub needs : length (all_needs nodes) ≤ length links
