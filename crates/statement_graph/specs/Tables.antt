-- For each place its depth, the first missing name, and whether a name is reached, at a number of steps.
use Rattle.std.specs.Prelude.{◌≡◌, ℕ, suc, ◌+◌, ◌^◌, ◌<◌, max, Bool, true, false, ◌||◌, List, [], map, fold, length, Option, Some, None, option_map, unwrap_or, slice_get, position, bytes_eq}
use Rattle.std.specs.Option.{option_or, option_and_then}
use Rattle.map_defs.specs.Ops.{Name}
use Rattle.map_defs.specs.Nodes.{Node, lacks_within, lacks}
use Rattle.map_defs.specs.Depths.{depth_within, depth_in, reaches}
use Rattle.statement_graph.specs.declared.row.Place.{Place}
use Rattle.statement_graph.specs.declared.row.Row.{Row}
use Rattle.statement_graph.specs.declared.node.Entry.{Entry}
use Rattle.statement_graph.specs.Seats.{nodes_at, seats, groups_of, are_whole, are_apart}

-- what a row says; a name that is missing is told by the need that it is, which is there
pub record Shown : Type 0 where
  pub depth : ℕ
  pub lack : Option (Option Name)
  pub reached : Bool

abbrev pub needs_at : Node → List Name
needs_at node = unwrap_or node.needs []

abbrev pub need_at : List Node → Place → Option Name
need_at nodes p = option_and_then (λ node. slice_get (needs_at node) p.need) (slice_get nodes p.node)

abbrev pub shown : List Node → Row → Shown
shown nodes r = record { depth = r.depth; lack = option_map (need_at nodes) r.lack; reached = r.reached }

abbrev pub shown_all : List Node → List Row → List Shown
shown_all nodes rows = map (shown nodes) rows

-- within a number of steps; n is the name that may be reached
abbrev pub shown_at : ℕ → List Node → Name → Name → Shown
shown_at k nodes n m = record { depth = depth_within (suc k) nodes m; lack = option_map Some (lacks_within (suc k) nodes m); reached = reaches k nodes n m }

abbrev pub table_at : ℕ → List Node → Name → List Shown
table_at k nodes n = map (λ (node : Node). shown_at k nodes n node.name) nodes

-- ---- a step further, by the table before

abbrev pub place_of : List Node → Name → Option ℕ
place_of nodes m = position (λ (node : Node). bytes_eq node.name m) nodes

abbrev pub looked : List Node → List Shown → Name → Option Shown
looked nodes table m = option_and_then (slice_get table) (place_of nodes m)

abbrev pub found_or_missing : Name → Name → Option Shown → Shown
found_or_missing n m None = record { depth = 0; lack = Some (Some m); reached = bytes_eq m n }
found_or_missing n m (Some s) = s

abbrev pub seen : List Node → List Shown → Name → Name → Shown
seen nodes table n m = found_or_missing n m (looked nodes table m)

abbrev pub joined : Shown → Shown → Shown
joined a b = record { depth = max a.depth b.depth; lack = option_or a.lack b.lack; reached = a.reached || b.reached }

abbrev pub unjoined : Name → Node → Shown
unjoined n node = record { depth = 0; lack = None; reached = bytes_eq node.name n }

abbrev pub gathered : List Node → List Shown → Name → Node → Shown
gathered nodes table n node = fold joined (unjoined n node) (map (seen nodes table n) (needs_at node))

abbrev pub deeper : Option (List Name) → Shown → Shown
deeper None s = s
deeper (Some ns) s = record s { depth = suc s.depth }

abbrev pub step_of : List Node → List Shown → Name → Node → Shown
step_of nodes table n node = deeper node.needs (gathered nodes table n node)

-- the depth where what it needs has none
abbrev pub flat_depth : Option (List Name) → ℕ
flat_depth None = 0
flat_depth (Some ns) = 1

-- ---- what a graph keeps

-- without what is reached
abbrev pub kept : Shown → ℕ × Option (Option Name)
kept s = (s.depth, s.lack)

abbrev pub kept_at : List Node → Name → ℕ × Option (Option Name)
kept_at nodes m = (depth_in nodes m, option_map Some (lacks nodes m))

pub record IsKept (es : List Entry) (rows spare : List Row) : Type 0 where
  pub whole : are_whole false (seats es) ≡ true
  pub apart : are_apart (groups_of es) ≡ true
  pub few : length es + 1 < 2 ^ 32
  pub table : map (λ r. kept (shown (nodes_at es) r)) rows ≡ map (λ (node : Node). kept_at (nodes_at es) node.name) (nodes_at es)
  pub rows_are : length rows ≡ length es
  pub spare_are : length spare ≡ length es
