-- What a request on one layer is answered, and a look at one of its cells.
use Rattle.std.specs.Prelude.{ℕ, ℤ, ◌+◌, ◌-◌, ◌*◌, nat_le, Bool, ◌&&◌, List, Option, Some, None, unwrap_or, codes, if◌then◌else◌}
use Rattle.map_nums.specs.Grids.{Size, Grid, cell_at}
use Rattle.map_defs.specs.Ops.{Name}
use Rattle.map_defs.specs.Nodes.{missing}
use Rattle.statement_parser.specs.Canonical.{cell_text}
use Rattle.map_edits.specs.LayerDefs.{nodes_of}
use Rattle.map_edits.specs.EngineStates.{EngineState, value_of}
use Rattle.map_machine.specs.Replies.{undefined_reply, value_reply}

-- the first missing name of a layer; its own where it isn't there
abbrev pub lacking : EngineState → Name → Name
lacking s n = unwrap_or (missing (nodes_of s.entries) n) n

-- what a request on one layer is answered, by the layer's grid where it has one
abbrev pub of_layer : EngineState → Name → (Grid → List ℕ) → List ℕ
of_layer s n told = of_grid (value_of s n)
  where
    of_grid : Option Grid → List ℕ
    of_grid None = undefined_reply n (lacking s n)
    of_grid (Some grid) = told grid

-- rows and columns count from 1
abbrev pub is_on : Size → ℕ → ℕ → Bool
is_on s r c = nat_le 1 r && nat_le r s.rows && nat_le 1 c && nat_le c s.columns

-- ---- the cell in a row and a column

pub data Look : Type 0 where
  cell_seen : Option ℤ → Look
  -- the layer is defined, and has no such row or column
  outside : Look
  -- the layer is undefined, for want of this name
  undefined : Name → Look

abbrev pub look_in : Option Grid → Name → ℕ → ℕ → Look
look_in None lacking r c = undefined lacking
look_in (Some g) lacking r c = if is_on g.size r c then cell_seen (cell_at g.cells ((r - 1) * g.size.columns + (c - 1))) else outside

abbrev pub look : EngineState → Name → ℕ → ℕ → Look
look s n r c = look_in (value_of s n) (lacking s n) r c

-- what a look at a row and a column of this name is answered
abbrev pub look_reply : Name → ℕ → ℕ → Look → List ℕ
look_reply n r c (cell_seen v) = value_reply n r c (cell_text v)
look_reply n r c outside = value_reply n r c (codes "outside")
look_reply n r c (undefined m) = undefined_reply n m
