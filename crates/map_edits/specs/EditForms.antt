-- What edits of names there are, and what an edit touches.
use Rattle.std.specs.Prelude.{ℕ, ℤ, Option}
use Rattle.map_nums.specs.Grids.{Grid}
use Rattle.map_defs.specs.Ops.{Name}
use Rattle.map_defs.specs.Statements.{Written}

-- rows and columns, counted from 1; a corner may lie off the map
pub record Rectangle : Type 0 where
  pub top : ℕ
  pub left : ℕ
  pub bottom : ℕ
  pub right : ℕ

pub data Edit : Type 0 where
  load : Name → Grid → Edit
  -- a layer that has this cell everywhere
  new_layer : Name → Option ℤ → Edit
  paint : Name → Rectangle → Option ℤ → Edit
  define : Name → Written → Edit
  drop_name : Name → Edit

-- the name that an edit puts or drops
abbrev pub edited : Edit → Name
edited (load n grid) = n
edited (new_layer n cell) = n
edited (paint n r cell) = n
edited (define n written) = n
edited (drop_name n) = n

-- what an edit touches: all that stands for a name, or a rectangle of a source
pub data Touch : Type 0 where
  nothing : Touch
  -- the source or the flat statements of a name
  whole : Name → Touch
  within : Name → Rectangle → Touch
