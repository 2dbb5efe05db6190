-- An edit changes what it touches, and nothing else.
use Rattle.std.specs.Prelude.{◌≡◌, Bool, false, Some, bytes_eq}
use Rattle.map_nums.specs.Grids.{Grid}
use Rattle.map_defs.specs.Ops.{Name, Op}
use Rattle.map_edits.specs.LayerDefs.{given_grid, by_op, layers, find_making}
use Rattle.map_edits.specs.EngineStates.{EngineState}
use Rattle.map_edits.specs.Touches.{Touch, nothing, whole, within, is_whole}

-- all of the source, or a rectangle of it
abbrev pub touches_source : Touch → Name → Bool
touches_source nothing n = false
touches_source (whole m) n = bytes_eq m n
touches_source (within m r) n = bytes_eq m n

-- a flat statement and a source that are there after and aren't touched were there before, and were the same
pub record ChangesOnly (touch : Touch) (s t : EngineState) : Type 0 where
  pub size : s.size ≡ t.size
  pub statements : (n : Name) (op : Op) → is_whole t.entries touch n ≡ false → find_making (layers t.entries) n ≡ Some (by_op op) → find_making (layers s.entries) n ≡ Some (by_op op)
  pub sources : (n : Name) (grid : Grid) → touches_source touch n ≡ false → find_making (layers t.entries) n ≡ Some (given_grid grid) → find_making (layers s.entries) n ≡ Some (given_grid grid)
