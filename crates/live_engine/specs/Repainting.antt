-- A source is painted in place.
use Rattle.std.specs.Prelude.{◌≡◌, ℕ, ◌<◌, length, position, Some, Result, Ok, Err, Option, ℤ, bytes_eq, slice_get, slice_set}
use Rattle.map_nums.specs.Grids.{Grid}
use Rattle.map_defs.specs.Ops.{Name}
use Rattle.map_defs.specs.MadeProcedures.{IsUndotted}
use Rattle.layer_tiles.specs.Changes.{patched_change}
use Rattle.layer_tiles.specs.Exchanges.{tiles_at}
use Rattle.layer_tiles.specs.Layers.{LayerState, IsLayer, IsCommitted}
use Rattle.layer_tiles.specs.Patches.{PatchState, patched}
use Rattle.map_edits.specs.Entries.{source, put_entry}
use Rattle.map_edits.specs.EditForms.{Rectangle, paint}
use Rattle.map_edits.specs.Edits.{with_entries}
use Rattle.map_edits.specs.Attempts.{attempted}
use Rattle.map_edits.specs.GroupLaws.{IsLawful, IsSaid}
use Rattle.map_edits.specs.Touches.{within, touch_of}
use Rattle.map_edits.specs.WholeStates.{WholeState}
use Rattle.map_edits.specs.WholeEdits.{WholeEdit, of_names}
use Rattle.map_waves.specs.Operands.{IsOperand}
use Rattle.kept_map.specs.Maps.{seen}
use Rattle.kept_map.specs.declared.maps.KeptMap.{KeptMap}
use Rattle.live_engine.specs.Accepts.{Refuses}
use Rattle.live_engine.specs.Painting.{rectangle_of, met_tiles}
use Rattle.live_engine.specs.declared.edits.Refusal.{Refusal}
use Rattle.live_engine.specs.declared.repainting.Repaint.{Repaint}

-- the state with another grid for a source
abbrev pub repainted_state : WholeState → Name → Grid → WholeState
repainted_state s n grid = record s { names = with_entries s.names (put_entry s.names.entries n (source grid)) }

-- an edit that can be tried: in its rectangle of a source it changes the tiles of the patch, with which the source has this grid
pub record IsRepaintOf (m : KeptMap) (e : WholeEdit) (grid : Grid) (d : Repaint) : Type 0 where
  pub plain : IsUndotted d.name
  pub said : IsSaid (seen m) e
  pub touch : touch_of e ≡ within d.name (rectangle_of d.rectangle)
  pub attempt : attempted (seen m) e ≡ Ok (repainted_state (seen m) d.name grid)
  pub lawful : IsLawful (repainted_state (seen m) d.name grid)
  pub place : ℕ
  pub layer : LayerState
  pub placed : position (bytes_eq d.name) m.sources.names.keys ≡ Some place
  pub there : slice_get m.sources.layers.items place ≡ Some layer
  pub grid_size : grid.size ≡ m.extent
  pub size : d.patch.size ≡ layer.size
  pub cells : patched layer.size layer.cells d.patch.tiles ≡ grid.cells
  pub operand : IsOperand layer.size (patched_change layer d.patch)
  pub met : d.met ≡ length (met_tiles m.extent (rectangle_of d.rectangle))

-- or why it can't
abbrev pub IsRepaintDrafted : KeptMap → Name → Rectangle → Option ℤ → Result Repaint Refusal → Type 0
IsRepaintDrafted m n r cell (Ok d) = (grid : Grid) × IsRepaintOf m (of_names (paint n r cell)) grid d
IsRepaintDrafted m n r cell (Err refusal) = Refuses (seen m) (seen m) (of_names (paint n r cell)) refusal

-- there is a layer at the place, of the patch's size
pub record CanRepaint (m : KeptMap) (place : ℕ) (patch : PatchState) : Type 0 where
  pub was : LayerState
  pub there : slice_get m.sources.layers.items place ≡ Some was
  pub within : place < length m.sources.layers.items
  pub size : patch.size ≡ was.size

-- the patch was put into the layer at the place, with the map's number for its stamp
pub record IsRepainted (old new : KeptMap) (place : ℕ) (patch : PatchState) : Type 0 where
  pub layer : LayerState
  pub whole : IsLayer layer
  pub others : new ≡ record old { sources = record { names = old.sources.names; layers = new.sources.layers } }
  pub layers : new.sources.layers.items ≡ slice_set old.sources.layers.items place layer
  pub committed : (was : LayerState) → slice_get old.sources.layers.items place ≡ Some was → IsCommitted was patch old.number layer

-- the tiles that the layer at the place had at the numbers of the patch
abbrev pub HadTiles : KeptMap → ℕ → PatchState → PatchState → Type 0
HadTiles m place patch taken = (was : LayerState) → slice_get m.sources.layers.items place ≡ Some was → taken ≡ record { size = patch.size; tiles = tiles_at was.size was.cells patch.tiles }
