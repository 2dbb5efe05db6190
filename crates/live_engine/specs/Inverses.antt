-- What takes an edit back: what it puts in place, and when it fits a state.
use Rattle.std.specs.Prelude.{◌≡◌, ◌≤◌, List, length, count_by, Option, Some, None, unwrap_or, Result, Ok, Err, IsTrue}
use Rattle.map_nums.specs.Grids.{Size, Grid}
use Rattle.map_words.specs.Names.{is_plain}
use Rattle.map_defs.specs.Ops.{Name}
use Rattle.map_defs.specs.MadeProcedures.{IsUndotted, AreMade}
use Rattle.layer_tiles.specs.Patches.{PatchState, patched, numbers_of}
use Rattle.map_waves.specs.Operands.{IsOperand}
use Rattle.map_edits.specs.Entries.{Def, source, Entry, find_def, put_entry}
use Rattle.map_edits.specs.LayerDefs.{layers, nodes_of}
use Rattle.map_edits.specs.Limits.{is_source, is_flat, most_sources, most_flats}
use Rattle.map_edits.specs.Faults.{fault_of}
use Rattle.map_edits.specs.Laws.{HasNoCycle, IsApart}
use Rattle.map_edits.specs.GroupLaws.{AreGroups}
use Rattle.map_edits.specs.Pasts.{Parts, Past, parts_of}
use Rattle.map_edits.specs.Touches.{Touch, nothing, whole, within, touch_of}
use Rattle.map_edits.specs.WholeEdits.{WholeEdit, put_back}
use Rattle.map_edits.specs.WholeStates.{WholeState}
use Rattle.kept_map.specs.Groups.{groups_of}
use Rattle.live_engine.specs.Accepts.{Accepts, Refuses}
use Rattle.live_engine.specs.Drafts.{entries_after, IsFit}
use Rattle.live_engine.specs.Notes.{without_note, SuitsNote}
use Rattle.live_engine.specs.Painting.{rectangle_of, met_tiles}
use Rattle.live_engine.specs.declared.drafts.Draft.{Draft}
use Rattle.live_engine.specs.declared.drafts.Left.{Left}
use Rattle.live_engine.specs.declared.edits.Accepted.{Accepted}
use Rattle.live_engine.specs.declared.edits.Refusal.{Refusal}
use Rattle.live_engine.specs.declared.inverses.Inverse.{Inverse}
use Rattle.live_engine.specs.declared.inverses.Inverse.TheVariants as inverses
use Rattle.live_engine.specs.declared.repainting.Repaint.{Repaint}
use Rattle.live_engine.specs.declared.repainting.Unpainted.{Unpainted}

-- ---- what is put in place

-- a grid with these tiles in place of its own
abbrev pub with_tiles : Grid → PatchState → Grid
with_tiles g p = record { size = g.size; cells = patched g.size g.cells p.tiles }

abbrev pub repainted : List Entry → Name → PatchState → Option Def → List Entry
repainted es n p (Some (source grid)) = put_entry es n (source (with_tiles grid p))
repainted es n p other = es

-- the parts of the state before the edit, from those of the state after it
abbrev pub back : Inverse → Parts → Parts
back (inverses.Name d) s = record s { entries = entries_after s.entries d.name d.change; labels = unwrap_or d.labels s.labels; symbols = unwrap_or d.symbols s.symbols }
back (inverses.Tiles t) s = record s { entries = repainted s.entries t.name t.patch (find_def s.entries t.name) }
back (inverses.Note b) s = without_note b s

-- what the edit touched
abbrev pub touched : Inverse → Touch
touched (inverses.Name d) = whole d.name
touched (inverses.Tiles t) = within t.name (rectangle_of t.rectangle)
touched (inverses.Note b) = nothing

abbrev pub past_of : Inverse → Parts → Past
past_of i s = record { parts = back i s; touch = touched i }

-- ---- when it fits

-- parts of a state that the engine may have: lawful, without a fault, and within its limits
pub record AreReached (size : Size) (p : Parts) : Type 0 where
  pub made : AreMade p.procedures
  pub groups : AreGroups p.entries
  pub apart : IsApart p.entries
  pub none_looped : HasNoCycle (nodes_of p.entries)
  pub faultless : fault_of (record { size = size; entries = p.entries; number = 0 }) ≡ None
  pub sources_few : count_by is_source p.entries ≤ most_sources
  pub flats_few : count_by is_flat (layers p.entries) ≤ most_flats

-- what stands for the name can be put in its place, and the graph is that of the names then
pub record SuitsName (size : Size) (s : Parts) (d : Draft) : Type 0 where
  pub plain : IsTrue (is_plain d.name)
  pub fits : IsFit size s.entries d.name d.change
  pub graph_is : d.graph ≡ groups_of (entries_after s.entries d.name d.change)

-- the name is a source, and the tiles are those in which it differs
pub record SuitsTiles (size : Size) (s : Parts) (t : Repaint) : Type 0 where
  pub plain : IsUndotted t.name
  pub grid : Grid
  pub there : find_def s.entries t.name ≡ Some (source grid)
  pub sized : grid.size ≡ size
  pub patch_sized : t.patch.size ≡ size
  pub operand : IsOperand size (record { size = size; before = Some grid.cells; cells = patched size grid.cells t.patch.tiles; touched = numbers_of t.patch.tiles })
  pub met : t.met ≡ length (met_tiles size (rectangle_of t.rectangle))

abbrev pub Suits : Size → Parts → Inverse → Type 0
Suits size s (inverses.Name d) = SuitsName size s d
Suits size s (inverses.Tiles t) = SuitsTiles size s t
Suits size s (inverses.Note b) = SuitsNote s b

-- the state is as the edit left it, and the one before was reached
pub record Fits (size : Size) (s : Parts) (i : Inverse) : Type 0 where
  pub suits : Suits size s i
  pub reached : AreReached size (back i s)

-- ---- what edits answer

-- from t it leads to the parts of s, and it touches the same
pub record TakesBack (s t : WholeState) (touch : Touch) (i : Inverse) : Type 0 where
  pub size : t.names.size ≡ s.names.size
  pub fits : Fits t.names.size (parts_of t) i
  pub parts : back i (parts_of t) ≡ parts_of s
  pub touch_is : touched i ≡ touch

-- an accepted edit, with what takes it back; or why it is refused
abbrev pub AcceptsBack : WholeState → WholeState → WholeEdit → Result (Accepted × Inverse) Refusal → Type 0
AcceptsBack old new e (Ok both) = Accepts old new e (Ok both.0) × TakesBack old new (touch_of e) both.1
AcceptsBack old new e (Err refusal) = Refuses old new e refusal

-- the earlier parts are put back; for want of memory all is as before
abbrev pub IsReverted : WholeState → WholeState → Inverse → Result Accepted Inverse → Type 0
IsReverted old new i (Ok accepted) = Accepts old new (put_back (past_of i (parts_of old))) (Ok accepted)
IsReverted old new i (Err j) = (j ≡ i) × (new ≡ old)

-- ---- while they are carried out

abbrev pub IsCarried : WholeState → WholeState → WholeEdit → Draft → Result (Accepted × Draft) Left → Type 0
IsCarried old new e d (Ok both) = Accepts old new e (Ok both.0)
IsCarried old new e d (Err left) = (left.draft ≡ d) × Refuses old new e left.refusal

abbrev pub IsRepaintCarried : WholeState → WholeState → WholeEdit → Repaint → Result (Accepted × Repaint) Unpainted → Type 0
IsRepaintCarried old new e d (Ok both) = Accepts old new e (Ok both.0)
IsRepaintCarried old new e d (Err left) = (left.repaint ≡ d) × Refuses old new e left.refusal
