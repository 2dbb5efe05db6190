-- Edits that can be taken back, one after another.
use Rattle.std.specs.Prelude.{◌≡◌, List, [], ◌∷◌, Result, Ok, Err}
use Rattle.map_nums.specs.Grids.{Size}
use Rattle.layer_tiles.specs.Tallies.{TallyState, RisesBy}
use Rattle.map_edits.specs.Pasts.{Parts, Past, parts_of}
use Rattle.map_edits.specs.WholeEdits.{put_back}
use Rattle.map_edits.specs.WholeStates.{WholeState}
use Rattle.live_engine.specs.Accepts.{Accepts, ReadsWithin}
use Rattle.live_engine.specs.Inverses.{back, past_of, Fits}
use Rattle.live_engine.specs.declared.edits.Accepted.{Accepted}
use Rattle.live_engine.specs.declared.inverses.Inverse.{Inverse}
use Rattle.undo_shelf.specs.declared.history.UndoRefusal.{UndoRefusal}
use Rattle.undo_shelf.specs.declared.history.UndoRefusal.TheVariants.{Nothing, NoMemory}

-- the newest fits the parts of a state, and each older one those to which the newer ones lead
abbrev pub AreChained : Size → Parts → List Inverse → Type 0
AreChained size s [] = Unit {0}
AreChained size s (i ∷ is) = Fits size s i × AreChained size (back i s) is

-- the earlier states to which they lead, the newest first
abbrev pub pasts_from : Parts → List Inverse → List Past
pasts_from s [] = []
pasts_from s (i ∷ is) = past_of i s ∷ pasts_from (back i s) is

-- the newest edit is taken back; nothing is exactly where there is none, and after want of memory all is as before
abbrev pub IsUndone : WholeState → WholeState → List Inverse → List Inverse → Result Accepted UndoRefusal → Type 0
IsUndone old new (i ∷ is) left (Ok accepted) = Accepts old new (put_back (past_of i (parts_of old))) (Ok accepted) × (left ≡ is)
IsUndone old new (i ∷ is) left (Err NoMemory) = (left ≡ i ∷ is) × (new ≡ old)
IsUndone old new [] left (Err Nothing) = (left ≡ []) × (new ≡ old)
IsUndone old new held left result = ⊥

-- no more is read than an edit may read that puts the newest of these back
abbrev pub ReadsForUndo : WholeState → List Past → TallyState → TallyState → Type 0
ReadsForUndo s [] before after = RisesBy 0 0 before after
ReadsForUndo s (p ∷ ps) before after = ReadsWithin s (put_back p) before after
