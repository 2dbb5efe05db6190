-- What branches told, in words.
use Rattle.std.specs.Prelude.{ℕ, suc, List, [], ◌∷◌, ◌++◌, Result, Ok, Err, unwrap_or, codes, Vec}
use Rattle.std.specs.declared.alloc.Global.{Global}
use Rattle.std.specs.List.{AllZip}
use Rattle.statement_parser.specs.Lines.{Item, make, look_at}
use Rattle.kept_map.specs.Repairs.{counts_view}
use Rattle.live_engine.specs.declared.edits.Accepted.{Accepted}
use Rattle.live_engine.specs.declared.edits.Refusal.{Refusal}
use Rattle.map_machine.specs.Causes.{counted}
use Rattle.map_machine.specs.LayerAnswers.{look_reply}
use Rattle.map_machine.specs.Replies.{counted_reply, refused_reply}
use Rattle.what_if.specs.declared.items.Told.{Told}
use Rattle.what_if.specs.declared.items.Told.TheVariants.{Edit, Value}
use Rattle.what_if.specs.Tried.{look_view}
use Rattle.map_session.specs.Causes.{edit_told}

-- an edit tells what became of it, and a look what was seen
abbrev pub IsTellable : Item → Told → Type 0
IsTellable (make e) (Edit result) = Unit {0}
IsTellable (look_at n r c) (Value seen) = Unit {0}
IsTellable i told = ⊥

-- the items of a branch
abbrev pub AreTellable : List Item → Vec Told Global → Type 0
AreTellable is told = AllZip IsTellable is told.items

-- want of memory has no cause
abbrev pub edit_text : Result Accepted Refusal → List ℕ
edit_text (Ok a) = counted_reply a.number (counts_view a.counts)
edit_text (Err r) = refused_reply (unwrap_or (edit_told r) [])

abbrev pub told_text : Item → Told → List ℕ
told_text (make e) (Edit result) = edit_text result
told_text (look_at n r c) (Value seen) = look_reply n r c (look_view seen)
told_text i told = []

-- of the items of one branch
abbrev pub told_texts : List Item → List Told → List ℕ
told_texts (i ∷ is) (t ∷ ts) = told_text i t ++ told_texts is ts
told_texts is ts = []

-- of the branch of this number
abbrev pub branch_text : ℕ → List Item → List Told → List ℕ
branch_text k is ts = counted (codes "branch") k ++ codes "\n" ++ told_texts is ts

-- of the branches from this number on
abbrev pub branches_text : ℕ → List (List Item) → List (Vec Told Global) → List ℕ
branches_text k (b ∷ bs) (t ∷ ts) = branch_text k b t.items ++ branches_text (suc k) bs ts
branches_text k bs ts = []
