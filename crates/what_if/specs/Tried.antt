-- What is told of branches.
use Rattle.std.specs.Prelude.{◌≡◌, ℕ, List, [], ◌∷◌, slice_index_or, Result, Err, Vec}
use Rattle.std.specs.declared.alloc.Global.{Global}
use Rattle.statement_parser.specs.Lines.{Item, make, look_at}
use Rattle.map_edits.specs.LineEdits.{line_edit}
use Rattle.map_edits.specs.WholeStates.{WholeState}
use Rattle.map_machine.specs.Branches.{after_item}
use Rattle.map_machine.specs.LayerAnswers.{Look, cell_seen, outside, undefined, look}
use Rattle.live_engine.specs.Accepts.{Accepts}
use Rattle.live_engine.specs.declared.edits.Accepted.{Accepted}
use Rattle.live_engine.specs.declared.edits.Refusal.{Refusal}
use Rattle.live_engine.specs.declared.edits.Refusal.TheVariants.{NoMemory}
use Rattle.what_if.specs.declared.items.Told.{Told}
use Rattle.what_if.specs.declared.items.Told.TheVariants.{Edit, Value}
use Rattle.what_if.specs.declared.looks.Seen.{Seen}
use Rattle.what_if.specs.declared.looks.Seen.TheVariants.{Cell, Outside, Undefined}

abbrev pub look_view : Seen → Look
look_view (Cell v) = cell_seen v
look_view Outside = outside
look_view (Undefined n) = undefined n

-- accepted, or refused for another cause than want of memory
abbrev pub IsSettled : Result Accepted Refusal → Type 0
IsSettled (Err NoMemory) = ⊥
IsSettled result = Unit {0}

-- what an item tells that is made in a state
abbrev pub IsTold : WholeState → Item → Told → Type 0
IsTold s (make e) (Edit result) = IsSettled result × Accepts s (after_item s (make e)) (line_edit e) result
IsTold s (look_at n r c) (Value seen) = look_view seen ≡ look s.names n r c
IsTold s i told = ⊥

-- what the items of a branch tell, each made in the state that those before it made
abbrev pub AreTold : WholeState → List Item → List Told → Type 0
AreTold s [] [] = Unit {0}
AreTold s (i ∷ is) (t ∷ ts) = IsTold s i t × AreTold (after_item s i) is ts
AreTold s is ts = ⊥

-- branch k, counted from 0
abbrev pub branch_at : List (List Item) → ℕ → List Item
branch_at bs k = slice_index_or bs k []

-- what branches tell, each made from the same state
abbrev pub AreBranchesTold : WholeState → List (List Item) → List (Vec Told Global) → Type 0
AreBranchesTold s [] [] = Unit {0}
AreBranchesTold s (b ∷ bs) (t ∷ ts) = AreTold s b t.items × AreBranchesTold s bs ts
AreBranchesTold s bs ts = ⊥
