-- What branches told, in words, is the machine's reply to them.
use Rattle.std.proofs.Common.{◌≡◌, ℕ, suc, List, [], ◌∷◌, ◌++◌, Some, Result, Ok, Err, unwrap_or, Vec, codes, refl, ap, ◌∙◌, sym, append_assoc}
use Rattle.std.specs.declared.alloc.Global.{Global}
use Rattle.std.specs.List.{AllZip}
use Rattle.statement_parser.specs.Formed.{Each, IsItem, IsBranch}
use Rattle.statement_parser.specs.Lines.{Item, make, look_at}
use Rattle.statement_parser.specs.declared.line.Item as items
use Rattle.kept_map.specs.Repairs.{counts_view}
use Rattle.live_engine.specs.Accepts.{Accepts}
use Rattle.live_engine.specs.declared.edits.Accepted.{Accepted}
use Rattle.live_engine.specs.declared.edits.Refusal.{Refusal}
use Rattle.live_engine.specs.declared.edits.Refusal.TheVariants.{NoMemory}
use Rattle.map_edits.specs.Counted.{accept_counted}
use Rattle.map_edits.specs.LineEdits.{line_edit}
use Rattle.map_edits.specs.WholeEdits.{WholeEdit}
use Rattle.map_edits.specs.WholeStates.{WholeState}
use Rattle.map_machine.specs.Branches as meant
use Rattle.map_machine.specs.Branches.{after_item, item_reply, items_reply}
use Rattle.map_machine.specs.Causes.{counted}
use Rattle.map_machine.specs.LayerAnswers.{look_reply}
use Rattle.map_machine.specs.Replies.{counted_reply, refused_reply}
use Rattle.what_if.specs.declared.items.Told.{Told}
use Rattle.what_if.specs.declared.items.Told.TheVariants.{Edit, Value}
use Rattle.what_if.specs.Tried.{IsSettled, IsTold, AreTold, AreBranchesTold}
use Rattle.map_session.specs.BranchTexts.{IsTellable, AreTellable, edit_text, told_text, told_texts, branches_text}
use Rattle.map_session.specs.Causes.{edit_told}
use Rattle.map_session.proofs.EditSteps.{turned}

-- ---- an item

settled_told : (r : Refusal) → IsSettled (Err r) → edit_told r ≡ Some (unwrap_or (edit_told r) [])
settled_told NoMemory settled = absurd settled
settled_told r settled = refl

edit_said : (s new : WholeState) (e : WholeEdit) (result : Result Accepted Refusal) → IsSettled result → Accepts s new e result → edit_text result ≡ meant.edit_reply (accept_counted s e)
edit_said s new e (Ok a) settled accepts = ap (λ number. counted_reply number (counts_view a.counts)) accepts.1 ∙ ap meant.edit_reply (sym accepts.0)
edit_said s new e (Err r) settled refuses =
    let t = turned s new e r (unwrap_or (edit_told r) []) refuses (settled_told r settled) in
    ap refused_reply (sym t.told) ∙ ap meant.edit_reply (sym t.is)

item_said : (s : WholeState) (i : Item) (t : Told) → IsTold s i t → IsTellable i t × (told_text i t ≡ item_reply s i)
item_said s (make e) (Edit result) told = (tt, edit_said s (after_item s (make e)) (line_edit e) result told.0 told.1)
item_said s (make e) (Value seen) told = absurd told
item_said s (look_at n r c) (Edit result) told = absurd told
item_said s (look_at n r c) (Value seen) told = (tt, ap (look_reply n r c) told)

-- ---- the items of a branch

items_said : (s : WholeState) (is : List Item) (ts : List Told) → AreTold s is ts → AllZip IsTellable is ts × (told_texts is ts ≡ items_reply s is)
items_said s [] [] told = (tt, refl)
items_said s [] (t ∷ ts) told = absurd told
items_said s (i ∷ is) [] told = absurd told
items_said s (i ∷ is) (t ∷ ts) told =
    let first = item_said s i t told.0 in
    let rest = items_said (after_item s i) is ts told.1 in
    ((first.0, rest.0), ap (λ (text : List ℕ). text ++ told_texts is ts) first.1 ∙ ap (λ (text : List ℕ). item_reply s i ++ text) rest.1)

-- ---- branches

nested : (head end one rest : List ℕ) → (head ++ end ++ one) ++ rest ≡ head ++ end ++ one ++ rest
nested head end one rest = simp append_assoc

pub branches_tellable : (s : WholeState) (bs : List (List Item)) (ts : List (Vec Told Global)) → AreBranchesTold s bs ts → AllZip AreTellable bs ts
branches_tellable s [] [] told = tt
branches_tellable s [] (t ∷ ts) told = absurd told
branches_tellable s (b ∷ bs) [] told = absurd told
branches_tellable s (b ∷ bs) (t ∷ ts) told = ((items_said s b t.items told.0).0, branches_tellable s bs ts told.1)

pub branches_said : (s : WholeState) (k : ℕ) (bs : List (List Item)) (ts : List (Vec Told Global)) → AreBranchesTold s bs ts → branches_text k bs ts ≡ meant.branches_reply s k bs
branches_said s k [] [] told = refl
branches_said s k [] (t ∷ ts) told = absurd told
branches_said s k (b ∷ bs) [] told = absurd told
branches_said s k (b ∷ bs) (t ∷ ts) told =
    let head = counted (codes "branch") k in
    let one = (items_said s b t.items told.0).1 in
    nested head (codes "\n") (told_texts b t.items) (branches_text (suc k) bs ts) ∙ ap (λ (text : List ℕ). head ++ codes "\n" ++ text ++ branches_text (suc k) bs ts) one
    ∙ ap (λ (text : List ℕ). head ++ codes "\n" ++ items_reply s b ++ text) (branches_said s (suc k) bs ts told.1)

-- ---- what is asked of branches that are tried

pub branch_items : (bs : List (List Item)) → Each IsBranch bs → Each (Each IsItem) bs
branch_items [] formed = tt
branch_items (b ∷ bs) formed = (formed.0.1, branch_items bs formed.1)
