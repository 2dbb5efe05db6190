-- Branches reply as lines do.
use Rattle.std.proofs.Common.{◌≡◌, [], ◌∷◌, ◌++◌, Result, Ok, Err, refl, ap, ◌∙◌}
use Rattle.statement_parser.specs.Lines.{Item, make, look_at}
use Rattle.map_edits.specs.Counted.{Accepted, accept_counted}
use Rattle.map_edits.specs.LineEdits.{line_edit}
use Rattle.map_edits.specs.Refusals.{Refusal}
use Rattle.map_edits.specs.WholeEdits.{WholeEdit}
use Rattle.map_edits.specs.WholeStates.{WholeState}
use Rattle.map_machine.specs.Branches.{after_edit, edit_reply, after_item, item_reply, items_reply}
use Rattle.map_machine.specs.BranchLaws.{line_of_item, ReplyAsLines, LeaveTheState}
use Rattle.map_machine.specs.States.{MapState}
use Rattle.map_machine.specs.Steps.{edited, step_by}

edited_reply : (s : MapState) (e : WholeEdit) (r : Result Accepted Refusal) → edit_reply r ≡ (edited s e r).reply
edited_reply s e (Ok a) = refl
edited_reply s e (Err r) = refl

edited_state : (s : MapState) (e : WholeEdit) (r : Result Accepted Refusal) → after_edit s.whole r ≡ (edited s e r).state.whole
edited_state s e (Ok a) = refl
edited_state s e (Err r) = refl

item_replies : (s : MapState) (i : Item) → item_reply s.whole i ≡ (step_by s (Ok (line_of_item i))).reply
item_replies s (make e) = edited_reply s (line_edit e) (accept_counted s.whole (line_edit e))
item_replies s (look_at n r c) = refl

item_leads : (s : MapState) (i : Item) → after_item s.whole i ≡ (step_by s (Ok (line_of_item i))).state.whole
item_leads s (make e) = edited_state s (line_edit e) (accept_counted s.whole (line_edit e))
item_leads s (look_at n r c) = refl

pub reply_as_lines : ReplyAsLines
reply_as_lines s [] = refl
reply_as_lines s (i ∷ is) =
    ap (λ reply. reply ++ items_reply (after_item s.whole i) is) (item_replies s i)
    ∙ ap (λ reply. (step_by s (Ok (line_of_item i))).reply ++ reply) (ap (λ (w : WholeState). items_reply w is) (item_leads s i) ∙ reply_as_lines (step_by s (Ok (line_of_item i))).state is)

pub leave_the_state : LeaveTheState
leave_the_state s branches = refl
