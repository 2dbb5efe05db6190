-- What branches do: the items of each are made one after another, from the state that stands.
use Rattle.std.specs.Prelude.{ℕ, suc, List, [], ◌∷◌, ◌++◌, Result, Ok, Err, codes}
use Rattle.statement_parser.specs.Lines.{Item, make, look_at}
use Rattle.map_edits.specs.Counted.{Accepted, accept_counted}
use Rattle.map_edits.specs.LineEdits.{line_edit}
use Rattle.map_edits.specs.Refusals.{Refusal}
use Rattle.map_edits.specs.WholeStates.{WholeState}
use Rattle.map_machine.specs.Causes.{counted, edit_cause}
use Rattle.map_machine.specs.LayerAnswers.{look, look_reply}
use Rattle.map_machine.specs.Replies.{counted_reply, refused_reply}

-- a refused edit leaves the state
abbrev pub after_edit : WholeState → Result Accepted Refusal → WholeState
after_edit s (Ok a) = a.state
after_edit s (Err r) = s

abbrev pub edit_reply : Result Accepted Refusal → List ℕ
edit_reply (Ok a) = counted_reply a.state.names.number a.counts
edit_reply (Err r) = refused_reply (edit_cause r)

abbrev pub after_item : WholeState → Item → WholeState
after_item s (make e) = after_edit s (accept_counted s (line_edit e))
after_item s (look_at n r c) = s

abbrev pub item_reply : WholeState → Item → List ℕ
item_reply s (make e) = edit_reply (accept_counted s (line_edit e))
item_reply s (look_at n r c) = look_reply n r c (look s.names n r c)

-- of the items of one branch
abbrev pub items_reply : WholeState → List Item → List ℕ
items_reply s [] = []
items_reply s (i ∷ is) = item_reply s i ++ items_reply (after_item s i) is

-- of the branches from this number on: each begins from the same state
abbrev pub branches_reply : WholeState → ℕ → List (List Item) → List ℕ
branches_reply s k [] = []
branches_reply s k (b ∷ bs) = counted (codes "branch") k ++ codes "\n" ++ items_reply s b ++ branches_reply s (suc k) bs
