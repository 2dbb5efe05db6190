-- What a line with branches replies, told by the lines that its items are.
use Rattle.std.specs.Prelude.{◌≡◌, ℕ, List, [], ◌∷◌, ◌++◌, map, Ok}
use Rattle.statement_parser.specs.Lines.{Item, make, look_at, ask_value, ask_branches, Line, edit, ask}
use Rattle.map_machine.specs.Branches.{items_reply}
use Rattle.map_machine.specs.States.{MapState}
use Rattle.map_machine.specs.Steps.{step_by}

-- an item, as a line of a session
abbrev pub line_of_item : Item → Line
line_of_item (make e) = edit e
line_of_item (look_at n r c) = ask (ask_value n r c)

-- the replies to these lines of a session, one after another
abbrev pub replies_by : MapState → List Line → List ℕ
replies_by s [] = []
replies_by s (x ∷ xs) = (step_by s (Ok x)).reply ++ replies_by (step_by s (Ok x)).state xs

-- each branch replies what its items would as lines of a session from the state that stands
abbrev pub ReplyAsLines : Type 0
ReplyAsLines = (s : MapState) (items : List Item) → items_reply s.whole items ≡ replies_by s (map line_of_item items)

-- and the line leaves this state as it is
abbrev pub LeaveTheState : Type 0
LeaveTheState = (s : MapState) (branches : List (List Item)) → (step_by s (Ok (ask (ask_branches branches)))).state ≡ s
