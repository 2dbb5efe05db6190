-- Reading branches, on lists.
use Rattle.std.specs.Prelude.{ℕ, zero, suc, nat_lt, false, List, [], ◌∷◌, ◌++◌, length, Result, Ok, codes, if◌then◌else◌}
use Rattle.map_words.specs.Bytes.{Text}
use Rattle.grammar_core.specs.declared.Fault.{Fault}
use Rattle.grammar_core.specs.Readers.{◌>>=◌, Read, one_at, end_at, starts}
use Rattle.statement_parser.specs.Lines.{Manner, Item, make, look_at, Line, ask, ask_branches}
use Rattle.statement_parser.specs.Places.{the, maybe, reading}
use Rattle.statement_parser.specs.BranchRules.{opening_of, most_items}
use Rattle.statement_parser.specs.ReadEdits.{defined_at, painted_at, laid_at, dropped_at, looked_at}
use Rattle.statement_parser.specs.declared.opening.Opening.{Opening}
use Rattle.statement_parser.specs.declared.opening.Opening.TheVariants.{Paint, New, Drop, Value, Named}

abbrev pub opened_at : Manner → Opening → List Text → Read Text Item
opened_at m Paint ws = painted_at ws >>= λ e. Ok (make e.0, e.1)
opened_at m New ws = laid_at ws >>= λ e. Ok (make e.0, e.1)
opened_at m Drop ws = dropped_at ws >>= λ e. Ok (make e.0, e.1)
opened_at m Value ws = looked_at ws >>= λ l. Ok (look_at l.0.0 l.0.1 l.0.2, l.1)
opened_at m (Named n) ws = defined_at m n ws >>= λ e. Ok (make e.0, e.1)

unfoldable pub item_at : Manner → List Text → Read Text Item
item_at m ws = do
  o ← one_at reading opening_of false ws
  opened_at m o.0 o.1

-- an item behind this word
unfoldable pub item_behind_at : Manner → Text → List Text → Read Text Item
item_behind_at m word ws = do
  u ← one_at reading (the word) false ws
  item_at m u.1

-- the end of the line, after these branches
unfoldable pub ended_at : List (List Item) → List Text → Result Line Fault
ended_at bs ws = do
  u ← one_at reading (the (codes "end")) false ws
  e ← end_at u.1
  Ok (ask (ask_branches bs))

unfoldable pub items_at : Manner → ℕ → List (List Item) → List Item → List Text → Result Line Fault
items_at m zero bs is ws = ended_at (bs ++ is ∷ []) ws
items_at m (suc n) bs is ws =
    if starts (the (codes ";")) ws then (do
      i ← item_behind_at m (codes ";") ws
      items_at m n bs (is ++ i.0 ∷ []) i.1)
    else (if starts (maybe (nat_lt (length bs) 15) (the (codes "branch"))) ws then (do
      i ← item_behind_at m (codes "branch") ws
      items_at m n (bs ++ is ∷ []) (i.0 ∷ []) i.1)
    else ended_at (bs ++ is ∷ []) ws)

unfoldable pub branches_at : Manner → List Text → Result Line Fault
branches_at m ws = do
  i ← item_at m ws
  items_at m most_items [] (i.0 ∷ []) i.1
