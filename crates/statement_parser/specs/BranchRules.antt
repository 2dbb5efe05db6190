-- What follows the word branch.
use Rattle.std.specs.Prelude.{ℕ, zero, suc, nat_lt, List, [], ◌∷◌, ◌++◌, length, Option, Some, codes, bytes_eq, option_map, if◌then◌else◌}
use Rattle.map_words.specs.Bytes.{Text}
use Rattle.grammar_core.specs.Rules.{Rule, ends, on, next, also}
use Rattle.statement_parser.specs.Lines.{Manner, Item, make, look_at, Line, ask, ask_branches}
use Rattle.statement_parser.specs.Places.{the, maybe, name_of}
use Rattle.statement_parser.specs.EditRules.{define_part, paint_part, new_part, drop_part, value_part}
use Rattle.statement_parser.specs.declared.opening.Opening.{Opening}
use Rattle.statement_parser.specs.declared.opening.Opening.TheVariants.{Paint, New, Drop, Value, Named}

-- "paint", "new", "drop", "value", or a name
abbrev pub opening_of : Text → Option Opening
opening_of t =
    if bytes_eq t (codes "paint") then Some Paint
    else (if bytes_eq t (codes "new") then Some New
    else (if bytes_eq t (codes "drop") then Some Drop
    else (if bytes_eq t (codes "value") then Some Value
    else option_map Named (name_of t))))

-- what follows the first word of an item; f is what may follow the item
abbrev pub opened_rule : Manner → (Item → Rule Text Line) → Opening → Rule Text Line
opened_rule m f Paint = paint_part (λ e. f (make e))
opened_rule m f New = new_part (λ e. f (make e))
opened_rule m f Drop = drop_part (λ e. f (make e))
opened_rule m f Value = value_part (λ n r c. f (look_at n r c))
opened_rule m f (Named n) = define_part m n (λ e. f (make e))

abbrev pub item_rule : Manner → (Item → Rule Text Line) → Rule Text Line
item_rule m f = next opening_of (opened_rule m f)

-- "end", after these branches
abbrev pub end_rule : List (List Item) → Rule Text Line
end_rule bs = next (the (codes "end")) (λ _. ends (ask (ask_branches bs)))

-- after the branches bs and the items is of one more: ";" item, or "branch" item up to the 16th branch, with at most n more items, or "end"
abbrev pub items_rule : Manner → ℕ → List (List Item) → List Item → Rule Text Line
items_rule m zero bs is = end_rule (bs ++ is ∷ [])
items_rule m (suc n) bs is =
    also (on (the (codes ";")) (λ _. item_rule m (λ i. items_rule m n bs (is ++ i ∷ []))))
    (also (on (maybe (nat_lt (length bs) 15) (the (codes "branch"))) (λ _. item_rule m (λ i. items_rule m n (bs ++ is ∷ []) (i ∷ []))))
    (end_rule (bs ++ is ∷ [])))

-- a line of at most 4,096 bytes never has so many
unfoldable pub most_items : ℕ
most_items = 4096

-- item {";" item} {"branch" item {";" item}} "end"; 1 to 16 branches
abbrev pub branch_rule : Manner → Rule Text Line
branch_rule m = item_rule m (λ i. items_rule m most_items [] (i ∷ []))
