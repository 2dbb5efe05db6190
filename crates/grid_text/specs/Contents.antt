-- What the bytes of a grid's text hold, or their first fault in reading order.
use Rattle.std.specs.Prelude.{ℕ, ◌+◌, ◌==◌, ℤ, List, [], ◌∷◌, length, Option, Some, None, Result, Ok, Err, if◌then◌else◌}
use Rattle.std.specs.Ordering.{int_eq}
use Rattle.map_nums.specs.Grids.{Cells, cells_in, is_size}
use Rattle.map_nums.specs.Numbers.{is_value}
use Rattle.grid_text.specs.Faults.{Fault, limits, few, more, cell, range, or_fault, ◌>>=◌}
use Rattle.grid_text.specs.Headed.{Headed}
use Rattle.grid_text.specs.Heads.{Head, pairs_in, head_in}
use Rattle.grid_text.specs.Keys.{nothing}
use Rattle.grid_text.specs.Numbers.{whole_in}
use Rattle.grid_text.specs.Tokens.{Token, tokens_of, first_at}

-- The cell of index `i` that a number is: null by its value. A number of more than 18 digits is never the one that stands for
-- null, since a header refuses it, and so it is out of range.
abbrev pub cell_of_number : ℤ → ℕ → ℤ → Result (Option ℤ) Fault
cell_of_number null i z = if int_eq z null then Ok None else (if is_value z then Ok (Some z) else Err (range i))

-- the cell of index `i` that a token is
abbrev pub cell_in : ℤ → ℕ → List ℕ → Result (Option ℤ) Fault
cell_in null i text = or_fault (cell i) (whole_in text) >>= λ z. cell_of_number null i z

-- the cells that the tokens are, after `have` of `need` cells
abbrev pub cells_from : ℤ → ℕ → ℕ → List Token → Result Cells Fault
cells_from null need have [] = if have == need then Ok [] else Err (few have need)
cells_from null need have (token ∷ tokens) =
    if have == need then Err (more token.at)
    else (cell_in null (have + 1) token.text >>= λ c. cells_from null need (have + 1) tokens >>= λ cells. Ok (c ∷ cells))

-- the grid of a header and the tokens after it
abbrev pub grid_after : Head → List Token → Result Headed Fault
grid_after head tokens =
    if is_size head.size
    then (cells_from head.null (cells_in head.size) 0 tokens >>= λ cells. Ok (record { header = head.header; grid = record { size = head.size; cells = cells } }))
    else Err (limits head.size.rows head.size.columns)

abbrev pub grid_of_tokens : ℕ → List Token → Result Headed Fault
grid_of_tokens end tokens = do
  pairs ← pairs_in end nothing tokens
  head ← head_in (first_at end pairs.1) pairs.0
  grid_after head pairs.1

unfoldable pub grid_in : List ℕ → Result Headed Fault
grid_in bytes = grid_of_tokens (length bytes + 1) (tokens_of bytes)
