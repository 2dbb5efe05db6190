-- What a header holds, or its first fault in reading order.
use Rattle.std.specs.Prelude.{ℕ, ℤ, negsuc, List, [], ◌∷◌, Option, Some, None, Result, Ok, Err, if◌then◌else◌}
use Rattle.map_nums.specs.Grids.{Size}
use Rattle.grid_text.specs.Faults.{Fault, key, number, or_fault, ◌>>=◌}
use Rattle.grid_text.specs.Keys.{key_of, begins_with_letter, is_there, with_value}
use Rattle.grid_text.specs.Tokens.{Token}
use Rattle.grid_text.specs.declared.Header.{Header}
use Rattle.grid_text.specs.declared.found.Found.{Found}
use Rattle.grid_text.specs.declared.keys.Key.{Key}

-- the key that a token is, where it is one and not there yet
abbrev pub new_key : Found → Token → Result Key Fault
new_key found token = or_fault (key token.at) (key_of token.text) >>= λ k. if is_there k found then Err (key token.at) else Ok k

-- what is found with the value of one more key
abbrev pub with_pair : Found → Key → Token → Result Found Fault
with_pair found k value = or_fault (number value.at) (with_value found k value.text)

-- what is found in the pairs that stand first, and the tokens after them; the text ends at `end`
abbrev pub pairs_in : ℕ → Found → List Token → Result (Found × List Token) Fault
pairs_in end found [] = Ok (found, [])
pairs_in end found (name ∷ []) =
    if begins_with_letter name.text then (new_key found name >>= λ k. Err (number end))
    else Ok (found, name ∷ [])
pairs_in end found (name ∷ value ∷ tokens) =
    if begins_with_letter name.text then (new_key found name >>= λ k. with_pair found k value >>= λ more. pairs_in end more tokens)
    else Ok (found, name ∷ value ∷ tokens)

-- a whole header: the texts that are kept, the size, and the number that stands for null
pub record Head : Type 0 where
  pub header : Header
  pub size : Size
  pub null : ℤ

-- the number that stands for null where no key says which: -9999
abbrev pub null_or_default : Option ℤ → ℤ
null_or_default None = negsuc 9998
null_or_default (Some z) = z

-- the header of what is found, where no key that is needed is missing; `end` is where the header ends
abbrev pub head_in : ℕ → Found → Result Head Fault
head_in end found = do
  columns ← or_fault (key end) found.columns
  rows ← or_fault (key end) found.rows
  x ← or_fault (key end) found.x
  y ← or_fault (key end) found.y
  size ← or_fault (key end) found.size
  Ok (record { header = record { x = x; y = y; size = size }; size = record { rows = rows; columns = columns }; null = null_or_default found.null })
