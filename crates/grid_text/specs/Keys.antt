-- The keys of a header, and what is found under them.
use Rattle.std.specs.Prelude.{ℕ, Bool, true, false, List, [], ◌∷◌, map, Option, Some, None, is_some, codes, bytes_eq, if◌then◌else◌}
use Rattle.std.specs.Option.{option_map}
use Rattle.std.specs.Char.{is_ascii_alphabetic, to_ascii_lowercase}
use Rattle.grid_text.specs.Numbers.{number_in, count_in}
use Rattle.grid_text.specs.Decimals.{is_decimal}
use Rattle.grid_text.specs.declared.keys.Key.{Key}
use Rattle.grid_text.specs.declared.keys.Key.TheVariants.{Columns, Rows, X, Y, Size, Null}
use Rattle.grid_text.specs.declared.found.Found.{Found}

-- the two x keys count as one, and so do the two y keys: true where the center of a cell is meant
abbrev pub key_table : List (List ℕ × Key)
key_table =
    (codes "ncols", Columns) ∷ (codes "nrows", Rows) ∷ (codes "xllcorner", X false) ∷ (codes "xllcenter", X true)
    ∷ (codes "yllcorner", Y false) ∷ (codes "yllcenter", Y true) ∷ (codes "cellsize", Size) ∷ (codes "nodata_value", Null) ∷ []

abbrev pub key_in : List (List ℕ × Key) → List ℕ → Option Key
key_in [] text = None
key_in (row ∷ rows) text = if bytes_eq text row.0 then Some row.1 else key_in rows text

-- the key that a token is, in any letter case
abbrev pub key_of : List ℕ → Option Key
key_of text = key_in key_table (map to_ascii_lowercase text)

abbrev pub begins_with_letter : List ℕ → Bool
begins_with_letter [] = false
begins_with_letter (b ∷ text) = is_ascii_alphabetic b

-- before the first pair
abbrev pub nothing : Found
nothing = record { columns = None; rows = None; x = None; y = None; size = None; null = None }

abbrev pub is_there : Key → Found → Bool
is_there Columns found = is_some found.columns
is_there Rows found = is_some found.rows
is_there (X center) found = is_some found.x
is_there (Y center) found = is_some found.y
is_there Size found = is_some found.size
is_there Null found = is_some found.null

abbrev pub decimal_in : List ℕ → Option (List ℕ)
decimal_in text = if is_decimal text then Some text else None

-- what is found with one more value, where it is of its key's form
abbrev pub with_value : Found → Key → List ℕ → Option Found
with_value found Columns text = option_map (λ n. record found { columns = Some n }) (count_in text)
with_value found Rows text = option_map (λ n. record found { rows = Some n }) (count_in text)
with_value found (X center) text = option_map (λ t. record found { x = Some (record { center = center; text = t }) }) (decimal_in text)
with_value found (Y center) text = option_map (λ t. record found { y = Some (record { center = center; text = t }) }) (decimal_in text)
with_value found Size text = option_map (λ t. record found { size = Some t }) (decimal_in text)
with_value found Null text = option_map (λ z. record found { null = Some z }) (number_in text)
