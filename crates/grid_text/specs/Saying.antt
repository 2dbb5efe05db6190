-- How the entries of a header say it.
use Rattle.std.specs.Prelude.{◌≡◌, ◌≤◌, Bool, true, false, List, [], ◌∷◌, length, filter, ℤ, negsuc}
use Rattle.grid_text.specs.Heads.{Head}
use Rattle.grid_text.specs.Pairs.{Entry, columns, rows, x, y, size, null}

abbrev pub is_columns : Entry → Bool
is_columns (columns n) = true
is_columns _ = false

abbrev pub is_rows : Entry → Bool
is_rows (rows n) = true
is_rows _ = false

abbrev pub is_x : Entry → Bool
is_x (x corner) = true
is_x _ = false

abbrev pub is_y : Entry → Bool
is_y (y corner) = true
is_y _ = false

abbrev pub is_size_entry : Entry → Bool
is_size_entry (size text) = true
is_size_entry _ = false

abbrev pub is_null : Entry → Bool
is_null (null z) = true
is_null _ = false

-- each key is there at most once
pub record Once (entries : List Entry) : Type 0 where
  pub columns : length (filter is_columns entries) ≤ 1
  pub rows : length (filter is_rows entries) ≤ 1
  pub x : length (filter is_x entries) ≤ 1
  pub y : length (filter is_y entries) ≤ 1
  pub size : length (filter is_size_entry entries) ≤ 1
  pub null : length (filter is_null entries) ≤ 1

-- the number that stands for null: of the one entry that says it, or -9999 where none does
abbrev pub SaysNull : List Entry → ℤ → Type 0
SaysNull [] z = z ≡ negsuc 9998
SaysNull (entry ∷ []) z = entry ≡ null z
SaysNull (entry ∷ other ∷ entries) z = ⊥

-- each key that is needed is there once, the others at most once, and they say this header
pub record SaysHead (entries : List Entry) (head : Head) : Type 0 where
  pub columns : filter is_columns entries ≡ columns head.size.columns ∷ []
  pub rows : filter is_rows entries ≡ rows head.size.rows ∷ []
  pub x : filter is_x entries ≡ x head.header.x ∷ []
  pub y : filter is_y entries ≡ y head.header.y ∷ []
  pub size : filter is_size_entry entries ≡ size head.header.size ∷ []
  pub null : SaysNull (filter is_null entries) head.null
