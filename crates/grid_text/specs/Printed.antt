-- The canonical text of a grid.
use Rattle.std.specs.Prelude.{ℕ, ◌*◌, ℤ, pos, neg_ℤ, ◌+ℤ◌, List, [], ◌∷◌, ◌++◌, map, take, drop, Option, Some, None, codes, decimal, flat_map, if◌then◌else◌}
use Rattle.std.specs.List.{range_with_len}
use Rattle.std.specs.Fmt.{signed_decimal}
use Rattle.map_nums.specs.Grids.{Size, Cells}
use Rattle.map_nums.specs.Numbers.{vmax}
use Rattle.grid_text.specs.declared.Header.{Header}
use Rattle.grid_text.specs.declared.Corner.{Corner}

-- the number that stands for null: no cell can hold it
abbrev pub null_number : ℤ
null_number = neg_ℤ (vmax +ℤ pos 1)

abbrev pub cell_text : Option ℤ → List ℕ
cell_text None = signed_decimal null_number
cell_text (Some z) = signed_decimal z

-- words with single spaces between
abbrev pub spaced : List (List ℕ) → List ℕ
spaced [] = []
spaced (word ∷ []) = word
spaced (word ∷ next ∷ words) = word ++ codes " " ++ spaced (next ∷ words)

-- row r, counted from 0
abbrev pub row_text : Size → Cells → ℕ → List ℕ
row_text s cells r = spaced (map cell_text (take s.columns (drop (r * s.columns) cells))) ++ codes "\n"

abbrev pub rows_text : Size → Cells → List ℕ
rows_text s cells = flat_map (row_text s cells) (range_with_len 0 s.rows)

abbrev pub x_key : Corner → List ℕ
x_key corner = if corner.center then codes "xllcenter " else codes "xllcorner "

abbrev pub y_key : Corner → List ℕ
y_key corner = if corner.center then codes "yllcenter " else codes "yllcorner "

abbrev pub header_text : Header → Size → List ℕ
header_text h s =
    codes "ncols " ++ decimal s.columns ++ codes "\nnrows " ++ decimal s.rows ++ codes "\n"
    ++ x_key h.x ++ h.x.text ++ codes "\n" ++ y_key h.y ++ h.y.text ++ codes "\ncellsize " ++ h.size
    ++ codes "\nNODATA_value " ++ signed_decimal null_number ++ codes "\n"

-- the header, and a line for each row
unfoldable pub grid_text : Header → Size → Cells → List ℕ
grid_text h s cells = header_text h s ++ rows_text s cells
