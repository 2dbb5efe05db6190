-- What is written of layers: signs, a legend, a table of two layers, stamps.
use Rattle.std.specs.Prelude.{ℕ, ◌*◌, ℤ, List, [], ◌∷◌, ◌++◌, map, flat_map, take, drop, length, Option, Some, None, codes, decimal}
use Rattle.std.specs.List.{range_with_len}
use Rattle.map_nums.specs.Grids.{Size, Cells, Grid}
use Rattle.map_nums.specs.Tiles.{tiles_down, tiles_across}
use Rattle.map_defs.specs.Ops.{Name}
use Rattle.map_defs.specs.Kinds.{Pair, kinds_of, how_many, pairs_of}
use Rattle.statement_parser.specs.Canonical.{cell_text}
use Rattle.grid_text.specs.Printed.{spaced}
use Rattle.map_edits.specs.Marks.{Mark, find_mark}
use Rattle.map_machine.specs.Causes.{counted, counted_twice}
use Rattle.map_machine.specs.Signs.{sign_of}

-- row r of so many columns, counted from 0
abbrev pub row_in : {A : Type 0} → ℕ → List A → ℕ → List A
row_in columns all r = take columns (drop (r * columns) all)

-- a line of signs for each row
abbrev pub show_reply : Name → Grid → List Mark → List ℕ
show_reply n grid symbols =
    counted_twice (codes "show " ++ n) grid.size.rows grid.size.columns ++ codes "\n"
    ++ flat_map (λ r. map (sign_of symbols n) (row_in grid.size.columns grid.cells r) ++ codes "\n") (range_with_len 0 grid.size.rows)

-- a space and the label, where there is one
abbrev pub label_tail : Option (List ℕ) → List ℕ
label_tail None = []
label_tail (Some text) = codes " " ++ text

abbrev pub label_of : List Mark → Name → Option ℤ → Option (List ℕ)
label_of labels n None = None
label_of labels n (Some z) = find_mark labels n z

abbrev pub kind_line : Name → Cells → List Mark → List Mark → Option ℤ → List ℕ
kind_line n cells labels symbols c = counted (cell_text c) (how_many cells c) ++ codes " " ++ sign_of symbols n c ∷ [] ++ label_tail (label_of labels n c) ++ codes "\n"

-- a line for each different cell
abbrev pub legend_reply : Name → Cells → List Mark → List Mark → List ℕ
legend_reply n cells labels symbols = counted (codes "legend " ++ n) (length (kinds_of cells)) ++ codes "\n" ++ flat_map (kind_line n cells labels symbols) (kinds_of cells)

abbrev pub pair_line : Pair → List ℕ
pair_line p = counted (cell_text p.zone ++ codes " " ++ cell_text p.value) p.count ++ codes "\n"

-- a line for each pair that occurs
abbrev pub table_reply : Name → Name → Cells → Cells → List ℕ
table_reply zones values z v = counted (codes "table " ++ zones ++ codes " " ++ values) (length (pairs_of z v)) ++ codes "\n" ++ flat_map pair_line (pairs_of z v)

-- a line for each row of tiles
abbrev pub stamps_reply : Name → Size → List ℕ → List ℕ
stamps_reply n size stamps =
    counted_twice (codes "stamps " ++ n) (tiles_down size) (tiles_across size) ++ codes "\n"
    ++ flat_map (λ r. spaced (map decimal (row_in (tiles_across size) stamps r)) ++ codes "\n") (range_with_len 0 (tiles_down size))
