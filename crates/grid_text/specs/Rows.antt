-- Worked texts.
use Rattle.std.specs.Prelude.{◌≡◌, ℕ, false, true, pos, negsuc, List, [], ◌∷◌, ◌++◌, map, Some, None, Ok, Err, codes}
use Rattle.map_nums.specs.Grids.{Size, Cells}
use Rattle.grid_text.specs.Contents.{grid_in}
use Rattle.grid_text.specs.Faults.{Fault, key, number, limits, few, more, cell, range}
use Rattle.grid_text.specs.declared.Corner.{Corner}
use Rattle.grid_text.specs.declared.Header.{Header}

abbrev pub corner : List ℕ → Corner
corner text = record { center = false; text = text }

abbrev pub center : List ℕ → Corner
center text = record { center = true; text = text }

abbrev pub by : ℕ → ℕ → Size
by rows columns = record { rows = rows; columns = columns }

abbrev pub numbers : List ℕ → Cells
numbers ns = map (λ n. Some (pos n)) ns

-- the text of a header with corners at 0 and cells of 1
abbrev pub plain : List ℕ → List ℕ → List ℕ
plain rows columns = codes "ncols " ++ columns ++ codes "\nnrows " ++ rows ++ codes "\nxllcorner 0\nyllcorner 0\ncellsize 1\n"

abbrev pub plain_header : Header
plain_header = record { x = corner (codes "0"); y = corner (codes "0"); size = codes "1" }

abbrev pub Is : List ℕ → Header → Size → Cells → Type 0
Is text h s cells = grid_in text ≡ Ok (record { header = h; grid = record { size = s; cells = cells } })

abbrev pub IsRefused : List ℕ → Fault → Type 0
IsRefused text fault = grid_in text ≡ Err fault

pub record Rows : Type 0 where
  pub nine : Is (plain (codes "3") (codes "3") ++ codes "1 2 3\n4 5 6\n7 8 9\n") plain_header (by 3 3) (numbers (1 ∷ 2 ∷ 3 ∷ 4 ∷ 5 ∷ 6 ∷ 7 ∷ 8 ∷ 9 ∷ []))
  -- upper case, padding and line ends of two bytes
  pub padded : Is (codes "NCOLS        2\r\nNROWS        2\r\nXLLCORNER    100.5\r\nYLLCORNER    -20.000000000000\r\nCELLSIZE     60.000000000000\r\n 1 2\r\n -9999 4\r\n")
      (record { x = corner (codes "100.5"); y = corner (codes "-20.000000000000"); size = codes "60.000000000000" }) (by 2 2) (Some (pos 1) ∷ Some (pos 2) ∷ None ∷ Some (pos 4) ∷ [])
  -- centers, any order, and a number for null that no cell can hold
  pub any_order : Is (codes "NODATA_value -3000000000000000 cellsize 1e3 yllcenter .5\tXLLCENTER +5.\nnrows 1. ncols +02 -3000000000000000.0 -9999")
      (record { x = center (codes "+5."); y = center (codes ".5"); size = codes "1e3" }) (by 1 2) (None ∷ Some (negsuc 9998) ∷ [])
  pub three_cells : IsRefused (plain (codes "2") (codes "2") ++ codes "1 2 3\n") (few 3 4)
  pub five_cells : IsRefused (plain (codes "2") (codes "2") ++ codes "1 2 3 4 5\n") (more 60)
  pub greatest : Is (plain (codes "1") (codes "1") ++ codes "1000000000000000\n") plain_header (by 1 1) (numbers (1000000000000000 ∷ []))
  pub least : Is (plain (codes "1") (codes "1") ++ codes "-1000000000000000\n") plain_header (by 1 1) (Some (negsuc 999999999999999) ∷ [])
  pub zeros : Is (plain (codes "1") (codes "1") ++ codes "7.0\n") plain_header (by 1 1) (numbers (7 ∷ []))
  pub above : IsRefused (plain (codes "1") (codes "1") ++ codes "1000000000000001\n") (range 1)
  pub broken : IsRefused (plain (codes "1") (codes "1") ++ codes "7.5\n") (cell 1)
  pub nineteen_digits : IsRefused (plain (codes "1") (codes "2") ++ codes "7 1000000000000000000") (range 2)
  pub no_size : IsRefused (codes "ncols 1\nnrows 1\nxllcorner 0\nyllcorner 0\n5\n") (key 41)
  pub no_key : IsRefused (codes "ncols 1\nnrows 1\nxllcorner 0\nyllcorner 0\ndx 1\n") (key 41)
  pub no_number : IsRefused (codes "ncols x\n") (number 7)
  pub no_columns : IsRefused (plain (codes "1") (codes "0")) (limits 1 0)
  pub less_than_none : IsRefused (plain (codes "-1") (codes "1")) (number 15)
  pub minus_zero : IsRefused (plain (codes "-0") (codes "1")) (limits 0 1)
  pub too_large : IsRefused (plain (codes "367") (codes "4096")) (limits 367 4096)
  pub second_key : IsRefused (codes "ncols 1 xllcorner 0 xllcenter 0") (key 21)
  pub key_for_value : IsRefused (codes "ncols nrows 3") (number 7)
  pub no_value : IsRefused (codes "ncols 1 nrows ") (number 15)
  pub nothing : IsRefused [] (key 1)
  pub long_decimal : IsRefused (codes "cellsize 0.000000000000000000000000000000000000001") (number 10)
  pub exponent : IsRefused (codes "cellsize 1e") (number 10)
  pub point : IsRefused (codes "cellsize .") (number 10)
  pub long_number : IsRefused (codes "ncols 1000000000000000000") (number 7)
