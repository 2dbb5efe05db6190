-- Grids that are loaded, and files that are refused.
use Rattle.std.specs.Prelude.{[], ◌∷◌, ◌++◌, codes}
use Rattle.map_machine.specs.Openings.{goes_on, turned_back}
use Rattle.map_examples.specs.Runs.{loading, A, B, map_of, grid_of, ok, Comes}

pub record LoadRows : Type 0 where
  pub sum_of_three_by_three : Comes (loading (A (map_of 3 3 (codes "1 2 3\n4 5 6\n7 8 9\n")) ∷ []) (codes "B = LocalSum of A and 3\ngrid B\n")) (ok 1 1 1 0 ++ ok 2 1 1 0 ++ grid_of 3 3 (codes "4 5 6\n7 8 9\n10 11 12\n")) goes_on 192 0
  pub upper_case_keys_and_cr_lf : Comes (loading (A (codes "NCOLS        2\r\nNROWS        2\r\nXLLCORNER    100.5\r\nYLLCORNER    -20.000000000000\r\nCELLSIZE     60.000000000000\r\n 1 2\r\n -9999 4\r\n") ∷ []) (codes "grid A\n")) (ok 1 1 1 0 ++ codes "ncols 2\nnrows 2\nxllcorner 100.5\nyllcorner -20.000000000000\ncellsize 60.000000000000\nNODATA_value -1000000000000001\n1 2\n-1000000000000001 4\n") goes_on 128 0
  pub greatest_value_loads : Comes (loading (A (map_of 1 1 (codes "1000000000000000\n")) ∷ []) []) (ok 1 1 1 0) goes_on 64 0
  pub least_value_loads : Comes (loading (A (map_of 1 1 (codes "-1000000000000000\n")) ∷ []) []) (ok 1 1 1 0) goes_on 64 0
  pub point_nought_loads : Comes (loading (A (map_of 1 1 (codes "7.0\n")) ∷ []) []) (ok 1 1 1 0) goes_on 64 0
  pub above_the_greatest_is_out_of_range : Comes (loading (A (map_of 1 1 (codes "1000000000000001\n")) ∷ []) []) (codes "refused load A range 1\n") turned_back 0 0
  pub point_five_is_no_cell : Comes (loading (A (map_of 1 1 (codes "7.5\n")) ∷ []) []) (codes "refused load A cell 1\n") turned_back 0 0
  pub header_number_is_a_letter : Comes (loading (A (codes "ncols x\n") ∷ []) []) (codes "refused load A number 7\n") turned_back 0 0
  pub header_with_dx : Comes (loading (A (codes "ncols 1\nnrows 1\nxllcorner 0\nyllcorner 0\ndx 1\n") ∷ []) []) (codes "refused load A key 41\n") turned_back 0 0
  pub header_without_cellsize : Comes (loading (A (codes "ncols 1\nnrows 1\nxllcorner 0\nyllcorner 0\n5\n") ∷ []) []) (codes "refused load A key 41\n") turned_back 0 0
  pub header_without_columns : Comes (loading (A (map_of 1 0 (codes "7\n")) ∷ []) []) (codes "refused load A limits 1 0\n") turned_back 0 0
  pub too_few_cells : Comes (loading (A (map_of 2 2 (codes "1 2 3\n")) ∷ []) []) (codes "refused load A few 3 4\n") turned_back 0 0
  pub too_many_cells : Comes (loading (A (map_of 2 2 (codes "1 2 3 4 5\n")) ∷ []) []) (codes "refused load A more 60\n") turned_back 0 0
  pub second_grid_of_another_size : Comes (loading (A (map_of 3 3 (codes "1 2 3\n4 5 6\n7 8 9\n")) ∷ B (map_of 1 1 (codes "7\n")) ∷ []) []) (ok 1 1 1 0 ++ codes "refused load B size 3 3\n") turned_back 64 0
