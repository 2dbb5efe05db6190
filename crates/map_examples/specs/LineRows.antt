-- Lines that are refused, names that are missing, and model files.
use Rattle.std.specs.Prelude.{[], ◌∷◌, ◌++◌, codes}
use Rattle.map_machine.specs.Openings.{goes_on, turned_back}
use Rattle.map_examples.specs.Runs.{loading, with_model, A, B, map_of, grid_of, ok, Comes}

pub record LineRows : Type 0 where
  pub refused_lines : Comes (loading (A (map_of 3 3 (codes "1 2 3\n4 5 6\n7 8 9\n")) ∷ []) (codes "B = LocalSum of A and 3\nfoo\nC = LocalSun of A and 1\nC = LocalSum of A and\nnew of 1\npaint A 0 1 1 1 1\npaint Z 1 1 1 1 1\npaint B 1 1 1 1 1\npaint A 1 1 4 1 0\nA = LocalSum of B and 1\nnew B 1\n\n# note\n")) (ok 1 1 1 0 ++ ok 2 1 1 0 ++ codes "refused syntax 4\nrefused operation 5\nrefused syntax 22\nrefused syntax 5\nrefused number 9\nrefused unknown Z\nrefused derived B\nrefused size 3 3\nrefused exists A\nrefused exists B\n") goes_on 128 0
  pub new_with_number_out_of_range : Comes (loading (A (map_of 1 1 (codes "7.0\n")) ∷ []) (codes "new C 1000000000000001\n")) (ok 1 1 1 0 ++ codes "refused number 7\n") goes_on 64 0
  pub displays_refused : Comes (loading (A (map_of 3 3 (codes "1 2 3\n4 5 6\n7 8 9\n")) ∷ []) (codes "label Z 1 x\nsymbol A 1 ab\nlegend Q\n")) (ok 1 1 1 0 ++ codes "refused unknown Z\nrefused syntax 13\nundefined Q: Q\n") goes_on 64 0
  pub cycle_through_two_statements : Comes (loading (record { name = codes "S"; file = codes "a"; bytes = map_of 1 1 (codes "7\n") } ∷ []) (codes "A = LocalSum of B and 1\nB = LocalSum of A and 1\nB = LocalSum of B and 1\nlist\n")) (ok 1 1 1 0 ++ ok 2 0 0 0 ++ codes "refused cycle B\nrefused cycle B\nlist 2\nsource S\nA = LocalSum of B and 1\n") goes_on 64 0
  pub missing_existing_unknown : Comes (loading (A (map_of 3 3 (codes "1 2 3\n4 5 6\n7 8 9\n")) ∷ []) (codes "C = LocalSum of A and Q\nvalue C 1 1\nA = LocalSum of A and 1\ndrop Q\n")) (ok 1 1 1 0 ++ ok 2 0 0 0 ++ codes "undefined C: Q\nrefused exists A\nrefused unknown Q\n") goes_on 64 0
  pub statement_before_its_operand_with_stamps : Comes (loading (A (map_of 1 1 (codes "7\n")) ∷ []) (codes "B = LocalSum of C and 1\ngrid B\nnew C 1\nvalue B 1 1\ndrop C\nvalue B 1 1\nvalue C 1 1\nnew C 1\nstamps B\nvalue B 2 1\n")) (ok 1 1 1 0 ++ ok 2 0 0 0 ++ codes "undefined B: C\n" ++ ok 3 2 2 0 ++ codes "value B 1 1 2\n" ++ ok 4 0 0 0 ++ codes "undefined B: C\nundefined C: C\n" ++ ok 5 2 2 0 ++ codes "stamps B 1 1\n5\nvalue B 2 1 outside\n") goes_on 322 2
  pub change_that_stops : Comes (loading (A (map_of 3 3 (codes "1 2 3\n4 5 6\n7 8 9\n")) ∷ []) (codes "B = LocalMaximum of A and 9\npaint A 1 1 1 1 5\nstamps A\nstamps B\n")) (ok 1 1 1 0 ++ ok 2 1 1 0 ++ ok 3 1 2 0 ++ codes "stamps A 1 1\n3\nstamps B 1 1\n2\n") goes_on 256 0
  pub overflow_found_late : Comes (loading (A (map_of 1 33 (codes "1 1 1 1 1 1 1 1 1 1 1 1 1 1 1 1 1 1 1 1 1 1 1 1 1 1 1 1 1 1 1 1 1\n")) ∷ []) (codes "B = LocalProduct of A and 50000\nC = LocalProduct of B and 500000000\npaint A 1 32 1 33 41\nvalue C 1 32\nvalue A 1 33\npaint A 1 32 1 33 40\nvalue C 1 33\n")) (ok 1 2 2 0 ++ ok 2 2 2 0 ++ ok 3 2 2 0 ++ codes "refused overflow C 1 32\nvalue C 1 32 25000000000000\nvalue A 1 33 1\n" ++ ok 4 6 6 0 ++ codes "value C 1 33 1000000000000000\n") goes_on 1155 3
  pub overflow_in_the_last_wave : Comes (loading (A (map_of 1 33 (codes "1 1 1 1 1 1 1 1 1 1 1 1 1 1 1 1 1 1 1 1 1 1 1 1 1 1 1 1 1 1 1 1 1\n")) ∷ []) (codes "B = LocalProduct of A and 50000\nC = LocalProduct of B and 500000000\nE = LocalSum of C and 1\npaint A 1 32 1 33 40\nvalue C 1 33\n")) (ok 1 2 2 0 ++ ok 2 2 2 0 ++ ok 3 2 2 0 ++ ok 4 2 2 0 ++ codes "refused overflow E 1 32\nvalue C 1 33 25000000000000\n") goes_on 1025 1
  pub model_line_refused : Comes (with_model (codes "B = LocalSum of A and\n") (A (map_of 3 3 (codes "1 2 3\n4 5 6\n7 8 9\n")) ∷ []) []) (ok 1 1 1 0 ++ codes "refused syntax 22\n") turned_back 64 0
  pub model_then_session : Comes (with_model (codes "B = LocalSum of A and 3\n") (A (map_of 3 3 (codes "1 2 3\n4 5 6\n7 8 9\n")) ∷ []) (codes "value B 1 1\n")) (ok 1 1 1 0 ++ ok 2 1 1 0 ++ codes "value B 1 1 4\n") goes_on 129 1
  pub nulls_ignored : Comes (loading (A (map_of 1 3 (codes "1 -9999 3\n")) ∷ B (map_of 1 3 (codes "5 7 -9999\n")) ∷ []) (codes "model 2\nC = LocalSum of A and B ignoring nulls\ngrid C\nD = LocalSum of A and B\ngrid D\nmodel 2\n")) (ok 1 1 1 0 ++ ok 2 1 1 0 ++ ok 3 1 1 0 ++ grid_of 1 3 (codes "6 7 3\n") ++ ok 4 1 1 0 ++ grid_of 1 3 (codes "6 -1000000000000001 -1000000000000001\n") ++ codes "refused syntax 1\n") goes_on 384 0
  pub language_one_refuses_ignoring : Comes (loading (A (map_of 1 3 (codes "1 -9999 3\n")) ∷ B (map_of 1 3 (codes "5 7 -9999\n")) ∷ []) (codes "C = LocalSum of A and B ignoring nulls\nmodel 3\nmodel 2\nC = LocalSum of A and B ignoring nulls\nlist\n")) (ok 1 1 1 0 ++ ok 2 1 1 0 ++ codes "refused syntax 25\nrefused number 7\n" ++ ok 3 1 1 0 ++ codes "list 3\nsource A\nsource B\nC = LocalSum of A and B ignoring nulls\n") goes_on 192 0
  pub language_closed_by_an_edit : Comes (loading (A (map_of 1 3 (codes "1 -9999 3\n")) ∷ B (map_of 1 3 (codes "5 7 -9999\n")) ∷ []) (codes "C = LocalSum of A and 1\nmodel 2\nC = LocalSum of A and B ignoring nulls\n")) (ok 1 1 1 0 ++ ok 2 1 1 0 ++ ok 3 1 1 0 ++ codes "refused syntax 1\nrefused syntax 25\n") goes_on 192 0
  pub language_of_a_model_file : Comes (with_model (codes "model 2\n") (A (map_of 1 3 (codes "1 -9999 3\n")) ∷ B (map_of 1 3 (codes "5 7 -9999\n")) ∷ []) (codes "model 1\nC = LocalSum of A and B ignoring nulls\n")) (ok 1 1 1 0 ++ ok 2 1 1 0 ++ codes "refused syntax 1\n" ++ ok 3 1 1 0) goes_on 192 0
