-- Branches that are tried on the state that stands.
use Rattle.std.specs.Prelude.{[], ◌∷◌, ◌++◌, codes}
use Rattle.map_machine.specs.Openings.{goes_on}
use Rattle.map_examples.specs.Runs.{loading, with_model, A, map_of, ok, Comes}

pub record BranchRows : Type 0 where
  pub two_branches : Comes (loading (A (map_of 3 3 (codes "1 2 3\n4 5 6\n7 8 9\n")) ∷ []) (codes "B = LocalSum of A and 3\nbranch paint A 1 1 1 1 5; value B 1 1 branch C = LocalSum of B and B; value C 3 3; drop Z end\nvalue B 1 1\nvalue C 3 3\n")) (ok 1 1 1 0 ++ ok 2 1 1 0 ++ codes "branch 1\n" ++ ok 3 2 2 0 ++ codes "value B 1 1 8\nbranch 2\n" ++ ok 3 1 1 0 ++ codes "value C 3 3 24\nrefused unknown Z\nvalue B 1 1 4\nundefined C: C\n") goes_on 323 3
  -- each begins from the same state, and numbers its edits on from it
  pub from_one_state : Comes (loading (A (map_of 1 1 (codes "7\n")) ∷ []) (codes "branch new B 1; new B 2; drop B; value A 1 1 branch new B 2; value B 1 1; value B 2 1; value C 1 1 end\n")) (ok 1 1 1 0 ++ codes "branch 1\n" ++ ok 2 1 1 0 ++ codes "refused exists B\n" ++ ok 3 0 0 0 ++ codes "value A 1 1 7\nbranch 2\n" ++ ok 2 1 1 0 ++ codes "value B 1 1 2\nvalue B 2 1 outside\nundefined C: C\n") goes_on 195 3
  -- nothing is kept of them: there is no edit to take back, and the language may still be set
  pub left_alone : Comes (loading (A (map_of 1 1 (codes "7\n")) ∷ []) (codes "branch drop A end\nundo\nmodel 2\nlist\n")) (ok 1 1 1 0 ++ codes "branch 1\n" ++ ok 2 0 0 0 ++ codes "refused nothing\nlist 1\nsource A\n") goes_on 64 0
  -- a refused item refuses no line of a model file
  pub model_file : Comes (with_model (codes "branch drop Z end\n") (A (map_of 1 1 (codes "7\n")) ∷ []) (codes "list\n")) (ok 1 1 1 0 ++ codes "branch 1\nrefused unknown Z\nlist 1\nsource A\n") goes_on 64 0
  pub refused : Comes (loading (A (map_of 1 1 (codes "7\n")) ∷ []) (codes "branch end\nbranch value A 1 1\nbranch X = end\nbranch undo end\n")) (ok 1 1 1 0 ++ codes "refused syntax 8\nrefused syntax 19\nrefused operation 12\nrefused syntax 8\n") goes_on 64 0
