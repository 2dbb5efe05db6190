-- Operations on the smallest map, on a null, and on small maps.
use Rattle.std.specs.Prelude.{[], ◌∷◌, ◌++◌, codes}
use Rattle.map_machine.specs.Openings.{goes_on}
use Rattle.map_examples.specs.Runs.{loading, A, map_of, grid_of, ok, Comes}

pub record OperationRows : Type 0 where
  pub smallest_extent_focal_sum : Comes (loading (A (map_of 1 1 (codes "7\n")) ∷ []) (codes "X = FocalSum of A\nvalue X 1 1\n")) (ok 1 1 1 0 ++ ok 2 1 1 0 ++ codes "value X 1 1 7\n") goes_on 129 1
  pub smallest_extent_zonal_sum : Comes (loading (A (map_of 1 1 (codes "7\n")) ∷ []) (codes "X = ZonalSum of A within A\nvalue X 1 1\n")) (ok 1 1 1 0 ++ ok 2 1 1 0 ++ codes "value X 1 1 7\n") goes_on 129 1
  pub smallest_extent_local_variety : Comes (loading (A (map_of 1 1 (codes "7\n")) ∷ []) (codes "X = LocalVariety of A and 7\nvalue X 1 1\n")) (ok 1 1 1 0 ++ ok 2 1 1 0 ++ codes "value X 1 1 1\n") goes_on 129 1
  pub smallest_extent_linkage : Comes (loading (A (map_of 1 1 (codes "7\n")) ∷ []) (codes "X = IncrementalLinkage of A\nvalue X 1 1\n")) (ok 1 1 1 0 ++ ok 2 1 1 0 ++ codes "value X 1 1 0\n") goes_on 129 1
  pub smallest_extent_length : Comes (loading (A (map_of 1 1 (codes "7\n")) ∷ []) (codes "X = IncrementalLength of A\nvalue X 1 1\n")) (ok 1 1 1 0 ++ ok 2 1 1 0 ++ codes "value X 1 1 0\n") goes_on 129 1
  pub smallest_extent_partition : Comes (loading (A (map_of 1 1 (codes "7\n")) ∷ []) (codes "X = IncrementalPartition of A\nvalue X 1 1\n")) (ok 1 1 1 0 ++ ok 2 1 1 0 ++ codes "value X 1 1 15\n") goes_on 129 1
  pub smallest_extent_frontage : Comes (loading (A (map_of 1 1 (codes "7\n")) ∷ []) (codes "X = IncrementalFrontage of A\nvalue X 1 1\n")) (ok 1 1 1 0 ++ ok 2 1 1 0 ++ codes "value X 1 1 40\n") goes_on 129 1
  pub smallest_extent_gradient : Comes (loading (A (map_of 1 1 (codes "7\n")) ∷ []) (codes "X = IncrementalGradient of A\nvalue X 1 1\n")) (ok 1 1 1 0 ++ ok 2 1 1 0 ++ codes "value X 1 1 0\n") goes_on 129 1
  pub smallest_extent_aspect : Comes (loading (A (map_of 1 1 (codes "7\n")) ∷ []) (codes "X = IncrementalAspect of A\nvalue X 1 1\n")) (ok 1 1 1 0 ++ ok 2 1 1 0 ++ codes "value X 1 1 0\n") goes_on 129 1
  pub smallest_extent_drainage : Comes (loading (A (map_of 1 1 (codes "7\n")) ∷ []) (codes "X = IncrementalDrainage of A\nvalue X 1 1\n")) (ok 1 1 1 0 ++ ok 2 1 1 0 ++ codes "value X 1 1 0\n") goes_on 129 1
  pub smallest_extent_flow : Comes (loading (A (map_of 1 1 (codes "7\n")) ∷ []) (codes "X = IncrementalDrainage of A carrying 1\nvalue X 1 1\n")) (ok 1 1 1 0 ++ ok 2 1 1 2 ++ codes "value X 1 1 1\n") goes_on 129 2001
  pub smallest_extent_proximity : Comes (loading (A (map_of 1 1 (codes "7\n")) ∷ []) (codes "X = FocalProximity of A\nvalue X 1 1\n")) (ok 1 1 1 0 ++ ok 2 1 1 2 ++ codes "value X 1 1 0\n") goes_on 129 2001
  pub smallest_extent_insularity : Comes (loading (A (map_of 1 1 (codes "7\n")) ∷ []) (codes "X = FocalInsularity of A\nvalue X 1 1\n")) (ok 1 1 1 0 ++ ok 2 1 1 2 ++ codes "value X 1 1 1\n") goes_on 129 2001
  pub null_gives_null_focal_sum : Comes (loading (A (map_of 1 1 (codes "-9999\n")) ∷ []) (codes "X = FocalSum of A\nvalue X 1 1\n")) (ok 1 1 1 0 ++ ok 2 1 1 0 ++ codes "value X 1 1 null\n") goes_on 129 1
  pub null_gives_null_linkage : Comes (loading (A (map_of 1 1 (codes "-9999\n")) ∷ []) (codes "X = IncrementalLinkage of A\nvalue X 1 1\n")) (ok 1 1 1 0 ++ ok 2 1 1 0 ++ codes "value X 1 1 null\n") goes_on 129 1
  pub null_gives_null_length : Comes (loading (A (map_of 1 1 (codes "-9999\n")) ∷ []) (codes "X = IncrementalLength of A\nvalue X 1 1\n")) (ok 1 1 1 0 ++ ok 2 1 1 0 ++ codes "value X 1 1 null\n") goes_on 129 1
  pub null_gives_null_partition : Comes (loading (A (map_of 1 1 (codes "-9999\n")) ∷ []) (codes "X = IncrementalPartition of A\nvalue X 1 1\n")) (ok 1 1 1 0 ++ ok 2 1 1 0 ++ codes "value X 1 1 null\n") goes_on 129 1
  pub null_gives_null_frontage : Comes (loading (A (map_of 1 1 (codes "-9999\n")) ∷ []) (codes "X = IncrementalFrontage of A\nvalue X 1 1\n")) (ok 1 1 1 0 ++ ok 2 1 1 0 ++ codes "value X 1 1 null\n") goes_on 129 1
  pub null_gives_null_gradient : Comes (loading (A (map_of 1 1 (codes "-9999\n")) ∷ []) (codes "X = IncrementalGradient of A\nvalue X 1 1\n")) (ok 1 1 1 0 ++ ok 2 1 1 0 ++ codes "value X 1 1 null\n") goes_on 129 1
  pub null_gives_null_aspect : Comes (loading (A (map_of 1 1 (codes "-9999\n")) ∷ []) (codes "X = IncrementalAspect of A\nvalue X 1 1\n")) (ok 1 1 1 0 ++ ok 2 1 1 0 ++ codes "value X 1 1 null\n") goes_on 129 1
  pub forms_of_a_line : Comes (loading (A (map_of 3 3 (codes "1 1 2\n2 1 2\n2 2 1\n")) ∷ []) (codes "B = IncrementalLinkage of A\nvalue B 2 2\nC = IncrementalLength of A\nvalue C 2 2\nD = IncrementalPartition of A\nvalue D 2 2\nE = IncrementalFrontage of A\nvalue E 2 2\n")) (ok 1 1 1 0 ++ ok 2 1 1 0 ++ codes "value B 2 2 137\n" ++ ok 3 1 1 0 ++ codes "value C 2 2 19\n" ++ ok 4 1 1 0 ++ codes "value D 2 2 14\n" ++ ok 5 1 1 0 ++ codes "value E 2 2 30\n") goes_on 324 4
  pub forms_of_a_slope : Comes (loading (A (map_of 3 3 (codes "1 2 3\n4 5 6\n7 8 9\n")) ∷ []) (codes "G = IncrementalGradient of A\nvalue G 2 2\nH = IncrementalAspect of A\nvalue H 2 2\nR = LocalRating of A with 9 for 1 to 3 with null for 5\ngrid R\n")) (ok 1 1 1 0 ++ ok 2 1 1 0 ++ codes "value G 2 2 25\n" ++ ok 3 1 1 0 ++ codes "value H 2 2 1\n" ++ ok 4 1 1 0 ++ grid_of 3 3 (codes "9 9 9\n4 -1000000000000001 6\n7 8 9\n")) goes_on 322 2
  pub ties_and_floors : Comes (loading (A (map_of 1 3 (codes "-3 -4 5\n")) ∷ []) (codes "B = FocalMajority of A\ngrid B\nC = LocalMean of A and -4\ngrid C\nD = LocalRatio of A and 2\ngrid D\nE = LocalRatio of A and 0\ngrid E\nF = LocalMedian of A and 0\ngrid F\n")) (ok 1 1 1 0 ++ ok 2 1 1 0 ++ grid_of 1 3 (codes "-4 -4 -4\n") ++ ok 3 1 1 0 ++ grid_of 1 3 (codes "-4 -4 0\n") ++ ok 4 1 1 0 ++ grid_of 1 3 (codes "-2 -2 2\n") ++ ok 5 1 1 0 ++ grid_of 1 3 (codes "-1000000000000001 -1000000000000001 -1000000000000001\n") ++ ok 6 1 1 0 ++ grid_of 1 3 (codes "-3 -4 0\n")) goes_on 704 0
