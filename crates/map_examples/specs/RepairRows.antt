-- Costs, flow, regions, sight and zones, and what is repaired of them.
use Rattle.std.specs.Prelude.{[], ◌∷◌, ◌++◌, codes}
use Rattle.map_machine.specs.Openings.{goes_on}
use Rattle.map_examples.specs.Runs.{loading, A, F, S, V, map_of, grid_of, ok, Comes}

pub record RepairRows : Type 0 where
  pub proximity_two_by_two : Comes (loading (S (map_of 2 2 (codes "1 -9999\n-9999 -9999\n")) ∷ []) (codes "D = FocalProximity of S\ngrid D\n")) (ok 1 1 1 0 ++ ok 2 1 1 8 ++ grid_of 2 2 (codes "0 10\n10 14\n")) goes_on 192 8000
  pub spread_friction_rises : Comes (loading (S (map_of 1 5 (codes "1 -9999 -9999 -9999 -9999\n")) ∷ F (map_of 1 5 (codes "1 1 1 1 1\n")) ∷ []) (codes "D = FocalProximity of S spreading in F\ngrid D\npaint F 1 3 1 3 5\ngrid D\n")) (ok 1 1 1 0 ++ ok 2 1 1 0 ++ ok 3 1 1 10 ++ grid_of 1 5 (codes "0 10 20 30 40\n") ++ ok 4 2 2 4 ++ grid_of 1 5 (codes "0 10 40 70 80\n")) goes_on 448 14000
  pub spread_friction_falls : Comes (loading (S (map_of 1 5 (codes "1 -9999 -9999 -9999 -9999\n")) ∷ F (map_of 1 5 (codes "1 1 1 1 1\n")) ∷ []) (codes "D = FocalProximity of S spreading in F\nE = LocalSum of S and 0\npaint F 1 3 1 3 5\npaint F 1 3 1 3 1\ngrid D\nstamps E\n")) (ok 1 1 1 0 ++ ok 2 1 1 0 ++ ok 3 1 1 10 ++ ok 4 1 1 0 ++ ok 5 2 2 4 ++ ok 6 2 2 4 ++ grid_of 1 5 (codes "0 10 20 30 40\n") ++ codes "stamps E 1 1\n4\n") goes_on 576 18000
  pub spread_frictions_rise_and_fall : Comes (loading (S (map_of 1 5 (codes "1 -9999 -9999 -9999 -9999\n")) ∷ F (map_of 1 5 (codes "1 1 1 1 1\n")) ∷ []) (codes "D = FocalProximity of S spreading in F\npaint F 1 2 1 4 2\ngrid D\npaint F 1 2 1 4 1\ngrid D\n")) (ok 1 1 1 0 ++ ok 2 1 1 0 ++ ok 3 1 1 10 ++ ok 4 2 2 7 ++ grid_of 1 5 (codes "0 15 35 55 70\n") ++ ok 5 2 2 7 ++ grid_of 1 5 (codes "0 10 20 30 40\n")) goes_on 576 24000
  pub spread_around_and_through : Comes (loading (S (map_of 3 3 (codes "1 -9999 -9999\n-9999 -9999 -9999\n-9999 -9999 -9999\n")) ∷ F (map_of 3 3 (codes "1 1 1\n1 5 1\n1 1 1\n")) ∷ []) (codes "D = FocalProximity of S spreading in F\ngrid D\npaint F 2 2 2 2 1\ngrid D\n")) (ok 1 1 1 0 ++ ok 2 1 1 0 ++ ok 3 1 1 18 ++ grid_of 3 3 (codes "0 10 20\n10 40 24\n20 24 34\n") ++ ok 4 2 2 3 ++ grid_of 3 3 (codes "0 10 20\n10 14 24\n20 24 28\n")) goes_on 448 21000
  pub spread_barrier_nought_and_limit : Comes (loading (S (map_of 1 5 (codes "1 -9999 -9999 1 -9999\n")) ∷ F (map_of 1 5 (codes "1 1 1 0 1\n")) ∷ []) (codes "D = FocalProximity of S spreading in F within 20\ngrid D\nD = FocalProximity of S spreading in F within 19\ngrid D\n")) (ok 1 1 1 0 ++ ok 2 1 1 0 ++ ok 3 1 1 8 ++ grid_of 1 5 (codes "0 10 20 -1000000000000001 -1000000000000001\n") ++ ok 4 1 1 7 ++ grid_of 1 5 (codes "0 10 -1000000000000001 -1000000000000001 -1000000000000001\n")) goes_on 384 15000
  pub spread_barrier_null_and_limit : Comes (loading (S (map_of 1 5 (codes "1 -9999 -9999 1 -9999\n")) ∷ F (map_of 1 5 (codes "1 1 1 -9999 1\n")) ∷ []) (codes "D = FocalProximity of S spreading in F within 20\ngrid D\nD = FocalProximity of S spreading in F within 19\ngrid D\n")) (ok 1 1 1 0 ++ ok 2 1 1 0 ++ ok 3 1 1 8 ++ grid_of 1 5 (codes "0 10 20 -1000000000000001 -1000000000000001\n") ++ ok 4 1 1 7 ++ grid_of 1 5 (codes "0 10 -1000000000000001 -1000000000000001 -1000000000000001\n")) goes_on 384 15000
  pub drainage_and_flow : Comes (loading (A (map_of 3 3 (codes "9 4 9\n9 5 4\n9 9 9\n")) ∷ []) (codes "D = IncrementalDrainage of A\ngrid D\nW = IncrementalDrainage of A carrying 1\ngrid W\n")) (ok 1 1 1 0 ++ ok 2 1 1 0 ++ grid_of 3 3 (codes "3 0 5\n3 1 0\n2 1 1\n") ++ ok 3 1 1 18 ++ grid_of 3 3 (codes "1 6 1\n1 4 3\n1 1 1\n")) goes_on 320 18000
  pub drainage_of_a_plain : Comes (loading (A (map_of 3 3 (codes "5 5 5\n5 5 5\n5 5 5\n")) ∷ []) (codes "D = IncrementalDrainage of A\ngrid D\nW = IncrementalDrainage of A carrying 1\ngrid W\n")) (ok 1 1 1 0 ++ ok 2 1 1 0 ++ grid_of 3 3 (codes "0 0 0\n0 0 0\n0 0 0\n") ++ ok 3 1 1 18 ++ grid_of 3 3 (codes "1 1 1\n1 1 1\n1 1 1\n")) goes_on 320 18000
  pub flow_repaired : Comes (loading (A (map_of 3 3 (codes "9 4 9\n9 5 4\n9 9 9\n")) ∷ []) (codes "D = IncrementalDrainage of A\nW = IncrementalDrainage of A carrying 1\npaint A 2 2 2 2 9\ngrid W\ngrid D\n")) (ok 1 1 1 0 ++ ok 2 1 1 0 ++ ok 3 1 1 18 ++ ok 4 3 3 4 ++ grid_of 3 3 (codes "1 4 1\n1 1 4\n1 1 1\n") ++ grid_of 3 3 (codes "3 0 5\n2 1 0\n0 2 1\n")) goes_on 512 22000
  pub region_splits : Comes (loading (A (map_of 1 5 (codes "7 7 7 7 7\n")) ∷ []) (codes "L = FocalInsularity of A\ngrid L\npaint A 1 3 1 3 8\ngrid L\n")) (ok 1 1 1 0 ++ ok 2 1 1 10 ++ grid_of 1 5 (codes "1 1 1 1 1\n") ++ ok 3 2 2 6 ++ grid_of 1 5 (codes "1 1 3 4 4\n")) goes_on 384 16000
  pub sight_over_a_ridge : Comes (loading (V (map_of 1 5 (codes "1 -9999 -9999 -9999 -9999\n")) ∷ S (map_of 1 5 (codes "0 1 2 0 0\n")) ∷ []) (codes "W = FocalSum of V radiating on S\ngrid W\npaint S 1 2 1 2 2\ngrid W\n")) (ok 1 1 1 0 ++ ok 2 1 1 0 ++ ok 3 1 1 0 ++ grid_of 1 5 (codes "1 1 1 -1000000000000001 -1000000000000001\n") ++ ok 4 2 2 0 ++ grid_of 1 5 (codes "1 1 -1000000000000001 -1000000000000001 -1000000000000001\n")) goes_on 448 0
  pub zonal_mean_with_nulls : Comes (loading (A (map_of 1 4 (codes "2 -9999 4 -9999\n")) ∷ []) (codes "M = ZonalMean of A within 1\ngrid M\nM = ZonalMean of A within A\ngrid M\n")) (ok 1 1 1 0 ++ ok 2 1 1 0 ++ grid_of 1 4 (codes "3 3 3 3\n") ++ ok 3 1 1 0 ++ grid_of 1 4 (codes "2 -1000000000000001 4 -1000000000000001\n")) goes_on 320 0
