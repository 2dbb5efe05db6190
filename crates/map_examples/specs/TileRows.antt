-- Maps of several tiles.
use Rattle.std.specs.Prelude.{[], ◌∷◌, ◌++◌, codes}
use Rattle.map_machine.specs.Openings.{goes_on}
use Rattle.map_examples.specs.Runs.{loading, S, Z, map_of, ok, Comes}

pub record TileRows : Type 0 where
  pub cell_changes_its_zone : Comes (loading (Z (map_of 1 65 (codes "1 1 1 1 1 1 1 1 1 1 1 1 1 1 1 1 1 1 1 1 1 1 1 1 1 1 1 1 1 1 1 1 2 2 2 2 2 2 2 2 2 2 2 2 2 2 2 2 2 2 2 2 2 2 2 2 2 2 2 2 2 2 2 2 1\n")) ∷ []) (codes "T = ZonalSum of 1 within Z\npaint Z 1 1 1 1 2\nvalue T 1 1\nvalue T 1 2\nvalue T 1 40\nvalue T 1 65\n")) (ok 1 3 3 0 ++ ok 2 3 3 0 ++ ok 3 4 4 0 ++ codes "value T 1 1 33\nvalue T 1 2 32\nvalue T 1 40 33\nvalue T 1 65 32\n") goes_on 644 4
  pub zonal_variety_stays : Comes (loading (Z (map_of 1 65 (codes "1 1 1 1 1 1 1 1 1 1 1 1 1 1 1 1 1 1 1 1 1 1 1 1 1 1 1 1 1 1 1 1 2 2 2 2 2 2 2 2 2 2 2 2 2 2 2 2 2 2 2 2 2 2 2 2 2 2 2 2 2 2 2 2 1\n")) ∷ []) (codes "T = ZonalVariety of Z within Z\nvalue T 1 1\nvalue T 1 40\nvalue T 1 65\npaint Z 1 1 1 1 2\n")) (ok 1 3 3 0 ++ ok 2 3 3 0 ++ codes "value T 1 1 1\nvalue T 1 40 1\nvalue T 1 65 1\n" ++ ok 3 1 2 0) goes_on 515 3
  pub too_many_viewers : Comes (loading (S (map_of 1 65 (codes "0 0 0 0 0 0 0 0 0 0 0 0 0 0 0 0 0 0 0 0 0 0 0 0 0 0 0 0 0 0 0 0 0 0 0 0 0 0 0 0 0 0 0 0 0 0 0 0 0 0 0 0 0 0 0 0 0 0 0 0 0 0 0 0 0\n")) ∷ []) (codes "W = FocalSum of 1 radiating on S\n")) (ok 1 3 3 0 ++ codes "refused viewers W 65\n") goes_on 384 0
