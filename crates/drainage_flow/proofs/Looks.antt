-- A window of reach 1 is at most nine looks.
use Rattle.std.proofs.Common.{◌≡◌, ℕ, ◌+◌, ◌<◌, arith}
use Rattle.map_nums.specs.Grids.{Size, IsSize}
use Rattle.layer_tiles.specs.Tiles.{tiles_in}
use Rattle.layer_tiles.specs.Windows.{span_of, tiles_lent}
use Rattle.layer_tiles.specs.Tallies.{TallyState, RisesBy, looked}
use Rattle.layer_tiles.proofs.Lent.{tiles_lent-few}
use Rattle.layer_tiles.proofs.Rising.{rises_none, rises_looked, rises_within}

pub nine_looks : (s : Size) (t : ℕ) (a b : TallyState) → IsSize s → t < tiles_in s → b ≡ looked (tiles_lent (span_of s t 1)) a → RisesBy 9 0 a b
nine_looks s t a b size within e = rises_within (0 + tiles_lent (span_of s t 1)) 0 9 0 a b (omega (arith, tiles_lent-few s t 1 size within (omega arith))) (omega arith) (rises_looked 0 0 (tiles_lent (span_of s t 1)) a a b (rises_none a) e)
