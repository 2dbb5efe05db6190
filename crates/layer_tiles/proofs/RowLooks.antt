-- Looks and picks, one after another.
use Rattle.std.proofs.Common.{◌≡◌, ℕ, ◌+◌, ◌*◌, ◌/◌, ◌≤◌, arith, ◌∙◌}
use Rattle.std.proofs.lemmas.Nat.{mul-le}
use Rattle.map_nums.specs.Grids.{Size}
use Rattle.layer_tiles.specs.Tiles.{tiles_across, tiles_down, tiles_in}
use Rattle.layer_tiles.specs.Tallies.{TallyState, looked, RisesBy}

-- the looks of all rows
few_looks : (s : Size) → s.rows * tiles_across s ≤ 64 * tiles_in s
unfolding tiles_in tiles_down
few_looks s = omega (arith, mul-le s.rows (tiles_across s) (32 * ((s.rows + 31) / 32)) (tiles_across s) (omega arith) (omega arith))

pub rows_rise : (s : Size) (t u : TallyState) → RisesBy (s.rows * tiles_across s) 0 t u → RisesBy (64 * tiles_in s) 0 t u
rows_rise s t u f =
    record {
      looks_rise = omega (arith, f.looks_rise, few_looks s);
      picks_rise = f.picks_rise;
      parts_out_stay = f.parts_out_stay;
      is_part_stays = f.is_part_stays;
    }

pub then_rises : (a b c : ℕ) (t u v : TallyState) → RisesBy a 0 t u → RisesBy b 0 u v → a + b ≤ c → RisesBy c 0 t v
then_rises a b c t u v f g l =
    record {
      looks_rise = omega (arith, f.looks_rise, g.looks_rise);
      picks_rise = omega (arith, f.picks_rise, g.picks_rise);
      parts_out_stay = g.parts_out_stay ∙ f.parts_out_stay;
      is_part_stays = g.is_part_stays ∙ f.is_part_stays;
    }

pub then_looks : (k : ℕ) (t u v : TallyState) → RisesBy k 0 t u → v ≡ looked 1 u → RisesBy (k + 1) 0 t v
then_looks k t u v f e =
    rw e
    record {
      looks_rise = omega (arith, f.looks_rise);
      picks_rise = f.picks_rise;
      parts_out_stay = f.parts_out_stay;
      is_part_stays = f.is_part_stays;
    }

-- the looks at two layers, one after the other
pub both_rise : (s z : Size) (t u v : TallyState) → RisesBy (s.rows * tiles_across s) 0 t u → RisesBy (z.rows * tiles_across z) 0 u v → RisesBy (64 * (tiles_in s + tiles_in z)) 0 t v
both_rise s z t u v f g = then_rises (64 * tiles_in s) (64 * tiles_in z) (64 * (tiles_in s + tiles_in z)) t u v (rows_rise s t u f) (rows_rise z u v g) (omega arith)

pub first_rise : (s z : Size) (t u : TallyState) → RisesBy (s.rows * tiles_across s) 0 t u → RisesBy (64 * (tiles_in s + tiles_in z)) 0 t u
first_rise s z t u f =
    let r = rows_rise s t u f in
    record {
      looks_rise = omega (arith, r.looks_rise);
      picks_rise = r.picks_rise;
      parts_out_stay = r.parts_out_stay;
      is_part_stays = r.is_part_stays;
    }
