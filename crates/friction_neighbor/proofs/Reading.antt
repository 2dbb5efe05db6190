-- How often a repair of values reads.
use Rattle.std.proofs.Common.{◌≡◌, ℕ, ◌+◌, ◌-◌, ◌*◌, ◌<◌, ◌≤◌, min, length, subst, arith}
use Rattle.std.specs.Prelude.{filter}
use Rattle.map_nums.specs.Grids.{IsSize, Cells, cell_at}
use Rattle.map_nums.specs.Tiles.{tiles}
use Rattle.map_defs.specs.Damage.{differs, tile_has}
use Rattle.layer_tiles.specs.Tallies.{TallyState, RisesBy}
use Rattle.layer_tiles.proofs.Rising.{rises_then, rises_within}
use Rattle.tile_work.specs.Working.{WorkState, base_of, copies}
use Rattle.friction_neighbor.specs.Repairs.{wanted_at, alone, IsCaused}
use Rattle.friction_neighbor.specs.Views.{ViewState}
use Rattle.friction_neighbor.proofs.Damaging.{copied_few}

-- the places near n and m others come into the queue, q of them, which is emptied over a working layer that had copied nothing
module _ (v : ViewState) (size : IsSize v.field.ground.size) (old cells : Cells) (right : (i : ℕ) → cell_at cells i ≡ wanted_at v.field i) (n m q : ℕ) (few : q ≤ 9 * n + 9 * m) (was now : WorkState) (begins : base_of was.before ≡ old) (none : copies was.copied ≡ 0) (caused : IsCaused v.field (base_of was.before) now) (a b c d : TallyState) (first : RisesBy 0 (9 * n) a b) (second : RisesBy 0 (9 * m) b c) where
  abbrev tiles_moved : ℕ
  tiles_moved = length (filter (tile_has v.field.ground.size (differs old cells)) (tiles v.field.ground.size))

  copied : copies now.copied ≤ tiles_moved
  copied = let P : Cells → Type 0 = λ xs. IsCaused v.field xs now in copied_few v.field size old cells now right (subst P begins caused)

  -- where memory was wanted on the way
  pub reads_failed : 0 < q → ((xs : Cells) → ((i : ℕ) → cell_at xs i ≡ wanted_at v.field i) → RisesBy (copies now.copied - copies was.copied + 1) (31 * q + 288 * alone v (base_of was.before) xs + 40) c d) → RisesBy (2 * tiles_moved + min 1 (n + m)) (328 * (n + m) + 288 * alone v old cells) a d
  reads_failed some rest =
      let P : Cells → Type 0 = λ xs. RisesBy (copies now.copied - copies was.copied + 1) (31 * q + 288 * alone v xs cells + 40) c d in
      rises_within (0 + 0 + (copies now.copied - copies was.copied + 1)) (9 * n + 9 * m + (31 * q + 288 * alone v old cells + 40)) (2 * tiles_moved + min 1 (n + m)) (328 * (n + m) + 288 * alone v old cells) a d (omega (arith, copied, few, some)) (omega (arith, few, some))
      (rises_then (0 + 0) (9 * n + 9 * m) (copies now.copied - copies was.copied + 1) (31 * q + 288 * alone v old cells + 40) a c d (rises_then 0 (9 * n) 0 (9 * m) a b c first second) (subst P begins (rest cells right)))

  -- and where the patch was made after it
  pub reads_done : (e : TallyState) → ((xs : Cells) → ((i : ℕ) → cell_at xs i ≡ wanted_at v.field i) → RisesBy (copies now.copied - copies was.copied) (31 * q + 288 * alone v (base_of was.before) xs) c d) → RisesBy (copies now.copied) 0 d e → RisesBy (2 * tiles_moved + min 1 (n + m)) (328 * (n + m) + 288 * alone v old cells) a e
  reads_done e rest last =
      let P : Cells → Type 0 = λ xs. RisesBy (copies now.copied - copies was.copied) (31 * q + 288 * alone v xs cells) c d in
      rises_within (0 + 0 + (copies now.copied - copies was.copied) + copies now.copied) (9 * n + 9 * m + (31 * q + 288 * alone v old cells) + 0) (2 * tiles_moved + min 1 (n + m)) (328 * (n + m) + 288 * alone v old cells) a e (omega (arith, copied)) (omega (arith, few))
      (rises_then (0 + 0 + (copies now.copied - copies was.copied)) (9 * n + 9 * m + (31 * q + 288 * alone v old cells)) (copies now.copied) 0 a d e
      (rises_then (0 + 0) (9 * n + 9 * m) (copies now.copied - copies was.copied) (31 * q + 288 * alone v old cells) a c d (rises_then 0 (9 * n) 0 (9 * m) a b c first second) (subst P begins (rest cells right))) last)
