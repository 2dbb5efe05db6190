-- How often a whole repair reads.
use Rattle.std.proofs.Common.{◌≡◌, ℕ, ◌+◌, ◌-◌, ◌*◌, ◌≤◌, length, ◌∙◌, ap, subst, arith}
use Rattle.std.specs.Prelude.{filter}
use Rattle.map_nums.specs.Grids.{IsSize, Cells, cells_in}
use Rattle.map_nums.specs.Tiles.{tiles}
use Rattle.map_defs.specs.Damage.{differs, tile_has}
use Rattle.map_defs.specs.Nets.{IsLeastIn}
use Rattle.map_defs.specs.Spread.{IsSpread}
use Rattle.layer_tiles.specs.Tallies.{TallyState, RisesBy}
use Rattle.layer_tiles.proofs.Rising.{rises_then, rises_within}
use Rattle.tile_work.specs.Working.{WorkState, IsSameWork, base_of, copies}
use Rattle.least_costs.specs.Ranks.{changed}
use Rattle.friction_spread.specs.Costs.{GroundState, values, net_of}
use Rattle.friction_spread.specs.Copied.{HasMoved, IsCaused}
use Rattle.friction_spread.proofs.Shown.{least_all}
use Rattle.friction_spread.proofs.Damaging.{copied_few, some_tile}

-- p picks, then a queue of q entries emptied over a working layer that had copied nothing
module _ (g : GroundState) (cells old : Cells) (h : IsSize g.size) (right : IsSpread g.size g.sources g.friction g.limit cells) (was now : WorkState) (begins : base_of was.before ≡ old) (none : copies was.copied ≡ 0) (same : IsSameWork was now) (caused : IsCaused g now) (p q : ℕ) (a b d : TallyState) (first : RisesBy 0 p a b) where
  abbrev tiles_moved : ℕ
  tiles_moved = length (filter (tile_has g.size (differs old cells)) (tiles g.size))

  abbrev moved : ℕ
  moved = changed (values g.limit old) (values g.limit cells) (cells_in g.size)

  few : copies now.copied ≤ tiles_moved
  few = copied_few g cells h right now old (ap base_of same.before ∙ begins) caused

  -- where memory was wanted on the way
  pub reads_failed : HasMoved g was → ((c : ℕ → ℕ) → ((i : ℕ) → IsLeastIn (net_of g) i (c i)) → RisesBy (copies now.copied - copies was.copied + 1) (21 * q + 628 * changed (values g.limit (base_of was.before)) c (cells_in g.size)) b d) →
      RisesBy (3 * tiles_moved) (p + (21 * q + 628 * moved)) a d
  reads_failed due rest =
      let P : Cells → Type 0 = λ xs. RisesBy (copies now.copied - copies was.copied + 1) (21 * q + 628 * changed (values g.limit xs) (values g.limit cells) (cells_in g.size)) b d in
      let some = some_tile g cells h right was old begins due in
      let m = few in
      rises_within (0 + (copies now.copied - copies was.copied + 1)) (p + (21 * q + 628 * moved)) (3 * tiles_moved) (p + (21 * q + 628 * moved)) a d (omega (arith, some, m)) (omega arith)
      (rises_then 0 p (copies now.copied - copies was.copied + 1) (21 * q + 628 * moved) a b d first (subst P begins (rest (values g.limit cells) (least_all g cells right))))

  -- and where the patch was made after it
  pub reads_done : (e : TallyState) → ((c : ℕ → ℕ) → ((i : ℕ) → IsLeastIn (net_of g) i (c i)) → RisesBy (copies now.copied - copies was.copied) (21 * q + 628 * changed (values g.limit (base_of was.before)) c (cells_in g.size)) b d) → RisesBy (copies now.copied) 0 d e →
      RisesBy (3 * tiles_moved) (p + (21 * q + 628 * moved)) a e
  reads_done e rest last =
      let P : Cells → Type 0 = λ xs. RisesBy (copies now.copied - copies was.copied) (21 * q + 628 * changed (values g.limit xs) (values g.limit cells) (cells_in g.size)) b d in
      let m = few in
      rises_within (0 + (copies now.copied - copies was.copied) + copies now.copied) (p + (21 * q + 628 * moved) + 0) (3 * tiles_moved) (p + (21 * q + 628 * moved)) a e (omega (arith, m)) (omega arith)
      (rises_then (0 + (copies now.copied - copies was.copied)) (p + (21 * q + 628 * moved)) (copies now.copied) 0 a d e
      (rises_then 0 p (copies now.copied - copies was.copied) (21 * q + 628 * moved) a b d first (subst P begins (rest (values g.limit cells) (least_all g cells right)))) last)
