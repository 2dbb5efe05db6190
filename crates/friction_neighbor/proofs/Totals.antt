-- A repair of costs and values as a whole: its work, and how often it reads.
use Rattle.std.proofs.Common.{◌≡◌, ℕ, ◌+◌, ◌*◌, ◌≤◌, length, Some, None, Option, refl, subst, arith}
use Rattle.std.specs.Prelude.{filter, not, ◌&&◌, Result, Ok, Err, IfOk}
use Rattle.std.proofs.lemmas.List.FromFn.{length-range_with_len}
use Rattle.map_nums.specs.Grids.{Size, IsSize, Cells, cells_in, places}
use Rattle.map_defs.specs.Damage.{differs, has_changed, op_damage}
use Rattle.map_defs.specs.Ops.{Term, nearest_op, spread_op}
use Rattle.map_defs.specs.Rounds.{spread_grid}
use Rattle.map_defs.specs.Spread.{IsSpread}
use Rattle.map_defs.specs.Work.{first_work, op_work}
use Rattle.map_defs.proofs.SpreadCells.{spread_is}
use Rattle.layer_tiles.specs.Changes.{ChangeState, cells_before, patched_change}
use Rattle.layer_tiles.specs.Patches.{PatchState, patched}
use Rattle.layer_tiles.specs.Tallies.{TallyState, RisesBy}
use Rattle.layer_tiles.specs.Tiles.{tiles_in}
use Rattle.layer_tiles.proofs.Rising.{rises_then, rises_within}
use Rattle.changed_cells.proofs.Joining.{filter_most}
use Rattle.friction_spread.specs.Repairs.{ReadsWithin}
use Rattle.friction_spread.proofs.Works.{work_is as spread_work_is}
use Rattle.friction_neighbor.specs.declared.repair.Nearest.{Nearest}
use Rattle.friction_neighbor.specs.Repairs.{alone}
use Rattle.friction_neighbor.specs.Results.{AreRightBefore, NearestReadsWithin, befores, afters}
use Rattle.friction_neighbor.specs.Views.{view_of}
use Rattle.friction_neighbor.proofs.Counting.{alone_few}
use Rattle.friction_neighbor.proofs.Damaging.{work_is, spread_damage, spread_work}

module _ (sources friction : ChangeState) (limit : ℕ) (old : Nearest) (size : IsSize sources.size) (right : AreRightBefore sources friction limit old) where
  abbrev s : Size
  s = sources.size

  -- the places of the costs, and those whose value alone is another one
  pub worked_is : (patch : PatchState) (now : Cells) (moved worked : ℕ) (t u : Term) → IsSpread s sources.cells friction.cells limit (patched s old.cost.now.cells patch.tiles) → moved ≡ alone (view_of sources friction (patched_change old.cost.now patch) limit) old.value.now.cells now →
      worked ≡ op_work (spread_op limit t u) s (befores sources friction) (afters sources friction) (Some old.cost.now.cells) (patched s old.cost.now.cells patch.tiles) → worked + moved ≡ op_work (nearest_op limit t u) s (befores sources friction) (afters sources friction) (Some old.value.now.cells) now
  worked_is patch now moved worked t u spread e w =
      let cb = old.cost.now.cells in
      let cn = patched s cb patch.tiles in
      let was = old.value.now.cells in
      let P : Size → Type 0 = λ z. moved ≡ length (filter (λ i. not (differs cb (patched z cb patch.tiles) i) && differs was now i) (places s)) in
      let m = subst P right.costs.size e in
      let a = spread_work_is limit s (befores sources friction) (afters sources friction) cb cn t u in
      let b = work_is s size limit (cells_before sources) sources.cells (cells_before friction) friction.cells cb cn was now t u right.costs.right spread in
      omega (arith, m, w, a, b)

  -- the costs by the plain program, which the bounds are told of
  abbrev plain : Cells
  plain = (spread_grid limit s sources.cells friction.cells).cells

  -- the costs alone
  pub costs_within : (x y : TallyState) → ReadsWithin 7 628 sources friction limit (Some old.cost.now.cells) x y → NearestReadsWithin 16 958 sources friction limit (Some old.value.now.cells) x y
  costs_within x y reads holds also t u cells near =
      let cb = old.cost.now.cells in
      let after = spread_is s sources.cells friction.cells limit in
      let a = spread_damage s size limit (cells_before sources) sources.cells (cells_before friction) friction.cells cb plain old.value.now.cells cells t u right.costs.right after in
      let b = spread_work s size limit (cells_before sources) sources.cells (cells_before friction) friction.cells cb plain old.value.now.cells cells t u right.costs.right after in
      rises_within (7 * length (op_damage (spread_op limit t u) s (befores sources friction) (afters sources friction) (Some cb) plain)) (628 * op_work (spread_op limit t u) s (befores sources friction) (afters sources friction) (Some cb) plain) _ _ x y (omega (arith, a)) (omega (arith, b)) (reads holds also t u plain after)

  -- and the values after them
  pub both_within : (x y z : TallyState) → ReadsWithin 7 628 sources friction limit (Some old.cost.now.cells) x y → NearestReadsWithin 9 330 sources friction limit (Some old.value.now.cells) y z → NearestReadsWithin 16 958 sources friction limit (Some old.value.now.cells) x z
  both_within x y z reads more holds also t u cells near =
      let cb = old.cost.now.cells in
      let after = spread_is s sources.cells friction.cells limit in
      let a = spread_damage s size limit (cells_before sources) sources.cells (cells_before friction) friction.cells cb plain old.value.now.cells cells t u right.costs.right after in
      let b = spread_work s size limit (cells_before sources) sources.cells (cells_before friction) friction.cells cb plain old.value.now.cells cells t u right.costs.right after in
      let l = length (op_damage (spread_op limit t u) s (befores sources friction) (afters sources friction) (Some cb) plain) in
      let p = op_work (spread_op limit t u) s (befores sources friction) (afters sources friction) (Some cb) plain in
      let d = length (op_damage (nearest_op limit t u) s (befores sources friction) (afters sources friction) (Some old.value.now.cells) cells) in
      let w = op_work (nearest_op limit t u) s (befores sources friction) (afters sources friction) (Some old.value.now.cells) cells in
      rises_within (7 * l + 9 * d) (628 * p + 330 * w) (16 * d) (958 * w) x z (omega (arith, a)) (omega (arith, b)) (rises_then (7 * l) (628 * p) (9 * d) (330 * w) x y z (reads holds also t u plain after) (more holds also t u cells near))

  -- the work fits a number of 64 bits
  pub worked_most : (patch : PatchState) (now : Cells) (moved worked : ℕ) (t u : Term) → moved ≡ alone (view_of sources friction (patched_change old.cost.now patch) limit) old.value.now.cells now → worked ≡ op_work (spread_op limit t u) s (befores sources friction) (afters sources friction) (Some old.cost.now.cells) (patched s old.cost.now.cells patch.tiles) → worked + moved ≤ 3 * cells_in s
  worked_most patch now moved worked t u e w =
      let cn = patched s old.cost.now.cells patch.tiles in
      let a = spread_work_is limit s (befores sources friction) (afters sources friction) old.cost.now.cells cn t u in
      let b = alone_few (view_of sources friction (patched_change old.cost.now patch) limit) old.value.now.cells now in
      omega (arith, e, w, a, b, filter_most (has_changed (befores sources friction) (afters sources friction)) (places s), filter_most (differs old.cost.now.cells cn) (places s), length-range_with_len 0 (cells_in s))

-- ---- where there were none

-- a look at each tile of both operands
pub first_within : (sources friction : ChangeState) (limit : ℕ) (x y : TallyState) → RisesBy (2 * tiles_in sources.size) 0 x y → NearestReadsWithin 32 1000 sources friction limit None x y
unfolding op_damage
first_within sources friction limit x y reads holds also t u cells near = rises_within (2 * tiles_in sources.size) 0 _ _ x y (omega (arith, length-range_with_len 0 (tiles_in sources.size))) (omega arith) reads

pub first_worked : (sources friction : ChangeState) (limit : ℕ) (cells : Cells) (t u : Term) → first_work sources.size cells ≡ op_work (nearest_op limit t u) sources.size (befores sources friction) (afters sources friction) None cells
unfolding op_work
first_worked sources friction limit cells t u = refl

pub wider : (sources friction : ChangeState) (limit : ℕ) (was : Option Cells) (x y : TallyState) → NearestReadsWithin 16 958 sources friction limit was x y → NearestReadsWithin 32 1000 sources friction limit was x y
wider sources friction limit was x y reads holds also t u cells near = rises_within _ _ _ _ x y (omega arith) (omega arith) (reads holds also t u cells near)

pub ok_then : {T E : Type 0} (P Q : T → Type 0) → ((x : T) → P x → Q x) → (r : Result T E) → IfOk r P → IfOk r Q
ok_then P Q h (Ok x) p = h x p
ok_then P Q h (Err e) p = tt
