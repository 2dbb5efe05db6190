use Rattle.std.proofs.Common.{◌≡◌, ℕ, nat_abs, refl, sym, subst, ap}
use Rattle.std.proofs.lemmas.Int.{to_z-of_z}
use Rattle.map_nums.specs.Widths.{value_width}
use Rattle.map_defs.specs.Spread.{IsSpread}
use Rattle.layer_tiles.specs.Patches.{PatchState}
use Rattle.layer_tiles.specs.Layers.{LayerState}
use Rattle.layer_tiles.specs.Changes.{ChangeState, same_change, patched_change}
use Rattle.friction_spread.specs.Repairs.{IsRightBefore}
use Rattle.kernel_checks.proofs.spreading.again.Goals as goal

right_before : (s f b : LayerState) (p : PatchState) (limit : ℕ) (sc fc : ChangeState) → sc ≡ same_change s → fc ≡ patched_change f p → b.size ≡ s.size → IsSpread s.size s.cells f.cells limit b.cells → IsRightBefore sc fc limit b
right_before s f b p limit sc fc e q n r =
    let P : ChangeState → Type 0 = λ c. IsRightBefore c fc limit b in
    let Q : ChangeState → Type 0 = λ c. IsRightBefore (same_change s) c limit b in
    subst P (sym e) (subst Q (sym q) (record { size = n; sources_there = refl; friction_there = refl; right = r }))

pub spread_repair-requires-clause-base : goal.spread_repair-requires-clause-base
spread_repair-requires-clause-base c =
    let P : ℕ → Type 0 = λ n. IsRightBefore c.same-still.result c.patched-ground.result n c.args.base.now in
    let right : P (nat_abs c.args.limit) = right_before c.args.sources.now c.args.friction.now c.args.base.now c.args.patch.now (nat_abs c.args.limit) c.same-still.result c.patched-ground.result c.same-still.ensures c.patched-ground.ensures c.requires.base c.requires.right in
    subst P (sym (ap nat_abs (to_z-of_z value_width c.args.limit c.ranges.limit))) right
