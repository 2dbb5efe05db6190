use Rattle.std.proofs.Common.{◌≡◌, refl, sym, subst}
use Rattle.map_nums.specs.Numbers.{greatest_value}
use Rattle.map_defs.specs.Spread.{IsSpread}
use Rattle.layer_tiles.specs.Patches.{PatchState}
use Rattle.layer_tiles.specs.Layers.{LayerState}
use Rattle.layer_tiles.specs.Changes.{ChangeState, same_change, patched_change}
use Rattle.friction_spread.specs.Repairs.{IsRightBefore}
use Rattle.bench_kernels.proofs.spread.repaint.Goals as goal

right_before : (s f b : LayerState) (p : PatchState) (sc fc : ChangeState) → sc ≡ same_change s → fc ≡ patched_change f p → b.size ≡ s.size → IsSpread s.size s.cells f.cells greatest_value b.cells → IsRightBefore sc fc greatest_value b
right_before s f b p sc fc e q n r =
    let P : ChangeState → Type 0 = λ c. IsRightBefore c fc greatest_value b in
    let Q : ChangeState → Type 0 = λ c. IsRightBefore (same_change s) c greatest_value b in
    subst P (sym e) (subst Q (sym q) (record { size = n; sources_there = refl; friction_there = refl; right = r }))

pub spread_repair-requires-clause-base : goal.spread_repair-requires-clause-base
spread_repair-requires-clause-base c = right_before c.args.sources.now c.args.friction.now c.args.costs.now c.args.patch c.same-still.result c.patched-ground.result c.same-still.ensures c.patched-ground.ensures c.requires.base c.requires.right
