use Rattle.std.proofs.Common.{◌≡◌, Some, IsSome, refl, sym, subst}
use Rattle.map_defs.specs.Regions.{AreRegions}
use Rattle.layer_tiles.specs.Patches.{PatchState}
use Rattle.layer_tiles.specs.Layers.{LayerState}
use Rattle.layer_tiles.specs.Changes.{ChangeState, patched_change}
use Rattle.region_labels.specs.Repairs.{IsBaseFor}
use Rattle.bench_kernels.proofs.regions.repaired.Goals as goal

base_for : (of : ChangeState) (l labels : LayerState) (p : PatchState) → of ≡ patched_change l p → labels.size ≡ l.size → AreRegions l.size l.cells labels.cells → IsBaseFor of (Some labels)
base_for of l labels p e n r = let P : ChangeState → Type 0 = λ c. IsBaseFor c (Some labels) in subst P (sym e) (n, refl, r)

pub label_repair-requires : goal.label_repair-requires
label_repair-requires c = base_for c.patched-edit.result c.args.numbers.now c.args.labels.now c.in_ok-patch.patch c.patched-edit.ensures c.requires.size c.requires.right
