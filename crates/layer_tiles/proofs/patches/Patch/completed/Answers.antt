use Rattle.std.proofs.Common.{subst, sym, ap, ◌∙◌}
use Rattle.layer_tiles.specs.Tiles.{tiles_in}
use Rattle.layer_tiles.specs.Patches.{PatchState, HoldsAll}
use Rattle.layer_tiles.proofs.Completing.{tiles_enough}
use Rattle.layer_tiles.proofs.patches.Patch.completed.Goals as goal

pub returns-clause-stamps : goal.returns-clause-stamps
returns-clause-stamps c =
    let i = c.self.inside in
    let all : HoldsAll (record { size = i.extent; tiles = i.tiles.items }) = subst (λ (p : PatchState). HoldsAll p) (sym c.self.view_is) c.requires in
    c.self.invariant.1 (tiles_enough (record { size = i.extent; tiles = i.tiles.items }) c.self.invariant.0 all) ∙ ap (λ (p : PatchState). tiles_in p.size) c.self.view_is
