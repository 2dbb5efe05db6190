use Rattle.std.proofs.Common.{◌+◌, ◌*◌, length, sym, ap, subst, ◌∙◌, arith}
use Rattle.layer_tiles.specs.Changes.{patched_change}
use Rattle.layer_tiles.specs.Patches.{PatchState, patched}
use Rattle.map_waves.specs.Operands.{IsOperand}
use Rattle.layer_tiles.proofs.Rising.{rises_within, rises_looked}
use Rattle.live_engine.specs.Painting.{rectangle_of, met_tiles}
use Rattle.live_engine.proofs.MetTiles.{met_numbers}
use Rattle.live_engine.proofs.PaintedTiles.{left_operand}
use Rattle.live_engine.proofs.painting.changed_by_paint.Goals as goal

pub returns : goal.returns
returns g c =
    let layer = c.args.layer.now in
    let s = layer.size in
    let patch = c.in_ok-patch.patch in
    let e = c.in_ok-patch.ensures in
    let left = left_operand layer patch c.extent-extent.ensures.layer c.extent-patch.ensures.patch e.size in
    let count = length (met_tiles s (rectangle_of c.args.rectangle)) in
    let tiles = met_numbers s (rectangle_of c.args.rectangle) patch c.extent-patch.ensures.patch e.size e.met in
    record {
      size = ap (λ (x : PatchState). x.size) c.narrow.ensures.patch ∙ e.size;
      cells = ap (λ (x : PatchState). patched s layer.cells x.tiles) c.narrow.ensures.patch ∙ left.0 ∙ e.cells;
      operand = subst (λ (x : PatchState). IsOperand s (patched_change layer x)) (sym c.narrow.ensures.patch) left.1;
      met = c.len-met.ensures.len ∙ tiles;
      tally = rises_within (count + 2 * length patch.tiles) 0 (3 * count) 0 _ _ (omega (arith, tiles)) (omega arith) (rises_looked count 0 (2 * length patch.tiles) _ _ _ c.painted_tiles.ensures.tally c.narrow.ensures.looks);
    }

pub returns-in_err-patch-clause-tally : goal.returns-in_err-patch-clause-tally
returns-in_err-patch-clause-tally g c = let count = length (met_tiles c.args.layer.now.size (rectangle_of c.args.rectangle)) in rises_within count 0 (3 * count) 0 _ _ (omega arith) (omega arith) c.painted_tiles.ensures.tally
