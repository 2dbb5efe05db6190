use Rattle.std.proofs.Common.{◌≡◌, ℕ, subst, arith}
use Rattle.layer_tiles.specs.Tiles.{tiles_in}
use Rattle.layer_tiles.specs.Wholes.{IsCut}
use Rattle.layer_tiles.proofs.AllTiles.{cut_none, cut_more, cut_above, cut_size}
use Rattle.layer_tiles.proofs.cuts.cut_tiles.Goals as goal

pub loop-number-init : goal.loop-number-init
loop-number-init c = cut_none c.args.extent c.args.cells.now c.new-patch.result c.new-patch.ensures

pub push-requires-clause-ascending : goal.push-requires-clause-ascending
push-requires-clause-ascending c = cut_above c.args.extent c.args.cells.now c.loop-number.number c.loop-number.patch c.loop-number.invariant

pub push-requires-clause-within : goal.push-requires-clause-within
push-requires-clause-within c = rw (c.loop-number.invariant.size) (omega (arith, c.tiles-number-end.ensures.tiles))

pub push-requires-clause-size : goal.push-requires-clause-size
push-requires-clause-size c = cut_size c.args.extent c.args.cells.now c.loop-number.number c.loop-number.patch c.in_ok-tile.tile c.loop-number.invariant c.in_ok-tile.ensures

pub loop-number-preserved : goal.loop-number-preserved
loop-number-preserved c = cut_more c.args.extent c.args.cells.now c.loop-number.number c.loop-number.patch c.push.new.self c.in_ok-tile.tile c.loop-number.invariant c.in_ok-tile.ensures c.in_ok-push.ensures.ok

pub returns-clause-cut : goal.returns-clause-cut
returns-clause-cut c =
    let n : c.loop-number.number ≡ tiles_in c.args.extent = omega (arith, c.tiles-number-end.ensures.tiles) in
    subst (λ (k : ℕ). IsCut c.args.extent c.args.cells.now k c.loop-number.patch) n c.loop-number.invariant
