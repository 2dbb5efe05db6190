use Rattle.std.proofs.Common.{◌≡◌, ◌*◌, replicate, rules}
use Rattle.layer_tiles.proofs.Ranged.{AreCells-replicate}
use Rattle.layer_tiles.proofs.tiles.Tile.new.Goals as goal

pub invariant_of-result : goal.invariant_of-result
invariant_of-result c =
    let n = c.place-place.result.height * c.place-place.result.width in
    let e : c.in_ok-vec.field-0.items ≡ replicate n c.args.fill = search rules in
    (search rules, rw (e) (AreCells-replicate n c.args.fill c.get-value.ensures.cell))
