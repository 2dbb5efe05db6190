use Rattle.std.proofs.Common.{sym, ap, ◌∙◌}
use Rattle.std.proofs.lemmas.Bool.Decides.{same_from_decides}
use Rattle.layer_tiles.specs.Tiles.{Block}
use Rattle.layer_tiles.specs.Narrowed.{is_same_tile}
use Rattle.layer_tiles.proofs.Narrowing.{decides_tile}
use Rattle.layer_tiles.proofs.Patching.{block_is}
use Rattle.layer_tiles.proofs.narrows.is_layers.Goals as goal

pub returns-clause-same : goal.returns-clause-same
returns-clause-same g c =
    let l = c.args.layer.now in
    let e = c.args.entry.now in
    let o = c.view-old.ensures.tile in
    let v = c.view.ensures ∙ c.tile.ensures in
    same_from_decides c.same.result (is_same_tile l.size l.cells e) (
      λ t. ap (λ (b : Block). b.cells) (sym o ∙ c.same.ensures.0 t ∙ v),
      λ f. c.same.ensures.1 (o ∙ sym (block_is l.size l.cells e.0 e.1 c.requires.size f) ∙ sym v),
    )
    (decides_tile l.size l.cells e)
