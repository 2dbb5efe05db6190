use Rattle.std.proofs.Common.{◌≡◌, ◌<◌, Some, sym, ap, subst, ◌∙◌, [], replicate}
use Rattle.std.proofs.lemmas.Result.{IfOk-weaker}
use Rattle.std.specs.Option.{option_copied}
use Rattle.map_nums.specs.Grids.{Size}
use Rattle.layer_tiles.specs.Tiles.{tile_block, tile_size, tile_height, tile_width, tiles_in}
use Rattle.tile_work.specs.Working.{WorkState, IsOld, base_of, before_of}
use Rattle.tile_work.proofs.Slots.{null_tile}
use Rattle.tile_work.proofs.working.Working.old_tile.Goals as goal

pub copied_tile-requires : goal.copied_tile-requires
copied_tile-requires g c =
    let old : IsOld c.self.inside.extent (Some c.in-Some.layer.now) = subst (λ o. IsOld c.self.inside.extent (option_copied o)) c.in-Some.is c.self.invariant.0.is_old in
    rw (old.1) (subst (λ (w : WorkState). c.args.tile < tiles_in w.size) (sym c.self.view_is) c.requires)

pub returns-in-Some-clause-tile : goal.returns-in-Some-clause-tile
returns-in-Some-clause-tile g c =
    let old : IsOld c.self.inside.extent (Some c.in-Some.layer.now) = subst (λ o. IsOld c.self.inside.extent (option_copied o)) c.in-Some.is c.self.invariant.0.is_old in
    let base : base_of (before_of (option_copied c.self.inside.base)) ≡ c.in-Some.layer.now.cells = ap (λ o. base_of (before_of (option_copied o))) c.in-Some.is in
    IfOk-weaker c.copied_tile.result _ (λ b. b ≡ tile_block c.args.self.now.size (base_of c.args.self.now.before) c.args.tile)
    (λ b e. e
    ∙ ap (λ (s : Size). tile_block s c.in-Some.layer.now.cells c.args.tile) old.1
    ∙ ap (λ xs. tile_block c.self.inside.extent xs c.args.tile) (sym base)
    ∙ ap (λ (w : WorkState). tile_block w.size (base_of w.before) c.args.tile) c.self.view_is)
    c.copied_tile.ensures.tile

pub returns-in-None-clause-tile : goal.returns-in-None-clause-tile
returns-in-None-clause-tile g c =
    let base : base_of (before_of (option_copied c.self.inside.base)) ≡ [] = ap (λ o. base_of (before_of (option_copied o))) c.in-None.is in
    IfOk-weaker c.new.result _ (λ b. b ≡ tile_block c.args.self.now.size (base_of c.args.self.now.before) c.args.tile)
    (λ b e. e
    ∙ ap (λ x. record { height = tile_height c.self.inside.extent c.args.tile; width = tile_width c.self.inside.extent c.args.tile; cells = replicate (tile_size c.self.inside.extent c.args.tile) x }) c.null.ensures
    ∙ ap (λ xs. record { height = tile_height c.self.inside.extent c.args.tile; width = tile_width c.self.inside.extent c.args.tile; cells = xs }) (null_tile c.self.inside.extent c.args.tile)
    ∙ ap (λ xs. tile_block c.self.inside.extent xs c.args.tile) (sym base)
    ∙ ap (λ (w : WorkState). tile_block w.size (base_of w.before) c.args.tile) c.self.view_is)
    c.new.ensures
