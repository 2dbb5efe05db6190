use Rattle.std.proofs.Common.{◌≡◌, Option, None, [], ◌∷◌, ◌++◌, refl, sym, ap, subst, ◌∙◌, replicate, inl, false}
use Rattle.std.proofs.lemmas.Bool.{both_ways}
use Rattle.std.proofs.lemmas.Result.{IfOk-weaker}
use Rattle.layer_tiles.specs.Tiles.{Block, tile_height, tile_width, tile_size, tile_block}
use Rattle.layer_tiles.specs.Patches.{PatchState}
use Rattle.tile_work.specs.Working.{IsPushed}
use Rattle.tile_work.proofs.Slots.{null_tile}
use Rattle.tile_work.proofs.working.push_any.Goals as goal

pub returns-in_ok-new-in-None-clause-ok : goal.returns-in_ok-new-in-None-clause-ok
returns-in_ok-new-in-None-clause-ok c =
    let s = c.args.extent in
    let t = c.args.tile in
    let b = c.in_ok-new-in-None.field-0 in
    let e : b ≡ tile_block s [] t = c.in_ok-new-in-None.ensures
    ∙ ap (λ x. record { height = tile_height s t; width = tile_width s t; cells = replicate (tile_size s t) x }) c.null.ensures
    ∙ ap (λ xs. record { height = tile_height s t; width = tile_width s t; cells = xs }) (null_tile s t) in
    let P : Option Block → Type 0 = λ o. IsPushed s None t o c.args.patch.now.tiles c.push-in-None.new.self.tiles in
    IfOk-weaker c.push-in-None.result _ (λ _. IsPushed s None t c.args.slot c.args.patch.now.tiles c.push-in-None.new.self.tiles)
    (λ _ p. subst P (sym c.in-None.is) (inl (record {
      tiles = ap (λ (x : PatchState). x.tiles) p ∙ ap (λ (y : Block). c.args.patch.now.tiles ++ (t, y) ∷ []) e;
      changed = λ h. absurd (both_ways false refl h);
    })))
    c.push-in-None.ensures.ok
