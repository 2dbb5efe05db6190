use Rattle.std.proofs.Common.{◌≡◌, ℕ, ◌+◌, ◌*◌, sym, ◌∙◌, ap, subst, arith, List, Option}
use Rattle.layer_tiles.specs.Tiles.{tiles_across, tiles_in, tiles_down}
use Rattle.layer_tiles.specs.Windows.{WindowState}
use Rattle.sight_lines.specs.Found.{IsFound}
use Rattle.sight_lines.specs.Searches.{AreSlots}
use Rattle.sight_lines.proofs.Bands.{band_tiles, all_bands}
use Rattle.sight_lines.proofs.Looking.{looks_within}
use Rattle.sight_lines.proofs.searches.search.Goals as goal

pub returns-in_err-slots-clause-looks : goal.returns-in_err-slots-clause-looks
returns-in_err-slots-clause-looks g c =
    let s = c.args.of.now.size in
    let down : c.tiles_down-down.result ≡ tiles_down s = c.tiles_down-down.ensures.down ∙ ap tiles_down c.extent-extent.ensures.extent in
    looks_within c.args.all c.args.of.now.touched ((c.loop-band.band + 1) * tiles_across s) (tiles_in s) _ _ (band_tiles s (c.loop-band.band + 1) (omega (arith, down, c.loop-band-test.true))) (c.lend.ensures.looks _ c.loop-band.invariant.looks)

pub add_band-requires-clause-slots : goal.add_band-requires-clause-slots
add_band-requires-clause-slots g c = subst (λ (slots : List (Option WindowState)). AreSlots c.args.kept.now c.args.of.now c.loop-band.band slots) (sym c.deref.ensures.value) (c.in_ok-slots.ensures.slots c.args.kept.now c.requires.known)

pub returns-in_err-count-clause-looks : goal.returns-in_err-count-clause-looks
returns-in_err-count-clause-looks g c =
    let s = c.args.of.now.size in
    let down : c.tiles_down-down.result ≡ tiles_down s = c.tiles_down-down.ensures.down ∙ ap tiles_down c.extent-extent.ensures.extent in
    looks_within c.args.all c.args.of.now.touched ((c.loop-band.band + 1) * tiles_across s) (tiles_in s) _ _ (band_tiles s (c.loop-band.band + 1) (omega (arith, down, c.loop-band-test.true))) (c.in_ok-slots.ensures.looks _ c.loop-band.invariant.looks)

pub loop-band-preserved : goal.loop-band-preserved
loop-band-preserved g c = record { found = c.in_ok-count.ensures; looks = c.in_ok-slots.ensures.looks _ c.loop-band.invariant.looks }

pub returns-clause-found : goal.returns-clause-found
returns-clause-found g c =
    let s = c.args.of.now.size in
    let down : c.tiles_down-down.result ≡ tiles_down s = c.tiles_down-down.ensures.down ∙ ap tiles_down c.extent-extent.ensures.extent in
    subst (λ (n : ℕ). IsFound c.args.of.now.cells n c.loop-band.pairs.items c.loop-band.count) (all_bands s c.loop-band.band (omega (arith, down, c.loop-band-test.false))) c.loop-band.invariant.found

pub returns-clause-looks : goal.returns-clause-looks
returns-clause-looks g c =
    let s = c.args.of.now.size in
    let down : c.tiles_down-down.result ≡ tiles_down s = c.tiles_down-down.ensures.down ∙ ap tiles_down c.extent-extent.ensures.extent in
    looks_within c.args.all c.args.of.now.touched (c.loop-band.band * tiles_across s) (tiles_in s) _ _ (band_tiles s c.loop-band.band (omega (arith, down, c.loop-band.auto.band-end))) c.loop-band.invariant.looks
