use Rattle.std.proofs.Common.{◌≡◌, ℕ, ◌+◌, ◌*◌, ◌<◌, ◌≤◌, ap, subst, ◌∙◌, arith}
use Rattle.layer_tiles.specs.Patches.{PatchState}
use Rattle.layer_tiles.specs.Tiles.{tiles_across, tiles_in}
use Rattle.layer_tiles.proofs.Rising.{rises_none}
use Rattle.layer_tiles.proofs.Rounds.{back}
use Rattle.kept_map.specs.Maps.{grid_of}
use Rattle.live_engine.specs.Painting.{rectangle_of, first_row, last_row}
use Rattle.live_engine.proofs.MetTiles.{met_fewer, met_row, rows_rise, rows_within, unmet_above, unmet_below}
use Rattle.live_engine.proofs.PaintedTiles.{are_painted_none, are_painted_skip, are_painted_all}
use Rattle.live_engine.proofs.painting.painted_tiles.Goals as goal

pub loop-row-init : goal.loop-row-init
loop-row-init g c =
    let s = c.args.layer.now.size in
    let r = rectangle_of c.args.rectangle in
    let layer = grid_of c.args.layer.now in
    let patch = c.new-patch.result in
    record {
      painted = are_painted_skip layer r c.args.cell 0 (first_row r * tiles_across s) patch (omega arith)
          (are_painted_none layer r c.args.cell patch (ap (λ (p : PatchState). p.size) c.new-patch.ensures ∙ c.extent-2.ensures.extent) (ap (λ (p : PatchState). p.tiles) c.new-patch.ensures))
          (λ t from. unmet_above s r c.extent.ensures.layer.size c.requires.counted c.requires.within t);
      tally = met_fewer s r 0 0 (first_row r * tiles_across s) (omega arith) _ _ (rises_none _);
    }

pub returns-in_err-paint_tiles_in_row-clause-tally : goal.returns-in_err-paint_tiles_in_row-clause-tally
returns-in_err-paint_tiles_in_row-clause-tally g c =
    let s = c.args.layer.now.size in
    let r = rectangle_of c.args.rectangle in
    let all = rows_within s r c.extent.ensures.layer.size c.requires.counted c.requires.within (c.loop-row.row + 1) (omega (arith, c.loop-row-test.true)) in
    met_fewer s r 0 ((c.loop-row.row + 1) * tiles_across s) (tiles_in s) all _ _ (met_row s r c.loop-row.row _ _ _ c.loop-row.invariant.tally c.paint_tiles_in_row.ensures.tally)

pub loop-row-preserved : goal.loop-row-preserved
loop-row-preserved g c = record {
  painted = c.in_ok-paint_tiles_in_row.ensures.painted;
  tally = met_row c.args.layer.now.size (rectangle_of c.args.rectangle) c.loop-row.row _ _ _ c.loop-row.invariant.tally c.paint_tiles_in_row.ensures.tally;
}

pub returns : goal.returns
returns g c =
    let s = c.args.layer.now.size in
    let r = rectangle_of c.args.rectangle in
    let layer = grid_of c.args.layer.now in
    let size = c.extent.ensures.layer.size in
    let end : c.loop-row.row ≡ last_row r + 1 = omega (arith, c.loop-row-test.false, c.loop-row.auto.row-end (omega (arith, rows_rise s r size c.requires.counted c.requires.within))) in
    let all = rows_within s r size c.requires.counted c.requires.within c.loop-row.row (omega (arith, end)) in
    let painted = are_painted_skip layer r c.args.cell (c.loop-row.row * tiles_across s) (tiles_in s) c.loop-row.patch all c.loop-row.invariant.painted
    (λ t from to. unmet_below s r size c.requires.counted c.requires.within t (subst (λ k. k * tiles_across s ≤ t) end from)) in
    record {
      size = painted.size;
      cells = are_painted_all layer r c.args.cell c.loop-row.patch size painted;
      met = λ t. (λ i. (painted.only t i).0, λ m. painted.there t m (subst (λ (u : ℕ). u < tiles_in s) m.tile (back s m.at size m.within).tile));
      tally = met_fewer s r 0 (c.loop-row.row * tiles_across s) (tiles_in s) all _ _ c.loop-row.invariant.tally;
    }
