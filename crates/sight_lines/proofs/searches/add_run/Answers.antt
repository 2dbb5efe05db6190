use Rattle.std.proofs.Common.{◌≡◌, ℕ, ◌+◌, ◌++◌, Option, filter, ◌∙◌, ap, subst, arith}
use Rattle.std.specs.List.{range_with_len}
use Rattle.std.proofs.lemmas.Result.{IfOk-weaker}
use Rattle.map_nums.specs.Grids.{Size, cells_in}
use Rattle.layer_tiles.specs.Tiles.{tile_of}
use Rattle.layer_tiles.specs.Runs.{run_length}
use Rattle.layer_tiles.specs.Changes.{cells_before}
use Rattle.layer_tiles.specs.Windows.{WindowState}
use Rattle.sight_lines.specs.Found.{IsTaken, is_between}
use Rattle.sight_lines.specs.Searches.{IsSlot}
use Rattle.sight_lines.specs.Viewed.{viewers_at}
use Rattle.sight_lines.proofs.Bands.{slot_lent, run_stays, run_kept}
use Rattle.sight_lines.proofs.Keeping.{found_few, found_kept, viewers_are}
use Rattle.sight_lines.proofs.searches.add_run.Goals as goal

pub run-requires-clause-lent : goal.run-requires-clause-lent
run-requires-clause-lent c =
    let w = subst (λ (o : Option WindowState). IsSlot c.args.kept.now c.args.of.now (tile_of c.args.of.now.size c.args.at) o) c.in-Some.is c.requires.slot in
    slot_lent c.args.of.now.size c.args.of.now.cells c.args.at c.in-Some.window w c.extent-extent.ensures.size c.requires.within

pub add_cells-requires-clause-few : goal.add_cells-requires-clause-few
add_cells-requires-clause-few c =
    let w = subst (λ (o : Option WindowState). IsSlot c.args.kept.now c.args.of.now (tile_of c.args.of.now.size c.args.at) o) c.in-Some.is c.requires.slot in
    let size = c.extent-extent.ensures.size in
    omega (arith, c.run.ensures.count, ap (λ (v : WindowState). run_length v.size c.args.at) w, run_stays c.args.of.now.size c.args.at size c.requires.within, size.most_cells, found_few c.args.of.now.cells c.args.at c.args.pairs.now.items c.args.count c.requires.found)

pub add_cells-requires-clause-within : goal.add_cells-requires-clause-within
add_cells-requires-clause-within c =
    let w = subst (λ (o : Option WindowState). IsSlot c.args.kept.now c.args.of.now (tile_of c.args.of.now.size c.args.at) o) c.in-Some.is c.requires.slot in
    let size = c.extent-extent.ensures.size in
    omega (arith, c.run.ensures.count, ap (λ (v : WindowState). run_length v.size c.args.at) w, run_stays c.args.of.now.size c.args.at size c.requires.within, size.most_cells)

pub add_kept-requires-clause-count : goal.add_kept-requires-clause-count
add_kept-requires-clause-count c =
    let size = c.extent-extent.ensures.size in
    omega (arith, c.requires.within, size.most_cells, found_few c.args.of.now.cells c.args.at c.args.pairs.now.items c.args.count c.requires.found)

pub returns-in-None : goal.returns-in-None
returns-in-None c =
    let s = c.args.of.now.size in
    let at = c.args.at in
    let cells = c.args.of.now.cells in
    let old = subst (λ (o : Option WindowState). IsSlot c.args.kept.now c.args.of.now (tile_of s at) o) c.in-None.is c.requires.slot in
    let n : c.run_length.result ≡ run_length s at = c.run_length.ensures.length ∙ ap (λ (z : Size). run_length z at) c.extent-extent.ensures.extent in
    IfOk-weaker c.add_kept.result _ _
    (λ found more. found_kept (cells_before c.args.of.now) cells at (run_length s at) (cells_in s) c.args.kept.now c.add_kept.new.pairs.items found
    (run_stays s at c.extent-extent.ensures.size c.requires.within) (old.0 ∙ viewers_are s (cells_before c.args.of.now))
    (run_kept c.args.of.now at c.extent-extent.ensures.change c.requires.within old.1)
    (subst (λ (k : ℕ). IsTaken (viewers_at cells (range_with_len 0 at) ++ filter (is_between at (at + k)) c.args.kept.now) c.add_kept.new.pairs.items found) n (more (viewers_at cells (range_with_len 0 at)) c.requires.found)))
    c.add_kept.ensures
