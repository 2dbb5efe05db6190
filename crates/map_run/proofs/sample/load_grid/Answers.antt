use Rattle.std.proofs.Common.{refl, ◌∙◌}
use Rattle.std.proofs.lemmas.Result.{err_from_is_err_and}
use Rattle.map_nums.specs.Grids.{Grid}
use Rattle.map_machine.specs.Loads.{grid_load}
use Rattle.map_machine.specs.LoadReads.{grid_load_reads}
use Rattle.map_machine.specs.SampleGrids.{by_place}
use Rattle.map_sample.specs.Grids.{cell_in, name_of}
use Rattle.map_run.proofs.Rising.{rises_nothing, rises_after}
use Rattle.map_run.proofs.SampleLemmas.{grid_same}
use Rattle.map_run.proofs.StageLemmas.{opened_comes, opened_lacks}
use Rattle.map_run.proofs.sample.load_grid.Goals as goal

pub load_layer-requires-clause-whole : goal.load_layer-requires-clause-whole
load_layer-requires-clause-whole g c = λ lifetimes alive several. let made = c.made_grid.ensures.tally in (made.is_part_stays ∙ c.requires.whole.0, made.parts_out_stay ∙ c.requires.whole.1)

pub returns-in_err-name-clause-parts : goal.returns-in_err-name-clause-parts
returns-in_err-name-clause-parts g c = let made = c.made_grid.ensures.tally in (made.parts_out_stay, made.is_part_stays)

pub returns-in_err-reply-clause-parts : goal.returns-in_err-reply-clause-parts
returns-in_err-reply-clause-parts g c =
    let made = c.made_grid.ensures.tally in
    let loaded = c.in_err-reply.ensures.reads in
    (loaded.parts_out_stay ∙ made.parts_out_stay, loaded.is_part_stays ∙ made.is_part_stays)

pub returns-clause-parts : goal.returns-clause-parts
returns-clause-parts g c =
    let made = c.made_grid.ensures.tally in
    let loaded = c.in_ok-reply.ensures.reads in
    (loaded.parts_out_stay ∙ made.parts_out_stay, loaded.is_part_stays ∙ made.is_part_stays)

pub returns-in_err-name-clause-loads : goal.returns-in_err-name-clause-loads
returns-in_err-name-clause-loads g c =
    let p = err_from_is_err_and c.from_residual.result c.from_residual.ensures.1 in
    let s = c.args.session in
    let made = by_place c.args.side.count (cell_in c.args.grid) in
    let n = name_of c.args.grid in
    let none = rises_nothing (grid_load_reads s n made) (g.M.Tally.counts c.made_grid.new.tally) in
    rw (p.1, p.2) (opened_lacks (grid_load_reads s n made) (grid_load s n made) _ _ refl (rises_after (grid_load_reads s n made) _ _ _ c.made_grid.ensures.tally none))

pub returns-in_err-reply-clause-loads : goal.returns-in_err-reply-clause-loads
returns-in_err-reply-clause-loads g c =
    let p = err_from_is_err_and c.from_residual-in_err-reply.result c.from_residual-in_err-reply.ensures.1 in
    let s = c.args.session in
    let layer = c.in_ok-name.layer in
    let made : Grid = record { size = layer.size; cells = layer.cells } in
    let n = c.in_ok-name.name in
    rw (p.1, p.2) (grid_same s n (name_of c.args.grid) made (by_place c.args.side.count (cell_in c.args.grid)) _ _ _ c.in_ok-name.ensures.name c.in_ok-name.ensures.layer
    (opened_lacks (grid_load_reads s n made) (grid_load s n made) _ _ refl (rises_after (grid_load_reads s n made) _ _ _ c.made_grid.ensures.tally c.in_err-reply.ensures.reads)))

pub returns-clause-loads : goal.returns-clause-loads
returns-clause-loads g c =
    let s = c.args.session in
    let layer = c.in_ok-name.layer in
    let made : Grid = record { size = layer.size; cells = layer.cells } in
    let n = c.in_ok-name.name in
    let o = grid_load s n made in
    grid_same s n (name_of c.args.grid) made (by_place c.args.side.count (cell_in c.args.grid)) _ _ c.put_loaded.result c.in_ok-name.ensures.name c.in_ok-name.ensures.layer
    (opened_comes (grid_load_reads s n made) o _ _ c.put_loaded.result (c.put_loaded.ensures.loads s o c.in_ok-reply.ensures.loads) (rises_after (grid_load_reads s n made) _ _ _ c.made_grid.ensures.tally c.in_ok-reply.ensures.reads))
