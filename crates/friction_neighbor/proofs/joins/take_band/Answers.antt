use Rattle.std.proofs.Common.{ℕ, ◌+◌, ◌++◌, sym, ◌∙◌, ap, subst}
use Rattle.map_nums.specs.Grids.{Size, Cells}
use Rattle.friction_neighbor.specs.Joins.{AreReadyTo}
use Rattle.friction_neighbor.proofs.Joining.{own_ends, own_cut, ready}
use Rattle.friction_neighbor.proofs.joins.take_band.Goals as goal

pub slice_bounds-extend_from_slice-end : goal.slice_bounds-extend_from_slice-end
slice_bounds-extend_from_slice-end c =
    let width = c.columns-columns.ensures.columns ∙ ap (λ (s : Size). s.columns) c.extent.ensures.extent in
    own_ends c.args.field.now c.extent.ensures.field c.args.first (c.args.first + c.args.band.now.rows) c.args.band.now c.requires.band.are_costs c.above.result c.rows.result c.columns-columns.result c.above.ensures c.rows.ensures width c.args.part.now c.requires.band.are_values.count

pub returns-clause-ready : goal.returns-clause-ready
returns-clause-ready c =
    let f = c.args.field.now in
    let band = c.args.band.now in
    let end = c.args.first + band.rows in
    let own = c.requires.band in
    let old = c.args.values.now.items in
    let width = c.columns-columns.ensures.columns ∙ ap (λ (s : Size). s.columns) c.extent.ensures.extent in
    let made = c.in_ok-extend_from_slice.ensures.items ∙ ap (λ (xs : Cells). old ++ xs) (own_cut f c.extent.ensures.field c.args.first end band own.are_costs c.above.result c.rows.result c.columns-columns.result c.above.ensures c.rows.ensures width c.args.part.now) in
    let P : Cells → Type 0 = λ xs. AreReadyTo f end xs c.mark_band.new.queue c.mark_band.new.seen in
    let Q : ℕ → Type 0 = λ n. AreReadyTo f (c.args.first + n) c.extend_from_slice.new.self.items c.mark_band.new.queue c.mark_band.new.seen in
    subst Q (sym c.rows-2.ensures) (subst P (sym made) (ready f c.extent.ensures.field c.args.first end band own.are_costs c.args.part.now own.are_values old c.args.queue.now c.mark_band.new.queue c.args.seen.now c.mark_band.new.seen c.requires.ready c.in_ok-mark_band.ensures.put c.in_ok-mark_band.ensures.marked))
