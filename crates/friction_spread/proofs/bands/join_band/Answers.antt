use Rattle.std.proofs.Common.{◌≡◌, ◌+◌, ◌-◌, ◌*◌, ◌<◌, ◌++◌, List, ℕ, suc, length, length-append, take, drop, sym, ◌∙◌, ap, subst, arith}
use Rattle.std.specs.List.{Contains}
use Rattle.map_nums.specs.Grids.{Size}
use Rattle.friction_spread.specs.Flat.{costs_of}
use Rattle.friction_spread.specs.Joins.{IsAtSeam, AreCostsTo}
use Rattle.friction_spread.proofs.Banding.{own_rows, own_count, own_ends, own_cut, ends, joined}
use Rattle.friction_spread.proofs.bands.join_band.Goals as goal
use Rattle.friction_spread.proofs.bands.join_band.Goals.{In_ok-extend_from_slice}

made : (c : In_ok-extend_from_slice) → c.extend_from_slice.new.self.items ≡ c.args.costs.now.items ++ own_rows c.args.ground.now.size.columns c.args.first (c.args.first + c.args.band.now.rows) c.requires.band.from c.args.band.now.costs.items
made c =
    let r = c.requires.band in
    let end = c.args.first + c.args.band.now.rows in
    let width = c.columns-columns.ensures.columns ∙ ap (λ (s : Size). s.columns) c.extent.ensures.extent in
    let n = c.columns-columns.result in
    let start = c.args.band.now.above * n in
    c.in_ok-extend_from_slice.ensures.items
    ∙ ap (λ (xs : List ℕ). c.args.costs.now.items ++ xs) (ap (λ (xs : List ℕ). take (start + c.args.band.now.rows * n - start) (drop start xs)) c.deref.ensures.value
    ∙ own_cut c.args.ground.now c.args.first end r.from r.until c.extent.ensures.ground.size.some_column r.some (omega (arith, r.above)) r.below r.within c.args.band.now.above c.args.band.now.rows n r.above r.rows width c.args.band.now.costs.items)

pub slice_bounds-extend_from_slice-end : goal.slice_bounds-extend_from_slice-end
slice_bounds-extend_from_slice-end c =
    let r = c.requires.band in
    let end = c.args.first + c.args.band.now.rows in
    let width = c.columns-columns.ensures.columns ∙ ap (λ (s : Size). s.columns) c.extent.ensures.extent in
    omega (arith, ap length c.deref.ensures.value, r.count, own_ends c.args.ground.now c.args.first end r.from r.until c.extent.ensures.ground.size.some_column r.some (omega (arith, r.above)) r.below r.within c.args.band.now.above c.args.band.now.rows c.columns-columns.result r.above r.rows width)

pub push_seams-requires-clause-count : goal.push_seams-requires-clause-count
push_seams-requires-clause-count c =
    let r = c.requires.band in
    let gr = c.args.ground.now in
    let end = c.args.first + c.args.band.now.rows in
    let some_column = c.extent.ensures.ground.size.some_column in
    let band = own_rows gr.size.columns c.args.first end r.from c.args.band.now.costs.items in
    let e = ap length (c.deref-2.ensures.value ∙ made (goal.at.push_seams-requires-clause-count c).In_ok-extend_from_slice) in
    let own = own_count gr c.args.first end r.from r.until some_column r.some (omega (arith, r.above)) r.below r.within c.args.band.now.costs.items r.count in
    omega (arith, e, length-append c.args.costs.now.items band, c.requires.above.count, own, ends gr c.args.first end some_column r.some (omega (arith, r.below, r.within)))

pub returns-clause-joined : goal.returns-clause-joined
returns-clause-joined c =
    let gr = c.args.ground.now in
    let r = c.requires.band in
    let end = c.args.first + c.args.band.now.rows in
    let band = own_rows gr.size.columns c.args.first end r.from c.args.band.now.costs.items in
    let e : c.extend_from_slice.new.self.items ≡ c.args.costs.now.items ++ band = made (goal.at.returns-clause-joined c).In_ok-extend_from_slice in
    let f = c.deref-2.ensures.value ∙ e in
    let P : List ℕ → Type 0 = λ xs. AreCostsTo gr end xs c.push_seams.new.queue in
    let Q : List ℕ → Type 0 = λ xs. (i : ℕ) → IsAtSeam gr.size c.args.first end i → costs_of gr xs i < suc gr.limit → Contains c.push_seams.new.queue (costs_of gr xs i, i) in
    subst P (sym e) (joined gr c.args.first end r.from r.until c.extent.ensures.ground.size.some_column r.some (omega (arith, r.above)) r.below r.within c.args.costs.now.items c.args.band.now.costs.items c.args.queue.now c.push_seams.new.queue c.requires.above r.count r.least c.in_ok-push_seams.ensures.kept
    (subst Q f c.in_ok-push_seams.ensures.queued))
