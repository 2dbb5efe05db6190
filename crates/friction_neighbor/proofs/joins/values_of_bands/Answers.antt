use Rattle.std.proofs.Common.{◌≡◌, ℕ, ◌+◌, ◌<◌, ◌++◌, length, take, drop, sym, ◌∙◌, ap, subst, arith}
use Rattle.std.proofs.Math.Seq.{take-append_seam}
use Rattle.map_nums.specs.Grids.{Cells, cell_at, cells_in}
use Rattle.layer_tiles.specs.Cells.{AreCells}
use Rattle.tile_work.specs.PlaceSets.{PlaceSetState}
use Rattle.friction_neighbor.specs.Bands.{IsOwnBand, AreBandsOf}
use Rattle.friction_neighbor.specs.Joins.{AreReadyTo, IsListRepair}
use Rattle.friction_neighbor.specs.Puts.{is_marked}
use Rattle.friction_neighbor.proofs.Begun.{unmarked_all}
use Rattle.friction_neighbor.proofs.Joining.{as_many, next_band, no_more_bands, none_ready, repair_from}
use Rattle.friction_neighbor.proofs.joins.values_of_bands.Goals as goal
use Rattle.friction_neighbor.proofs.joins.values_of_bands.Goals.{After-deref, After-loop-k, In_ok-settle}

pub loop-k-init : goal.loop-k-init
loop-k-init c = record {
  left = c.requires.bands;
  ready = none_ready c.args.field.now c.in_ok-values.values.items c.new-queue.result c.in_ok-seen.seen
      (ap (λ (p : PlaceSetState). p.size) c.in_ok-seen.ensures ∙ c.extent-extent.ensures.extent)
      (λ i. ap (λ (p : PlaceSetState). is_marked p i) c.in_ok-seen.ensures ∙ unmarked_all (cells_in c.extent-extent.result) i)
      c.in_ok-values.ensures.items c.new-queue.ensures;
}

pub bounds-parts-k : goal.bounds-parts-k
bounds-parts-k c = omega (arith, c.loop-k-test.true, as_many c.args.field.now.ground 0 c.args.bands.now c.args.parts.now c.requires.bands)

next : (c : After-deref) → IsOwnBand c.args.field.now.ground c.loop-k.first (c.loop-k.first + c.index-bands-k.result.rows) c.index-bands-k.result c.index-parts-k.result.items × AreBandsOf c.args.field.now.ground (c.loop-k.first + c.index-bands-k.result.rows) (drop (c.loop-k.k + 1) c.args.bands.now) (drop (c.loop-k.k + 1) c.args.parts.now)
next c =
    let some : c.loop-k.k < length c.args.parts.now = omega (arith, c.loop-k-test.true, as_many c.args.field.now.ground 0 c.args.bands.now c.args.parts.now c.requires.bands) in
    next_band c.args.field.now.ground c.loop-k.first c.loop-k.k c.args.bands.now c.args.parts.now c.index-bands-k.result c.index-parts-k.result c.loop-k-test.true some c.index-bands-k.is c.index-parts-k.is c.loop-k.invariant.left

pub take_band-requires-clause-band : goal.take_band-requires-clause-band
take_band-requires-clause-band c =
    let P : Cells → Type 0 = IsOwnBand c.args.field.now.ground c.loop-k.first (c.loop-k.first + c.index-bands-k.result.rows) c.index-bands-k.result in
    subst P (sym c.deref.ensures.value) (next (goal.at.take_band-requires-clause-band c).After-deref).0

pub loop-k-preserved : goal.loop-k-preserved
loop-k-preserved c =
    let P : ℕ → Type 0 = λ row. AreBandsOf c.args.field.now.ground row (drop (c.loop-k.k + 1) c.args.bands.now) (drop (c.loop-k.k + 1) c.args.parts.now) in
    record { left = subst P (sym c.in_ok-first.ensures.end) (next (goal.at.loop-k-preserved c).After-deref).1; ready = c.in_ok-first.ensures.ready }

all_ready : (c : After-loop-k) → AreReadyTo c.args.field.now c.args.field.now.ground.size.rows c.loop-k.values.items c.loop-k.queue c.loop-k.seen
all_ready c =
    let P : ℕ → Type 0 = λ row. AreReadyTo c.args.field.now row c.loop-k.values.items c.loop-k.queue c.loop-k.seen in
    subst P (no_more_bands c.args.field.now.ground c.loop-k.first c.loop-k.k c.args.bands.now c.args.parts.now c.loop-k-test.false c.loop-k.invariant.left) c.loop-k.invariant.ready

pub settle-requires : goal.settle-requires
settle-requires c =
    let P : Cells → Type 0 = λ xs. IsListRepair c.args.field.now xs xs c.loop-k.seen c.loop-k.queue in
    record { begun = subst P (sym c.deref_mut.ensures.value) (repair_from c.args.field.now c.extent-extent.ensures.field c.loop-k.values.items c.loop-k.queue c.loop-k.seen (all_ready (goal.at.settle-requires c).After-loop-k)) }

-- the values are those that were settled
settled : (c : In_ok-settle) → take c.loop-k.values.len (c.settle.new.values ++ drop (length c.settle.new.values) c.loop-k.values.items) ≡ c.settle.new.values
settled c =
    let rest = drop (length c.settle.new.values) c.loop-k.values.items in
    let e : c.loop-k.values.len ≡ length c.settle.new.values = omega (arith, c.deref_mut.ensures.len, c.in_ok-settle.ensures.count) in
    ap (λ n. take n (c.settle.new.values ++ rest)) e ∙ take-append_seam c.settle.new.values rest

pub returns-clause-count : goal.returns-clause-count
returns-clause-count c =
    let e = settled (goal.at.returns-clause-count c).In_ok-settle in
    ap length e ∙ c.in_ok-settle.ensures.count ∙ ap length c.deref_mut.ensures.value ∙ (all_ready (goal.at.returns-clause-count c).After-loop-k).count

pub returns-clause-cells : goal.returns-clause-cells
returns-clause-cells c = subst AreCells (sym (settled (goal.at.returns-clause-cells c).In_ok-settle)) c.in_ok-settle.ensures.cells

pub returns-clause-right : goal.returns-clause-right
returns-clause-right c = λ i. let e = settled (goal.at.returns-clause-right c).In_ok-settle in ap (λ (xs : Cells). cell_at xs i) e ∙ c.in_ok-settle.ensures.right i
