use Rattle.std.proofs.Common.{◌≡◌, ℕ, ◌+◌, ◌-◌, ◌*◌, ◌≤◌, sym, ap, subst, ◌∙◌, arith}
use Rattle.map_nums.specs.Grids.{Size, row_of, column_of}
use Rattle.region_labels.specs.Flood.{IsGrown}
use Rattle.region_labels.specs.Lists.{labelled, flood_of}
use Rattle.region_labels.specs.Runs.{IsClose, IsRunGrown}
use Rattle.region_labels.proofs.Listing.{may_stay, may_then}
use Rattle.region_labels.proofs.Running.{next_place, run_grown_none, run_grown_from, run_row_more, row_begun, row_passed}
use Rattle.region_labels.proofs.first.reach_row.Goals as goal
use Rattle.region_labels.proofs.first.reach_row.Goals.{After-reach_run}

pub reach_run-requires-clause-row : goal.reach_run-requires-clause-row
reach_run-requires-clause-row c =
    let s = c.args.list.now.size in
    let n = c.columns-columns.result in
    let row = c.args.row in
    let next = c.loop-next.next in
    let e : n ≡ s.columns = c.columns-columns.ensures.columns ∙ ap (λ (z : Size). z.columns) c.extent.ensures.extent in
    let p = next_place s row n (c.args.run.now.column + c.args.run.now.count + 1) next e c.requires.row c.loop-next.invariant.begun (omega (arith, c.loop-next-test.true, c.min.ensures)) in
    let same : (row_of s next + 1) * s.columns ≡ (row + 1) * n = ap (λ q. (q + 1) * s.columns) p.row_is ∙ ap (λ x. (row + 1) * x) (sym e) in
    subst (λ (z : Size). row * n + n ≤ (row_of z next + 1) * z.columns) (sym c.loop-next.invariant.grown.extent) (omega (arith, same))

grown : (c : After-reach_run) → IsRunGrown c.args.list.now.size c.args.cells.now c.args.value c.args.run.now.at c.args.run.now.count (flood_of c.args.list.now) (flood_of c.reach_run.new.list)
grown c =
    let s = c.args.list.now.size in
    let n = c.columns-columns.result in
    let next = c.loop-next.next in
    let l = flood_of c.loop-next.list in
    let new = flood_of c.reach_run.new.list in
    let i = c.loop-next.invariant in
    let e : n ≡ s.columns = c.columns-columns.ensures.columns ∙ ap (λ (z : Size). z.columns) c.extent.ensures.extent in
    let p = next_place s c.args.row n (c.args.run.now.column + c.args.run.now.count + 1) next e c.requires.row i.begun (omega (arith, c.loop-next-test.true, c.min.ensures)) in
    let P : Size → Type 0 = λ z. (from : ℕ) → IsClose z from next → IsGrown z c.args.cells.now c.args.value from l new in
    run_grown_from s c.args.cells.now c.args.value c.args.run.now.at c.args.run.now.count c.args.row next (flood_of c.args.list.now) l new c.extent.ensures.size c.requires.some (omega (arith, c.requires.run, c.requires.column)) c.requires.close p.row_is
    (omega (arith, p.column_is, i.least, i.begun, c.requires.column)) (omega (arith, p.column_is, c.loop-next-test.true, c.min.ensures, c.requires.column, i.begun)) i.grown (subst P i.grown.extent c.reach_run.ensures.grown)

pub returns-in_err-past-clause-grown : goal.returns-in_err-past-clause-grown
returns-in_err-past-clause-grown c = grown (goal.at.returns-in_err-past-clause-grown c).After-reach_run

pub loop-next-init : goal.loop-next-init
loop-next-init c =
    let s = c.args.list.now.size in
    let n = c.columns-columns.result in
    let row = c.args.row in
    let labels = c.args.list.now.labels in
    let first = row * n + c.saturating_sub.result in
    let bare = c.bare_from-next.ensures in
    let e : n ≡ s.columns = c.columns-columns.ensures.columns ∙ ap (λ (z : Size). z.columns) c.extent.ensures.extent in
    let begins : first ≡ row * s.columns + (column_of s c.args.run.now.at - 1) = omega (arith, ap (λ x. row * x) e, c.saturating_sub.ensures, c.requires.column) in
    record {
      grown = run_grown_none s c.args.cells.now c.args.value c.args.run.now.at c.args.run.now.count (flood_of c.args.list.now);
      labels = may_stay c.args.label labels;
      near = row_passed s c.args.cells.now c.args.value c.args.run.now.at c.args.run.now.count row first first _ c.bare_from-next.result labels (row_begun s c.args.cells.now c.args.value c.args.run.now.at c.args.run.now.count row first (labelled labels) begins) (omega arith) bare;
      begun = omega (arith, bare.least);
      least = omega (arith, bare.least, c.saturating_sub.ensures);
      most = omega (arith, bare.most, c.min.ensures);
    }

pub loop-next-preserved : goal.loop-next-preserved
loop-next-preserved c =
    let s = c.args.list.now.size in
    let n = c.columns-columns.result in
    let row = c.args.row in
    let next = c.loop-next.next in
    let stop = c.in_ok-past.field-0 in
    let l = c.loop-next.list in
    let new = c.reach_run.new.list in
    let i = c.loop-next.invariant in
    let run = c.in_ok-past.ensures.run in
    let least = c.min-in-loop-next.ensures in
    let bare = c.bare_from-next-in-loop-next.ensures in
    let e : n ≡ s.columns = c.columns-columns.ensures.columns ∙ ap (λ (z : Size). z.columns) c.extent.ensures.extent in
    let near = run_row_more s c.args.cells.now c.args.value c.args.run.now.at c.args.run.now.count row next (row * n + n) stop (labelled l.labels) (labelled new.labels) c.extent.ensures.size (ap (λ x. row * x + x) e) (c.reach_run.ensures.grown next (omega arith, omega arith)).marked run i.near in
    record {
      grown = grown (goal.at.loop-next-preserved c).After-reach_run;
      labels = may_then c.args.label c.args.list.now.labels l.labels new.labels i.labels c.reach_run.ensures.labels;
      near = row_passed s c.args.cells.now c.args.value c.args.run.now.at c.args.run.now.count row (stop + 1) c.min-in-loop-next.result _ c.bare_from-next-in-loop-next.result new.labels near (omega (arith, least)) bare;
      begun = omega (arith, i.begun, run.least, least, bare.least, c.loop-next-test.true);
      least = omega (arith, i.least, run.least, least, bare.least, c.loop-next-test.true);
      most = omega (arith, bare.most, c.min.ensures);
    }
