use Rattle.std.proofs.Common.{◌≡◌, true, arith, inl, inr, subst}
use Rattle.std.proofs.lemmas.Bool.{cases_lt}
use Rattle.map_nums.specs.Grids.{Size, row_of}
use Rattle.region_labels.specs.Flood.{is_marked}
use Rattle.region_labels.specs.Lists.{labelled, flood_of}
use Rattle.region_labels.specs.Runs.{IsRunGrown, IsRunRow}
use Rattle.region_labels.proofs.Listing.{may_then}
use Rattle.region_labels.proofs.Running.{run_grown_then}
use Rattle.region_labels.proofs.first.reach_round.Goals as goal
use Rattle.region_labels.proofs.first.reach_round.Goals.{After-reach_row}

grown : (c : After-reach_row) → IsRunGrown c.args.list.now.size c.args.cells.now c.args.value c.args.at c.args.count (flood_of c.args.list.now) (flood_of c.reach_row.new.list)
grown c =
    let l = flood_of c.loop-r.list in
    let new = flood_of c.reach_row.new.list in
    let P : Size → Type 0 = λ z. IsRunGrown z c.args.cells.now c.args.value c.args.at c.args.count l new in
    run_grown_then c.args.list.now.size c.args.cells.now c.args.value c.args.at c.args.count (flood_of c.args.list.now) l new c.loop-r.invariant.grown (subst P c.loop-r.invariant.grown.extent c.reach_row.ensures.grown)

pub returns-in_err-reach_row-clause-grown : goal.returns-in_err-reach_row-clause-grown
returns-in_err-reach_row-clause-grown c = grown (goal.at.returns-in_err-reach_row-clause-grown c).After-reach_row

pub loop-r-preserved : goal.loop-r-preserved
loop-r-preserved c =
    let s = c.args.list.now.size in
    let new = c.reach_row.new.list in
    let i = c.loop-r.invariant in
    let P : Size → Type 0 = λ z. IsRunRow z c.args.cells.now c.args.value c.args.at c.args.count c.loop-r.r (labelled new.labels) in
    let near : P s = subst P i.grown.extent c.in_ok-reach_row.ensures.near in
    record {
      grown = grown (goal.at.loop-r-preserved c).After-reach_row;
      labels = may_then c.args.label c.args.list.now.labels c.loop-r.list.labels new.labels i.labels c.reach_row.ensures.labels;
      near = λ j l r a b e k. elim (cases_lt (row_of s j) c.loop-r.r) as (λ _. is_marked (labelled new.labels) j ≡ true) [
        | inl m ↦ c.reach_row.ensures.grown.marked j (i.near j l r a b e m)
        | inr m ↦ near j l (omega (arith, k, m)) a b e
      ];
    }
