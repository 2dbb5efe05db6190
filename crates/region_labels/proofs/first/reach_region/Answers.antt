use Rattle.std.proofs.Common.{◌≡◌, ℕ, ◌+◌, ◌<◌, ◌≤◌, ◌++◌, ◌∷◌, [], List, true, length, get_or, ℤ, Some, ap, subst, sym, ◌∙◌, arith}
use Rattle.std.specs.Prelude.{is_some, slice_set}
use Rattle.std.proofs.lemmas.List.{length-map}
use Rattle.map_nums.specs.Grids.{Size, cells_in, column_of}
use Rattle.region_labels.specs.Flood.{IsFlooding}
use Rattle.region_labels.specs.Runs.{IsRunGrown, IsRunRound}
use Rattle.region_labels.specs.Lists.{ListState, labelled, flood_of}
use Rattle.region_labels.proofs.Rows.{few_found, some_value, less, region_begun, region_done}
use Rattle.region_labels.proofs.Listing.{labelled_at, flood_added, may_then, may_added}
use Rattle.region_labels.proofs.Running.{run_next}
use Rattle.region_labels.proofs.first.reach_region.Goals as goal
use Rattle.region_labels.proofs.first.reach_region.Goals.{After-found-in-loop-head}

pub loop-head-init : goal.loop-head-init
loop-head-init c =
    let s = c.args.list.now.size in
    let old = c.args.list.now in
    let cleared = c.clear.new.self in
    let new = c.add.new.self in
    let root = c.args.root in
    let e : flood_of new ≡ record (flood_of cleared) { marks = slice_set (labelled cleared.labels) root true; found = cleared.found ++ root ∷ [] } = ap flood_of c.in_ok-add.ensures.ok ∙ flood_added c.args.label root cleared c.requires.label in
    let labels : new.labels ≡ slice_set old.labels root c.args.label = ap (λ (l : ListState). l.labels) c.in_ok-add.ensures.ok ∙ ap (λ (l : ListState). slice_set l.labels root c.args.label) c.clear.ensures in
    record {
      floods = λ z v. region_begun s c.args.cells.now z root s (labelled old.labels) (flood_of cleared) (flood_of new) (length-map old.labels is_some ∙ c.extent-extent.ensures.count) (c.requires.within, c.requires.cell ∙ v) (labelled_at old.labels root ∙ c.requires.new) (ap flood_of c.clear.ensures) e;
      round = λ z v k l. absurd (omega (arith, l));
      extent = ap (λ (l : ListState). l.size) c.in_ok-add.ensures.ok ∙ ap (λ (l : ListState). l.size) c.clear.ensures;
      labels = may_added c.args.label old.labels new.labels root (omega (arith, c.requires.within, c.extent-extent.ensures.count)) c.requires.new labels;
      head = omega arith;
    }

flooding : (c : After-found-in-loop-head) → (z : ℤ) × (c.args.value ≡ Some z) × IsFlooding c.args.list.now.size c.args.cells.now z c.args.root (labelled c.args.list.now.labels) (flood_of c.loop-head.list)
flooding c = let v = some_value c.args.value c.requires.some in (v.0, v.1, c.loop-head.invariant.floods v.0 v.1)

head_lt : (c : After-found-in-loop-head) → c.loop-head.head < length c.loop-head.list.found
head_lt c = rw (← c.found.ensures) c.loop-head-test.true

pub loop-head-smaller : goal.loop-head-smaller
loop-head-smaller c =
    let d = (goal.at.loop-head-smaller c).After-found-in-loop-head in
    let f = flooding d in
    less (cells_in c.args.list.now.size) c.loop-head.head c.run_from-count.result (length c.loop-head.list.found) c.run_from-count.ensures.run.some (head_lt d) (few_found c.args.list.now.size c.args.cells.now f.0 c.args.root (labelled c.args.list.now.labels) (flood_of c.loop-head.list) f.2)

pub loop-head-preserved : goal.loop-head-preserved
loop-head-preserved c =
    let s = c.args.list.now.size in
    let cells = c.args.cells.now in
    let value = c.args.value in
    let head = c.loop-head.head in
    let count = c.run_from-count.result in
    let i = c.loop-head.invariant in
    let old = c.loop-head.list in
    let new = c.reach_round.new.list in
    let run = c.run_from-count.ensures.run in
    let at = get_or c.found-in-loop-head.result.now head 0 in
    let at_is : at ≡ get_or old.found head 0 = ap (λ (xs : List ℕ). get_or xs head 0) c.found-in-loop-head.ensures in
    let column : c.column_of.result ≡ column_of s at = c.column_of.ensures.column ∙ ap (λ (z : Size). column_of z at) c.extent-extent.ensures.extent in
    let columns : c.columns.result ≡ s.columns = c.columns.ensures.columns ∙ ap (λ (z : Size). z.columns) c.extent-extent.ensures.extent in
    let fits : column_of s at + count ≤ s.columns = omega (arith, c.run_from-count.ensures.most, column, columns, c.column_of.ensures.within, c.columns.ensures.columns) in
    let grown : IsRunGrown s cells value at count (flood_of old) (flood_of new) = subst (λ (z : Size). IsRunGrown z cells value at count (flood_of old) (flood_of new)) i.extent c.reach_round.ensures.grown in
    let near : IsRunRound s cells value at count (labelled new.labels) = subst (λ (z : Size). IsRunRound z cells value at count (labelled new.labels)) i.extent c.in_ok-reach_round.ensures.near in
    record {
      floods = λ z e. grown.floods z c.args.root (labelled c.args.list.now.labels) e (i.floods z e) (λ k l. (head + k, omega (arith, run.within, l), run.each k l ∙ ap (λ x. x + k) (sym at_is)));
      round = λ z e. run_next s cells z value head count at (flood_of old) (flood_of new) c.extent-extent.ensures.size e at_is run fits grown near (i.round z e);
      extent = grown.extent ∙ i.extent;
      labels = may_then c.args.label c.args.list.now.labels old.labels new.labels i.labels c.reach_round.ensures.labels;
      head = omega (arith, run.within, grown.grows);
    }

pub returns-clause-ok : goal.returns-clause-ok
returns-clause-ok c = λ z e. region_done c.args.list.now.size c.args.cells.now z c.args.root c.loop-head.head (labelled c.args.list.now.labels) (flood_of c.loop-head.list) (c.loop-head.invariant.floods z e) (c.loop-head.invariant.round z e) (rw (← c.found.ensures) c.loop-head-test.false)
