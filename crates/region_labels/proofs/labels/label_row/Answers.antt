use Rattle.std.proofs.Common.{◌≡◌, ℕ, ◌+◌, ◌-◌, ◌*◌, ◌<◌, ◌≤◌, min, ap, arith, ◌∙◌, ℤ, subst}
use Rattle.map_nums.specs.Grids.{column_of, gap}
use Rattle.layer_tiles.proofs.Rising.{rises_then, rises_within}
use Rattle.tile_work.specs.Working.{copies}
use Rattle.region_labels.specs.Flood.{marks_in, IsJoined}
use Rattle.region_labels.specs.Touched.{IsReachedFrom, IsMarkedFor}
use Rattle.region_labels.proofs.Causes.{marked_then, marked_wider, reached_beside}
use Rattle.region_labels.proofs.Rows.{IsPlace, place_of}
use Rattle.region_labels.proofs.Labelling.{same_then, step_then, row_handled}
use Rattle.std.proofs.lemmas.Result.{MatchResult-from_err}
use Rattle.region_labels.specs.Copies.{IsWitness, CopiesWith}
use Rattle.region_labels.proofs.Copying.{from_then}
use Rattle.region_labels.proofs.labels.label_row.Given.{Over}
use Rattle.region_labels.proofs.labels.label_row.Goals.{After-label_region}
use Rattle.region_labels.proofs.labels.label_row.Goals as goal

beside : (x n l h c : ℕ) → l ≡ x - 1 → h ≡ min (x + 2) n → l ≤ c → c < h → gap x c ≤ 1
beside x n l h c e f a b = omega arith

below : (x n h c : ℕ) → h ≡ min (x + 2) n → c < h → c < n
below x n h c f b = omega arith

few : (x n l h k : ℕ) → l ≡ x - 1 → h ≡ min (x + 2) n → k < h → k - l + 1 ≤ 3
few x n l h k e f m = omega arith

caused_on : (g : Over) (c : After-label_region g) → IsMarkedFor (IsReachedFrom c.args.of.now.size c.args.of.now.cells c.args.from) c.args.flood.now.marks c.label_region.new.flood.marks
caused_on g c =
    let s = c.args.of.now.size in
    let cells = c.args.of.now.cells in
    let mb = c.loop-c.flood.marks in
    let mc = c.label_region.new.flood.marks in
    marked_then (IsReachedFrom c.args.of.now.size c.args.of.now.cells c.args.from) c.args.flood.now.marks mb mc c.loop-c.invariant.caused
    (let n = c.columns-columns.result in
    let e : n ≡ s.columns = c.columns-columns.ensures.columns ∙ ap (λ z. z.columns) c.extent-extent.ensures.extent in
    let x = c.column_of-column.result in
    let at : x ≡ column_of s c.args.from = c.column_of-column.ensures.column ∙ ap (λ z. column_of z c.args.from) c.extent-extent.ensures.extent in
    let k = c.loop-c.c in
    let j = c.args.row * n + k in
    let p : IsPlace s c.args.row k j = place_of s c.args.row k n e c.requires.row (rw (← e) (below x n c.min-high.result k c.min-high.ensures c.loop-c-test.true)) in
    let q : gap (column_of s c.args.from) k ≤ 1 = subst (λ d. gap d k ≤ 1) at (beside x n c.saturating_sub-low.result c.min-high.result k c.saturating_sub-low.ensures c.min-high.ensures c.loop-c.auto.c c.loop-c-test.true) in
    marked_wider (λ i. (y : ℤ) × IsJoined s cells y j i) (IsReachedFrom s cells c.args.from) mb mc (λ i w. reached_beside s cells c.args.from c.args.row k j i p c.requires.close q w) c.label_region.ensures.caused)

copied_on : (g : Over) (c : After-label_region g) → CopiesWith c.args.of.now.size c.args.of.now.cells c.args.labels.now.cells c.args.flood.now.marks c.args.labels.now.copied c.label_region.new.labels.copied
copied_on g c = λ begun l.
    from_then (IsWitness c.args.of.now.size c.args.of.now.cells begun) c.args.labels.now.copied c.loop-c.labels.copied c.label_region.new.labels.copied (c.loop-c.invariant.copied begun l) (c.label_region.ensures.copied begun (c.loop-c.invariant.step.keeps begun l))

pub loop-c-preserved : goal.loop-c-preserved
loop-c-preserved g c =
    let s = c.args.of.now.size in
    let cells = c.args.of.now.cells in
    let n = c.columns-columns.result in
    let e : n ≡ s.columns = c.columns-columns.ensures.columns ∙ ap (λ z. z.columns) c.extent-extent.ensures.extent in
    let x = c.column_of-column.result in
    let at : x ≡ column_of s c.args.from = c.column_of-column.ensures.column ∙ ap (λ z. column_of z c.args.from) c.extent-extent.ensures.extent in
    let k = c.loop-c.c in
    let j = c.args.row * n + k in
    let p : IsPlace s c.args.row k j = place_of s c.args.row k n e c.requires.row (rw (← e) (below x n c.min-high.result k c.min-high.ensures c.loop-c-test.true)) in
    let q : gap (column_of s c.args.from) k ≤ 1 = subst (λ d. gap d k ≤ 1) at (beside x n c.saturating_sub-low.result c.min-high.result k c.saturating_sub-low.ensures c.min-high.ensures c.loop-c.auto.c c.loop-c-test.true) in
    let a = c.loop-c.invariant in
    let b = c.label_region.ensures in
    let ok = c.in_ok-label_region.ensures.ok in
    let la = c.args.labels.now in
    let lb = c.loop-c.labels in
    let lc = c.label_region.new.labels in
    let ma = c.args.flood.now.marks in
    let mb = c.loop-c.flood.marks in
    let mc = c.label_region.new.flood.marks in
    record {
      same = same_then la lb lc a.same b.same;
      extent = c.label_region.ensures.extent ∙ c.loop-c.invariant.extent;
      step = step_then s cells la.cells lb.cells lc.cells ma mb mc a.step ok;
      handled = row_handled s cells c.args.from c.args.row k j mb mc p ok.marked c.in_ok-label_region.ensures.handled a.handled;
      more = omega (arith, a.more, b.more);
      picks = rises_within (copies lb.copied - copies la.copied + (copies lc.copied - copies lb.copied)) (k - c.saturating_sub-low.result + 10 * (marks_in mb - marks_in ma) + (1 + 10 * (marks_in mc - marks_in mb))) (copies lc.copied - copies la.copied) (k + 1 - c.saturating_sub-low.result + 10 * (marks_in mc - marks_in ma)) _ _ (omega (arith, a.more, b.more)) (omega (arith, a.step.more, ok.more, c.loop-c.auto.c))
          (rises_then (copies lb.copied - copies la.copied) (k - c.saturating_sub-low.result + 10 * (marks_in mb - marks_in ma)) (copies lc.copied - copies lb.copied) (1 + 10 * (marks_in mc - marks_in mb)) _ _ _ a.picks c.in_ok-label_region.ensures.picks);
      caused = caused_on g (goal.at.loop-c-preserved g c).After-label_region;
      copied = copied_on g (goal.at.loop-c-preserved g c).After-label_region;
    }

pub label_region-requires-clause-extent : goal.label_region-requires-clause-extent
label_region-requires-clause-extent g c = c.loop-c.invariant.extent ∙ c.requires.extent

pub returns-in_err-label_region-clause-extent : goal.returns-in_err-label_region-clause-extent
returns-in_err-label_region-clause-extent g c = c.label_region.ensures.extent ∙ c.loop-c.invariant.extent

pub returns-clause-extent : goal.returns-clause-extent
returns-clause-extent g c = c.loop-c.invariant.extent

pub returns-in_err-label_region-clause-caused : goal.returns-in_err-label_region-clause-caused
returns-in_err-label_region-clause-caused g c = caused_on g (goal.at.returns-in_err-label_region-clause-caused g c).After-label_region

pub returns-in_err-label_region-clause-copied : goal.returns-in_err-label_region-clause-copied
returns-in_err-label_region-clause-copied g c = copied_on g (goal.at.returns-in_err-label_region-clause-copied g c).After-label_region

pub returns-in_err-label_region-clause-grows : goal.returns-in_err-label_region-clause-grows
returns-in_err-label_region-clause-grows g c = omega (arith, c.loop-c.invariant.step.more, c.label_region.ensures.grows)

pub returns-clause-grows : goal.returns-clause-grows
returns-clause-grows g c = c.loop-c.invariant.step.more

pub returns-in_err-label_region-clause-wanted : goal.returns-in_err-label_region-clause-wanted
returns-in_err-label_region-clause-wanted g c =
    let la = c.args.labels.now in
    let lb = c.loop-c.labels in
    let lc = c.label_region.new.labels in
    let ma = c.args.flood.now.marks in
    let mb = c.loop-c.flood.marks in
    let mc = c.label_region.new.flood.marks in
    let a = c.loop-c.invariant in
    MatchResult-from_err c.from_residual.result _ _ c.from_residual.ensures.0
    (λ _. rises_within (copies lb.copied - copies la.copied + (copies lc.copied - copies lb.copied + 1)) ((c.loop-c.c - c.saturating_sub-low.result) + 10 * (marks_in mb - marks_in ma) + (1 + 10 * (marks_in mc - marks_in mb))) (copies lc.copied - copies la.copied + 1) (3 + 10 * (marks_in mc - marks_in ma)) _ _ (omega (arith, a.more, c.label_region.ensures.more)) (omega (arith, a.step.more, c.label_region.ensures.grows, few c.column_of-column.result c.columns-columns.result c.saturating_sub-low.result c.min-high.result c.loop-c.c c.saturating_sub-low.ensures c.min-high.ensures c.loop-c-test.true))
    (rises_then (copies lb.copied - copies la.copied) ((c.loop-c.c - c.saturating_sub-low.result) + 10 * (marks_in mb - marks_in ma)) (copies lc.copied - copies lb.copied + 1) (1 + 10 * (marks_in mc - marks_in mb)) _ _ _ a.picks c.in_err-label_region.ensures.wanted))
