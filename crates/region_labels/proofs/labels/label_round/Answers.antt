use Rattle.std.proofs.Common.{◌≡◌, ◌⊎◌, inl, inr, ℕ, ◌+◌, ◌-◌, ◌*◌, ◌<◌, ◌≤◌, true, min, ap, arith, ◌∙◌, refl}
use Rattle.std.proofs.lemmas.Bool.{cases_lt}
use Rattle.map_nums.specs.Grids.{Size, column_of, row_of, gap, is_neighbour}
use Rattle.layer_tiles.proofs.Rising.{rises_then, rises_within}
use Rattle.tile_work.specs.Working.{copies}
use Rattle.region_labels.specs.Flood.{is_marked, marks_in}
use Rattle.region_labels.specs.Touched.{IsMarkedFor, IsReachedFrom}
use Rattle.region_labels.proofs.Causes.{marked_then}
use Rattle.region_labels.proofs.Walks.{near_is}
use Rattle.region_labels.proofs.Rows.{row_lt, in_round}
use Rattle.region_labels.proofs.Labelling.{same_then, step_then}
use Rattle.std.proofs.lemmas.Result.{MatchResult-from_err}
use Rattle.region_labels.specs.Copies.{IsWitness, CopiesWith}
use Rattle.region_labels.proofs.Copying.{from_then}
use Rattle.region_labels.proofs.labels.label_round.Given.{Over}
use Rattle.region_labels.proofs.labels.label_round.Goals.{After-label_row}
use Rattle.region_labels.proofs.labels.label_round.Goals as goal

few : (x n l h k : ℕ) → l ≡ x - 1 → h ≡ min (x + 2) n → k < h → k - l + 1 ≤ 3
few x n l h k e f m = omega arith

caused_on : (g : Over) (c : After-label_row g) → IsMarkedFor (IsReachedFrom c.args.of.now.size c.args.of.now.cells c.args.from) c.args.flood.now.marks c.label_row.new.flood.marks
caused_on g c =
    let s = c.args.of.now.size in
    let cells = c.args.of.now.cells in
    let mb = c.loop-r.flood.marks in
    let mc = c.label_row.new.flood.marks in
    marked_then (IsReachedFrom c.args.of.now.size c.args.of.now.cells c.args.from) c.args.flood.now.marks mb mc c.loop-r.invariant.caused
    c.label_row.ensures.caused

copied_on : (g : Over) (c : After-label_row g) → CopiesWith c.args.of.now.size c.args.of.now.cells c.args.labels.now.cells c.args.flood.now.marks c.args.labels.now.copied c.label_row.new.labels.copied
copied_on g c = λ begun l.
    from_then (IsWitness c.args.of.now.size c.args.of.now.cells begun) c.args.labels.now.copied c.loop-r.labels.copied c.label_row.new.labels.copied (c.loop-r.invariant.copied begun l) (c.label_row.ensures.copied begun (c.loop-r.invariant.step.keeps begun l))

pub loop-r-preserved : goal.loop-r-preserved
loop-r-preserved g c =
    let s = c.args.of.now.size in
    let cells = c.args.of.now.cells in
    let k = c.loop-r.r in
    let a = c.loop-r.invariant in
    let b = c.label_row.ensures in
    let ok = c.in_ok-label_row.ensures.ok in
    let la = c.args.labels.now in
    let lb = c.loop-r.labels in
    let lc = c.label_row.new.labels in
    let ma = c.args.flood.now.marks in
    let mb = c.loop-r.flood.marks in
    let mc = c.label_row.new.flood.marks in
    record {
      same = same_then la lb lc a.same b.same;
      extent = c.label_row.ensures.extent ∙ c.loop-r.invariant.extent;
      step = step_then s cells la.cells lb.cells lc.cells ma mb mc a.step ok;
      handled = λ j l r q m some. elim (cases_lt (row_of s j) k) as (λ _. is_marked mc j ≡ true) [
        | inl z ↦ ok.marked j (a.handled j l r q z some)
        | inr z ↦ c.in_ok-label_row.ensures.handled j l (omega (arith, m, z)) q some
      ];
      more = omega (arith, a.more, b.more);
      picks = rises_within (copies lb.copied - copies la.copied + (copies lc.copied - copies lb.copied)) (3 * (k - c.saturating_sub-low.result) + 10 * (marks_in mb - marks_in ma) + (3 + 10 * (marks_in mc - marks_in mb))) (copies lc.copied - copies la.copied) (3 * (k + 1 - c.saturating_sub-low.result) + 10 * (marks_in mc - marks_in ma)) _ _ (omega (arith, a.more, b.more)) (omega (arith, a.step.more, ok.more, c.loop-r.auto.r))
          (rises_then (copies lb.copied - copies la.copied) (3 * (k - c.saturating_sub-low.result) + 10 * (marks_in mb - marks_in ma)) (copies lc.copied - copies lb.copied) (3 + 10 * (marks_in mc - marks_in mb)) _ _ _ a.picks c.in_ok-label_row.ensures.picks);
      caused = caused_on g (goal.at.loop-r-preserved g c).After-label_row;
      copied = copied_on g (goal.at.loop-r-preserved g c).After-label_row;
    }

self_gap : (a : ℕ) → gap a a ≤ 1
self_gap a = omega arith

record IsBeside (s : Size) (from j : ℕ) : Type 0 where
  rows : gap (row_of s from) (row_of s j) ≤ 1
  columns : gap (column_of s from) (column_of s j) ≤ 1

beside : (s : Size) (from j : ℕ) → (j ≡ from) ⊎ (is_neighbour s from j ≡ true) → IsBeside s from j
beside s from j (inl e) = rw (e) record { rows = self_gap (row_of s from); columns = self_gap (column_of s from) }
beside s from j (inr n) = let d = near_is s from j n in record { rows = d.rows; columns = d.columns }

pub returns-clause-handled : goal.returns-clause-handled
returns-clause-handled g c = λ j l n some.
    let s = c.args.of.now.size in
    let b = beside s c.args.from j n in
    let row : c.row_of-row.result ≡ row_of s c.args.from = c.row_of-row.ensures.row ∙ ap (λ (z : Size). row_of z c.args.from) c.extent-extent.ensures.extent in
    let rows : c.rows.result ≡ s.rows = c.rows.ensures.rows ∙ ap (λ (z : Size). z.rows) c.extent-extent.ensures.extent in
    let high : c.min-high.result ≡ min (row_of s c.args.from + 2) s.rows = c.min-high.ensures ∙ rw (row, rows) refl in
    c.loop-r.invariant.handled j l b.rows b.columns (in_round (row_of s c.args.from) (row_of s j) s.rows c.min-high.result c.loop-r.r high c.loop-r-test.false b.rows (row_lt s j c.extent-extent.ensures.size l)) some

pub label_row-requires-clause-extent : goal.label_row-requires-clause-extent
label_row-requires-clause-extent g c = c.loop-r.invariant.extent ∙ c.requires.extent

pub returns-in_err-label_row-clause-extent : goal.returns-in_err-label_row-clause-extent
returns-in_err-label_row-clause-extent g c = c.label_row.ensures.extent ∙ c.loop-r.invariant.extent

pub returns-clause-extent : goal.returns-clause-extent
returns-clause-extent g c = c.loop-r.invariant.extent

pub returns-in_err-label_row-clause-caused : goal.returns-in_err-label_row-clause-caused
returns-in_err-label_row-clause-caused g c = caused_on g (goal.at.returns-in_err-label_row-clause-caused g c).After-label_row

pub returns-in_err-label_row-clause-copied : goal.returns-in_err-label_row-clause-copied
returns-in_err-label_row-clause-copied g c = copied_on g (goal.at.returns-in_err-label_row-clause-copied g c).After-label_row

pub returns-in_err-label_row-clause-grows : goal.returns-in_err-label_row-clause-grows
returns-in_err-label_row-clause-grows g c = omega (arith, c.loop-r.invariant.step.more, c.label_row.ensures.grows)

pub returns-clause-grows : goal.returns-clause-grows
returns-clause-grows g c = c.loop-r.invariant.step.more

pub returns-in_err-label_row-clause-wanted : goal.returns-in_err-label_row-clause-wanted
returns-in_err-label_row-clause-wanted g c =
    let la = c.args.labels.now in
    let lb = c.loop-r.labels in
    let lc = c.label_row.new.labels in
    let ma = c.args.flood.now.marks in
    let mb = c.loop-r.flood.marks in
    let mc = c.label_row.new.flood.marks in
    let a = c.loop-r.invariant in
    MatchResult-from_err c.from_residual.result _ _ c.from_residual.ensures.0
    (λ _. rises_within (copies lb.copied - copies la.copied + (copies lc.copied - copies lb.copied + 1)) (3 * (c.loop-r.r - c.saturating_sub-low.result) + 10 * (marks_in mb - marks_in ma) + (3 + 10 * (marks_in mc - marks_in mb))) (copies lc.copied - copies la.copied + 1) (9 + 10 * (marks_in mc - marks_in ma)) _ _ (omega (arith, a.more, c.label_row.ensures.more)) (omega (arith, a.step.more, c.label_row.ensures.grows, few c.row_of-row.result c.rows.result c.saturating_sub-low.result c.min-high.result c.loop-r.r c.saturating_sub-low.ensures c.min-high.ensures c.loop-r-test.true))
    (rises_then (copies lb.copied - copies la.copied) (3 * (c.loop-r.r - c.saturating_sub-low.result) + 10 * (marks_in mb - marks_in ma)) (copies lc.copied - copies lb.copied + 1) (3 + 10 * (marks_in mc - marks_in mb)) _ _ _ a.picks c.in_err-label_row.ensures.wanted))
