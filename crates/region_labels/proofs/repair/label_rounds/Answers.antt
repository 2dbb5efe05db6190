use Rattle.std.proofs.Common.{◌≡◌, ◌+◌, ◌-◌, ◌*◌, ℕ, length, get_or, inl, inr, arith, subst, sym, ◌∙◌}
use Rattle.std.proofs.lemmas.Bool.{cases_lt}
use Rattle.layer_tiles.proofs.Rising.{rises_then, rises_within}
use Rattle.tile_work.specs.Working.{copies}
use Rattle.region_labels.specs.Flood.{marks_in}
use Rattle.region_labels.specs.Touched.{IsMarkedFor, IsReachedFrom, IsTouchedBy}
use Rattle.region_labels.proofs.Causes.{marked_then, marked_wider, touched_at}
use Rattle.region_labels.specs.Repairs.{AreHandledRound}
use Rattle.region_labels.proofs.Labelling.{same_then, step_then, handled_kept}
use Rattle.std.proofs.lemmas.Result.{MatchResult-from_err}
use Rattle.region_labels.specs.Copies.{IsWitness, CopiesWith}
use Rattle.region_labels.proofs.Copying.{from_then}
use Rattle.region_labels.proofs.repair.label_rounds.Given.{Over}
use Rattle.region_labels.proofs.repair.label_rounds.Goals.{After-label_round}
use Rattle.region_labels.proofs.repair.label_rounds.Goals as goal

caused_on : (g : Over) (c : After-label_round g) → IsMarkedFor (IsTouchedBy c.args.of.now.size c.args.of.now.cells c.args.changed.now) c.args.flood.now.marks c.label_round.new.flood.marks
caused_on g c =
    let s = c.args.of.now.size in
    let cells = c.args.of.now.cells in
    let mb = c.loop-at.flood.marks in
    let mc = c.label_round.new.flood.marks in
    marked_then (IsTouchedBy c.args.of.now.size c.args.of.now.cells c.args.changed.now) c.args.flood.now.marks mb mc c.loop-at.invariant.caused
    (marked_wider (IsReachedFrom s cells (get_or c.args.changed.now c.loop-at.at-index 0)) (IsTouchedBy s cells c.args.changed.now) mb mc (λ i r. touched_at s cells c.args.changed.now c.loop-at.at-index i c.loop-at-test.true r) c.label_round.ensures.caused)

copied_on : (g : Over) (c : After-label_round g) → CopiesWith c.args.of.now.size c.args.of.now.cells c.args.labels.now.cells c.args.flood.now.marks c.args.labels.now.copied c.label_round.new.labels.copied
copied_on g c = λ begun l.
    from_then (IsWitness c.args.of.now.size c.args.of.now.cells begun) c.args.labels.now.copied c.loop-at.labels.copied c.label_round.new.labels.copied (c.loop-at.invariant.copied begun l) (c.label_round.ensures.copied begun (c.loop-at.invariant.step.keeps begun l))

pub loop-at-preserved : goal.loop-at-preserved
loop-at-preserved g c =
    let s = c.args.of.now.size in
    let cells = c.args.of.now.cells in
    let la = c.args.labels.now in
    let lb = c.loop-at.labels in
    let lc = c.label_round.new.labels in
    let ma = c.args.flood.now.marks in
    let mb = c.loop-at.flood.marks in
    let mc = c.label_round.new.flood.marks in
    let ok = c.in_ok-label_round.ensures.ok in
    record {
      same = same_then la lb lc c.loop-at.invariant.same c.label_round.ensures.same;
      extent = c.label_round.ensures.extent ∙ c.loop-at.invariant.extent;
      step = step_then s cells la.cells lb.cells lc.cells c.args.flood.now.marks mb mc c.loop-at.invariant.step ok;
      handled = λ k l. elim (cases_lt k c.loop-at.at-index) as (λ _. AreHandledRound s cells mc (get_or c.args.changed.now k 0)) [
        | inl m ↦ (λ j p q. handled_kept cells mb mc j ok.marked (c.loop-at.invariant.handled k m j p q))
        | inr m ↦ (let e : k ≡ c.loop-at.at-index = omega (arith, l, m) in let P : ℕ → Type 0 = λ i. AreHandledRound s cells mc (get_or c.args.changed.now i 0) in subst P (sym e) c.in_ok-label_round.ensures.handled)
      ];
      caused = caused_on g (goal.at.loop-at-preserved g c).After-label_round;
      copied = copied_on g (goal.at.loop-at-preserved g c).After-label_round;
      more = omega (arith, c.loop-at.invariant.more, c.label_round.ensures.more);
      picks = rises_within (copies lb.copied - copies la.copied + (copies lc.copied - copies lb.copied)) (9 * c.loop-at.at-index + 10 * (marks_in mb - marks_in ma) + (9 + 10 * (marks_in mc - marks_in mb))) (copies lc.copied - copies la.copied) (9 * (c.loop-at.at-index + 1) + 10 * (marks_in mc - marks_in ma)) _ _ (omega (arith, c.loop-at.invariant.more, c.label_round.ensures.more)) (omega (arith, c.loop-at.invariant.step.more, ok.more))
          (rises_then (copies lb.copied - copies la.copied) (9 * c.loop-at.at-index + 10 * (marks_in mb - marks_in ma)) (copies lc.copied - copies lb.copied) (9 + 10 * (marks_in mc - marks_in mb)) _ _ _ c.loop-at.invariant.picks c.in_ok-label_round.ensures.picks);
    }

pub returns-clause-handled : goal.returns-clause-handled
returns-clause-handled g c = λ k l. c.loop-at.invariant.handled k (omega (arith, l, c.loop-at-test.false))

pub label_round-requires-clause-extent : goal.label_round-requires-clause-extent
label_round-requires-clause-extent g c = c.loop-at.invariant.extent ∙ c.requires.extent

pub returns-in_err-label_round-clause-extent : goal.returns-in_err-label_round-clause-extent
returns-in_err-label_round-clause-extent g c = c.label_round.ensures.extent ∙ c.loop-at.invariant.extent

pub returns-clause-extent : goal.returns-clause-extent
returns-clause-extent g c = c.loop-at.invariant.extent

pub returns-in_err-label_round-clause-caused : goal.returns-in_err-label_round-clause-caused
returns-in_err-label_round-clause-caused g c = caused_on g (goal.at.returns-in_err-label_round-clause-caused g c).After-label_round

pub returns-in_err-label_round-clause-copied : goal.returns-in_err-label_round-clause-copied
returns-in_err-label_round-clause-copied g c = copied_on g (goal.at.returns-in_err-label_round-clause-copied g c).After-label_round

pub returns-in_err-label_round-clause-grows : goal.returns-in_err-label_round-clause-grows
returns-in_err-label_round-clause-grows g c = omega (arith, c.loop-at.invariant.step.more, c.label_round.ensures.grows)

pub returns-clause-grows : goal.returns-clause-grows
returns-clause-grows g c = c.loop-at.invariant.step.more

pub returns-in_err-label_round-clause-wanted : goal.returns-in_err-label_round-clause-wanted
returns-in_err-label_round-clause-wanted g c =
    let la = c.args.labels.now in
    let lb = c.loop-at.labels in
    let lc = c.label_round.new.labels in
    let ma = c.args.flood.now.marks in
    let mb = c.loop-at.flood.marks in
    let mc = c.label_round.new.flood.marks in
    let a = c.loop-at.invariant in
    MatchResult-from_err c.from_residual.result _ _ c.from_residual.ensures.0
    (λ _. rises_within (copies lb.copied - copies la.copied + (copies lc.copied - copies lb.copied + 1)) (9 * c.loop-at.at-index + 10 * (marks_in mb - marks_in ma) + (9 + 10 * (marks_in mc - marks_in mb))) (copies lc.copied - copies la.copied + 1) (9 * length c.args.changed.now + 10 * (marks_in mc - marks_in ma)) _ _ (omega (arith, a.more, c.label_round.ensures.more)) (omega (arith, a.step.more, c.label_round.ensures.grows, c.loop-at-test.true))
    (rises_then (copies lb.copied - copies la.copied) (9 * c.loop-at.at-index + 10 * (marks_in mb - marks_in ma)) (copies lc.copied - copies lb.copied + 1) (9 + 10 * (marks_in mc - marks_in mb)) _ _ _ a.picks c.in_err-label_round.ensures.wanted))

pub returns-in_err-label_round-clause-some : goal.returns-in_err-label_round-clause-some
returns-in_err-label_round-clause-some g c = MatchResult-from_err c.from_residual.result _ _ c.from_residual.ensures.0 (λ _. omega (arith, c.loop-at-test.true))
