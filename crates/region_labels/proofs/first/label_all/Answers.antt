use Rattle.std.proofs.Common.{◌≡◌, ◌+◌, ℕ, inl, inr, refl, sym, ap, subst, ◌∙◌, arith, length}
use Rattle.std.specs.Prelude.{is_some}
use Rattle.std.proofs.lemmas.Bool.{cases_lt}
use Rattle.std.proofs.lemmas.List.{length-map}
use Rattle.map_nums.specs.Grids.{Size, cells_in}
use Rattle.region_labels.specs.Repairs.{IsLabelStep, IsHandled}
use Rattle.region_labels.specs.Lists.{labelled}
use Rattle.region_labels.proofs.Rows.{marks_most}
use Rattle.region_labels.proofs.Labelling.{step_then, handled_kept}
use Rattle.region_labels.proofs.Listing.{labelled_at, none_counted, step_none, labels_right}
use Rattle.region_labels.proofs.first.label_all.Goals as goal
use Rattle.region_labels.proofs.first.label_all.Goals.{In_ok-count}

pub loop-at-init : goal.loop-at-init
loop-at-init c = record {
  extent = refl;
  step = step_none c.args.list.now.size c.args.cells.now c.args.list.now.labels (labelled c.args.list.now.labels);
  handled = λ i l some. labelled_at c.args.list.now.labels i ∙ c.bare_from-at.ensures.labelled i (omega arith) l;
  most = c.bare_from-at.ensures.most;
  count = none_counted c.args.list.now.labels (cells_in c.args.list.now.size) c.requires.none;
}

-- one more region
step : (c : In_ok-count) → IsLabelStep c.args.list.now.size c.args.cells.now c.loop-at.list.labels (labelled c.loop-at.list.labels) c.label_region.new.list.labels (labelled c.label_region.new.list.labels)
step c = subst (λ (z : Size). IsLabelStep z c.args.cells.now c.loop-at.list.labels (labelled c.loop-at.list.labels) c.label_region.new.list.labels (labelled c.label_region.new.list.labels)) c.loop-at.invariant.extent c.in_ok-count.ensures.ok

pub overflow_add-count : goal.overflow_add-count
overflow_add-count c =
    let new = labelled c.label_region.new.list.labels in
    let size = (step c).size ∙ c.loop-at.invariant.step.size ∙ length-map c.args.list.now.labels is_some ∙ c.extent.ensures.count in
    omega (arith, marks_most new, size, c.in_ok-count.ensures.count, c.loop-at.invariant.count, c.extent.ensures.size.most_cells)

pub loop-at-preserved : goal.loop-at-preserved
loop-at-preserved c =
    let s = c.args.list.now.size in
    let cells = c.args.cells.now in
    let la = c.args.list.now.labels in
    let lb = c.loop-at.list.labels in
    let lc = c.label_region.new.list.labels in
    record {
      extent = c.label_region.ensures.extent ∙ c.loop-at.invariant.extent;
      step = step_then s cells la lb lc (labelled la) (labelled lb) (labelled lc) c.loop-at.invariant.step (step (goal.at.loop-at-preserved c).In_ok-count);
      handled = λ i l. elim (cases_lt i c.loop-at.at) as (λ _. IsHandled cells (labelled lc) i) [
        | inl m ↦ handled_kept cells (labelled lb) (labelled lc) i (step (goal.at.loop-at-preserved c).In_ok-count).marked (c.loop-at.invariant.handled i m)
        | inr m ↦ elim (cases_lt c.loop-at.at i) as (λ _. IsHandled cells (labelled lc) i) [
          | inl q ↦ (λ some. labelled_at lc i ∙ c.bare_from-at-in-loop-at.ensures.labelled i (omega (arith, q)) l)
          | inr q ↦ (let e : i ≡ c.loop-at.at = omega (arith, m, q) in let P : ℕ → Type 0 = IsHandled cells (labelled lc) in subst P (sym e) c.in_ok-count.ensures.handled)
        ]
      ];
      most = c.bare_from-at-in-loop-at.ensures.most;
      count = c.in_ok-count.ensures.count ∙ ap (λ k. k + c.in_ok-count.field-0) c.loop-at.invariant.count;
    }

pub returns-clause-regions : goal.returns-clause-regions
returns-clause-regions c =
    let s = c.args.list.now.size in
    let la = c.args.list.now.labels in
    let lb = c.loop-at.list.labels in
    let i = c.loop-at.invariant in
    let count : length lb ≡ cells_in s = sym (length-map lb is_some) ∙ i.step.size ∙ length-map la is_some ∙ c.extent.ensures.count in
    labels_right s c.args.cells.now la lb c.extent.ensures.count count c.requires.none i.step
    (λ k l. i.handled k (omega (arith, l, c.loop-at-test.false, c.cells-all.ensures.cells, ap cells_in c.extent.ensures.extent)))
