use Rattle.std.proofs.Common.{◌≡◌, ◌++◌, length, sym, ◌∙◌, ap, subst, arith}
use Rattle.std.proofs.lemmas.List.{take_at}
use Rattle.map_nums.specs.Grids.{Cells}
use Rattle.region_labels.specs.Provisional.{AreTied, IsJoinStep}
use Rattle.region_labels.proofs.Banding.{few, band_provisional, band_tied, first_seam}
use Rattle.region_labels.proofs.Seams.{step_none, step_count}
use Rattle.region_labels.proofs.joins.add_band.Goals as goal
use Rattle.region_labels.proofs.joins.add_band.Goals.{After-deref_mut, In_ok-extend_from_slice}

-- the labels with those of the band
added : (c : In_ok-extend_from_slice) → c.extend_from_slice.new.self.items ≡ c.args.labels.now.items ++ c.args.band.now.labels.items
added c = c.in_ok-extend_from_slice.ensures.items ∙ ap (λ (xs : Cells). c.args.labels.now.items ++ xs) c.deref.ensures.value

lent : (c : After-deref_mut) → c.deref_mut.result.now ≡ c.args.labels.now.items ++ c.args.band.now.labels.items
lent c = c.deref_mut.ensures.value ∙ c.in_ok-extend_from_slice.ensures.items ∙ ap (λ (xs : Cells). c.args.labels.now.items ++ xs) c.deref.ensures.value

pub join_row-requires-clause-few : goal.join_row-requires-clause-few
join_row-requires-clause-few c =
    let r = c.requires in
    omega (arith, ap length (lent c), few c.args.extent c.args.cells.now r.band.0 c.args.band.now r.band.1 c.args.labels.now.items r.rows r.provisional)

pub returns-then-band-gt0-clause-tied : goal.returns-then-band-gt0-clause-tied
returns-then-band-gt0-clause-tied c =
    let s = c.args.extent in
    let cells = c.args.cells.now in
    let new = c.join_row.new.labels in
    let r = c.requires in
    let at = (goal.at.returns-then-band-gt0-clause-tied c).After-deref_mut in
    let step = subst (λ (xs : Cells). IsJoinStep s cells xs new) (lent at) c.join_row.ensures.step in
    let all = step_count s cells _ new c.join_row.ensures.step ∙ c.deref_mut.ensures.len in
    subst (AreTied s cells) (sym (take_at new _ c.extend_from_slice.new.self.len all))
    (band_tied s cells r.band.0 c.args.band.now r.band.1 c.args.labels.now.items r.rows r.provisional c.columns-columns.ensures.size r.tied new step c.join_row.ensures.tied)

pub returns-else-band-gt0-clause-tied : goal.returns-else-band-gt0-clause-tied
returns-else-band-gt0-clause-tied c =
    let s = c.args.extent in
    let cells = c.args.cells.now in
    let labels = c.args.labels.now.items in
    let r = c.requires in
    let both = labels ++ c.args.band.now.labels.items in
    let provisional = band_provisional s cells r.band.0 c.args.band.now r.band.1 labels r.rows r.provisional in
    subst (AreTied s cells) (sym (added (goal.at.returns-else-band-gt0-clause-tied c).In_ok-extend_from_slice))
    (band_tied s cells r.band.0 c.args.band.now r.band.1 labels r.rows r.provisional c.columns-columns.ensures.size r.tied both (step_none s cells both provisional)
    (first_seam s cells r.band.0 c.args.band.now r.band.1 labels r.rows r.provisional both (omega (arith, c.if-band-gt0.false)) c.columns-columns.ensures.size))
