use Rattle.std.proofs.Common.{◌∙◌, ap, refl, rules}
use mir.Val.{SFits}
use Rattle.std.proofs.lemmas.Int.{to_z-of_z}
use Rattle.map_nums.specs.Widths.{value_width}
use Rattle.map_defs.specs.Ops.{local_op, focal_op}
use Rattle.statement_parser.specs.Views.{op_view, reach_view, term_view, terms_view}
use Rattle.statement_parser.specs.Forms.{form_of}
use Rattle.op_jobs.specs.Ranges.{HasRanges}
use Rattle.op_jobs.proofs.Plain.{stat_plain, difference_plain, ratio_plain, rating_plain, focal_plain, shape_plain, direction_plain}
use Rattle.op_jobs.proofs.classes.class_of.Goals as goal

pub returns-in-Local : goal.returns-in-Local
returns-in-Local c =
    let has : HasRanges (local_op c.in-Local.stat c.in-Local.ignoring (terms_view c.in-Local.terms.items)) = rw (c.in-Local.is) at c.requires in
    rw (c.in-Local.is, c.local.ensures) (stat_plain c.in-Local.stat c.in-Local.ignoring _ c.statistic_of.result c.statistic_of.ensures has.1)

pub returns-in-Difference : goal.returns-in-Difference
returns-in-Difference c = rw (c.in-Difference.is, c.local-in-Difference.ensures) (difference_plain _ _)

pub returns-in-Ratio : goal.returns-in-Ratio
returns-in-Ratio c = rw (c.in-Ratio.is, c.local-in-Ratio.ensures) (ratio_plain _ _)

pub returns-in_ok-of-in-Rating : goal.returns-in_ok-of-in-Rating
returns-in_ok-of-in-Rating c =
    rw (c.in-Rating.is, c.local-in-Rating.ensures) (rating_plain (term_view c.in-Rating.of) c.in-Rating.rates.items c.in_ok-of-in-Rating.field-0 (c.in_ok-of-in-Rating.ensures ∙ c.deref.ensures.value))

pub returns-in-Focal : goal.returns-in-Focal
returns-in-Focal c =
    let r = reach_view c.in-Focal.reach in
    let t = term_view c.in-Focal.of in
    let has : HasRanges (focal_op c.in-Focal.stat r t) = rw (c.in-Focal.is) at c.requires in
    rw (c.in-Focal.is, c.radius_in.ensures) (focal_plain c.in-Focal.stat r t has.0.1)

pub returns-in-Incremental : goal.returns-in-Incremental
returns-in-Incremental c = rw (c.in-Incremental.is) (shape_plain c.shape_of.result (form_of c.in-Incremental.form) (term_view c.in-Incremental.of) c.shape_of.ensures)

pub returns-in-Direction : goal.returns-in-Direction
returns-in-Direction c = rw (c.in-Direction.is) (direction_plain (term_view c.in-Direction.of))

pub returns-in-Sight : goal.returns-in-Sight
returns-in-Sight c =
    let from = c.in-Sight.from in
    let to = c.in-Sight.to in
    let f : SFits value_width from = search rules in
    let h : SFits value_width to = search rules in (
      term_view c.in-Sight.of,
      term_view c.in-Sight.surface,
      ap op_view c.in-Sight.is ∙ rw (to_z-of_z value_width from f, to_z-of_z value_width to h) refl,
    )
