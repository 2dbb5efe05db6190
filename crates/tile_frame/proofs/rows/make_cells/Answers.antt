use Rattle.std.proofs.Common.{◌≡◌, ◌<◌, arith, ◌∙◌, sym, ap, min, subst, length, if◌then◌else◌, set, ◌+◌}
use Rattle.std.specs.Result.{is_err}
use Rattle.std.proofs.lemmas.List.{length-set}
use Rattle.tile_frame.proofs.Framing.{AreMadeTo, made_more}
use Rattle.tile_frame.proofs.rows.make_cells.Goals.{then-is_err, else-is_err}
use Rattle.tile_frame.proofs.rows.make_cells.Goals as goal

pub loop-c-preserved : goal.loop-c-preserved
loop-c-preserved g c =
    let i = c.loop-c.invariant in
    let value = g.R.RowMaker.value c.args.row.now in
    let k = c.loop-c.c in
    let end = c.loop-c.end in
    let answer = c.value_at-answer.result in
    let cell = c.cell_or_null.result in
    let within : k < length c.loop-c.cells = omega (arith, i.room, c.loop-c-test.true, c.requires.most) in
    let now : c.if-is_err.end ≡ (if is_err answer then min end k else end) = elim c.if-is_err.branch [
      | then-is_err w ↦ w.end-is ∙ w.min-end.ensures ∙ sym (ap (λ b. if b then min end k else end) (sym c.is_err.ensures.value ∙ w.if-is_err.true))
      | else-is_err w ↦ w.end-is ∙ sym (ap (λ b. if b then min end k else end) (sym c.is_err.ensures.value ∙ w.if-is_err.false))
    ] in
    record {
      room = length-set c.loop-c.cells k cell ∙ i.room;
      made = subst (λ e. AreMadeTo value c.args.width (k + 1) e (set c.loop-c.cells k cell)) (sym now) (made_more value c.args.width k end c.loop-c.cells answer cell i.made c.loop-c-test.true within c.value_at-answer.ensures c.cell_or_null.ensures);
    }
