use Rattle.std.proofs.Common.{◌≢◌, ℕ, ◌+◌, ◌<◌, Option, None, ℤ, length, set, sym, ◌∙◌, subst, arith, below_more}
use Rattle.std.proofs.lemmas.List.{get_or-set_same, get_or-set_other, length-set}
use Rattle.map_nums.specs.Grids.{cell_at}
use Rattle.map_sample.proofs.grids.put_cells.Goals as goal

pub loop-c-preserved : goal.loop-c-preserved
loop-c-preserved g c =
    let i = c.loop-c.invariant in
    let k = c.loop-c.c in
    let cells = c.loop-c.cells in
    let cell = c.cell.result in
    let within : k < length cells = omega (arith, i.room, c.loop-c-test.true, c.requires.most) in
    let is : ℕ → Option ℤ → Type 0 = λ j x. goal.F-post g c.args.cell (c.args.left + j + 1) x in
    record {
      room = length-set cells k cell ∙ i.room;
      made = below_more (λ j. is j (cell_at (set cells k cell) j)) k
          (λ j l. let other : j ≢ k = omega arith in subst (is j) (sym (get_or-set_other cells k j cell None other)) (i.made j l))
          (subst (is k) (sym (get_or-set_same cells k cell None within)) c.cell.ensures);
    }
