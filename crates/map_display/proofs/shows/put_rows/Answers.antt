use Rattle.std.proofs.Common.{◌≡◌, ◌+◌, ◌*◌, ◌++◌, List, ℕ, Option, ℤ, map, codes, ap, ◌∙◌, arith}
use Rattle.std.specs.List.{flat_map, range_with_len}
use Rattle.layer_tiles.specs.Tiles.{tiles_across}
use Rattle.map_nums.specs.Grids.{Size, Cells}
use Rattle.map_machine.specs.Displays.{row_in}
use Rattle.map_machine.specs.Signs.{sign_of}
use Rattle.layer_tiles.proofs.RowLooks.{then_rises}
use Rattle.map_display.proofs.Rows.{next_row}
use Rattle.map_display.proofs.shows.put_rows.Goals as goal

pub loop-r-preserved : goal.loop-r-preserved
loop-r-preserved g c =
    let layer = c.args.layer.now in
    let across = tiles_across layer.size in
    record {
      rows = λ symbols n h.
          next_row c.args.text.now.items c.loop-r.text.items c.put_signs.new.text.items (λ (r : ℕ). map (sign_of symbols n) (row_in layer.size.columns layer.cells r) ++ codes "\n") c.loop-r.r (c.loop-r.invariant.rows symbols n h)
          (c.in_ok-put_signs.ensures symbols n h ∙ ap (λ (row : Cells). c.loop-r.text.items ++ (map (sign_of symbols n) row ++ codes "\n")) (c.deref.ensures.value ∙ c.in_ok-push_row.ensures.row ∙ ap (λ (row : Cells). row ++ row_in layer.size.columns layer.cells c.loop-r.r) c.clear.ensures.items));
      looks = then_rises (c.loop-r.r * across) across ((c.loop-r.r + 1) * across) _ _ _ c.loop-r.invariant.looks c.in_ok-push_row.ensures.looks (omega arith);
    }

pub returns-clause-rows : goal.returns-clause-rows
returns-clause-rows g c =
    let layer = c.args.layer.now in
    let last : c.loop-r.r ≡ c.rows-r-end.result = omega (arith, c.loop-r-test.false, c.loop-r.auto.r-end) in
    let rows : c.loop-r.r ≡ layer.size.rows = last ∙ c.rows-r-end.ensures.rows ∙ ap (λ (s : Size). s.rows) c.extent.ensures.extent in
    λ symbols n h. c.loop-r.invariant.rows symbols n h ∙ ap (λ (k : ℕ). c.args.text.now.items ++ flat_map (λ (r : ℕ). map (sign_of symbols n) (row_in layer.size.columns layer.cells r) ++ codes "\n") (range_with_len 0 k)) rows
