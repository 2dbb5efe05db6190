use Rattle.std.proofs.Common.{◌++◌, ap, ◌∙◌, codes, decimal}
use Rattle.grid_text.proofs.HeaderLines.{header_lines}
use Rattle.grid_text.proofs.print.put_header.Goals as goal

pub returns : goal.returns
returns c =
    let t = c.args.text.now.items in
    let t₁ = c.put_count.new.text.items in
    let t₂ = c.put_count-2.new.text.items in
    let t₃ = c.put_x.new.text.items in
    let t₄ = c.put_y.new.text.items in
    let t₅ = c.put_line.new.text.items in
    header_lines t t₁ t₂ t₃ t₄ t₅ c.put_null_line.new.text.items c.args.header.now c.args.extent
    (c.in_ok-put_count.ensures ∙ ap (λ n. t ++ codes "ncols " ++ decimal n ++ codes "\n") c.columns.ensures.columns)
    (c.in_ok-put_count-2.ensures ∙ ap (λ n. t₁ ++ codes "nrows " ++ decimal n ++ codes "\n") c.rows.ensures.rows)
    c.in_ok-put_x.ensures
    c.in_ok-put_y.ensures
    (c.in_ok-put_line.ensures ∙ ap (λ v. t₄ ++ codes "cellsize " ++ v ++ codes "\n") c.bytes.ensures)
    c.in_ok-put_null_line.ensures
