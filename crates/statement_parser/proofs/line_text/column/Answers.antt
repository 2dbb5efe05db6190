use Rattle.std.proofs.Common.{◌-◌, length, take, drop, ap, ◌∙◌}
use Rattle.map_words.specs.Cut.{placed_all}
use Rattle.statement_parser.specs.Columns.{first_column}
use Rattle.statement_parser.proofs.Whole.{column_is}
use Rattle.statement_parser.proofs.line_text.column.Goals as goal

pub returns : goal.returns
returns c =
    let ws = c.args.words.now in
    c.first_column.ensures
    ∙ ap (λ k. first_column c.args.len (placed_all (take (length ws - k) (drop k ws)))) c.saturating_sub-skipped.ensures
    ∙ column_is c.args.len ws c.args.left
