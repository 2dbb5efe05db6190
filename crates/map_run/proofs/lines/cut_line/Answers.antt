use Rattle.std.proofs.Common.{◌+◌, ◌++◌, ◌∷◌, [], take, sym, ap, ◌∙◌}
use Rattle.std.proofs.lemmas.List.{take_rest}
use Rattle.map_run.proofs.LineCuts.{no_feed, feed_at}
use Rattle.map_run.proofs.lines.cut_line.Goals as goal

pub returns-in-Some : goal.returns-in-Some
returns-in-Some c =
    let bytes = c.args.bytes.now in
    let at = c.in-Some.at in
    let cut = feed_at bytes at (sym c.in-Some.ensures) in
    (cut.0 ∙ ap (λ l. (take at bytes ++ 10 ∷ []) ++ l) (sym (take_rest bytes (at + 1))), cut.1)

pub returns-in-None : goal.returns-in-None
returns-in-None c = no_feed c.args.bytes.now (sym c.in-None.ensures)
