use Rattle.std.specs.Prelude.{◌∷◌, codes}
use Rattle.statement_parser.specs.Views.{term_view}
use Rattle.statement_parser.specs.TermTexts.{term_text}
use Rattle.statement_parser.specs.Canonical.{sight_texts}
use Rattle.statement_parser.proofs.Adding.{if_then}
use Rattle.statement_parser.proofs.printing.sight.Goals as goal

pub returns : goal.returns
returns c =
    if_then c.seen_on.result c.seen_on.new.text.items (codes "radiating" ∷ codes "on" ∷ term_text (term_view c.args.surface.now) ∷ sight_texts (record { from = c.args.from.now; to = c.args.to.now; reach = c.args.reach }))
    c.in_ok-single.ensures c.seen_on.ensures
