use Rattle.std.specs.Prelude.{◌++◌, codes, pos, nat_abs}
use Rattle.map_nums.specs.Numbers.{vmax}
use Rattle.statement_parser.specs.Views.{term_view}
use Rattle.statement_parser.specs.Canonical.{optional_texts, friction_texts}
use Rattle.statement_parser.proofs.Adding.{if_then}
use Rattle.statement_parser.proofs.printing.spread.Goals as goal

pub returns : goal.returns
returns c =
    if_then c.costs.result c.costs.new.text.items (friction_texts (term_view c.args.given.now) ++ optional_texts (codes "within") vmax (pos (nat_abs c.args.most.now)))
    c.in_ok-single.ensures c.costs.ensures
