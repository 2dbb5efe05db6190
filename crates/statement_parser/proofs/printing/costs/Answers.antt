use Rattle.std.specs.Prelude.{codes, pos, nat_abs}
use Rattle.map_nums.specs.Numbers.{vmax}
use Rattle.statement_parser.specs.Canonical.{optional_texts}
use Rattle.statement_parser.proofs.Adding.{if_then}
use Rattle.statement_parser.proofs.printing.costs.Goals as goal

pub returns : goal.returns
returns c = if_then c.limit.result c.limit.new.text.items (optional_texts (codes "within") vmax (pos (nat_abs c.args.most.now))) c.in_ok-friction.ensures c.limit.ensures
