use Rattle.statement_graph.proofs.Exchanging.{exchanged}
use Rattle.statement_graph.proofs.places.exchange.Goals as goal

pub returns : goal.returns
returns c = λ a o t n e la lo ln.
    exchanged c.args.entries.now a o t n c.args.start c.args.end c.args.count c.rotate_right.new.self c.rotate_left.new.self e la lo ln c.rotate_right.ensures.after c.rotate_left.ensures.after
