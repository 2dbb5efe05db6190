use Rattle.std.proofs.Common.{arith}
use Rattle.statement_graph.proofs.Exchanging.{cut}
use Rattle.statement_graph.proofs.places.cut_out.Goals as goal

pub returns : goal.returns
returns c =
    cut c.args.entries.now.items c.exchange_in.new.entries.items c.truncate.new.self.items c.args.span.start c.args.span.end _ c.requires.order c.requires.within (omega (arith, c.len-had.ensures, c.args.entries.now.ok.0)) c.exchange_in.ensures.turned c.truncate.ensures.items
