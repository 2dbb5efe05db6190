use Rattle.std.proofs.Common.{◌≡◌, ◌+◌, length, take, ap, ◌∙◌, arith, length-append}
use Rattle.statement_graph.specs.Seats.{nodes_at}
use Rattle.statement_graph.specs.Links.{all_needs}
use Rattle.statement_graph.proofs.Linking.{needs_more}
use Rattle.statement_graph.proofs.links.count_needs.Goals as goal

pub loop-at-preserved : goal.loop-at-preserved
loop-at-preserved c =
    let before = all_needs (take c.loop-at.at (nodes_at c.args.entries.now)) in
    let more : length (all_needs (take (c.loop-at.at + 1) (nodes_at c.args.entries.now))) ≡ length before + length c.needs.result.now =
    ap length (needs_more c.args.entries.now c.loop-at.at c.index-entries-at.result c.needs.result.now c.loop-at-test.true c.index-entries-at.is c.needs.ensures) ∙ length-append before c.needs.result.now in
    omega (arith, c.in-Some.ensures, c.loop-at.invariant)
