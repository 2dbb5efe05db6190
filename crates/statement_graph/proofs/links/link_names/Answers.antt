use Rattle.std.proofs.Common.{◌≢◌, ◌+◌, ◌<◌, length, ap, sym, ◌∙◌, arith, get_or-set_other, get_or-set_same, below_more}
use Rattle.statement_graph.specs.Seats.{nodes_at}
use Rattle.statement_graph.specs.Tables.{place_of}
use Rattle.statement_graph.proofs.Finding.{place_of-entries}
use Rattle.statement_graph.proofs.Linking.{get_any}
use Rattle.statement_graph.proofs.links.link_names.Goals as goal

pub loop-k-preserved : goal.loop-k-preserved
loop-k-preserved c =
    let at = c.args.start + c.loop-k.k in
    let here : at < length c.loop-k.links = omega (arith, c.requires, c.loop-k.auto.links, c.loop-k-test.true) in
    let is = c.place_of.ensures ∙ sym (place_of-entries c.args.entries.now c.index-names-k.result)
    ∙ ap (place_of (nodes_at c.args.entries.now)) (c.index-names-k.is ∙ sym (get_any c.args.names.now c.loop-k.k c.index-names-k.result c.loop-k-test.true)) in
    record {
      before = λ j h. let ne : j ≢ at = omega arith in rw get_or-set_other (c.loop-k.invariant.before j h);
      linked = below_more _ _ (λ j h. let ne : c.args.start + j ≢ at = omega arith in rw get_or-set_other (c.loop-k.invariant.linked j h)) (rw get_or-set_same is);
    }
