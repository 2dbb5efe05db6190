use Rattle.std.proofs.Common.{◌<◌, length, rules, heap_items, ap, arith}
use Rattle.drainage_flow.proofs.Entries.{few_pushed}
use Rattle.drainage_flow.proofs.queue.Queue.push.Goals as goal

pub invariant_of-self-2 : goal.invariant_of-self-2
invariant_of-self-2 c =
    let room : length (heap_items c.self.inside.heap) < 4294967296 = omega (arith, ap length c.self.view_is, c.len.ensures.count, c.if-len-ge-MOST_ENTRIES.false) in (
      search rules,
      few_pushed c.args.entry _ _ room c.requires c.self.invariant.1 c.in_ok-push.ensures.permutation,
    )
