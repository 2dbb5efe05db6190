use Rattle.std.proofs.Common.{refl}
use Rattle.drainage_flow.proofs.whole.FlowRowRowMaker.value_at.Goals as goal

pub flow_after-requires-clause-seat : goal.flow_after-requires-clause-seat
flow_after-requires-clause-seat c = (c.args.self.now.start, refl, c.requires.4)
