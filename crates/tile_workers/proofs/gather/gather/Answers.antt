use Rattle.std.proofs.Common.{rules, arith}
use Rattle.tile_workers.proofs.Gathers.{begins, steps, last_done}
use Rattle.tile_workers.proofs.gather.gather.Goals as goal

pub loop-shift-init : goal.loop-shift-init
loop-shift-init g c = begins c.in-Some.last c.pop.new.self.items c.in-Some.ensures.items c.requires.done c.begin-all.ensures.parts.0 c.begin-all.ensures.parts.1 c.begin-all.ensures.parts.2 c.begin-all.ensures.tally
    c.requires.shares (search rules) c.requires.whole (omega arith)

pub take_back-requires-clause-own : goal.take_back-requires-clause-own
take_back-requires-clause-own g c = (c.loop-shift.invariant.own, (last_done c.in-Some-pop.shift c.pop-in-loop-shift.new.self.items c.loop-shift.invariant c.in-Some-pop.ensures.items).own)

pub take_back-requires-clause-part : goal.take_back-requires-clause-part
take_back-requires-clause-part g c = (last_done c.in-Some-pop.shift c.pop-in-loop-shift.new.self.items c.loop-shift.invariant c.in-Some-pop.ensures.items).is_part

pub loop-shift-preserved : goal.loop-shift-preserved
loop-shift-preserved g c = steps c.in-Some-pop.shift c.pop-in-loop-shift.new.self.items c.loop-shift.invariant c.in-Some-pop.ensures.items
    c.take_back.ensures.own c.take_back.ensures.seat c.take_back.ensures.laid c.take_back.ensures.kept c.take_back.ensures.tally
