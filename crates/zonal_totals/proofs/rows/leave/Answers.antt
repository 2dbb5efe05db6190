use Rattle.zonal_totals.proofs.Gathering.{leave_net, leave_weight}
use Rattle.zonal_totals.proofs.rows.leave.Goals as goal

pub returns-in_ok-put-clause-net : goal.returns-in_ok-put-clause-net
returns-in_ok-put-clause-net c = leave_net c.args.steps.now.items c.put.new.steps.items c.in-Some.pair c.args.pair.now c.in-Some.is c.in_ok-put.ensures

pub returns-in_ok-put-clause-weight : goal.returns-in_ok-put-clause-weight
returns-in_ok-put-clause-weight c = leave_weight c.args.steps.now.items c.put.new.steps.items c.in-Some.pair c.args.pair.now c.in-Some.is c.in_ok-put.ensures
