use Rattle.tile_workers.proofs.Events.{tickets_right}
use Rattle.tile_workers.proofs.laws.each_ticket_stands_once.Goals as goal

pub returns : goal.returns
returns c = tickets_right
