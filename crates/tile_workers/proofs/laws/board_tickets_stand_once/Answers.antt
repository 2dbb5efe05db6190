use Rattle.std.proofs.Common.{get_or}
use Rattle.tile_workers.proofs.Events.{right}
use Rattle.tile_workers.proofs.laws.board_tickets_stand_once.Goals as goal

pub returns : goal.returns
returns c s board none = right (record { next = get_or s.words 0 0; seats = s.views }) (board.dealt none)
