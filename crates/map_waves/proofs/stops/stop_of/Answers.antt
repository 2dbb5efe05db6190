use Rattle.std.proofs.Common.{refl}
use Rattle.map_waves.specs.Stops.{by_viewers}
use Rattle.map_waves.proofs.stops.stop_of.Goals as goal

pub returns-in-Some-halted : goal.returns-in-Some-halted
returns-in-Some-halted g c = by_viewers c.in-Some-halted.last.0 c.in-Some-halted.last.1 c.in-Some-halted.is refl c.in-None.ensures
