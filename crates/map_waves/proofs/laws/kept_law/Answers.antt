use Rattle.map_waves.proofs.Righted.{right_before}
use Rattle.map_waves.proofs.laws.kept_law.Goals as goal

pub returns : goal.returns
returns g c p value k operands own refs are right = right_before g.K.Maker.suits p k value operands own refs are right
