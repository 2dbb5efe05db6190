use Rattle.map_waves.proofs.Righted.{right_after}
use Rattle.map_waves.proofs.laws.placed_law.Goals as goal

pub returns : goal.returns
returns g c p k stamp own r new prepared placed = right_after g.K.Maker.suits p k stamp own r new prepared placed
