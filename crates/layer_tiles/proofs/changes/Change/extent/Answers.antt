use Rattle.std.proofs.Common.{subst}
use Rattle.map_nums.specs.Grids.{IsSize}
use Rattle.layer_tiles.specs.Changes.{ChangeState}
use Rattle.layer_tiles.specs.ChangeFacts.{IsChange}
use Rattle.layer_tiles.proofs.ChangeLaws.{is_change}
use Rattle.layer_tiles.proofs.changes.Change.extent.Goals as goal

pub returns-clause-size : goal.returns-clause-size
returns-clause-size c = subst (λ (x : ChangeState). IsSize x.size) c.self.view_is (is_change c.self.inside.body c.self.invariant).size

pub returns-clause-change : goal.returns-clause-change
returns-clause-change c = subst (λ (x : ChangeState). IsChange x) c.self.view_is (is_change c.self.inside.body c.self.invariant)
