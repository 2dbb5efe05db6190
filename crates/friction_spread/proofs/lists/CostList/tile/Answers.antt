use Rattle.std.proofs.Common.{List, ℕ, subst}
use Rattle.layer_tiles.specs.Answers.{IsTileAnswer}
use Rattle.friction_spread.specs.Shown.{shown_cells}
use Rattle.friction_spread.proofs.lists.CostList.tile.Goals as goal

pub returns : goal.returns
returns c = subst (λ (xs : List ℕ). IsTileAnswer c.args.extent (shown_cells c.args.extent c.args.self.now.limit xs) c.args.tile c.cost_tile.result) c.deref.ensures.value c.cost_tile.ensures
