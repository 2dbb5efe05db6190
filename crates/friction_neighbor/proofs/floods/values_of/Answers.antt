use Rattle.std.proofs.Common.{length, None, ◌∙◌, ap}
use Rattle.std.proofs.lemmas.List.{length-replicate}
use Rattle.map_nums.specs.Grids.{Cells, cell_at, cells_in}
use Rattle.friction_neighbor.proofs.Flooding.{none_all}
use Rattle.friction_neighbor.proofs.floods.values_of.Goals as goal

pub flood_all-requires-clause-count : goal.flood_all-requires-clause-count
flood_all-requires-clause-count c = ap length (c.deref_mut.ensures.value ∙ c.in_ok-values.ensures) ∙ length-replicate c.cells.result None ∙ c.cells.ensures.cells ∙ ap cells_in c.extent.ensures.extent

pub flood_all-requires-clause-begun : goal.flood_all-requires-clause-begun
flood_all-requires-clause-begun c = λ i. ap (λ (xs : Cells). cell_at xs i) (c.deref_mut.ensures.value ∙ c.in_ok-values.ensures) ∙ none_all c.cells.result i
