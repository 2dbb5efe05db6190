-- Sources, frictions and least costs after an edit, and the costs before it.
use Rattle.std.specs.Prelude.{ℕ, ℤ, List, Option}
use Rattle.layer_tiles.specs.Changes.{ChangeState, cells_before}
use Rattle.friction_neighbor.specs.Fields.{FieldState, field_of}

pub record ViewState : Type 0 where
  pub field : FieldState
  pub was : List (Option ℤ)

abbrev pub view_of : ChangeState → ChangeState → ChangeState → ℕ → ViewState
view_of sources friction costs limit = record { field = field_of sources.size sources.cells friction.cells limit costs.cells; was = cells_before costs }
