-- Each text holds one grid, or has one first fault.
use Rattle.std.specs.Prelude.{◌≡◌, ◌⊎◌, ℕ, List}
use Rattle.grid_text.specs.Faults.{Fault}
use Rattle.grid_text.specs.Grammar.{GridText}
use Rattle.grid_text.specs.Headed.{Headed}
use Rattle.grid_text.specs.Refusals.{RefusedGrid}

pub record IsSettledText (bytes : List ℕ) : Type 0 where
  pub one_grid : (g h : Headed) → GridText bytes g → GridText bytes h → g ≡ h
  pub one_fault : (f g : Fault) → RefusedGrid bytes f → RefusedGrid bytes g → f ≡ g
  pub never_both : (g : Headed) (f : Fault) → GridText bytes g → RefusedGrid bytes f → ⊥
  pub either : ((g : Headed) × GridText bytes g) ⊎ ((f : Fault) × RefusedGrid bytes f)
