-- Each text holds one grid, or has one first fault.
use Rattle.std.proofs.Common.{◌≡◌, ℕ, List, Ok, Err, sym, ◌∙◌, inl, inr}
use Rattle.std.specs.Prelude.{◌⊎◌}
use Rattle.grid_text.specs.Contents.{grid_in}
use Rattle.grid_text.specs.Faults.{Fault}
use Rattle.grid_text.specs.Grammar.{GridText}
use Rattle.grid_text.specs.Headed.{Headed}
use Rattle.grid_text.specs.Refusals.{RefusedGrid}
use Rattle.grid_text.specs.Settled.{IsSettledText}
use Rattle.grid_text.proofs.BadCells.{either, same_fault}
use Rattle.grid_text.proofs.GrammarLaw.{text-read, read-text}
use Rattle.grid_text.proofs.RefusalLaw.{refused-read, read-refused}
use Rattle.grid_text.proofs.SoundHeaders.{ok_is}

apart : (bytes : List ℕ) (g : Headed) (f : Fault) → grid_in bytes ≡ Ok g → grid_in bytes ≡ Err f → ⊥
apart bytes g f e h = cc

one_of : (bytes : List ℕ) → ((g : Headed) × GridText bytes g) ⊎ ((f : Fault) × RefusedGrid bytes f)
one_of bytes =
    elim (either (grid_in bytes)) [
      | inl g ↦ inl (g.0, read-text bytes g.0 g.1)
      | inr f ↦ inr (f.0, read-refused bytes f.0 f.1)
    ]

pub settled : (bytes : List ℕ) → IsSettledText bytes
settled bytes = record {
  one_grid = λ g h a b. ok_is g h (sym (text-read bytes g a) ∙ text-read bytes h b);
  one_fault = λ f g a b. same_fault (grid_in bytes) f g (refused-read bytes f a) (refused-read bytes g b);
  never_both = λ g f a b. apart bytes g f (text-read bytes g a) (refused-read bytes f b);
  either = one_of bytes;
}
