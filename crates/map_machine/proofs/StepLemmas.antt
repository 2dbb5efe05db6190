-- What a line does, by its kind.
use Rattle.std.proofs.Common.{◌≡◌, ◌↔◌, ℕ, true, List, [], ◌∷◌, Result, Ok, Err, refl, subst}
use Rattle.map_lines.specs.Present.{first_place, rows_at}
use Rattle.statement_parser.specs.Lines.{Line, blank, edit, undo, ask, model, quit}
use Rattle.statement_parser.specs.Texts.{Refusal as LineRefusal}
use Rattle.statement_parser.specs.LineOf.{line_of}
use Rattle.map_edits.specs.Refusals.{Refusal}
use Rattle.map_edits.specs.Counted.{Accepted, accept_counted}
use Rattle.map_edits.specs.LineEdits.{line_edit}
use Rattle.map_edits.specs.Pasts.{Past}
use Rattle.map_edits.specs.WholeEdits.{WholeEdit}
use Rattle.map_machine.specs.declared.Kind.TheVariants.{Quit}
use Rattle.map_machine.specs.States.{MapState}
use Rattle.map_machine.specs.Steps.{edited, undone, step_by, step_of, ends, is_quit}
use Rattle.map_machine.proofs.Quits.{quit_anywhere}

edited_goes_on : (s : MapState) (e : WholeEdit) (r : Result Accepted Refusal) → (edited s e r).kind ≡ Quit → ⊥
edited_goes_on s e (Ok a) k = cc
edited_goes_on s e (Err r) k = cc

undone_goes_on : (s : MapState) (pasts : List Past) → (undone s pasts).kind ≡ Quit → ⊥
undone_goes_on s [] k = cc
undone_goes_on s (p ∷ ps) k = cc

ends_kind : (s : MapState) (r : Result Line LineRefusal) → ((step_by s r).kind ≡ Quit) ↔ (ends r ≡ true)
ends_kind s (Ok blank) = (λ e. absurd (cc), λ e. absurd (cc))
ends_kind s (Ok (edit e)) = (λ k. absurd (edited_goes_on s (line_edit e) (accept_counted s.whole (line_edit e)) k), λ q. absurd (cc))
ends_kind s (Ok undo) = (λ k. absurd (undone_goes_on s s.pasts k), λ q. absurd (cc))
ends_kind s (Ok (ask r)) = (λ e. absurd (cc), λ e. absurd (cc))
ends_kind s (Ok (model l)) = (λ e. absurd (cc), λ e. absurd (cc))
ends_kind s (Ok quit) = (λ e. refl, λ e. refl)
ends_kind s (Err r) = (λ e. absurd (cc), λ e. absurd (cc))

-- a line is told as the end exactly where it ends the session
pub quit_kind : (s : MapState) (line : List ℕ) → ((step_of s line).kind ≡ Quit) ↔ (is_quit line ≡ true)
unfolding step_of is_quit
quit_kind s line = subst (λ b. ((step_by s (line_of (rows_at s.place) line)).kind ≡ Quit) ↔ (b ≡ true)) (quit_anywhere s.place first_place line) (ends_kind s (line_of (rows_at s.place) line))
