-- A line that ends the session ends it wherever it stands.
use Rattle.std.proofs.Common.{◌≡◌, ℕ, Bool, true, false, List, Result, Ok, Err, refl, ap, sym}
use Rattle.map_lines.specs.Present.{rows_at}
use Rattle.statement_parser.specs.Lines.{Line, blank, edit, undo, ask, model, quit}
use Rattle.statement_parser.specs.Texts.{Refusal}
use Rattle.statement_parser.specs.LineOf.{line_of}
use Rattle.statement_parser.specs.There.{HasCommand}
use Rattle.statement_parser.specs.declared.language.Place.{Place}
use Rattle.statement_parser.specs.declared.command.Command.TheVariants.{Quit}
use Rattle.statement_parser.proofs.Quitting.{quits}
use Rattle.map_machine.specs.Steps.{ends}

has_quit : (p : Place) → HasCommand (rows_at p) Quit
unfolding rows_at
has_quit p = elim p.early as (λ e. HasCommand (rows_at (record p { early = e })) Quit) [
  | true ↦ refl
  | false ↦ refl
]

ends_quit : (r : Result Line Refusal) → ends r ≡ true → r ≡ Ok quit
ends_quit (Ok blank) e = absurd (cc)
ends_quit (Ok (edit x)) e = absurd (cc)
ends_quit (Ok undo) e = absurd (cc)
ends_quit (Ok (ask q)) e = absurd (cc)
ends_quit (Ok (model l)) e = absurd (cc)
ends_quit (Ok quit) e = refl
ends_quit (Err r) e = absurd (cc)

ends_too : (p q : Place) (line : List ℕ) → ends (line_of (rows_at p) line) ≡ true → ends (line_of (rows_at q) line) ≡ true
ends_too p q line e = ap ends (quits (rows_at p) (rows_at q) line (has_quit q) (ends_quit (line_of (rows_at p) line) e))

pub quit_anywhere : (p q : Place) (line : List ℕ) → ends (line_of (rows_at p) line) ≡ ends (line_of (rows_at q) line)
quit_anywhere p q line = go (ends (line_of (rows_at p) line)) (ends (line_of (rows_at q) line)) (ends_too p q line) (ends_too q p line)
  where
    go : (b c : Bool) → (b ≡ true → c ≡ true) → (c ≡ true → b ≡ true) → b ≡ c
    go true c f g = sym (f refl)
    go false true f g = g refl
    go false false f g = refl
