-- Words appended one after the other.
use Rattle.std.proofs.Common.{◌≡◌, List, [], ◌∷◌, ◌++◌, Result, Ok, Err, refl, sym, ap, ◌∙◌, append_assoc}
use Rattle.std.specs.Prelude.{IfOk}
use Rattle.map_words.specs.Bytes.{Text}
use Rattle.statement_parser.specs.Spacing.{spaced}
use Rattle.statement_parser.specs.Printing.{Adds}

spaced-append : (ts us : List Text) → spaced (ts ++ us) ≡ spaced ts ++ spaced us
spaced-append [] us = refl
spaced-append (t ∷ ts) us = ap (λ s. 32 ∷ (t ++ s)) (spaced-append ts us) ∙ ap (λ s. 32 ∷ s) (sym (append_assoc t (spaced ts) (spaced us)))

pub adds_then : {a b c : Text} {ts us : List Text} → Adds a b ts → Adds b c us → Adds a c (ts ++ us)
adds_then {a} {b} {c} {ts} {us} f g = record {
  grown = g.grown ∙ ap (λ t. t ++ spaced us) f.grown ∙ append_assoc a (spaced ts) (spaced us) ∙ ap (λ t. a ++ t) (sym (spaced-append ts us));
}

pub if_then : {T E : Type 0} {a b : Text} {ts : List Text} (r : Result T E) (c : Text) (us : List Text) → Adds a b ts → IfOk r (λ _. Adds b c us) → IfOk r (λ _. Adds a c (ts ++ us))
if_then (Ok x) c us f g = adds_then f g
if_then (Err e) c us f g = tt
