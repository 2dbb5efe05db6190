-- Cells that are read up to their first fault.
use Rattle.std.proofs.Common.{◌≡◌, ◌≢◌, ℕ, ◌+◌, ◌<◌, ◌≤◌, ◌==◌, ℤ, List, [], ◌∷◌, ◌++◌, length, Option, Some, None, Result, Ok, Err, refl, sym, ap, subst, ◌∙◌, inl, inr, arith, length-append, append_assoc}
use Rattle.std.specs.Prelude.{◌⊎◌}
use Rattle.std.specs.Ordering.{int_eq}
use Rattle.std.proofs.lemmas.Bool.{cond-true, cond-false, cases_Bool, eqb-true, eqb-false, eq-eqb, ne_eqb}
use Rattle.std.proofs.lemmas.Bool.Decides.{Decides-int_eq}
use Rattle.map_nums.specs.Grids.{Cells}
use Rattle.map_nums.specs.Numbers.{is_value}
use Rattle.grid_text.specs.Contents.{cell_of_number, cell_in, cells_from}
use Rattle.grid_text.specs.Faults.{Fault, cell, range, more, few, or_fault, ◌>>=◌}
use Rattle.grid_text.specs.Grammar.{AreCells}
use Rattle.grid_text.specs.Numbers.{whole_in}
use Rattle.grid_text.specs.Refusals.{BadCells}
use Rattle.grid_text.specs.Tokens.{Token}
use Rattle.grid_text.proofs.CellTexts.{cell-text, text-cell, other_number}

-- the value or the fault
pub either : {A : Type 0} (r : Result A Fault) → ((a : A) × (r ≡ Ok a)) ⊎ ((fault : Fault) × (r ≡ Err fault))
either (Ok a) = inl (a, refl)
either (Err fault) = inr (fault, refl)

pub same_fault : {A : Type 0} (r : Result A Fault) (f g : Fault) → r ≡ Err f → r ≡ Err g → f ≡ g
same_fault (Ok a) f g e h = absurd cc
same_fault (Err x) f g e h = cc

pub are-append : (null : ℤ) (good : List Token) (cells : Cells) (token : Token) (c : Option ℤ) → AreCells null good cells → AreCells null (token ∷ []) (c ∷ []) → AreCells null (good ++ token ∷ []) (cells ++ c ∷ [])
are-append null [] [] token c h t = t
are-append null [] (d ∷ cells) token c h t = absurd h
are-append null (g ∷ good) [] token c h t = absurd h
are-append null (g ∷ good) (d ∷ cells) token c h t = (h.0, are-append null good cells token c h.1 t)

-- good cells, and then a fault
pub record Broken (null : ℤ) (need : ℕ) (rest : List Token) (fault : Fault) : Type 0 where
  pub cells : Cells
  pub good : List Token
  pub left : List Token
  pub split : rest ≡ good ++ left
  pub are : AreCells null good cells
  pub bad : BadCells null need cells left fault

no_number : (o : Option ℤ) → (o ≡ None) ⊎ ((z : ℤ) × (o ≡ Some z))
no_number None = inl refl
no_number (Some z) = inr (z, refl)

-- why a token is no cell
broken_cell : (null : ℤ) (need : ℕ) (cells : Cells) (token : Token) (tokens : List Token) (fault : Fault) → length cells < need → cell_in null (length cells + 1) token.text ≡ Err fault → BadCells null need cells (token ∷ tokens) fault
broken_cell null need cells token tokens fault l e =
    let i : ℕ = length cells + 1 in
    elim (no_number (whole_in token.text)) [
      | inl n ↦
          let known : cell_in null i token.text ≡ Err (cell i) = ap (λ (o : Option ℤ). or_fault (cell i) o >>= λ z. cell_of_number null i z) n in
          subst (BadCells null need cells (token ∷ tokens)) (same_fault (cell_in null i token.text) (cell i) fault known e) (l, n, refl)
      | inr z ↦
          let start : cell_in null i token.text ≡ cell_of_number null i z.0 = ap (λ (o : Option ℤ). or_fault (cell i) o >>= λ z. cell_of_number null i z) z.1 in
          elim (cases_Bool (int_eq z.0 null)) [
            | inl t ↦ absurd (let good : cell_in null i token.text ≡ Ok None = start ∙ cond-true _ _ _ t in cc)
            | inr t ↦
                elim (cases_Bool (is_value z.0)) [
                  | inl v ↦ absurd (let good : cell_in null i token.text ≡ Ok (Some z.0) = start ∙ cond-false _ _ _ t ∙ cond-true _ _ _ v in cc)
                  | inr v ↦
                      let known : cell_in null i token.text ≡ Err (range i) = start ∙ cond-false _ _ _ t ∙ cond-false _ _ _ v in
                      let apart : z.0 ≢ null = λ same. absurd (let u = (Decides-int_eq z.0 null).1 same in cc) in
                      subst (BadCells null need cells (token ∷ tokens)) (same_fault (cell_in null i token.text) (range i) fault known e) (l, (z.0, z.1, apart, v), refl)
                ]
          ]
    ]

pub broken : (null : ℤ) (need : ℕ) (rest : List Token) (fault : Fault) (tokens : List Token) (front : Cells) (gone : List Token) → rest ≡ gone ++ tokens → AreCells null gone front → length front ≤ need
    → cells_from null need (length front) tokens ≡ Err fault → Broken null need rest fault
broken null need rest fault [] front gone split are l e =
    elim (cases_Bool (length front == need)) [
      | inl t ↦ absurd (let good : cells_from null need (length front) [] ≡ Ok [] = cond-true _ _ _ t in cc)
      | inr t ↦
          let known : cells_from null need (length front) [] ≡ Err (few (length front) need) = cond-false _ _ _ t in
          let less : length front < need = omega (arith, l, eqb-false (length front) need t) in
          record { cells = front; good = gone; left = []; split = split; are = are; bad = subst (BadCells null need front []) (same_fault (cells_from null need (length front) []) (few (length front) need) fault known e) (less, refl, refl) }
    ]
broken null need rest fault (token ∷ tokens) front gone split are l e =
    elim (cases_Bool (length front == need)) [
      | inl t ↦
          let known : cells_from null need (length front) (token ∷ tokens) ≡ Err (more token.at) = cond-true _ _ _ t in
          record {
            cells = front;
            good = gone;
            left = token ∷ tokens;
            split = split;
            are = are;
            bad = subst (BadCells null need front (token ∷ tokens)) (same_fault (cells_from null need (length front) (token ∷ tokens)) (more token.at) fault known e) (eqb-true (length front) need t, refl);
          }
      | inr t ↦
          let less : length front < need = omega (arith, l, eqb-false (length front) need t) in
          let start : cells_from null need (length front) (token ∷ tokens) ≡ (cell_in null (length front + 1) token.text >>= λ c. cells_from null need (length front + 1) tokens >>= λ cells. Ok (c ∷ cells)) = cond-false _ _ _ t in
          elim (either (cell_in null (length front + 1) token.text)) [
            | inl c ↦
                let count : length (front ++ c.0 ∷ []) ≡ length front + 1 = length-append front (c.0 ∷ []) in
                let one : cells_from null need (length front) (token ∷ tokens) ≡ (cells_from null need (length front + 1) tokens >>= λ cells. Ok (c.0 ∷ cells)) =
                start ∙ ap (λ (r : Result (Option ℤ) Fault). r >>= λ c. cells_from null need (length front + 1) tokens >>= λ cells. Ok (c ∷ cells)) c.1 in
                elim (either (cells_from null need (length front + 1) tokens)) [
                  | inl cells ↦ absurd (let good : cells_from null need (length front) (token ∷ tokens) ≡ Ok (c.0 ∷ cells.0) = one ∙ ap (λ (r : Result Cells Fault). r >>= λ cells. Ok (c.0 ∷ cells)) cells.1 in cc)
                  | inr f ↦
                      let known : cells_from null need (length front) (token ∷ tokens) ≡ Err f.0 = one ∙ ap (λ (r : Result Cells Fault). r >>= λ cells. Ok (c.0 ∷ cells)) f.1 in
                      broken null need rest fault tokens (front ++ c.0 ∷ []) (gone ++ token ∷ []) (split ∙ sym (append_assoc gone (token ∷ []) tokens))
                      (are-append null gone front token c.0 are (cell-text null (length front + 1) token.text c.0 c.1, tt))
                      (omega (arith, less, count))
                      (ap (λ k. cells_from null need k tokens) count ∙ f.1 ∙ ap (λ (x : Fault). Err x) (same_fault (cells_from null need (length front) (token ∷ tokens)) f.0 fault known e))
                ]
            | inr f ↦
                let known : cells_from null need (length front) (token ∷ tokens) ≡ Err f.0 = start ∙ ap (λ (r : Result (Option ℤ) Fault). r >>= λ c. cells_from null need (length front + 1) tokens >>= λ cells. Ok (c ∷ cells)) f.1 in
                let same : f.0 ≡ fault = same_fault (cells_from null need (length front) (token ∷ tokens)) f.0 fault known e in
                record {
                  cells = front;
                  good = gone;
                  left = token ∷ tokens;
                  split = split;
                  are = are;
                  bad = broken_cell null need front token tokens fault less (f.1 ∙ ap (λ (x : Fault). Err x) same);
                }
          ]
    ]

-- the fault itself
at_fault : (null : ℤ) (need have : ℕ) (cells : Cells) (left : List Token) (fault : Fault) → have ≡ length cells → BadCells null need cells left fault → cells_from null need have left ≡ Err fault
at_fault null need have cells [] (few h w) n b = cond-false _ _ _ (ne_eqb have need (λ e. omega (arith, b.0, n, e))) ∙ (λ i. Err (few ((n ∙ sym b.1) i) (sym b.2 i)))
at_fault null need have cells (token ∷ tokens) (more at) n b = cond-true _ _ _ (eq-eqb have need (n ∙ b.0)) ∙ ap (λ k. Err (more k)) (sym b.1)
at_fault null need have cells (token ∷ tokens) (cell j) n b =
    cond-false _ _ _ (ne_eqb have need (λ e. omega (arith, b.0, n, e)))
    ∙ ap (λ (o : Option ℤ). (or_fault (cell (have + 1)) o >>= λ z. cell_of_number null (have + 1) z) >>= λ c. cells_from null need (have + 1) tokens >>= λ cells. Ok (c ∷ cells)) b.1
    ∙ ap (λ k. Err (cell k)) (ap (λ k. k + 1) n ∙ sym b.2)
at_fault null need have cells (token ∷ tokens) (range j) n b =
    let z = b.1 in
    let bad : cell_of_number null (have + 1) z.0 ≡ Err (range (have + 1)) = cond-false _ _ _ (other_number null z.0 z.2 (cases_Bool (int_eq z.0 null))) ∙ cond-false _ _ _ z.3 in
    cond-false _ _ _ (ne_eqb have need (λ e. omega (arith, b.0, n, e)))
    ∙ ap (λ (o : Option ℤ). (or_fault (cell (have + 1)) o >>= λ z. cell_of_number null (have + 1) z) >>= λ c. cells_from null need (have + 1) tokens >>= λ cells. Ok (c ∷ cells)) z.1
    ∙ ap (λ (r : Result (Option ℤ) Fault). r >>= λ c. cells_from null need (have + 1) tokens >>= λ cells. Ok (c ∷ cells)) bad
    ∙ ap (λ k. Err (range k)) (ap (λ k. k + 1) n ∙ sym b.2)
at_fault null need have cells left fault n b = absurd b

enough : (null : ℤ) (need : ℕ) (cells : Cells) (left : List Token) (fault : Fault) → BadCells null need cells left fault → length cells ≤ need
enough null need cells [] (few h w) b = omega (arith, b.0)
enough null need cells (token ∷ tokens) (more at) b = omega (arith, b.0)
enough null need cells (token ∷ tokens) (cell j) b = omega (arith, b.0)
enough null need cells (token ∷ tokens) (range j) b = omega (arith, b.0)
enough null need cells left fault b = absurd b

-- good cells, and then the fault
pub to_fault : (null : ℤ) (need have : ℕ) (good : List Token) (some all : Cells) (left : List Token) (fault : Fault) → AreCells null good some → have + length some ≡ length all → BadCells null need all left fault → cells_from null need have (good ++ left) ≡ Err fault
to_fault null need have [] [] all left fault h n b = at_fault null need have all left fault (omega (arith, n)) b
to_fault null need have [] (c ∷ some) all left fault h n b = absurd h
to_fault null need have (token ∷ good) [] all left fault h n b = absurd h
to_fault null need have (token ∷ good) (c ∷ some) all left fault h n b =
    cond-false _ _ _ (ne_eqb have need (λ e. omega (arith, enough null need all left fault b, n, e)))
    ∙ ap (λ r. r >>= λ c. cells_from null need (have + 1) (good ++ left) >>= λ cells. Ok (c ∷ cells)) (text-cell null (have + 1) token.text c h.0)
    ∙ ap (λ (r : Result Cells Fault). r >>= λ cells. Ok (c ∷ cells)) (to_fault null need (have + 1) good some all left fault h.1 (omega (arith, n)) b)
