-- Tokens that are cells are read as them, and no others are.
use Rattle.std.proofs.Common.{◌≡◌, ◌≢◌, ℕ, ◌+◌, ◌==◌, ◌||◌, ◌&&◌, true, false, cond, nat_le, nat_lt, ℤ, pos, neg_ℤ, List, [], ◌∷◌, length, take, drop, Option, Some, None, Result, Ok, Err, refl, sym, ap, subst, ◌∙◌, inl, inr, arith}
use Rattle.std.specs.Prelude.{◌⊎◌}
use Rattle.std.specs.Char.{is_ascii_digit}
use Rattle.std.specs.List.{prefix_len}
use Rattle.std.specs.Option.{option_map}
use Rattle.std.specs.Ordering.{int_eq}
use Rattle.std.proofs.lemmas.Bool.{cond-true, cond-false, cases_Bool, cases_lt, and_right, lt-leb, eq-eqb, ne_eqb}
use Rattle.std.proofs.lemmas.Bool.Decides.{Decides-int_eq}
use Rattle.map_nums.specs.Grids.{Cells}
use Rattle.map_nums.specs.Numbers.{is_value}
use Rattle.grid_text.specs.Contents.{cell_of_number, cell_in, cells_from}
use Rattle.grid_text.specs.Faults.{Fault, cell, range, more, few, or_fault, ◌>>=◌}
use Rattle.grid_text.specs.Grammar.{IsCellText, AreCells}
use Rattle.grid_text.specs.Keys.{begins_with_letter}
use Rattle.grid_text.specs.Numbers.{whole_in, natural_in, is_zero_fraction, digits_number}
use Rattle.grid_text.specs.Tokens.{Token}
use Rattle.grid_text.proofs.SoundHeaders.{bind_ok, ok_is, or_fault_ok, chosen_ok}

pub other_number : (null z : ℤ) → z ≢ null → ((int_eq z null ≡ true) ⊎ (int_eq z null ≡ false)) → int_eq z null ≡ false
other_number null z n (inl t) = absurd (n ((Decides-int_eq z null).0 t))
other_number null z n (inr f) = f

pub cell-text : (null : ℤ) (i : ℕ) (text : List ℕ) (c : Option ℤ) → cell_in null i text ≡ Ok c → IsCellText null text c
cell-text null i text c e =
    let p = bind_ok (or_fault (cell i) (whole_in text)) (λ z. cell_of_number null i z) c e in
    let whole : whole_in text ≡ Some p.0 = or_fault_ok (cell i) (whole_in text) p.0 p.1 in
    elim (chosen_ok (int_eq p.0 null) (Ok None) (cond (is_value p.0) (Ok (Some p.0)) (Err (range i))) c p.2) [
      | inl h ↦ subst (IsCellText null text) (ok_is None c h.1) (whole ∙ ap (λ (z : ℤ). Some z) ((Decides-int_eq p.0 null).0 h.0))
      | inr h ↦
          elim (chosen_ok (is_value p.0) (Ok (Some p.0)) (Err (range i)) c h.1) [
            | inl v ↦ subst (IsCellText null text) (ok_is (Some p.0) c v.1) (whole, (λ same. absurd (let t = (Decides-int_eq p.0 null).1 same in let f = h.0 in cc)), v.0)
            | inr v ↦ absurd (let f = v.1 in cc)
          ]
    ]

pub text-cell : (null : ℤ) (i : ℕ) (text : List ℕ) (c : Option ℤ) → IsCellText null text c → cell_in null i text ≡ Ok c
text-cell null i text None h =
    ap (λ (o : Option ℤ). or_fault (cell i) o >>= λ z. cell_of_number null i z) h ∙ cond-true _ _ _ ((Decides-int_eq null null).1 refl)
text-cell null i text (Some z) h =
    ap (λ (o : Option ℤ). or_fault (cell i) o >>= λ z. cell_of_number null i z) h.0 ∙ cond-false _ _ _ (other_number null z h.1 (cases_Bool (int_eq z null))) ∙ cond-true _ _ _ h.2

pub cells-are : (null : ℤ) (need have : ℕ) (tokens : List Token) (cells : Cells) → cells_from null need have tokens ≡ Ok cells → AreCells null tokens cells
cells-are null need have [] cells e =
    elim (chosen_ok (have == need) (Ok []) (Err (few have need)) cells e) [
      | inl h ↦ subst (AreCells null []) (ok_is [] cells h.1) tt
      | inr h ↦ absurd (let f = h.1 in cc)
    ]
cells-are null need have (token ∷ tokens) cells e =
    elim (chosen_ok (have == need) (Err (more token.at)) (cell_in null (have + 1) token.text >>= λ c. cells_from null need (have + 1) tokens >>= λ cells. Ok (c ∷ cells)) cells e) [
      | inl h ↦ absurd (let f = h.1 in cc)
      | inr h ↦
          let p = bind_ok (cell_in null (have + 1) token.text) (λ c. cells_from null need (have + 1) tokens >>= λ cells. Ok (c ∷ cells)) cells h.1 in
          let q = bind_ok (cells_from null need (have + 1) tokens) (λ cells. Ok (p.0 ∷ cells)) cells p.2 in
          subst (AreCells null (token ∷ tokens)) (ok_is (p.0 ∷ q.0) cells q.2) (cell-text null (have + 1) token.text p.0 p.1, cells-are null need (have + 1) tokens q.0 q.1)
    ]

pub are-cells : (null : ℤ) (need have : ℕ) (tokens : List Token) (cells : Cells) → AreCells null tokens cells → have + length cells ≡ need → cells_from null need have tokens ≡ Ok cells
are-cells null need have [] [] h n = cond-true _ _ _ (eq-eqb have need (omega (arith, n)))
are-cells null need have [] (c ∷ cells) h n = absurd h
are-cells null need have (token ∷ tokens) [] h n = absurd h
are-cells null need have (token ∷ tokens) (c ∷ cells) h n =
    cond-false _ _ _ (ne_eqb have need (λ e. omega (arith, n, e)))
    ∙ ap (λ r. r >>= λ c. cells_from null need (have + 1) tokens >>= λ cells. Ok (c ∷ cells)) (text-cell null (have + 1) token.text c h.0)
    ∙ ap (λ (r : Result Cells Fault). r >>= λ cells. Ok (c ∷ cells)) (are-cells null need (have + 1) tokens cells h.1 (omega (arith, n)))

-- a number doesn't begin with a letter
pub number-no_letter : (text : List ℕ) (z : ℤ) → whole_in text ≡ Some z → begins_with_letter text ≡ false
number-no_letter [] z h = refl
number-no_letter (b ∷ text) z h =
    elim (cases_lt b 65) [
      | inl l ↦ λ i. ((lt-leb 65 b l i && nat_le b 90) || (lt-leb 97 b (omega (arith, l)) i && nat_le b 122))
      | inr l ↦
          let plus : (b == 43) ≡ false = ne_eqb b 43 (λ e. omega (arith, e, l)) in
          let minus : (b == 45) ≡ false = ne_eqb b 45 (λ e. omega (arith, e, l)) in
          let digit : is_ascii_digit b ≡ false = and_right (nat_le 48 b) (nat_le b 57) (lt-leb b 57 (omega (arith, l))) in
          let none : natural_in (b ∷ text) ≡ None = λ i. (let count : ℕ = cond (digit i) (1 + prefix_len is_ascii_digit text) 0 in cond (nat_lt 0 count && is_zero_fraction (drop count (b ∷ text))) (Some (digits_number (take count (b ∷ text)))) None) in
          let whole : whole_in (b ∷ text) ≡ None = (λ i. option_map (λ n. cond (b == 45) (neg_ℤ (pos n)) (pos n)) (natural_in (cond (plus i || minus i) text (b ∷ text)))) ∙ ap (option_map (λ n. cond (b == 45) (neg_ℤ (pos n)) (pos n))) none in
          absurd (let e : None ≡ Some z = sym whole ∙ h in cc)
    ]
