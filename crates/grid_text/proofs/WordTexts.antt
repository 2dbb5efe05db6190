-- Words with a byte of white space after each.
use Rattle.std.proofs.Common.{◌≡◌, ℕ, ◌+◌, ◌<◌, ◌≤◌, ◌==◌, Bool, true, false, not, ◌||◌, nat_le, List, [], ◌∷◌, ◌++◌, length, refl, ap, ◌∙◌, arith}
use Rattle.std.specs.Char.{is_ascii_digit}
use Rattle.std.specs.List.{list_all}
use Rattle.std.proofs.lemmas.Bool.{and_parts, and_from, ne_eqb, leb-true}
use Rattle.grid_text.specs.Tokens.{is_white, with_byte, tokens_from}
use Rattle.grid_text.proofs.Splits.{token, tokens-white, tokens-other}

abbrev pub is_solid : ℕ → Bool
is_solid b = not (is_white b)

pub record IsWord (word : List ℕ) : Type 0 where
  pub some : 0 < length word
  pub solid : list_all is_solid word ≡ true

not_true : (w : Bool) → not w ≡ true → w ≡ false
not_true true e = cc
not_true false e = refl

-- a word, and the tokens after the white space that ends it
pub record Then (n : ℕ) (word bytes rest : List ℕ) : Type 0 where
  pub next : ℕ
  pub tokens : tokens_from n bytes ≡ token n word ∷ tokens_from next rest

word_then : (n b : ℕ) (word : List ℕ) (space : ℕ) (rest : List ℕ) → list_all is_solid (b ∷ word) ≡ true → is_white space ≡ true → Then n (b ∷ word) ((b ∷ word) ++ (space ∷ rest)) rest
word_then n b [] space rest h e =
    let solid : is_white b ≡ false = not_true (is_white b) (and_parts (is_solid b) (list_all is_solid []) h).0 in
    record {
      next = n + 1 + 1;
      tokens =
          tokens-other n b (space ∷ rest) solid
          ∙ ap (λ w. with_byte n b false (not w) (tokens_from (n + 1) (space ∷ rest))) e
          ∙ ap (λ ts. token n (b ∷ []) ∷ ts) (tokens-white (n + 1) space rest e);
    }
word_then n b (c ∷ word) space rest h e =
    let parts = and_parts (is_solid b) (list_all is_solid (c ∷ word)) h in
    let solid : is_white b ≡ false = not_true (is_white b) parts.0 in
    let next : is_white c ≡ false = not_true (is_white c) (and_parts (is_solid c) (list_all is_solid word) parts.1).0 in
    let more = word_then (n + 1) c word space rest parts.1 e in
    record {
      next = more.next;
      tokens =
          tokens-other n b ((c ∷ word) ++ (space ∷ rest)) solid
          ∙ ap (λ w. with_byte n b false (not w) (tokens_from (n + 1) ((c ∷ word) ++ (space ∷ rest)))) next
          ∙ ap (with_byte n b false true) more.tokens;
    }

pub word_first : (n : ℕ) (word : List ℕ) (space : ℕ) (rest : List ℕ) → IsWord word → is_white space ≡ true → Then n word (word ++ (space ∷ rest)) rest
word_first n [] space rest h e = absurd (omega (arith, h.some))
word_first n (b ∷ word) space rest h e = word_then n b word space rest h.solid e

pub list_all-weaker : (p q : ℕ → Bool) → ((b : ℕ) → p b ≡ true → q b ≡ true) → (bytes : List ℕ) → list_all p bytes ≡ true → list_all q bytes ≡ true
list_all-weaker p q f [] h = refl
list_all-weaker p q f (b ∷ bytes) h = let parts = and_parts (p b) (list_all p bytes) h in and_from (q b) (list_all q bytes) (f b parts.0) (list_all-weaker p q f bytes parts.1)

-- a byte above the space is no white space
pub solid_above : (b : ℕ) → 33 ≤ b → is_solid b ≡ true
solid_above b l =
    let space : (b == 32) ≡ false = ne_eqb b 32 (λ e. omega (arith, e, l)) in
    let tab : (b == 9) ≡ false = ne_eqb b 9 (λ e. omega (arith, e, l)) in
    let back : (b == 13) ≡ false = ne_eqb b 13 (λ e. omega (arith, e, l)) in
    let feed : (b == 10) ≡ false = ne_eqb b 10 (λ e. omega (arith, e, l)) in
    λ i. not (((space i || tab i) || back i) || feed i)

pub digit_least : (b : ℕ) → is_ascii_digit b ≡ true → (48 ≤ b) × (b ≤ 57)
digit_least b h = let p = and_parts (nat_le 48 b) (nat_le b 57) h in (leb-true 48 b p.0, leb-true b 57 p.1)

pub digit_solid : (b : ℕ) → is_ascii_digit b ≡ true → is_solid b ≡ true
digit_solid b h = solid_above b (omega (arith, (digit_least b h).0))
