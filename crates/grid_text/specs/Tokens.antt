-- The tokens of a text: the maximal runs of bytes that are no white space.
use Rattle.std.specs.Prelude.{ℕ, ◌+◌, Bool, true, false, not, ◌||◌, ◌==◌, List, [], ◌∷◌}

-- space, tab, carriage return, line feed
abbrev pub is_white : ℕ → Bool
is_white b = b == 32 || b == 9 || b == 13 || b == 10

-- a token, and the number of its first byte, counted from 1
pub record Token : Type 0 where
  pub at : ℕ
  pub text : List ℕ

abbrev pub begins_token : List ℕ → Bool
begins_token [] = false
begins_token (b ∷ bytes) = not (is_white b)

-- the tokens of a text whose byte n is b and whose further bytes have these; `white`: b is white space, `joins`: a token begins right after it
abbrev pub with_byte : ℕ → ℕ → Bool → Bool → List Token → List Token
with_byte n b true joins tokens = tokens
with_byte n b false true (token ∷ tokens) = record { at = n; text = b ∷ token.text } ∷ tokens
with_byte n b false true [] = record { at = n; text = b ∷ [] } ∷ []
with_byte n b false false tokens = record { at = n; text = b ∷ [] } ∷ tokens

-- the tokens of bytes of which the first is byte n
abbrev pub tokens_from : ℕ → List ℕ → List Token
tokens_from n [] = []
tokens_from n (b ∷ bytes) = with_byte n b (is_white b) (begins_token bytes) (tokens_from (n + 1) bytes)

abbrev pub tokens_of : List ℕ → List Token
tokens_of bytes = tokens_from 1 bytes

-- where the first token begins, or where the text ends
abbrev pub first_at : ℕ → List Token → ℕ
first_at end [] = end
first_at end (token ∷ tokens) = token.at
