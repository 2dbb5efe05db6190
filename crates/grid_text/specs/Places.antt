-- Tokens by their place in a text.
use Rattle.std.specs.Prelude.{ℕ, ◌+◌, List, [], ◌∷◌, drop, Result, Ok, Err}
use Rattle.grid_text.specs.Heads.{new_key, with_pair}
use Rattle.grid_text.specs.Faults.{Fault, number, ◌>>=◌}
use Rattle.grid_text.specs.Tokens as texts
use Rattle.grid_text.specs.declared.found.Found.{Found}
use Rattle.grid_text.specs.declared.tokens.Token.{Token}

-- the tokens from a byte on, which is counted from 0
abbrev pub tokens_left : List ℕ → ℕ → List texts.Token
tokens_left bytes from = texts.tokens_from (from + 1) (drop from bytes)

abbrev pub token_of : Token → texts.Token
token_of t = record { at = t.at + 1; text = t.text.now }

-- what is found with the pair of this name, and the tokens after it
abbrev pub pair_in : ℕ → Found → texts.Token → List texts.Token → Result (Found × List texts.Token) Fault
pair_in end found name [] = new_key found name >>= λ k. Err (number end)
pair_in end found name (value ∷ tokens) = new_key found name >>= λ k. with_pair found k value >>= λ more. Ok (more, tokens)
