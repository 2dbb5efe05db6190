-- Pairs that are read one after another.
use Rattle.std.proofs.Common.{◌≡◌, ℕ, true, List, [], ◌∷◌, Result, Ok, Err, refl, sym, ap, ◌∙◌}
use Rattle.std.proofs.lemmas.Bool.{cond-true}
use Rattle.grid_text.specs.Heads.{new_key, with_pair, pairs_in}
use Rattle.grid_text.specs.Faults.{Fault, number, ◌>>=◌}
use Rattle.grid_text.specs.Keys.{begins_with_letter}
use Rattle.grid_text.specs.Places.{pair_in}
use Rattle.grid_text.specs.Reads.{Refuses}
use Rattle.grid_text.specs.Tokens.{Token}
use Rattle.grid_text.specs.declared.GridRefusal.{GridRefusal}
use Rattle.grid_text.specs.declared.found.Found.{Found}
use Rattle.grid_text.specs.declared.keys.Key.{Key}
use Rattle.grid_text.proofs.CellLists.{refuses-same}

abbrev pub then_pairs : ℕ → Result (Found × List Token) Fault → Result (Found × List Token) Fault
then_pairs end r = r >>= λ p. pairs_in end p.0 p.1

pair_first : (end : ℕ) (found : Found) (value : Token) (tokens : List Token) (r : Result Key Fault)
    → (r >>= λ k. with_pair found k value >>= λ more. pairs_in end more tokens) ≡ then_pairs end (r >>= λ k. with_pair found k value >>= λ more. Ok (more, tokens))
pair_first end found value tokens (Ok k) = value_first (with_pair found k value)
  where
    value_first : (r : Result Found Fault) → (r >>= λ more. pairs_in end more tokens) ≡ then_pairs end (r >>= λ more. Ok (more, tokens))
    value_first (Ok more) = refl
    value_first (Err fault) = refl
pair_first end found value tokens (Err fault) = refl

no_value : (end : ℕ) (r : Result Key Fault) (fault : Fault) → (r >>= λ k. Err fault) ≡ then_pairs end (r >>= λ k. Err fault)
no_value end (Ok k) fault = refl
no_value end (Err f) fault = refl

-- the first pair, and then the others
pub pairs_in-pair : (end : ℕ) (found : Found) (name : Token) (tokens : List Token) → begins_with_letter name.text ≡ true
    → pairs_in end found (name ∷ tokens) ≡ then_pairs end (pair_in end found name tokens)
pairs_in-pair end found name [] l = cond-true _ _ _ l ∙ no_value end (new_key found name) (number end)
pairs_in-pair end found name (value ∷ tokens) l = cond-true _ _ _ l ∙ pair_first end found value tokens (new_key found name)

pub next_pair : (end : ℕ) (found more : Found) (name : Token) (left after tokens : List Token) (total : Result (Found × List Token) Fault) → left ≡ name ∷ after → begins_with_letter name.text ≡ true
    → pair_in end found name after ≡ Ok (more, tokens) → pairs_in end found left ≡ total → pairs_in end more tokens ≡ total
next_pair end found more name left after tokens total e l h so_far =
    sym (ap (pairs_in end found) e ∙ pairs_in-pair end found name after l ∙ ap (then_pairs end) h) ∙ so_far

pub bad_pair : (end : ℕ) (found : Found) (refusal : GridRefusal) (name : Token) (left after : List Token) (total : Result (Found × List Token) Fault) → left ≡ name ∷ after → begins_with_letter name.text ≡ true
    → Refuses refusal (pair_in end found name after) → pairs_in end found left ≡ total → Refuses refusal total
bad_pair end found refusal name left after total e l h so_far =
    refuses-same refusal (pair_in end found name after) total
    (λ f b. sym so_far ∙ ap (pairs_in end found) e ∙ pairs_in-pair end found name after l ∙ ap (then_pairs end) b) h
