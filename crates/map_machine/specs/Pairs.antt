-- The pairs of a name and a file among the words of a run.
use Rattle.std.specs.Prelude.{ℕ, nat_lt, nat_le, ◌==◌, not, Bool, true, ◌&&◌, List, [], ◌∷◌, length, Option, Some, None, String, string_bytes, bytes_eq, if◌then◌else◌}
use Rattle.std.specs.List.{list_any}
use Rattle.std.specs.declared.alloc.Global.{Global}
use Rattle.map_words.specs.Names.{is_plain}
use Rattle.map_machine.specs.Limits.{most_pairs}

-- NAME=FILE
pub record Pair : Type 0 where
  pub name : List ℕ
  pub file : List ℕ

-- what stands before the first sign =, and what after it
abbrev pub cut : List ℕ → Option Pair
cut [] = None
cut (b ∷ bytes) = if b == 61 then Some (record { name = []; file = bytes }) else onto_name b (cut bytes)
  where
    onto_name : ℕ → Option Pair → Option Pair
    onto_name b None = None
    onto_name b (Some p) = Some (record p { name = b ∷ p.name })

-- a name that a layer may have, and a file that isn't empty
abbrev pub sound : Option Pair → Option Pair
sound None = None
sound (Some p) = if is_plain p.name && nat_lt 0 (length p.file) then Some p else None

abbrev pub pair_of : List ℕ → Option Pair
pair_of word = sound (cut word)

abbrev pub with_pair : Option Pair → Option (List Pair) → Option (List Pair)
with_pair None ps = None
with_pair (Some p) None = None
with_pair (Some p) (Some ps) = Some (p ∷ ps)

-- the pairs of words, where every word is one
abbrev pub all_pairs : List (String Global) → Option (List Pair)
all_pairs [] = Some []
all_pairs (word ∷ words) = with_pair (pair_of (string_bytes word)) (all_pairs words)

-- no two have one name
abbrev pub are_apart : List Pair → Bool
are_apart [] = true
are_apart (p ∷ ps) = not (list_any (λ (q : Pair). bytes_eq q.name p.name) ps) && are_apart ps

-- one to 32 pairs of distinct names
abbrev pub pairs_of : Option (List Pair) → Option (List Pair)
pairs_of None = None
pairs_of (Some ps) = if nat_lt 0 (length ps) && nat_le (length ps) most_pairs && are_apart ps then Some ps else None
