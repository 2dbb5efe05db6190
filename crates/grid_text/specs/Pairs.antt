-- What the pairs of a header say, by the table of keys.
use Rattle.std.specs.Prelude.{◌≡◌, ℕ, List, [], ◌∷◌, map, Some, codes, ℤ, IsFalse, if◌then◌else◌}
use Rattle.std.specs.Char.{to_ascii_lowercase}
use Rattle.grid_text.specs.Headers.{IsDecimal}
use Rattle.grid_text.specs.Keys.{begins_with_letter}
use Rattle.grid_text.specs.Numbers.{number_in, count_in}
use Rattle.grid_text.specs.Tokens.{Token}
use Rattle.grid_text.specs.declared.Corner.{Corner}

pub data Entry : Type 0 where
  columns : ℕ → Entry
  rows : ℕ → Entry
  x : Corner → Entry
  y : Corner → Entry
  size : List ℕ → Entry
  null : ℤ → Entry

-- the token is this key, in any letter case
abbrev pub IsKey : List ℕ → List ℕ → Type 0
IsKey name token = map to_ascii_lowercase token ≡ name

-- a key and its value say this
abbrev pub Says : List ℕ → List ℕ → Entry → Type 0
Says name value (columns n) = IsKey (codes "ncols") name × (count_in value ≡ Some n)
Says name value (rows n) = IsKey (codes "nrows") name × (count_in value ≡ Some n)
Says name value (x corner) = IsKey (if corner.center then codes "xllcenter" else codes "xllcorner") name × IsDecimal value × (corner.text ≡ value)
Says name value (y corner) = IsKey (if corner.center then codes "yllcenter" else codes "yllcorner") name × IsDecimal value × (corner.text ≡ value)
Says name value (size text) = IsKey (codes "cellsize") name × IsDecimal value × (text ≡ value)
Says name value (null z) = IsKey (codes "nodata_value") name × (number_in value ≡ Some z)

-- the tokens are pairs that say these, one after another, and then the rest
abbrev pub HasPairs : List Token → List Entry → List Token → Type 0
HasPairs tokens [] rest = tokens ≡ rest
HasPairs [] (entry ∷ entries) rest = ⊥
HasPairs (name ∷ []) (entry ∷ entries) rest = ⊥
HasPairs (name ∷ value ∷ tokens) (entry ∷ entries) rest = Says name.text value.text entry × HasPairs tokens entries rest

-- no key stands first
abbrev pub BeginsNoPair : List Token → Type 0
BeginsNoPair [] = Unit {0}
BeginsNoPair (token ∷ tokens) = IsFalse (begins_with_letter token.text)
