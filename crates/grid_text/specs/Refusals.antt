-- Where a text that is no grid has its first fault, apart from any reader.
use Rattle.std.specs.Prelude.{◌≡◌, ◌≢◌, ◌↔◌, ◌⊎◌, ℕ, ◌+◌, ◌<◌, List, [], ◌∷◌, ◌++◌, length, ℤ, Some, None, Err, IsTrue, IsFalse}
use Rattle.map_nums.specs.Grids.{Cells, IsSize, cells_in}
use Rattle.map_nums.specs.Numbers.{is_value}
use Rattle.grid_text.specs.Heads.{Head}
use Rattle.grid_text.specs.Contents.{grid_in}
use Rattle.grid_text.specs.Faults.{Fault, key, number, limits, few, more, cell, range}
use Rattle.grid_text.specs.Grammar.{AreCells}
use Rattle.grid_text.specs.Keys.{begins_with_letter}
use Rattle.grid_text.specs.Numbers.{whole_in}
use Rattle.grid_text.specs.BadKeys.{IsNew, IsBad, Lacks}
use Rattle.grid_text.specs.Pairs.{Entry, Says, HasPairs, BeginsNoPair}
use Rattle.grid_text.specs.Saying.{Once, SaysHead}
use Rattle.grid_text.specs.Tokens.{Token, tokens_of}

-- after these entries a bad key stands at byte `at`, or the header ends there too early
abbrev pub BadKey : ℕ → List Entry → List Token → ℕ → Type 0
BadKey end entries [] at = Lacks entries × (at ≡ end)
BadKey end entries (token ∷ tokens) at =
    ((IsTrue (begins_with_letter token.text) × IsBad token.text entries) ⊎ (IsFalse (begins_with_letter token.text) × Lacks entries)) × (at ≡ token.at)

-- after these entries a key has a bad value at byte `at`, or none
abbrev pub BadNumber : ℕ → List Entry → List Token → ℕ → Type 0
BadNumber end entries [] at = ⊥
BadNumber end entries (name ∷ []) at = IsTrue (begins_with_letter name.text) × IsNew name.text entries × (at ≡ end)
BadNumber end entries (name ∷ value ∷ tokens) at =
    IsTrue (begins_with_letter name.text) × IsNew name.text entries × ((entry : Entry) → Says name.text value.text entry → ⊥) × (at ≡ value.at)

-- after these cells the tokens have this fault; so many cells are needed
abbrev pub BadCells : ℤ → ℕ → Cells → List Token → Fault → Type 0
BadCells null need cells [] (few have wanted) = (length cells < need) × (have ≡ length cells) × (wanted ≡ need)
BadCells null need cells (token ∷ tokens) (more at) = (length cells ≡ need) × (at ≡ token.at)
BadCells null need cells (token ∷ tokens) (cell i) = (length cells < need) × (whole_in token.text ≡ None) × (i ≡ length cells + 1)
BadCells null need cells (token ∷ tokens) (range i) =
    (length cells < need) × ((z : ℤ) × (whole_in token.text ≡ Some z) × (z ≢ null) × IsFalse (is_value z)) × (i ≡ length cells + 1)
BadCells null need cells tokens fault = ⊥

-- after a whole header: a size that no map has, or good cells and then a fault
abbrev pub BadRest : Head → List Token → Fault → Type 0
BadRest head rest (limits rows columns) = (IsSize head.size → ⊥) × (rows ≡ head.size.rows) × (columns ≡ head.size.columns)
BadRest head rest fault =
    IsSize head.size × ((cells : Cells) × (good : List Token) × (left : List Token) × (rest ≡ good ++ left) × AreCells head.null good cells × BadCells head.null (cells_in head.size) cells left fault)

-- after these entries
abbrev pub BadAfter : ℕ → List Entry → List Token → Fault → Type 0
BadAfter end entries rest (key at) = BadKey end entries rest at
BadAfter end entries rest (number at) = BadNumber end entries rest at
BadAfter end entries rest fault = BeginsNoPair rest × ((head : Head) × SaysHead entries head × BadRest head rest fault)

-- good pairs stand first, each key once, and then comes the first fault
pub record RefusedGrid (bytes : List ℕ) (fault : Fault) : Type 0 where
  pub entries : List Entry
  pub rest : List Token
  pub pairs : HasPairs (tokens_of bytes) entries rest
  pub once : Once entries
  pub bad : BadAfter (length bytes + 1) entries rest fault

-- reading refuses a text with its first fault, and no other
abbrev pub RefusesAll : Type 0
RefusesAll = (bytes : List ℕ) (fault : Fault) → RefusedGrid bytes fault ↔ (grid_in bytes ≡ Err fault)
