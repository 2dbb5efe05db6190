-- The texts of grids, apart from any reader.
use Rattle.std.specs.Prelude.{◌≡◌, ◌≢◌, ◌↔◌, ℕ, List, [], ◌∷◌, length, ℤ, Option, Some, None, Ok, IsTrue}
use Rattle.map_nums.specs.Grids.{Cells, IsSize, cells_in}
use Rattle.map_nums.specs.Numbers.{is_value}
use Rattle.grid_text.specs.Contents.{grid_in}
use Rattle.grid_text.specs.Headed.{Headed}
use Rattle.grid_text.specs.Numbers.{whole_in}
use Rattle.grid_text.specs.Pairs.{Entry, HasPairs, BeginsNoPair}
use Rattle.grid_text.specs.Saying.{SaysHead}
use Rattle.grid_text.specs.Tokens.{Token, tokens_of}

-- null is the number that stands for it; each other cell is a number in the range
abbrev pub IsCellText : ℤ → List ℕ → Option ℤ → Type 0
IsCellText null text None = whole_in text ≡ Some null
IsCellText null text (Some z) = (whole_in text ≡ Some z) × (z ≢ null) × IsTrue (is_value z)

-- the tokens are these cells, one for one
abbrev pub AreCells : ℤ → List Token → Cells → Type 0
AreCells null [] [] = Unit {0}
AreCells null [] (c ∷ cells) = ⊥
AreCells null (token ∷ tokens) [] = ⊥
AreCells null (token ∷ tokens) (c ∷ cells) = IsCellText null token.text c × AreCells null tokens cells

-- A grid's text is a header and the cells row by row. The header goes on as long as a token in a key's place begins with a letter.
pub record GridText (bytes : List ℕ) (g : Headed) : Type 0 where
  pub entries : List Entry
  pub rest : List Token
  pub null : ℤ
  pub pairs : HasPairs (tokens_of bytes) entries rest
  pub ends : BeginsNoPair rest
  pub header : SaysHead entries (record { header = g.header; size = g.grid.size; null = null })
  pub limits : IsSize g.grid.size
  pub cells : AreCells null rest g.grid.cells
  pub count : length g.grid.cells ≡ cells_in g.grid.size

-- reading finds the texts of grids, and no others
abbrev pub ReadsAll : Type 0
ReadsAll = (bytes : List ℕ) (g : Headed) → GridText bytes g ↔ (grid_in bytes ≡ Ok g)
