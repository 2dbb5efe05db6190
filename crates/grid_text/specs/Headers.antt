-- The texts that a header keeps.
use Rattle.std.specs.Prelude.{ℕ, List, IsTrue}
use Rattle.grid_text.specs.Decimals.{is_decimal}
use Rattle.grid_text.specs.declared.Header.{Header}

-- a decimal of at most 40 bytes
abbrev pub IsDecimal : List ℕ → Type 0
IsDecimal text = IsTrue (is_decimal text)

pub record IsHeader (h : Header) : Type 0 where
  pub x : IsDecimal h.x.text
  pub y : IsDecimal h.y.text
  pub size : IsDecimal h.size
