-- The lines of a header.
use Rattle.std.proofs.Common.{◌≡◌, List, ℕ, ◌++◌, codes, decimal, append_assoc}
use Rattle.std.specs.Fmt.{signed_decimal}
use Rattle.map_nums.specs.Grids.{Size}
use Rattle.grid_text.specs.declared.Header.{Header}
use Rattle.grid_text.specs.Printed.{header_text, x_key, y_key, null_number}

pub header_lines : (t t₁ t₂ t₃ t₄ t₅ t₆ : List ℕ) (h : Header) (s : Size)
    → t₁ ≡ t ++ codes "ncols " ++ decimal s.columns ++ codes "\n"
    → t₂ ≡ t₁ ++ codes "nrows " ++ decimal s.rows ++ codes "\n"
    → t₃ ≡ t₂ ++ x_key h.x ++ h.x.text ++ codes "\n"
    → t₄ ≡ t₃ ++ y_key h.y ++ h.y.text ++ codes "\n"
    → t₅ ≡ t₄ ++ codes "cellsize " ++ h.size ++ codes "\n"
    → t₆ ≡ t₅ ++ codes "NODATA_value " ++ signed_decimal null_number ++ codes "\n"
    → t₆ ≡ t ++ header_text h s
header_lines t t₁ t₂ t₃ t₄ t₅ t₆ h s a b c d e f = rw (f, e, d, c, b, a) (simp append_assoc)
