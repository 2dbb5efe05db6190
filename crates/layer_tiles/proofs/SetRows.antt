-- A row of a tile is set.
use Rattle.std.proofs.Common.{◌≡◌, ℕ, ◌+◌, ◌-◌, ◌<◌, ◌≤◌, length, get_or, take, drop, ◌++◌, None, sym, ◌∙◌, ap, subst, inl, inr, arith, ⊎_elim}
use Rattle.std.proofs.Math.Seq.{take-append_seam}
use Rattle.std.proofs.lemmas.Bool.{cases_lt}
use Rattle.map_nums.specs.Grids.{Cells}
use Rattle.layer_tiles.specs.Cells.{IsCell, AreCells}
use Rattle.layer_tiles.specs.Tiles.{IsBlock, ArePut}
use Rattle.layer_tiles.proofs.Ranged.{AreCells-from}

-- a list that was lent whole comes back whole
pub lent_whole : (n : ℕ) (items old new : Cells) → n ≡ length items → old ≡ items → length new ≡ length old → take n (new ++ drop (length new) items) ≡ new
lent_whole n items old new e f g = rw (e ∙ ap length (sym f) ∙ sym g) (take-append_seam new (drop (length new) items))

-- cells in range were put among such
pub AreCells-put : (first : ℕ) (cells old new : Cells) → AreCells cells → AreCells old → ArePut first (length cells) cells old new → AreCells new
AreCells-put first cells old new h o p =
    AreCells-from new
    (λ i l. ⊎_elim
    (λ (b : i < first). subst (λ x. IsCell x) (sym (p.other i (inl b))) (o.each i))
    (λ (b : first ≤ i). ⊎_elim
    (λ (a : i - first < length cells).
    let at : first + (i - first) ≡ i = omega (arith, b) in
    subst (λ x. IsCell x) (sym (p.here (i - first) a) ∙ ap (λ j. get_or new j None) at) (h.each (i - first)))
    (λ (a : length cells ≤ i - first). subst (λ x. IsCell x) (sym (p.other i (inr (omega (arith, a, b))))) (o.each i))
    (cases_lt (i - first) (length cells)))
    (cases_lt i first))

-- a rectangle keeps its size
pub IsBlock-put : (height width : ℕ) (old new : Cells) → IsBlock (record { height = height; width = width; cells = old }) → length new ≡ length old → IsBlock (record { height = height; width = width; cells = new })
IsBlock-put height width old new h e = record { some_row = h.some_row; some_column = h.some_column; most_rows = h.most_rows; most_columns = h.most_columns; count = e ∙ h.count }
