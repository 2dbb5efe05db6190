-- The changed cells of a row of a tile, and of a tile.
use Rattle.std.proofs.Common.{◌≡◌, ◌≢◌, inl, inr, ℕ, ◌+◌, ◌*◌, ◌/◌, ◌%◌, ◌<◌, ◌≤◌, Bool, List, get_or, drop, None, refl, sym, ◌∙◌, ap, subst, arith, ⊎_elim}
use Rattle.std.proofs.lemmas.Bool.{cases_lt}
use Rattle.std.proofs.lemmas.List.{get_or-take, get_or-drop}
use Rattle.std.proofs.lemmas.Nat.{div-add-mod'}
use Rattle.map_nums.specs.Grids.{Size, IsSize, Cells, cells_in}
use Rattle.map_nums.specs.Tiles.{tiles_in, tile_of, tile_start, tile_top, tile_left, tile_height, tile_width}
use Rattle.layer_tiles.specs.Tiles.{tile_block, block_row, tile_cells}
use Rattle.layer_tiles.specs.Changes.{ChangeState, cells_before}
use Rattle.layer_tiles.proofs.Lent.{tile_at}
use Rattle.layer_tiles.proofs.Rounds.{here, back}
use Rattle.layer_tiles.proofs.Strides.{get_or-strided}
use Rattle.damage_sets.specs.Added.{IsAt}
use Rattle.damage_sets.specs.Seen.{IsChangedIn, IsChangedOf, IsChangedAbove}
use Rattle.damage_sets.specs.Widened.{IsWidened}
use Rattle.damage_sets.proofs.Widening.{widened_none, widened_then, widened_as}

-- ---- a row

pub row_none : (s : Size) (r row left : ℕ) (before after : Cells) (old : List Bool) → IsWidened s r (IsChangedIn s row left before after 0) old old
row_none s r row left before after old = widened_none s r (IsChangedIn s row left before after 0) old (λ i l c. omega (arith, c.1.1))

-- a cell that changed
pub row_more : (s : Size) (r row left k : ℕ) (before after : Cells) (old mid new : List Bool) → IsWidened s r (IsChangedIn s row left before after k) old mid → IsWidened s r (IsAt s row (left + k)) mid new → get_or before k None ≢ get_or after k None → IsWidened s r (IsChangedIn s row left before after (k + 1)) old new
row_more s r row left k before after old mid new p q d =
    widened_then s r (IsChangedIn s row left before after k) (IsAt s row (left + k)) (IsChangedIn s row left before after (k + 1)) old mid new p q
    (λ i l c. ⊎_elim
    (λ (m : c.1.0 < k). inl (c.0, (c.1.0, m, c.1.2, c.1.3)))
    (λ (m : k ≤ c.1.0). inr (c.0, omega (arith, m, c.1.1, c.1.2)))
    (cases_lt c.1.0 k))
    (λ i l c. (c.0, (c.1.0, omega (arith, c.1.1), c.1.2, c.1.3)))
    (λ i l c. (c.0, (k, omega arith, c.1, d)))

-- a cell that stays
pub row_same : (s : Size) (r row left k : ℕ) (before after : Cells) (old new : List Bool) → IsWidened s r (IsChangedIn s row left before after k) old new → get_or before k None ≡ get_or after k None → IsWidened s r (IsChangedIn s row left before after (k + 1)) old new
row_same s r row left k before after old new p e =
    widened_as s r (IsChangedIn s row left before after k) (IsChangedIn s row left before after (k + 1)) old new p
    (λ i l c. (c.0, (c.1.0, omega (arith, c.1.1), c.1.2, c.1.3)))
    (λ i l c. (c.0, (c.1.0, ⊎_elim (λ (m : c.1.0 < k). m) (λ (m : k ≤ c.1.0). let f : c.1.0 ≡ k = omega (arith, m, c.1.1) in absurd (c.1.3 (subst (λ j. get_or before j None ≡ get_or after j None) (sym f) e))) (cases_lt c.1.0 k), c.1.2, c.1.3)))

-- ---- a tile

-- a cell of a tile's row
row_cell : (s : Size) (cells : Cells) (t r k : ℕ) → r < tile_height s t → k < tile_width s t → get_or (block_row (tile_block s cells t) r) k None ≡ get_or cells (tile_start s t + r * s.columns + k) None
row_cell s cells t r k p q =
    get_or-take (tile_width s t) (drop (r * tile_width s t) (tile_cells s cells t)) k None q
    ∙ get_or-drop (r * tile_width s t) (tile_cells s cells t) k None
    ∙ get_or-strided cells (tile_start s t) s.columns (tile_height s t) (tile_width s t) r k (r * tile_width s t + k) None p q refl

place_of : (s : Size) (t r k row column i : ℕ) → i / s.columns ≡ row → i % s.columns ≡ column → row ≡ tile_top s t + r → column ≡ tile_left s t + k → tile_start s t + r * s.columns + k ≡ i
unfolding tile_start
place_of s t r k row column i a b c d =
    let e = a ∙ c in
    omega (arith, ap (λ x. x * s.columns) e, b, d, div-add-mod' i s.columns)

module _ (c : ChangeState) (t r reach : ℕ) (rowb rowa : Cells) (size : IsSize c.size) (within : t < tiles_in c.size) (row : r < tile_height c.size t) (isb : rowb ≡ block_row (tile_block c.size (cells_before c) t) r) (isa : rowa ≡ block_row (tile_block c.size c.cells t) r) where
  read_before : (k : ℕ) → k < tile_width c.size t → get_or rowb k None ≡ get_or (cells_before c) (tile_start c.size t + r * c.size.columns + k) None
  read_before k l = ap (λ (xs : Cells). get_or xs k None) isb ∙ row_cell c.size (cells_before c) t r k row l

  read_after : (k : ℕ) → k < tile_width c.size t → get_or rowa k None ≡ get_or c.cells (tile_start c.size t + r * c.size.columns + k) None
  read_after k l = ap (λ (xs : Cells). get_or xs k None) isa ∙ row_cell c.size c.cells t r k row l

  -- a changed place of the row, seen in the tile
  to_tile : (n : ℕ) → n ≡ tile_width c.size t → (i : ℕ) → i < cells_in c.size → IsChangedIn c.size (tile_top c.size t + r) (tile_left c.size t) rowb rowa n i → IsChangedAbove c t (r + 1) i
  to_tile n w i l d =
      let k = d.1.0 in
      let m : k < tile_width c.size t = omega (arith, d.1.1, w) in
      let at : tile_start c.size t + r * c.size.columns + k ≡ i = place_of c.size t r k (tile_top c.size t + r) (tile_left c.size t + k) i d.0 d.1.2 refl refl in
      let h = here c.size t r k size within row m in (
        (
          ap (tile_of c.size) (sym at) ∙ h.tile,
          λ same. d.1.3 (read_before k m ∙ ap (λ j. get_or (cells_before c) j None) at ∙ same ∙ ap (λ j. get_or c.cells j None) (sym at) ∙ sym (read_after k m)),
        ),
        omega (arith, ap (λ j. j / c.size.columns % 32) (sym at) ∙ h.row),
      )

  -- and the other way round
  to_row : (n : ℕ) → n ≡ tile_width c.size t → (i : ℕ) → i < cells_in c.size → IsChangedOf c t i → i / c.size.columns % 32 ≡ r → IsChangedIn c.size (tile_top c.size t + r) (tile_left c.size t) rowb rowa n i
  to_row n w i l d e =
      let b = back c.size i size l in
      let a = tile_at c.size i size in
      let k = i % c.size.columns % 32 in
      let m : k < tile_width c.size t = subst (λ (u : ℕ). k < tile_width c.size u) d.0 b.column in
      let top : i / c.size.columns ≡ tile_top c.size t + r = omega (arith, ap (tile_top c.size) (sym d.0) ∙ a.top, e) in
      let left : i % c.size.columns ≡ tile_left c.size t + k = omega (arith, ap (tile_left c.size) (sym d.0) ∙ a.left) in
      let at : tile_start c.size t + r * c.size.columns + k ≡ i = place_of c.size t r k (tile_top c.size t + r) (tile_left c.size t + k) i top left refl refl in (
        top,
        (
          k,
          omega (arith, m, w),
          left,
          λ same. d.1 (ap (λ j. get_or (cells_before c) j None) (sym at) ∙ sym (read_before k m) ∙ same ∙ read_after k m ∙ ap (λ j. get_or c.cells j None) at),
        ),
      )

  pub tile_more : (n : ℕ) (old mid new : List Bool) → n ≡ tile_width c.size t → IsWidened c.size reach (IsChangedAbove c t r) old mid → IsWidened c.size reach (IsChangedIn c.size (tile_top c.size t + r) (tile_left c.size t) rowb rowa n) mid new → IsWidened c.size reach (IsChangedAbove c t (r + 1)) old new
  tile_more n old mid new w p q =
      widened_then c.size reach (IsChangedAbove c t r) (IsChangedIn c.size (tile_top c.size t + r) (tile_left c.size t) rowb rowa n) (IsChangedAbove c t (r + 1)) old mid new p q
      (λ i l d. ⊎_elim
      (λ (a : i / c.size.columns % 32 < r). inl (d.0, a))
      (λ (a : r ≤ i / c.size.columns % 32). inr (to_row n w i l d.0 (omega (arith, a, d.1))))
      (cases_lt (i / c.size.columns % 32) r))
      (λ i l d. (d.0, omega (arith, d.1)))
      (to_tile n w)

pub tile_none : (c : ChangeState) (t reach : ℕ) (old : List Bool) → IsWidened c.size reach (IsChangedAbove c t 0) old old
tile_none c t reach old = widened_none c.size reach (IsChangedAbove c t 0) old (λ i l d. omega (arith, d.1))

pub tile_all : (c : ChangeState) (t r reach : ℕ) (old new : List Bool) → IsSize c.size → tile_height c.size t ≤ r → IsWidened c.size reach (IsChangedAbove c t r) old new → IsWidened c.size reach (IsChangedOf c t) old new
tile_all c t r reach old new size last p =
    widened_as c.size reach (IsChangedAbove c t r) (IsChangedOf c t) old new p
    (λ i l d. d.0)
    (λ i l d.
    let b : i / c.size.columns % 32 < tile_height c.size t = subst (λ (u : ℕ). i / c.size.columns % 32 < tile_height c.size u) d.0 (back c.size i size l).row in
    (d, omega (arith, b, last)))
