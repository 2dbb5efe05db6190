-- Places in the order of tiles.
use Rattle.std.proofs.Common.{◌≡◌, ◌≢◌, inl, inr, ℕ, zero, suc, ◌+◌, ◌-◌, ◌*◌, ◌/◌, ◌%◌, ◌<◌, ◌≤◌, List, [], ◌∷◌, ◌++◌, length, get_or, drop, Option, None, ℤ, refl, sym, ◌∙◌, ap, subst, arith}
use Rattle.std.proofs.lemmas.Bool.{cases_lt}
use Rattle.std.proofs.lemmas.Nat.{mod-mul-add}
use Rattle.std.proofs.lemmas.List.{get_or_append_left, get_or_default, get_or_push, length_push, get_or-take, get_or-drop}
use Rattle.map_nums.specs.Grids.{Size, IsSize, Cells, cell_at, cells_in}
use Rattle.layer_tiles.specs.Tiles.{tile_of, tile_start, tile_top, tile_left, tiles_across, tile_height, tile_width, tiles_in, tile_cells, tile_block, block_row}
use Rattle.layer_tiles.specs.Places.{IsPlaceOf}
use Rattle.layer_tiles.specs.declared.extents.Place.{Place}
use Rattle.layer_tiles.proofs.Places.{placed}
use Rattle.layer_tiles.proofs.Rounds.{here, back}
use Rattle.layer_tiles.proofs.Strides.{get_or-strided}
use Rattle.changed_cells.specs.Changed.{HoldsPlace, order_of, IsChangedAt, AreChangedTo, AreChanged, AddsRowTo, IsAddedIf}

-- what an order number says of the tile, the row and the column
pub record IsOrder (t r c u p q : ℕ) : Type 0 where
  pub tile : t ≡ u
  pub row : r ≡ p
  pub column : c ≡ q

pub one_order : (t r c u p q : ℕ) → r < 32 → c < 32 → p < 32 → q < 32 → t * 1024 + (r * 32 + c) ≡ u * 1024 + (p * 32 + q) → IsOrder t r c u p q
one_order t r c u p q rl cl pl ql e =
    let a : t ≡ u = omega (arith, e) in
    let b : r * 32 + c ≡ p * 32 + q = omega (arith, e, a) in
    record { tile = a; row = omega (arith, b); column = omega (arith, b) }

row_32 : (s : Size) (i : ℕ) → i / s.columns % 32 < 32
row_32 s i = omega arith

column_32 : (s : Size) (i : ℕ) → i % s.columns % 32 < 32
column_32 s i = omega arith

-- the place of a tile, a row and a column
pub record IsSpot (s : Size) (t r c i : ℕ) : Type 0 where
  pub within : i < cells_in s
  pub order : order_of s i ≡ t * 1024 + (r * 32 + c)
  pub only : (j : ℕ) → j < cells_in s → order_of s j ≡ t * 1024 + (r * 32 + c) → j ≡ i

column_here : (s : Size) (t r c : ℕ) → IsSize s → t < tiles_in s → r < tile_height s t → c < tile_width s t → (tile_start s t + r * s.columns + c) % s.columns % 32 ≡ c
unfolding tile_start tile_top tile_left
column_here s t r c h l p q =
    let a = placed s t h l in
    let e : tile_start s t + r * s.columns + c ≡ (tile_top s t + r) * s.columns + (tile_left s t + c) = omega arith in
    let m : (tile_start s t + r * s.columns + c) % s.columns ≡ tile_left s t + c = ap (λ n. n % s.columns) e ∙ mod-mul-add (tile_top s t + r) s.columns (tile_left s t + c) (omega (arith, a.last_column)) in
    rw (m) (low (t % tiles_across s) c (omega (arith, a.most_columns)))
  where
    low : (x y : ℕ) → y < 32 → (32 * x + y) % 32 ≡ y
    low x y g = omega arith

pub spot : (s : Size) (t r c : ℕ) → IsSize s → t < tiles_in s → r < tile_height s t → c < tile_width s t → IsSpot s t r c (tile_start s t + r * s.columns + c)
unfolding order_of
spot s t r c h l p q =
    let a = placed s t h l in
    let w = here s t r c h l p q in
    let e = column_here s t r c h l p q in
    record {
      within = w.within;
      order = rw (w.tile, w.row, e) refl;
      only = λ j m o.
          let b = back s j h m in
          let d = one_order (tile_of s j) (j / s.columns % 32) (j % s.columns % 32) t r c (row_32 s j) (column_32 s j) (omega (arith, p, a.most_rows)) (omega (arith, q, a.most_columns)) o in
          sym b.place ∙ rw (d.tile, d.row, d.column) refl;
    }

-- no place lies between the end of a row and 32
pub no_spot : (s : Size) (t r c j : ℕ) → IsSize s → j < cells_in s → t < tiles_in s → r < 32 → tile_width s t ≤ c → c < 32 → order_of s j ≡ t * 1024 + (r * 32 + c) → ⊥
unfolding order_of
no_spot s t r c j h m l p w q o =
    let b = back s j h m in
    let d = one_order (tile_of s j) (j / s.columns % 32) (j % s.columns % 32) t r c (row_32 s j) (column_32 s j) p q o in
    let k : c < tile_width s t = subst (λ x. c < tile_width s x) d.tile (subst (λ x. x < tile_width s (tile_of s j)) d.column b.column) in
    omega (arith, k, w)

pub tile_between : (s : Size) (t j : ℕ) → t * 1024 ≤ order_of s j → order_of s j < (t + 1) * 1024 → tile_of s j ≡ t
unfolding order_of
tile_between s t j l m = let r = row_32 s j in let c = column_32 s j in omega (arith, l, m, r, c)

-- an order number within a row
pub order_rest : (s : Size) (t r c i : ℕ) → r < 32 → t * 1024 + (r * 32 + c) ≤ order_of s i → order_of s i < t * 1024 + (r * 32 + 32) → (q : ℕ) × (c ≤ q) × (q < 32) × (order_of s i ≡ t * 1024 + (r * 32 + q))
order_rest s t r c i p l m = (order_of s i - (t * 1024 + r * 32), omega (arith, l), omega (arith, l, m), omega (arith, l))

-- ---- lists

module _ (s : Size) (before after : Cells) (found : List ℕ) where
  held_more : (i j : ℕ) → HoldsPlace found i → HoldsPlace (found ++ j ∷ []) i
  held_more i j h = (h.0, omega (arith, h.1, length_push found j), get_or_append_left found (j ∷ []) 0 h.0 h.1 ∙ h.2)

  -- nothing changed from number m to number n
  pub changed_skip : (m n : ℕ) → m ≤ n → ((i : ℕ) → i < cells_in s → m ≤ order_of s i → order_of s i < n → cell_at before i ≡ cell_at after i) → AreChangedTo s before after m found → AreChangedTo s before after n found
  changed_skip m n l same h = record {
    each = λ k p. let e = h.each k p in record { within = e.within; differs = e.differs; below = omega (arith, e.below, l) };
    all = λ i e. elim (cases_lt (order_of s i) m) as (λ _. HoldsPlace found i) [
      | inl p ↦ h.all i (record { within = e.within; differs = e.differs; below = p })
      | inr p ↦ absurd (e.differs (same i e.within p e.below))
    ];
    apart = h.apart;
  }

  -- one more place changed
  pub changed_push : (m j : ℕ) → j < cells_in s → order_of s j ≡ m → ((i : ℕ) → i < cells_in s → order_of s i ≡ m → i ≡ j) → cell_at before j ≢ cell_at after j → AreChangedTo s before after m found → AreChangedTo s before after (m + 1) (found ++ j ∷ [])
  changed_push m j l o only d h = record {
    each = λ k p. elim (cases_lt k (length found)) as (λ _. IsChangedAt s before after (m + 1) (get_or (found ++ j ∷ []) k 0)) [
      | inl q ↦ (let e = h.each k q in let P : ℕ → Type 0 = IsChangedAt s before after (m + 1) in subst P (sym (get_or_append_left found (j ∷ []) 0 k q)) (record { within = e.within; differs = e.differs; below = omega (arith, e.below) }))
      | inr q ↦ (let P : ℕ → Type 0 = IsChangedAt s before after (m + 1) in subst P (sym (get_or_push found j 0 k (omega (arith, p, q, length_push found j)))) (record { within = l; differs = d; below = omega (arith, o) }))
    ];
    all = λ i e. elim (cases_lt (order_of s i) m) as (λ _. HoldsPlace (found ++ j ∷ []) i) [
      | inl p ↦ held_more i j (h.all i (record { within = e.within; differs = e.differs; below = p }))
      | inr p ↦ (let same : i ≡ j = only i e.within (omega (arith, p, e.below)) in (length found, omega (arith, length_push found j), get_or_push found j 0 (length found) refl ∙ sym same))
    ];
    apart = λ a b p q e. elim (cases_lt b (length found)) as (λ _. ⊥) [
      | inl r ↦ h.apart a b p r (sym (get_or_append_left found (j ∷ []) 0 a (omega (arith, p, r))) ∙ e ∙ get_or_append_left found (j ∷ []) 0 b r)
      | inr r ↦ (let z : b ≡ length found = omega (arith, q, r, length_push found j) in
          let y : get_or found a 0 ≡ j = sym (get_or_append_left found (j ∷ []) 0 a (omega (arith, p, z))) ∙ e ∙ get_or_push found j 0 b (sym z) in
          let w = (h.each a (omega (arith, p, z))).below in
          omega (arith, w, ap (order_of s) y, o))
    ];
  }

pub changed_none : (s : Size) (before after : Cells) (n : ℕ) → n ≡ 0 → AreChangedTo s before after n []
changed_none s before after n z = record { each = λ k l. absurd (omega (arith, l)); all = λ i e. absurd (omega (arith, e.below, z)); apart = λ j k l m. absurd (omega (arith, m)) }

-- a cell of a row of a tile
pub row_cell : (s : Size) (cells row : Cells) (t r c : ℕ) (d : Option ℤ) → r < tile_height s t → c < tile_width s t → row ≡ block_row (tile_block s cells t) r → get_or row c d ≡ cell_at cells (tile_start s t + r * s.columns + c)
row_cell s cells row t r c d p q e =
    ap (λ (xs : Cells). get_or xs c d) e
    ∙ get_or-take (tile_width s t) (drop (r * tile_width s t) (tile_cells s cells t)) c d q
    ∙ get_or-drop (r * tile_width s t) (tile_cells s cells t) c d
    ∙ get_or-strided cells (tile_start s t) s.columns (tile_height s t) (tile_width s t) r c (r * tile_width s t + c) d p q refl

-- one more column of a row
module _ (s : Size) (t r c : ℕ) (h : IsSize s) (l : t < tiles_in s) (p : r < tile_height s t) (q : c < tile_width s t) (one other : Cells) (old found : List ℕ) (a : AddsRowTo s t r c one other old found) where
  next : (t * 1024 + (r * 32 + c)) + 1 ≡ t * 1024 + (r * 32 + (c + 1))
  next = omega arith

  pub row_push : (j : ℕ) (x y : Option ℤ) → j ≡ tile_start s t + r * s.columns + c → x ≡ get_or one c x → y ≡ get_or other c y → (x ≡ y → ⊥) → AddsRowTo s t r (c + 1) one other old (found ++ j ∷ [])
  row_push j x y e f g d before after u v w =
      let k = spot s t r c h l p q in
      let P : ℕ → Type 0 = λ n. AreChangedTo s before after n (found ++ j ∷ []) in
      let bx : x ≡ cell_at before (tile_start s t + r * s.columns + c) = f ∙ row_cell s before one t r c x p q u in
      let by : y ≡ cell_at after (tile_start s t + r * s.columns + c) = g ∙ row_cell s after other t r c y p q v in
      subst P next (rw (e) (changed_push s before after found (t * 1024 + (r * 32 + c)) (tile_start s t + r * s.columns + c) k.within k.order k.only (λ z. d (bx ∙ z ∙ sym by)) (a before after u v w)))

  pub row_pass : (x y : Option ℤ) → x ≡ get_or one c x → y ≡ get_or other c y → x ≡ y → AddsRowTo s t r (c + 1) one other old found
  row_pass x y f g e before after u v w =
      let k = spot s t r c h l p q in
      let bx : x ≡ cell_at before (tile_start s t + r * s.columns + c) = f ∙ row_cell s before one t r c x p q u in
      let by : y ≡ cell_at after (tile_start s t + r * s.columns + c) = g ∙ row_cell s after other t r c y p q v in
      changed_skip s before after found (t * 1024 + (r * 32 + c)) (t * 1024 + (r * 32 + (c + 1))) (omega arith)
      (λ i m a' b'. let z = k.only i m (omega (arith, a', b')) in ap (cell_at before) z ∙ sym bx ∙ e ∙ by ∙ ap (cell_at after) (sym z))
      (a before after u v w)

  pub row_step : (j : ℕ) (x y : Option ℤ) (new : List ℕ) → j ≡ tile_start s t + r * s.columns + c → x ≡ get_or one c x → y ≡ get_or other c y → IsAddedIf x y j found new → AddsRowTo s t r (c + 1) one other old new
  row_step j x y new e f g (inl d) = let P : List ℕ → Type 0 = AddsRowTo s t r (c + 1) one other old in subst P (sym d.1) (row_pass x y f g d.0)
  row_step j x y new e f g (inr d) = let P : List ℕ → Type 0 = AddsRowTo s t r (c + 1) one other old in subst P (sym d.1) (row_push j x y e f g d.0)

-- the rest of a row has no place
pub row_end : (s : Size) (t r c : ℕ) → IsSize s → t < tiles_in s → r < 32 → tile_width s t ≤ c → (one other : Cells) (old found : List ℕ) → c ≤ 32 → AddsRowTo s t r c one other old found → AddsRowTo s t r 32 one other old found
row_end s t r c h l p w one other old found k a before after u v b =
    changed_skip s before after found (t * 1024 + (r * 32 + c)) (t * 1024 + (r * 32 + 32)) (omega arith)
    (λ i m a' b'. absurd (let q = order_rest s t r c i p a' b' in no_spot s t r q.0 i h m l p (omega (arith, q.1, w)) q.2 q.3))
    (a before after u v b)

-- before the first column
pub row_begun : (s : Size) (t r : ℕ) (one other : Cells) (old : List ℕ) → AddsRowTo s t r 0 one other old old
row_begun s t r one other old before after u v b = let P : ℕ → Type 0 = λ n. AreChangedTo s before after n old in subst P (omega arith) b

-- a row that stays
row_stays : (s : Size) (t r c : ℕ) → IsSize s → t < tiles_in s → r < tile_height s t → c ≤ tile_width s t → (row : Cells) (old : List ℕ) → length row ≡ tile_width s t → AddsRowTo s t r c row row old old
row_stays s t r zero h l p q row old n = row_begun s t r row row old
row_stays s t r (suc c) h l p q row old n =
    let k : c < tile_width s t = omega (arith, q) in
    let within : c < length row = omega (arith, k, n) in
    let x = get_or row c None in
    let same = get_or_default row c None x within in
    let next : c + 1 ≡ suc c = omega arith in
    subst (λ m. AddsRowTo s t r m row row old old) next (row_pass s t r c h l p k row row old old (row_stays s t r c h l p (omega (arith, q)) row old n) x x same same refl)

pub row_equal : (s : Size) (t r : ℕ) → IsSize s → t < tiles_in s → r < tile_height s t → r < 32 → tile_width s t ≤ 32 → (one other : Cells) (old : List ℕ) → length one ≡ tile_width s t → one ≡ other → AddsRowTo s t r 32 one other old old
row_equal s t r h l p u w one other old n e =
    subst (λ (cells : Cells). AddsRowTo s t r 32 one cells old old) e (row_end s t r (tile_width s t) h l u (omega arith) one one old old w (row_stays s t r (tile_width s t) h l p (omega arith) one old n))

-- ---- tiles

row_at_least : (s : Size) (t r i : ℕ) → t * 1024 + r * 32 ≤ order_of s i → tile_of s i ≡ t → r ≤ i / s.columns % 32
unfolding order_of
row_at_least s t r i p e = let c = column_32 s i in omega (arith, p, e, c)

-- the rows past the last one have no place
pub tile_end : (s : Size) (before after : Cells) (t r : ℕ) (found : List ℕ) → IsSize s → t < tiles_in s → tile_height s t ≤ r → r ≤ 32 → AreChangedTo s before after (t * 1024 + r * 32) found → AreChangedTo s before after ((t + 1) * 1024) found
tile_end s before after t r found h l e k a =
    changed_skip s before after found (t * 1024 + r * 32) ((t + 1) * 1024) (omega arith)
    (λ i m p q.
    let same = tile_between s t i (omega (arith, p)) q in
    let b = back s i h m in
    let row : i / s.columns % 32 < tile_height s t = subst (λ x. i / s.columns % 32 < tile_height s x) same b.row in
    absurd (omega (arith, row, e, row_at_least s t r i p same)))
    a

-- tiles whose places stayed
pub tiles_skip : (s : Size) (before after : Cells) (m n : ℕ) (found : List ℕ) → m ≤ n → ((i : ℕ) → i < cells_in s → m ≤ tile_of s i → tile_of s i < n → cell_at before i ≡ cell_at after i) → AreChangedTo s before after (m * 1024) found → AreChangedTo s before after (n * 1024) found
unfolding order_of
tiles_skip s before after m n found l same a =
    changed_skip s before after found (m * 1024) (n * 1024) (omega (arith, l))
    (λ i w p q. let r = row_32 s i in let c = column_32 s i in same i w (omega (arith, p, r, c)) (omega (arith, q)))
    a

order_lt : (s : Size) (i : ℕ) → IsSize s → i < cells_in s → order_of s i < tiles_in s * 1024
unfolding order_of
order_lt s i h l = let b = back s i h l in let r = row_32 s i in let c = column_32 s i in omega (arith, b.tile, r, c)

pub changed_all : (s : Size) (before after : Cells) (n : ℕ) (found : List ℕ) → IsSize s → tiles_in s ≤ n → AreChangedTo s before after (n * 1024) found → AreChanged s before after found
changed_all s before after n found h l a = record {
  within = λ k p. (a.each k p).within;
  differ = λ k p. (a.each k p).differs;
  all = λ i m d. a.all i (record { within = m; differs = d; below = omega (arith, order_lt s i h m, l) });
  apart = a.apart;
}

spread : (a r c l k : ℕ) → (a + r) * c + l + k ≡ a * c + l + r * c + k
spread a r c l k = omega arith

pub start_is : (s : Size) (t r c : ℕ) (p : Place) (columns : ℕ) → IsPlaceOf s t p → columns ≡ s.columns → (p.top + r) * columns + p.left + c ≡ tile_start s t + r * s.columns + c
unfolding tile_start
start_is s t r c p columns place e = rw (place.top, place.left, e) (spread (tile_top s t) r s.columns (tile_left s t) c)
