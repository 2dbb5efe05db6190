-- The cells that copied tiles and an old layer show.
use Rattle.std.proofs.Common.{◌≡◌, ◌≢◌, ◌⊎◌, inl, inr, ℕ, zero, suc, ◌+◌, ◌*◌, ◌/◌, ◌%◌, ◌<◌, Bool, true, false, List, [], ◌∷◌, length, map, get_or, replicate, Option, Some, None, refl, sym, ◌∙◌, ap, subst, arith, ℤ, cond}
use Rattle.std.specs.Prelude.{slice_set, is_some, IfSome}
use Rattle.std.proofs.lemmas.Bool.{cases_eq, cases_lt}
use Rattle.std.proofs.lemmas.Nat.{div-mul-add, mod-mul-add, mul-add-lt}
use Rattle.std.proofs.lemmas.List.{get_or_past, get_or-set_same, get_or-set_other, length-set, set-get_or, map-set, get_or-map, get_or-replicate, length-replicate, ext_get_or}
use Rattle.std.proofs.lemmas.List.Folds.{sum_by-replicate}
use Rattle.std.proofs.lemmas.List.Sums.{sum_by-set}
use Rattle.std.proofs.lemmas.List.FromFn.{get_or-map-range_with_len, length-map-range_with_len}
use Rattle.map_nums.specs.Grids.{Size, IsSize, Cells, cell_at, cells_in, places}
use Rattle.layer_tiles.specs.Tiles.{Block, IsBlockOf, tile_of, place_in, tile_size, tile_width, tile_height, tile_start, tile_cells, tile_block, tiles_in, strided}
use Rattle.layer_tiles.specs.Patches.{cell_or}
use Rattle.layer_tiles.specs.Layers.{LayerState}
use Rattle.layer_tiles.proofs.Rounds.{back}
use Rattle.layer_tiles.proofs.Strides.{get_or-strided, length-strided}
use Rattle.tile_work.specs.Working.{IsWork, slot_at, base_of, begun_cells, copies, work_cell, work_cells}

pub length-work : (s : Size) (base : Cells) (slots : List (Option Block)) → length (work_cells s base slots) ≡ cells_in s
unfolding work_cells
length-work s base slots = length-map-range_with_len (work_cell s base slots) 0 (cells_in s)

pub work_at : (s : Size) (base : Cells) (slots : List (Option Block)) (at : ℕ) → at < cells_in s → cell_at (work_cells s base slots) at ≡ work_cell s base slots at
unfolding work_cells
work_at s base slots at l = get_or-map-range_with_len (work_cell s base slots) 0 (cells_in s) at at None l (omega arith)

pub work_here : (s : Size) (base : Cells) (slots : List (Option Block)) (at : ℕ) (o : Option Block) → at < cells_in s → slot_at slots (tile_of s at) ≡ o → cell_at (work_cells s base slots) at ≡ cell_or o (place_in s at) (cell_at base at)
work_here s base slots at o l e = work_at s base slots at l ∙ ap (λ (x : Option Block). cell_or x (place_in s at) (cell_at base at)) e

-- ---- what is written

-- two cells of one tile at one place are one
pub one_place : (s : Size) (i j : ℕ) → IsSize s → i < cells_in s → j < cells_in s → tile_of s i ≡ tile_of s j → place_in s i ≡ place_in s j → i ≡ j
unfolding place_in
one_place s i j h l m e f =
    let a = back s i h l in
    let b = back s j h m in
    let t = tile_of s j in
    let w = tile_width s t in
    let ic : i % s.columns % 32 < w = subst (λ u. i % s.columns % 32 < tile_width s u) e a.column in
    let f' : i / s.columns % 32 * w + i % s.columns % 32 ≡ j / s.columns % 32 * w + j % s.columns % 32 = subst (λ u. i / s.columns % 32 * tile_width s u + i % s.columns % 32 ≡ j / s.columns % 32 * w + j % s.columns % 32) e f in
    let r : i / s.columns % 32 ≡ j / s.columns % 32 = sym (div-mul-add (i / s.columns % 32) w (i % s.columns % 32) ic) ∙ ap (λ n. n / w) f' ∙ div-mul-add (j / s.columns % 32) w (j % s.columns % 32) b.column in
    let c : i % s.columns % 32 ≡ j % s.columns % 32 = sym (mod-mul-add (i / s.columns % 32) w (i % s.columns % 32) ic) ∙ ap (λ n. n % w) f' ∙ mod-mul-add (j / s.columns % 32) w (j % s.columns % 32) b.column in
    sym a.place ∙ rw (e, r, c) b.place

pub place_lt : (s : Size) (i : ℕ) → IsSize s → i < cells_in s → place_in s i < tile_size s (tile_of s i)
unfolding place_in
place_lt s i h l = let a = back s i h l in omega (arith, mul-add-lt (i / s.columns % 32) (tile_width s (tile_of s i)) (i % s.columns % 32) (tile_height s (tile_of s i)) a.row a.column)

-- a cell from its slot alone
pub work_slot : (s : Size) (base : Cells) (slots these : List (Option Block)) (k : ℕ) → k < cells_in s → slot_at these (tile_of s k) ≡ slot_at slots (tile_of s k) → cell_at (work_cells s base these) k ≡ cell_at (work_cells s base slots) k
work_slot s base slots these k l e = work_at s base these k l ∙ ap (λ (x : Option Block). cell_or x (place_in s k) (cell_at base k)) e ∙ sym (work_at s base slots k l)

abbrev put_block : Block → ℕ → Option ℤ → Block
put_block b k cell = record b { cells = slice_set b.cells k cell }

module _ (s : Size) (base : Cells) (slots : List (Option Block)) (at : ℕ) (h : IsSize s) (l : at < cells_in s) (n : length slots ≡ tiles_in s) where
  abbrev t : ℕ
  t = tile_of s at

  t_lt : t < length slots
  t_lt = rw (n) (back s at h l).tile

  slot_set : (o : Option Block) → slot_at (slice_set slots t o) t ≡ o
  slot_set o = get_or-set_same slots t o None t_lt

  slot_other : (o : Option Block) (u : ℕ) → u ≢ t → slot_at (slice_set slots t o) u ≡ slot_at slots u
  slot_other o u q = get_or-set_other slots t u o None q

  pub set_work : (b : Block) (cell : Option ℤ) → slot_at slots t ≡ Some b → IsBlockOf s t b → work_cells s base (slice_set slots t (Some (put_block b (place_in s at) cell))) ≡ slice_set (work_cells s base slots) at cell
  set_work b cell e z =
      let these = slice_set slots t (Some (put_block b (place_in s at) cell)) in
      let p : place_in s at < length b.cells = rw (z.count) (place_lt s at h l) in
      ext_get_or None (work_cells s base these) (slice_set (work_cells s base slots) at cell) (length-work s base these ∙ sym (length-set (work_cells s base slots) at cell ∙ length-work s base slots))
      (λ k m.
      let k_lt : k < cells_in s = omega (arith, m, length-work s base these) in
      elim (cases_eq k at) as (λ _. cell_at (work_cells s base these) k ≡ cell_at (slice_set (work_cells s base slots) at cell) k) [
        | inl q ↦ rw (q) (
            work_here s base these at (Some (put_block b (place_in s at) cell)) l (slot_set (Some (put_block b (place_in s at) cell)))
            ∙ get_or-set_same b.cells (place_in s at) cell None p
            ∙ sym (get_or-set_same (work_cells s base slots) at cell None (omega (arith, l, length-work s base slots))))
        | inr q ↦ elim (cases_eq (tile_of s k) t) as (λ _. cell_at (work_cells s base these) k ≡ cell_at (slice_set (work_cells s base slots) at cell) k) [
          | inl u ↦ work_here s base these k (Some (put_block b (place_in s at) cell)) k_lt (ap (slot_at these) u ∙ slot_set (Some (put_block b (place_in s at) cell)))
              ∙ get_or-set_other b.cells (place_in s at) (place_in s k) cell None (λ v. q (one_place s k at h k_lt l u v))
              ∙ sym (work_here s base slots k (Some b) k_lt (ap (slot_at slots) u ∙ e))
              ∙ sym (get_or-set_other (work_cells s base slots) at k cell None q)
          | inr u ↦ work_slot s base slots these k k_lt (slot_other (Some (put_block b (place_in s at) cell)) (tile_of s k) u)
              ∙ sym (get_or-set_other (work_cells s base slots) at k cell None q)
        ]
      ])

-- a tile of the grid, at a place of its own
pub tile_at_place : (s : Size) (cells : Cells) (k : ℕ) → IsSize s → k < cells_in s → cell_at (tile_cells s cells (tile_of s k)) (place_in s k) ≡ cell_at cells k
unfolding place_in
tile_at_place s cells k h l =
    let a = back s k h l in
    let t = tile_of s k in
    get_or-strided cells (tile_start s t) s.columns (tile_height s t) (tile_width s t) (k / s.columns % 32) (k % s.columns % 32) (k / s.columns % 32 * tile_width s t + k % s.columns % 32) None a.row a.column refl
    ∙ ap (λ n. get_or cells n None) a.place

-- a copied tile shows what the tile showed
pub copy_work : (s : Size) (base : Cells) (slots : List (Option Block)) (t : ℕ) → IsSize s → t < length slots → slot_at slots t ≡ None → work_cells s base (slice_set slots t (Some (tile_block s base t))) ≡ work_cells s base slots
copy_work s base slots t h m e =
    let these = slice_set slots t (Some (tile_block s base t)) in
    ext_get_or None (work_cells s base these) (work_cells s base slots) (length-work s base these ∙ sym (length-work s base slots))
    (λ k l.
    let k_lt : k < cells_in s = omega (arith, l, length-work s base these) in
    elim (cases_eq (tile_of s k) t) as (λ _. cell_at (work_cells s base these) k ≡ cell_at (work_cells s base slots) k) [
      | inl u ↦ work_here s base these k (Some (tile_block s base t)) k_lt (ap (slot_at these) u ∙ get_or-set_same slots t (Some (tile_block s base t)) None m)
          ∙ ap (λ v. cell_at (tile_cells s base v) (place_in s k)) (sym u)
          ∙ tile_at_place s base k h k_lt
          ∙ sym (work_here s base slots k None k_lt (ap (slot_at slots) u ∙ e))
      | inr u ↦ work_slot s base slots these k k_lt (get_or-set_other slots t (tile_of s k) (Some (tile_block s base t)) None u)
    ])

-- the work is as well kept after a tile was put in a slot
pub work_put : (s : Size) (old : Option LayerState) (slots : List (Option Block)) (t : ℕ) (b : Block) → IsWork s old slots → t < length slots → IsBlockOf s t b → IsWork s old (slice_set slots t (Some b))
work_put s old slots t b w l z = record {
  size = w.size;
  is_old = w.is_old;
  count = length-set slots t (Some b) ∙ w.count;
  sizes = λ u c e. elim (cases_eq u t) as (λ _. IsBlockOf s u c) [
    | inl q ↦ (let same : Some b ≡ Some c = sym (get_or-set_same slots t (Some b) None l) ∙ ap (slot_at (slice_set slots t (Some b))) (sym q) ∙ e in let eq : b ≡ c = cc in rw (q, ← eq) z)
    | inr q ↦ w.sizes u c (sym (get_or-set_other slots t u (Some b) None q) ∙ e)
  ];
}

-- which tiles are copied
pub copied_set : (slots : List (Option Block)) (t : ℕ) (b : Block) → map is_some (slice_set slots t (Some b)) ≡ slice_set (map is_some slots) t true
copied_set slots t b = map-set is_some slots t (Some b)

pub copied_same : (slots : List (Option Block)) (t : ℕ) (b : Block) → t < length slots → slot_at slots t ≡ Some b → slice_set (map is_some slots) t true ≡ map is_some slots
copied_same slots t b l e =
    let there : get_or (map is_some slots) t false ≡ true = get_or-map is_some slots t None false l ∙ ap is_some e in
    ap (λ v. slice_set (map is_some slots) t v) (sym there) ∙ set-get_or (map is_some slots) t false

-- ---- nothing is copied

abbrev pub none_block : Option Block
none_block = None

pub begun_work : (s : Size) (before : Option (List (Option ℤ))) (slots : List (Option Block)) → ((t : ℕ) → slot_at slots t ≡ None) → work_cells s (base_of before) slots ≡ begun_cells s before
unfolding begun_cells
begun_work s before slots none =
    let cells = base_of before in
    let n : length (map (cell_at cells) (places s)) ≡ cells_in s = length-map-range_with_len (cell_at cells) 0 (cells_in s) in
    ext_get_or None (work_cells s cells slots) (map (cell_at cells) (places s)) (length-work s cells slots ∙ sym n)
    (λ k l.
    let k_lt : k < cells_in s = omega (arith, l, length-work s cells slots) in
    work_here s cells slots k None k_lt (none (tile_of s k)) ∙ sym (get_or-map-range_with_len (cell_at cells) 0 (cells_in s) k k None k_lt (omega arith)))

pub no_slot : (n u : ℕ) → slot_at (replicate n none_block) u ≡ None
no_slot n u = elim (cases_lt u n) as (λ _. slot_at (replicate n none_block) u ≡ None) [
  | inl l ↦ get_or-replicate n u none_block None l
  | inr l ↦ get_or_past (replicate n none_block) u None (omega (arith, l, length-replicate n none_block))
]

map_none : (n : ℕ) → map is_some (replicate n none_block) ≡ replicate n false
map_none zero = refl
map_none (suc n) = ap (λ xs. false ∷ xs) (map_none n)

pub no_copies : (n : ℕ) → copies (map is_some (replicate n none_block)) ≡ 0
no_copies n = rw (map_none n) (sum_by-replicate (λ b. cond b 1 0) n false ∙ omega arith)

-- ---- tiles

abbrev null_cell : Option ℤ
null_cell = None

-- a tile of nulls
pub null_tile : (s : Size) (t : ℕ) → replicate (tile_size s t) null_cell ≡ tile_cells s [] t
unfolding strided
null_tile s t =
    ext_get_or None (replicate (tile_size s t) null_cell) (tile_cells s [] t) (length-replicate (tile_size s t) (null_cell) ∙ sym (length-strided [] (tile_start s t) s.columns (tile_height s t) (tile_width s t)))
    (λ k l.
    let m : k < tile_size s t = omega (arith, l, length-replicate (tile_size s t) null_cell) in
    get_or-replicate (tile_size s t) k null_cell None m
    ∙ sym (get_or-map-range_with_len (λ n. cell_at [] (tile_start s t + n / tile_width s t * s.columns + n % tile_width s t)) 0 (tile_size s t) k k None m (omega arith)))

pub is_none : (o : Option Block) → is_some o ≡ false → o ≡ None
is_none None e = refl
is_none (Some b) e = cc

pub copied_some : (slots : List (Option Block)) (t : ℕ) (o : Option Block) → t < length slots → slot_at slots t ≡ o → is_some o ≡ true → slice_set (map is_some slots) t true ≡ map is_some slots
copied_some slots t None l e i = cc
copied_some slots t (Some b) l e i = copied_same slots t b l e

-- the slot of a tile that is copied
pub slot_some : (slots : List (Option Block)) (copied : List Bool) (t : ℕ) → t < length slots → length copied ≡ length slots → map is_some slots ≡ slice_set copied t true → is_some (slot_at slots t) ≡ true
slot_some slots copied t l n e =
    sym (get_or-map is_some slots t None false l) ∙ ap (λ xs. get_or xs t false) e ∙ get_or-set_same copied t true false (omega (arith, l, n))

pub put_size : (s : Size) (t : ℕ) (b new : Block) (k : ℕ) (cell : Option ℤ) → new ≡ put_block b k cell → IsBlockOf s t b → IsBlockOf s t new
put_size s t b new k cell e z = rw (e) record { height = z.height; width = z.width; count = length-set b.cells k cell ∙ z.count }

pub set_some : (slots : List (Option Block)) (t : ℕ) (b new : Block) → t < length slots → slot_at slots t ≡ Some b → map is_some (slice_set slots t (Some new)) ≡ map is_some slots
set_some slots t b new l e = copied_set slots t new ∙ copied_same slots t b l e

pub some_slot : (s : Size) (old : Option LayerState) (slots : List (Option Block)) (t : ℕ) (o : Option Block) → IsWork s old slots → slot_at slots t ≡ o → IfSome o (λ b. IsBlockOf s t b)
some_slot s old slots t None w e = tt
some_slot s old slots t (Some b) w e = w.sizes t b e

-- ---- how many tiles are copied

pub copies_set : (copied : List Bool) (t : ℕ) → t < length copied → get_or copied t false ≡ false → copies (slice_set copied t true) ≡ copies copied + 1
copies_set copied t l e =
    let f = λ (b : Bool). cond b 1 0 in
    let h = sum_by-set f copied t true false l in
    let w : f (get_or copied t false) ≡ 0 = rw (e) refl in
    omega (arith, h, w)

-- a tile that is copied after a write was so before, or is the one written
pub copied_for : (copied : List Bool) (t u : ℕ) → get_or (slice_set copied t true) u false ≡ true → (get_or copied u false ≡ true) ⊎ (u ≡ t)
copied_for copied t u e = elim (cases_eq u t) as (λ _. (get_or copied u false ≡ true) ⊎ (u ≡ t)) [
  | inl q ↦ inr q
  | inr q ↦ inl (sym (get_or-set_other copied t u true false q) ∙ e)
]
