-- The marks of places in tiles.
use Rattle.std.proofs.Common.{◌≡◌, inl, inr, ℕ, ◌+◌, ◌*◌, ◌/◌, ◌%◌, ◌^◌, ◌<◌, ◌≤◌, true, false, List, [], length, map, get_or, replicate, refl, sym, ◌∙◌, ap, subst, arith, eqb, w32}
use Rattle.std.specs.Prelude.{slice_set}
use Rattle.std.specs.Int.{bit_at}
use Rattle.std.specs.Int.RustNames.{bit_or}
use Rattle.std.proofs.lemmas.Bool.{cases_eq, cases_lt}
use Rattle.std.proofs.lemmas.Nat.{div-mul-add, mod-mul-add, mul-add-lt, mul-le}
use Rattle.std.proofs.lemmas.Nat.Bits.{bit_at-zero, bit_at_set_same, bit_at_set_other}
use Rattle.std.proofs.lemmas.List.{get_or_past, get_or-set_same, get_or-set_other, length-set, set-get_or, get_or-map, get_or-replicate, length-replicate, ext_get_or}
use Rattle.std.proofs.lemmas.List.FromFn.{get_or-map-range_with_len, length-map-range_with_len}
use Rattle.map_nums.specs.Grids.{Size, IsSize, cells_in, row_of, column_of}
use Rattle.layer_tiles.specs.Tiles.{tiles_across, tiles_in, tile_of, place_in}
use Rattle.layer_tiles.proofs.Places.{across_is}
use Rattle.layer_tiles.proofs.Rounds.{back}
use Rattle.tile_work.specs.PlaceSets.{IsPlaceSet, IsMarked, AreWords, words_at, mark_in, mark_at, marks_of}
use Rattle.tile_work.proofs.Slots.{one_place}

-- the place of a row and a column
pub record IsSpot (s : Size) (row column : ℕ) : Type 0 where
  pub within : row * s.columns + column < cells_in s
  pub row_is : row_of s (row * s.columns + column) ≡ row
  pub column_is : column_of s (row * s.columns + column) ≡ column
  pub tile : tile_of s (row * s.columns + column) ≡ row / 32 * tiles_across s + column / 32
  pub tile_lt : row / 32 * tiles_across s + column / 32 < tiles_in s
  pub fits : row / 32 * tiles_across s ≤ 16384

pub spot : (s : Size) (row column : ℕ) → IsSize s → row < s.rows → column < s.columns → IsSpot s row column
unfolding tile_of
spot s row column h p q =
    let w : row * s.columns + column < cells_in s = omega (arith, mul-add-lt row s.columns column s.rows p q) in
    let d : (row * s.columns + column) / s.columns ≡ row = div-mul-add row s.columns column q in
    let m : (row * s.columns + column) % s.columns ≡ column = mod-mul-add row s.columns column q in
    let t : tile_of s (row * s.columns + column) ≡ row / 32 * tiles_across s + column / 32 = rw (d, m) refl in
    let l : tile_of s (row * s.columns + column) < tiles_in s = (back s (row * s.columns + column) h w).tile in
    let a = across_is s in
    record {
      within = w;
      row_is = d;
      column_is = m;
      tile = t;
      tile_lt = omega (arith, t, l);
      fits = mul-le (row / 32) (tiles_across s) 128 128 (omega (arith, p, h.most_rows)) (omega (arith, a, h.most_columns));
    }

pub length-marks : (s : Size) (slots : List (List ℕ)) → length (marks_of s slots) ≡ cells_in s
unfolding marks_of
length-marks s slots = length-map-range_with_len (mark_at s slots) 0 (cells_in s)

pub mark_of : (s : Size) (slots : List (List ℕ)) (at : ℕ) → at < cells_in s → get_or (marks_of s slots) at false ≡ mark_at s slots at
unfolding marks_of
mark_of s slots at l = get_or-map-range_with_len (mark_at s slots) 0 (cells_in s) at at false l (omega arith)

-- the mark of a row and a column
pub mark_here : (s : Size) (slots : List (List ℕ)) (row column : ℕ) → IsSize s → row < s.rows → column < s.columns → get_or (marks_of s slots) (row * s.columns + column) false ≡ mark_in (words_at slots (row / 32 * tiles_across s + column / 32)) (row % 32) (column % 32)
mark_here s slots row column h p q =
    let w = spot s row column h p q in
    mark_of s slots (row * s.columns + column) w.within ∙ rw (w.row_is, w.column_is, w.tile) refl

-- no words, no marks
pub unmarked : (words : List ℕ) (r c : ℕ) → length words ≤ r → mark_in words r c ≡ false
unmarked words r c l = rw (get_or_past words r 0 l, bit_at-zero c) refl

-- two places of one tile with one row and one column in it are one
same_place : (s : Size) (i j : ℕ) → IsSize s → i < cells_in s → j < cells_in s → tile_of s i ≡ tile_of s j → row_of s i % 32 ≡ row_of s j % 32 → column_of s i % 32 ≡ column_of s j % 32 → i ≡ j
unfolding place_in
same_place s i j h l m t r c = one_place s i j h l m t (rw (t, r, c) refl)

-- one more mark
pub set_marks : (s : Size) (slots : List (List ℕ)) (row column : ℕ) (new : List ℕ) → IsPlaceSet s slots → row < s.rows → column < s.columns → IsMarked (words_at slots (row / 32 * tiles_across s + column / 32)) (row % 32) (column % 32) new → marks_of s (slice_set slots (row / 32 * tiles_across s + column / 32) new) ≡ slice_set (marks_of s slots) (row * s.columns + column) true
set_marks s slots row column new z p q m =
    let w = spot s row column z.size p q in
    let at = row * s.columns + column in
    let t = row / 32 * tiles_across s + column / 32 in
    let these = slice_set slots t new in
    let t_lt : t < length slots = omega (arith, w.tile_lt, z.count) in
    ext_get_or false (marks_of s these) (slice_set (marks_of s slots) at true) (length-marks s these ∙ sym (length-set (marks_of s slots) at true ∙ length-marks s slots))
    (λ k l.
    let k_lt : k < cells_in s = omega (arith, l, length-marks s these) in
    elim (cases_eq k at) as (λ _. get_or (marks_of s these) k false ≡ get_or (slice_set (marks_of s slots) at true) k false) [
      | inl e ↦ rw (e) (mark_here s these row column z.size p q ∙ ap (λ ws. mark_in ws (row % 32) (column % 32)) (get_or-set_same slots t new [] t_lt) ∙ m.here ∙ sym (get_or-set_same (marks_of s slots) at true false (omega (arith, w.within, length-marks s slots))))
      | inr e ↦ mark_of s these k k_lt
          ∙ (elim (cases_eq (tile_of s k) t) as (λ _. mark_at s these k ≡ mark_at s slots k) [
            | inl f ↦ rw (f) (ap (λ ws. mark_in ws (row_of s k % 32) (column_of s k % 32)) (get_or-set_same slots t new [] t_lt)
                ∙ m.other (row_of s k % 32) (column_of s k % 32) (omega arith) (omega arith)
                (λ a b. e (same_place s k at z.size k_lt w.within (f ∙ sym w.tile) (a ∙ ap (λ x. x % 32) (sym w.row_is)) (b ∙ ap (λ x. x % 32) (sym w.column_is)))))
            | inr f ↦ ap (λ ws. mark_in ws (row_of s k % 32) (column_of s k % 32)) (get_or-set_other slots t (tile_of s k) new [] f)
          ])
          ∙ sym (mark_of s slots k k_lt)
          ∙ sym (get_or-set_other (marks_of s slots) at k true false e)
    ])

pub place_set_on : (s : Size) (slots : List (List ℕ)) (t : ℕ) (new : List ℕ) → IsPlaceSet s slots → t < tiles_in s → AreWords new → IsPlaceSet s (slice_set slots t new)
place_set_on s slots t new z l w = record {
  size = z.size;
  count = length-set slots t new ∙ z.count;
  words = λ u. elim (cases_eq u t) as (λ _. AreWords (words_at (slice_set slots t new) u)) [
    | inl e ↦ (let P : List ℕ → Type 0 = AreWords in subst P (sym (ap (words_at (slice_set slots t new)) e ∙ get_or-set_same slots t new [] (omega (arith, l, z.count)))) w)
    | inr e ↦ (let P : List ℕ → Type 0 = AreWords in subst P (sym (get_or-set_other slots t u new [] e)) (z.words u))
  ];
}

-- the same words put back
pub same_set : (slots : List (List ℕ)) (t : ℕ) (new : List ℕ) → new ≡ words_at slots t → slice_set slots t new ≡ slots
same_set slots t new e = ap (λ ws. slice_set slots t ws) e ∙ set-get_or slots t []

abbrev pub no_words : List ℕ
no_words = []

no_marks : (n t : ℕ) → words_at (replicate n no_words) t ≡ []
no_marks n t = elim (cases_lt t n) as (λ _. words_at (replicate n no_words) t ≡ []) [
  | inl l ↦ get_or-replicate n t no_words [] l
  | inr l ↦ get_or_past (replicate n no_words) t [] (omega (arith, l, length-replicate n no_words))
]

pub begun_marks : (s : Size) (n : ℕ) → marks_of s (replicate n no_words) ≡ replicate (cells_in s) false
begun_marks s n =
    ext_get_or false (marks_of s (replicate n no_words)) (replicate (cells_in s) false) (length-marks s (replicate n no_words) ∙ sym (length-replicate (cells_in s) false))
    (λ k l.
    let k_lt : k < cells_in s = omega (arith, l, length-marks s (replicate n no_words)) in
    mark_of s (replicate n no_words) k k_lt
    ∙ ap (λ ws. mark_in ws (row_of s k % 32) (column_of s k % 32)) (no_marks n (tile_of s k))
    ∙ unmarked [] (row_of s k % 32) (column_of s k % 32) (omega arith)
    ∙ sym (get_or-replicate (cells_in s) k false false k_lt))

pub begun_set : (s : Size) (n : ℕ) → IsSize s → n ≡ tiles_in s → IsPlaceSet s (replicate n no_words)
begun_set s n h e = record { size = h; count = length-replicate n no_words ∙ e; words = λ t. let P : List ℕ → Type 0 = AreWords in subst P (sym (no_marks n t)) (inl refl) }

-- a bit of a word is set
pub marked_word : (old words : List ℕ) (row column : ℕ) (w : ℕ) → row < 32 → column < 32 → length words ≡ 32 → ((r : ℕ) → get_or words r 0 ≡ get_or old r 0) → w ≡ get_or words row 0 → IsMarked old row column (slice_set words row (bit_or w (1 * 2 ^ column % 4294967296)))
marked_word old words row column w p q n same e = record {
  words = inr (length-set words row (bit_or w (1 * 2 ^ column % 4294967296)) ∙ n);
  here = rw (get_or-set_same words row (bit_or w (1 * 2 ^ column % 4294967296)) 0 (omega (arith, p, n)), bit_at_set_same w32 w column q) refl;
  other = λ r c l m d. elim (cases_eq r row) as (λ _. mark_in (slice_set words row (bit_or w (1 * 2 ^ column % 4294967296))) r c ≡ mark_in old r c) [
    | inl f ↦ (let g : bit_at (bit_or w (1 * 2 ^ column % 4294967296)) c ≡ bit_at w c = bit_at_set_other w32 w column q c (d f) in
        ap (λ x. eqb (bit_at x c) 1) (ap (λ i. get_or (slice_set words row (bit_or w (1 * 2 ^ column % 4294967296))) i 0) f ∙ get_or-set_same words row (bit_or w (1 * 2 ^ column % 4294967296)) 0 (omega (arith, p, n)))
        ∙ ap (λ x. eqb x 1) g
        ∙ ap (λ x. eqb (bit_at x c) 1) (e ∙ same row ∙ ap (λ i. get_or old i 0) (sym f)))
    | inr f ↦ ap (λ x. eqb (bit_at x c) 1) (get_or-set_other words row r (bit_or w (1 * 2 ^ column % 4294967296)) 0 f ∙ same r)
  ];
}

-- a mark in words with the same marks
pub marked_from : (now old new : List ℕ) (row column : ℕ) → ((r : ℕ) → get_or now r 0 ≡ get_or old r 0) → IsMarked now row column new → IsMarked old row column new
marked_from now old new row column same m = record {
  words = m.words;
  here = m.here;
  other = λ r c l k d. m.other r c l k d ∙ ap (λ w. eqb (bit_at w c) 1) (same r);
}

abbrev pub word_zero : ℕ
word_zero = 0

-- words of which there were none are all 0
pub blank : (old : List ℕ) → length old ≡ 0 → (r : ℕ) → get_or (replicate 32 0) r 0 ≡ get_or old r 0
blank old e r = zero_at r ∙ sym (get_or_past old r 0 (omega (arith, e)))
  where
    zero_at : (r : ℕ) → ◌≡◌ {A = ℕ} (get_or (replicate 32 0) r 0) 0
    zero_at r = elim (cases_lt r 32) as (λ _. ◌≡◌ {A = ℕ} (get_or (replicate 32 0) r 0) 0) [
      | inl l ↦ get_or-replicate 32 r 0 0 l
      | inr l ↦ get_or_past (replicate 32 0) r 0 (omega (arith, l, length-replicate 32 word_zero))
    ]

-- the words of a slot that is kept as something else
pub slot_words : {X : Type 0} (f : X → List ℕ) (slots : List X) (t : ℕ) (x : X) → t < length slots → x ≡ get_or slots t x → words_at (map f slots) t ≡ f x
slot_words f slots t x l e = get_or-map f slots t x [] l ∙ ap f (sym e)
