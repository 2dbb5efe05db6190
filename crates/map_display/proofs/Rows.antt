-- Rows of a text.
use Rattle.std.proofs.Common.{◌≡◌, ◌⊎◌, inl, inr, ℤ, Option, ℕ, zero, suc, ◌+◌, ◌*◌, ◌/◌, ◌<◌, ◌≤◌, List, [], ◌∷◌, ◌++◌, length, take, drop, get_or, map, refl, sym, ap, ◌∙◌, append_assoc, add-one, codes, decimal, arith}
use Rattle.std.specs.List.{flat_map, range_with_len}
use Rattle.std.proofs.lemmas.Bool.{cases_lt}
use Rattle.std.proofs.lemmas.List.{append-nil, map_more, take_more, take_all, get_or-drop, length-drop, flat_map_more, get_or_append_left, get_or_push}
use Rattle.std.proofs.lemmas.Nat.{mul-add-lt, mul-le}
use Rattle.map_nums.specs.Grids.{Size, IsSize, Cells}
use Rattle.layer_tiles.specs.Tiles.{tiles_across, tiles_down, tiles_in}
use Rattle.grid_text.specs.Printed.{spaced}

rows-more : (f : ℕ → List ℕ) (a n : ℕ) → flat_map f (range_with_len a (suc n)) ≡ flat_map f (range_with_len a n) ++ f (a + n)
rows-more f a zero = append-nil (f a) ∙ ap f (omega arith)
rows-more f a (suc n) =
    ap (λ (rest : List ℕ). f a ++ rest) (rows-more f (a + 1) n)
    ∙ sym (append_assoc (f a) (flat_map f (range_with_len (a + 1) n)) (f (a + 1 + n)))
    ∙ ap (λ (i : ℕ). (f a ++ flat_map f (range_with_len (a + 1) n)) ++ f i) (omega arith)

-- one more row
pub next_row : (start text now : List ℕ) (f : ℕ → List ℕ) (r : ℕ) → text ≡ start ++ flat_map f (range_with_len 0 r) → now ≡ text ++ f r → now ≡ start ++ flat_map f (range_with_len 0 (r + 1))
next_row start text now f r t n =
    let before = flat_map f (range_with_len 0 r) in
    rw (n, t, add-one)
    (append_assoc start before (f r) ∙ ap (λ (x : List ℕ). start ++ x) (sym (rows-more f 0 r ∙ ap (λ (i : ℕ). before ++ f i) (omega arith))))

-- ---- words with single spaces between

spaced-push : (first word : List ℕ) (words : List (List ℕ)) → spaced (first ∷ (words ++ word ∷ [])) ≡ (spaced (first ∷ words) ++ codes " ") ++ word
spaced-push first word [] = refl
spaced-push first word (next ∷ words) = rw (spaced-push next word words) (simp append_assoc)

-- the numbers before place i, as words
abbrev pub words_before : List ℕ → ℕ → List ℕ
words_before row i = spaced (map decimal (take i row))

words-more : (row : List ℕ) (i n : ℕ) → 0 < i → i < length row → n ≡ get_or row i n → words_before row (i + 1) ≡ (words_before row i ++ codes " ") ++ decimal n
words-more [] i n p l e = absurd (omega arith)
words-more (x ∷ row) zero n p l e = absurd (omega arith)
words-more (x ∷ row) (suc i) n p l e =
    ap spaced (map_more decimal (x ∷ row) (suc i) n l)
    ∙ spaced-push (decimal x) (decimal (get_or row i n)) (map decimal (take i row))
    ∙ ap (λ (z : ℕ). (words_before (x ∷ row) (suc i) ++ codes " ") ++ decimal z) (sym e)

words-first : (row : List ℕ) (i n : ℕ) → i ≡ 0 → i < length row → n ≡ get_or row i n → words_before row (i + 1) ≡ words_before row i ++ decimal n
words-first [] i n z l e = absurd (omega arith)
words-first (x ∷ row) i n z l e = rw z (let f : n ≡ x = rw z at e in ap decimal (sym f))

-- a space and a number
pub next_word : (start text then now row : List ℕ) (i n : ℕ) → text ≡ start ++ words_before row i → then ≡ text ++ codes " " → now ≡ then ++ decimal n → 0 < i → i < length row → n ≡ get_or row i n → now ≡ start ++ words_before row (i + 1)
next_word start text then now row i n t s m p l e = rw (m, s, t, words-more row i n p l e) (simp append_assoc)

-- the first number
pub first_word : (start text now row : List ℕ) (i n : ℕ) → text ≡ start ++ words_before row i → now ≡ text ++ decimal n → i ≡ 0 → i < length row → n ≡ get_or row i n → now ≡ start ++ words_before row (i + 1)
first_word start text now row i n t m z l e = rw (m, t, words-first row i n z l e) (simp append_assoc)

-- ---- a row of stamps

-- the k-th tile of a row of tiles
pub record IsTileAt (s : Size) (r k across : ℕ) : Type 0 where
  pub within : r * across + k < tiles_in s
  pub few : r * across ≤ 16384
  pub narrow : k < 128

pub tile_at : (s : Size) (r k across : ℕ) → IsSize s → r < tiles_down s → across ≡ tiles_across s → k < across → IsTileAt s r k across
unfolding tiles_in tiles_down tiles_across
tile_at s r k across h l e m =
    let few : across ≤ 128 = omega (arith, h.most_columns) in
    record {
      within = omega (arith, e, mul-add-lt r across k ((s.rows + 31) / 32) l m, ap (λ (a : ℕ). (s.rows + 31) / 32 * a) e);
      few = omega (arith, mul-le r across 128 128 (omega (arith, h.most_rows)) few);
      narrow = omega arith;
    }

pub stamps_more : (s : Size) (stamps row next : List ℕ) (r k across x : ℕ) → length stamps ≡ tiles_in s → IsTileAt s r k across → row ≡ take k (drop (r * across) stamps) → x ≡ get_or stamps (r * across + k) 0 → next ≡ row ++ x ∷ [] → next ≡ take (k + 1) (drop (r * across) stamps)
stamps_more s stamps row next r k across x n t e f g =
    let rest = drop (r * across) stamps in
    let there : k < length rest = omega (arith, length-drop (r * across) stamps, t.within) in
    g ∙ ap (λ (l : List ℕ). l ++ x ∷ []) e ∙ ap (λ (y : ℕ). take k rest ++ y ∷ []) (f ∙ sym (get_or-drop (r * across) stamps k 0)) ∙ sym (take_more rest k 0 there)

-- ---- one more sign, and one more piece

pub signs_more : (f : Option ℤ → ℕ) (start text now : List ℕ) (row : Cells) (i : ℕ) (x : Option ℤ) (b : ℕ) → text ≡ start ++ map f (take i row) → now ≡ text ++ b ∷ [] → b ≡ f x → i < length row → x ≡ get_or row i x → now ≡ start ++ map f (take (i + 1) row)
signs_more f start text now row i x b t m s l e =
    let before = map f (take i row) in
    m ∙ ap (λ (u : List ℕ). u ++ b ∷ []) t ∙ append_assoc start before (b ∷ [])
    ∙ ap (λ (u : List ℕ). start ++ u) (ap (λ (y : ℕ). before ++ y ∷ []) (s ∙ ap f e) ∙ sym (map_more f row i x l))

pub signs_end : (f : Option ℤ → ℕ) (start text now : List ℕ) (row : Cells) (i : ℕ) → text ≡ start ++ map f (take i row) → now ≡ text ++ codes "\n" → length row ≤ i → now ≡ start ++ (map f row ++ codes "\n")
signs_end f start text now row i t m l =
    m ∙ ap (λ (u : List ℕ). u ++ codes "\n") (t ∙ ap (λ (r : Cells). start ++ map f r) (take_all i row l)) ∙ append_assoc start (map f row) (codes "\n")

pub piece_more : {X : Type 0} (f : X → List ℕ) (start text now : List ℕ) (xs : List X) (i : ℕ) (x : X) → text ≡ start ++ flat_map f (take i xs) → now ≡ text ++ f x → i < length xs → x ≡ get_or xs i x → now ≡ start ++ flat_map f (take (i + 1) xs)
piece_more f start text now xs i x t m l e =
    m ∙ ap (λ (u : List ℕ). u ++ f x) t ∙ flat_map_more f start (take i xs) x
    ∙ ap (λ (r : List _). start ++ flat_map f r) (ap (λ (y : _). take i xs ++ y ∷ []) e ∙ sym (take_more xs i x l))

pub pieces_all : {X : Type 0} (f : X → List ℕ) (start text : List ℕ) (xs : List X) (i : ℕ) → text ≡ start ++ flat_map f (take i xs) → length xs ≤ i → text ≡ start ++ flat_map f xs
pieces_all f start text xs i t l = t ∙ ap (λ (r : List _). start ++ flat_map f r) (take_all i xs l)

-- ---- a table of the first numbers

pub table_more : (f : ℕ → ℕ) (old new : List ℕ) (x n : ℕ) → new ≡ old ++ x ∷ [] → length old ≡ n → x ≡ f n → ((k d : ℕ) → k < n → get_or old k d ≡ f k) → (k d : ℕ) → k < n + 1 → get_or new k d ≡ f k
table_more f old new x n e c s h k d l = by_end (cases_lt k n)
  where
    by_end : (k < n) ⊎ (n ≤ k) → get_or new k d ≡ f k
    by_end (inl m) = ap (λ (u : List ℕ). get_or u k d) e ∙ get_or_append_left old (x ∷ []) d k (omega (arith, c)) ∙ h k d m
    by_end (inr m) =
        let last : k ≡ n = omega arith in
        ap (λ (u : List ℕ). get_or u k d) e ∙ get_or_push old x d k (omega (arith, c, last)) ∙ s ∙ ap f (sym last)
