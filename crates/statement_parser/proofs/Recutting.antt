-- The words of a line, cut again where it has a tail.
use Rattle.std.proofs.Common.{◌≡◌, ℕ, suc, ◌+◌, ◌-◌, ◌≤◌, Bool, true, false, cond, List, [], ◌∷◌, map, length, take, slice_index_or, Some, None, refl, sym, ap, subst, ◌∙◌, arith}
use Rattle.std.specs.Prelude.{codes, bytes_eq}
use Rattle.std.proofs.lemmas.Slice.Eq.{bytes_eq-Decides}
use Rattle.map_words.specs.Bytes.{Text, is_blank}
use Rattle.map_words.specs.Names.{is_plain, is_reserved, is_among}
use Rattle.map_words.specs.Words.{Placed, words_of, text_of, AreSlices}
use Rattle.statement_parser.specs.Tails.{before_blanks, trimmed, tail_at, tail_of, with_tail, line_words, start_of}
use Rattle.statement_parser.specs.declared.tails.Tail.{Tail}
use Rattle.statement_parser.specs.declared.tails.Tail.TheVariants.{Label, Symbol}

-- ---- blanks at the end

blank_last : (b : ℕ) (bs : Text) → is_blank (slice_index_or (b ∷ bs) (length bs) 0) ≡ true → trimmed (take (length bs) (b ∷ bs)) ≡ trimmed (b ∷ bs)
blank_last b [] e = rw e refl
blank_last b (c ∷ cs) e = ap (before_blanks b) (blank_last c cs e)

other_last : (b : ℕ) (bs : Text) → is_blank (slice_index_or (b ∷ bs) (length bs) 0) ≡ false → b ∷ bs ≡ trimmed (b ∷ bs)
other_last b [] e = rw e refl
other_last b (c ∷ cs) e = subst (λ t. b ∷ c ∷ cs ≡ before_blanks b t) (other_last c cs e) refl

pub trimmed_blank : (bs : Text) → 1 ≤ length bs → is_blank (slice_index_or bs (length bs - 1) 0) ≡ true → trimmed (take (length bs - 1) bs) ≡ trimmed bs
trimmed_blank [] h = absurd (omega arith)
trimmed_blank (b ∷ bs) h =
    let e : length (b ∷ bs) - 1 ≡ length bs = omega arith in
    subst (λ k. is_blank (slice_index_or (b ∷ bs) k 0) ≡ true → trimmed (take k (b ∷ bs)) ≡ trimmed (b ∷ bs)) (sym e) (blank_last b bs)

pub trimmed_other : (bs : Text) → 1 ≤ length bs → is_blank (slice_index_or bs (length bs - 1) 0) ≡ false → bs ≡ trimmed bs
trimmed_other [] h = absurd (omega arith)
trimmed_other (b ∷ bs) h =
    let e : length (b ∷ bs) - 1 ≡ length bs = omega arith in
    subst (λ k. is_blank (slice_index_or (b ∷ bs) k 0) ≡ false → b ∷ bs ≡ trimmed (b ∷ bs)) (sym e) (other_last b bs)

-- ---- where a tail begins

first_within : (bytes : Text) (at : ℕ) (ws : List Placed) → AreSlices bytes at ws → at ≤ suc (length bytes)
first_within bytes at [] h = h
first_within bytes at (w ∷ ws) h = let l = first_within bytes (w.at + length w.text) ws h.2 in let k = h.0 in omega arith

at_start : (first : Text) (k : ℕ) (tail : Tail) → tail_at first k ≡ Some tail → start_of tail ≡ k
at_start first k tail = go (bytes_eq first (codes "label")) (bytes_eq first (codes "symbol"))
  where
    go : (b c : Bool) → cond b (Some (Label k)) (cond c (Some (Symbol k)) None) ≡ Some tail → start_of tail ≡ k
    go true c e = (let same : Label k ≡ tail = cc in ap start_of (sym same))
    go false true e = (let same : Symbol k ≡ tail = cc in ap start_of (sym same))
    go false false e = absurd cc

pub tail_within : (bytes : Text) (ws : List Placed) (tail : Tail) → AreSlices bytes 1 ws → tail_of ws ≡ Some tail → start_of tail ≤ length bytes
tail_within bytes [] tail h e = absurd cc
tail_within bytes (v ∷ []) tail h e = absurd cc
tail_within bytes (v ∷ w ∷ []) tail h e = absurd cc
tail_within bytes (v ∷ w ∷ x ∷ ws) tail h e =
    let l = first_within bytes (x.at + length x.text) ws h.2.2.2 in
    let k : start_of tail ≡ x.at - 1 + length x.text = at_start v.text (x.at - 1 + length x.text) tail e in
    let one = h.0 in
    let two = h.2.0 in
    let three = h.2.2.0 in
    omega arith

-- ---- lines without a tail

pub no_word_of : (n word : Text) → is_plain n ≡ true → is_plain word ≡ false → bytes_eq n word ≡ false
no_word_of n word p q = go (bytes_eq n word) refl
  where
    go : (b : Bool) → bytes_eq n word ≡ b → b ≡ false
    go true e = absurd (let same : n ≡ word = (bytes_eq-Decides n word).0 e in let f : is_plain n ≡ false = ap is_plain same ∙ q in cc)
    go false e = refl

label_reserved : is_plain (codes "label") ≡ false
unfolding is_plain is_reserved is_among
label_reserved = refl

symbol_reserved : is_plain (codes "symbol") ≡ false
unfolding is_plain is_reserved is_among
symbol_reserved = refl

name_first : (n : Text) (k : ℕ) → is_plain n ≡ true → tail_at n k ≡ None
name_first n k p = rw (no_word_of n (codes "label") p label_reserved, no_word_of n (codes "symbol") p symbol_reserved) refl

untailed : (ws : List Placed) (n : Text) (ts : List Text) → map text_of ws ≡ n ∷ ts → ((k : ℕ) → tail_at n k ≡ None) → tail_of ws ≡ None
untailed [] n ts e h = refl
untailed (v ∷ []) n ts e h = refl
untailed (v ∷ w ∷ []) n ts e h = refl
untailed (v ∷ w ∷ x ∷ ws) n ts e h = let same : v.text ≡ n = cc in subst (λ t. tail_at t (x.at - 1 + length x.text) ≡ None) (sym same) (h (x.at - 1 + length x.text))

-- a line whose first word has no tail has its words as they are
pub untailed_line : (bytes n : Text) (ts : List Text) → map text_of (words_of bytes) ≡ n ∷ ts → ((k : ℕ) → tail_at n k ≡ None) → map text_of (line_words bytes) ≡ n ∷ ts
untailed_line bytes n ts e h = ap (λ o. map text_of (with_tail bytes (words_of bytes) o)) (untailed (words_of bytes) n ts e h) ∙ e

pub name_line : (bytes n : Text) (ts : List Text) → map text_of (words_of bytes) ≡ n ∷ ts → is_plain n ≡ true → map text_of (line_words bytes) ≡ n ∷ ts
name_line bytes n ts e p = untailed_line bytes n ts e (λ k. name_first n k p)
