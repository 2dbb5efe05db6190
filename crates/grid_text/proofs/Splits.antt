-- A text's tokens after its first white space, and after its first token.
use Rattle.std.proofs.Common.{◌≡◌, ℕ, suc, ◌+◌, Bool, true, false, not, cond, List, [], ◌∷◌, take, drop, refl, sym, ap, ◌∙◌, arith}
use Rattle.std.specs.List.{prefix_len}
use Rattle.std.proofs.lemmas.List.{drop-drop}
use Rattle.std.proofs.Math.Numerals.{one-add}
use Rattle.grid_text.specs.Tokens.{Token, is_white, begins_token, with_byte, tokens_from}

-- how many bytes of the first token there are
abbrev pub word_len : List ℕ → ℕ
word_len bytes = prefix_len (λ b. not (is_white b)) bytes

abbrev pub token : ℕ → List ℕ → Token
token n text = record { at = n; text = text }

-- a byte of white space makes no token
pub tokens-white : (n b : ℕ) (bytes : List ℕ) → is_white b ≡ true → tokens_from n (b ∷ bytes) ≡ tokens_from (n + 1) bytes
tokens-white n b bytes e = ap (λ (w : Bool). with_byte n b w (begins_token bytes) (tokens_from (n + 1) bytes)) e

past_white : (w : Bool) (n b p : ℕ) (bytes : List ℕ) → (w ≡ true → tokens_from (n + 1 + p) (drop p bytes) ≡ tokens_from n (b ∷ bytes))
    → tokens_from (n + cond w (1 + p) 0) (drop (cond w (1 + p) 0) (b ∷ bytes)) ≡ tokens_from n (b ∷ bytes)
past_white true n b p bytes h =
    ap (λ k. tokens_from (n + k) (drop k (b ∷ bytes))) (one-add p)
    ∙ ap (λ m. tokens_from m (drop p bytes)) (omega arith)
    ∙ h refl
past_white false n b p bytes h = ap (λ m. tokens_from m (b ∷ bytes)) (omega arith)

-- white space in front makes no token
pub tokens-skip_white : (n : ℕ) (bytes : List ℕ) → tokens_from (n + prefix_len is_white bytes) (drop (prefix_len is_white bytes) bytes) ≡ tokens_from n bytes
tokens-skip_white n [] = refl
tokens-skip_white n (b ∷ bytes) =
    past_white (is_white b) n b (prefix_len is_white bytes) bytes (λ e. tokens-skip_white (n + 1) bytes ∙ sym (tokens-white n b bytes e))

stops_at : (w : Bool) (a b n : ℕ) (bytes these : List ℕ) → (w ≡ true → drop n bytes ≡ b ∷ these → is_white b ≡ false) → (w ≡ false → a ≡ b → is_white b ≡ false) → drop (cond w (1 + n) 0) (a ∷ bytes) ≡ b ∷ these → is_white b ≡ false
stops_at true a b n bytes these f g h = f refl (sym (ap (λ k. drop k (a ∷ bytes)) (one-add n)) ∙ h)
stops_at false a b n bytes these f g h = g refl (let e : a ≡ b = cc in e)

-- what stands after white space begins a token
pub after_white : (b : ℕ) (bytes these : List ℕ) → drop (prefix_len is_white bytes) bytes ≡ b ∷ these → is_white b ≡ false
after_white b [] these h = cc
after_white b (a ∷ bytes) these h =
    stops_at (is_white a) a b (prefix_len is_white bytes) bytes these (λ e f. after_white b bytes these f) (λ e f. ap is_white (sym f) ∙ e) h

pub tokens-other : (n b : ℕ) (bytes : List ℕ) → is_white b ≡ false → tokens_from n (b ∷ bytes) ≡ with_byte n b false (begins_token bytes) (tokens_from (n + 1) bytes)
tokens-other n b bytes e = ap (λ (w : Bool). with_byte n b w (begins_token bytes) (tokens_from (n + 1) bytes)) e

first_ends : (w : Bool) (n b m : ℕ) (bytes : List ℕ) → (w ≡ true → m ≡ 0) → (w ≡ false → tokens_from (n + 1) bytes ≡ token (n + 1) (take m bytes) ∷ tokens_from (n + 1 + m) (drop m bytes))
    → with_byte n b false (not w) (tokens_from (n + 1) bytes) ≡ token n (b ∷ take m bytes) ∷ tokens_from (n + 1 + m) (drop m bytes)
first_ends true n b m bytes f g =
    ap (λ k. token n (b ∷ []) ∷ tokens_from k bytes) (omega arith)
    ∙ ap (λ k. token n (b ∷ take k bytes) ∷ tokens_from (n + 1 + k) (drop k bytes)) (sym (f refl))
first_ends false n b m bytes f g = ap (with_byte n b false true) (g refl)

word_len-other : (b : ℕ) (bytes : List ℕ) → is_white b ≡ false → word_len (b ∷ bytes) ≡ suc (word_len bytes)
word_len-other b bytes e = ap (λ (w : Bool). cond (not w) (1 + word_len bytes) 0) e ∙ one-add (word_len bytes)

word_len-white : (b : ℕ) (bytes : List ℕ) → is_white b ≡ true → word_len (b ∷ bytes) ≡ 0
word_len-white b bytes e = ap (λ (w : Bool). cond (not w) (1 + word_len bytes) 0) e

put_back : (n b k m : ℕ) (bytes : List ℕ) → k ≡ suc m → token n (b ∷ take m bytes) ∷ tokens_from (n + 1 + m) (drop m bytes) ≡ token n (take k (b ∷ bytes)) ∷ tokens_from (n + k) (drop k (b ∷ bytes))
put_back n b k m bytes e =
    ap (λ j. token n (b ∷ take m bytes) ∷ tokens_from j (drop m bytes)) (omega arith)
    ∙ ap (λ j. token n (take j (b ∷ bytes)) ∷ tokens_from (n + j) (drop j (b ∷ bytes))) (sym e)

-- the first token stands before the others
pub tokens-word : (n b : ℕ) (bytes : List ℕ) → is_white b ≡ false → tokens_from n (b ∷ bytes) ≡ token n (take (word_len (b ∷ bytes)) (b ∷ bytes)) ∷ tokens_from (n + word_len (b ∷ bytes)) (drop (word_len (b ∷ bytes)) (b ∷ bytes))
tokens-word n b [] h =
    tokens-other n b [] h ∙ ap (λ k. token n (take k (b ∷ [])) ∷ tokens_from (n + k) (drop k (b ∷ []))) (sym (word_len-other b [] h))
tokens-word n b (c ∷ bytes) h =
    tokens-other n b (c ∷ bytes) h
    ∙ first_ends (is_white c) n b (word_len (c ∷ bytes)) (c ∷ bytes) (word_len-white c bytes) (λ e. tokens-word (n + 1) c bytes e)
    ∙ put_back n b (word_len (b ∷ c ∷ bytes)) (word_len (c ∷ bytes)) (c ∷ bytes) (word_len-other b (c ∷ bytes) h)

-- nothing but white space
pub no_token : (n : ℕ) (bytes from : List ℕ) → from ≡ drop (prefix_len is_white bytes) bytes → from ≡ [] → tokens_from n bytes ≡ []
no_token n bytes from e z = sym (tokens-skip_white n bytes) ∙ ap (tokens_from (n + prefix_len is_white bytes)) (sym e ∙ z)

-- the first token after white space
pub first_token : (n k m : ℕ) (bytes from word : List ℕ) → from ≡ drop k bytes → k ≡ prefix_len is_white bytes → (from ≡ [] → ⊥) → word ≡ take m from → m ≡ word_len from
    → tokens_from n bytes ≡ token (n + k) word ∷ tokens_from (n + k + m) (drop m from)
first_token n k m bytes [] word e p z w l = absurd (z refl)
first_token n k m bytes (b ∷ these) word e p z w l =
    let white : is_white b ≡ false = after_white b bytes these (sym (e ∙ ap (λ j. drop j bytes) p)) in
    sym (tokens-skip_white n bytes)
    ∙ ap (λ j. tokens_from (n + j) (drop j bytes)) (sym p)
    ∙ ap (tokens_from (n + k)) (sym e)
    ∙ tokens-word (n + k) b these white
    ∙ ap (λ j. token (n + k) (take j (b ∷ these)) ∷ tokens_from (n + k + j) (drop j (b ∷ these))) (sym l)
    ∙ ap (λ t. token (n + k) t ∷ tokens_from (n + k + m) (drop m (b ∷ these))) (sym w)

-- the same from a byte of the text on
pub token_from : (bytes rest from word : List ℕ) (at k m : ℕ) → rest ≡ drop at bytes → from ≡ drop k rest → k ≡ prefix_len is_white rest → (from ≡ [] → ⊥) → word ≡ take m from → m ≡ word_len from
    → tokens_from (at + 1) (drop at bytes) ≡ token (at + k + 1) word ∷ tokens_from (at + k + m + 1) (drop (at + k + m) bytes)
token_from bytes rest from word at k m r e p z w l =
    let left : drop m from ≡ drop (at + k + m) bytes = ap (drop m) (e ∙ ap (drop k) r) ∙ ap (drop m) (drop-drop k at bytes) ∙ drop-drop m (at + k) bytes in
    ap (tokens_from (at + 1)) (sym r)
    ∙ first_token (at + 1) k m rest from word e p z w l
    ∙ ap (λ j. token j word ∷ tokens_from (j + m) (drop m from)) (omega arith)
    ∙ ap (λ j. token (at + k + 1) word ∷ tokens_from j (drop m from)) (omega arith)
    ∙ ap (λ t. token (at + k + 1) word ∷ tokens_from (at + k + m + 1) t) left
