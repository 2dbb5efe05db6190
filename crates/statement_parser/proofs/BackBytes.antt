-- The words of a canonical text.
use Rattle.std.proofs.Common.{◌≡◌, ◌⊎◌, inl, inr, ℕ, suc, ◌+◌, ◌≤◌, ℤ, pos, Bool, true, false, not, cond, ◌&&◌, List, [], ◌∷◌, ◌++◌, map, length, Option, Some, None, refl, sym, ap, subst, ◌∙◌, append_assoc, arith, nat_eq, nat_lt}
use Rattle.std.specs.Prelude.{codes, option_map, IsTrue, nat_le, decimal}
use Rattle.std.specs.List.{list_all, prefix_len}
use Rattle.std.specs.Char.{is_ascii_alphabetic}
use Rattle.std.specs.Fmt.{signed_decimal}
use Rattle.std.specs.Ordering.{int_eq}
use Rattle.std.proofs.lemmas.List.{append-nil, map-append}
use Rattle.std.proofs.lemmas.List.Folds.{list_all-append}
use Rattle.std.proofs.lemmas.Bool.Decides.{nat_tests}
use Rattle.map_nums.specs.declared.Stat.TheVariants.{Sum}
use Rattle.map_nums.specs.declared.Rate.{Rate}
use Rattle.map_nums.specs.Numbers.{is_value, greatest_value, vmax}
use Rattle.map_words.specs.Bytes.{Text, is_blank, is_mark, is_good, first_bad, is_silent}
use Rattle.map_words.specs.Words.{Placed, closed, longer, words_from, text_of}
use Rattle.map_words.specs.Names.{is_plain, has_name_form, is_name_byte, is_reserved}
use Rattle.map_defs.specs.Ops.{Term, layer_term, number_term, Head, local_head, rating_head, focal_head, zonal_head, flow_head, spread_head, nearest_head, sight_head, Op}
use Rattle.map_defs.specs.Sight.{Sighting}
use Rattle.map_defs.specs.Statements.{Written, plain, call}
use Rattle.statement_parser.specs.Lines.{Manner, define, edit}
use Rattle.statement_parser.specs.Grammar.{IsLine}
use Rattle.layer_tiles.specs.Cells.{IsCell}
use Rattle.statement_parser.specs.Formed.{Each, IsTerm, IsRate, IsRadius, IsSighting, IsHead, IsOp, IsWritten}
use Rattle.statement_parser.specs.There.{IsWrittenThere}
use Rattle.statement_parser.specs.Canonical.{cell_text, optional_texts, rates_texts, radius_texts, sight_texts, is_one, friction_texts, spread_texts, ignoring_texts, head_texts, op_texts, tail_text, written_text}
use Rattle.statement_parser.specs.TermTexts.{term_text, terms_after, terms_texts, listed_after, listed}
use Rattle.statement_parser.specs.Spacing.{spaced}
use Rattle.statement_parser.specs.Operations.{operation_text, operation_of}
use Rattle.statement_parser.specs.declared.operation.Operation.{Operation}
use Rattle.statement_parser.specs.declared.operation.Operation.TheVariants.{Local, Focal, Zonal, Incremental}
use Rattle.statement_parser.specs.declared.op.Form.TheVariants.{Linkage}
use Rattle.statement_parser.specs.Texts.{seen, is_short, LineText, worded}
use Rattle.statement_parser.specs.Printing.{ReadsBack}
use Rattle.statement_parser.proofs.Numerals.{is_run_byte, number_run, number_some}
use Rattle.statement_parser.proofs.BackWords.{written_tail, written_texts, words_back}
use Rattle.statement_parser.proofs.FormedLines.{both_true, not_true}
use Rattle.statement_parser.proofs.Recutting.{name_line}

-- ---- words without columns

abbrev pub closed_text : Option Text → List Text
closed_text None = []
closed_text (Some t) = t ∷ []

abbrev pub longer_text : Option Text → ℕ → Option Text
longer_text None b = Some (b ∷ [])
longer_text (Some t) b = Some (t ++ b ∷ [])

abbrev pub texts_from : Option Text → Text → List Text
texts_from now [] = closed_text now
texts_from now (b ∷ bs) =
    cond (is_blank b) (closed_text now ++ texts_from None bs) (cond (is_mark b) (closed_text now ++ (b ∷ []) ∷ texts_from None bs) (texts_from (longer_text now b) bs))

closed_is : (now : Option Placed) → map text_of (closed now) ≡ closed_text (option_map text_of now)
closed_is None = refl
closed_is (Some w) = refl

longer_is : (now : Option Placed) (b at : ℕ) → option_map text_of (longer now b at) ≡ longer_text (option_map text_of now) b
longer_is None b at = refl
longer_is (Some w) b at = refl

pub texts_are : (at : ℕ) (now : Option Placed) (bs : Text) → map text_of (words_from at now bs) ≡ texts_from (option_map text_of now) bs
texts_are at now [] = closed_is now
texts_are at now (b ∷ bs) = go (is_blank b) (is_mark b) (texts_are (suc at) None bs) (texts_are (suc at) (longer now b at) bs)
  where
    go : (blank mark : Bool) → map text_of (words_from (suc at) None bs) ≡ texts_from None bs → map text_of (words_from (suc at) (longer now b at) bs) ≡ texts_from (option_map text_of (longer now b at)) bs
        → map text_of (cond blank (closed now ++ words_from (suc at) None bs) (cond mark (closed now ++ record { text = b ∷ []; at = at } ∷ words_from (suc at) None bs) (words_from (suc at) (longer now b at) bs)))
        ≡ cond blank (closed_text (option_map text_of now) ++ texts_from None bs) (cond mark (closed_text (option_map text_of now) ++ (b ∷ []) ∷ texts_from None bs) (texts_from (longer_text (option_map text_of now) b) bs))
    go true mark e f = map-append text_of (closed now) (words_from (suc at) None bs) ∙ ap (λ ts. ts ++ map text_of (words_from (suc at) None bs)) (closed_is now) ∙ ap (λ ts. closed_text (option_map text_of now) ++ ts) e
    go false true e f = map-append text_of (closed now) (record { text = b ∷ []; at = at } ∷ words_from (suc at) None bs) ∙ ap (λ ts. ts ++ (b ∷ []) ∷ map text_of (words_from (suc at) None bs)) (closed_is now) ∙ ap (λ ts. closed_text (option_map text_of now) ++ (b ∷ []) ∷ ts) e
    go false false e f = f ∙ ap (λ o. texts_from o bs) (longer_is now b at)

-- ---- a word, and what follows it

-- a longest run of other bytes, or a mark
abbrev pub IsRun : Text → Type 0
IsRun t = (t ≡ [] → ⊥) × (list_all is_run_byte t ≡ true)

abbrev pub IsMark : Text → Type 0
IsMark t = (b : ℕ) × (t ≡ b ∷ []) × (is_blank b ≡ false) × (is_mark b ≡ true) × (is_good b ≡ true)

abbrev pub IsWord : Text → Type 0
IsWord t = IsRun t ⊎ IsMark t

record IsRunByte (b : ℕ) : Type 0 where
  pub good : is_good b ≡ true
  pub blank : is_blank b ≡ false
  pub mark : is_mark b ≡ false

run_byte : (b : ℕ) → is_run_byte b ≡ true → IsRunByte b
run_byte b e =
    let h = both_true (is_good b && not (is_blank b)) (not (is_mark b)) e in
    let k = both_true (is_good b) (not (is_blank b)) h.0 in
    record { good = k.0; blank = not_true (is_blank b) k.1; mark = not_true (is_mark b) h.1 }

run_on : (now t rest : Text) → list_all is_run_byte t ≡ true → texts_from (Some now) (t ++ rest) ≡ texts_from (Some (now ++ t)) rest
run_on now [] rest e = ap (λ n. texts_from (Some n) rest) (sym (append-nil now))
run_on now (b ∷ bs) rest e =
    let h = both_true (is_run_byte b) (list_all is_run_byte bs) e in
    let r = run_byte b h.0 in
    rw (r.blank, r.mark) (run_on (now ++ b ∷ []) bs rest h.1 ∙ ap (λ n. texts_from (Some n) rest) (append_assoc now (b ∷ []) bs))

run_start : (t rest : Text) → IsRun t → texts_from None (t ++ rest) ≡ texts_from (Some t) rest
run_start [] rest h = absurd (h.0 refl)
run_start (b ∷ bs) rest h =
    let k = both_true (is_run_byte b) (list_all is_run_byte bs) h.1 in
    let r = run_byte b k.0 in
    rw (r.blank, r.mark) (run_on (b ∷ []) bs rest k.1)

pub from_word : (u rest : Text) (us : List Text) → IsWord u → ((t : Text) → texts_from (Some t) rest ≡ t ∷ us) → texts_from None rest ≡ us → texts_from None (u ++ rest) ≡ u ∷ us
from_word u rest us w run mark = elim w [
  | inl h ↦ run_start u rest h ∙ run u
  | inr h ↦ ap (λ t. texts_from None (t ++ rest)) h.1 ∙ rw (h.2, h.3) (ap (λ ts. (h.0 ∷ []) ∷ ts) mark) ∙ ap (λ t. t ∷ us) (sym h.1)
]

-- after a word, and after a blank or a mark, the bytes have these words
abbrev pub Follows : Text → List Text → Type 0
Follows rest us = ((t : Text) → texts_from (Some t) rest ≡ t ∷ us) × (texts_from None rest ≡ us)

pub space_follows : (rest : Text) (us : List Text) → texts_from None rest ≡ us → Follows (32 ∷ rest) us
space_follows rest us e = (λ t. ap (λ ts. t ∷ ts) e, e)

pub mark_follows : (b : ℕ) (rest : Text) (us : List Text) → is_blank b ≡ false → is_mark b ≡ true → texts_from None rest ≡ us → Follows (b ∷ rest) ((b ∷ []) ∷ us)
mark_follows b rest us p q e = (λ t. rw (p, q) (ap (λ ts. t ∷ (b ∷ []) ∷ ts) e), rw (p, q) (ap (λ ts. (b ∷ []) ∷ ts) e))

spaced_then : (ts : List Text) (rest : Text) (us : List Text) → Each IsWord ts → Follows rest us → Follows (spaced ts ++ rest) (ts ++ us)
spaced_then [] rest us h f = f
spaced_then (t ∷ ts) rest us h f =
    let ih = spaced_then ts rest us h.1 f in
    space_follows ((t ++ spaced ts) ++ rest) (t ∷ (ts ++ us)) (ap (texts_from None) (append_assoc t (spaced ts) rest) ∙ from_word t (spaced ts ++ rest) (ts ++ us) h.0 ih.0 ih.1)

-- ---- bytes of a line

-- bytes that are all of one kind are all of a wider one
all_wider : (p q : ℕ → Bool) → ((b : ℕ) → p b ≡ true → q b ≡ true) → (t : Text) → list_all p t ≡ true → list_all q t ≡ true
all_wider p q h [] e = refl
all_wider p q h (b ∷ bs) e = let k = both_true (p b) (list_all p bs) e in rw (h b k.0, all_wider p q h bs k.1) refl

pub word_good : (t : Text) → IsWord t → list_all is_good t ≡ true
word_good t w = elim w [
  | inl h ↦ all_wider is_run_byte is_good (λ b e. (run_byte b e).good) t h.1
  | inr h ↦ ap (list_all is_good) h.1 ∙ rw h.4 refl
]

pub spaced_good : (ts : List Text) → Each IsWord ts → list_all is_good (spaced ts) ≡ true
spaced_good [] h = refl
spaced_good (t ∷ ts) h = list_all-append is_good t (spaced ts) ∙ rw (word_good t h.0, spaced_good ts h.1) refl

abbrev pub Good : Text → Type 0
Good t = list_all is_good t ≡ true

pub good_append : (a b : Text) → Good a → Good b → Good (a ++ b)
good_append a b h k = list_all-append is_good a b ∙ rw (h, k) refl

all_prefix : (t : Text) → list_all is_good t ≡ true → prefix_len (λ x. not (not (is_good x))) t ≡ length t
all_prefix [] e = refl
all_prefix (b ∷ bs) e =
    let h = both_true (is_good b) (list_all is_good bs) e in
    let s : 1 + length bs ≡ suc (length bs) = omega arith in
    rw h.0 (ap (λ n. 1 + n) (all_prefix bs h.1) ∙ s)

not_below : (n : ℕ) → nat_lt n n ≡ false
not_below n = grind (arith, nat_tests)

pub no_bad : (t : Text) → list_all is_good t ≡ true → first_bad t ≡ None
no_bad t e = rw (all_prefix t e, not_below (length t)) refl

-- ---- the words of a statement

name_run_byte : (b : ℕ) → is_name_byte b ≡ true → is_run_byte b ≡ true
name_run_byte b e = grind (arith, nat_tests)

letter_name_byte : (b : ℕ) → is_ascii_alphabetic b ≡ true → is_name_byte b ≡ true
letter_name_byte b e = rw e refl

-- a plain name's first letter, and its other bytes
record IsNamed (b : ℕ) (bs : Text) : Type 0 where
  pub letter : is_ascii_alphabetic b ≡ true
  pub others : list_all is_name_byte bs ≡ true

named : (b : ℕ) (bs : Text) → is_plain (b ∷ bs) ≡ true → IsNamed b bs
unfolding is_plain
named b bs e =
    let form = (both_true (has_name_form (b ∷ bs)) (not (is_reserved (b ∷ bs))) e).0 in
    let h = both_true (is_ascii_alphabetic b) (list_all is_name_byte bs) (both_true (is_ascii_alphabetic b && list_all is_name_byte bs) (nat_le (length bs) 31) form).0 in
    record { letter = h.0; others = h.1 }

not_empty : is_plain [] ≡ true → ⊥
unfolding is_plain
not_empty e = cc

pub plain_word : (n : Text) → is_plain n ≡ true → IsWord n
plain_word [] p = absurd (not_empty p)
plain_word (b ∷ bs) p =
    let h = named b bs p in
    inl (λ e. cc, rw (name_run_byte b (letter_name_byte b h.letter), all_wider is_name_byte is_run_byte name_run_byte bs h.others) refl)

number_word : (z : ℤ) → IsTrue (is_value z) → IsWord (signed_decimal z)
number_word z h = inl (number_some z h, number_run z h)

pub term_word : (t : Term) → IsTerm t → IsWord (term_text t)
term_word (layer_term n) h = plain_word n h
term_word (number_term z) h = number_word z h

cell_word : (c : Option ℤ) → IsCell c → IsWord (cell_text c)
cell_word None h = inl (λ e. cc, refl)
cell_word (Some z) h = number_word z h

-- the name of each operation, computed
operation_word : (o : Operation) → IsWord (operation_text o)
operation_word (Local Sum) = inl (λ e. cc, refl)
operation_word (Focal Sum) = inl (λ e. cc, refl)
operation_word (Zonal Sum) = inl (λ e. cc, refl)
operation_word (Incremental Linkage) = inl (λ e. cc, refl)
operation_word o = inl (λ e. cc, refl)

of_word : IsWord (codes "of")
of_word = inl (λ e. cc, refl)

and_word : IsWord (codes "and")
and_word = inl (λ e. cc, refl)

after_words : (word : Text) (ts : List Term) → IsWord word → Each IsTerm ts → Each IsWord (terms_after word ts)
after_words word [] w h = tt
after_words word (t ∷ ts) w h = (w, (term_word t h.0, after_words word ts w h.1))

terms_words : (word : Text) (ts : List Term) → IsWord word → Each IsTerm ts → Each IsWord (terms_texts word ts)
terms_words word [] w h = tt
terms_words word (t ∷ ts) w h = (term_word t h.0, after_words word ts w h.1)

each-append : (ts us : List Text) → Each IsWord ts → Each IsWord us → Each IsWord (ts ++ us)
each-append [] us h k = k
each-append (t ∷ ts) us h k = (h.0, each-append ts us h.1 k)

-- words that may be left out
left_out : (b : Bool) (ts : List Text) → Each IsWord ts → Each IsWord (cond b [] ts)
left_out true ts h = tt
left_out false ts h = h

optional_words : (word : Text) (default z : ℤ) → IsWord word → IsTrue (is_value z) → Each IsWord (optional_texts word default z)
optional_words word default z w h = left_out (int_eq z default) (word ∷ signed_decimal z ∷ []) (w, (number_word z h, tt))

rates_words : (rs : List Rate) → Each IsRate rs → Each IsWord (rates_texts rs)
rates_words [] h = tt
rates_words (r ∷ rs) h =
    (inl (λ e. cc, refl), (cell_word r.give h.0.give, (inl (λ e. cc, refl), (number_word r.low h.0.low, each-append (optional_texts (codes "to") r.low r.high) (rates_texts rs) (optional_words (codes "to") r.low r.high (inl (λ e. cc, refl)) h.0.high) (rates_words rs h.1)))))

value_in : (n : ℕ) → n ≤ greatest_value → nat_le n greatest_value ≡ true
value_in n h = grind (arith, nat_tests)

count_word : (n : ℕ) → n ≤ greatest_value → IsWord (decimal n)
count_word n h = number_word (pos n) (value_in n h)

radius_words : (r : Option ℕ) → IsRadius r → Each IsWord (radius_texts r)
radius_words None h = tt
radius_words (Some n) h = (inl (λ e. cc, refl), (count_word n (let l = h.1 in omega arith), tt))

sight_words : (s : Sighting) → IsSighting s → Each IsWord (sight_texts s)
sight_words s h =
    let from = optional_texts (codes "from") (pos 0) s.from in
    let to = optional_texts (codes "to") (pos 0) s.to in
    each-append (from ++ to) (optional_texts (codes "within") (pos 64) (pos s.reach))
    (each-append from to (optional_words (codes "from") (pos 0) s.from (inl (λ e. cc, refl)) h.from) (optional_words (codes "to") (pos 0) s.to (inl (λ e. cc, refl)) h.to))
    (optional_words (codes "within") (pos 64) (pos s.reach) (inl (λ e. cc, refl)) (value_in s.reach (let l = h.reach.1 in omega arith)))

friction_words : (t : Term) → IsTerm t → Each IsWord (friction_texts t)
friction_words t h = left_out (is_one t) (codes "spreading" ∷ codes "in" ∷ term_text t ∷ []) (inl (λ e. cc, refl), (inl (λ e. cc, refl), (term_word t h, tt)))

ignoring_words : (ignoring : Bool) → Each IsWord (ignoring_texts ignoring)
ignoring_words true = (inl (λ e. cc, refl), (inl (λ e. cc, refl), tt))
ignoring_words false = tt

spread_words : (limit : ℕ) (t u : Term) → limit ≤ greatest_value → IsTerm t → IsTerm u → Each IsWord (spread_texts limit t u)
spread_words limit t u most p q = (
  term_word t p,
  each-append (friction_texts u) (optional_texts (codes "within") vmax (pos limit)) (friction_words u q) (optional_words (codes "within") vmax (pos limit) (inl (λ e. cc, refl)) (value_in limit most)),
)

head_words : (head : Head) (ts : List Term) → IsHead head → Each IsTerm ts → Each IsWord (head_texts head ts)
head_words (local_head s ignoring) ts h k = each-append (terms_texts (codes "and") ts) (ignoring_texts ignoring) (terms_words (codes "and") ts and_word k) (ignoring_words ignoring)
head_words (rating_head rs) ts h k = each-append (terms_texts (codes "and") ts) (rates_texts rs) (terms_words (codes "and") ts and_word k) (rates_words rs h.1)
head_words (focal_head s r) ts h k = each-append (terms_texts (codes "and") ts) (radius_texts r) (terms_words (codes "and") ts and_word k) (radius_words r h.1)
head_words (zonal_head s) ts h k = terms_words (codes "within") ts (inl (λ e. cc, refl)) k
head_words flow_head ts h k = terms_words (codes "carrying") ts (inl (λ e. cc, refl)) k
head_words (spread_head limit) (t ∷ u ∷ []) h k = spread_words limit t u h k.0 k.1.0
head_words (nearest_head limit) (t ∷ u ∷ []) h k = spread_words limit t u h k.0 k.1.0
head_words (sight_head s) (t ∷ u ∷ []) h k = (term_word t k.0, (inl (λ e. cc, refl), (inl (λ e. cc, refl), (term_word u k.1.0, sight_words s h))))
head_words head ts h k = terms_words (codes "and") ts and_word k

pub op_words : (o : Op) → IsOp o → Each IsWord (op_texts o)
op_words o h = (operation_word (operation_of o.head), (of_word, head_words o.head o.terms h.0 h.2))

-- ---- the words and the bytes of a statement

terms_then : (ts : List Term) (rest : Text) (us : List Text) → Each IsTerm ts → Follows rest us → Follows (listed_after ts ++ rest) (terms_after (codes ",") ts ++ us)
terms_then [] rest us h f = f
terms_then (t ∷ ts) rest us h f =
    let ih = terms_then ts rest us h.1 f in
    let more = terms_after (codes ",") ts ++ us in
    let one : texts_from None ((term_text t ++ listed_after ts) ++ rest) ≡ term_text t ∷ more =
    ap (texts_from None) (append_assoc (term_text t) (listed_after ts) rest) ∙ from_word (term_text t) (listed_after ts ++ rest) more (term_word t h.0) ih.0 ih.1 in
    mark_follows 44 (32 ∷ ((term_text t ++ listed_after ts) ++ rest)) (term_text t ∷ more) refl refl one

tail_then : (w : Written) (rest : Text) (us : List Text) → IsWritten w → Follows rest us → Follows (tail_text w ++ rest) (written_tail w ++ us)
tail_then (plain o) rest us h f = spaced_then (op_texts o) rest us (op_words o h) f
tail_then (call p []) rest us h f = absurd (let l = h.1 in omega arith)
tail_then (call p (a ∷ ts)) rest us h f =
    let given = listed (a ∷ ts) in
    let more = terms_after (codes ",") ts in
    let after = terms_then ts (41 ∷ rest) (codes ")" ∷ us) h.3.1 (mark_follows 41 rest us refl refl f.1) in
    let first : texts_from None ((given ++ 41 ∷ []) ++ rest) ≡ term_text a ∷ ((more ++ codes ")" ∷ []) ++ us) =
    ap (texts_from None) (append_assoc given (41 ∷ []) rest ∙ append_assoc (term_text a) (listed_after ts) (41 ∷ rest))
    ∙ from_word (term_text a) (listed_after ts ++ 41 ∷ rest) (more ++ codes ")" ∷ us) (term_word a h.3.0) after.0 after.1
    ∙ ap (λ vs. term_text a ∷ vs) (sym (append_assoc more (codes ")" ∷ []) us)) in
    let opened = mark_follows 40 ((given ++ 41 ∷ []) ++ rest) (term_text a ∷ ((more ++ codes ")" ∷ []) ++ us)) refl refl first in
    let named : texts_from None ((p ++ 40 ∷ (given ++ 41 ∷ [])) ++ rest) ≡ p ∷ codes "(" ∷ term_text a ∷ ((more ++ codes ")" ∷ []) ++ us) =
    ap (texts_from None) (append_assoc p (40 ∷ (given ++ 41 ∷ [])) rest) ∙ from_word p (40 ∷ ((given ++ 41 ∷ []) ++ rest)) (codes "(" ∷ term_text a ∷ ((more ++ codes ")" ∷ []) ++ us)) (plain_word p h.0) opened.0 opened.1 in
    space_follows ((p ++ 40 ∷ (given ++ 41 ∷ [])) ++ rest) (p ∷ codes "(" ∷ term_text a ∷ ((more ++ codes ")" ∷ []) ++ us)) named

pub written_then : (n : Text) (w : Written) (rest : Text) (us : List Text) → IsWord n → IsWritten w → Follows rest us → texts_from None (written_text n w ++ rest) ≡ n ∷ codes "=" ∷ (written_tail w ++ us)
written_then n w rest us word h f =
    let body = tail_then w rest us h f in
    let equals = mark_follows 61 (tail_text w ++ rest) (written_tail w ++ us) refl refl body.1 in
    let space = space_follows (61 ∷ (tail_text w ++ rest)) (codes "=" ∷ (written_tail w ++ us)) equals.1 in
    ap (texts_from None) (append_assoc n (32 ∷ 61 ∷ tail_text w) rest) ∙ from_word n (32 ∷ 61 ∷ (tail_text w ++ rest)) (codes "=" ∷ (written_tail w ++ us)) word space.0 space.1

terms_good : (ts : List Term) → Each IsTerm ts → Good (listed_after ts)
terms_good [] h = refl
terms_good (t ∷ ts) h = good_append (term_text t) (listed_after ts) (word_good (term_text t) (term_word t h.0)) (terms_good ts h.1)

tail_good : (w : Written) → IsWritten w → Good (tail_text w)
tail_good (plain o) h = spaced_good (op_texts o) (op_words o h)
tail_good (call p []) h = absurd (let l = h.1 in omega arith)
tail_good (call p (a ∷ ts)) h =
    good_append p (40 ∷ (listed (a ∷ ts) ++ 41 ∷ [])) (word_good p (plain_word p h.0))
    (good_append (listed (a ∷ ts)) (41 ∷ []) (good_append (term_text a) (listed_after ts) (word_good (term_text a) (term_word a h.3.0)) (terms_good ts h.3.1)) refl)

pub statement_good : (n : Text) (w : Written) → Good n → IsWritten w → Good (written_text n w)
statement_good n w g h = good_append n (32 ∷ 61 ∷ tail_text w) g (tail_good w h)

written_seen : (n : Text) (w : Written) → is_plain n ≡ true → IsWritten w → seen (written_text n w) ≡ written_texts n w
written_seen n w p h =
    name_line (written_text n w) n (codes "=" ∷ written_tail w) (texts_are 1 None (written_text n w) ∙ ap (texts_from None) (sym (append-nil (written_text n w)))
    ∙ written_then n w [] [] (plain_word n p) h (λ t. refl, refl) ∙ ap (λ ts. n ∷ codes "=" ∷ ts) (append-nil (written_tail w))) p

-- ---- back

letter_loud : (b : ℕ) → is_ascii_alphabetic b ≡ true → (is_blank b ≡ false) × (nat_eq b 35 ≡ false)
letter_loud b e = (grind (arith, nat_tests), grind (arith, nat_tests))

not_silent : (n rest : Text) → is_plain n ≡ true → is_silent (n ++ rest) ≡ false
not_silent [] rest p = absurd (not_empty p)
not_silent (b ∷ bs) rest p = let h = letter_loud b (named b bs p).letter in rw (h.0, h.1) refl

-- what is written of a formed statement, and is no longer than a line, is its line
pub written_back : (m : Manner) (n : Text) (w : Written) → IsTrue (is_plain n) → IsWritten w → IsWrittenThere m w → is_short (written_text n w) ≡ true → LineText m (written_text n w) (edit (define n w))
written_back m n w p h there short =
    worded short (not_silent n (32 ∷ 61 ∷ tail_text w) p) (no_bad (written_text n w) (statement_good n w (word_good n (plain_word n p)) h))
    (subst (λ ts. IsLine m ts (edit (define n w))) (sym (written_seen n w p h)) (words_back m n w p h there))

pub reads_back : (n : Text) (w : Written) (text : Text) → text ≡ written_text n w → ReadsBack n w text
reads_back n w text e m p h there short =
    subst (λ t. LineText m t (edit (define n w))) (sym e) (written_back m n w p h there (subst (λ t. is_short t ≡ true) e short))
