-- Where a word is cut, and the pairs that were read so far.
use Rattle.std.proofs.Common.{◌≡◌, ◌<◌, ◌≤◌, ◌+◌, ◌||◌, take, drop, get_or, ℕ, Bool, true, false, List, [], ◌∷◌, ◌++◌, length, map, refl, sym, ap, ◌∙◌, Option, Some, None, arith, bytes_eq, lit<}
use Rattle.std.specs.Prelude.{MatchOption, IfSome, IsTrue, String, string_bytes}
use Rattle.std.specs.List.{list_any, All}
use Rattle.std.specs.declared.alloc.Global.{Global}
use Rattle.std.proofs.lemmas.List.{length-append, map-append, length-map, take-append-drop, drop_more, take_more}
use Rattle.std.proofs.lemmas.List.Elements.{All-nil, All-push, All-cons, All-head, All-tail}
use Rattle.std.proofs.lemmas.Str.Pattern.{IsSplitOnceResult, split_parts}
use Rattle.map_words.specs.Names.{is_plain}
use Rattle.map_machine.specs.Pairs.{Pair, cut, pair_of, all_pairs, are_apart, pairs_of}
use Rattle.map_machine.specs.Words.{Form, of_files, model_files, files_of}
use Rattle.map_machine.proofs.WordsLemmas.{cut-none, cut-at}
use Rattle.map_machine.proofs.PairsLemmas.{is_named, all_pairs-more, apart_more, pairs_too_many, pairs_twice}
use Rattle.map_run.specs.Forms.{pair_read, pairs_read}
use Rattle.map_run.specs.declared.forms.Pair.{Pair as Read}
use denote.Ref.{Bor}

pub cut_once : (bytes : List ℕ) (parts : Option (Bor (List ℕ) × Bor (List ℕ))) → IsSplitOnceResult 61 bytes parts
    → MatchOption parts (cut bytes ≡ None) (λ x. cut bytes ≡ Some (record { name = x.0.now; file = x.1.now }))
cut_once bytes None is = cut-none bytes (split_parts 61 bytes None is (lit< tt))
cut_once bytes (Some x) is =
    let parts = split_parts 61 bytes (Some x) is (lit< tt) in
    ap cut parts.0 ∙ cut-at x.0.now x.1.now parts.1

-- one of the pairs that were read has this name
abbrev pub is_read : List Read → List ℕ → Bool
is_read ps n = list_any (λ (p : Read). bytes_eq p.name.now n) ps

named_read : (ps : List Read) (n : List ℕ) → is_named (pairs_read ps) n ≡ is_read ps n
named_read [] n = refl
named_read (p ∷ ps) n = ap (λ t. bytes_eq p.name.now n || t) (named_read ps n)

-- these are the pairs of the words so far
pub record ReadSoFar (taken : List (String Global)) (ps : List Read) : Type 0 where
  pub read : all_pairs taken ≡ Some (pairs_read ps)
  pub apart : are_apart (pairs_read ps) ≡ true
  pub few : length ps ≤ 32
  pub plain : All (λ (p : Read). IsTrue (is_plain p.name.now)) ps

pub read_more : (taken : List (String Global)) (w : String Global) (ps : List Read) (p : Read) → ReadSoFar taken ps → pair_of (string_bytes w) ≡ Some (pair_read p)
    → IsTrue (is_plain p.name.now) → length ps < 32 → is_read ps p.name.now ≡ false → ReadSoFar (taken ++ w ∷ []) (ps ++ p ∷ [])
read_more taken w ps p so is plain room new' =
    let all : pairs_read (ps ++ p ∷ []) ≡ pairs_read ps ++ pair_read p ∷ [] = map-append pair_read ps (p ∷ []) in
    record {
      read = all_pairs-more taken w (pairs_read ps) (pair_read p) so.read is ∙ ap Some (sym all);
      apart = ap are_apart all ∙ apart_more (pairs_read ps) (pair_read p) so.apart (named_read ps p.name.now ∙ new');
      few = omega (arith, length-append ps (p ∷ []));
      plain = All-push (λ (q : Read). IsTrue (is_plain q.name.now)) ps p so.plain plain;
    }

-- the words, about one of them
pub words_at : (ws : List (String Global)) (i : ℕ) (w : String Global) → i < length ws → w ≡ get_or ws i w → take i ws ++ w ∷ drop (i + 1) ws ≡ ws
words_at ws i w within is = ap (λ x. take i ws ++ x ∷ drop (i + 1) ws) is ∙ ap (λ l. take i ws ++ l) (sym (drop_more ws i w within)) ∙ take-append-drop i ws

pub words_to : (ws : List (String Global)) (i : ℕ) (w : String Global) → i < length ws → w ≡ get_or ws i w → take i ws ++ w ∷ [] ≡ take (i + 1) ws
words_to ws i w within is = ap (λ x. take i ws ++ x ∷ []) is ∙ sym (take_more ws i w within)

pub read_full : (taken more : List (String Global)) (w : String Global) (ps : List Read) (p : Read) → ReadSoFar taken ps → pair_of (string_bytes w) ≡ Some (pair_read p)
    → 32 ≤ length ps → pairs_of (all_pairs (taken ++ w ∷ more)) ≡ None
read_full taken more w ps p so is full = pairs_too_many taken more w (pairs_read ps) (pair_read p) so.read is (omega (arith, length-map ps pair_read))

pub read_twice : (taken more : List (String Global)) (w : String Global) (ps : List Read) (p : Read) → ReadSoFar taken ps → pair_of (string_bytes w) ≡ Some (pair_read p)
    → is_read ps p.name.now ≡ true → pairs_of (all_pairs (taken ++ w ∷ more)) ≡ None
read_twice taken more w ps p so is named = pairs_twice taken more w (pairs_read ps) (pair_read p) so.read is (named_read ps p.name.now ∙ named)

-- where every file of a form is served, those of its pairs are, and its model file
pub pairs_served : (serves : List ℕ → Bool) (model : Option (List ℕ)) (ps : List Read) → All (λ f. IsTrue (serves f)) (files_of (of_files model (pairs_read ps)))
    → All (λ (q : Read). IsTrue (serves q.file.now)) ps
pairs_served serves model [] all = All-nil (λ (q : Read). IsTrue (serves q.file.now))
pairs_served serves model (p ∷ ps) all =
    let rest = map (λ (q : Pair). q.file) (pairs_read ps) ++ model_files model in
    All-cons (λ (q : Read). IsTrue (serves q.file.now)) p ps (All-head (λ f. IsTrue (serves f)) p.file.now rest all)
    (pairs_served serves model ps (All-tail (λ f. IsTrue (serves f)) p.file.now rest all))

pub model_served : (serves : List ℕ → Bool) (file : List ℕ) (ps : List Read) → All (λ f. IsTrue (serves f)) (files_of (of_files (Some file) (pairs_read ps))) → IsTrue (serves file)
model_served serves file [] all = All-head (λ f. IsTrue (serves f)) file [] all
model_served serves file (p ∷ ps) all =
    model_served serves file ps (All-tail (λ f. IsTrue (serves f)) p.file.now (map (λ (q : Pair). q.file) (pairs_read ps) ++ model_files (Some file)) all)

-- where every file is served
pub all_served : (o : Option Form) → IfSome o (λ form. All (λ (f : List ℕ). IsTrue true) (files_of form))
all_served None = tt
all_served (Some form) = λ k d within. refl
