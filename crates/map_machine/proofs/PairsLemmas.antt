-- How the pairs of words are read, word by word.
use Rattle.std.proofs.Common.{◌≡◌, ◌<◌, ◌≤◌, ℕ, Bool, true, false, not, ◌&&◌, ◌||◌, cond, List, [], ◌∷◌, ◌++◌, length, refl, sym, ap, ◌∙◌, Option, Some, None, arith, bytes_eq}
use Rattle.std.specs.Prelude.{nat_lt, nat_le, String, string_bytes}
use Rattle.std.specs.List.{list_any}
use Rattle.std.specs.declared.alloc.Global.{Global}
use Rattle.std.proofs.lemmas.Bool.{false_from_ne_true, lt-ltb, le-leb, lt-leb}
use Rattle.std.proofs.lemmas.List.{length-append}
use Rattle.std.proofs.lemmas.List.Folds.{list_any-append}
use Rattle.std.proofs.lemmas.Slice.Eq.{bytes_eq-Decides}
use Rattle.map_machine.specs.Pairs.{Pair, pair_of, with_pair, all_pairs, are_apart, pairs_of}

-- one of the pairs has this name
abbrev pub is_named : List Pair → List ℕ → Bool
is_named ps n = list_any (λ (q : Pair). bytes_eq q.name n) ps

-- ---- the pairs of a front of the words

abbrev pub on_front : List Pair → Option (List Pair) → Option (List Pair)
on_front ps None = None
on_front ps (Some qs) = Some (ps ++ qs)

on_none : (o : Option (List Pair)) → o ≡ on_front [] o
on_none None = refl
on_none (Some qs) = refl

with_none : (p : Option Pair) → with_pair p None ≡ None
with_none None = refl
with_none (Some p) = refl

with_front : (p : Pair) (ps : List Pair) (o : Option (List Pair)) → with_pair (Some p) (on_front ps o) ≡ on_front (p ∷ ps) o
with_front p ps None = refl
with_front p ps (Some qs) = refl

record Cut (x : Option Pair) (r : Option (List Pair)) (ps : List Pair) : Type 0 where
  head : Pair
  tail : List Pair
  head_is : x ≡ Some head
  tail_is : r ≡ Some tail
  whole : ps ≡ head ∷ tail

some_is : (ps qs : List Pair) → Some ps ≡ Some qs → qs ≡ ps
some_is ps qs e = cc

cut_of : (x : Option Pair) (r : Option (List Pair)) (ps : List Pair) → with_pair x r ≡ Some ps → Cut x r ps
cut_of None r ps e = absurd (cc)
cut_of (Some p) None ps e = absurd (cc)
cut_of (Some p) (Some qs) ps e = record { head = p; tail = qs; head_is = refl; tail_is = refl; whole = some_is (p ∷ qs) ps e }

pub all_pairs-front : (ws vs : List (String Global)) (ps : List Pair) → all_pairs ws ≡ Some ps → all_pairs (ws ++ vs) ≡ on_front ps (all_pairs vs)
all_pairs-front [] vs ps e = on_none (all_pairs vs) ∙ ap (λ l. on_front l (all_pairs vs)) (sym (some_is [] ps e))
all_pairs-front (w ∷ ws) vs ps e =
    let c = cut_of (pair_of (string_bytes w)) (all_pairs ws) ps e in
    ap (λ o. with_pair o (all_pairs (ws ++ vs))) c.head_is ∙ ap (with_pair (Some c.head)) (all_pairs-front ws vs c.tail c.tail_is)
    ∙ with_front c.head c.tail (all_pairs vs) ∙ ap (λ l. on_front l (all_pairs vs)) (sym c.whole)

pub all_pairs-more : (ws : List (String Global)) (w : String Global) (ps : List Pair) (p : Pair) → all_pairs ws ≡ Some ps → pair_of (string_bytes w) ≡ Some p
    → all_pairs (ws ++ w ∷ []) ≡ Some (ps ++ p ∷ [])
all_pairs-more ws w ps p e is = all_pairs-front ws (w ∷ []) ps e ∙ ap (λ o. on_front ps (with_pair o (Some []))) is

pub all_pairs-none : (ws vs : List (String Global)) (w : String Global) → pair_of (string_bytes w) ≡ None → all_pairs (ws ++ w ∷ vs) ≡ None
all_pairs-none [] vs w none = ap (λ p. with_pair p (all_pairs vs)) none
all_pairs-none (x ∷ ws) vs w none = ap (with_pair (pair_of (string_bytes x))) (all_pairs-none ws vs w none) ∙ with_none (pair_of (string_bytes x))

-- ---- distinct names

turned : (a b : List ℕ) → bytes_eq a b ≡ true → bytes_eq b a ≡ true
turned a b h = (bytes_eq-Decides b a).1 (sym ((bytes_eq-Decides a b).0 h))

turned_apart : (a b : List ℕ) → bytes_eq a b ≡ false → bytes_eq b a ≡ false
turned_apart a b h = false_from_ne_true (bytes_eq b a) (λ e. let t : bytes_eq a b ≡ true = turned b a e in cc)

and_false : (b c : Bool) → c ≡ false → (b && c) ≡ false
and_false true c e = e
and_false false c e = refl

both_true : (a b : Bool) → (not a && b) ≡ true → (a ≡ false) × (b ≡ true)
both_true true b e = absurd (cc)
both_true false b e = (refl, e)

both_false : (a b : Bool) → (a || b) ≡ false → (a ≡ false) × (b ≡ false)
both_false true b e = absurd (cc)
both_false false b e = (refl, e)

any_among : (f : Pair → Bool) (ps qs : List Pair) (p : Pair) → f p ≡ true → list_any f (ps ++ p ∷ qs) ≡ true
any_among f [] qs p h = rw h refl
any_among f (x ∷ ps) qs p h = elim (f x) as (λ t. (t || list_any f (ps ++ p ∷ qs)) ≡ true) [ true ↦ refl | false ↦ any_among f ps qs p h ]

pub apart_again : (ps qs : List Pair) (p : Pair) → is_named ps p.name ≡ true → are_apart (ps ++ p ∷ qs) ≡ false
apart_again [] qs p h = absurd (cc)
apart_again (x ∷ ps) qs p h = elim (bytes_eq x.name p.name) as (λ t. bytes_eq x.name p.name ≡ t → (t || is_named ps p.name) ≡ true
    → (not (list_any (λ (q : Pair). bytes_eq q.name x.name) (ps ++ p ∷ qs)) && are_apart (ps ++ p ∷ qs)) ≡ false) [
      | true ↦ λ e _. rw (any_among (λ (q : Pair). bytes_eq q.name x.name) ps qs p (turned x.name p.name e)) refl
      | false ↦ λ _ g. and_false (not (list_any (λ (q : Pair). bytes_eq q.name x.name) (ps ++ p ∷ qs))) (are_apart (ps ++ p ∷ qs)) (apart_again ps qs p g)
    ] refl h

pub apart_more : (ps : List Pair) (p : Pair) → are_apart ps ≡ true → is_named ps p.name ≡ false → are_apart (ps ++ p ∷ []) ≡ true
apart_more [] p a h = refl
apart_more (x ∷ ps) p a h =
    let f : Pair → Bool = λ (q : Pair). bytes_eq q.name x.name in
    let now = both_true (list_any f ps) (are_apart ps) a in
    let then' = both_false (bytes_eq x.name p.name) (is_named ps p.name) h in
    rw (list_any-append f ps (p ∷ []), now.0, turned_apart x.name p.name then'.0, apart_more ps p now.1 then'.1) refl

-- ---- how many, and of which names

chosen : (a b c : Bool) (ps : List Pair) → a ≡ true → b ≡ true → c ≡ true → cond (a && b && c) (Some ps) None ≡ Some ps
chosen a b c ps e f g = rw (e, f, g) refl

none_by_count : (a b c : Bool) (ps : List Pair) → b ≡ false → cond (a && b && c) (Some ps) None ≡ None
none_by_count true true c ps e = absurd (cc)
none_by_count true false c ps e = refl
none_by_count false b c ps e = refl

none_by_name : (a b c : Bool) (ps : List Pair) → c ≡ false → cond (a && b && c) (Some ps) None ≡ None
none_by_name true true true ps e = absurd (cc)
none_by_name true true false ps e = refl
none_by_name true false c ps e = refl
none_by_name false b c ps e = refl

pub pairs_good : (ps : List Pair) → 0 < length ps → length ps ≤ 32 → are_apart ps ≡ true → pairs_of (Some ps) ≡ Some ps
pairs_good ps some most apart = chosen _ _ _ ps (lt-ltb 0 (length ps) some) (le-leb (length ps) 32 most) apart

many : (ps : List Pair) (p : Pair) → 32 ≤ length ps → (o : Option (List Pair)) → pairs_of (on_front ps (with_pair (Some p) o)) ≡ None
many ps p full None = refl
many ps p full (Some qs) = none_by_count _ _ _ (ps ++ p ∷ qs) (lt-leb (length (ps ++ p ∷ qs)) 32 (omega (arith, length-append ps (p ∷ qs))))

again : (ps : List Pair) (p : Pair) → is_named ps p.name ≡ true → (o : Option (List Pair)) → pairs_of (on_front ps (with_pair (Some p) o)) ≡ None
again ps p named None = refl
again ps p named (Some qs) =
    let all = ps ++ p ∷ qs in
    none_by_name (nat_lt 0 (length all)) (nat_le (length all) 32) (are_apart all) all (apart_again ps qs p named)

pub pairs_wrong_word : (ws vs : List (String Global)) (w : String Global) → pair_of (string_bytes w) ≡ None → pairs_of (all_pairs (ws ++ w ∷ vs)) ≡ None
pairs_wrong_word ws vs w none = ap pairs_of (all_pairs-none ws vs w none)

pub pairs_too_many : (ws vs : List (String Global)) (w : String Global) (ps : List Pair) (p : Pair) → all_pairs ws ≡ Some ps → pair_of (string_bytes w) ≡ Some p
    → 32 ≤ length ps → pairs_of (all_pairs (ws ++ w ∷ vs)) ≡ None
pairs_too_many ws vs w ps p e is full = ap pairs_of (all_pairs-front ws (w ∷ vs) ps e ∙ ap (λ o. on_front ps (with_pair o (all_pairs vs))) is) ∙ many ps p full (all_pairs vs)

pub pairs_twice : (ws vs : List (String Global)) (w : String Global) (ps : List Pair) (p : Pair) → all_pairs ws ≡ Some ps → pair_of (string_bytes w) ≡ Some p
    → is_named ps p.name ≡ true → pairs_of (all_pairs (ws ++ w ∷ vs)) ≡ None
pairs_twice ws vs w ps p e is named = ap pairs_of (all_pairs-front ws (w ∷ vs) ps e ∙ ap (λ o. on_front ps (with_pair o (all_pairs vs))) is) ∙ again ps p named (all_pairs vs)
