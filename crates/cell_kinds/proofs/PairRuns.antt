-- In a list of pairs in order the runs are the pairs that occur; and the order of a list does not matter to these.
use Rattle.std.proofs.Common.{◌≡◌, ℕ, suc, ◌+◌, ◌<◌, Bool, true, false, List, [], ◌∷◌, length, get_or, map, refl, sym, ◌∙◌, ap, arith, ℤ, negsuc, ◌≤ℤ◌, Option, Some, None, IsPermutation, All, subst, zero, ◌*ℤ◌, ◌+ℤ◌, pos}
use Rattle.std.specs.Prelude.{◌&&◌}
use Rattle.std.specs.List.{flat_map}
use Rattle.std.specs.List.Sorted.{IsSortedBy}
use Rattle.std.specs.Ordering.{int_cmp, is_lt}
use Rattle.std.proofs.lemmas.Int.{ints}
use Rattle.std.proofs.lemmas.List.Elements.{All-nil, All-cons, All-head, All-tail}
use Rattle.std.proofs.lemmas.List.Sorted.{All-permutation, IsPermutation-cons, IsPermutation-refl, IsPermutation-map, IsPermutation-middle, IsPermutation-trans}
use Rattle.map_nums.specs.Grids.{Cells}
use Rattle.map_nums.proofs.Exchanges.{along_permutation}
use Rattle.map_defs.specs.Cells.{same_cell}
use Rattle.map_defs.specs.Kinds.{Pair as Crossed, kinds_of, values_in, pairs_with, pairs_of}
use Rattle.layer_tiles.specs.Cells.{IsCell, AreCells, word_of, null_word}
use Rattle.cell_kinds.specs.declared.combinations.Pair.{Pair}
use Rattle.cell_kinds.specs.declared.combinations.Combination.{Combination}
use Rattle.cell_kinds.specs.Counted.{same_pair, rank, combination_from, combination_of, counted_pairs}
use Rattle.cell_kinds.specs.Runs.{put_front, runs_of}
use Rattle.cell_kinds.proofs.Compared.{IsUpTo, cell_is, cell_itself}
use Rattle.cell_kinds.proofs.KindLists.{IsUpToAll, kinds_of-permutation}
use Rattle.cell_kinds.proofs.Counting.{told, told-permutation}
use Rattle.cell_kinds.proofs.Ascending.{not_less, sorted_tail, up_to_from_words, InRange, in_range_from_cells}
use Rattle.cell_kinds.proofs.PairLists.{crossed, by_told, put_pair, values_here, values_elsewhere, pairs_by, pairs_of-cons}

abbrev pub zones_of : List Pair → Cells
zones_of ps = map (λ (p : Pair). p.zone) ps

abbrev pub values_of : List Pair → Cells
values_of ps = map (λ (p : Pair). p.value) ps

abbrev pub occurring : List Pair → List Crossed
occurring ps = pairs_of (zones_of ps) (values_of ps)

-- ---- runs

front_crossed : (p : Pair) (es : List (Pair × ℕ)) (ps : List Crossed) → map combination_from es ≡ map combination_of ps → map combination_from (put_front same_pair p es) ≡ map combination_of (put_pair p.zone p.value ps)
front_crossed p [] [] h = refl
front_crossed p [] (q ∷ qs) h = absurd (cc)
front_crossed p (e ∷ es) [] h = absurd (cc)
front_crossed p (e ∷ es) (q ∷ qs) h = by_test (same_pair p e.0) refl
  where
    heads : combination_from e ≡ combination_of q
    heads = cc

    zone_is : e.0.zone ≡ q.zone
    zone_is = ap (λ (c : Combination). c.zone) heads

    value_is : e.0.value ≡ q.value
    value_is = ap (λ (c : Combination). c.value) heads

    count_is : e.1 ≡ q.count
    count_is = ap (λ (c : Combination). c.count) heads

    rest_is : map combination_from es ≡ map combination_of qs
    rest_is = cc

    test_is : same_pair p e.0 ≡ (same_cell p.zone q.zone && same_cell p.value q.value)
    test_is = ap (λ (z : Option ℤ). same_cell p.zone z && same_cell p.value e.0.value) zone_is ∙ ap (λ (v : Option ℤ). same_cell p.zone q.zone && same_cell p.value v) value_is

    by_test : (b : Bool) → same_pair p e.0 ≡ b → map combination_from (put_front same_pair p (e ∷ es)) ≡ map combination_of (put_pair p.zone p.value (q ∷ qs))
    by_test true t = let u : (same_cell p.zone q.zone && same_cell p.value q.value) ≡ true = sym test_is ∙ t in rw (t, u, rest_is, count_is) refl
    by_test false t = let u : (same_cell p.zone q.zone && same_cell p.value q.value) ≡ false = sym test_is ∙ t in rw (t, u) (ap (λ (l : List Combination). record { zone = p.zone; value = p.value; count = 1 } ∷ l) h)

-- p is not above q: by zone, then by value
abbrev pub IsPairUpTo : Pair → Pair → Type 0
IsPairUpTo p q = IsUpTo p.zone q.zone × (same_cell p.zone q.zone ≡ true → IsUpTo p.value q.value)

abbrev pub IsPairUpToAll : Pair → List Pair → Type 0
IsPairUpToAll p [] = Unit {0}
IsPairUpToAll p (q ∷ qs) = IsPairUpTo p q × IsPairUpToAll p qs

abbrev pub PairsRise : List Pair → Type 0
PairsRise [] = Unit {0}
PairsRise (p ∷ ps) = IsPairUpToAll p ps × PairsRise ps

zones_up_to : (p : Pair) (ps : List Pair) → IsPairUpToAll p ps → IsUpToAll p.zone (zones_of ps)
zones_up_to p [] h = tt
zones_up_to p (q ∷ qs) h = (h.0.0, zones_up_to p qs h.1)

values_up_to : (p : Pair) (ps : List Pair) → IsPairUpToAll p ps → IsUpToAll p.value (values_in (zones_of ps) (values_of ps) p.zone)
values_up_to p [] h = tt
values_up_to p (q ∷ qs) h = by_test (same_cell p.zone q.zone) refl (values_up_to p qs h.1)
  where
    by_test : (b : Bool) → same_cell p.zone q.zone ≡ b → IsUpToAll p.value (values_in (zones_of qs) (values_of qs) p.zone) → IsUpToAll p.value (values_in (zones_of (q ∷ qs)) (values_of (q ∷ qs)) p.zone)
    by_test true e rest = rw (values_here q.zone q.value (zones_of qs) (values_of qs) p.zone e) (h.0.1 e, rest)
    by_test false e rest = rw (values_elsewhere q.zone q.value (zones_of qs) (values_of qs) p.zone e) rest

pub runs_occur : (ps : List Pair) → PairsRise ps → map combination_from (runs_of same_pair ps) ≡ map combination_of (occurring ps)
runs_occur [] h = refl
runs_occur (p ∷ ps) h =
    front_crossed p (runs_of same_pair ps) (occurring ps) (runs_occur ps h.1)
    ∙ ap (λ (l : List Crossed). map combination_of l) (sym (pairs_of-cons p.zone p.value (zones_of ps) (values_of ps) (values_up_to p ps h.0) (zones_up_to p ps h.0)))

-- ---- order

abbrev pub PairsInRange : List Pair → Type 0
PairsInRange [] = Unit {0}
PairsInRange (p ∷ ps) = IsCell p.zone × IsCell p.value × PairsInRange ps

-- a number that stands for a cell
record IsWord (w : ℤ) : Type 0 where
  pub low : negsuc 9223372036854775807 ≤ℤ w
  pub high : w ≤ℤ pos 9223372036854775807

word_there : (c : Option ℤ) → IsCell c → IsWord (word_of c)
word_there None h = record { low = omega (arith, ints); high = omega (arith, ints) }
word_there (Some z) h = record { low = grind (arith, ints); high = grind (arith, ints) }

words_in_order : (a b c d : ℤ) → IsWord a → IsWord b → IsWord c → IsWord d → ((a *ℤ pos 18446744073709551616) +ℤ b) ≤ℤ ((c *ℤ pos 18446744073709551616) +ℤ d) → a ≤ℤ c
words_in_order a b c d h k l m e = omega (arith, ints, h.low, h.high, k.low, k.high, l.low, l.high, m.low, m.high)

later_words : (a b d : ℤ) → ((a *ℤ pos 18446744073709551616) +ℤ b) ≤ℤ ((a *ℤ pos 18446744073709551616) +ℤ d) → b ≤ℤ d
later_words a b d e = omega (arith, ints)

pair_up_to : (p q : Pair) → IsCell p.zone → IsCell p.value → IsCell q.zone → IsCell q.value → rank p ≤ℤ rank q → IsPairUpTo p q
pair_up_to p q a b c d l = (
  up_to_from_words p.zone q.zone a c (words_in_order (word_of p.zone) (word_of p.value) (word_of q.zone) (word_of q.value) (word_there p.zone a) (word_there p.value b) (word_there q.zone c) (word_there q.value d) l),
  λ e. up_to_from_words p.value q.value b d (later_words (word_of q.zone) (word_of p.value) (word_of q.value) (rw (cell_is p.zone q.zone e) at l)),
)

pairs_up_to_all : (p : Pair) (ps : List Pair) → IsCell p.zone → IsCell p.value → PairsInRange ps → ((k : ℕ) (d : Pair) → k < length ps → rank p ≤ℤ rank (get_or ps k d)) → IsPairUpToAll p ps
pairs_up_to_all p [] a b h l = tt
pairs_up_to_all p (q ∷ qs) a b h l = (pair_up_to p q a b h.0 h.1 (l 0 q (omega arith)), pairs_up_to_all p qs a b h.2 (λ k d m. l (suc k) d (omega arith)))

lowest : (p : Pair) (ps : List Pair) → ((k : ℕ) (d : Pair) → k + 1 < length (p ∷ ps) → rank (get_or (p ∷ ps) k d) ≤ℤ rank (get_or (p ∷ ps) (k + 1) d)) → (k : ℕ) (d : Pair) → k < length ps → rank p ≤ℤ rank (get_or ps k d)
lowest p ps h zero d l = h 0 d (omega arith)
lowest p ps h (suc k) d l =
    let e : suc k + 1 ≡ suc (k + 1) = omega arith in
    let next : rank (get_or ps k d) ≤ℤ rank (get_or ps (k + 1) d) = subst (λ (n : ℕ). rank (get_or ps k d) ≤ℤ rank (get_or (p ∷ ps) n d)) e (h (suc k) d (omega arith)) in
    let f : suc k ≡ k + 1 = omega arith in
    subst (λ (n : ℕ). rank p ≤ℤ rank (get_or ps n d)) (sym f) (omega (arith, ints, lowest p ps h k d (omega arith), next))

pub pairs_rise : (ps : List Pair) → PairsInRange ps → IsSortedBy (λ (a b : Pair). is_lt (int_cmp (rank a) (rank b))) ps → PairsRise ps
pairs_rise [] h s = tt
pairs_rise (p ∷ ps) h s = (
  pairs_up_to_all p ps h.0 h.1 h.2 (lowest p ps (λ k d l. not_less _ _ (s k d (omega arith) l))),
  pairs_rise ps h.2 (sorted_tail (λ (a b : Pair). is_lt (int_cmp (rank a) (rank b))) p ps s),
)

-- ---- in another order

values_turned : (x y : Pair) (ps : List Pair) (c : Option ℤ) → IsPermutation (values_in (zones_of (x ∷ y ∷ ps)) (values_of (x ∷ y ∷ ps)) c) (values_in (zones_of (y ∷ x ∷ ps)) (values_of (y ∷ x ∷ ps)) c)
values_turned x y ps c = by_tests (same_cell c x.zone) (same_cell c y.zone) refl refl
  where
    by_tests : (a b : Bool) → same_cell c x.zone ≡ a → same_cell c y.zone ≡ b → IsPermutation (values_in (zones_of (x ∷ y ∷ ps)) (values_of (x ∷ y ∷ ps)) c) (values_in (zones_of (y ∷ x ∷ ps)) (values_of (y ∷ x ∷ ps)) c)
    by_tests true true e f = rw (e, f) (IsPermutation-middle (x.value ∷ []) y.value (values_in (zones_of ps) (values_of ps) c))
    by_tests true false e f = rw (e, f) (IsPermutation-refl (x.value ∷ values_in (zones_of ps) (values_of ps) c))
    by_tests false true e f = rw (e, f) (IsPermutation-refl (y.value ∷ values_in (zones_of ps) (values_of ps) c))
    by_tests false false e f = rw (e, f) (IsPermutation-refl (values_in (zones_of ps) (values_of ps) c))

values_under : (x : Pair) (ps qs : List Pair) (c : Option ℤ) → IsPermutation (values_in (zones_of ps) (values_of ps) c) (values_in (zones_of qs) (values_of qs) c) → IsPermutation (values_in (zones_of (x ∷ ps)) (values_of (x ∷ ps)) c) (values_in (zones_of (x ∷ qs)) (values_of (x ∷ qs)) c)
values_under x ps qs c h = by_test (same_cell c x.zone) refl
  where
    by_test : (b : Bool) → same_cell c x.zone ≡ b → IsPermutation (values_in (zones_of (x ∷ ps)) (values_of (x ∷ ps)) c) (values_in (zones_of (x ∷ qs)) (values_of (x ∷ qs)) c)
    by_test true e = rw e (IsPermutation-cons x.value _ _ h)
    by_test false e = rw e h

pub values_in-permutation : (ps qs : List Pair) → IsPermutation ps qs → (c : Option ℤ) → IsPermutation (values_in (zones_of ps) (values_of ps) c) (values_in (zones_of qs) (values_of qs) c)
values_in-permutation =
    along_permutation (λ (ps qs : List Pair). (c : Option ℤ) → IsPermutation (values_in (zones_of ps) (values_of ps) c) (values_in (zones_of qs) (values_of qs) c)) (λ ps c. IsPermutation-refl _) (λ x ps qs h c. values_under x ps qs c (h c)) (λ x y ps c. values_turned x y ps c) (λ ps qs rs h k c. IsPermutation-trans _ _ _ (h c) (k c))

pairs_by_told : (z : Option ℤ) (vs ws : Cells) → told vs ≡ told ws → pairs_by z vs ≡ pairs_by z ws
pairs_by_told z vs ws h = by_told z vs ∙ ap (λ (es : List (Option ℤ × ℕ)). map (crossed z) es) h ∙ sym (by_told z ws)

flat_agree : {X Y : Type 0} (f g : X → List Y) → ((x : X) → f x ≡ g x) → (xs : List X) → flat_map f xs ≡ flat_map g xs
flat_agree f g h [] = refl
flat_agree f g h (x ∷ xs) = rw (h x, flat_agree f g h xs) refl

pub occurring-permutation : (ps qs : List Pair) → IsPermutation ps qs → occurring ps ≡ occurring qs
occurring-permutation ps qs perm =
    flat_agree (pairs_with (zones_of ps) (values_of ps)) (pairs_with (zones_of qs) (values_of qs))
    (λ c. pairs_by_told c (values_in (zones_of ps) (values_of ps) c) (values_in (zones_of qs) (values_of qs) c) (told-permutation _ _ (values_in-permutation ps qs perm c)))
    (kinds_of (zones_of ps))
    ∙ ap (λ (ks : Cells). flat_map (pairs_with (zones_of qs) (values_of qs)) ks) (kinds_of-permutation (zones_of ps) (zones_of qs) (IsPermutation-map (λ (p : Pair). p.zone) ps qs perm))

-- ---- pairs that were put in order

abbrev IsInRange : Pair → Type 0
IsInRange p = IsCell p.zone × IsCell p.value

all_in_range : (ps : List Pair) → InRange (zones_of ps) → InRange (values_of ps) → All IsInRange ps
all_in_range [] h k = All-nil IsInRange
all_in_range (p ∷ ps) h k = All-cons IsInRange p ps (h.0, k.0) (all_in_range ps h.1 k.1)

in_range_from_all : (ps : List Pair) → All IsInRange ps → PairsInRange ps
in_range_from_all [] h = tt
in_range_from_all (p ∷ ps) h = let here = All-head IsInRange p ps h in (here.0, here.1, in_range_from_all ps (All-tail IsInRange p ps h))

pub sorted_pairs : (zones values : Cells) (pairs sorted : List Pair) → AreCells zones → AreCells values → zones_of pairs ≡ zones → values_of pairs ≡ values → IsPermutation pairs sorted → IsSortedBy (λ (a b : Pair). is_lt (int_cmp (rank a) (rank b))) sorted → map combination_from (runs_of same_pair sorted) ≡ counted_pairs zones values
sorted_pairs zones values pairs sorted a b e f perm s =
    let zones_there : InRange (zones_of pairs) = subst InRange (sym e) (in_range_from_cells zones a) in
    let values_there : InRange (values_of pairs) = subst InRange (sym f) (in_range_from_cells values b) in
    let range = in_range_from_all sorted (All-permutation IsInRange pairs sorted perm (all_in_range pairs zones_there values_there)) in
    runs_occur sorted (pairs_rise sorted range s)
    ∙ ap (λ (l : List Crossed). map combination_of l) (sym (occurring-permutation pairs sorted perm) ∙ ap (λ (z : Cells). pairs_of z (values_of pairs)) e ∙ ap (λ (v : Cells). pairs_of zones v) f)

-- ---- one pair and another

pub no_pair : Pair
no_pair = record { zone = None; value = None }

both : (b c : Bool) → (b && c) ≡ true → (b ≡ true) × (c ≡ true)
both true true e = (refl, refl)
both true false e = (refl, e)
both false c e = absurd (cc)

make_pair : Option ℤ → Option ℤ → Pair
make_pair z v = record { zone = z; value = v }

pub pair_is : (p q : Pair) → same_pair p q ≡ true → p ≡ q
unfolding make_pair
pair_is p q e =
    let b = both (same_cell p.zone q.zone) (same_cell p.value q.value) e in
    ap (λ (z : Option ℤ). make_pair z p.value) (cell_is p.zone q.zone b.0) ∙ ap (λ (v : Option ℤ). make_pair q.zone v) (cell_is p.value q.value b.1)

pub pair_itself : (p : Pair) → same_pair p p ≡ true
pair_itself p = rw (cell_itself p.zone, cell_itself p.value) refl
