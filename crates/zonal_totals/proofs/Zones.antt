-- The entries of a zone, and its statistic.
use Rattle.std.proofs.Common.{◌≡◌, inl, inr, ℕ, suc, ◌+◌, ◌-◌, ◌<◌, ◌≤◌, Bool, true, false, cond, List, [], ◌∷◌, ◌++◌, length, get_or, take, drop, refl, sym, ◌∙◌, ap, subst, arith, ℤ, pos, ◌<ℤ◌, ◌≤ℤ◌, ◌+ℤ◌, ◌*ℤ◌}
use Rattle.std.specs.Prelude.{filter}
use Rattle.std.specs.Ordering.{int_eq}
use Rattle.std.proofs.lemmas.Int.{ints, by_lt_z}
use Rattle.std.proofs.lemmas.Bool.{cases_lt}
use Rattle.std.proofs.lemmas.Bool.Decides.{Decides-int_eq}
use Rattle.std.proofs.lemmas.List.{append-nil, take-append-drop, get_or-take, get_or-drop, length-take-le, length-drop, drop-drop}
use Rattle.std.proofs.lemmas.List.Elements.{filter-append}
use Rattle.map_nums.specs.declared.Stat.{Stat}
use Rattle.map_nums.specs.Grids.{Cells, places}
use Rattle.map_nums.specs.Stats.{statistic_of}
use Rattle.map_nums.proofs.Ascending.{differs}
use Rattle.map_nums.proofs.Reorders.{statistic_of-permutation}
use Rattle.map_defs.specs.Zonal.{zone_numbers, zone_statistic}
use Rattle.zonal_totals.specs.declared.pairs.Pair.{Pair}
use Rattle.zonal_totals.specs.declared.entries.Entry.{Entry}
use Rattle.zonal_totals.specs.Pairs.{rank, floor, least_word, greatest_word, IsShort}
use Rattle.zonal_totals.specs.Entries.{Climbs}
use Rattle.zonal_totals.specs.Numbers.{numbers, part_of, KeysClimb}
use Rattle.zonal_totals.specs.Books.{BookState, IsBookOf}
use Rattle.zonal_totals.proofs.Climbing.{short_of}
use Rattle.zonal_totals.proofs.Bags.{same_bag, part_counts, cells_count}

abbrev pair_of : ℤ → ℤ → Pair
pair_of z k = record { zone = z; key = k }

-- ---- order

order_by : (z r k : ℤ) (e : Entry) (es : List Entry) → Climbs r (e ∷ es) → ((x : ℤ) → IsShort (pair_of z x) → r <ℤ rank (pair_of z x) → k <ℤ x)
    → ((k' : ℤ) → ((x : ℤ) → IsShort (pair_of z x) → rank e.pair <ℤ rank (pair_of z x) → k' <ℤ x) → KeysClimb k' (part_of z es)) → (b : Bool) → int_eq e.pair.zone z ≡ b → KeysClimb k (cond b (e ∷ part_of z es) (part_of z es))
order_by z r k e es c h go true q =
    let same : e.pair.zone ≡ z = (Decides-int_eq e.pair.zone z).0 q in
    let s : IsShort (pair_of z e.pair.key) = record { low_zone = omega (arith, ints, c.2.low_zone, same); high_zone = omega (arith, ints, c.2.high_zone, same); low_key = c.2.low_key; high_key = c.2.high_key } in
    let up : rank e.pair ≡ rank (pair_of z e.pair.key) = ap (λ x. (x *ℤ pos 18446744073709551616) +ℤ e.pair.key) same in
    (h e.pair.key s (omega (arith, ints, c.0, up)), c.1, go e.pair.key (λ x t l. omega (arith, ints, l, up)))
order_by z r k e es c h go false q = go k (λ x t l. h x t (omega (arith, ints, c.0, l)))

part_order : (z r k : ℤ) (es : List Entry) → Climbs r es → ((x : ℤ) → IsShort (pair_of z x) → r <ℤ rank (pair_of z x) → k <ℤ x) → KeysClimb k (part_of z es)
part_order z r k [] c h = tt
part_order z r k (e ∷ es) c h = order_by z r k e es c h (λ k' h'. part_order z (rank e.pair) k' es c.3 h') (int_eq e.pair.zone z) refl

pub part_climbs : (z : ℤ) (es : List Entry) → Climbs floor es → KeysClimb floor (part_of z es)
part_climbs z es c = part_order z floor floor es c (λ x t l. omega (arith, ints, t.low_key))

-- ---- the slice of a zone

filter_none : (p : Entry → Bool) (es : List Entry) → ((i : ℕ) (d : Entry) → i < length es → p (get_or es i d) ≡ false) → filter p es ≡ []
filter_none p [] h = refl
filter_none p (e ∷ es) h = let a : p e ≡ false = h 0 e (omega arith) in rw (a) (filter_none p es (λ i d l. h (suc i) d (omega arith)))

filter_all : (p : Entry → Bool) (es : List Entry) → ((i : ℕ) (d : Entry) → i < length es → p (get_or es i d) ≡ true) → filter p es ≡ es
filter_all p [] h = refl
filter_all p (e ∷ es) h = let a : p e ≡ true = h 0 e (omega arith) in rw (a) (ap (λ l. e ∷ l) (filter_all p es (λ i d l. h (suc i) d (omega arith))))

-- the entries from the first pair of a zone to its last
module _ (es : List Entry) (z : ℤ) (low high : ℕ) (c : Climbs floor es) (order : low ≤ high) (within : high ≤ length es)
    (below : (i : ℕ) (d : Entry) → i < low → rank (get_or es i d).pair <ℤ rank (pair_of z least_word))
    (from : (i : ℕ) (d : Entry) → low ≤ i → i < length es → rank (pair_of z least_word) ≤ℤ rank (get_or es i d).pair)
    (to : (i : ℕ) (d : Entry) → i < high → rank (get_or es i d).pair ≤ℤ rank (pair_of z greatest_word))
    (above : (i : ℕ) (d : Entry) → high ≤ i → i < length es → rank (pair_of z greatest_word) <ℤ rank (get_or es i d).pair) where
  abbrev test : Entry → Bool
  test e = int_eq e.pair.zone z

  abbrev middle : List Entry
  middle = take (high - low) (drop low es)

  abbrev back : List Entry
  back = drop (high - low) (drop low es)

  front_none : filter test (take low es) ≡ []
  front_none = filter_none test (take low es) (λ i d h.
      let i' : i < low = omega (arith, length-take-le low es (omega arith)) in
      let e = get_or es i d in
      let s = short_of floor es i d c (omega arith) in
      let b = below i d i' in
      rw (get_or-take low es i d i') (differs e.pair.zone z (λ q. omega (arith, ints, b, s.low_key, q))))

  middle_all : filter test middle ≡ middle
  middle_all = filter_all test middle (λ i d h.
      let n : length (drop low es) ≡ length es - low = length-drop low es in
      let i' : i < high - low = omega (arith, length-take-le (high - low) (drop low es) (omega arith)) in
      let e = get_or es (low + i) d in
      let s = short_of floor es (low + i) d c (omega arith) in
      let f = from (low + i) d (omega arith) (omega arith) in
      let t = to (low + i) d (omega arith) in
      rw (get_or-take (high - low) (drop low es) i d i', get_or-drop low es i d)
      ((Decides-int_eq e.pair.zone z).1 (by_lt_z e.pair.zone z (λ l. absurd (omega (arith, ints, f, s.low_key, s.high_key))) (λ l. by_lt_z z e.pair.zone (λ m. absurd (omega (arith, ints, t, s.low_key, s.high_key))) (λ m. omega (arith, ints))))))

  back_is : back ≡ drop high es
  back_is = drop-drop (high - low) low es ∙ ap (λ n. drop n es) (omega arith)

  back_none : filter test back ≡ []
  back_none = ap (filter test) back_is ∙ filter_none test (drop high es) (λ i d h.
      let i' : high + i < length es = omega (arith, length-drop high es) in
      let e = get_or es (high + i) d in
      let s = short_of floor es (high + i) d c i' in
      let b = above (high + i) d (omega arith) i' in
      rw (get_or-drop high es i d) (differs e.pair.zone z (λ q. omega (arith, ints, b, s.high_key, q))))

  pub zone_slice : middle ≡ part_of z es
  zone_slice =
      sym (ap (filter test) (sym (take-append-drop low es))
      ∙ filter-append test (take low es) (drop low es)
      ∙ ap (λ (l : List Entry). l ++ filter test (drop low es)) front_none
      ∙ ap (filter test) (sym (take-append-drop (high - low) (drop low es)))
      ∙ filter-append test middle back
      ∙ ap (λ (l : List Entry). filter test middle ++ l) back_none
      ∙ append-nil (filter test middle)
      ∙ middle_all)

pub bounds_order : (es : List Entry) (z : ℤ) (low high : ℕ) → low ≤ length es → ((i : ℕ) (d : Entry) → i < low → rank (get_or es i d).pair <ℤ rank (pair_of z least_word))
    → ((i : ℕ) (d : Entry) → high ≤ i → i < length es → rank (pair_of z greatest_word) <ℤ rank (get_or es i d).pair) → low ≤ high
bounds_order es z low high l below above =
    elim (cases_lt high low) [
      | inl h ↦ let d : Entry = record { pair = pair_of z (pos 0); count = 0 } in absurd (omega (arith, ints, below high d h, above high d (omega arith) (omega arith)))
      | inr h ↦ h
    ]

-- ---- the statistic

pub book_statistic : (stat : Stat) (b : BookState) (values zones : Cells) (z : ℤ) → IsBookOf b values zones → statistic_of stat (numbers (part_of z b.values)) ≡ zone_statistic stat b.size values zones z
unfolding zone_numbers
book_statistic stat b values zones z h =
    statistic_of-permutation stat (numbers (part_of z b.values)) (zone_numbers b.size values zones z)
    (same_bag (numbers (part_of z b.values)) (zone_numbers b.size values zones z) (λ k. part_counts b.values (pair_of z k) ∙ h.value_counts (pair_of z k) ∙ sym (cells_count values zones (pair_of z k) (places b.size))))

pub part_statistic : (stat : Stat) (b b' : BookState) (values zones : Cells) (z z' : ℤ) (part : List Entry) → b ≡ b' → z' ≡ z → part ≡ part_of z' b.values → IsBookOf b' values zones → statistic_of stat (numbers part) ≡ zone_statistic stat b'.size values zones z
part_statistic stat b b' values zones z z' part same zone is =
    let P : BookState → Type 0 = λ x. IsBookOf x values zones → statistic_of stat (numbers part) ≡ zone_statistic stat x.size values zones z in
    subst P same (λ h. ap (λ (l : List Entry). statistic_of stat (numbers l)) (is ∙ ap (λ (x : ℤ). part_of x b.values) zone) ∙ book_statistic stat b values zones z h)
