-- The tiles of a zone are the keys of its entries.
use Rattle.std.proofs.Common.{◌≡◌, ℕ, zero, suc, ◌+◌, ◌<◌, ◌^◌, Bool, true, false, cond, ◌&&◌, List, [], ◌∷◌, length, get_or, map, slice_get, Option, Some, None, Contains, refl, sym, ◌∙◌, ap, subst, arith, ℤ, pos, negsuc, ◌<ℤ◌}
use Rattle.std.specs.Prelude.{count_by, nat_lt}
use Rattle.std.specs.Ordering.{int_eq}
use Rattle.std.proofs.lemmas.Int.{ints}
use Rattle.std.proofs.lemmas.Bool.Decides.{Decides-int_eq, nat_tests}
use Rattle.std.proofs.lemmas.List.FromFn.{get_or-range_with_len, length-range_with_len}
use Rattle.std.proofs.lemmas.List.Sums.{sum_by-cons}
use Rattle.map_nums.specs.Grids.{Size, Cells, cells_in, cell_at, places, IsSize}
use Rattle.map_nums.specs.Stats.{occurrences}
use Rattle.map_nums.proofs.Picks.{count_by-cons}
use Rattle.map_defs.specs.Cells.{has_number}
use Rattle.layer_tiles.specs.Tiles.{tile_of}
use Rattle.layer_tiles.proofs.Rounds.{back}
use Rattle.zonal_totals.specs.declared.pairs.Pair.{Pair}
use Rattle.zonal_totals.specs.declared.entries.Entry.{Entry}
use Rattle.zonal_totals.specs.Pairs.{floor}
use Rattle.zonal_totals.specs.Numbers.{numbers, part_of, KeysClimb}
use Rattle.zonal_totals.specs.Books.{BookState, IsBookOf, has_pair, pairs_in, tile_number}
use Rattle.zonal_totals.specs.TileKeys.{natural, tile_at}
use Rattle.zonal_totals.specs.Tilings.{HasZone, IsZoneTile}
use Rattle.zonal_totals.proofs.Bags.{there, part_counts}
use Rattle.zonal_totals.proofs.Drafting.{few_tiles}
use Rattle.zonal_totals.proofs.Numbers.{numbers_from, numbers_have}

-- ---- what is counted is there

count_first : (q : ℕ → Bool) (i : ℕ) (is : List ℕ) → count_by q (i ∷ is) ≡ cond (q i) 1 0 + count_by q is
count_first q i is = sum_by-cons (λ j. cond (q j) 1 0) i is

abbrev Passes : (ℕ → Bool) → List ℕ → Type 0
Passes q is = (k : ℕ) × (k < length is) × (q (get_or is k 0) ≡ true)

some_by : (q : ℕ → Bool) (i : ℕ) (is : List ℕ) (b : Bool) → q i ≡ b → (0 < count_by q is → Passes q is) → 0 < cond b 1 0 + count_by q is → Passes q (i ∷ is)
some_by q i is true e go h = (0, omega arith, e)
some_by q i is false e go h = let f = go (omega arith) in (suc f.0, omega (arith, f.1), f.2)

some_counted : (q : ℕ → Bool) (is : List ℕ) → 0 < count_by q is → Passes q is
some_counted q [] h = absurd (omega arith)
some_counted q (i ∷ is) h = some_by q i is (q i) refl (some_counted q is) (omega (arith, count_first q i is))

abbrev tick : Bool → ℕ
tick b = cond b 1 0

counted_some : (q : ℕ → Bool) (is : List ℕ) (k : ℕ) → k < length is → q (get_or is k 0) ≡ true → 0 < count_by q is
counted_some q [] k h e = absurd (omega arith)
counted_some q (i ∷ is) zero h e = omega (arith, count_first q i is, ap tick e)
counted_some q (i ∷ is) (suc k) h e = omega (arith, count_first q i is, counted_some q is k (omega arith) e)

both : (b c : Bool) → (b && c) ≡ true → (b ≡ true) × (c ≡ true)
both true true e = (refl, refl)
both true false e = (refl, e)
both false c e = absurd (cc)

number_is : (z : ℤ) (o : Option ℤ) → has_number z o ≡ true → o ≡ Some z
number_is z None h = absurd (cc)
number_is z (Some w) h = ap Some ((Decides-int_eq w z).0 h)

is_number : (z : ℤ) (o : Option ℤ) → o ≡ Some z → has_number z o ≡ true
is_number z None h = absurd (cc)
is_number z (Some w) h = (Decides-int_eq w z).1 (cc)

abbrev pair_of : ℤ → ℤ → Pair
pair_of z k = record { zone = z; key = k }

pub pair_there : (s : Size) (zones : Cells) (z k : ℤ) → 0 < pairs_in s (cell_at zones) (tile_number s) (pair_of z k) → (i : ℕ) × (i < cells_in s) × (pos (tile_of s i) ≡ k) × (cell_at zones i ≡ Some z)
pair_there s zones z k h =
    let f = some_counted (has_pair (cell_at zones) (tile_number s) (pair_of z k)) (places s) h in
    let l : f.0 < cells_in s = omega (arith, f.1, length-range_with_len 0 (cells_in s)) in
    let at : get_or (places s) f.0 0 ≡ f.0 = omega (arith, get_or-range_with_len 0 (cells_in s) f.0 0 l) in
    let p = both (has_number z (cell_at zones (get_or (places s) f.0 0))) (has_number k (tile_number s (get_or (places s) f.0 0))) f.2 in
    let zone : cell_at zones f.0 ≡ Some z = subst (λ i. cell_at zones i ≡ Some z) at (number_is z _ p.0) in
    let key : tile_number s f.0 ≡ Some k = subst (λ i. tile_number s i ≡ Some k) at (number_is k _ p.1) in
    (f.0, l, cc, zone)

pub there_pair : (s : Size) (zones : Cells) (z : ℤ) (i : ℕ) → i < cells_in s → cell_at zones i ≡ Some z → 0 < pairs_in s (cell_at zones) (tile_number s) (pair_of z (pos (tile_of s i)))
there_pair s zones z i l e =
    let at : get_or (places s) i 0 ≡ i = omega (arith, get_or-range_with_len 0 (cells_in s) i 0 l) in
    let a = is_number z (cell_at zones i) e in
    let b = is_number (pos (tile_of s i)) (tile_number s i) refl in
    let q = has_pair (cell_at zones) (tile_number s) (pair_of z (pos (tile_of s i))) in
    let here : q i ≡ true = rw (a, b) refl in
    counted_some q (places s) i (omega (arith, l, length-range_with_len 0 (cells_in s))) (subst (λ n. q n ≡ true) (sym at) here)

-- ---- the keys as numbers of tiles

abbrev tile_key : Entry → ℕ
tile_key e = elim e.pair.key as (λ z. ℕ) [ pos n ↦ n | negsuc n ↦ 0 ]

key_tile : (e : Entry) (t : ℕ) → e.pair.key ≡ pos t → tile_key e ≡ t
key_tile e t h = ap (λ (z : ℤ). elim z as (λ z. ℕ) [ pos n ↦ n | negsuc n ↦ 0 ]) h

get_or-map : (es : List Entry) (k : ℕ) (d : Entry) (c : ℕ) → k < length es → get_or (map tile_key es) k c ≡ tile_key (get_or es k d)
get_or-map [] k d c h = absurd (omega arith)
get_or-map (e ∷ es) zero d c h = refl
get_or-map (e ∷ es) (suc k) d c h = get_or-map es k d c (omega arith)

length-map : (es : List Entry) → length (map tile_key es) ≡ length es
length-map [] = refl
length-map (e ∷ es) = ap suc (length-map es)

keys_above : (r : ℤ) (es : List Entry) (i : ℕ) (d : Entry) → KeysClimb r es → i < length es → r <ℤ (get_or es i d).pair.key
keys_above r [] i d c h = absurd (omega arith)
keys_above r (e ∷ es) zero d c h = c.0
keys_above r (e ∷ es) (suc i) d c h = omega (arith, ints, c.0, keys_above e.pair.key es i d c.2 (omega arith))

keys_climb : (r : ℤ) (es : List Entry) (i j : ℕ) (d : Entry) → KeysClimb r es → i < j → j < length es → (get_or es i d).pair.key <ℤ (get_or es j d).pair.key
keys_climb r [] i j d c l h = absurd (omega arith)
keys_climb r (e ∷ es) i zero d c l h = absurd (omega arith)
keys_climb r (e ∷ es) zero (suc j) d c l h = keys_above e.pair.key es j d c.2 (omega arith)
keys_climb r (e ∷ es) (suc i) (suc j) d c l h = keys_climb e.pair.key es i j d c.2 (omega arith) (omega arith)

short_natural : (n : ℕ) → n < 2 ^ 32 → natural (pos n) ≡ Some n
short_natural n h = let t : nat_lt n (2 ^ 32) ≡ true = grind (arith, nat_tests) in rw (t) refl

got : (es : List Entry) (k : ℕ) → ((j : ℕ) (d : Entry) → j < length es → (t : ℕ) × ((get_or es j d).pair.key ≡ pos t) × (t < 2 ^ 32)) → tile_at (slice_get es k) ≡ slice_get (map tile_key es) k
got [] k h = refl
got (e ∷ es) zero h = let f = h 0 e (omega arith) in ap natural f.1 ∙ short_natural f.0 f.2 ∙ ap Some (sym (key_tile e f.0 f.1))
got (e ∷ es) (suc k) h = got es k (λ j d l. h (suc j) d (omega arith))

module _ (b : BookState) (size : IsSize b.size) (values zones : Cells) (is : IsBookOf b values zones) (z : ℤ) (order : KeysClimb floor (part_of z b.tiles)) where
  abbrev part : List Entry
  part = part_of z b.tiles

  counts : (k : ℤ) → occurrences k (numbers part) ≡ pairs_in b.size (cell_at zones) (tile_number b.size) (pair_of z k)
  counts k = part_counts b.tiles (pair_of z k) ∙ is.tile_counts (pair_of z k)

  occurs : (x : ℤ) (xs : List ℤ) → Contains xs x → 0 < occurrences x xs
  unfolding occurrences
  occurs x [] (k, h, e) = absurd (omega arith)
  occurs x (y ∷ ys) (zero, h, e) = omega (arith, count_by-cons (λ v. int_eq v x) y ys, ap tick ((Decides-int_eq y x).1 e))
  occurs x (y ∷ ys) (suc k, h, e) = omega (arith, count_by-cons (λ v. int_eq v x) y ys, occurs x ys (k, omega arith, e))

  key_there : (j : ℕ) (d : Entry) → j < length part → (i : ℕ) × (i < cells_in b.size) × (pos (tile_of b.size i) ≡ (get_or part j d).pair.key) × (cell_at zones i ≡ Some z)
  key_there j d h =
      let k = (get_or part j d).pair.key in
      pair_there b.size zones z k (omega (arith, counts k, occurs k (numbers part) (numbers_have floor part j d order h)))

  held_here : (t : ℕ) → Contains (map tile_key part) t → HasZone b.size zones z t
  held_here t (j, h, e) =
      let h' : j < length part = omega (arith, length-map part) in
      let d : Entry = record { pair = pair_of z (pos 0); count = 0 } in
      let f = key_there j d h' in
      let at : tile_key (get_or part j d) ≡ tile_of b.size f.0 = key_tile (get_or part j d) (tile_of b.size f.0) (sym f.2) in
      (f.0, f.1, sym at ∙ sym (get_or-map part j d t h') ∙ e, f.3)

  here_held : (t : ℕ) → HasZone b.size zones z t → Contains (map tile_key part) t
  here_held t (i, l, e, g) =
      let n = there_pair b.size zones z i l g in
      let m = there (numbers part) (pos (tile_of b.size i)) (omega (arith, counts (pos (tile_of b.size i)), n)) in
      let f = numbers_from part (pos (tile_of b.size i)) m in
      let d : Entry = record { pair = pair_of z (pos 0); count = 0 } in
      (f.0, omega (arith, f.1, length-map part), get_or-map part f.0 d t f.1 ∙ key_tile (get_or part f.0 d) (tile_of b.size i) (f.2 d) ∙ e)

  pub zone_tile : (k : ℕ) (r : Option ℕ) → r ≡ tile_at (slice_get part k) → IsZoneTile b.size zones z k r
  zone_tile k r e = record {
    tiles = map tile_key part;
    ascends = λ i j c l h.
        let d : Entry = record { pair = pair_of z (pos 0); count = 0 } in
        let j' : j < length part = omega (arith, length-map part) in
        let i' : i < length part = omega arith in
        let f = key_there i d i' in
        let g = key_there j d j' in
        let up = keys_climb floor part i j d order l j' in
        let a = get_or-map part i d c i' ∙ key_tile (get_or part i d) (tile_of b.size f.0) (sym f.2) in
        let b' = get_or-map part j d c j' ∙ key_tile (get_or part j d) (tile_of b.size g.0) (sym g.2) in
        let lt : pos (tile_of b.size f.0) <ℤ pos (tile_of b.size g.0) = rw (f.2, g.2) up in
        omega (arith, ints, a, b', lt);
    exact = λ t. (held_here t, here_held t);
    is = e ∙ got part k (λ j d l. let f = key_there j d l in (tile_of b.size f.0, sym f.2, omega (arith, (back b.size f.0 size f.1).tile, few_tiles b.size size)));
  }

pub part_tile : (b b' : BookState) (values zones : Cells) (z z' : ℤ) (part : List Entry) (k : ℕ) (r : Option ℕ) → IsSize b.size → b ≡ b' → z' ≡ z → part ≡ part_of z' b.tiles → KeysClimb floor part → r ≡ tile_at (slice_get part k) → IsBookOf b' values zones → IsZoneTile b'.size zones z k r
part_tile b b' values zones z z' part k r size same zone is order e =
    let here : part ≡ part_of z b.tiles = is ∙ ap (λ (x : ℤ). part_of x b.tiles) zone in
    let P : BookState → Type 0 = λ x. IsBookOf x values zones → IsZoneTile x.size zones z k r in
    subst P same (λ h. zone_tile b size values zones h z (subst (λ (l : List Entry). KeysClimb floor l) here order) k r (e ∙ ap (λ (l : List Entry). tile_at (slice_get l k)) here))
