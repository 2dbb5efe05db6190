-- The numbers of the tiles of a patch.
use Rattle.std.proofs.Common.{◌≡◌, ℕ, zero, suc, ◌+◌, ◌-◌, ◌<◌, ◌≤◌, true, false, List, length, get_or, sym, ◌∙◌, ap, arith, nat_lt, ⊎_elim}
use Rattle.std.specs.List.{Contains}
use Rattle.std.specs.List.Sorted.{IsStrictlyIncreasing, IsPartitionPoint}
use Rattle.std.proofs.lemmas.Bool.{cases_lt}
use Rattle.std.proofs.lemmas.Bool.Decides.{nat_tests}
use Rattle.std.proofs.lemmas.List.{get_or-map, length-map, get_or_default}
use Rattle.layer_tiles.specs.Tiles.{Block, tiles_in}
use Rattle.layer_tiles.specs.Patches.{PatchState, IsPatch, numbers_of}
use Rattle.layer_tiles.specs.ChangeFacts.{IsNext}
use Rattle.layer_tiles.proofs.Found.{numbers_rise}
use Rattle.layer_tiles.proofs.ChangeLaws.{numbers_within}

-- in an ascending list no number is below its place
pub rising : (xs : List ℕ) → IsStrictlyIncreasing xs → (k : ℕ) → k < length xs → k ≤ get_or xs k 0
rising xs up zero l = omega arith
rising xs up (suc k) l =
    let before = rising xs up k (omega arith) in
    let m : k + 1 < length xs = omega (arith, l) in
    let rise = up k m in
    let e : k + 1 ≡ suc k = omega arith in
    omega (arith, before, rise, ap (λ j. get_or xs j 0) e)

-- a patch has no more tiles than its grid
pub tiles_few : (p : PatchState) → IsPatch p → length p.tiles ≤ tiles_in p.size
tiles_few p h =
    ⊎_elim
    (λ (m : 0 < length p.tiles).
    let n = length-map p.tiles (λ (e : ℕ × Block). e.0) in
    let k = length p.tiles - 1 in
    let l : k < length (numbers_of p.tiles) = omega (arith, n, m) in
    let last = get_or (numbers_of p.tiles) k 0 in
    let within = numbers_within p h last (k, l, get_or_default (numbers_of p.tiles) k last 0 l) in
    omega (arith, within, rising (numbers_of p.tiles) h.ascends k l, m))
    (λ (m : length p.tiles ≤ 0). omega (arith, m))
    (cases_lt 0 (length p.tiles))

below : (u t : ℕ) → nat_lt u t ≡ true → u < t
below u t h = grind (arith, nat_tests)

not_below : (u t : ℕ) → nat_lt u t ≡ false → t ≤ u
not_below u t h = grind (arith, nat_tests)

module _ (tiles : List (ℕ × Block)) (from i : ℕ) (up : IsStrictlyIncreasing (numbers_of tiles)) (point : IsPartitionPoint (λ e. nat_lt e.0 from ≡ true) (λ e. nat_lt e.0 from ≡ false) tiles i) where
  -- the number at a place
  number_is : (k u : ℕ) (d : ℕ × Block) → k < length tiles → get_or (numbers_of tiles) k u ≡ (get_or tiles k d).0
  number_is k u d l = get_or-map (λ (e : ℕ × Block). e.0) tiles k d u l

  place_is : (u : ℕ) (c : Contains (numbers_of tiles) u) → c.0 < length tiles
  place_is u c = omega (arith, c.1, length-map tiles (λ (e : ℕ × Block). e.0))

  -- the first number that is not below
  pub next_number : (e : ℕ × Block) → i < length tiles → e ≡ get_or tiles i e → IsNext (numbers_of tiles) from e.0
  next_number e l is =
      let here : (get_or tiles i e).0 ≡ e.0 = ap (λ (x : ℕ × Block). x.0) (sym is) in
      let least : from ≤ (get_or tiles i e).0 = not_below (get_or tiles i e).0 from (point.1 i e (omega arith) l) in
      record {
        held = (i, omega (arith, l, length-map tiles (λ (e : ℕ × Block). e.0)), number_is i e.0 e l ∙ here);
        not_below = omega (arith, least, here);
        least = λ u c f.
            let k = place_is u c in
            let at = number_is c.0 u e k in
            ⊎_elim
            (λ (a : c.0 < i). absurd (let b = below (get_or tiles c.0 e).0 from (point.0 c.0 e (omega arith) a) in omega (arith, b, f, at, c.2)))
            (λ (a : i ≤ c.0). let rise = numbers_rise tiles up i c.0 e a k in omega (arith, rise, here, at, c.2))
            (cases_lt c.0 i);
      }

  -- none where all are below
  pub no_next : (d : ℕ × Block) → length tiles ≤ i → (u : ℕ) → Contains (numbers_of tiles) u → u < from
  no_next d l u c =
      let k = place_is u c in
      let b = below (get_or tiles c.0 d).0 from (point.0 c.0 d (omega arith) (omega (arith, k, l))) in
      omega (arith, b, number_is c.0 u d k, c.2)
