-- The tiles of a set and of patches, each counted once.
use Rattle.std.proofs.Common.{◌≡◌, ℕ, suc, ◌+◌, ◌-◌, ◌<◌, ◌≤◌, Bool, true, false, ◌||◌, cond, List, [], ◌∷◌, length, Option, Some, None, IsSome, zero, refl, sym, ◌∙◌, ap, arith}
use Rattle.std.specs.Prelude.{◌&&◌, not, filter, is_some}
use Rattle.std.specs.List.{Contains, count_by, range_with_len}
use Rattle.std.proofs.lemmas.List.{map-id}
use Rattle.std.proofs.lemmas.List.FromFn.{sum_by-map-range_with_len_more, length-range_with_len}
use Rattle.std.proofs.lemmas.List.Sums.{length-filter, count_by-le-length, sum_by-cons}
use Rattle.layer_tiles.specs.ChangeFacts.{IsNext}
use Rattle.map_nums.specs.Grids.{Size}
use Rattle.map_nums.specs.Tiles.{tiles, tiles_in}
use Rattle.layer_tiles.specs.Tiles.{Block}
use Rattle.layer_tiles.specs.Patches.{PatchState, IsPatch, patch_get, numbers_of}
use Rattle.layer_tiles.proofs.Found.{Contains-from_get, get-from_Contains}
use Rattle.damage_sets.specs.Counted.{has_in, is_new, count_any}
use Rattle.damage_sets.specs.Sets.{TileSetState, has_tile}

count_cons : (p : ℕ → Bool) (x : ℕ) (xs : List ℕ) → count_by p (x ∷ xs) ≡ cond (p x) 1 0 + count_by p xs
count_cons p x xs = sum_by-cons (λ u. cond (p u) 1 0) x xs

-- ---- one test after another

each : (a b c : Bool) → cond (a || (b || c)) 1 0 ≡ cond a 1 0 + cond (c && not (a || false)) 1 0 + cond (b && not (a || c)) 1 0
each true true true = refl
each true true false = refl
each true false true = refl
each true false false = refl
each false true true = refl
each false true false = refl
each false false true = refl
each false false false = refl

each_counted : (a b c : ℕ → Bool) (xs : List ℕ) → count_by (λ t. a t || (b t || c t)) xs ≡ count_by a xs + count_by (λ t. c t && not (a t || false)) xs + count_by (λ t. b t && not (a t || c t)) xs
each_counted a b c [] = refl
each_counted a b c (x ∷ xs) =
    omega (arith, each_counted a b c xs, each (a x) (b x) (c x), count_cons (λ t. a t || (b t || c t)) x xs, count_cons a x xs, count_cons (λ t. c t && not (a t || false)) x xs, count_cons (λ t. b t && not (a t || c t)) x xs)

-- what passes a test or one of two others, each counted once
pub counted_once : (a b c : ℕ → Bool) (xs : List ℕ) → length (filter (λ t. a t || (b t || c t)) xs) ≡ length (filter a xs) + length (filter (λ t. c t && not (a t || false)) xs) + length (filter (λ t. b t && not (a t || c t)) xs)
counted_once a b c xs =
    omega (arith, each_counted a b c xs, length-filter (λ t. a t || (b t || c t)) xs, length-filter a xs, length-filter (λ t. c t && not (a t || false)) xs, length-filter (λ t. b t && not (a t || c t)) xs)

-- ---- one tile after another

-- how many numbers below n pass
abbrev pub below : (ℕ → Bool) → ℕ → ℕ
below p n = count_by p (range_with_len 0 n)

pub below_more : (p : ℕ → Bool) (n count one : ℕ) → count ≡ below p n → one ≡ cond (p n) 1 0 → count + one ≡ below p (n + 1)
below_more p n count one e f =
    let s : below p (n + 1) ≡ below p n + cond (p n) 1 0 =
    ap (λ xs. count_by p xs) (sym (map-id (range_with_len 0 (n + 1))))
    ∙ sum_by-map-range_with_len_more (λ u. cond (p u) 1 0) (λ (u : ℕ). u) 0 n n (omega arith)
    ∙ ap (λ xs. count_by p xs + cond (p n) 1 0) (map-id (range_with_len 0 n)) in
    omega (arith, e, f, s)

no_one : (b : Bool) (n : ℕ) → b ≡ false → n ≡ 0 → n ≡ cond b 1 0
no_one true n f e = absurd (cc)
no_one false n f e = e

-- those that don't pass are passed over
pub below_skip : (p : ℕ → Bool) (from n count : ℕ) → count ≡ below p from → ((t : ℕ) → from ≤ t → t < from + n → p t ≡ false) → count ≡ below p (from + n)
below_skip p from zero count e none = let up : from ≡ from + zero = omega arith in e ∙ ap (below p) up
below_skip p from (suc n) count e none =
    let rest = below_skip p from n count e (λ t l m. none t l (omega (arith, m))) in
    let up : from + n + 1 ≡ from + suc n = omega arith in
    omega (arith, below_more p (from + n) count 0 rest (no_one (p (from + n)) 0 (none (from + n) (omega arith) (omega arith)) refl), ap (below p) up)

module _ (patch : PatchState) (set : TileSetState) (other : Option PatchState) where
  abbrev new : ℕ → Bool
  new = is_new patch set other

  -- a tile that the patch hasn't isn't new
  not_held : (t : ℕ) → (Contains (numbers_of patch.tiles) t → ⊥) → new t ≡ false
  not_held t unheld = by (is_some (patch_get patch.tiles t)) refl
    where
      by : (b : Bool) → is_some (patch_get patch.tiles t) ≡ b → (b && not (has_tile set t || has_in other t)) ≡ false
      by true e = absurd (unheld (Contains-from_get patch.tiles t e))
      by false e = refl

  held : (t : ℕ) → Contains (numbers_of patch.tiles) t → new t ≡ not (has_tile set t || has_in other t)
  held t there = ap (λ b. b && not (has_tile set t || has_in other t)) (get-from_Contains patch.tiles t there)

  pub new_next : (from tile count one : ℕ) → IsNext (numbers_of patch.tiles) from tile → count ≡ below new from → one ≡ cond (not (has_tile set tile || has_in other tile)) 1 0 → count + one ≡ below new (tile + 1)
  new_next from tile count one next e f =
      let up : from + (tile - from) ≡ tile = omega (arith, next.not_below) in
      let skipped : count ≡ below new tile = below_skip new from (tile - from) count e (λ t l m. not_held t (λ there. absurd (omega (arith, next.least t there l, m, up)))) ∙ ap (below new) up in
      below_more new tile count one skipped (f ∙ ap (λ (b : Bool). let v : ℕ = cond b 1 0 in v) (sym (held tile next.held)))

  pub new_all : (from n count : ℕ) → from ≤ n → ((t : ℕ) → Contains (numbers_of patch.tiles) t → t < from) → count ≡ below new from → count ≡ below new n
  new_all from n count l none e =
      let up : from + (n - from) ≡ n = omega (arith, l) in
      below_skip new from (n - from) count e (λ t m k. not_held t (λ there. absurd (omega (arith, none t there, m)))) ∙ ap (below new) up

-- a tile that a patch has is one of its grid
pub tile_below : (patch : PatchState) (t : ℕ) → IsPatch patch → Contains (numbers_of patch.tiles) t → t < tiles_in patch.size
tile_below patch t is there = by (patch_get patch.tiles t) refl (get-from_Contains patch.tiles t there)
  where
    by : (o : Option Block) → patch_get patch.tiles t ≡ o → IsSome o → t < tiles_in patch.size
    by None e some = absurd (cc)
    by (Some b) e some = is.below t b e

-- ---- a set and two patches

no_tile : (xs : List ℕ) → length (filter (λ (t : ℕ). false) xs) ≡ 0
no_tile [] = refl
no_tile (x ∷ xs) = no_tile xs

module _ (set : TileSetState) (patch : PatchState) (own added : ℕ) (size : set.size ≡ patch.size) (is : own ≡ length (filter (has_tile set) (tiles set.size))) (more : added ≡ length (filter (is_new patch set None) (tiles patch.size))) where
  -- with what a further patch adds
  pub counted_any : (further : PatchState) (last : ℕ) → set.size ≡ further.size → last ≡ length (filter (is_new further set (Some patch)) (tiles further.size)) → own + added + last ≡ count_any set patch (Some further)
  counted_any further last same e =
      let own_is : own ≡ length (filter (has_tile set) (tiles patch.size)) = is ∙ ap (λ (z : Size). length (filter (has_tile set) (tiles z))) size in
      let last_is : last ≡ length (filter (is_new further set (Some patch)) (tiles patch.size)) = e ∙ ap (λ (z : Size). length (filter (is_new further set (Some patch)) (tiles z))) (sym same ∙ size) in
      omega (arith, own_is, more, last_is, counted_once (has_tile set) (has_in (Some further)) (λ t. is_some (patch_get patch.tiles t)) (tiles patch.size))

  pub counted_both : own + added ≡ count_any set patch None
  counted_both =
      let own_is : own ≡ length (filter (has_tile set) (tiles patch.size)) = is ∙ ap (λ (z : Size). length (filter (has_tile set) (tiles z))) size in
      omega (arith, own_is, more, no_tile (tiles patch.size), counted_once (has_tile set) (λ t. false) (λ t. is_some (patch_get patch.tiles t)) (tiles patch.size))

-- no more tiles than there are
pub any_most : (set : TileSetState) (patch : PatchState) (further : Option PatchState) → count_any set patch further ≤ tiles_in patch.size
any_most set patch further =
    let p : ℕ → Bool = λ t. has_tile set t || (has_in further t || is_some (patch_get patch.tiles t)) in
    omega (arith, length-filter p (tiles patch.size), count_by-le-length p (tiles patch.size), length-range_with_len 0 (tiles_in patch.size))
