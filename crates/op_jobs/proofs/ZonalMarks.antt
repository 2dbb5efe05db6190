-- Marks of tiles, set step by step, and ascending lists of tiles.
use Rattle.std.proofs.Common.{◌≡◌, ◌⊎◌, inl, inr, ℕ, zero, suc, ◌+◌, ◌<◌, ◌≤◌, Bool, true, false, List, [], ◌∷◌, length, get_or, set, Option, Some, None, refl, sym, ◌∙◌, ap, subst, arith, slice_get, ⊎_elim, ℤ}
use Rattle.std.specs.List.{AllPairs, Contains}
use Rattle.std.proofs.lemmas.Bool.{cases_eq, cases_lt}
use Rattle.std.proofs.lemmas.List.{get_or-set_same, get_or-set_other, length-set}
use Rattle.std.proofs.lemmas.Option.{same_Some, get_or_from_slice_get, slice_get-get_or, slice_get_within}
use Rattle.map_nums.specs.Grids.{Size, IsSize, Cells}
use Rattle.map_nums.specs.declared.Stat.{Stat}
use Rattle.layer_tiles.specs.Tiles.{tiles_in}
use Rattle.layer_tiles.proofs.Rounds.{back}
use Rattle.zonal_totals.specs.Tilings.{HasZone, IsZoneTile}
use Rattle.op_jobs.specs.Zonal.{AreMarked}
use Rattle.op_jobs.specs.ZonalZones.{AreTilesOf, IsAmongFirst, IsOfOther, HasOtherZone}
use Rattle.op_jobs.proofs.Listing.{in_all, nothing_in}

-- ---- marks

pub marked_none : (s : Size) (P : ℕ → Type 0) (old : List Bool) → ((t : ℕ) → P t → ⊥) → AreMarked s P old old
marked_none s P old none = record {
  count = refl;
  kept = λ t l e. e;
  added = λ t l h. absurd (none t h);
  only = λ t l e. inl e;
}

-- one tile
pub marked_one : (s : Size) (tile : ℕ) (old new : List Bool) → tile < length old → new ≡ set old tile true → AreMarked s (λ t. t ≡ tile) old new
marked_one s tile old new l e =
    rw (e)
    record {
      count = length-set old tile true;
      kept = λ t m h. elim (cases_eq t tile) as (λ _. get_or (set old tile true) t false ≡ true) [
        | inl same ↦ rw (same) (get_or-set_same old tile true false l)
        | inr other ↦ get_or-set_other old tile t true false other ∙ h
      ];
      added = λ t m same. rw (same) (get_or-set_same old tile true false l);
      only = λ t m h. elim (cases_eq t tile) as (λ _. (get_or old t false ≡ true) ⊎ (t ≡ tile)) [
        | inl same ↦ inr same
        | inr other ↦ inl (sym (get_or-set_other old tile t true false other) ∙ h)
      ];
    }

-- one step after another
module _ (s : Size) (P Q R : ℕ → Type 0) (old mid new : List Bool) (p : AreMarked s P old mid) (q : AreMarked s Q mid new) (split : (t : ℕ) → R t → P t ⊎ Q t) (first : (t : ℕ) → P t → R t) (second : (t : ℕ) → Q t → R t) where
  pub marked_then : AreMarked s R old new
  marked_then = record {
    count = q.count ∙ p.count;
    kept = λ t l e. q.kept t l (p.kept t l e);
    added = λ t l h. ⊎_elim (λ (a : P t). q.kept t l (p.added t l a)) (λ (b : Q t). q.added t l b) (split t h);
    only = λ t l e. elim (q.only t l e) as (λ _. (get_or old t false ≡ true) ⊎ R t) [
      | inl a ↦ elim (p.only t l a) as (λ _. (get_or old t false ≡ true) ⊎ R t) [ inl x ↦ inl x | inr x ↦ inr (first t x) ]
      | inr h ↦ inr (second t h)
    ];
  }

-- ---- places of a list

pub held_at : {X : Type 0} (xs : List X) (k : ℕ) (x : X) → slice_get xs k ≡ Some x → Contains xs x
held_at xs k x e = (k, slice_get_within xs k x e, get_or_from_slice_get xs k x x e)

pub at_held : {X : Type 0} (xs : List X) (x : X) → (c : Contains xs x) → slice_get xs c.0 ≡ Some x
at_held xs x c = slice_get-get_or xs c.0 x c.1 ∙ ap Some c.2

-- past the last there is none
pub none_past : {X : Type 0} (xs : List X) (k : ℕ) (j : ℕ) (x : X) → slice_get xs k ≡ None → slice_get xs j ≡ Some x → j < k
none_past xs k j x none e = elim (cases_lt j k) as (λ _. j < k) [
  | inl l ↦ l
  | inr l ↦ let within : k < length xs = omega (arith, slice_get_within xs j x e) in let some = slice_get-get_or xs k x within in absurd (cc (some, none))
]

-- ---- ascending lists with the same numbers are the same

abbrev Rises : List ℕ → Type 0
Rises xs = AllPairs (λ t u. t < u) xs

tail_rises : (x : ℕ) (xs : List ℕ) → Rises (x ∷ xs) → Rises xs
tail_rises x xs a = λ i j d l h. a (suc i) (suc j) d (omega arith) (omega arith)

head_least : (x : ℕ) (xs : List ℕ) (t : ℕ) → Rises (x ∷ xs) → Contains (x ∷ xs) t → x ≤ t
head_least x xs t a (zero, h, e) = omega (arith, e)
head_least x xs t a (suc k, h, e) = omega (arith, a 0 (suc k) t (omega arith) h, e)

tail_above : (x : ℕ) (xs : List ℕ) (t : ℕ) → Rises (x ∷ xs) → Contains xs t → x < t
tail_above x xs t a (k, h, e) = omega (arith, a 0 (suc k) t (omega arith) (omega arith), e)

in_tail : (x : ℕ) (xs : List ℕ) (t : ℕ) → x < t → Contains (x ∷ xs) t → Contains xs t
in_tail x xs t l (zero, h, e) = absurd (omega (arith, e))
in_tail x xs t l (suc k, h, e) = (k, omega arith, e)

pub same_rise : (xs ys : List ℕ) → Rises xs → Rises ys → ((t : ℕ) → Contains xs t → Contains ys t) → ((t : ℕ) → Contains ys t → Contains xs t) → xs ≡ ys
same_rise [] [] a b f g = refl
same_rise [] (y ∷ ys) a b f g = absurd (nothing_in y (g y (0, omega arith, refl)))
same_rise (x ∷ xs) [] a b f g = absurd (nothing_in x (f x (0, omega arith, refl)))
same_rise (x ∷ xs) (y ∷ ys) a b f g =
    let low : y ≤ x = head_least y ys x b (f x (0, omega arith, refl)) in
    let high : x ≤ y = head_least x xs y a (g y (0, omega arith, refl)) in
    let e : x ≡ y = omega arith in
    ap (λ z. z ∷ xs) e
    ∙ ap (λ (zs : List ℕ). y ∷ zs)
    (same_rise xs ys (tail_rises x xs a) (tail_rises y ys b)
    (λ t c. let l = tail_above x xs t a c in in_tail y ys t (omega (arith, l, e)) (f t (in_all x xs t c)))
    (λ t c. let l = tail_above y ys t b c in in_tail x xs t (omega (arith, l, e)) (g t (in_all y ys t c))))

-- a number is at least its place
pub place_most : (xs : List ℕ) → Rises xs → (k : ℕ) (t : ℕ) → slice_get xs k ≡ Some t → k ≤ t
place_most xs a k t e =
    omega (arith, up k (slice_get_within xs k t e), get_or_from_slice_get xs k t t e)
  where
    up : (j : ℕ) → j < length xs → j ≤ get_or xs j t
    up zero l = omega arith
    up (suc j) l = let r = up j (omega (arith, l)) in omega (arith, r, a j (suc j) t (omega arith) l)

-- ---- the tiles of a zone, one after another

module _ {s : Size} {zones : Cells} {z : ℤ} where
  -- those that a call tells of
  pub tiles_told : {k : ℕ} {r : Option ℕ} → (i : IsZoneTile s zones z k r) → AreTilesOf s zones z i.tiles
  tiles_told i = record { ascends = i.ascends; all = λ t h. (i.exact t).1 h; only = λ t h. (i.exact t).0 h }

  -- they are these
  told_these : {list : List ℕ} {k : ℕ} {r : Option ℕ} → AreTilesOf s zones z list → IsZoneTile s zones z k r → slice_get list k ≡ r
  told_these {list} {k} {r} a i =
      let same : i.tiles ≡ list = same_rise i.tiles list i.ascends a.ascends (λ t c. a.all t ((i.exact t).0 c)) (λ t c. (i.exact t).1 (a.only t c)) in
      subst (λ (xs : List ℕ). slice_get xs k ≡ r) same (sym i.is)

  pub told_within : {k t : ℕ} → IsSize s → IsZoneTile s zones z k (Some t) → (t < tiles_in s) × (k ≤ t)
  told_within {k} {t} good i =
      let h = (i.exact t).0 (held_at i.tiles k t (sym i.is)) in
      (subst (λ u. u < tiles_in s) h.2 (back s h.0 good h.1).tile, place_most i.tiles i.ascends k t (sym i.is))

  -- one more of them
  pub first_more : {list : List ℕ} {k t : ℕ} {old mid new : List Bool} → AreTilesOf s zones z list → IsZoneTile s zones z k (Some t) → AreMarked s (IsAmongFirst list k) old mid → t < length mid → new ≡ set mid t true → AreMarked s (IsAmongFirst list (k + 1)) old new
  first_more {list} {k} {t} {old} {mid} {new} a i m l e =
      let here = told_these a i in
      marked_then s (IsAmongFirst list k) (λ u. u ≡ t) (IsAmongFirst list (k + 1)) old mid new m (marked_one s t mid new l e)
      (λ u h. ⊎_elim
      (λ (p : h.0 < k). inl (h.0, p, h.2))
      (λ (p : k ≤ h.0). let j : h.0 ≡ k = omega (arith, h.1) in inr (same_Some u t (sym h.2 ∙ ap (slice_get list) j ∙ here)))
      (cases_lt h.0 k))
      (λ u h. (h.0, omega (arith, h.1), h.2))
      (λ u same. (k, omega arith, here ∙ ap Some (sym same)))

  -- all of them
  pub first_all : {list : List ℕ} {k : ℕ} {old new : List Bool} → AreTilesOf s zones z list → IsZoneTile s zones z k None → AreMarked s (IsAmongFirst list k) old new → AreMarked s (HasZone s zones z) old new
  first_all {list} {k} {old} {new} a i m =
      let none = told_these a i in
      marked_then s (IsAmongFirst list k) (λ t. ⊥) (HasZone s zones z) old new new m (marked_none s (λ t. ⊥) new (λ t h. h))
      (λ t h. let c = a.all t h in let e = at_held list t c in inl (c.0, none_past list k c.0 t none e, e))
      (λ t h. a.only t (held_at list h.0 t h.2))
      (λ t h. absurd h)

-- ---- the tiles of one zone after another

module _ (stat : Stat) (s : Size) (values zones values' zones' : Cells) where
  abbrev IsOf : ℤ → ℕ → Type 0
  IsOf z t = IsOfOther stat s values zones values' zones' z t

  abbrev Has : List ℤ → ℕ → ℕ → Type 0
  Has zs n t = HasOtherZone stat s values zones values' zones' zs n t

  -- one more zone
  pub others_more : (zs : List ℤ) (k : ℕ) (z : ℤ) (old mid new : List Bool) → slice_get zs k ≡ Some z → AreMarked s (Has zs k) old mid → AreMarked s (IsOf z) mid new → AreMarked s (Has zs (k + 1)) old new
  others_more zs k z old mid new e m q =
      marked_then s (Has zs k) (IsOf z) (Has zs (k + 1)) old mid new m q
      (λ t h. ⊎_elim
      (λ (l : h.place < k). inl (record { place = h.place; below = l; zone = h.zone; listed = h.listed; is = h.is }))
      (λ (l : k ≤ h.place).
      let j : h.place ≡ k = omega (arith, h.below) in
      let same : h.zone ≡ z = same_Some h.zone z (sym h.listed ∙ ap (slice_get zs) j ∙ e) in
      inr (subst (λ (x : ℤ). IsOf x t) same h.is))
      (cases_lt h.place k))
      (λ t h. record { place = h.place; below = omega (arith, h.below); zone = h.zone; listed = h.listed; is = h.is })
      (λ t h. record { place = k; below = omega arith; zone = z; listed = e; is = h })
