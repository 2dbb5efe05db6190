-- What is known of each copied tile.
use Rattle.std.proofs.Common.{◌≡◌, ◌≢◌, ◌⊎◌, inl, inr, ℕ, zero, suc, ◌+◌, ◌<◌, ◌≤◌, Bool, true, false, cond, List, [], ◌∷◌, length, get_or, take, Option, Some, None, IsSome, refl, sym, ◌∙◌, ap, subst, arith, ℤ, pos}
use Rattle.std.specs.Prelude.{filter}
use Rattle.std.proofs.lemmas.Bool.{both_ways}
use Rattle.std.proofs.lemmas.List.Sums.{sum_by-cons}
use Rattle.map_nums.specs.Grids.{Size, IsSize, Cells, cell_at, cells_in}
use Rattle.map_nums.specs.Tiles.{tiles}
use Rattle.map_defs.specs.Differences.{differs, tile_has}
use Rattle.map_defs.specs.Regions.{IsLabelOf, IsRegionLabel, AreRegions}
use Rattle.layer_tiles.specs.Tiles.{tiles_in, tile_of}
use Rattle.layer_tiles.proofs.Rounds.{back}
use Rattle.tile_work.specs.Working.{copies}
use Rattle.tile_work.proofs.Copies.{copies_few}
use Rattle.changed_cells.proofs.Joining.{differs_so}
use Rattle.changed_cells.proofs.Touching.{has_so}
use Rattle.region_labels.specs.Flood.{is_marked, Holds, FloodState, IsFlooded}
use Rattle.region_labels.specs.Repairs.{IsLabelling, IsLabelled, IsCleared}
use Rattle.region_labels.specs.Copies.{IsWitness, IsCopiedFrom, IsCopiedWith, IsCopiedAmong, IsCopiedAt}
use Rattle.region_labels.proofs.Flooding.{held, label_right}

pub from_then : (P : ℕ → Type 0) (a b c : List Bool) → IsCopiedFrom P a b → IsCopiedFrom P b c → IsCopiedFrom P a c
from_then P a b c p q t e = elim (q t e) as (λ _. (is_marked a t ≡ true) ⊎ P t) [ inl h ↦ p t h | inr h ↦ inr h ]

pub from_wider : (P Q : ℕ → Type 0) (a b : List Bool) → ((t : ℕ) → P t → Q t) → IsCopiedFrom P a b → IsCopiedFrom Q a b
from_wider P Q a b w p t e = elim (p t e) as (λ _. (is_marked a t ≡ true) ⊎ Q t) [ inl h ↦ inl h | inr h ↦ inr (w t h) ]

-- one more place of a list gets the label
pub among_more : (s : Size) (found : List ℕ) (label : Option ℤ) (old cells : Cells) (k at : ℕ) (ca cb cc : List Bool) → k < length found → at ≡ get_or found k 0 → IsLabelled (take k found) label old cells → IsCopiedFrom (λ t. (t ≡ tile_of s at) × (cell_at cells at ≢ label)) cb cc → IsCopiedAmong s found label old ca cb → IsCopiedAmong s found label old ca cc
among_more s found label old cells k at ca cb cc l e w step h =
    from_then (λ t. (i : ℕ) × Holds found i × (tile_of s i ≡ t) × (cell_at old i ≢ label)) ca cb cc h
    (from_wider (λ t. (t ≡ tile_of s at) × (cell_at cells at ≢ label)) (λ t. (i : ℕ) × Holds found i × (tile_of s i ≡ t) × (cell_at old i ≢ label)) cb cc
    (λ t d. (at, (k, l, sym e), sym d.0, λ q. d.1 (w.other at (λ m. d.1 (w.done at m)) ∙ q)))
    step)

-- a whole region got its label
pub region_copied : (s : Size) (now : Cells) (z : ℤ) (root first : ℕ) (marks : List Bool) (f : FloodState) (labels begun : Cells) (ca cb : List Bool) → IsFlooded s now z root marks f → Holds f.found first → ((j : ℕ) → Holds f.found j → first ≤ j) → IsLabelling s now begun labels marks → IsCopiedAmong s f.found (Some (pos (suc first))) labels ca cb → IsCopiedWith s now begun ca cb
region_copied s now z root first marks f labels begun ca cb h in_it low l c =
    from_wider (λ t. (i : ℕ) × Holds f.found i × (tile_of s i ≡ t) × (cell_at labels i ≢ Some (pos (suc first)))) (IsWitness s now begun) ca cb
    (λ t d. let g = held s now z root marks f h.flooding d.0 d.1 in
    record {
      place = d.0;
      within = g.has.0;
      tile = d.2;
      label = Some (pos (suc first));
      right = label_right s now z root marks l.whole f h first d.0 in_it low d.1;
      differs = λ q. d.3 (l.other d.0 g.fresh ∙ q);
    })
    c

null_right : (s : Size) (now : Cells) (i : ℕ) → cell_at now i ≡ None → IsRegionLabel s now i None
null_right s now i e = let P : Option ℤ → Type 0 = λ c. IsLabelOf s now i c None in subst P (sym e) refl

-- one more place is cleared
pub cleared_copied : (s : Size) (now : Cells) (changed : List ℕ) (old cells : Cells) (k at : ℕ) (ca cb cc : List Bool) → at < cells_in s → IsCleared now (take k changed) old cells → IsCopiedAt s now at cells cb cc → IsCopiedWith s now old ca cb → IsCopiedWith s now old ca cc
cleared_copied s now changed old cells k at ca cb cc l w step h =
    from_then (IsWitness s now old) ca cb cc h
    (from_wider (λ t. (t ≡ tile_of s at) × (cell_at now at ≡ None) × (cell_at cells at ≢ None)) (IsWitness s now old) cb cc
    (λ t d. record {
      place = at;
      within = l;
      tile = sym d.0;
      label = None;
      right = null_right s now at d.1;
      differs = λ q. d.2 (w.other at (λ m. absurd (d.2 (w.here at m d.1))) ∙ q);
    })
    step)

label_only : (s : Size) (now : Cells) (i : ℕ) (a b : Option ℤ) (c : Option ℤ) → IsLabelOf s now i c a → IsLabelOf s now i c b → a ≡ b
label_only s now i a b None p q = p ∙ sym q
label_only s now i a b (Some z) p q =
    let same : p.0 ≡ q.0 = omega (arith, p.2.least q.0 q.2.joined, q.2.least p.0 p.2.joined) in
    p.1 ∙ ap (λ n. Some (pos (suc n))) same ∙ sym q.1

-- what was cleared began as something else only where it is null
pub witness_old : (s : Size) (now : Cells) (changed : List ℕ) (old cleared : Cells) (t : ℕ) → IsCleared now changed old cleared → IsWitness s now cleared t → IsWitness s now old t
witness_old s now changed old cleared t w d = record {
  place = d.place;
  within = d.within;
  tile = d.tile;
  label = d.label;
  right = d.right;
  differs = λ q. d.differs (w.other d.place (λ m. some_here m (cell_at now d.place) refl) ∙ q);
}
  where
    some_here : Holds changed d.place → (c : Option ℤ) → cell_at now d.place ≡ c → IsSome (cell_at now d.place)
    some_here m None e = absurd (d.differs (w.here d.place m e ∙ label_only s now d.place None d.label (cell_at now d.place) (null_right s now d.place e) d.right))
    some_here m (Some z) e = rw (e) refl

-- such a tile has a place whose label changes
pub witness_has : (s : Size) (now old labels : Cells) (t : ℕ) → AreRegions s now labels → IsWitness s now old t → tile_has s (differs old labels) t ≡ true
witness_has s now old labels t r d =
    has_so s (differs old labels) t d.place d.within
    (differs_so old labels d.place (λ q. d.differs (q ∙ label_only s now d.place (cell_at labels d.place) d.label (cell_at now d.place) (r.each d.place d.within) d.right)))
    d.tile

one_none : (b : Bool) → b ≡ true → ◌≡◌ {A = ℕ} (cond b 1 0) 1
one_none true e = refl
one_none false e = absurd (both_ways false refl e)

-- where no tile is copied, none is
pub none_copied : (copied : List Bool) → copies copied ≡ 0 → (t : ℕ) → is_marked copied t ≡ true → ⊥
none_copied [] e t m = both_ways false refl m
none_copied (b ∷ bs) e zero m = omega (arith, sum_by-cons (λ (b : Bool). cond b 1 0) b bs, one_none b m, e)
none_copied (b ∷ bs) e (suc t) m = none_copied bs (omega (arith, sum_by-cons (λ (b : Bool). cond b 1 0) b bs, e)) t m

-- copied tiles are no more than tiles of a kind
pub copied_few : (s : Size) (P : ℕ → Type 0) (p : ℕ → Bool) (begun copied : List Bool) → copies begun ≡ 0 → IsCopiedFrom P begun copied → ((t : ℕ) → P t → (t < tiles_in s) × (p t ≡ true)) → copies copied ≤ length (filter p (tiles s))
copied_few s P p begun copied none from kind =
    copies_few copied p 0 (tiles_in s)
    (λ t e. let r : (t < tiles_in s) × (p t ≡ true) = elim (from t e) as (λ _. (t < tiles_in s) × (p t ≡ true)) [ inl h ↦ absurd (none_copied begun none t h) | inr h ↦ kind t h ] in
    let z : 0 + t ≡ t = omega arith in
    (r.0, ap p z ∙ r.1))

pub witness_lt : (s : Size) (now old : Cells) (t : ℕ) → IsSize s → IsWitness s now old t → t < tiles_in s
witness_lt s now old t h d = let P : ℕ → Type 0 = λ u. u < tiles_in s in subst P d.tile (back s d.place h d.within).tile
