-- After operands changed, and costs with them, only the places near those of changed operands and of new costs may have another value.
use Rattle.std.proofs.Common.{◌≡◌, ℕ, suc, ◌+◌, ◌*◌, ◌<◌, ◌≤◌, ℤ, Bool, true, false, List, [], ◌∷◌, length, get_or, Option, Some, None, refl, sym, ◌∙◌, ap, subst, arith, inl, inr}
use Rattle.std.specs.Prelude.{◌⊎◌, ◌&&◌, ◌||◌, nat_lt, replicate, if◌then◌else◌}
use Rattle.std.proofs.lemmas.Bool.{cases_lt, cases_Bool, both_ways, or_left, or_right}
use Rattle.std.proofs.lemmas.List.{get_or_past, get_or-replicate, length-replicate}
use Rattle.map_nums.specs.Grids.{Size, Cells, cell_at, cells_in, is_neighbour}
use Rattle.map_defs.specs.Differences.{differs, has_changed}
use Rattle.map_defs.specs.Nearest.{BeginsAt, StepsTo}
use Rattle.map_defs.specs.Spread.{friction_of, friction_at, is_straight_step, step_cost}
use Rattle.changed_cells.specs.Unions.{AreAllPlaces}
use Rattle.changed_cells.proofs.Joining.{differs_not}
use Rattle.tile_work.specs.PlaceSets.{PlaceSetState}
use Rattle.friction_spread.specs.Costs.{GroundState, cost_of, net_of, step_of}
use Rattle.friction_spread.specs.Near.{IsNear}
use Rattle.friction_spread.proofs.Grounds.{values_within}
use Rattle.friction_neighbor.specs.Fields.{FieldState, IsField, field_of, cost_at, own_at}
use Rattle.friction_neighbor.specs.Gathers.{IsLeastHere}
use Rattle.friction_neighbor.specs.Mending.{Waits}
use Rattle.friction_neighbor.specs.Puts.{is_marked, ArePut, RoundMarked}
use Rattle.friction_neighbor.specs.Repairs.{wanted_at, IsValueRepair, AreLeastFar}
use Rattle.friction_neighbor.specs.Views.{ViewState}
use Rattle.friction_neighbor.proofs.Places.{steps_near, free_begins, begins_free}
use Rattle.friction_neighbor.proofs.Putting.{put_then}

-- ---- a step depends on the frictions of its places alone

abbrev step_with : Size → ℕ → ℕ → ℕ → ℕ → ℕ → ℕ
step_with s limit a b j i = if (nat_lt j (cells_in s) && nat_lt 0 a) && (nat_lt i (cells_in s) && nat_lt 0 b) && is_neighbour s j i then (if is_straight_step s j i then 5 else 7) * (a + b) else suc limit

step_is : (g : GroundState) (j i : ℕ) → step_of g j i ≡ step_with g.size g.limit (friction_at g.friction j) (friction_at g.friction i) j i
unfolding step_of step_cost
step_is g j i = refl

false_of : (b : Bool) → (b ≡ true → ⊥) → b ≡ false
false_of true n = absurd (n refl)
false_of false n = refl

pub record IsUnchanged (sb sn fb fn cb cn : Cells) (j : ℕ) : Type 0 where
  pub source : cell_at sb j ≡ cell_at sn j
  pub friction : cell_at fb j ≡ cell_at fn j
  pub cost : cell_at cb j ≡ cell_at cn j

unchanged_by : (sb sn fb fn cb cn : Cells) (j : ℕ) → (has_changed (sb ∷ fb ∷ []) (sn ∷ fn ∷ []) j ≡ true → ⊥) → (differs cb cn j ≡ true → ⊥) → IsUnchanged sb sn fb fn cb cn j
unchanged_by sb sn fb fn cb cn j n m = record {
  source = differs_not sb sn j (false_of (differs sb sn j) (λ e. n (or_left (differs sb sn j) (differs fb fn j || false) e)));
  friction = differs_not fb fn j (false_of (differs fb fn j) (λ e. n (or_right (differs sb sn j) (differs fb fn j || false) (or_left (differs fb fn j) false e))));
  cost = differs_not cb cn j (false_of (differs cb cn j) m);
}

-- outside the map there is no value
pub outside_least : (f : FieldState) → IsField f → (old : Cells) (i : ℕ) → length old ≡ cells_in f.ground.size → cells_in f.ground.size ≤ i → IsLeastHere f old i (cell_at old i)
outside_least f field old i n l =
    let none : cell_at old i ≡ None = get_or_past old i None (omega (arith, n, l)) in
    let w = values_within f.ground f.costs field.costs.full i l in
    record {
      attained = λ z e. absurd (cc);
      begun = λ z b o. absurd (omega (arith, w, b.0));
      stepped = λ j z s e. absurd (omega (arith, w, s.0));
    }

module _ (s : Size) (limit : ℕ) (sb sn fb fn cb cn : Cells) where
  abbrev before : FieldState
  before = field_of s sb fb limit cb

  abbrev after : FieldState
  after = field_of s sn fn limit cn

  step_kept : (j i : ℕ) → IsUnchanged sb sn fb fn cb cn j → IsUnchanged sb sn fb fn cb cn i → step_of before.ground j i ≡ step_of after.ground j i
  step_kept j i p q = step_is before.ground j i ∙ ap (λ c. step_with s limit (friction_of c) (friction_at fb i) j i) p.friction ∙ ap (λ c. step_with s limit (friction_at fn j) (friction_of c) j i) q.friction ∙ sym (step_is after.ground j i)

  cost_kept : (j : ℕ) → IsUnchanged sb sn fb fn cb cn j → cost_at before j ≡ cost_at after j
  cost_kept j p = ap (cost_of (suc limit)) p.cost

  -- a place near which nothing changed
  module _ (fieldb : IsField before) (fielda : IsField after) (i : ℕ) (l : i < cells_in s) (same : (j : ℕ) → j < cells_in s → IsNear s j i → IsUnchanged sb sn fb fn cb cn j) where
    here : IsUnchanged sb sn fb fn cb cn i
    here = same i l (record { rows = omega arith; columns = omega arith })

    steps_back : (j : ℕ) → StepsTo (net_of after.ground) (cost_at after) j i → StepsTo (net_of before.ground) (cost_at before) j i
    steps_back j t =
        let h = steps_near after fielda j i t in
        let p = same j h.from (record { rows = h.rows; columns = h.columns }) in
        (omega (arith, t.0, cost_kept i here), omega (arith, t.1, cost_kept i here, cost_kept j p, step_kept j i p here))

    steps_on : (j : ℕ) → StepsTo (net_of before.ground) (cost_at before) j i → StepsTo (net_of after.ground) (cost_at after) j i
    steps_on j t =
        let h = steps_near before fieldb j i t in
        let p = same j h.from (record { rows = h.rows; columns = h.columns }) in
        (omega (arith, t.0, cost_kept i here), omega (arith, t.1, cost_kept i here, cost_kept j p, step_kept j i p here))

    pub least_kept : (old : Cells) (c : Option ℤ) → IsLeastHere before old i c → IsLeastHere after old i c
    least_kept old c p = record {
      attained = λ z e. elim (p.attained z e) as (λ _. (BeginsAt (net_of after.ground) (cost_at after) i × (own_at after i ≡ Some z)) ⊎ ((j : ℕ) × StepsTo (net_of after.ground) (cost_at after) j i × (cell_at old j ≡ Some z))) [
        | inl b ↦ inl (free_begins after fielda i (omega (arith, begins_free before fieldb i b.0, cost_kept i here)), sym here.source ∙ b.1)
        | inr t ↦ inr (t.0, steps_on t.0 t.1, t.2)
      ];
      begun = λ z b o. p.begun z (free_begins before fieldb i (omega (arith, begins_free after fielda i b, cost_kept i here))) (here.source ∙ o);
      stepped = λ j z t e. p.stepped j z (steps_back j t) e;
    }

  -- so places far from the changed ones have the least values still
  pub least_far : IsField before → IsField after → (changed moved : List ℕ) → AreAllPlaces s (has_changed (sb ∷ fb ∷ []) (sn ∷ fn ∷ [])) changed → AreAllPlaces s (differs cb cn) moved → (old : Cells) → length old ≡ cells_in s → ((i : ℕ) → IsLeastHere before old i (cell_at old i)) → AreLeastFar (record { field = after; was = cb }) old changed moved
  least_far fieldb fielda changed moved all those old n least i far away = elim (cases_lt i (cells_in s)) as (λ _. IsLeastHere after old i (cell_at old i)) [
    | inr l ↦ outside_least after fielda old i n l
    | inl l ↦ least_kept fieldb fielda i l
        (λ j m near. unchanged_by sb sn fb fn cb cn j
        (λ e. let h = all.all j m e in let P : ℕ → Type 0 = λ c. IsNear s c i in far h.0 h.1 (subst P (sym h.2) near))
        (λ e. let h = those.all j m e in let P : ℕ → Type 0 = λ c. IsNear s c i in away h.0 h.1 (subst P (sym h.2) near)))
        old (cell_at old i) (least i)
  ]

-- ---- those near come into the queue

pub repair_begun : (v : ViewState) → IsField v.field → (old values : Cells) (changed moved : List ℕ) (seen x y : PlaceSetState) (a b : List (ℕ × ℕ)) → values ≡ old → length old ≡ cells_in v.field.ground.size → AreLeastFar v old changed moved → AreAllPlaces v.field.ground.size (differs v.was v.field.costs) moved → seen.size ≡ v.field.ground.size → ((i : ℕ) → is_marked seen i ≡ false) →
    ArePut v.field [] seen a x → ArePut v.field a x b y → ((k : ℕ) → k < length changed → RoundMarked v.field 0 x (get_or changed k 0)) → ((k : ℕ) → k < length moved → RoundMarked v.field 0 y (get_or moved k 0)) → IsValueRepair v old values y b
repair_begun v field old values changed moved seen x y a b same n far those size none first second round also =
    let f = v.field in
    let put = put_then f [] a b seen x y first second in
    let waits : (i : ℕ) → is_marked y i ≡ true → Waits (cost_at f) b i = λ i m. elim (put.entered i m) as (λ _. Waits (cost_at f) b i) [ inl t ↦ absurd (both_ways (is_marked seen i) (none i) t) | inr w ↦ w ] in
    let cell : (i : ℕ) → cell_at values i ≡ cell_at old i = λ i. ap (λ (xs : Cells). cell_at xs i) same in
    record {
      size = put.size ∙ size;
      waiting = put.each (λ e c. absurd (omega (arith, c.1)));
      mending = record {
        each = λ i. elim (cases_Bool (is_marked y i)) as (λ _. Waits (cost_at f) b i ⊎ (IsLeastHere f values i (cell_at values i) ⊎ (cell_at values i ≡ wanted_at f i))) [
          | inl m ↦ inl (waits i m)
          | inr m ↦ (let P : Cells → Type 0 = λ xs. IsLeastHere f xs i (cell_at xs i) in inr (inl (subst P (sym same) (least_here i m))))
        ];
        called = λ i m. inl (waits i m);
        kept = λ i. inl (cell i);
      };
      round = λ i l e. let h = those.all i l e in let P : ℕ → Type 0 = RoundMarked f 0 y in subst P h.2 (also h.0 h.1);
    }
  where
    least_here : (i : ℕ) → is_marked y i ≡ false → IsLeastHere v.field old i (cell_at old i)
    least_here i m = elim (cases_lt i (cells_in v.field.ground.size)) as (λ _. IsLeastHere v.field old i (cell_at old i)) [
      | inr l ↦ outside_least v.field field old i n l
      | inl l ↦ far i
          (λ k h near. both_ways (is_marked y i) m (second.marked i (round k h i l near.rows near.columns (omega arith))))
          (λ k h near. both_ways (is_marked y i) m (also k h i l near.rows near.columns (omega arith)))
    ]

pub unmarked_all : (n i : ℕ) → get_or (replicate n false) i false ≡ false
unmarked_all n i = elim (cases_lt i n) as (λ _. get_or (replicate n false) i false ≡ false) [ inl l ↦ get_or-replicate n i false false l | inr l ↦ get_or_past (replicate n false) i false (omega (arith, l, length-replicate {A = Bool} n false)) ]
