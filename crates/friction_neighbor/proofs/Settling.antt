-- What is done with one place that is taken out of the queue.
use Rattle.std.proofs.Common.{◌≡◌, ◌≢◌, ℕ, suc, ◌+◌, ◌-◌, ◌*◌, ◌<◌, ◌≤◌, ℤ, Bool, true, false, List, [], ◌∷◌, length, Option, None, refl, sym, ◌∙◌, ap, subst, arith, inl, inr}
use Rattle.std.specs.Prelude.{◌⊎◌, ◌&&◌, not, slice_set}
use Rattle.std.specs.Int.{from_bool}
use Rattle.std.specs.List.{All, Contains}
use Rattle.std.specs.List.Sorted.{IsPermutation}
use Rattle.std.proofs.lemmas.Bool.{cases_Bool}
use Rattle.std.proofs.lemmas.List.{get_or-set_same, get_or-set_other}
use Rattle.std.proofs.lemmas.List.Sorted.{Contains-permutation, IsPermutation-sym}
use Rattle.map_nums.specs.Grids.{Size, Cells, cell_at, cells_in}
use Rattle.map_defs.specs.Differences.{differs}
use Rattle.map_defs.specs.Nearest.{StepsTo}
use Rattle.layer_tiles.specs.Tiles.{tile_of}
use Rattle.tile_work.specs.PlaceSets.{PlaceSetState}
use Rattle.tile_work.specs.Working.{WorkState, is_copied, written}
use Rattle.tile_work.proofs.Slots.{copied_for}
use Rattle.changed_cells.proofs.Joining.{differs_so, differs_is}
use Rattle.least_costs.proofs.Queues.{contains_front, key_least}
use Rattle.friction_spread.specs.Copied.{IsCopiedWhere}
use Rattle.friction_spread.specs.Costs.{net_of}
use Rattle.friction_spread.proofs.Grounds.{net_costs}
use Rattle.friction_neighbor.specs.Fields.{FieldState, IsField, cost_at, own_at}
use Rattle.friction_neighbor.specs.Gathers.{IsLeastHere}
use Rattle.friction_neighbor.specs.Puts.{is_marked, AreWaiting, ArePut, RoundMarked}
use Rattle.friction_neighbor.specs.Repairs.{wanted_at, IsValueRepair, alone, IsDealt, IsDue, IsCaused}
use Rattle.friction_neighbor.specs.Views.{ViewState}
use Rattle.friction_neighbor.proofs.Agreeing.{wanted_agree}
use Rattle.friction_neighbor.proofs.Counting.{alone_next}
use Rattle.friction_neighbor.proofs.Places.{steps_near}
use Rattle.friction_neighbor.proofs.Putting.{put_none}
use Rattle.friction_neighbor.proofs.Righting.{step_lower, right_here, mended, all_right}

-- ---- one place

differs_self : (values : Cells) (i : ℕ) → differs values values i ≡ false
differs_self values i = elim (cases_Bool (differs values values i)) as (λ _. differs values values i ≡ false) [ inl t ↦ absurd (differs_is values values i t refl) | inr t ↦ t ]

none_told : (b : Bool) → false ≡ (b && false)
none_told true = refl
none_told false = refl

-- a place that had its least value
pub dealt_same : (v : ViewState) (at : ℕ) (old : Cells) (entries : List (ℕ × ℕ)) (seen : PlaceSetState) (c : Option ℤ) → IsLeastHere v.field old at c → cell_at old at ≡ c → IsDealt v at old old entries seen entries seen false
dealt_same v at old entries seen c least e = record {
  value = c;
  least = least;
  here = e;
  other = λ j n. refl;
  put = put_none v.field entries seen;
  len = omega arith;
  behind = inl e;
  told_is = none_told (not (differs v.was v.field.costs at)) ∙ ap (λ d. not (differs v.was v.field.costs at) && d) (sym (differs_self old at));
}

-- one that was given it
module _ (v : ViewState) (at : ℕ) (old new : Cells) (entries entries' : List (ℕ × ℕ)) (seen seen' : PlaceSetState) (c : Option ℤ) (l : at < length old) (least : IsLeastHere v.field old at c) (due : cell_at old at ≢ c) (set : new ≡ slice_set old at c) where
  at_here : cell_at new at ≡ c
  at_here = ap (λ (xs : Cells). cell_at xs at) set ∙ get_or-set_same old at c None l

  at_other : (j : ℕ) → j ≢ at → cell_at new j ≡ cell_at old j
  at_other j n = ap (λ (xs : Cells). cell_at xs j) set ∙ get_or-set_other old at j c None n

  value_differs : differs old new at ≡ true
  value_differs = differs_so old new at (λ e. due (e ∙ at_here))

  pub dealt_known : differs v.was v.field.costs at ≡ true → IsDealt v at old new entries seen entries seen false
  dealt_known t = record {
    value = c;
    least = least;
    here = at_here;
    other = at_other;
    put = put_none v.field entries seen;
    len = omega arith;
    behind = inr (inl t);
    told_is = ap (λ d. not d && differs old new at) (sym t);
  }

  pub dealt_told : differs v.was v.field.costs at ≡ false → ArePut v.field entries seen entries' seen' → length entries' ≤ length entries + 9 → (from floor : ℕ) → from ≡ at → floor ≡ cost_at v.field from + 1 → RoundMarked v.field floor seen' from → IsDealt v at old new entries seen entries' seen' true
  dealt_told t put len from floor e k marked = record {
    value = c;
    least = least;
    here = at_here;
    other = at_other;
    put = put;
    len = omega (arith, len);
    behind = inr (inr (λ j m r q d. let P : ℕ → Type 0 = RoundMarked v.field floor seen' in subst P e marked j m r q (omega (arith, d, k, ap (cost_at v.field) e))));
    told_is = sym (ap (λ d. not d && differs old new at) t ∙ value_differs);
  }

-- a tile that is copied when the place is written was so, or is the place's
pub copied_at : (old new : WorkState) (at : ℕ) (cell : Option ℤ) (cause : Type 0) → new ≡ written old at cell → cause → IsCopiedWhere old at cause new
copied_at old new at cell cause e h t q =
    elim (copied_for old.copied (tile_of old.size at) t (ap (λ (w : WorkState). is_copied w t) (sym e) ∙ q)) as (λ _. (is_copied old t ≡ true) ⊎ ((t ≡ tile_of old.size at) × cause)) [ inl o ↦ inl o | inr o ↦ inr (o, h) ]

pub least_at : (f : FieldState) (values : Cells) (i j : ℕ) (c : Option ℤ) → i ≡ j → IsLeastHere f values i c → IsLeastHere f values j c
least_at f values i j c e h = let P : ℕ → Type 0 = λ k. IsLeastHere f values k c in subst P e h

-- ---- one entry

module _ (v : ViewState) (field : IsField v.field) (old values : Cells) (seen : PlaceSetState) (entries left : List (ℕ × ℕ)) (key at : ℕ) (now : IsValueRepair v old values seen entries) (popped : IsPermutation entries ((key, at) ∷ left)) (lowest : All (λ (y : ℕ × ℕ). key ≤ y.0) entries) where
  there : (x : ℕ × ℕ) → Contains ((key, at) ∷ left) x → Contains entries x
  there x c = Contains-permutation ((key, at) ∷ left) entries x (IsPermutation-sym entries ((key, at) ∷ left) popped) c

  entry : (at < cells_in v.field.ground.size) × (key ≡ cost_at v.field at)
  entry = now.waiting (key, at) (there (key, at) (0, omega arith, refl))

  pub place_within : at < cells_in v.field.ground.size
  place_within = entry.0

  pub key_is : key ≡ cost_at v.field at
  key_is = entry.1

  pub left_waiting : AreWaiting v.field left
  left_waiting x c = now.waiting x (there x (suc c.0, omega (arith, c.1), c.2))

  pub no_lower : (x : ℕ × ℕ) → Contains entries x → cost_at v.field at ≤ x.0
  no_lower x c = omega (arith, key_least key x entries lowest c, entry.1)

  pub left_or : (x : ℕ × ℕ) → Contains entries x → (x ≡ (cost_at v.field at, at)) ⊎ Contains left x
  left_or x c = elim (contains_front x (key, at) left (Contains-permutation entries ((key, at) ∷ left) x popped c)) as (λ _. (x ≡ (cost_at v.field at, at)) ⊎ Contains left x) [
    | inl e ↦ (let P : ℕ → Type 0 = λ k. x ≡ (k, at) in inl (subst P entry.1 e))
    | inr r ↦ inr r
  ]

  -- its least value is the one that is wanted
  pub least_wanted : (c : Option ℤ) → IsLeastHere v.field values at c → c ≡ wanted_at v.field at
  least_wanted c h = right_here (net_of v.field.ground) (net_costs v.field.ground) (cost_at v.field) (own_at v.field) (wanted_at v.field) (wanted_agree v.field field) (cell_at old) (cell_at values) (is_marked seen) entries left at c now.mending no_lower left_or h

  -- so a place that is due has another one than before
  pub due_moved : IsDue v.field values at → cell_at old at ≢ wanted_at v.field at
  due_moved due e =
      let w = least_wanted due.0 due.1 in
      elim (now.mending.kept at) as (λ _. ⊥) [ inl q ↦ due.2 (q ∙ e ∙ sym w) | inr q ↦ due.2 (q ∙ sym w) ]

  module _ (values' : Cells) (seen' : PlaceSetState) (entries' : List (ℕ × ℕ)) (told : Bool) (did : IsDealt v at values values' left seen entries' seen' told) where
    marked_behind : (differs_or : (cell_at values at ≡ did.value) ⊎ ((k : ℕ) → StepsTo (net_of v.field.ground) (cost_at v.field) at k → is_marked seen' k ≡ true)) → IsValueRepair v old values' seen' entries'
    marked_behind behind = record {
      size = did.put.size ∙ now.size;
      waiting = did.put.each left_waiting;
      mending = mended (net_of v.field.ground) (net_costs v.field.ground) (cost_at v.field) (own_at v.field) (wanted_at v.field) (wanted_agree v.field field) (cell_at old) (cell_at values) (is_marked seen) entries left at did.value now.mending no_lower left_or did.least (cell_at values') (is_marked seen') entries' did.here did.other did.put.kept did.put.entered behind;
      round = λ i l e j m r c d. did.put.marked j (now.round i l e j m r c d);
    }

    pub dealt_on : IsValueRepair v old values' seen' entries'
    dealt_on = elim did.behind as (λ _. IsValueRepair v old values' seen' entries') [
      | inl e ↦ marked_behind (inl e)
      | inr b ↦ elim b as (λ _. IsValueRepair v old values' seen' entries') [
        | inl n ↦ marked_behind (inr (λ k s. let h = steps_near v.field field at k s in did.put.marked k (now.round at place_within n k h.to h.rows h.columns (omega arith))))
        | inr m ↦ marked_behind (inr (λ k s. let h = steps_near v.field field at k s in m k h.to h.rows h.columns (step_lower (net_of v.field.ground) (net_costs v.field.ground) (cost_at v.field) (own_at v.field) at k s)))
      ]
    ]

    pub alone_on : alone v old values' ≡ alone v old values + from_bool told
    alone_on = alone_next v old values values' at place_within (now.mending.kept at) (did.here ∙ least_wanted did.value did.least) did.other told did.told_is

pub caused_on : (v : ViewState) (old : Cells) (b c : WorkState) (at : ℕ) (cause : Type 0) → b.size ≡ v.field.ground.size → IsCopiedWhere b at cause c → (cause → (at < cells_in v.field.ground.size) × (cell_at old at ≢ wanted_at v.field at)) → IsCaused v.field old b → IsCaused v.field old c
caused_on v old b c at cause size copied moves caused t e = elim (copied t e) as (λ _. (i : ℕ) × (i < cells_in v.field.ground.size) × (t ≡ tile_of v.field.ground.size i) × (cell_at old i ≢ wanted_at v.field i)) [
  | inl h ↦ caused t h
  | inr h ↦ (let m = moves h.1 in (at, m.0, h.0 ∙ ap (λ (s : Size). tile_of s at) size, m.1))
]

pub all_wanted : (v : ViewState) → IsField v.field → (old values : Cells) (seen : PlaceSetState) (entries : List (ℕ × ℕ)) → entries ≡ [] → IsValueRepair v old values seen entries → (i : ℕ) → cell_at values i ≡ wanted_at v.field i
all_wanted v field old values seen entries e h =
    let P : List (ℕ × ℕ) → Type 0 = λ xs. IsValueRepair v old values seen xs in
    let now = subst P e h in
    all_right (net_of v.field.ground) (net_costs v.field.ground) (cost_at v.field) (own_at v.field) (wanted_at v.field) (wanted_agree v.field field) (cell_at old) (cell_at values) (is_marked seen) now.mending

-- entries in the queue are picks yet to come
pub picks_next : (a n n' m t : ℕ) → n' + 1 ≤ n + 9 * t → 31 * n ≤ a + 279 * m → (a + 288 * m - 31 * n) + (31 + 9 * t) ≤ a + 288 * (m + t) - 31 * n'
picks_next a n n' m t l e = omega arith

pub enough_next : (a n n' m t : ℕ) → n' + 1 ≤ n + 9 * t → 31 * n ≤ a + 279 * m → 31 * n' ≤ a + 279 * (m + t)
enough_next a n n' m t l e = omega arith

pub to_go_falls : (places marks marks' n n' left : ℕ) → left + 1 ≡ n → n' + marks ≡ left + marks' → marks ≤ marks' → marks' ≤ places → 2 * (places - marks') + n' < 2 * (places - marks) + n
to_go_falls places marks marks' n n' left e f l m = omega arith
