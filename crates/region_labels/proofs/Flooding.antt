-- A region is reached place by place, each once, and has its label when no place of it has a further neighbour.
use Rattle.std.proofs.Common.{◌≡◌, ◌⊎◌, inl, inr, ℕ, suc, ◌+◌, ◌<◌, ◌≤◌, Bool, true, false, List, [], ◌∷◌, ◌++◌, length, get_or, Option, Some, None, refl, sym, ◌∙◌, subst, arith, ℤ, pos, cond}
use Rattle.std.specs.Prelude.{slice_set}
use Rattle.std.proofs.lemmas.Bool.{cases_lt, cases_eq, cases_Bool, cond_both, false_from_ne_true, both_ways}
use Rattle.std.proofs.lemmas.List.{get_or_append_left, get_or_push, length_push, length-set, get_or-set_same, get_or-set_other}
use Rattle.std.proofs.lemmas.List.Sums.{sum_by-set}
use Rattle.map_nums.specs.Grids.{Size, Cells, cell_at, cells_in, row_of, column_of, gap, is_neighbour}
use Rattle.map_defs.specs.Cells.{same_cell}
use Rattle.map_defs.specs.Regions.{Has, WalkTo, IsFirstJoined, IsRegionLabel, IsLabelOf}
use Rattle.map_defs.proofs.RegionCells.{same_is, same_so}
use Rattle.region_labels.specs.Flood.{is_marked, one_if, marks_in, Holds, FloodState, reached, IsFound, IsFlooding, IsRound, AreWhole, IsGrown, IsFlooded}
use Rattle.region_labels.proofs.Walks.{near_so, near_sym, joined_self, joined_more, joined_then, joined_back, short, ends}

-- ---- marks

pub marked_set : (marks : List Bool) (j : ℕ) → j < length marks → is_marked (slice_set marks j true) j ≡ true
marked_set marks j l = get_or-set_same marks j true false l

pub marked_more : (marks : List Bool) (j i : ℕ) → j < length marks → is_marked marks i ≡ true → is_marked (slice_set marks j true) i ≡ true
marked_more marks j i l e = elim (cases_eq i j) as (λ _. is_marked (slice_set marks j true) i ≡ true) [
  | inl q ↦ rw (q) (marked_set marks j l)
  | inr q ↦ get_or-set_other marks j i true false q ∙ e
]

-- and no other place is
pub marked_only : (marks : List Bool) (j i : ℕ) → is_marked (slice_set marks j true) i ≡ true → (i ≡ j) ⊎ (is_marked marks i ≡ true)
marked_only marks j i e = elim (cases_eq i j) as (λ _. (i ≡ j) ⊎ (is_marked marks i ≡ true)) [
  | inl q ↦ inl q
  | inr q ↦ inr (sym (get_or-set_other marks j i true false q) ∙ e)
]

pub marks_set : (marks : List Bool) (j : ℕ) → j < length marks → is_marked marks j ≡ false → marks_in (slice_set marks j true) ≡ marks_in marks + 1
marks_set marks j l e =
    let h = sum_by-set one_if marks j true false l in
    let w : one_if (get_or marks j false) ≡ 0 = rw (e) refl in
    omega (arith, h, w)

-- ---- lists

pub holds_more : (found : List ℕ) (i j : ℕ) → Holds found i → Holds (found ++ j ∷ []) i
holds_more found i j h = (h.0, omega (arith, h.1, length_push found j), get_or_append_left found (j ∷ []) 0 h.0 h.1 ∙ h.2)

pub holds_last : (found : List ℕ) (j : ℕ) → Holds (found ++ j ∷ []) j
holds_last found j = (length found, omega (arith, length_push found j), get_or_push found j 0 (length found) refl)

-- what holds of each place of a list and of one more
pub each_more : (P : ℕ → Type 0) (found : List ℕ) (j : ℕ) → ((k : ℕ) → k < length found → P (get_or found k 0)) → P j → (k : ℕ) → k < length (found ++ j ∷ []) → P (get_or (found ++ j ∷ []) k 0)
each_more P found j each here k l = elim (cases_lt k (length found)) as (λ _. P (get_or (found ++ j ∷ []) k 0)) [
  | inl m ↦ subst P (sym (get_or_append_left found (j ∷ []) 0 k m)) (each k m)
  | inr m ↦ subst P (sym (get_or_push found j 0 k (omega (arith, m, l, length_push found j)))) here
]

-- ---- one more place

module _ (s : Size) (cells : Cells) (z : ℤ) (root : ℕ) (before : List Bool) (f : FloodState) (h : IsFlooding s cells z root before f) where
  pub found_more : (j i : ℕ) → j < length f.marks → IsFound s cells z root before f.marks i → IsFound s cells z root before (slice_set f.marks j true) i
  found_more j i l e = record { has = e.has; joined = e.joined; marked = marked_more f.marks j i l e.marked; fresh = e.fresh }

  pub held : (i : ℕ) → Holds f.found i → IsFound s cells z root before f.marks i
  held i m = let P : ℕ → Type 0 = IsFound s cells z root before f.marks in subst P m.2 (h.each m.0 m.1)

  one_more : (from j : ℕ) → Holds f.found from → is_neighbour s from j ≡ true → Has s cells z j → is_marked f.marks j ≡ false → IsFlooding s cells z root before (record f { marks = slice_set f.marks j true; found = f.found ++ j ∷ [] })
  one_more from j m n has new =
      let l : j < length f.marks = omega (arith, h.size, has.0) in
      let fresh : is_marked before j ≡ false = false_from_ne_true (is_marked before j) (λ e. both_ways (is_marked f.marks j) new (h.kept j e)) in
      record {
        size = length-set f.marks j true ∙ h.size;
        kept = λ i e. marked_more f.marks j i l (h.kept i e);
        each = each_more (IsFound s cells z root before (slice_set f.marks j true)) f.found j (λ k p. found_more j (get_or f.found k 0) l (h.each k p)) (record {
          has = has;
          joined = joined_more s cells z root from j (held from m).joined n has;
          marked = marked_set f.marks j l;
          fresh = fresh;
        });
        only = λ i e b. elim (marked_only f.marks j i e) as (λ _. Holds (f.found ++ j ∷ []) i) [
          | inl q ↦ rw (q) (holds_last f.found j)
          | inr q ↦ holds_more f.found i j (h.only i q b)
        ];
        root_found = holds_more f.found root j h.root_found;
        counted = omega (arith, marks_set f.marks j l new, h.counted, length_push f.found j);
      }

  pub flood_reached : (from j : ℕ) → Holds f.found from → gap (row_of s from) (row_of s j) ≤ 1 → gap (column_of s from) (column_of s j) ≤ 1 → j < cells_in s → IsFlooding s cells z root before (reached cells (Some z) j f)
  flood_reached from j m rows columns l =
      cond_both (is_marked f.marks j) f (cond (same_cell (cell_at cells j) (Some z)) (record f { marks = slice_set f.marks j true; found = f.found ++ j ∷ [] }) f) (IsFlooding s cells z root before) (λ _. h)
      (λ new. cond_both (same_cell (cell_at cells j) (Some z)) (record f { marks = slice_set f.marks j true; found = f.found ++ j ∷ [] }) f (IsFlooding s cells z root before)
      (λ same. one_more from j m (near_so s from j (record { other = λ q. both_ways (is_marked f.marks j) new (let e = (held from m).marked in rw (q) at e); rows = rows; columns = columns })) (l, same_is (cell_at cells j) (Some z) same) new)
      (λ _. h))

-- ---- what a step leaves

pub holds_kept : (old new : List ℕ) (i : ℕ) → length old ≤ length new → ((k : ℕ) → k < length old → get_or new k 0 ≡ get_or old k 0) → Holds old i → Holds new i
holds_kept old new i n same h = (h.0, omega (arith, h.1), same h.0 h.1 ∙ h.2)

pub grown_then : (s : Size) (cells : Cells) (value : Option ℤ) (from : ℕ) (a b c : FloodState) → IsGrown s cells value from a b → IsGrown s cells value from b c → IsGrown s cells value from a c
grown_then s cells value from a b c g h = record {
  floods = λ z root before e p m. h.floods z root before e (g.floods z root before e p m) (holds_kept a.found b.found from g.grows g.stays m);
  marked = λ i e. h.marked i (g.marked i e);
  extent = h.extent ∙ g.extent;
  size = h.size ∙ g.size;
  grows = omega (arith, g.grows, h.grows);
  stays = λ k l. h.stays k (omega (arith, l, g.grows)) ∙ g.stays k l;
}

added : (s : Size) (cells : Cells) (value : Option ℤ) (j : ℕ) (f : FloodState) → j < length f.marks → (P : FloodState → Type 0) → P f → P (record f { marks = slice_set f.marks j true; found = f.found ++ j ∷ [] }) → P (reached cells value j f)
added s cells value j f l P p q =
    cond_both (is_marked f.marks j) f (cond (same_cell (cell_at cells j) value) (record f { marks = slice_set f.marks j true; found = f.found ++ j ∷ [] }) f) P (λ _. p)
    (λ _. cond_both (same_cell (cell_at cells j) value) (record f { marks = slice_set f.marks j true; found = f.found ++ j ∷ [] }) f P (λ _. q) (λ _. p))

pub grown_reached : (s : Size) (cells : Cells) (value : Option ℤ) (from j : ℕ) (f : FloodState) → gap (row_of s from) (row_of s j) ≤ 1 → gap (column_of s from) (column_of s j) ≤ 1 → j < cells_in s → length f.marks ≡ cells_in s → IsGrown s cells value from f (reached cells value j f)
grown_reached s cells value from j f rows columns l n =
    let m : j < length f.marks = omega (arith, l, n) in
    record {
      floods = λ z root before e h k. rw (e) (flood_reached s cells z root before f h from j k rows columns l);
      marked = λ i e. added s cells value j f m (λ (g : FloodState). is_marked g.marks i ≡ true) e (marked_more f.marks j i m e);
      extent = added s cells value j f m (λ (g : FloodState). g.size ≡ f.size) refl refl;
      size = added s cells value j f m (λ (g : FloodState). length g.marks ≡ length f.marks) refl (length-set f.marks j true);
      grows = added s cells value j f m (λ (g : FloodState). length f.found ≤ length g.found) (omega arith) (omega (arith, length_push f.found j));
      stays = λ k p. added s cells value j f m (λ (g : FloodState). get_or g.found k 0 ≡ get_or f.found k 0) refl (get_or_append_left f.found (j ∷ []) 0 k p);
    }

pub reached_marked : (cells : Cells) (value : Option ℤ) (j : ℕ) (f : FloodState) → j < length f.marks → cell_at cells j ≡ value → is_marked (reached cells value j f).marks j ≡ true
reached_marked cells value j f l e =
    let P : FloodState → Type 0 = λ (g : FloodState). is_marked g.marks j ≡ true in
    cond_both (is_marked f.marks j) f (cond (same_cell (cell_at cells j) value) (record f { marks = slice_set f.marks j true; found = f.found ++ j ∷ [] }) f) P (λ m. m)
    (λ _. cond_both (same_cell (cell_at cells j) value) (record f { marks = slice_set f.marks j true; found = f.found ++ j ∷ [] }) f P (λ _. marked_set f.marks j l)
    (λ w. absurd (both_ways (same_cell (cell_at cells j) value) w (same_so (cell_at cells j) value e))))

-- ---- a whole region

-- the flood begins at its root
pub flood_root : (s extent : Size) (cells : Cells) (z : ℤ) (root : ℕ) (marks : List Bool) → length marks ≡ cells_in s → Has s cells z root → is_marked marks root ≡ false → IsFlooding s cells z root marks (record { size = extent; marks = slice_set marks root true; found = root ∷ [] })
flood_root s extent cells z root marks n h new =
    let l : root < length marks = omega (arith, n, h.0) in
    record {
      size = length-set marks root true ∙ n;
      kept = λ i e. marked_more marks root i l e;
      each = each_more (IsFound s cells z root marks (slice_set marks root true)) [] root (λ k p. absurd (omega arith)) (record { has = h; joined = joined_self s cells z root h; marked = marked_set marks root l; fresh = new });
      only = λ i e b. elim (marked_only marks root i e) as (λ _. Holds (root ∷ []) i) [
        | inl q ↦ (0, omega arith, sym q)
        | inr q ↦ absurd (both_ways (is_marked marks i) b q)
      ];
      root_found = (0, omega arith, refl);
      counted = marks_set marks root l new;
    }

module _ (s : Size) (cells : Cells) (z : ℤ) (root : ℕ) (before : List Bool) (whole : AreWhole s cells before) (f : FloodState) (h : IsFlooded s cells z root before f) where
  round_held : (i : ℕ) → Holds f.found i → IsRound s cells z f.marks i
  round_held i m = let P : ℕ → Type 0 = IsRound s cells z f.marks in subst P m.2 (h.round m.0 m.1)

  -- a neighbour of the number is in the region in hand
  next_held : (i j : ℕ) → Holds f.found i → is_neighbour s i j ≡ true → Has s cells z j → Holds f.found j
  next_held i j m n has =
      let e = held s cells z root before f h.flooding i m in
      let fresh : is_marked before j ≡ false = false_from_ne_true (is_marked before j) (λ b. both_ways (is_marked before i) e.fresh (whole z j b has i (near_sym s i j n) e.has)) in
      h.flooding.only j (round_held i m j n has) fresh

  walk_held : (j i : ℕ) (js : List ℕ) → Holds f.found i → WalkTo s cells z j i js → Holds f.found j
  walk_held j i [] m w = let P : ℕ → Type 0 = Holds f.found in subst P w.1 m
  walk_held j i (k ∷ js) m w = walk_held j k js (next_held i k m (near_sym s k i w.1) (ends s cells z j k js w.2)) w.2

  -- its least place is its label
  pub first_joined : (first i : ℕ) → Holds f.found first → ((j : ℕ) → Holds f.found j → first ≤ j) → Holds f.found i → IsFirstJoined s cells z i first
  first_joined first i m low k =
      let a = held s cells z root before f h.flooding first m in
      let b = held s cells z root before f h.flooding i k in
      record {
        joined = short s cells z first i (joined_then s cells z first root i (joined_back s cells z root first a.joined) b.joined);
        least = λ j w. low j (walk_held j i w.0 k w.1);
      }

  label_of : (first i : ℕ) → (c : Option ℤ) → c ≡ Some z → IsFirstJoined s cells z i first → IsLabelOf s cells i c (Some (pos (suc first)))
  label_of first i None e w = cc
  label_of first i (Some y) e w = let P : ℤ → Type 0 = λ x. IsLabelOf s cells i (Some x) (Some (pos (suc first))) in let q : z ≡ y = cc in subst P q (first, refl, w)

  pub label_right : (first i : ℕ) → Holds f.found first → ((j : ℕ) → Holds f.found j → first ≤ j) → Holds f.found i → IsRegionLabel s cells i (Some (pos (suc first)))
  label_right first i m low k = label_of first i (cell_at cells i) (held s cells z root before f h.flooding i k).has.1 (first_joined first i m low k)

  same_number : (y : ℤ) (i : ℕ) → Has s cells y i → Has s cells z i → y ≡ z
  same_number y i p q = let e : Some y ≡ Some z = sym p.1 ∙ q.1 in cc

  -- and whole regions are marked again
  pub whole_again : AreWhole s cells f.marks
  whole_again y i e p j n q = elim (cases_Bool (is_marked before i)) as (λ _. is_marked f.marks j ≡ true) [
    | inl b ↦ h.flooding.kept j (whole y i b p j n q)
    | inr b ↦ (let m = h.flooding.only i e b in
        let same : y ≡ z = same_number y i p (held s cells z root before f h.flooding i m).has in
        let P : ℤ → Type 0 = λ x. Has s cells x j in
        round_held i m j n (subst P same q))
  ]
