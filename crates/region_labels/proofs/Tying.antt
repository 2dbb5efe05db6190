-- Labels that lead to a place of their region, and two that are made to lead to one.
use Rattle.std.proofs.Common.{◌≡◌, ◌≢◌, ◌⊎◌, inl, inr, ℕ, zero, suc, ◌<◌, ◌≤◌, length, min, max, Option, Some, None, refl, sym, ◌∙◌, ap, subst, arith, ℤ, pos, negsuc, true, false, is_some}
use Rattle.std.specs.Prelude.{slice_set}
use Rattle.std.proofs.Math.Seq.{map-set_same}
use Rattle.std.proofs.lemmas.Bool.{cases_lt, cases_eq}
use Rattle.std.proofs.lemmas.List.{get_or-set_same, get_or-set_other, get_or_past, length-set}
use Rattle.map_nums.specs.Grids.{Size, Cells, cell_at, is_neighbour}
use Rattle.map_defs.specs.Regions.{Has}
use Rattle.region_labels.specs.Flood.{IsJoined}
use Rattle.region_labels.specs.Lists.{labelled}
use Rattle.region_labels.specs.Provisional.{IsProvisional, AreProvisional, IsJoinStep}
use Rattle.region_labels.specs.Roots.{told_by, told_in, followed, root_in, IsBack, AreBack}
use Rattle.region_labels.proofs.Rooting.{root_told, root_top, root_back, root_last, root_only, tied_alike, tied_both}
use Rattle.region_labels.proofs.Walks.{ends, joined_self, joined_more, joined_then, joined_back}

-- ---- places that are told

told_back : (i : ℕ) (label : Option ℤ) → IsBack i label → told_by i label ≤ i
told_back i None b = omega arith
told_back i (Some (pos zero)) b = absurd b
told_back i (Some (pos (suc place))) b = b
told_back i (Some (negsuc n)) b = absurd b

told_past : (labels : Cells) (i : ℕ) → length labels ≤ i → told_in labels i ≡ i
told_past labels i l = ap (told_by i) (get_or_past labels i None l)

pub told_least : (labels : Cells) → AreBack labels → (i : ℕ) → told_in labels i ≤ i
told_least labels back i = elim (cases_lt i (length labels)) as (λ _. told_in labels i ≤ i) [
  | inl l ↦ told_back i (cell_at labels i) (back i l)
  | inr l ↦ omega (arith, told_past labels i l)
]

provisional_back : (s : Size) (cells : Cells) (i : ℕ) (cell label : Option ℤ) → IsProvisional s cells i cell label → IsBack i label
provisional_back s cells i None label p = subst (IsBack i) (sym p) tt
provisional_back s cells i (Some z) label p = subst (IsBack i) (sym p.1) p.2

pub back_of : (s : Size) (cells labels : Cells) → AreProvisional s cells labels → AreBack labels
back_of s cells labels h i l = provisional_back s cells i (cell_at cells i) (cell_at labels i) (h i l)

pub provisional_at : (s : Size) (cells : Cells) (z : ℤ) (i : ℕ) (cell label : Option ℤ) → cell ≡ Some z → IsProvisional s cells i cell label → IsProvisional s cells i (Some z) label
provisional_at s cells z i cell label e = subst (λ (c : Option ℤ). IsProvisional s cells i c label) e

module _ (s : Size) (cells labels : Cells) (h : AreProvisional s cells labels) where
  back : (i : ℕ) → told_in labels i ≤ i
  back = told_least labels (back_of s cells labels h)

  pub told_joined : (z : ℤ) (i : ℕ) → i < length labels → Has s cells z i → IsJoined s cells z (told_in labels i) i
  told_joined z i l has =
      let p = provisional_at s cells z i (cell_at cells i) (cell_at labels i) has.1 (h i l) in
      let e : p.0 ≡ told_in labels i = sym (ap (told_by i) p.1) in
      let P : ℕ → Type 0 = λ j. IsJoined s cells z j i in
      subst P e p.3

  -- what is joined to a place has its number
  begins : (z : ℤ) (i j : ℕ) → IsJoined s cells z i j → Has s cells z i
  begins z i j w = let b = joined_back s cells z i j w in ends s cells z j i b.0 b.1

  followed_joined : (z : ℤ) (n i : ℕ) → i < length labels → Has s cells z i → IsJoined s cells z (followed (told_in labels) n i) i
  followed_joined z zero i l has = joined_self s cells z i has
  followed_joined z (suc n) i l has =
      let w = told_joined z i l has in
      let b = back i in
      joined_then s cells z (followed (told_in labels) n (told_in labels i)) (told_in labels i) i (followed_joined z n (told_in labels i) (omega (arith, b, l)) (begins z (told_in labels i) i w)) w

  -- a place is joined to that to which it leads
  pub root_joined : (z : ℤ) (i : ℕ) → i < length labels → Has s cells z i → IsJoined s cells z (root_in labels i) i
  root_joined z i l has = followed_joined z i i l has

  pub root_least : (i : ℕ) → root_in labels i ≤ i
  root_least i = root_back (told_in labels) back i

-- ---- two places are joined

module _ (s : Size) (cells labels : Cells) (h : AreProvisional s cells labels) (z : ℤ) (one other low high : ℕ) (one_in : one < length labels) (other_in : other < length labels) (one_has : Has s cells z one) (other_has : Has s cells z other) (near : is_neighbour s one other ≡ true)
    (low_is : low ≡ min (root_in labels one) (root_in labels other)) (high_is : high ≡ max (root_in labels one) (root_in labels other)) (labels' : Cells) (set_is : labels' ≡ slice_set labels high (Some (pos (suc low)))) where
  abbrev a : ℕ
  a = root_in labels one

  abbrev b : ℕ
  b = root_in labels other

  order : low ≤ high
  order = omega (arith, low_is, high_is)

  which : ((a ≡ low) × (b ≡ high)) ⊎ ((a ≡ high) × (b ≡ low))
  which = elim (cases_lt a b) as (λ _. ((a ≡ low) × (b ≡ high)) ⊎ ((a ≡ high) × (b ≡ low))) [
    | inl l ↦ inl (omega (arith, low_is, l), omega (arith, high_is, l))
    | inr l ↦ inr (omega (arith, high_is, l), omega (arith, low_is, l))
  ]

  one_joined : IsJoined s cells z a one
  one_joined = root_joined s cells labels h z one one_in one_has

  other_joined : IsJoined s cells z b other
  other_joined = root_joined s cells labels h z other other_in other_has

  both_joined : IsJoined s cells z a b
  both_joined = joined_then s cells z a other b (joined_more s cells z a one other one_joined near other_has) (joined_back s cells z b other other_joined)

  abbrev AreLinked : Type 0
  AreLinked = IsJoined s cells z low high × Has s cells z high × (told_in labels low ≡ low) × (told_in labels high ≡ high) × (high < length labels)

  linked : AreLinked
  linked =
      let told = told_in labels in
      let ta : told a ≡ a = root_last told (back s cells labels h) one in
      let tb : told b ≡ b = root_last told (back s cells labels h) other in
      let la = root_least s cells labels h one in
      let lb = root_least s cells labels h other in
      let P : ℕ → Type 0 = λ i. told i ≡ i in
      let J : ℕ → ℕ → Type 0 = IsJoined s cells z in
      let H : ℕ → Type 0 = Has s cells z in
      elim which as (λ _. AreLinked) [
        | inl e ↦ (subst (λ (j : ℕ). J low j) e.1 (subst (λ (i : ℕ). J i b) e.0 both_joined), subst H e.1 (begins s cells labels h z b other other_joined), subst P e.0 ta, subst P e.1 tb, omega (arith, e.1, lb, other_in))
        | inr e ↦ (subst (λ (j : ℕ). J low j) e.0 (subst (λ (i : ℕ). J i a) e.1 (joined_back s cells z a b both_joined)), subst H e.0 (begins s cells labels h z a one one_joined), subst P e.1 tb, subst P e.0 ta, omega (arith, e.0, la, one_in))
      ]

  set_here : cell_at labels' high ≡ Some (pos (suc low))
  set_here = rw (set_is) (get_or-set_same labels high (Some (pos (suc low))) None linked.4)

  set_other : (i : ℕ) → i ≢ high → cell_at labels' i ≡ cell_at labels i
  set_other i n = rw (set_is) (get_or-set_other labels high i (Some (pos (suc low))) None n)

  count : length labels' ≡ length labels
  count = ap length set_is ∙ length-set labels high (Some (pos (suc low)))

  join_provisional : AreProvisional s cells labels'
  join_provisional i l = elim (cases_eq i high) as (λ _. IsProvisional s cells i (cell_at cells i) (cell_at labels' i)) [
    | inl e ↦ (let P : ℕ → Type 0 = λ j. IsProvisional s cells j (cell_at cells j) (cell_at labels' j) in
        subst P (sym e) (subst (λ (c : Option ℤ). IsProvisional s cells high c (cell_at labels' high)) (sym linked.1.1) (low, set_here, order, linked.0)))
    | inr n ↦ subst (IsProvisional s cells i (cell_at cells i)) (sym (set_other i n)) (h i (omega (arith, l, count)))
  ]

  some_label : (label : Option ℤ) → IsProvisional s cells high (Some z) label → is_some label ≡ true
  some_label label p = ap is_some p.1

  join_marks : labelled labels' ≡ labelled labels
  join_marks =
      let was : is_some (cell_at labels high) ≡ true = some_label (cell_at labels high) (provisional_at s cells z high (cell_at cells high) (cell_at labels high) linked.1.1 (h high linked.4)) in
      ap labelled set_is ∙ map-set_same is_some labels high (Some (pos (suc low))) None (sym was)

  here : told_in labels' high ≡ low
  here = ap (told_by high) set_here

  else_same : (i : ℕ) → i ≢ high → told_in labels' i ≡ told_in labels i
  else_same i n = ap (told_by i) (set_other i n)

  pub join_step : IsJoinStep s cells labels labels'
  join_step = record {
    provisional = join_provisional;
    marks = join_marks;
    tied = λ i j e. tied_alike (told_in labels) (told_in labels') low high (back s cells labels h) order linked.2 linked.3 here else_same i j e;
  }

  pub join_tied : root_in labels' one ≡ root_in labels' other
  join_tied =
      let both = tied_both (told_in labels) (told_in labels') low high (back s cells labels h) order linked.2 linked.3 here else_same one other in
      elim which as (λ _. root_in labels' one ≡ root_in labels' other) [ inl e ↦ both (inl e.0) (inr e.1) | inr e ↦ both (inr e.0) (inl e.1) ]

-- ---- a place tells at once where it leads

module _ (s : Size) (cells labels : Cells) (h : AreProvisional s cells labels) (at : ℕ) (within : at < length labels) (some : is_some (cell_at labels at) ≡ true) (labels' : Cells) (set_is : labels' ≡ slice_set labels at (Some (pos (suc (root_in labels at))))) where
  abbrev told : ℕ → ℕ
  told = told_in labels

  abbrev told' : ℕ → ℕ
  told' = told_in labels'

  least : (i : ℕ) → told i ≤ i
  least = back s cells labels h

  short_here : cell_at labels' at ≡ Some (pos (suc (root_in labels at)))
  short_here = rw (set_is) (get_or-set_same labels at (Some (pos (suc (root_in labels at)))) None within)

  short_other : (i : ℕ) → i ≢ at → cell_at labels' i ≡ cell_at labels i
  short_other i n = rw (set_is) (get_or-set_other labels at i (Some (pos (suc (root_in labels at)))) None n)

  root_once : (i : ℕ) → root_in labels (root_in labels i) ≡ root_in labels i
  root_once i = root_top told least (root_in labels i) (root_last told least i)

  told_still : (i : ℕ) → root_in labels (told' i) ≡ root_in labels i
  told_still i = elim (cases_eq i at) as (λ _. root_in labels (told' i) ≡ root_in labels i) [
    | inl e ↦ ap (λ x. root_in labels (told' x)) e ∙ ap (λ (l : Option ℤ). root_in labels (told_by at l)) short_here ∙ root_once at ∙ ap (root_in labels) (sym e)
    | inr n ↦ ap (λ (l : Option ℤ). root_in labels (told_by i l)) (short_other i n) ∙ root_told told least i
  ]

  told_top : (i : ℕ) → told' i ≡ i → root_in labels i ≡ i
  told_top i t = elim (cases_eq i at) as (λ _. root_in labels i ≡ i) [
    | inl e ↦ ap (root_in labels) e ∙ sym (ap (told_by at) short_here) ∙ ap told' (sym e) ∙ t
    | inr n ↦ root_top told least i (sym (ap (told_by i) (short_other i n)) ∙ t)
  ]

  least' : (i : ℕ) → told' i ≤ i
  least' i = elim (cases_eq i at) as (λ _. told' i ≤ i) [
    | inl e ↦ (let t : told' i ≡ root_in labels at = ap told' e ∙ ap (told_by at) short_here in let l = root_back told least at in omega (arith, t, l, e))
    | inr n ↦ (let t : told' i ≡ told i = ap (told_by i) (short_other i n) in let l = least i in omega (arith, t, l))
  ]

  root_still : (i : ℕ) → root_in labels i ≡ root_in labels' i
  root_still i = root_only told' least' (root_in labels) told_still told_top i

  number_of : (cell : Option ℤ) → IsProvisional s cells at cell (cell_at labels at) → cell ≡ cell_at cells at → IsProvisional s cells at cell (cell_at labels' at)
  number_of None p e = absurd (no_label (sym some ∙ ap is_some p))
    where
      no_label : true ≡ false → ⊥
      no_label q = cc
  number_of (Some z) p e = (root_in labels at, short_here, root_back told least at, root_joined s cells labels h z at within (has p.3))
    where
      has : IsJoined s cells z p.0 at → Has s cells z at
      has w = ends s cells z p.0 at w.0 w.1

  short_provisional : AreProvisional s cells labels'
  short_provisional i l = elim (cases_eq i at) as (λ _. IsProvisional s cells i (cell_at cells i) (cell_at labels' i)) [
    | inl e ↦ (let P : ℕ → Type 0 = λ j. IsProvisional s cells j (cell_at cells j) (cell_at labels' j) in subst P (sym e) (number_of (cell_at cells at) (h at within) refl))
    | inr n ↦ subst (IsProvisional s cells i (cell_at cells i)) (sym (short_other i n)) (h i (omega (arith, l, ap length set_is, length-set labels at (Some (pos (suc (root_in labels at)))))))
  ]

  pub shorten_step : IsJoinStep s cells labels labels'
  shorten_step = record {
    provisional = short_provisional;
    marks = ap labelled set_is ∙ map-set_same is_some labels at (Some (pos (suc (root_in labels at)))) None (sym some);
    tied = λ i j e. sym (root_still i) ∙ e ∙ root_still j;
  }
