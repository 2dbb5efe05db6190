-- Sections of whole zones, and the one that has a zone.
use Rattle.std.proofs.Common.{◌≡◌, inl, inr, ℕ, zero, suc, ◌+◌, ◌-◌, ◌<◌, ◌≤◌, List, [], ◌∷◌, ◌++◌, length, get_or, slice_get, Some, ◌↔◌, refl, sym, ◌∙◌, ap, subst, append_assoc, arith, ℤ, pos, ◌<ℤ◌, ◌≤ℤ◌}
use Rattle.std.specs.Ordering.{int_eq}
use Rattle.std.proofs.lemmas.Int.{ints, by_lt_z}
use Rattle.std.proofs.lemmas.Bool.{cases_lt}
use Rattle.std.proofs.lemmas.List.{append-nil, get_or_default}
use Rattle.std.proofs.lemmas.List.Elements.{filter-append}
use Rattle.std.proofs.lemmas.Option.{get_or_from_slice_get}
use Rattle.map_nums.proofs.Ascending.{differs}
use Rattle.zonal_totals.specs.declared.entries.Entry.{Entry}
use Rattle.zonal_totals.specs.Pairs.{rank, floor, IsShort}
use Rattle.zonal_totals.specs.Entries.{top_of, Climbs}
use Rattle.zonal_totals.specs.Numbers.{part_of}
use Rattle.zonal_totals.specs.Sections.{joined, end_of, lowest, last_zone, IsOneZone, AreSections}
use Rattle.zonal_totals.proofs.Climbing.{climbs_from, climbs_join}

-- ---- bounds

pub joined_push : (cs : List (List Entry)) (es : List Entry) → joined (cs ++ es ∷ []) ≡ joined cs ++ es
joined_push [] es = append-nil es
joined_push (fs ∷ cs) es = ap (λ (l : List Entry). fs ++ l) (joined_push cs es) ∙ sym (append_assoc fs (joined cs) es)

-- an entry ranks no higher than the end of its zone, and one above the end of a zone is of a higher one
pub rank_end : (e : Entry) → IsShort e.pair → rank e.pair ≤ℤ end_of e.pair.zone
rank_end e s = omega (arith, ints, s.high_key)

pub zone_above : (z : ℤ) (e : Entry) → IsShort e.pair → end_of z <ℤ rank e.pair → z <ℤ e.pair.zone
zone_above z e s h = by_lt_z z e.pair.zone (λ l. l) (λ l. absurd (omega (arith, ints, s.high_key, h)))

pub above_zone : (z : ℤ) (e : Entry) → IsShort e.pair → z <ℤ e.pair.zone → end_of z <ℤ rank e.pair
above_zone z e s h = omega (arith, ints, s.low_key, h)

pub end_lowest : (es : List Entry) → Climbs (end_of lowest) es → Climbs floor es
end_lowest es c = climbs_from (end_of lowest) floor es (omega (arith, ints)) c

-- the zones ascend
pub zones_le : (p q : Entry) → IsShort p.pair → IsShort q.pair → rank p.pair <ℤ rank q.pair → p.pair.zone ≤ℤ q.pair.zone
zones_le p q s t h = by_lt_z q.pair.zone p.pair.zone (λ l. absurd (omega (arith, ints, s.low_key, t.high_key, h, l))) (λ l. omega (arith, ints, l))

last_rises : (e : Entry) (es : List Entry) → IsShort e.pair → Climbs (rank e.pair) es → e.pair.zone ≤ℤ last_zone e.pair.zone es
last_rises e [] k c = omega (arith, ints)
last_rises e (f ∷ es) k c = omega (arith, ints, zones_le e f k c.2 c.0, last_rises f es c.2 c.3)

pub last_from : (z : ℤ) (es : List Entry) → Climbs (end_of z) es → z ≤ℤ last_zone z es
last_from z [] c = omega (arith, ints)
last_from z (e ∷ es) c = omega (arith, ints, zone_above z e c.2 c.0, last_rises e es c.2 c.3)

pub top_end : (r z : ℤ) (es : List Entry) → r ≤ℤ end_of z → Climbs r es → top_of r es ≤ℤ end_of (last_zone z es)
top_end r z [] h c = h
top_end r z (e ∷ es) h c = top_end (rank e.pair) e.pair.zone es (rank_end e c.2) c.3

pub last_join : (z : ℤ) (es fs : List Entry) → last_zone z (es ++ fs) ≡ last_zone (last_zone z es) fs
last_join z [] fs = refl
last_join z (e ∷ es) fs = last_join e.pair.zone es fs

le_itself : (z : ℤ) → z ≤ℤ z
le_itself z = omega (arith, ints)

pub sections_climb : (z : ℤ) (cs : List (List Entry)) → AreSections z cs → Climbs (end_of z) (joined cs)
sections_climb z [] s = tt
sections_climb z (es ∷ cs) s =
    climbs_join (end_of z) es (joined cs) s.1 (climbs_from (end_of (last_zone z es)) (top_of (end_of z) es) (joined cs) (top_end (end_of z) z es (le_itself (end_of z)) s.1) (sections_climb (last_zone z es) cs s.2))

pub sections_push : (z : ℤ) (cs : List (List Entry)) (es : List Entry) → AreSections z cs → 0 < length es → Climbs (end_of (last_zone z (joined cs))) es → AreSections z (cs ++ es ∷ [])
sections_push z [] es s h c = (h, c, tt)
sections_push z (fs ∷ cs) es s h c =
    (s.0, s.1, sections_push (last_zone z fs) cs es s.2 h (subst (λ y. Climbs (end_of y) es) (last_join z fs (joined cs)) c))

-- the zone of the last entry
pub last_at : (z : ℤ) (es : List Entry) (d : Entry) → 0 < length es → last_zone z es ≡ (get_or es (length es - 1) d).pair.zone
last_at z [] d h = absurd (omega arith)
last_at z (e ∷ []) d h = refl
last_at z (e ∷ f ∷ es) d h =
    let k : length (e ∷ f ∷ es) - 1 ≡ suc (length (f ∷ es) - 1) = omega arith in
    last_at e.pair.zone (f ∷ es) d (omega arith) ∙ sym (ap (λ n. (get_or (e ∷ f ∷ es) n d).pair.zone) k)

-- entries that begin and end with the same zone
pub one_zone_some : (es : List Entry) → IsOneZone es → 0 < length es
one_zone_some [] o = absurd o
one_zone_some (e ∷ es) o = omega arith

pub one_zone : (es : List Entry) (first last : Entry) → Some first ≡ slice_get es 0 → Some last ≡ slice_get es (length es - 1) → (first.pair.zone ≡ last.pair.zone) ↔ IsOneZone es
one_zone [] first last f l = absurd cc
one_zone (e ∷ es) first last f l =
    let same : first ≡ e = cc in
    let end = last_at lowest (e ∷ es) last (omega arith) ∙ ap (λ (x : Entry). x.pair.zone) (get_or_from_slice_get (e ∷ es) (length (e ∷ es) - 1) last last (sym l)) in
    let begin = ap (λ (x : Entry). x.pair.zone) same in
    (λ h. sym begin ∙ h ∙ sym end, λ h. begin ∙ h ∙ end)

-- ---- the section that has a zone

none_above : (z r : ℤ) (es : List Entry) → Climbs r es → end_of z ≤ℤ r → part_of z es ≡ []
none_above z r [] c h = refl
none_above z r (e ∷ es) c h =
    let l = zone_above z e c.2 (omega (arith, ints, c.0, h)) in
    rw (differs e.pair.zone z (λ q. omega (arith, ints, l, q))) (none_above z (rank e.pair) es c.3 (omega (arith, ints, c.0, h)))

none_below : (z y r : ℤ) (es : List Entry) → Climbs r es → last_zone y es <ℤ z → part_of z es ≡ []
none_below z y r [] c h = refl
none_below z y r (e ∷ es) c h =
    let l = last_rises e es c.2 c.3 in
    rw (differs e.pair.zone z (λ q. omega (arith, ints, l, h, q))) (none_below z e.pair.zone (rank e.pair) es c.3 h)

-- the first entry of section i
abbrev pub first_of : List (List Entry) → ℕ → Entry → Entry
first_of cs i d = get_or (get_or cs i []) 0 d

first_above : (y : ℤ) (cs : List (List Entry)) (d : Entry) → AreSections y cs → 0 < length cs → y <ℤ (first_of cs 0 d).pair.zone
first_above y [] d s h = absurd (omega arith)
first_above y ([] ∷ cs) d s h = absurd (omega (arith, s.0))
first_above y ((e ∷ es) ∷ cs) d s h = zone_above y e s.1.2 s.1.0

pub sections_none : (y z : ℤ) (cs : List (List Entry)) → AreSections y cs → ((d : Entry) → 0 < length cs → z <ℤ (first_of cs 0 d).pair.zone) → part_of z (joined cs) ≡ []
sections_none y z [] s h = refl
sections_none y z ([] ∷ cs) s h = absurd (omega (arith, s.0))
sections_none y z ((e ∷ es) ∷ cs) s h =
    let c = sections_climb y ((e ∷ es) ∷ cs) s in
    none_above z (end_of z) ((e ∷ es) ++ joined cs) (above_zone z e c.2 (h e (omega arith)), c.1, c.2, c.3) (le_itself (end_of z))

pub section_part : (y z : ℤ) (cs : List (List Entry)) (k : ℕ) → AreSections y cs → k < length cs → ((i : ℕ) (d : Entry) → i ≤ k → (first_of cs i d).pair.zone ≤ℤ z) → ((i : ℕ) (d : Entry) → k < i → i < length cs → z <ℤ (first_of cs i d).pair.zone) → part_of z (joined cs) ≡ part_of z (get_or cs k [])
section_part y z [] k s h below above = absurd (omega arith)
section_part y z (es ∷ cs) zero s h below above =
    filter-append (λ (e : Entry). int_eq e.pair.zone z) es (joined cs)
    ∙ ap (λ (l : List Entry). part_of z es ++ l) (sections_none (last_zone y es) z cs s.2 (λ d l. above 1 d (omega arith) (omega arith)))
    ∙ append-nil (part_of z es)
section_part y z (es ∷ cs) (suc k) s h below above =
    let d : Entry = record { pair = record { zone = pos 0; key = pos 0 }; count = 0 } in
    let next = first_above (last_zone y es) cs d s.2 (omega arith) in
    let first : last_zone y es <ℤ z = omega (arith, ints, next, below 1 d (omega arith)) in
    filter-append (λ (e : Entry). int_eq e.pair.zone z) es (joined cs)
    ∙ ap (λ (l : List Entry). l ++ part_of z (joined cs)) (none_below z y (end_of y) es s.1 first)
    ∙ section_part (last_zone y es) z cs k s.2 (omega arith) (λ i d l. below (suc i) d (omega arith)) (λ i d l m. above (suc i) d (omega arith) (omega arith))

-- ---- a search for it

pub first_is : (cs : List (List Entry)) (m : ℕ) (x : List Entry) (e : Entry) → x ≡ get_or cs m x → m < length cs → ((d : Entry) → e ≡ get_or x 0 d) → (d : Entry) → e ≡ first_of cs m d
first_is cs m x e i l f d = f d ∙ ap (λ (y : List Entry). get_or y 0 d) (i ∙ get_or_default cs m x [] l)

all_above : (y : ℤ) (cs : List (List Entry)) (j : ℕ) (d : Entry) → AreSections y cs → j < length cs → y <ℤ (first_of cs j d).pair.zone
all_above y [] j d s h = absurd (omega arith)
all_above y (es ∷ cs) zero d s h = first_above y (es ∷ cs) d s (omega arith)
all_above y (es ∷ cs) (suc j) d s h = omega (arith, ints, last_from y es s.1, all_above (last_zone y es) cs j d s.2 (omega arith))

first_last : (y : ℤ) (es : List Entry) (d : Entry) → Climbs (end_of y) es → 0 < length es → (get_or es 0 d).pair.zone ≤ℤ last_zone y es
first_last y [] d c h = absurd (omega arith)
first_last y (e ∷ es) d c h = last_rises e es c.2 c.3

firsts_rise : (y : ℤ) (cs : List (List Entry)) (i j : ℕ) (d : Entry) → AreSections y cs → i < j → j < length cs → (first_of cs i d).pair.zone <ℤ (first_of cs j d).pair.zone
firsts_rise y [] i j d s l h = absurd (omega arith)
firsts_rise y (es ∷ cs) i zero d s l h = absurd (omega arith)
firsts_rise y (es ∷ cs) zero (suc j) d s l h = omega (arith, ints, first_last y es d s.1 s.0, all_above (last_zone y es) cs j d s.2 (omega arith))
firsts_rise y (es ∷ cs) (suc i) (suc j) d s l h = firsts_rise (last_zone y es) cs i j d s.2 (omega arith) (omega arith)

pub firsts_below : (cs : List (List Entry)) (m : ℕ) (z : ℤ) → AreSections lowest cs → m < length cs → ((d : Entry) → (first_of cs m d).pair.zone ≤ℤ z) → (i : ℕ) (d : Entry) → i < m + 1 → (first_of cs i d).pair.zone ≤ℤ z
firsts_below cs m z s l h i d b =
    elim (cases_lt i m) [
      | inl below ↦ omega (arith, ints, firsts_rise lowest cs i m d s below l, h d)
      | inr last ↦ let same : i ≡ m = omega arith in subst (λ n. (first_of cs n d).pair.zone ≤ℤ z) (sym same) (h d)
    ]

pub firsts_above : (cs : List (List Entry)) (m : ℕ) (z : ℤ) → AreSections lowest cs → ((d : Entry) → z <ℤ (first_of cs m d).pair.zone) → (i : ℕ) (d : Entry) → m ≤ i → i < length cs → z <ℤ (first_of cs i d).pair.zone
firsts_above cs m z s h i d b l =
    elim (cases_lt m i) [
      | inl above ↦ omega (arith, ints, firsts_rise lowest cs m i d s above l, h d)
      | inr first ↦ let same : i ≡ m = omega arith in subst (λ n. z <ℤ (first_of cs n d).pair.zone) (sym same) (h d)
    ]

pub some_section : (z : ℤ) (cs : List (List Entry)) (i : ℕ) → AreSections z cs → i < length cs → 0 < length (get_or cs i [])
some_section z [] i s h = absurd (omega arith)
some_section z (es ∷ cs) zero s h = s.0
some_section z (es ∷ cs) (suc i) s h = some_section (last_zone z es) cs i s.2 (omega arith)

pub section_climbs : (z : ℤ) (cs : List (List Entry)) (i : ℕ) → AreSections z cs → i < length cs → Climbs floor (get_or cs i [])
section_climbs z [] i s h = absurd (omega arith)
section_climbs z (es ∷ cs) zero s h = from_floor z es s.1
  where
    from_floor : (z : ℤ) (es : List Entry) → Climbs (end_of z) es → Climbs floor es
    from_floor z [] c = tt
    from_floor z (e ∷ es) c = let k = c.2 in (omega (arith, ints, k.low_zone, k.low_key), c.1, c.2, c.3)
section_climbs z (es ∷ cs) (suc i) s h = section_climbs (last_zone z es) cs i s.2 (omega arith)

-- ---- what a search found

module _ (z' z : ℤ) (cs : List (List Entry)) (n : ℕ) (same : z' ≡ z) (s : AreSections lowest cs) (within : n ≤ length cs) (below : (i : ℕ) (d : Entry) → i < n → (first_of cs i d).pair.zone ≤ℤ z')
    (above : (i : ℕ) (d : Entry) → n ≤ i → i < length cs → z' <ℤ (first_of cs i d).pair.zone) where
  pub part_missing : n ≡ 0 → [] ≡ part_of z (joined cs)
  part_missing e = sym (sections_none lowest z' cs s (λ d l. above 0 d (omega arith) l)) ∙ ap (λ (y : ℤ). part_of y (joined cs)) same

  pub part_found : (x part : List Entry) → 0 < n → x ≡ get_or cs (n - 1) x → part ≡ part_of z' x → part ≡ part_of z (joined cs)
  part_found x part some is p =
      let k : n - 1 < length cs = omega arith in
      p ∙ ap (λ (l : List Entry). part_of z' l) (is ∙ get_or_default cs (n - 1) x [] k)
      ∙ sym (section_part lowest z' cs (n - 1) s k (λ i d h. below i d (omega arith)) (λ i d h l. above i d (omega arith) l))
      ∙ ap (λ (y : ℤ). part_of y (joined cs)) same
