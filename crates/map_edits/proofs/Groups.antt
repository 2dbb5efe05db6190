-- What is found by a name, where a statement may stand for several flat ones, and what each of those needs.
use Rattle.std.proofs.Common.{◌≡◌, true, false, List, [], ◌∷◌, map, Some, None, bytes_eq, refl, sym, ap, subst, ◌∙◌, ◌⊎◌, inl, inr, ℕ, ◌+◌, ◌≤◌, ◌++◌, length, Option, arith}
use Rattle.std.proofs.lemmas.Bool.{false≢true, both_ways, false_from_ne_true, cases_Bool}
use Rattle.std.specs.List.{AllByRecursion}
use Rattle.std.proofs.lemmas.List.Concat.{length-flat_map}
use Rattle.map_nums.specs.Grids.{Grid}
use Rattle.map_defs.specs.Ops.{Name, needs_of}
use Rattle.map_defs.specs.Statements.{Flat}
use Rattle.map_defs.specs.FlatNames.{IsIn, AreApart, Each, has_dot, IsMet, AreMet, flat_names}
use Rattle.map_defs.specs.MadeProcedures.{IsUndotted}
use Rattle.map_defs.proofs.FlatNames.{each_at, each_more}
use Rattle.map_edits.specs.Entries.{Def, source, statement, Entry, find_def, put_entry, drop_entry}
use Rattle.map_edits.specs.LayerDefs.{by_op, flat_layer, find_making, Making, LayerDef, layers_of, layers}
use Rattle.map_edits.specs.Laws.{is_among, IsApart}
use Rattle.map_edits.specs.GroupLaws.{IsGroup, AreGroups}
use Rattle.map_edits.proofs.Among.{same_name, bytes_eq-self}
use Rattle.map_edits.proofs.Looks.{making_needs}
use Rattle.map_edits.proofs.Heads.{head_of, head_undotted, IsHeaded, all_headed}
use Rattle.map_edits.proofs.Puts.{sum_put, sum_drop}

-- ---- lists of layers

abbrev pub or_else : {X : Type 0} → Option X → Option X → Option X
or_else (Some x) o = Some x
or_else None o = o

pub find_join : (ls ks : List LayerDef) (m : Name) → find_making (ls ++ ks) m ≡ or_else (find_making ls m) (find_making ks m)
find_join [] ks m = refl
find_join (l ∷ ls) ks m = elim (cases_Bool (bytes_eq l.name m)) [ inl h ↦ simp h | inr h ↦ simp h (find_join ls ks m) ]

or_none : {X : Type 0} (o : Option X) → or_else o None ≡ o
or_none None = refl
or_none (Some x) = refl

-- ---- one group

abbrev pub def_layers : Name → Def → List LayerDef
def_layers n d = layers_of (record { name = n; def = d })

-- another name before its dot is another name
away : (n m q : Name) → head_of q ≡ n → bytes_eq n (head_of m) ≡ false → bytes_eq q m ≡ false
away n m q head differs = false_from_ne_true (bytes_eq q m) (λ same. both_ways (bytes_eq n (head_of m)) differs (ap (bytes_eq n) (ap head_of (sym (same_name q m same)) ∙ head) ∙ bytes_eq-self n))

not_found : (n m : Name) (fs : List Flat) → Each (IsHeaded n) (flat_names fs) → bytes_eq n (head_of m) ≡ false → find_making (map flat_layer fs) m ≡ None
not_found n m [] each differs = refl
not_found n m (f ∷ fs) each differs = simp (away n m f.name each.0 differs) (not_found n m fs each.1 differs)

pub outsider : (n : Name) (d : Def) (m : Name) → IsUndotted n → IsGroup n d → bytes_eq n (head_of m) ≡ false → find_making (def_layers n d) m ≡ None
outsider n (source grid) m plain group differs = simp (away n m n (head_undotted n plain) differs)
outsider n (statement written flats) m plain group differs = not_found n m flats (all_headed n flats plain group) differs

-- ---- all entries

-- how a layer is made, by the entry of the name before its first dot
abbrev pub group_making : Name → Option Def → Option Making
group_making m None = None
group_making m (Some d) = find_making (def_layers (head_of m) d) m

pub making_by_head : (es : List Entry) (m : Name) → AreGroups es → IsApart es → find_making (layers es) m ≡ group_making m (find_def es (head_of m))
making_by_head [] m groups apart = refl
making_by_head (e ∷ es) m groups apart =
    let rest = making_by_head es m groups.2 apart.1 in
    find_join (layers_of e) (layers es) m ∙ elim (cases_Bool (bytes_eq e.name (head_of m))) [
      | inl same ↦
          let at : e.name ≡ head_of m = same_name e.name (head_of m) same in
          let none : find_making (layers es) m ≡ None = rest ∙ ap (group_making m) (ap (find_def es) (sym at) ∙ apart.0) in
          simp same (ap (or_else (find_making (layers_of e) m)) none ∙ or_none (find_making (layers_of e) m) ∙ ap (λ n. find_making (def_layers n e.def) m) at)
      | inr differs ↦ simp differs (ap (λ o. or_else o (find_making (layers es) m)) (outsider e.name e.def m groups.0 groups.1 differs) ∙ rest)
    ]

-- ---- an entry is put or dropped

pub groups_put : (es : List Entry) (n : Name) (d : Def) → AreGroups es → IsUndotted n → IsGroup n d → AreGroups (put_entry es n d)
groups_put [] n d groups plain group = (plain, group, tt)
groups_put (e ∷ es) n d groups plain group = elim (cases_Bool (bytes_eq e.name n)) [
  | inl h ↦ rw h (groups.0, subst (λ q. IsGroup q d) (sym (same_name e.name n h)) group, groups.2)
  | inr h ↦ rw h (groups.0, groups.1, groups_put es n d groups.2 plain group)
]

pub groups_drop : (es : List Entry) (n : Name) → AreGroups es → AreGroups (drop_entry es n)
groups_drop [] n groups = tt
groups_drop (e ∷ es) n groups = elim (cases_Bool (bytes_eq e.name n)) [ inl h ↦ rw h (groups_drop es n groups.2) | inr h ↦ rw h (groups.0, groups.1, groups_drop es n groups.2) ]

-- beside the others there is room for the group
pub put_longer : (es : List Entry) (n : Name) (d : Def) → length (def_layers n d) + length (layers (drop_entry es n)) ≤ length (layers (put_entry es n d))
put_longer es n d =
    let count : Entry → ℕ = λ e. length (layers_of e) in
    let put = sum_put count es n d in let left = sum_drop count es n in
    let now = length-flat_map layers_of (put_entry es n d) in let others = length-flat_map layers_of (drop_entry es n) in
    omega arith

pub in_among : (m : Name) (ms : List Name) → is_among m ms ≡ true → IsIn m ms
in_among m [] e = absurd (false≢true e)
in_among m (x ∷ xs) e = elim (cases_Bool (bytes_eq x m)) [ inl same ↦ inl (sym (same_name x m same)) | inr differs ↦ inr (in_among m xs (rw differs at e)) ]

-- ---- each flat statement is found

pub flats_more : (P Q : Flat → Type 0) → (fs : List Flat) → ((f : Flat) → IsIn f.name (flat_names fs) → P f → Q f) → AllByRecursion P fs → AllByRecursion Q fs
flats_more P Q [] more each = tt
flats_more P Q (f ∷ fs) more each = (more f (inl refl) each.0, flats_more P Q fs (λ g h. more g (inr h)) each.1)

abbrev IsMadeIn : List Flat → Flat → Type 0
IsMadeIn fs f = find_making (map flat_layer fs) f.name ≡ Some (by_op f.op)

made_behind : (f : Flat) (fs : List Flat) → (IsIn f.name (flat_names fs) → ⊥) → (g : Flat) → IsIn g.name (flat_names fs) → IsMadeIn fs g → IsMadeIn (f ∷ fs) g
made_behind f fs alone g at made = elim (cases_Bool (bytes_eq f.name g.name)) [
  | inl same ↦ absurd (alone (subst (λ n. IsIn n (flat_names fs)) (sym (same_name f.name g.name same)) at))
  | inr differs ↦ simp differs made
]

pub flats_made : (fs : List Flat) → AreApart (flat_names fs) → AllByRecursion (IsMadeIn fs) fs
flats_made [] apart = tt
flats_made (f ∷ fs) apart = (simp bytes_eq-self, flats_more (IsMadeIn fs) (IsMadeIn (f ∷ fs)) fs (made_behind f fs apart.0) (flats_made fs apart.1))

-- a name that is found is one of theirs
pub named_or_none : (fs : List Flat) (m : Name) → (find_making (map flat_layer fs) m ≡ None) ⊎ IsIn m (flat_names fs)
named_or_none [] m = inl refl
named_or_none (f ∷ fs) m = elim (cases_Bool (bytes_eq f.name m)) [
  | inl same ↦ inr (inl (sym (same_name f.name m same)))
  | inr differs ↦ elim (named_or_none fs m) [ inl none ↦ inl (simp differs none) | inr at ↦ inr (inr at) ]
]

-- ---- a need has no dot, or the same front

abbrev pub IsNear : Name → Name → Type 0
IsNear n q = (has_dot q ≡ false) ⊎ IsHeaded n q

near_met : (n : Name) (known : List Name) → Each (IsHeaded n) known → (q : Name) → IsMet known q → IsNear n q
near_met n known heads q (inl plain) = inl plain
near_met n known heads q (inr at) = inr (each_at (IsHeaded n) q known heads at)

abbrev NeedsNear : Name → Flat → Type 0
NeedsNear n f = Each (IsNear n) (needs_of f.op)

needs_near : (n : Name) (known : List Name) (fs : List Flat) → Each (IsHeaded n) known → Each (IsHeaded n) (flat_names fs) → AreMet known fs → AllByRecursion (NeedsNear n) fs
needs_near n known [] heads own met = tt
needs_near n known (f ∷ fs) heads own met = (each_more (IsMet known) (IsNear n) (near_met n known heads) (needs_of f.op) met.0, needs_near n (f.name ∷ known) fs (own.0, heads) own.1 met.1)

found_near : (n : Name) (fs : List Flat) (m q : Name) → AllByRecursion (NeedsNear n) fs → is_among q (making_needs (find_making (map flat_layer fs) m)) ≡ true → IsNear n q
found_near n [] m q each a = absurd (false≢true a)
found_near n (f ∷ fs) m q each a = elim (cases_Bool (bytes_eq f.name m)) [
  | inl same ↦ each_at (IsNear n) q (needs_of f.op) each.0 (in_among q (needs_of f.op) (simp same at a))
  | inr differs ↦ found_near n fs m q each.1 (simp differs at a)
]

-- a source needs nothing
pub source_needs_none : (n m : Name) (grid : Grid) → making_needs (find_making (def_layers n (source grid)) m) ≡ []
source_needs_none n m grid = elim (cases_Bool (bytes_eq n m)) [ inl e ↦ simp e | inr e ↦ simp e ]

-- what a flat statement of a statement needs has no dot, or begins with the statement's name
pub group_near : (n : Name) (d : Def) (m q : Name) → IsUndotted n → IsGroup n d → is_among q (making_needs (find_making (def_layers n d) m)) ≡ true → IsNear n q
group_near n (source grid) m q plain group a = absurd (false≢true (ap (is_among q) (sym (source_needs_none n m grid)) ∙ a))
group_near n (statement written flats) m q plain group a = found_near n flats m q (needs_near n [] flats tt (all_headed n flats plain group) group.met) a

-- ---- names of other fronts

-- a name without a dot that isn't n has another front
pub plain_apart : (n q : Name) → has_dot q ≡ false → bytes_eq q n ≡ false → bytes_eq n (head_of q) ≡ false
plain_apart n q plain differs = false_from_ne_true (bytes_eq n (head_of q)) (λ same.
    let is : n ≡ q = same_name n (head_of q) same ∙ head_undotted q plain in
    both_ways (bytes_eq q n) differs (ap (λ p. bytes_eq p n) (sym is) ∙ bytes_eq-self n))

-- and so has what a name of another front needs
pub apart_from : (n m q : Name) → bytes_eq n (head_of m) ≡ false → IsNear (head_of m) q → bytes_eq q n ≡ false → bytes_eq n (head_of q) ≡ false
apart_from n m q away (inl plain) differs = plain_apart n q plain differs
apart_from n m q away (inr head) differs = ap (bytes_eq n) head ∙ away
