-- Edits bring no cycle, though a statement may stand for several flat ones.
use Rattle.std.proofs.Common.{◌≡◌, true, false, List, [], ◌∷◌, ◌++◌, map, Option, Some, None, bytes_eq, refl, sym, ap, subst, ◌∙◌, ◌⊎◌, inl, inr, arith, ℕ, suc, ◌+◌, ◌≤◌, length}
use Rattle.std.proofs.lemmas.Bool.{false≢true, cases_Bool, both_ways, or_parts, false_from_ne_true}
use Rattle.std.proofs.lemmas.List.{length-map}
use Rattle.std.proofs.lemmas.Option.{none-some, same_Some}
use Rattle.std.specs.List.{list_any, AllByRecursion}
use Rattle.map_nums.specs.Grids.{Grid}
use Rattle.map_defs.specs.Ops.{Name, Op, needs_of}
use Rattle.map_defs.specs.Statements.{Flat, Written}
use Rattle.map_defs.specs.FlatNames.{IsIn, AreFlats, IsInside, flat_names, Each, has_dot, IsMet, AreMet}
use Rattle.map_defs.specs.MadeProcedures.{IsUndotted}
use Rattle.map_defs.specs.Nodes.{needs_in, Node}
use Rattle.map_defs.specs.Depths.{is_looped, reaches}
use Rattle.map_defs.proofs.FlatNames.{each_at, after, each_more}
use Rattle.map_edits.specs.Entries.{Def, source, statement, Entry, find_def, put_entry, drop_entry}
use Rattle.map_edits.specs.LayerDefs.{by_op, flat_layer, layers, find_making, nodes_of}
use Rattle.map_edits.specs.Laws.{is_among, HasNoCycle, IsApart}
use Rattle.map_edits.specs.GroupLaws.{IsGroup, AreGroups}
use Rattle.map_edits.proofs.Among.{same_name, bytes_eq-self, bytes_eq-turned, none_at, any_none}
use Rattle.map_edits.proofs.Looks.{making_needs, needs_in-layers, length-nodes}
use Rattle.map_edits.proofs.Puts.{find_put, find_put_other, find_drop, find_drop_other, apart_put, apart_drop}
use Rattle.map_edits.proofs.Kept.{no_cycle_fewer, Ends, ends_by_needs, not_here, as_before, other_ends}
use Rattle.map_edits.proofs.Heads.{head_of, IsHeaded, all_headed}
use Rattle.map_edits.proofs.Groups.{def_layers, group_making, making_by_head, groups_put, groups_drop, put_longer, flats_more, flats_made, named_or_none, IsNear, source_needs_none, group_near, in_among, plain_apart, apart_from}
use Rattle.map_edits.proofs.Chains.{goes_on, chains_end, no_cycle_from_ends, reaches_up}

-- ---- one statement is put among others

module _ (mid new : List Node) (n : Name) (fs : List Flat) (room : length fs + length mid ≤ length new) (none : HasNoCycle mid) (alone : is_looped new n ≡ false)
    (others : (m : Name) → bytes_eq n (head_of m) ≡ false → needs_in new m ≡ needs_in mid m)
    (near : (m q : Name) → is_among q (needs_in new m) ≡ true → IsNear (head_of m) q)
    (own : AllByRecursion (λ f. needs_in new f.name ≡ needs_of f.op) fs)
    (met : AreMet [] fs) (there : (m : Name) → bytes_eq n (head_of m) ≡ true → (needs_in new m ≡ []) ⊎ IsIn m (flat_names fs)) (self : IsIn n (flat_names fs)) where
  abbrev IsAway : Name → Type 0
  IsAway m = bytes_eq n (head_of m) ≡ false

  stays : (m q : Name) → IsAway m → is_among q (needs_in new m) ≡ true → bytes_eq q n ≡ false → IsAway q
  stays m q away a differs = apart_from n m q away (near m q a) differs

  -- ---- what n is made of

  -- ends, where in so many steps nothing that it needs comes to n
  abbrev EndsFree : ℕ → Name → Type 0
  EndsFree b x = list_any (reaches b new n) (needs_in new x) ≡ false → Ends new x

  -- what doesn't come to n in so many steps doesn't in fewer
  clear_less : (b c : ℕ) (qs : List Name) → b ≤ c → list_any (reaches c new n) qs ≡ false → list_any (reaches b new n) qs ≡ false
  clear_less b c qs h free = any_none (reaches b new n) qs (λ q a. false_from_ne_true (reaches b new n q) (λ r. both_ways (reaches c new n q) (none_at (reaches c new n) qs q a free) (reaches_up b c new n h q r)))

  free_step : (b : ℕ) (known : List Name) (f : Flat) → length mid ≤ b → needs_in new f.name ≡ needs_of f.op → Each (IsMet known) (needs_of f.op) → Each (EndsFree b) known → EndsFree (suc b) f.name
  free_step b known f room is needs each free = ends_by_needs new f.name (λ q a.
      go q (none_at (reaches (suc b) new n) (needs_in new f.name) q a free)
      (each_at (IsMet known) q (needs_of f.op) needs (in_among q (needs_of f.op) (ap (is_among q) (sym is) ∙ a))))
    where
      go : (q : Name) → reaches (suc b) new n q ≡ false → IsMet known q → Ends new q
      go q clear (inl plain) =
          let differs : bytes_eq q n ≡ false = not_here (suc b) new n q clear in
          (suc (length mid), as_before mid new n IsAway others stays (length mid) (suc b) q (plain_apart n q plain differs) (chains_end mid none q) (omega arith) clear)
      go q clear (inr at) = each_at (EndsFree b) q known each at (or_parts (bytes_eq q n) (list_any (reaches b new n) (needs_in new q)) clear).1

  free_walk : (b : ℕ) (known : List Name) (gs : List Flat) → length mid ≤ b → AllByRecursion (λ f. needs_in new f.name ≡ needs_of f.op) gs → AreMet known gs → Each (EndsFree b) known
      → (c : ℕ) × (c ≤ b + length gs) × Each (EndsFree c) (after known gs)
  free_walk b known [] room is needs each = (b, omega arith, each)
  free_walk b known (g ∷ gs) room is needs each =
      let more : Each (EndsFree (suc b)) (g.name ∷ known) = (free_step b known g room is.0 needs.0 each, each_more (EndsFree b) (EndsFree (suc b)) (λ x ends free. ends (clear_less b (suc b) (needs_in new x) (omega arith) free)) known each) in
      let all = free_walk (suc b) (g.name ∷ known) gs (omega arith) is.1 needs.1 more in
      let least = all.1 in
      (all.0, omega arith, all.2)

  in_after : (m : Name) (known : List Name) (gs : List Flat) → IsIn m known ⊎ IsIn m (flat_names gs) → IsIn m (after known gs)
  in_after m known [] (inl h) = h
  in_after m known [] (inr h) = absurd h
  in_after m known (g ∷ gs) (inl h) = in_after m (g.name ∷ known) gs (inl (inr h))
  in_after m known (g ∷ gs) (inr (inl h)) = in_after m (g.name ∷ known) gs (inl (inl h))
  in_after m known (g ∷ gs) (inr (inr h)) = in_after m (g.name ∷ known) gs (inr h)

  own_ends : Ends new n
  unfolding is_looped
  own_ends =
      let walk = free_walk (length mid) [] fs (omega arith) own met tt in
      let least = walk.1 in
      each_at (EndsFree walk.0) n (after [] fs) walk.2 (in_after n [] fs (inr self)) (clear_less walk.0 (length new) (needs_in new n) (omega arith) alone)

  -- ---- every name

  away_ends : (m : Name) → IsAway m → Ends new m
  away_ends m away = other_ends mid new n IsAway others stays own_ends (suc (length mid)) m away (chains_end mid none m)

  plain_ends : (q : Name) → has_dot q ≡ false → Ends new q
  plain_ends q plain = elim (cases_Bool (bytes_eq q n)) [ inl same ↦ subst (Ends new) (sym (same_name q n same)) own_ends | inr differs ↦ away_ends q (plain_apart n q plain differs) ]

  inner_ends : (known : List Name) (gs : List Flat) → AllByRecursion (λ f. needs_in new f.name ≡ needs_of f.op) gs → AreMet known gs → Each (Ends new) known → Each (Ends new) (after known gs)
  inner_ends known [] is needs each = each
  inner_ends known (g ∷ gs) is needs each = inner_ends (g.name ∷ known) gs is.1 needs.1 (ends_by_needs new g.name (λ q a. go q (each_at (IsMet known) q (needs_of g.op) needs.0 (in_among q (needs_of g.op) (ap (is_among q) (sym is.0) ∙ a)))), each)
    where
      go : (q : Name) → IsMet known q → Ends new q
      go q (inl plain) = plain_ends q plain
      go q (inr at) = each_at (Ends new) q known each at

  of_group : (m : Name) → (needs_in new m ≡ []) ⊎ IsIn m (flat_names fs) → Ends new m
  of_group m (inl nothing) = (1, ap (list_any (goes_on 0 new)) nothing)
  of_group m (inr at) = each_at (Ends new) m (after [] fs) (inner_ends [] fs own met tt) (in_after m [] fs (inr at))

  pub group_keeps_no_cycle : HasNoCycle new
  group_keeps_no_cycle = no_cycle_from_ends new (λ m. elim (cases_Bool (bytes_eq n (head_of m))) [ inl same ↦ of_group m (there m same) | inr away ↦ away_ends m away ])

-- ---- one entry

record IsEntry (n : Name) (d : Def) : Type 0 where
  pub plain : IsUndotted n
  pub group : IsGroup n d

entry_at : (es : List Entry) (n : Name) (d : Def) → AreGroups es → find_def es n ≡ Some d → IsEntry n d
entry_at [] n d groups e = absurd (none-some d e)
entry_at (x ∷ xs) n d groups e = elim (cases_Bool (bytes_eq x.name n)) [
  | inl same ↦
      let own : Some x.def ≡ Some d = rw same at e in
      let at : x.name ≡ n = same_name x.name n same in
      record { plain = subst IsUndotted at groups.0; group = subst (λ q. IsGroup n q) (same_Some x.def d own) (subst (λ q. IsGroup q x.def) at groups.1) }
  | inr differs ↦ entry_at xs n d groups.2 (rw differs at e)
]

needs_by_head : (es : List Entry) (m : Name) → AreGroups es → IsApart es → needs_in (nodes_of es) m ≡ making_needs (group_making m (find_def es (head_of m)))
needs_by_head es m groups apart = needs_in-layers (layers es) m ∙ ap making_needs (making_by_head es m groups apart)

-- what is needed has no dot, or begins with the same name
pub all_near : (es : List Entry) → AreGroups es → IsApart es → (m q : Name) → is_among q (needs_in (nodes_of es) m) ≡ true → IsNear (head_of m) q
all_near es groups apart m q a = go (find_def es (head_of m)) refl (ap (is_among q) (sym (needs_by_head es m groups apart)) ∙ a)
  where
    go : (o : Option Def) → find_def es (head_of m) ≡ o → is_among q (making_needs (group_making m o)) ≡ true → IsNear (head_of m) q
    go None is a = absurd (false≢true a)
    go (Some d) is a = let e = entry_at es (head_of m) d groups is in group_near (head_of m) d m q e.plain e.group a

-- ---- a drop

module _ (es : List Entry) (n : Name) (groups : AreGroups es) (apart : IsApart es) where
  making_gone : (m : Name) → bytes_eq n (head_of m) ≡ true → find_making (layers (drop_entry es n)) m ≡ None
  making_gone m same =
      making_by_head (drop_entry es n) m (groups_drop es n groups) (apart_drop es n apart)
      ∙ ap (group_making m) (ap (find_def (drop_entry es n)) (sym (same_name n (head_of m) same)) ∙ find_drop es n)

  pub making_stays : (m : Name) → bytes_eq n (head_of m) ≡ false → find_making (layers (drop_entry es n)) m ≡ find_making (layers es) m
  making_stays m differs =
      making_by_head (drop_entry es n) m (groups_drop es n groups) (apart_drop es n apart)
      ∙ ap (group_making m) (find_drop_other es n (head_of m) (bytes_eq-turned n (head_of m) differs)) ∙ sym (making_by_head es m groups apart)

  -- a layer is gone with its statement, or made as before
  pub drop_makings : (m : Name) → (find_making (layers (drop_entry es n)) m ≡ None) ⊎ (find_making (layers (drop_entry es n)) m ≡ find_making (layers es) m)
  drop_makings m = elim (cases_Bool (bytes_eq n (head_of m))) [ inl same ↦ inl (making_gone m same) | inr differs ↦ inr (making_stays m differs) ]

  needs_gone : (m : Name) → bytes_eq n (head_of m) ≡ true → needs_in (nodes_of (drop_entry es n)) m ≡ []
  needs_gone m same = needs_in-layers (layers (drop_entry es n)) m ∙ ap making_needs (making_gone m same)

  needs_stay : (m : Name) → bytes_eq n (head_of m) ≡ false → needs_in (nodes_of (drop_entry es n)) m ≡ needs_in (nodes_of es) m
  needs_stay m differs = needs_in-layers (layers (drop_entry es n)) m ∙ ap making_needs (making_stays m differs) ∙ sym (needs_in-layers (layers es) m)

  pub drop_keeps_none : HasNoCycle (nodes_of es) → HasNoCycle (nodes_of (drop_entry es n))
  drop_keeps_none none = no_cycle_fewer (nodes_of es) (nodes_of (drop_entry es n)) (λ t m a. elim (cases_Bool (bytes_eq n (head_of t))) [
    | inl same ↦ absurd (false≢true (ap (is_among m) (sym (needs_gone t same)) ∙ a))
    | inr differs ↦ ap (is_among m) (sym (needs_stay t differs)) ∙ a
  ]) none

-- ---- a put

last_in : (n : Name) (inner : List Flat) (own : Op) → IsIn n (flat_names (inner ++ record { name = n; op = own } ∷ []))
last_in n [] own = inl refl
last_in n (f ∷ fs) own = inr (last_in n fs own)

module _ (es : List Entry) (n : Name) (d : Def) (groups : AreGroups es) (apart : IsApart es) (plain : IsUndotted n) (group : IsGroup n d) where
  put_others : (m : Name) → bytes_eq n (head_of m) ≡ false → needs_in (nodes_of (put_entry es n d)) m ≡ needs_in (nodes_of (drop_entry es n)) m
  put_others m differs =
      needs_by_head (put_entry es n d) m (groups_put es n d groups plain group) (apart_put es n d apart)
      ∙ ap (λ o. making_needs (group_making m o)) (find_put_other es n d (head_of m) (bytes_eq-turned n (head_of m) differs))
      ∙ sym (needs_by_head es m groups apart) ∙ sym (needs_stay es n groups apart m differs)

  -- a layer of another front is made as before
  pub put_makings : (m : Name) → bytes_eq n (head_of m) ≡ false → find_making (layers (put_entry es n d)) m ≡ find_making (layers es) m
  put_makings m differs =
      making_by_head (put_entry es n d) m (groups_put es n d groups plain group) (apart_put es n d apart)
      ∙ ap (group_making m) (find_put_other es n d (head_of m) (bytes_eq-turned n (head_of m) differs)) ∙ sym (making_by_head es m groups apart)

  put_own : (m : Name) → bytes_eq n (head_of m) ≡ true → needs_in (nodes_of (put_entry es n d)) m ≡ making_needs (find_making (def_layers n d) m)
  put_own m same =
      let at : head_of m ≡ n = sym (same_name n (head_of m) same) in
      needs_by_head (put_entry es n d) m (groups_put es n d groups plain group) (apart_put es n d apart)
      ∙ ap (λ o. making_needs (group_making m o)) (ap (find_def (put_entry es n d)) at ∙ find_put es n d)
      ∙ ap (λ q. making_needs (find_making (def_layers q d) m)) at

  put_near : (m q : Name) → is_among q (needs_in (nodes_of (put_entry es n d)) m) ≡ true → IsNear (head_of m) q
  put_near = all_near (put_entry es n d) (groups_put es n d groups plain group) (apart_put es n d apart)

module _ (es : List Entry) (n : Name) (groups : AreGroups es) (apart : IsApart es) (none : HasNoCycle (nodes_of es)) (plain : IsUndotted n) where
  pub source_keeps_none : (grid : Grid) → HasNoCycle (nodes_of (put_entry es n (source grid)))
  source_keeps_none grid = no_cycle_fewer (nodes_of (drop_entry es n)) (nodes_of (put_entry es n (source grid))) (λ t m a. elim (cases_Bool (bytes_eq n (head_of t))) [
    | inl same ↦ absurd (false≢true (ap (is_among m) (sym (put_own es n (source grid) groups apart plain tt t same ∙ source_needs_none n t grid)) ∙ a))
    | inr differs ↦ ap (is_among m) (sym (put_others es n (source grid) groups apart plain tt t differs)) ∙ a
  ]) (drop_keeps_none es n groups apart none)

  module _ (written : Written) (flats : List Flat) (group : AreFlats (IsInside n) n [] flats) where
    abbrev d : Def
    d = statement written flats

    needs_flat : (f : Flat) → IsIn f.name (flat_names flats) → find_making (map flat_layer flats) f.name ≡ Some (by_op f.op) → needs_in (nodes_of (put_entry es n d)) f.name ≡ needs_of f.op
    needs_flat f at made =
        let head : head_of f.name ≡ n = each_at (IsHeaded n) f.name (flat_names flats) (all_headed n flats plain group) at in
        put_own es n d groups apart plain group f.name (ap (bytes_eq n) head ∙ bytes_eq-self n) ∙ ap making_needs made

    named_there : (m : Name) → bytes_eq n (head_of m) ≡ true → (needs_in (nodes_of (put_entry es n d)) m ≡ []) ⊎ IsIn m (flat_names flats)
    named_there m same = elim (named_or_none flats m) [ inl nothing ↦ inl (put_own es n d groups apart plain group m same ∙ ap making_needs nothing) | inr at ↦ inr at ]

    pub statement_keeps_none : is_looped (nodes_of (put_entry es n d)) n ≡ false → HasNoCycle (nodes_of (put_entry es n d))
    statement_keeps_none alone =
        let longer = put_longer es n d in
        let count = length-map flats flat_layer in
        let before = length-nodes (drop_entry es n) in
        let now = length-nodes (put_entry es n d) in
        let own = flats_more (λ f. find_making (map flat_layer flats) f.name ≡ Some (by_op f.op)) (λ f. needs_in (nodes_of (put_entry es n d)) f.name ≡ needs_of f.op) flats needs_flat (flats_made flats group.apart) in
        let self : IsIn n (flat_names flats) = subst (λ fs. IsIn n (flat_names fs)) (sym group.is) (last_in n group.inner group.own) in
        group_keeps_no_cycle (nodes_of (drop_entry es n)) (nodes_of (put_entry es n d)) n flats (omega arith) (drop_keeps_none es n groups apart none) alone
        (put_others es n d groups apart plain group) (put_near es n d groups apart plain group) own group.met named_there self
