-- Parts of a state that the engine may have; and what takes the edit of a name back: a draft of the edit that puts the earlier parts back, with what stood for the name.
use Rattle.std.proofs.Common.{◌≡◌, ℕ, false, List, Option, Some, None, bytes_eq, refl, sym, ap, ◌∙◌, inl, inr, ◌∷◌, take, drop, length, option_map, unwrap_or, slice_get, Vec, subst, arith}
use Rattle.map_nums.specs.Grids.{Size}
use Rattle.map_defs.specs.Ops.{Name}
use Rattle.statement_parser.specs.Views.{written_view}
use Rattle.procedure_expand.specs.Flats.{flats_view}
use Rattle.map_edits.specs.Entries.{Def, source, statement, Entry, find_def, drop_entry}
use Rattle.map_edits.specs.EntriesAt.{entry_at}
use Rattle.map_edits.specs.Edits.{with_entries}
use Rattle.map_edits.specs.GroupLaws.{IsLawful, IsSaid}
use Rattle.map_edits.specs.Pasts.{Past, parts_of, Parts, with_parts}
use Rattle.map_edits.specs.Touches.{Touch, whole, touch_of}
use Rattle.map_edits.specs.Touching.{ChangesOnly}
use Rattle.map_edits.specs.WholeEdits.{put_back, WholeEdit}
use Rattle.map_edits.proofs.Heads.{head_of}
use Rattle.map_edits.proofs.Puts.{find_put, find_drop, find_drop_other}
use Rattle.map_edits.proofs.PutBack.{drop_at, drop_none, drop_put, put_put, put_same, at_dropped, fault_by_entries}
use Rattle.map_edits.proofs.Among.{bytes_eq-turned}
use Rattle.map_edits.proofs.Groups.{group_making, making_by_head}
use Rattle.map_edits.proofs.LawfulEdits.{AreGood, IsGoodChange}
use Rattle.edit_plans.proofs.TouchedAlone.{all_touched}
use Rattle.kept_map.specs.Maps.{grid_of, entries_in, names_in, seen, source_in, source_grid, def_by, entry_by}
use Rattle.kept_map.specs.Keeps.{IsKept, IsNamed}
use Rattle.kept_map.specs.declared.maps.KeptMap.{KeptMap}
use Rattle.kept_map.proofs.EditedPlans.{item_named}
use Rattle.live_engine.specs.Drafts.{seated, entries_after, IsSeat, IsFit, IsDraft, state_after, IsNextStatement, IsDraftOf}
use Rattle.live_engine.specs.Inverses.{Suits, Fits, past_of, back, touched, AreReached, TakesBack}
use Rattle.live_engine.specs.declared.drafts.Change.{Change}
use Rattle.live_engine.specs.declared.drafts.Change.TheVariants.{Source, Statement, Out}
use Rattle.live_engine.specs.declared.drafts.Draft.{Draft}
use Rattle.live_engine.specs.declared.inverses.Inverse.TheVariants as inverses
use Rattle.std.specs.Map.{lookup}
use Rattle.std.specs.declared.alloc.Global.{Global}
use Rattle.std.proofs.lemmas.List.{length-append, take-append-drop}
use Rattle.std.proofs.lemmas.List.Elements.{recursion_from_All}
use Rattle.std.proofs.lemmas.Option.{none-some, slice_get-map, slice_get_within}
use Rattle.statement_parser.specs.declared.line.Written.{Written}
use Rattle.procedure_expand.specs.declared.flat.Flat.{Flat}
use Rattle.statement_graph.specs.Groups.{Group}
use Rattle.map_edits.specs.Marks.{Mark}
use Rattle.map_edits.specs.WholeStates.{WholeState}
use Rattle.map_waves.proofs.Making.{all_get}
use Rattle.kept_map.specs.Groups.{groups_of}
use Rattle.kept_map.specs.declared.maps.Item.{Item}
use Rattle.kept_map.specs.declared.maps.Item.TheVariants as items
use Rattle.kept_map.proofs.SourceLayers.{source_whole, item_def, item_source}
use Rattle.live_engine.specs.Puts.{StoodFor, replaced_by, IsStandBefore}
use Rattle.live_engine.proofs.Seated.{others_seated}
use Rattle.live_engine.specs.declared.inverses.Inverse.{Inverse}
use Rattle.map_nums.specs.Counts.{raised}

pub kept_reached : (m : KeptMap) → IsKept m → AreReached m.extent (parts_of (seen m))
kept_reached m keeps = record {
  made = keeps.lawful.made;
  groups = keeps.lawful.groups;
  apart = keeps.lawful.apart;
  none_looped = keeps.lawful.none_looped;
  faultless = fault_by_entries m.extent (entries_in m) 0 m.number ∙ keeps.faultless;
  sources_few = keeps.sources_few;
  flats_few = keeps.flats_few;
}

pub reached_lawful : (s : WholeState) (p : Parts) → AreReached s.names.size p → IsLawful (with_parts s p)
reached_lawful s p r = record { made = r.made; groups = r.groups; apart = r.apart; none_looped = r.none_looped }

pub reached_said : (s : WholeState) (p : Past) → AreReached s.names.size p.parts → ChangesOnly p.touch s.names (with_entries s.names p.parts.entries) → IsSaid s (put_back p)
reached_said s p r only = record {
  made = r.made;
  groups = r.groups;
  apart = r.apart;
  none_looped = r.none_looped;
  faultless = fault_by_entries s.names.size p.parts.entries (raised s.names.number 1) 0 ∙ r.faultless;
  only = only;
}

-- what leads back to the parts of the map takes an edit back, from a state with the parts that it left
pub takes_back : (m : KeptMap) → IsKept m → (t : WholeState) (left : Parts) (touch : Touch) (i : Inverse) → t.names.size ≡ m.extent → parts_of t ≡ left
    → Suits m.extent left i → back i left ≡ parts_of (seen m) → touched i ≡ touch → TakesBack (seen m) t touch i
takes_back m keeps t left touch i size parts suits leads touch_is =
    let fits : Fits m.extent left i = record { suits = suits; reached = subst (AreReached m.extent) (sym leads) (kept_reached m keeps) } in
    record { size = size; fits = subst (λ z. Fits z (parts_of t) i) (sym size) (subst (λ p. Fits m.extent p i) (sym parts) fits); parts = ap (back i) parts ∙ leads; touch_is = touch_is }

-- ---- other names

others_stay : (es : List Entry) (n : Name) (size : Size) (change : Change) → IsFit size es n change → (q : Name) → bytes_eq q n ≡ false → find_def (entries_after es n change) q ≡ find_def es q
others_stay es n size (Source key layer place) fits = others_seated es place n (source (grid_of layer)) fits.seat
others_stay es n size (Statement written flats place) fits = others_seated es place n (statement (written_view written) (flats_view flats.items)) fits.seat
others_stay es n size Out fits = find_drop_other es n

good_change : (m : KeptMap) (keeps : IsKept m) (n : Name) (change : Change) → IsFit m.extent (entries_in m) n change → AreGood (entries_after (entries_in m) n change)
    → IsGoodChange (entries_in m) n (entries_after (entries_in m) n change)
good_change m keeps n change fits good = record {
  good = good;
  makings = λ q differs.
      making_by_head (entries_after (entries_in m) n change) q good.groups good.apart
      ∙ ap (group_making q) (others_stay (entries_in m) n m.extent change fits (head_of q) (bytes_eq-turned n (head_of q) differs)) ∙ sym (making_by_head (entries_in m) q keeps.lawful.groups keeps.lawful.apart);
}

-- ---- the draft

module _ (m : KeptMap) (keeps : IsKept m) (d : Draft) (fits : Fits m.extent (parts_of (seen m)) (inverses.Name d)) where
  abbrev past : Past
  past = past_of (inverses.Name d) (parts_of (seen m))

  touches : ChangesOnly (whole d.name) (names_in m) (with_entries (names_in m) past.parts.entries)
  touches =
      let good : AreGood past.parts.entries = record { groups = fits.reached.groups; apart = fits.reached.apart; none_looped = fits.reached.none_looped } in
      all_touched (names_in m) (with_entries (names_in m) past.parts.entries) d.name refl (good_change m keeps d.name d.change fits.suits.fits good)

  pub back_draft : IsDraft m (put_back (past_of (inverses.Name d) (parts_of (seen m)))) d
  back_draft = record {
    plain = fits.suits.plain;
    said = reached_said (seen m) past fits.reached touches;
    touch = refl;
    attempt = refl;
    lawful = reached_lawful (seen m) past.parts fits.reached;
    fits = fits.suits.fits;
    graph_is = fits.suits.graph_is;
    sources_few = fits.reached.sources_few;
    flats_few = fits.reached.flats_few;
  }

-- ---- lists

-- a name that wasn't there is dropped
seated_drop : (es : List Entry) (place : Option ℕ) (n : Name) (d : Def) → find_def es n ≡ None → drop_entry (seated es place n d) n ≡ es
seated_drop es None n d absent = drop_put es n d absent
seated_drop es (Some k) n d absent = drop_at es k n d absent

-- lists that took the place of others
marks_back : (o : Option (List Mark)) (own : List Mark) → unwrap_or (option_map (λ (x : List Mark). own) o) (unwrap_or o own) ≡ own
marks_back None own = refl
marks_back (Some others) own = refl

-- ---- names

-- what stood for a name is put in its place again, and the entries are those of the map
record IsNameBack (m : KeptMap) (n : Name) (after : List Entry) (before : Change) : Type 0 where
  entries : entries_after after n before ≡ entries_in m
  fits : IsFit m.extent after n before

module _ (m : KeptMap) (keeps : IsKept m) (n : Name) where
  out_back : (after : List Entry) (before : Change) → drop_entry after n ≡ entries_in m → before ≡ Out → IsNameBack m n after before
  out_back after before same is = rw is (record { entries = same; fits = tt })

  absent : lookup (bytes_eq n) m.names.entries ≡ None → find_def (entries_in m) n ≡ None
  absent none = item_def m n None none

  -- ---- a statement took its place

  replaced_back : (place : Option ℕ) (written : Written) (flats : Vec Flat Global) (o : Option Item) (before : Change) → IsNextStatement (entries_in m) n written flats.items place → lookup (bytes_eq n) m.names.entries ≡ o → before ≡ replaced_by o
      → IsNameBack m n (entries_after (entries_in m) n (Statement written flats place)) before
  replaced_back place written flats None before fits at is = out_back _ before (seated_drop (entries_in m) place n (statement (written_view written) (flats_view flats.items)) (absent at)) is
  replaced_back place written flats (Some items.Source) before fits at is = absurd (fits.other (source_grid m.extent (source_in m.sources n)) (item_def m n (Some items.Source) at))
  replaced_back (Some k) written flats (Some (items.Statement own stood)) before fits at is =
      absurd (none-some (statement (written_view own) (flats_view stood.items)) (sym fits.seat.0 ∙ item_def m n (Some (items.Statement own stood)) at))
  replaced_back None written flats (Some (items.Statement own stood)) before fits at is =
      let d : Def = statement (written_view written) (flats_view flats.items) in
      let c : Def = statement (written_view own) (flats_view stood.items) in
      let named = item_named m.names.entries n (items.Statement own stood) (recursion_from_All IsNamed m.names.entries keeps.named) at in
      rw is (record {
        entries = put_put (entries_in m) n d c ∙ put_same (entries_in m) n c (item_def m n (Some (items.Statement own stood)) at);
        fits = record { formed = named.0; ranges = named.1; other = λ grid is. let both : Some d ≡ Some (source grid) = sym (find_put (entries_in m) n d) ∙ is in cc; seat = tt };
      })

  -- ---- it was dropped

  abbrev others : List Entry
  others = drop_entry (entries_in m) n

  -- an item is at its place again
  put_again : (k : ℕ) (item : Item) (d : Def) → slice_get m.names.entries k ≡ Some (n, item) → def_by m.extent (source_in m.sources n) item ≡ d
      → (entry_at others k n d ≡ entries_in m) × IsSeat others n (Some k)
  put_again k item d stood is =
      let e : Entry = record { name = n; def = d } in
      let at : slice_get (entries_in m) k ≡ Some e =
      slice_get-map (entry_by m.extent (source_in m.sources)) m.names.entries k ∙ ap (option_map (entry_by m.extent (source_in m.sources))) stood ∙ ap (λ (c : Def). Some (record { name = n; def = c })) is in
      let again = at_dropped (entries_in m) k n d keeps.lawful.apart at in
      let all = length-append (take k others) (e ∷ drop k others) in
      let rest = length-append (take k others) (drop k others) in
      (again, (find_drop (entries_in m) n, omega (arith, slice_get_within (entries_in m) k e at, ap length again, all, rest, ap length (take-append-drop k others))))

  dropped_back : (before : Change) → StoodFor m n before → IsNameBack m n others before
  dropped_back (Source key layer (Some k)) stood =
      let again = put_again k items.Source (source (grid_of layer)) stood.0 (ap (λ o. source (source_grid m.extent o)) stood.2) in
      let whole = source_whole m.sources n (names_in m) layer keeps.sources stood.2 in
      record { entries = again.0; fits = record { same = stood.1; absent = again.1.0; sized = whole.0; whole = whole.1; seat = again.1 } }
  dropped_back (Statement written flats (Some k)) stood =
      let again = put_again k (items.Statement written flats) _ stood refl in
      let named = all_get IsNamed m.names.entries keeps.named k (n, items.Statement written flats) stood in
      record { entries = again.0; fits = record { formed = named.1.0; ranges = named.1.1; other = λ grid is. none-some (source grid) (sym again.1.0 ∙ is); seat = again.1 } }
  dropped_back Out (inl none) = let same = drop_none (entries_in m) n (absent none) in record { entries = ap (λ es. drop_entry es n) same ∙ same; fits = tt }
  dropped_back Out (inr odd) = let r = item_source m n keeps odd.1 in absurd (none-some r.0 (sym odd.0 ∙ r.2))
  dropped_back before stood = absurd stood

  -- ---- the parts of the state

  stood_back : (change before : Change) → IsFit m.extent (entries_in m) n change → IsStandBefore m n change before → IsNameBack m n (entries_after (entries_in m) n change) before
  stood_back (Source key layer place) before fits is = out_back _ before (seated_drop (entries_in m) place n (source (grid_of layer)) fits.absent) is
  stood_back (Statement written flats place) before fits is = replaced_back place written flats (lookup (bytes_eq n) m.names.entries) before fits refl is
  stood_back Out before fits stood = dropped_back before stood

-- the state after the edit is told by its parts
module _ (m : KeptMap) (keeps : IsKept m) (e : WholeEdit) (n : Name) (change : Change) (graph : List Group) (labels symbols : Option (List Mark)) (draft : IsDraftOf m e n change graph labels symbols)
    (t : WholeState) (before : Change) (size : t.names.size ≡ m.extent) (parts : parts_of t ≡ parts_of (state_after (seen m) n change labels symbols)) (stood : IsStandBefore m n change before) where
  abbrev inverse : Inverse
  inverse = inverses.Name (record {
    name = n;
    change = before;
    graph = m.graph;
    labels = option_map (λ (x : List Mark). m.labels) labels;
    symbols = option_map (λ (x : List Mark). m.symbols) symbols;
  })

  abbrev after : Parts
  after = parts_of (state_after (seen m) n change labels symbols)

  is : IsNameBack m n (entries_after (entries_in m) n change) before
  is = stood_back m keeps n change before draft.fits stood

  parts_back : back inverse after ≡ parts_of (seen m)
  parts_back = rw (is.entries, marks_back labels m.labels, marks_back symbols m.symbols) refl

  pub name_back : TakesBack (seen m) t (touch_of e) inverse
  name_back =
      takes_back m keeps t after (touch_of e) inverse size parts (record { plain = draft.plain; fits = is.fits; graph_is = keeps.graph_is ∙ ap groups_of (sym is.entries) }) parts_back (sym draft.touch)
