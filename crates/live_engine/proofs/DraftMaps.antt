-- A map after a draft is put in place.
use Rattle.std.proofs.Common.{◌≡◌, ℕ, ◌+◌, false, List, [], ◌∷◌, ◌++◌, length, map, position, slice_get, Option, Some, None, is_some, option_map, unwrap_or, Ok, bytes_eq, Vec, refl, sym, ap, subst, ◌∙◌, arith, inl, inr}
use Rattle.std.specs.List.{All}
use Rattle.std.specs.declared.alloc.Global.{Global}
use Rattle.std.proofs.lemmas.Bool.{cases_Bool}
use Rattle.std.proofs.lemmas.Option.{same_Some}
use Rattle.std.proofs.lemmas.List.{length-append, length-replicate}
use Rattle.std.proofs.lemmas.List.Elements.{All-push}
use Rattle.map_nums.specs.Counts.{raised}
use Rattle.map_nums.specs.Grids.{Size}
use Rattle.map_defs.specs.Ops.{Name}
use Rattle.layer_tiles.specs.Layers.{LayerState, IsLayer, layer_of}
use Rattle.layer_tiles.specs.Tiles.{tiles_in}
use Rattle.statement_parser.specs.Formed.{IsProcedure}
use Rattle.statement_parser.specs.Views.{op_view}
use Rattle.statement_parser.specs.declared.line.Written.{Written}
use Rattle.statement_parser.specs.declared.op.Op.{Op as Given}
use Rattle.procedure_expand.specs.declared.flat.Flat.{Flat}
use Rattle.procedure_expand.proofs.Plain.{plain_undotted}
use Rattle.statement_graph.specs.Groups.{Group}
use Rattle.map_edits.specs.Entries.{Entry, find_def}
use Rattle.map_edits.specs.EngineStates.{EngineState}
use Rattle.map_edits.specs.Marks.{Mark}
use Rattle.map_edits.specs.Pasts.{parts_of}
use Rattle.map_edits.specs.StampsAfter.{stamps_at, stamped}
use Rattle.map_edits.specs.Touches.{touch_of}
use Rattle.map_edits.specs.WholeEdits.{WholeEdit}
use Rattle.map_edits.specs.WholeStates.{WholeState}
use Rattle.map_edits.proofs.Among.{same_name, bytes_eq-turned}
use Rattle.map_waves.specs.Placing.{ArePlaced}
use Rattle.map_waves.specs.declared.plans.Shift.{Shift}
use Rattle.map_waves.specs.declared.plans.Step.{Step}
use Rattle.edit_plans.specs.PlansFor.{AreRefsFor}
use Rattle.edit_plans.specs.declared.planning.Planned.{Planned}
use Rattle.kept_map.specs.Maps.{grid_of, source_in, def_by, entries_by, entries_in, seen}
use Rattle.kept_map.specs.Keeps.{IsNamed, IsKept, AreKeptSources}
use Rattle.kept_map.specs.Commits.{IsAtRest, IsCommitted}
use Rattle.kept_map.specs.Lowering.{IsTakenOut}
use Rattle.kept_map.specs.Repairs.{IsUnder, counts_view}
use Rattle.kept_map.specs.declared.maps.Item.{Item}
use Rattle.kept_map.specs.declared.maps.Item.TheVariants as items
use Rattle.kept_map.specs.declared.maps.Sources.{Sources}
use Rattle.kept_map.specs.declared.maps.KeptMap.{KeptMap}
use Rattle.kept_map.specs.declared.repairing.Prepared.{Prepared}
use Rattle.kept_map.proofs.Committed.{committed_prepared}
use Rattle.kept_map.proofs.EditedFlats.{no_item}
use Rattle.kept_map.proofs.Ready.{rests_after}
use Rattle.kept_map.proofs.SettingUp.{stamps_begin, absent_before}
use Rattle.kept_map.proofs.SourceLayers.{source_def, source_added, source_beside, entries_elsewhere}
use Rattle.kept_map.proofs.SourcesAfter.{without, dropped_sources, dropped_entries, dropped_stamps, other_stamps, rest_dropped}
use Rattle.live_engine.specs.Accepts.{Accepts}
use Rattle.live_engine.specs.Drafts.{seated, entries_after, state_after, sources_after, counts_with, IsDraftOf, IsRepairedOf, HasRoomFor, CanEnter}
use Rattle.live_engine.specs.Inverses.{TakesBack}
use Rattle.live_engine.specs.Puts.{ArePut, seated_item, IsEntered, StoodFor, IsStandBefore}
use Rattle.live_engine.specs.declared.drafts.Change.{Change}
use Rattle.live_engine.specs.declared.drafts.Change.TheVariants.{Source, Statement, Out}
use Rattle.live_engine.specs.declared.drafts.Draft.{Draft}
use Rattle.live_engine.specs.declared.edits.Accepted as told
use Rattle.live_engine.specs.declared.inverses.Inverse.TheVariants as inverses
use Rattle.live_engine.proofs.Accepting.{accepted_is}
use Rattle.live_engine.proofs.Drafting.{no_place}
use Rattle.live_engine.proofs.Backs.{name_back}
use Rattle.live_engine.proofs.DraftStates.{others_stay, draft_change, added_stands, put_stands, out_value, own_counts}
use Rattle.live_engine.proofs.Seated.{named_seated, named_remove, entries_seated, can_seat}

module _ (m : KeptMap) (keeps : IsKept m) (e : WholeEdit) (draft : Draft) (planned : Planned) (prepared : Prepared) (old entered : KeptMap)
    (put : ArePut m old draft.graph planned prepared) where
  abbrev n : Name
  n = draft.name

  abbrev after : Change → WholeState
  after change = state_after (seen m) n change draft.labels draft.symbols

  abbrev Drafted : Change → Type 0
  Drafted change = IsDraftOf m e n change draft.graph draft.labels draft.symbols

  abbrev Repaired : Change → Type 0
  Repaired change = IsRepairedOf m e n change draft.labels draft.symbols planned prepared

  -- the map with the statements put, before the name is entered
  abbrev with_statements : KeptMap
  with_statements = record m { graph = draft.graph; planned = old.planned; kept = old.kept; number = raised m.number 1 }

  abbrev Entered : Change → Type 0
  Entered change = IsEntered with_statements entered n change

  -- a map with the names, the sources and the plan of before
  abbrev beside : KeptMap → KeptMap
  beside x = record x { names = m.names; sources = m.sources; planned = old.planned }

  -- the sources of a state and their stamps
  abbrev AreHeld : WholeState → Sources → Type 0
  AreHeld t held = AreKeptSources t.names held × ((q : Name) (l : LayerState) → source_in held q ≡ Some l → l.stamps ≡ stamps_at (seen m) t q)

  -- the steps at rest, over sources with these names
  abbrev Rest : List Name → List (Step Given) → Type 0
  Rest names steps = (k : ℕ) (x y : Step Given) → slice_get planned.steps.items k ≡ Some x → slice_get steps k ≡ Some y → IsAtRest k x y × AreRefsFor names planned.names.keys k (op_view x.op).terms y.refs.items

  rested : (t : WholeState) (shift : Shift) (sources : List Name) → IsUnder m e t shift sources planned.names.keys planned.steps.items → entered.planned.steps.items ≡ old.planned.steps.items → entered.sources.names.keys ≡ sources → Rest entered.sources.names.keys entered.planned.steps.items
  rested t shift sources under steps names =
      let here : Rest sources old.planned.steps.items = rests_after m e t shift sources planned.names.keys planned.steps.items keeps under old.planned.steps.items put.rests in
      subst (λ ks. Rest ks entered.planned.steps.items) (sym names) (subst (Rest sources) (sym steps) here)

  steps_left : (o : Option ℕ) → IsTakenOut o m.sources entered.sources old.planned.steps.items entered.planned.steps.items → length entered.planned.steps.items ≡ length old.planned.steps.items
  steps_left None is = ap length is.2
  steps_left (Some place) is = is.2.0

  -- ---- a source more

  module _ (key : Name) (layer : LayerState) (place : Option ℕ) (d : Drafted (Source key layer place)) (is : Entered (Source key layer place)) where
    abbrev added : Change
    added = Source key layer place

    abbrev fresh : LayerState
    fresh = layer_of layer.size layer.cells (raised m.number 1)

    own_layer : source_in entered.sources n ≡ Some fresh
    own_layer = source_added m.sources entered.sources n fresh is.names is.layers keeps.sources.count (no_place m keeps n d.fits.absent)

    other_layers : (q : Name) → bytes_eq q n ≡ false → source_in entered.sources q ≡ source_in m.sources q
    other_layers = source_beside m.sources entered.sources n fresh is.names is.layers keeps.sources.count

    added_entries : entries_by m.extent (source_in entered.sources) (seated_item m.names.entries place n items.Source) ≡ entries_after (entries_in m) n added
    added_entries =
        entries_seated m.extent (source_in entered.sources) m.names.entries place n items.Source
        ∙ ap (λ (es : List Entry). seated es place n (def_by m.extent (source_in entered.sources n) items.Source))
        (entries_elsewhere m.extent (source_in m.sources) (source_in entered.sources) n (λ q other. other_layers q (bytes_eq-turned n q other)) m.names.entries (no_item m.extent (source_in m.sources) m.names.entries n d.fits.absent))
        ∙ ap (λ (o : Option LayerState). seated (entries_in m) place n (def_by m.extent o items.Source)) own_layer

    abbrev IsWhole : LayerState → Type 0
    IsWhole l = (l.size ≡ m.extent) × IsLayer l

    added_held : AreHeld (after added) entered.sources
    added_held = (
      record {
        stand = λ q. ap (λ (ks : List Name). is_some (position (bytes_eq q) ks)) is.names ∙ added_stands m keeps e draft key layer place d q;
        apart = is.apart;
        count =
            let a = length-append m.sources.layers.items (fresh ∷ []) in let b = length-append m.sources.names.keys (n ∷ []) in let count = keeps.sources.count in
            ap length is.layers ∙ omega (arith, a, b, count) ∙ sym (ap length is.names);
        whole =
            let own = d.fits.whole in
            let whole : IsLayer fresh = record { size = own.size; cells = own.cells; are_cells = own.are_cells; stamps = length-replicate (tiles_in layer.size) (raised m.number 1) } in
            subst (All IsWhole) (sym is.layers) (All-push IsWhole m.sources.layers.items fresh keeps.sources.whole (d.fits.sized, whole));
      },
      λ q l here. elim (cases_Bool (bytes_eq q n)) [
        | inl same ↦
            let at : q ≡ n = same_name q n same in
            let is : fresh ≡ l = same_Some fresh l (sym own_layer ∙ ap (source_in entered.sources) (sym at) ∙ here) in
            ap (λ (k : LayerState). k.stamps) (sym is) ∙ ap (λ (s : Size). (layer_of s layer.cells (raised m.number 1)).stamps) d.fits.sized
            ∙ stamps_begin m keeps (after added) refl n layer.cells (absent_before m keeps n (plain_undotted n d.plain) d.fits.absent) ∙ ap (stamps_at (seen m) (after added)) (sym at)
        | inr other ↦ other_stamps m keeps (after added) refl (draft_change m keeps e draft added d).good q l (others_stay m keeps e draft added d q other) (sym (other_layers q other) ∙ here)
      ],
    )

  -- ---- a statement, which leaves the sources as they are

  put_held : (written : Written) (flats : Vec Flat Global) (place : Option ℕ) (d : Drafted (Statement written flats place)) → AreHeld (after (Statement written flats place)) m.sources
  put_held written flats place d =
      let to : Change = Statement written flats place in (
        record { stand = put_stands m keeps e draft written flats place d; apart = keeps.sources.apart; count = keeps.sources.count; whole = keeps.sources.whole },
        λ q l here. other_stamps m keeps (after to) refl (draft_change m keeps e draft to d).good q l (elim (cases_Bool (bytes_eq q n)) [
          | inl same ↦ absurd (d.fits.other (grid_of l) (ap (find_def (entries_in m)) (sym (same_name q n same)) ∙ source_def m q keeps l here))
          | inr other ↦ others_stay m keeps e draft to d q other
        ]) here,
      )

  -- ---- by what stands for the name

  -- the names and the sources with it, and the steps over them
  record IsIn (change : Change) : Type 0 where
    others : beside entered ≡ with_statements
    entries : entries_by m.extent (source_in entered.sources) entered.names.entries ≡ entries_after (entries_in m) n change
    named : All IsNamed entered.names.entries
    held : AreHeld (after change) entered.sources
    plan_names : entered.planned.names.keys ≡ old.planned.names.keys
    plan_count : length entered.planned.steps.items ≡ length old.planned.steps.items
    rest : Rest entered.sources.names.keys entered.planned.steps.items

  is_in : (change : Change) → Drafted change → Repaired change → Entered change → IsIn change
  is_in (Source key layer place) d r is = record {
    others = ap beside is.others;
    entries = ap (entries_by m.extent (source_in entered.sources)) is.items ∙ added_entries key layer place d is;
    named = subst (All IsNamed) (sym is.items) (named_seated m.names.entries place n items.Source keeps.named d.plain tt);
    held = added_held key layer place d is;
    plan_names = ap (λ (x : KeptMap). x.planned.names.keys) is.others;
    plan_count = ap (λ (x : KeptMap). length x.planned.steps.items) is.others;
    rest = rested (after (Source key layer place)) r.shift (m.sources.names.keys ++ n ∷ []) r.ready.under (ap (λ (x : KeptMap). x.planned.steps.items) is.others) is.names;
  }
  is_in (Statement written flats place) d r is =
      let to : Change = Statement written flats place in
      let item : Item = items.Statement written flats in
      let same : entered.sources ≡ m.sources = ap (λ (x : KeptMap). x.sources) is.0 in
      record {
        others = ap beside is.0;
        entries =
            ap (λ (q : Sources). entries_by m.extent (source_in q) entered.names.entries) same ∙ ap (entries_by m.extent (source_in m.sources)) is.1
            ∙ entries_seated m.extent (source_in m.sources) m.names.entries place n item;
        named = subst (All IsNamed) (sym is.1) (named_seated m.names.entries place n item keeps.named d.plain (d.fits.formed, d.fits.ranges));
        held = subst (AreHeld (after to)) (sym same) (put_held written flats place d);
        plan_names = ap (λ (x : KeptMap). x.planned.names.keys) is.0;
        plan_count = ap (λ (x : KeptMap). length x.planned.steps.items) is.0;
        rest = rested (after to) r.shift m.sources.names.keys r.ready.under (ap (λ (x : KeptMap). x.planned.steps.items) is.0) (ap (λ (q : Sources). q.names.keys) same);
      }
  is_in Out d r is =
      let place : Option ℕ = position (bytes_eq n) m.sources.names.keys in
      let left = without m keeps n entered.sources is.apart old.planned.steps.items entered.planned.steps.items place refl is.taken in
      let good = (draft_change m keeps e draft Out d).good in
      record {
        others = ap beside is.others;
        entries = ap (entries_by m.extent (source_in entered.sources)) is.items ∙ dropped_entries m keeps n entered.sources left;
        named = subst (All IsNamed) (sym is.items) (named_remove m.names.entries n keeps.named);
        held = (dropped_sources m keeps n entered.sources left (after Out).names refl refl good is.apart, dropped_stamps m keeps n entered.sources left (after Out) refl refl good);
        plan_names = is.plan_names;
        plan_count = steps_left place is.taken;
        rest = rest_dropped m e (after Out) r.shift planned.names.keys planned.steps.items keeps r.ready.under d.lawful.none_looped n (out_value m keeps e draft d)
            entered.sources old.planned.steps.items entered.planned.steps.items put.rests place refl is.taken;
      }

  -- ---- before it is entered

  pub can_enter : (change : Change) → Drafted change → HasRoomFor m change → CanEnter old n change
  can_enter change d room = subst (λ (x : KeptMap). CanEnter x n change) (sym put.others) (can change d room)
    where
      can : (change : Change) → Drafted change → HasRoomFor m change → CanEnter with_statements n change
      can (Source key layer place) d room =
          (record { names = room.names; sources = room.sources }, d.fits.same, no_place m keeps n d.fits.absent, can_seat m.extent (source_in m.sources) m.names.entries n place d.fits.seat)
      can (Statement written flats place) d room = (room, can_seat m.extent (source_in m.sources) m.names.entries n place d.fits.seat)
      can Out d room = (keeps.sources.apart, keeps.sources.count)

  -- what stood there before
  stood_before : (change before : Change) → IsStandBefore old n change before → IsStandBefore m n change before
  stood_before (Source key layer place) before is = is
  stood_before Out (Source key layer (Some k)) is = subst (λ (x : KeptMap). StoodFor x n (Source key layer (Some k))) put.others is
  stood_before Out (Statement written flats (Some k)) is = subst (λ (x : KeptMap). StoodFor x n (Statement written flats (Some k))) put.others is
  stood_before change before is = subst (λ (x : KeptMap). IsStandBefore x n change before) put.others is

  -- ---- all of it, the marks too

  module _ (labels symbols : List Mark) (labels_are : labels ≡ unwrap_or draft.labels entered.labels) (symbols_are : symbols ≡ unwrap_or draft.symbols entered.symbols)
      (change : Change) (d : Drafted change) (r : Repaired change) (entering : IsEntered old entered n change) where
    abbrev new : KeptMap
    new = record entered { labels = labels; symbols = symbols }

    at : IsIn change
    at = is_in change d r (subst (λ (x : KeptMap). IsEntered x entered n change) put.others entering)

    abbrev state_of : Size → List Entry → ℕ → EngineState
    state_of size entries number = record { size = size; entries = entries; number = number }

    is_committed : IsCommitted m new (after change) planned.names.keys planned.steps.items prepared.made.items
    is_committed = record {
      names_are =
          ap (λ (x : KeptMap). state_of x.extent (entries_by x.extent (source_in entered.sources) entered.names.entries) x.number) at.others
          ∙ ap (λ es. state_of m.extent es (raised m.number 1)) at.entries;
      procedures = ap (λ (x : KeptMap). x.procedures) at.others;
      labels = labels_are ∙ ap (λ (x : KeptMap). unwrap_or draft.labels x.labels) at.others;
      symbols = symbols_are ∙ ap (λ (x : KeptMap). unwrap_or draft.symbols x.symbols) at.others;
      named = at.named;
      formed = subst (λ (x : KeptMap). All IsProcedure x.procedures) (sym at.others) keeps.formed;
      sources_few = d.sources_few;
      flats_few = d.flats_few;
      graph_is = ap (λ (x : KeptMap). x.graph) at.others ∙ d.graph_is;
      sources = at.held.0;
      stamped = at.held.1;
      plan_names = at.plan_names ∙ put.plan_names;
      plan_count = at.plan_count ∙ put.rests.0;
      rest = at.rest;
      kept_count = ap (λ (x : KeptMap). length x.kept.items) at.others ∙ put.kept_count;
      placed = subst (λ (x : KeptMap). ArePlaced m.extent (raised m.number 1) (map (λ k. Some k) m.kept.items) planned.steps.items prepared.made.items x.kept.items) (sym at.others) put.placed;
    }

    committed : IsKept new × (seen new ≡ stamped (seen m) (after change))
    committed = committed_prepared m new e (after change) r.shift (sources_after m.sources.names.keys n change) planned.names.keys planned.steps.items prepared keeps r.set_up r.ready is_committed

    pub draft_kept : IsKept new
    draft_kept = committed.0

    pub draft_accepts : (accepted : told.Accepted) → accepted.number ≡ new.number → counts_view accepted.counts ≡ counts_with m.extent change (counts_view prepared.counts) → Accepts (seen m) (seen new) e (Ok accepted)
    draft_accepts accepted number counts =
        let is = accepted_is m e (after change) r.shift (sources_after m.sources.names.keys n change) keeps r.set_up planned.names.keys planned.steps.items prepared r.ready in
        let own = own_counts m keeps e draft change d (counts_view prepared.counts) ∙ sym counts in (
          is ∙ ap (λ o. Ok (record { state = stamped (seen m) (after change); counts = o })) own ∙ ap (λ s. Ok (record { state = s; counts = counts_view accepted.counts })) (sym committed.1),
          number,
        )

    -- of each edit that would make it
    pub draft_takes_back : (f : WholeEdit) → IsDraftOf m f n change draft.graph draft.labels draft.symbols → (before : Change) → IsStandBefore old n change before
        → (graph : List Group) (own_labels own_symbols : Option (List Mark)) → graph ≡ m.graph
        → own_labels ≡ option_map (λ (x : List Mark). entered.labels) draft.labels → own_symbols ≡ option_map (λ (x : List Mark). entered.symbols) draft.symbols
        → TakesBack (seen m) (seen new) (touch_of f) (inverses.Name (record { name = n; change = before; graph = graph; labels = own_labels; symbols = own_symbols }))
    draft_takes_back f is before stand graph own_labels own_symbols graph_is labels_stood symbols_stood =
        let ls = labels_stood ∙ ap (λ (x : KeptMap). option_map (λ (y : List Mark). x.labels) draft.labels) at.others in
        let ss = symbols_stood ∙ ap (λ (x : KeptMap). option_map (λ (y : List Mark). x.symbols) draft.symbols) at.others in
        rw (graph_is, ls, ss) (name_back m keeps f n change draft.graph draft.labels draft.symbols is (seen new) before (ap (λ (x : KeptMap). x.extent) at.others) (ap parts_of committed.1) (stood_before change before stand))
