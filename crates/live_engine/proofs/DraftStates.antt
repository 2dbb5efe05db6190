-- The state that a draft would make: what becomes of the sources, which flat statements are planned, and what of it counts.
use Rattle.std.proofs.Common.{◌≡◌, ℕ, ◌+◌, false, ◌||◌, List, [], ◌∷◌, ◌++◌, length, position, slice_get, Option, Some, None, is_some, option_map, Result, Ok, Err, IfOk, bytes_eq, Bor, Vec, refl, sym, ap, subst, ◌∙◌, arith, inl, inr}
use Rattle.std.proofs.Math.Bool.{or-false}
use Rattle.std.proofs.lemmas.Bool.{or_left, or_right, cases_Bool}
use Rattle.std.specs.List.{All, list_any}
use Rattle.std.specs.declared.alloc.Global.{Global}
use Rattle.std.proofs.lemmas.Option.{none-some}
use Rattle.std.proofs.lemmas.List.{length-append, append-nil}
use Rattle.std.proofs.lemmas.List.Folds.{list_any-append}
use Rattle.map_nums.specs.Grids.{Size, Grid, Cells}
use Rattle.map_defs.specs.Ops.{Name}
use Rattle.map_defs.specs.Nodes.{find_node}
use Rattle.map_defs.specs.MadeProcedures.{IsUndotted}
use Rattle.map_defs.specs.Differences.{changed_tiles}
use Rattle.layer_tiles.specs.Layers.{LayerState}
use Rattle.layer_tiles.specs.Tiles.{tiles_in}
use Rattle.statement_parser.specs.Views.{op_view, written_view}
use Rattle.statement_parser.specs.declared.line.Written.{Written}
use Rattle.procedure_expand.specs.declared.flat.Flat.{Flat}
use Rattle.procedure_expand.specs.Flats.{flats_view}
use Rattle.procedure_expand.proofs.Plain.{plain_undotted}
use Rattle.op_jobs.specs.Ranges.{HasRanges}
use Rattle.map_edits.specs.Entries.{Def, source, statement, Entry, find_def}
use Rattle.map_edits.specs.EngineStates.{EngineState, made, value_of}
use Rattle.map_edits.specs.LayerDefs.{Making, given_grid, by_op, layers, find_making, nodes_of}
use Rattle.map_edits.specs.LayerChanges.{now_of, changed_of}
use Rattle.map_edits.specs.EditCounts.{Counts}
use Rattle.map_edits.specs.Touches.{whole, touch_of, is_whole}
use Rattle.map_edits.specs.WholeEdits.{WholeEdit}
use Rattle.map_edits.specs.WholeStates.{WholeState, cells_of}
use Rattle.map_edits.proofs.Among.{same_name, bytes_eq-self, bytes_eq-turned}
use Rattle.map_edits.proofs.Heads.{head_of, head_undotted}
use Rattle.map_edits.proofs.Looks.{made_node, find_node-making}
use Rattle.map_edits.proofs.Groups.{group_making, making_by_head}
use Rattle.map_edits.proofs.Puts.{find_drop, find_drop_other}
use Rattle.map_edits.proofs.LawfulEdits.{IsGoodChange, good_of}
use Rattle.map_edits.proofs.Unfolds.{value_unfolds}
use Rattle.map_waves.specs.Bases.{source_by}
use Rattle.map_waves.specs.declared.plans.Shift.{Shift}
use Rattle.map_waves.specs.declared.plans.Shift.TheVariants.{Nothing, Loaded}
use Rattle.edit_plans.specs.Planned.{AreSources, is_source_node}
use Rattle.edit_plans.specs.SourceCounts.{joined, no_counts, counts_of_source, counts_of_touched}
use Rattle.edit_plans.proofs.Positions.{some_position}
use Rattle.kept_map.specs.Maps.{grid_of, entries_in, names_in, names_with, seen}
use Rattle.kept_map.specs.Keeps.{IsKept}
use Rattle.kept_map.specs.Edits.{IsSetUp, IsReplanned}
use Rattle.kept_map.specs.Repairs.{IsPreparedFor}
use Rattle.kept_map.specs.declared.maps.KeptMap.{KeptMap}
use Rattle.kept_map.specs.declared.halts.Halt.{Halt}
use Rattle.kept_map.specs.declared.preparing.Replanned.{Replanned}
use Rattle.kept_map.proofs.EditedFlats.{IsWrittenAs}
use Rattle.kept_map.proofs.EditedPlans.{flats_make, flats_made, flats_touched, flats_ranged}
use Rattle.kept_map.proofs.SourcesAfter.{is_source_def, source_node_is, stand_by, stood_by}
use Rattle.kept_map.proofs.SettingUp.{nothing_operands, loaded_operands, left_changes, loaded_changes, others_left, absent_before}
use Rattle.kept_map.proofs.Given.{making_source, source_making, source_value}
use Rattle.live_engine.specs.Drafts.{entries_after, state_after, draft_state, sources_after, flats_written, counts_with, IsDraftOf, IsDraft, IsRepairedFor}
use Rattle.live_engine.specs.declared.drafts.Change.{Change}
use Rattle.live_engine.specs.declared.drafts.Change.TheVariants.{Source, Statement, Out}
use Rattle.live_engine.specs.declared.drafts.Draft.{Draft}
use Rattle.live_engine.proofs.Accepting.{tiles_long}
use Rattle.live_engine.proofs.Seated.{find_seated, others_seated}

-- all tiles of a layer that wasn't there
all_changed : (s : Size) (o : Option Cells) (now : Cells) → o ≡ None → length (changed_tiles s o now) ≡ tiles_in s
unfolding changed_tiles
all_changed s None now e = tiles_long s
all_changed s (Some was) now e = absurd (none-some was (sym e))

joined_none : (c : Counts) → joined no_counts c ≡ c
joined_none c =
    let a : 0 + c.changed ≡ c.changed = omega arith in
    let b : 0 + c.evaluated ≡ c.evaluated = omega arith in
    let d : 0 + c.worked ≡ c.worked = omega arith in
    rw (a, b, d) refl

module _ (m : KeptMap) (keeps : IsKept m) (e : WholeEdit) (draft : Draft) where
  abbrev n : Name
  n = draft.name

  abbrev after : Change → WholeState
  after change = state_after (seen m) n change draft.labels draft.symbols

  abbrev new : Change → List Entry
  new change = entries_after (entries_in m) n change

  abbrev Drafted : Change → Type 0
  Drafted change = IsDraftOf m e n change draft.graph draft.labels draft.symbols

  undotted_name : (change : Change) → Drafted change → IsUndotted n
  undotted_name change is = plain_undotted n is.plain

  -- what is found by the name
  abbrev def_after : Change → Option Def
  def_after (Source key layer place) = Some (source (grid_of layer))
  def_after (Statement written flats place) = Some (statement (written_view written) (flats_view flats.items))
  def_after Out = None

  pub there : (change : Change) → Drafted change → find_def (new change) n ≡ def_after change
  there (Source key layer place) is = find_seated (entries_in m) place n (source (grid_of layer)) is.fits.seat
  there (Statement written flats place) is = find_seated (entries_in m) place n (statement (written_view written) (flats_view flats.items)) is.fits.seat
  there Out is = find_drop (entries_in m) n

  -- and by the others
  pub others_stay : (change : Change) → Drafted change → (q : Name) → bytes_eq q n ≡ false → find_def (new change) q ≡ find_def (entries_in m) q
  others_stay (Source key layer place) is = others_seated (entries_in m) place n (source (grid_of layer)) is.fits.seat
  others_stay (Statement written flats place) is = others_seated (entries_in m) place n (statement (written_view written) (flats_view flats.items)) is.fits.seat
  others_stay Out is = find_drop_other (entries_in m) n

  pub draft_change : (change : Change) → Drafted change → IsGoodChange (entries_in m) n (new change)
  draft_change change is = record {
    good = good_of (after change) is.lawful;
    makings = λ q differs.
        making_by_head (new change) q is.lawful.groups is.lawful.apart
        ∙ ap (group_making q) (others_stay change is (head_of q) (bytes_eq-turned n (head_of q) differs)) ∙ sym (making_by_head (entries_in m) q keeps.lawful.groups keeps.lawful.apart);
  }

  wrote : (change : Change) → Drafted change → IsWrittenAs (find_def (new change) n) (flats_written change)
  wrote (Source key layer place) is = subst (λ o. IsWrittenAs o []) (sym (there (Source key layer place) is)) refl
  wrote (Statement written flats place) is = subst (λ o. IsWrittenAs o flats.items) (sym (there (Statement written flats place) is)) refl
  wrote Out is = subst (λ o. IsWrittenAs o []) (sym (there Out is)) refl

  -- ---- a source more

  module _ (key : Name) (layer : LayerState) (place : Option ℕ) (d : Drafted (Source key layer place)) where
    abbrev added : Change
    added = Source key layer place

    change : IsGoodChange (entries_in m) n (new added)
    change = draft_change added d

    pub source_set_up : (b : Bor LayerState) → b.now ≡ layer → IsSetUp m e (after added) (Loaded b) (m.sources.names.keys ++ n ∷ [])
    source_set_up b same = record {
      said = d.said;
      attempt = d.attempt;
      shift_is = sized;
      operands = loaded_operands m keeps b sized;
      changes = loaded_changes m keeps t change.good.none_looped b n (undotted_name added d) d.fits.absent cells (others_left m keeps t n change (λ grid def. absurd (none-some (source grid) (sym d.fits.absent ∙ def))));
      count = let a = length-append m.sources.names.keys (n ∷ []) in let count = keeps.sources.count in omega (arith, a, count);
    }
      where
        t : EngineState
        t = (after added).names

        sized : b.now.size ≡ m.extent
        sized = ap (λ (l : LayerState). l.size) same ∙ d.fits.sized

        cells : cells_of t n ≡ Some b.now.cells
        cells =
            ap (option_map (λ (g : Grid). g.cells)) (source_value t n (grid_of layer) change.good.groups change.good.apart change.good.none_looped (there added d))
            ∙ ap (λ (l : LayerState). Some l.cells) (sym same)

    pub added_stands : (q : Name) → is_some (position (bytes_eq q) (m.sources.names.keys ++ n ∷ [])) ≡ is_source_node (find_node (nodes_of (new added)) q)
    added_stands = stand_by (new added) (m.sources.names.keys ++ n ∷ []) d.lawful.groups d.lawful.apart (λ q.
        some_position (bytes_eq q) (m.sources.names.keys ++ n ∷ []) ∙ list_any-append (bytes_eq q) m.sources.names.keys (n ∷ []) ∙ elim (cases_Bool (bytes_eq q n)) [
          | inl same ↦
              or_right (list_any (bytes_eq q) m.sources.names.keys) (bytes_eq q n || false) (or_left (bytes_eq q n) false same)
              ∙ sym (ap is_source_def (ap (find_def (new added)) (same_name q n same) ∙ there added d))
          | inr other ↦
              ap (λ b. list_any (bytes_eq q) m.sources.names.keys || (b || false)) other ∙ or-false (list_any (bytes_eq q) m.sources.names.keys) ∙ sym (some_position (bytes_eq q) m.sources.names.keys)
              ∙ stood_by m keeps q ∙ ap is_source_def (sym (others_stay added d q other))
        ])

  -- ---- a statement, which leaves the sources as they are

  module _ (written : Written) (flats : Vec Flat Global) (place : Option ℕ) (d : Drafted (Statement written flats place)) where
    abbrev put : Change
    put = Statement written flats place

    pub put_stands : (q : Name) → is_some (position (bytes_eq q) m.sources.names.keys) ≡ is_source_node (find_node (nodes_of (new put)) q)
    put_stands = stand_by (new put) m.sources.names.keys d.lawful.groups d.lawful.apart (λ q. stood_by m keeps q ∙ elim (cases_Bool (bytes_eq q n)) [
      | inl same ↦
          let at = same_name q n same in
          ap (λ a. is_source_def (find_def (entries_in m) a)) at ∙ no_source (find_def (entries_in m) n) d.fits.other ∙ sym (ap (λ a. is_source_def (find_def (new put) a)) at ∙ ap is_source_def (there put d))
      | inr other ↦ ap is_source_def (sym (others_stay put d q other))
    ])
      where
        no_source : (o : Option Def) → ((grid : Grid) → o ≡ Some (source grid) → ⊥) → is_source_def o ≡ false
        no_source None other = refl
        no_source (Some (source grid)) other = absurd (other grid refl)
        no_source (Some (statement w fs)) other = refl

  -- ---- no name

  -- a name that is out is no layer any more
  no_making : Drafted Out → find_making (layers (new Out)) n ≡ None
  no_making is = making_by_head (new Out) n is.lawful.groups is.lawful.apart ∙ ap (group_making n) (ap (find_def (new Out)) (head_undotted n (undotted_name Out is)) ∙ there Out is)

  dropped_stands : Drafted Out → AreSources (nodes_of (new Out)) m.sources.names.keys
  dropped_stands d q node found = elim (cases_Bool (bytes_eq q n)) [
    | inl same ↦
        let here = subst (λ a. find_node (nodes_of (new Out)) a ≡ Some node) (same_name q n same) found in
        absurd (none-some node (sym (find_node-making (layers (new Out)) n ∙ ap (option_map (made_node n)) (no_making d)) ∙ here))
    | inr other ↦ stood_by m keeps q ∙ ap is_source_def (sym (others_stay Out d q other)) ∙ sym (source_node_is (new Out) q d.lawful.groups d.lawful.apart) ∙ ap is_source_node found
  ]

  -- where no layer is loaded, a source stays or is gone
  pub left_up : (change : Change) (is : Drafted change) → sources_after m.sources.names.keys n change ≡ m.sources.names.keys
      → ((grid : Grid) → find_def (entries_in m) n ≡ Some (source grid) → find_def (new change) n ≡ None) → IsSetUp m e (after change) Nothing (sources_after m.sources.names.keys n change)
  left_up change is same gone =
      let c = draft_change change is in
      let t = (after change).names in
      let stay = left_changes m keeps t c.good.none_looped Nothing (λ i l at. ap (source_by m.extent Nothing i) at) (others_left m keeps t n c gone) in
      record {
        said = is.said;
        attempt = is.attempt;
        shift_is = tt;
        operands = nothing_operands m keeps;
        changes = λ i q at. stay i q (subst (λ (ks : List Name). slice_get ks i ≡ Some q) same at);
        count = let len = ap length same in let count = keeps.sources.count in omega (arith, len, count);
      }

  -- ---- the plan

  stand : (change : Change) → Drafted change → AreSources (nodes_of (new change)) (sources_after m.sources.names.keys n change)
  stand (Source key layer place) is = λ q node found. added_stands key layer place is q ∙ ap is_source_node found
  stand (Statement written flats place) is = λ q node found. put_stands written flats place is q ∙ ap is_source_node found
  stand Out is = dropped_stands is

  ranged : (change : Change) → Drafted change → All (λ (f : Flat). HasRanges (op_view f.op)) (flats_written change)
  ranged (Statement written flats place) is = is.fits.ranges
  ranged change is = λ k d within. absurd (omega arith)

  pub draft_replanned : (change : Change) → Drafted change → IsReplanned m e (after change) (sources_after m.sources.names.keys n change) draft.graph n (flats_written change)
  draft_replanned change is =
      let plain = undotted_name change is in
      let c = draft_change change is in
      let w = wrote change is in
      let fs = flats_written change in
      record {
        graph_is = is.graph_is;
        stand = stand change is;
        makings = flats_make m keeps (new change) n fs plain c w;
        found = flats_made m keeps (new change) n fs plain c w;
        touched = λ q f at. flats_touched m keeps (new change) n fs plain c w q f at ∙ ap (λ touch. is_whole (new change) touch q) (sym is.touch);
        ranges = flats_ranged m keeps (new change) n fs plain c w (ranged change is);
        sources_few = is.sources_few;
        flats_few = is.flats_few;
      }

  -- ---- what counts

  -- with what is counted of the name's own source
  own_source : (change : Change) → Drafted change → (counts : Counts) → joined (counts_of_touched (whole n) (names_in m) (after change).names) counts ≡ counts_with m.extent change counts
  own_source (Source key layer place) is counts = rw (making, changed, bytes_eq-self n, tiles_long m.extent) refl
    where
      t : EngineState
      t = (after (Source key layer place)).names

      making : find_making (layers t.entries) n ≡ Some (given_grid (grid_of layer))
      making = source_making t.entries n is.lawful.groups is.lawful.apart (grid_of layer) (there (Source key layer place) is)

      changed : length (changed_of (names_in m) t n) ≡ tiles_in m.extent
      changed = all_changed m.extent (cells_of (names_in m) n) (now_of t n) (absent_before m keeps n (undotted_name (Source key layer place) is) is.fits.absent)
  own_source (Statement written flats place) is counts = ap (λ o. joined o counts) (go (find_making (layers (new (Statement written flats place))) n) refl) ∙ joined_none counts
    where
      go : (o : Option Making) → find_making (layers (new (Statement written flats place))) n ≡ o → counts_of_source (whole n) (names_in m) (after (Statement written flats place)).names n o ≡ no_counts
      go None e = refl
      go (Some (by_op op)) e = refl
      go (Some (given_grid grid)) e =
          let both : Some (statement (written_view written) (flats_view flats.items)) ≡ Some (source grid) = sym (there (Statement written flats place) is) ∙ making_source (new (Statement written flats place)) n is.lawful.groups is.lawful.apart grid e in
          absurd cc
  own_source Out is counts = ap (λ o. joined (counts_of_source (whole n) (names_in m) (after Out).names n o) counts) (no_making is) ∙ joined_none counts

  pub out_value : Drafted Out → value_of (after Out).names n ≡ None
  out_value is = value_unfolds (after Out).names is.lawful.none_looped n ∙ ap (made m.extent (value_of (after Out).names)) (no_making is)

  pub own_counts : (change : Change) → Drafted change → (counts : Counts) → joined (counts_of_touched (touch_of e) (names_in m) (after change).names) counts ≡ counts_with m.extent change counts
  own_counts change is counts = ap (λ touch. joined (counts_of_touched touch (names_in m) (after change).names) counts) is.touch ∙ own_source change is counts

-- ---- what is asked of a repair, and what it then tells of the draft

pub record IsAsked (m : KeptMap) (e : WholeEdit) (d : Draft) (shift : Shift) (sources : List Name) (written : List Flat) : Type 0 where
  pub names : sources ≡ sources_after m.sources.names.keys d.name d.change
  pub set_up : IsSetUp m e (draft_state (seen m) d) shift sources
  pub replanned : IsReplanned m e (draft_state (seen m) d) sources d.graph d.name written

module _ (m : KeptMap) (keeps : IsKept m) (d : Draft) where
  abbrev Drafts : WholeEdit → Change → Type 0
  Drafts e change = IsDraftOf m e d.name change d.graph d.labels d.symbols

  abbrev sources_with : Change → List Name
  sources_with change = sources_after m.sources.names.keys d.name change

  abbrev made_by : Change → WholeState
  made_by change = state_after (seen m) d.name change d.labels d.symbols

  asked_as : (change : Change) (shift : Shift) (sources : List Name) (written : List Flat) → d.change ≡ change → sources ≡ sources_with change → written ≡ flats_written change
      → ((e : WholeEdit) → Drafts e change → IsSetUp m e (made_by change) shift (sources_with change)) → (e : WholeEdit) → IsDraft m e d → IsAsked m e d shift sources written
  asked_as change shift sources written is names flats set_up e draft =
      let drafted = subst (Drafts e) is draft in
      let planned = draft_replanned m keeps e d change drafted in
      subst (λ (q : Change). IsAsked m e (record d { change = q }) shift sources written) (sym is) (record {
        names = names;
        set_up = subst (IsSetUp m e (made_by change) shift) (sym names) (set_up e drafted);
        replanned = subst (λ ks. IsReplanned m e (made_by change) ks d.graph d.name written) (sym names) (subst (IsReplanned m e (made_by change) (sources_with change) d.graph d.name) (sym flats) planned);
      })

  pub source_asked : (key : Name) (layer : LayerState) (place : Option ℕ) → d.change ≡ Source key layer place → (b : Bor LayerState) → b.now ≡ layer → (e : WholeEdit) → IsDraft m e d → IsAsked m e d (Loaded b) (m.sources.names.keys ++ d.name ∷ []) []
  source_asked key layer place is b same = asked_as (Source key layer place) (Loaded b) (m.sources.names.keys ++ d.name ∷ []) [] is refl refl (λ e drafted. source_set_up m keeps e d key layer place drafted b same)

  pub statement_asked : (written : Written) (flats : Vec Flat Global) (place : Option ℕ) → d.change ≡ Statement written flats place → (these : List Flat) → these ≡ flats.items → (e : WholeEdit) → IsDraft m e d → IsAsked m e d Nothing (names_with m.sources None) these
  statement_asked written flats place is these same = asked_as (Statement written flats place) Nothing (names_with m.sources None) these is (append-nil m.sources.names.keys) same
      (λ e drafted. left_up m keeps e d (Statement written flats place) drafted refl (λ grid def. absurd (drafted.fits.other grid def)))

  pub out_asked : d.change ≡ Out → (e : WholeEdit) → IsDraft m e d → IsAsked m e d Nothing (names_with m.sources None) []
  out_asked is = asked_as Out Nothing (names_with m.sources None) [] is (append-nil m.sources.names.keys) refl
      (λ e drafted. left_up m keeps e d Out drafted refl (λ grid def. there m keeps e d Out drafted))

module _ (m : KeptMap) (d : Draft) {shift : Shift} {sources : List Name} {written : List Flat} (asked : (e : WholeEdit) → IsDraft m e d → IsAsked m e d shift sources written) where
  pub asked_for : (e : WholeEdit) × IsDraft m e d → (e : WholeEdit) × (t : WholeState) × IsSetUp m e t shift sources × IsReplanned m e t sources d.graph d.name written
  asked_for draft = let a = asked draft.0 draft.1 in (draft.0, draft_state (seen m) d, a.set_up, a.replanned)

  pub told : (Q : WholeEdit → WholeState → Type 0) → ((e : WholeEdit) (t : WholeState) → IsSetUp m e t shift sources → IsReplanned m e t sources d.graph d.name written → Q e t) → (e : WholeEdit) → IsDraft m e d → Q e (draft_state (seen m) d)
  told Q tells e draft = let a = asked e draft in tells e (draft_state (seen m) d) a.set_up a.replanned

  pub told_repaired : (r : Result Replanned Halt)
      → ((e : WholeEdit) (t : WholeState) → IsSetUp m e t shift sources → IsReplanned m e t sources d.graph d.name written → IfOk r (λ p. IsPreparedFor m e t shift sources p.planned.names.keys p.planned.steps.items p.prepared))
      → (e : WholeEdit) → IsDraft m e d → IfOk r (λ p. IsRepairedFor m e d p.planned p.prepared)
  told_repaired (Err halt) tells e draft = tt
  told_repaired (Ok p) tells e draft =
      let a = asked e draft in
      let ready = tells e (draft_state (seen m) d) a.set_up a.replanned in
      record {
        shift = shift;
        set_up = subst (IsSetUp m e (draft_state (seen m) d) shift) a.names a.set_up;
        ready = subst (λ ks. IsPreparedFor m e (draft_state (seen m) d) shift ks p.planned.names.keys p.planned.steps.items p.prepared) a.names ready;
      }
