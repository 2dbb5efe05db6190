-- The sources of a map after an edit: which names they are, and their stamps; after a name was dropped, the operands that go with them.
use Rattle.std.proofs.Common.{◌≡◌, Bool, true, false, cond, List, position, Option, Some, None, is_some, option_map, bytes_eq, refl, sym, ap, ◌∙◌, ◌≢◌, inl, inr, ℕ, zero, suc, ◌-◌, ◌<◌, ◌≤◌, [], ◌∷◌, map, slice_get, arith, length, get_or, subst, take, drop}
use Rattle.std.proofs.lemmas.Bool.{false≢true, false_from_ne_true, lt-ltb, le-ltb, and_parts, cases_lt, cases_Bool}
use Rattle.map_nums.specs.Grids.{Grid, Size}
use Rattle.map_defs.specs.Ops.{Name, Term, layer_term, number_term}
use Rattle.map_defs.specs.Nodes.{find_node}
use Rattle.layer_tiles.specs.Layers.{LayerState, IsLayer}
use Rattle.map_edits.specs.Entries.{Def, source, statement, Entry, find_def, drop_entry}
use Rattle.map_edits.specs.LayerDefs.{nodes_of}
use Rattle.map_edits.specs.WholeStates.{WholeState}
use Rattle.map_edits.specs.StampsAfter.{stamps_at}
use Rattle.map_edits.specs.Laws.{IsApart, HasNoCycle}
use Rattle.map_edits.specs.GroupLaws.{AreGroups}
use Rattle.map_edits.proofs.LawfulEdits.{AreGood}
use Rattle.edit_plans.specs.Planned.{is_source_node}
use Rattle.kept_map.specs.Maps.{grid_of, source_in, entries_in, seen, at_place, entries_by, names_in}
use Rattle.kept_map.specs.Keeps.{IsKept, AreKeptSources}
use Rattle.kept_map.specs.declared.maps.KeptMap.{KeptMap}
use Rattle.kept_map.proofs.Given.{source_node, node_source, source_value}
use Rattle.kept_map.proofs.SettingUp.{stamps_stay, one_place}
use Rattle.std.specs.Prelude.{remove}
use Rattle.std.specs.List.{IsDistinct, All}
use Rattle.std.proofs.lemmas.Option.{none-some, same_Some}
use Rattle.std.specs.Map.{remove_entry}
use Rattle.std.proofs.lemmas.List.Elements.{All-append, All-take, All-drop}
use Rattle.std.proofs.lemmas.Grind.{common_steps}
use Rattle.map_nums.specs.Options.{all_some}
use Rattle.statement_parser.specs.Views.{op_view}
use Rattle.statement_parser.specs.declared.op.Op.{Op as Given}
use Rattle.map_edits.specs.EngineStates.{EngineState, term_cells, value_of}
use Rattle.map_edits.specs.WholeEdits.{WholeEdit}
use Rattle.map_edits.specs.Touches.{touch_of}
use Rattle.map_edits.proofs.Among.{same_name, bytes_eq-turned}
use Rattle.map_edits.proofs.Puts.{find_drop, find_drop_other}
use Rattle.map_waves.specs.Plans.{StepDef}
use Rattle.map_waves.specs.declared.plans.Ref.{Ref}
use Rattle.map_waves.specs.declared.plans.Ref.TheVariants.{Source}
use Rattle.map_waves.specs.declared.plans.Step.{Step}
use Rattle.map_waves.specs.declared.plans.Shift.{Shift}
use Rattle.edit_plans.specs.PlansFor.{IsRefFor, AreRefsFor}
use Rattle.edit_plans.proofs.Positions.{position_at}
use Rattle.edit_plans.proofs.There.{all_cons, none_where}
use Rattle.edit_plans.proofs.Valued.{operands_made}
use Rattle.edit_plans.proofs.Ordered.{named_step}
use Rattle.kept_map.specs.Lowering.{lowered, IsLowered, IsTakenOut}
use Rattle.kept_map.specs.declared.maps.Sources.{Sources}
use Rattle.kept_map.specs.Commits.{IsAtRest, Rests}
use Rattle.kept_map.specs.Repairs.{plan_in, step_in, IsUnder}
use Rattle.kept_map.proofs.SourceLayers.{placed_first, source_is_some, entries_remove, source_def}
use Rattle.kept_map.proofs.Ready.{rests_after}

-- ---- sources by what their names are

abbrev pub is_source_def : Option Def → Bool
is_source_def None = false
is_source_def (Some (source grid)) = true
is_source_def (Some (statement w flats)) = false

pub source_node_is : (es : List Entry) (n : Name) → AreGroups es → IsApart es → is_source_node (find_node (nodes_of es) n) ≡ is_source_def (find_def es n)
source_node_is es n groups apart = go (find_def es n) refl
  where
    go : (o : Option Def) → find_def es n ≡ o → is_source_node (find_node (nodes_of es) n) ≡ is_source_def o
    go (Some (source grid)) at = ap is_source_node (source_node es n groups apart grid at)
    go o at = false_from_ne_true (is_source_node (find_node (nodes_of es) n)) (λ is. let r = node_source es n groups apart is in false≢true (sym (ap is_source_def at) ∙ ap is_source_def r.1))

-- the sources stand where each name has a place exactly if it is one
pub stand_by : (es : List Entry) (keys : List Name) → AreGroups es → IsApart es → ((n : Name) → is_some (position (bytes_eq n) keys) ≡ is_source_def (find_def es n)) → (n : Name) → is_some (position (bytes_eq n) keys) ≡ is_source_node (find_node (nodes_of es) n)
stand_by es keys groups apart by n = by n ∙ sym (source_node_is es n groups apart)

module _ (old : KeptMap) (keeps : IsKept old) where
  pub stood_by : (n : Name) → is_some (position (bytes_eq n) old.sources.names.keys) ≡ is_source_def (find_def (entries_in old) n)
  stood_by n = keeps.sources.stand n ∙ source_node_is (entries_in old) n keeps.lawful.groups keeps.lawful.apart

  -- the stamps of sources, of which those that were there stay
  module _ (t : WholeState) (size : t.names.size ≡ old.extent) (good : AreGood t.names.entries) where
    pub other_stamps : (n : Name) (l : LayerState) → find_def t.names.entries n ≡ find_def (entries_in old) n → source_in old.sources n ≡ Some l → l.stamps ≡ stamps_at (seen old) t n
    other_stamps n l same there = stamps_stay old keeps t size n l there
        (ap (option_map (λ (g : Grid). g.cells)) (source_value t.names n (grid_of l) good.groups good.apart good.none_looped (same ∙ source_def old n keeps l there)))

-- ---- a list without one of its elements

-- what stood before the removed place stays, and what stood after it comes one place forward
get_left : {X : Type 0} (xs : List X) (i j : ℕ) → (j < i → slice_get (remove xs i) j ≡ slice_get xs j) × (i ≤ j → slice_get (remove xs i) j ≡ slice_get xs (suc j))
get_left [] zero j = ((λ below. absurd (omega arith)), λ from. refl)
get_left [] (suc i) j = ((λ below. refl), λ from. refl)
get_left (x ∷ xs) zero j = ((λ below. absurd (omega arith)), λ from. refl)
get_left (x ∷ xs) (suc i) zero = ((λ below. refl), λ from. absurd (omega arith))
get_left (x ∷ xs) (suc i) (suc j) = let rest = get_left xs i j in ((λ below. rest.0 (omega arith)), λ from. rest.1 (omega arith))

left_count : {X Y : Type 0} (xs : List X) (ys : List Y) (i : ℕ) → length xs ≡ length ys → length (remove xs i) ≡ length (remove ys i)
left_count xs ys i count = grind (arith, common_steps)

-- a name that stands at the place is nowhere in what is left
gone_place : (ks : List Name) (place : ℕ) (gone : Name) → IsDistinct bytes_eq ks → slice_get ks place ≡ Some gone → position (bytes_eq gone) (remove ks place) ≡ None
gone_place ks place gone apart here = none_where (position (bytes_eq gone) (remove ks place)) (λ j e.
    let there : slice_get (remove ks place) j ≡ Some gone = position_at gone (remove ks place) j e in
    elim (cases_lt j place) [
      | inl below ↦ let same : j ≡ place = one_place ks apart j place gone (sym ((get_left ks place j).0 below) ∙ there) here in omega arith
      | inr from ↦ let same : suc j ≡ place = one_place ks apart (suc j) place gone (sym ((get_left ks place j).1 from) ∙ there) here in omega arith
    ])

-- beside every other name stands what stood there
placed_left : {X : Type 0} (p : Name → Bool) (ks : List Name) (xs : List X) (place : ℕ) (gone : Name) → length xs ≡ length ks → slice_get ks place ≡ Some gone → p gone ≡ false
    → at_place (remove xs place) (position p (remove ks place)) ≡ at_place xs (position p ks)
placed_left p [] xs place gone count at fails = absurd (none-some gone at)
placed_left p (k ∷ ks) [] place gone count at fails = absurd (omega arith)
placed_left p (k ∷ ks) (x ∷ xs) zero gone count at fails = sym (rw (placed_first p k ks x xs, same_Some k gone at, fails) refl)
placed_left p (k ∷ ks) (x ∷ xs) (suc place) gone count at fails =
    rw (placed_first p k (remove ks place) x (remove xs place), placed_first p k ks x xs) (ap (cond (p k) (Some x)) (placed_left p ks xs place gone (omega arith) at fails))

-- ---- the sources without one

-- they are without it, or as they were where the name is none
pub record IsWithout (size : Size) (gone : Name) (old new : Sources) : Type 0 where
  pub none_there : source_in new gone ≡ None
  pub layers : (n : Name) → bytes_eq n gone ≡ false → source_in new n ≡ source_in old n
  pub count : length new.layers.items ≡ length new.names.keys
  pub whole : All (λ (l : LayerState). (l.size ≡ size) × IsLayer l) new.layers.items

module _ (old : KeptMap) (keeps : IsKept old) (gone : Name) (new : Sources) (still : IsDistinct bytes_eq new.names.keys) (steps moved : List (Step Given)) where
  abbrev WholeLayer : LayerState → Type 0
  WholeLayer l = (l.size ≡ old.extent) × IsLayer l

  pub without : (o : Option ℕ) → position (bytes_eq gone) old.sources.names.keys ≡ o → IsTakenOut o old.sources new steps moved → IsWithout old.extent gone old.sources new
  without None at taken = record {
    none_there = rw (taken.0, at) refl;
    layers = λ n other. rw (taken.0, taken.1) refl;
    count = rw (taken.0, taken.1) keeps.sources.count;
    whole = subst (All WholeLayer) (sym taken.1) keeps.sources.whole;
  }
  without (Some place) at taken =
      let keys = old.sources.names.keys in
      let items = old.sources.layers.items in
      let here : slice_get keys place ≡ Some gone = position_at gone keys place at in
      record {
        none_there = rw (taken.0, gone_place keys place gone keeps.sources.apart here) refl;
        layers = λ n other. rw (taken.0, taken.1) (placed_left (bytes_eq n) keys items place gone keeps.sources.count here other);
        count = rw (taken.0, taken.1) (left_count items keys place keeps.sources.count);
        whole = subst (All WholeLayer) (sym taken.1) (All-append WholeLayer (take place items) (drop (suc place) items)
            (All-take WholeLayer place items keeps.sources.whole) (All-drop WholeLayer (suc place) items keeps.sources.whole));
      }

module _ (old : KeptMap) (keeps : IsKept old) (gone : Name) (new : Sources) (left : IsWithout old.extent gone old.sources new) where
  abbrev pub dropped : List Entry
  dropped = drop_entry (entries_in old) gone

  dropped_place : (n : Name) → is_some (position (bytes_eq n) new.names.keys) ≡ is_source_def (find_def dropped n)
  dropped_place n = sym (source_is_some new n left.count) ∙ elim (cases_Bool (bytes_eq n gone)) [
    | inl same ↦ (let at : n ≡ gone = same_name n gone same in
        ap (λ m. is_some (source_in new m)) at ∙ ap is_some left.none_there ∙ sym (ap is_source_def (ap (find_def dropped) at ∙ find_drop (entries_in old) gone)))
    | inr differs ↦ ap is_some (left.layers n differs) ∙ source_is_some old.sources n keeps.sources.count ∙ stood_by old keeps n ∙ ap is_source_def (sym (find_drop_other (entries_in old) gone n differs))
  ]

  pub dropped_sources : (s : EngineState) → s.entries ≡ dropped → s.size ≡ old.extent → AreGood s.entries → IsDistinct bytes_eq new.names.keys → AreKeptSources s new
  dropped_sources s entries size good apart = record {
    stand = λ n. stand_by s.entries new.names.keys good.groups good.apart (λ m. dropped_place m ∙ ap (λ es. is_source_def (find_def es m)) (sym entries)) n;
    apart = apart;
    count = left.count;
    whole = subst (λ z. All (λ (l : LayerState). (l.size ≡ z) × IsLayer l) new.layers.items) (sym size) left.whole;
  }

  pub dropped_entries : entries_by old.extent (source_in new) (remove_entry (bytes_eq gone) old.names.entries) ≡ dropped
  dropped_entries = entries_remove old.extent (source_in old.sources) (source_in new) gone (λ n other. left.layers n (bytes_eq-turned gone n other)) old.names.entries keeps.lawful.apart

  pub dropped_stamps : (t : WholeState) → t.names.entries ≡ dropped → t.names.size ≡ old.extent → AreGood t.names.entries → (n : Name) (l : LayerState) → source_in new n ≡ Some l → l.stamps ≡ stamps_at (seen old) t n
  dropped_stamps t entries size good n l there = elim (cases_Bool (bytes_eq n gone)) [
    | inl same ↦ absurd (none-some l (sym (ap (source_in new) (same_name n gone same) ∙ left.none_there) ∙ there))
    | inr differs ↦ other_stamps old keeps t size good n l (ap (λ es. find_def es n) entries ∙ find_drop_other (entries_in old) gone n differs) (sym (left.layers n differs) ∙ there)
  ]

-- ---- operands

module _ (t : EngineState) (keys names : List Name) (place k : ℕ) (gone : Name) (at : slice_get keys place ≡ Some gone) (absent : value_of t gone ≡ None) where
  -- a term that has cells doesn't name it
  ref_lowered : (u : Term) (r : Ref) → is_some (term_cells t.size (value_of t) u) ≡ true → IsRefFor keys names k u r → IsRefFor (remove keys place) names k u (lowered place r)
  ref_lowered (layer_term n) (Source i) there is = elim (cases_lt i place) [
    | inl below ↦ rw (le-ltb place i (omega arith)) ((get_left keys place i).0 below ∙ is)
    | inr from ↦ (let apart : i ≢ place = λ same.
        let own : n ≡ gone = same_Some n gone (sym is ∙ ap (slice_get keys) same ∙ at) in
        false≢true (sym (ap (λ m. is_some (term_cells t.size (value_of t) (layer_term m))) own ∙ ap (λ (o : Option Grid). is_some (option_map (λ (g : Grid). g.cells) o)) absent) ∙ there) in
        let above : place < i = omega (arith, from, apart) in
        let next : suc (i - 1) ≡ i = omega (arith, above) in
        rw (lt-ltb place i above) ((get_left keys place (i - 1)).1 (omega (arith, above)) ∙ ap (slice_get keys) next ∙ is))
  ]
  ref_lowered (number_term z) (Source i) there is = absurd is
  ref_lowered u r there is = is

  refs_lowered : (us : List Term) (rs : List Ref) → is_some (all_some (map (term_cells t.size (value_of t)) us)) ≡ true
      → AreRefsFor keys names k us rs → AreRefsFor (remove keys place) names k us (map (lowered place) rs)
  refs_lowered [] [] there are = tt
  refs_lowered (u ∷ us) (r ∷ rs) there are =
      let cells = map (term_cells t.size (value_of t)) us in
      let both = and_parts (is_some (term_cells t.size (value_of t) u)) (is_some (all_some cells)) (sym (all_cons (term_cells t.size (value_of t) u) cells) ∙ there) in
      (ref_lowered u r both.0 are.0, refs_lowered us rs both.1 are.1)
  refs_lowered us rs there are = absurd are

module _ (m : KeptMap) (e : WholeEdit) (t : WholeState) (shift : Shift) (names : List Name) (steps : List (Step Given)) (keeps : IsKept m) (under : IsUnder m e t shift m.sources.names.keys names steps)
    (none : HasNoCycle (nodes_of t.names.entries)) (gone : Name) (absent : value_of t.names gone ≡ None) (new : Sources) (resting moved : List (Step Given)) (rests : Rests steps resting) where
  operands_stay : (k : ℕ) (x : Step Given) → slice_get steps k ≡ Some x → is_some (all_some (map (term_cells t.names.size (value_of t.names)) (op_view x.op).terms)) ≡ true
  operands_stay k x here =
      let made = operands_made (touch_of e) (names_in m) t.names (plan_in m shift steps) m.sources.names.keys names under.plan none k (get_or names k []) (named_step names steps under.count k x here) in
      let step : (plan_in m shift steps).step k ≡ step_in m (Some x) = ap (step_in m) here in
      ap (λ (d : StepDef). is_some (all_some (map (term_cells t.names.size (value_of t.names)) d.op.terms))) (sym step) ∙ ap is_some made

  -- the steps rest, and read the sources that are left
  pub rest_dropped : (o : Option ℕ) → position (bytes_eq gone) m.sources.names.keys ≡ o → IsTakenOut o m.sources new resting moved → (k : ℕ) (x y : Step Given) → slice_get steps k ≡ Some x → slice_get moved k ≡ Some y
      → IsAtRest k x y × AreRefsFor new.names.keys names k (op_view x.op).terms y.refs.items
  rest_dropped None at taken k x y here there =
      subst (λ ks. IsAtRest k x y × AreRefsFor ks names k (op_view x.op).terms y.refs.items) (sym taken.0)
      (rests_after m e t shift m.sources.names.keys names steps keeps under resting rests k x y here (ap (λ (xs : List (Step Given)). slice_get xs k) (sym taken.2) ∙ there))
  rest_dropped (Some place) at taken k x y here there =
      let z = rests.1 k x here in
      let r = rests_after m e t shift m.sources.names.keys names steps keeps under resting rests k x z.0 here z.1 in
      let low = taken.2.1 k z.0 z.1 in
      let same : low.0 ≡ y = same_Some low.0 y (sym low.1 ∙ there) in
      let is : IsLowered place z.0 y = subst (λ (q : Step Given). IsLowered place z.0 q) same low.2 in
      let keys : slice_get m.sources.names.keys place ≡ Some gone = position_at gone m.sources.names.keys place at in (
        record { op = is.op ∙ r.0.op; depth = is.depth ∙ r.0.depth; kept = is.kept ∙ r.0.kept; written = is.written ∙ r.0.written },
        subst (λ rs. AreRefsFor new.names.keys names k (op_view x.op).terms rs) (sym is.refs)
            (subst (λ ks. AreRefsFor ks names k (op_view x.op).terms (map (lowered place) z.0.refs.items)) (sym taken.0)
            (refs_lowered t.names m.sources.names.keys names place k gone keys absent (op_view x.op).terms z.0.refs.items (operands_stay k x here) r.1)),
      )
