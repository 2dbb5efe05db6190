-- A map without names is kept. A copy of a map has its views: maps of the same views are seen alike, and one is kept where the other is.
use Rattle.std.proofs.Common.{◌≡◌, ℕ, zero, suc, ◌+◌, false, cond, ◌||◌, List, [], ◌∷◌, ◌++◌, map, take, Option, Some, slice_get, bytes_eq, refl, sym, ap, ◌∙◌, length, None, option_map, subst, ◌≤◌, count_by, position, is_some, IsTrue, get_or, arith}
use Rattle.std.specs.List.{IsDistinct, list_any, All}
use Rattle.std.specs.Map.{keys_of, lookup}
use Rattle.std.proofs.lemmas.List.{map-append, take-map, length-map}
use Rattle.std.proofs.lemmas.Map.Keys.{IsDistinct-head, IsDistinct-tail}
use Rattle.std.proofs.lemmas.Simd.{map-map}
use Rattle.std.proofs.lemmas.Option.{none-some, same_Some, slice_get-map, slice_get-get_or}
use Rattle.std.specs.Option.{option_or}
use Rattle.std.proofs.lemmas.List.Elements.{All-from_recursion}
use Rattle.std.proofs.lemmas.Map.Made.{is_some-lookup}
use Rattle.indexmap.specs.IndexMap.{insert_entry}
use Rattle.indexmap.specs.IndexSet.{insert_key}
use Rattle.indexmap.proofs.MapLemmas.{absent_from_lookup, insert_entry-absent}
use Rattle.map_nums.specs.Grids.{Size, IsSize}
use Rattle.map_words.specs.Names.{is_plain}
use Rattle.map_defs.specs.Ops.{Name}
use Rattle.map_defs.specs.Nodes.{find_node}
use Rattle.map_defs.specs.Statements.{Flat as Meant}
use Rattle.layer_tiles.specs.Layers.{LayerState, IsLayer}
use Rattle.statement_parser.specs.Views.{op_view, written_view}
use Rattle.statement_parser.specs.Formed.{IsWritten, IsProcedure}
use Rattle.statement_parser.specs.declared.op.Op.{Op as Given}
use Rattle.procedure_expand.specs.Flats.{flat_view, flats_view}
use Rattle.procedure_expand.specs.declared.flat.Flat.{Flat}
use Rattle.map_edits.specs.LayerDefs.{by_op, layers, find_making, nodes_of}
use Rattle.map_edits.specs.LayerChanges.{operands_in}
use Rattle.map_edits.specs.EngineStates.{EngineState}
use Rattle.map_edits.specs.Entries.{Def, source, statement, Entry}
use Rattle.map_edits.specs.Faults.{fault_of}
use Rattle.map_edits.specs.Limits.{is_source, is_flat, most_sources, most_flats}
use Rattle.map_edits.specs.GroupLaws.{IsLawful}
use Rattle.map_edits.specs.WholeStates.{WholeState, no_names}
use Rattle.map_edits.proofs.Among.{bytes_eq-turned}
use Rattle.map_edits.proofs.Looks.{none_there}
use Rattle.map_waves.specs.declared.keeping.Kept.{Kept}
use Rattle.map_waves.specs.declared.plans.Step.{Step}
use Rattle.map_waves.proofs.Making.{all_get}
use Rattle.op_jobs.specs.Beside.{suits}
use Rattle.op_jobs.specs.Ranges.{HasRanges}
use Rattle.op_jobs.specs.declared.beside.Beside.{Beside}
use Rattle.edit_plans.specs.PlansFor.{AreRefsFor}
use Rattle.edit_plans.specs.Planned.{FlatDef, IsPlannedStep, is_source_node}
use Rattle.edit_plans.specs.declared.planning.Planned.{Planned}
use Rattle.edit_plans.proofs.Taken.{taken_to}
use Rattle.kept_map.specs.Copies.{StatementView, item_view, named_view, items_view, StepView, step_view, steps_view, MapView, map_view}
use Rattle.kept_map.specs.declared.maps.Item.{Item}
use Rattle.kept_map.specs.Flats.{flats_of_steps}
use Rattle.kept_map.specs.Keeps.{AreKeptSteps, IsItem, IsNamed, IsKept}
use Rattle.kept_map.specs.Groups.{groups_of}
use Rattle.kept_map.specs.Maps.{at_place, source_grid, def_by, entries_by, entries_in, names_in, source_in, stamps_seen, seen}
use Rattle.kept_map.specs.declared.maps.Item.TheVariants.{Source, Statement}
use Rattle.kept_map.specs.declared.maps.KeptMap.{KeptMap}
use Rattle.kept_map.proofs.SourceLayers.{map_some}
use Rattle.kept_map.proofs.EditedFlats.{flat_by, flat_is, flat_at}
use Rattle.map_defs.specs.Depths.{by_depth}
use Rattle.map_edits.proofs.LawfulValues.{none_is_lawful}

-- ---- names

-- the name at a place is none of those before it
none_before : (ks : List Name) → IsDistinct bytes_eq ks → (i : ℕ) (n : Name) → slice_get ks i ≡ Some n → list_any (bytes_eq n) (take i ks) ≡ false
none_before [] apart i n at = absurd (none-some n at)
none_before (k ∷ ks) apart zero n at = refl
none_before (k ∷ ks) apart (suc i) n at =
    let other = all_get (λ y. bytes_eq k y ≡ false) ks (All-from_recursion (λ y. bytes_eq k y ≡ false) ks (IsDistinct-head bytes_eq k ks apart)) i n at in
    ap (λ b. b || list_any (bytes_eq n) (take i ks)) (bytes_eq-turned k n other)
    ∙ none_before ks (IsDistinct-tail bytes_eq k ks apart) i n at

pub name_next : (ks copies : List Name) (i : ℕ) (n : Name) → IsDistinct bytes_eq ks → copies ≡ take i ks → slice_get ks i ≡ Some n → insert_key bytes_eq copies n ≡ take (i + 1) ks
name_next ks copies i n apart so_far at =
    ap (λ xs. insert_key bytes_eq xs n) so_far
    ∙ ap (λ b. cond b (take i ks) (take i ks ++ n ∷ [])) (none_before ks apart i n at)
    ∙ sym (taken_to ks i n at)

-- ---- names with what they stand for

module _ (all : List (List ℕ × Item)) (apart : IsDistinct bytes_eq (keys_of all)) (es : List (List ℕ × Item)) (k : ℕ) (so_far : items_view es ≡ items_view (take k all)) where
  same_keys : keys_of es ≡ take k (keys_of all)
  same_keys =
      sym (map-map (λ (v : List ℕ × Option StatementView). v.0) named_view es) ∙ ap (map (λ (v : List ℕ × Option StatementView). v.0)) so_far
      ∙ map-map (λ (v : List ℕ × Option StatementView). v.0) named_view (take k all) ∙ sym (take-map (λ (e : List ℕ × Item). e.0) k all)

  pub item_next : (n : Name) (item copy : Item) → slice_get all k ≡ Some (n, item) → item_view copy ≡ item_view item → items_view (insert_entry bytes_eq es n copy) ≡ items_view (take (k + 1) all)
  item_next n item copy at same =
      let key_at = slice_get-map (λ (e : List ℕ × Item). e.0) all k ∙ ap (option_map (λ (e : List ℕ × Item). e.0)) at in
      let new : lookup (bytes_eq n) es ≡ None = none_there (lookup (bytes_eq n) es) (is_some-lookup (bytes_eq n) es ∙ ap (list_any (bytes_eq n)) same_keys ∙ none_before (keys_of all) apart k n key_at) in
      ap items_view (insert_entry-absent bytes_eq n copy es (absent_from_lookup (bytes_eq n) es new))
      ∙ map-append named_view es ((n, copy) ∷ [])
      ∙ (λ j. so_far j ++ (n, same j) ∷ [])
      ∙ sym (map-append named_view (take k all) ((n, item) ∷ []))
      ∙ ap items_view (sym (taken_to all k (n, item) at))

-- ---- lists of the same views

-- one of the same view stands at the place
alike_at : {X V : Type 0} (view : X → V) (xs ys : List X) → map view ys ≡ map view xs → (k : ℕ) (y : X) → slice_get ys k ≡ Some y → (x : X) × (slice_get xs k ≡ Some x) × (view x ≡ view y)
alike_at view xs ys same k y at =
    map_some view (slice_get xs k) (view y) (sym (slice_get-map view xs k) ∙ ap (λ vs. slice_get vs k) (sym same) ∙ slice_get-map view ys k ∙ ap (option_map view) at)

all_alike : {X V : Type 0} (P : X → Type 0) (view : X → V) → ((x y : X) → view y ≡ view x → P x → P y) → (xs ys : List X) → map view ys ≡ map view xs → All P xs → All P ys
all_alike P view alike xs ys same all k d below =
    let x = alike_at view xs ys same k (get_or ys k d) (slice_get-get_or ys k d below) in
    alike x.0 (get_or ys k d) (sym x.2) (all_get P xs all k x.0 x.1)

-- ---- the plan

module _ (s : EngineState) (sources : List Name) (old new : Planned) (names : new.names.keys ≡ old.names.keys) (same : steps_view new.steps.items ≡ steps_view old.steps.items) (kept : List (Kept Beside)) (are : AreKeptSteps s sources old kept) where
  count : length new.steps.items ≡ length old.steps.items
  count = sym (length-map new.steps.items step_view) ∙ ap length same ∙ length-map old.steps.items step_view

  step_planned : (k : ℕ) (n : Name) (y : Step Given) → slice_get new.names.keys k ≡ Some n → slice_get new.steps.items k ≡ Some y → IsPlannedStep (nodes_of s.entries) sources (flats_of_steps new.names.keys new.steps.items) new.names.keys new.names.keys k n y
  step_planned k n y at here =
      let x = alike_at step_view old.steps.items new.steps.items same k y here in
      let is = are.planned_are.each k n x.0 (ap (λ ks. slice_get ks k) (sym names) ∙ at) x.1 in
      let f = flat_at old.names.keys old.steps.items are.planned_are.count n is.flat is.from in
      let g = alike_at step_view new.steps.items old.steps.items (sym same) f.0 f.1 f.3 in
      subst (λ ks. IsPlannedStep (nodes_of s.entries) sources (flats_of_steps ks new.steps.items) ks ks k n y) (sym names) (record {
        flat = flat_by g.0;
        from = flat_is old.names.keys new.steps.items (count ∙ are.planned_are.count) n ∙ ap (λ o. option_map flat_by (at_place new.steps.items o)) f.2 ∙ ap (option_map flat_by) g.1;
        op = ap (λ (v : StepView). v.op) (sym x.2) ∙ is.op ∙ ap (λ (q : FlatDef). op_view q.op) (sym f.4) ∙ ap (λ (v : StepView). v.op) (sym g.2);
        written = ap (λ (v : StepView). v.written) (sym x.2) ∙ is.written ∙ ap (λ (q : FlatDef). q.written) (sym f.4) ∙ ap (λ (v : StepView). v.written) (sym g.2);
        refs = subst (λ (v : StepView). AreRefsFor sources old.names.keys k v.op.terms v.refs) x.2 is.refs;
        depth = ap (λ (v : StepView). v.depth) (sym x.2) ∙ is.depth;
        kept = ap (λ (v : StepView). v.kept) (sym x.2) ∙ is.kept;
      })

  copied_steps : AreKeptSteps s sources new kept
  copied_steps = record {
    planned_are = record { names_are = names ∙ are.planned_are.names_are; count = count ∙ are.planned_are.count ∙ ap length (sym names); each = step_planned };
    count = are.count ∙ sym count;
    each = λ k n y own at here kept_at.
        let x = alike_at step_view old.steps.items new.steps.items same k y here in
        let is = are.each k n x.0 own (ap (λ ks. slice_get ks k) (sym names) ∙ at) x.1 kept_at in
        record {
          making = subst (λ (v : StepView). find_making (layers s.entries) n ≡ Some (by_op v.op)) x.2 is.making;
          ranges = subst (λ (v : StepView). HasRanges v.op) x.2 is.ranges;
          written = ap (λ (v : StepView). v.written) (sym x.2) ∙ is.written;
          value = is.value;
          size = is.size;
          whole = is.whole;
          beside = subst (λ (v : StepView). suits s.size v.op (operands_in s v.op) own.beside) x.2 is.beside;
        };
  }

-- ---- the state

abbrev def_of : Size → Option LayerState → Option StatementView → Def
def_of size l None = source (source_grid size l)
def_of size l (Some s) = statement s.written s.flats

abbrev entry_of : Size → (Name → Option LayerState) → List ℕ × Option StatementView → Entry
entry_of size ls v = record { name = v.0; def = def_of size (ls v.0) v.1 }

def_view : (size : Size) (l : Option LayerState) (item : Item) → def_by size l item ≡ def_of size l (item_view item)
def_view size l Source = refl
def_view size l (Statement written flats) = refl

entries_view : (size : Size) (ls : Name → Option LayerState) (es : List (List ℕ × Item)) → entries_by size ls es ≡ map (entry_of size ls) (items_view es)
entries_view size ls es = (λ j. map (λ (e : List ℕ × Item). record { name = e.0; def = def_view size (ls e.0) e.1 j }) es) ∙ sym (map-map (entry_of size ls) named_view es)

abbrev source_by : MapView → Name → Option LayerState
source_by v n = at_place v.layers (position (bytes_eq n) v.sources)

abbrev layer_by : MapView → Name → Option LayerState
layer_by v n = option_or (source_by v n) (option_map (λ (k : Kept Beside). k.layer) (at_place v.kept (position (bytes_eq n) v.planned)))

abbrev seen_with : MapView → List Entry → WholeState
seen_with v entries =
    let names : EngineState = record { size = v.size; entries = entries; number = v.number } in
    record { names = names; procedures = v.procedures; labels = v.labels; symbols = v.symbols; stamps = stamps_seen (layer_by v) names }

abbrev seen_by : MapView → WholeState
seen_by v = seen_with v (map (entry_of v.size (source_by v)) v.items)

seen_view : (m : KeptMap) → seen m ≡ seen_by (map_view m)
seen_view m = ap (seen_with (map_view m)) (entries_view m.extent (source_in m.sources) m.names.entries)

-- ---- items

item_alike : (i j : Item) → item_view j ≡ item_view i → IsItem i → IsItem j
item_alike i Source same is = tt
item_alike Source (Statement written flats) same is = absurd (cc)
item_alike (Statement written flats) (Statement w fs) same is =
    let own : StatementView = record { written = written_view w; flats = flats_view fs.items } in
    let other : StatementView = record { written = written_view written; flats = flats_view flats.items } in
    let views = same_Some own other same in
    (subst (λ (v : StatementView). IsWritten v.written) (sym views) is.0, all_alike (λ (f : Flat). HasRanges (op_view f.op)) flat_view (λ f g same ranges. subst (λ (v : Meant). HasRanges v.op) (sym same) ranges) flats.items fs.items (ap (λ (v : StatementView). v.flats) views) is.1)

named_one : (e f : List ℕ × Item) → named_view f ≡ named_view e → IsNamed e → IsNamed f
named_one e f same is = (subst (λ (v : List ℕ × Option StatementView). IsTrue (is_plain v.0)) (sym same) is.0, item_alike e.1 f.1 (ap (λ (v : List ℕ × Option StatementView). v.1) same) is.1)

-- ---- all of it

module _ (m b : KeptMap) (same : map_view b ≡ map_view m) where
  pub seen_alike : seen b ≡ seen m
  seen_alike = seen_view b ∙ ap seen_by same ∙ sym (seen_view m)

  same_names : names_in b ≡ names_in m
  same_names = ap (λ (s : WholeState). s.names) seen_alike

  same_entries : entries_in b ≡ entries_in m
  same_entries = ap (λ (s : EngineState). s.entries) same_names

  pub kept_alike : IsKept m → IsKept b
  kept_alike kept = record {
    size = subst (λ (v : MapView). IsSize v.size) (sym same) kept.size;
    named = all_alike IsNamed named_view named_one m.names.entries b.names.entries (ap (λ (v : MapView). v.items) same) kept.named;
    formed = subst (λ (v : MapView). All IsProcedure v.procedures) (sym same) kept.formed;
    lawful = subst IsLawful (sym seen_alike) kept.lawful;
    sources_few = subst (λ es. count_by is_source es ≤ most_sources) (sym same_entries) kept.sources_few;
    flats_few = subst (λ es. count_by is_flat (layers es) ≤ most_flats) (sym same_entries) kept.flats_few;
    graph_is = ap (λ (v : MapView). v.graph) same ∙ kept.graph_is ∙ ap groups_of (sym same_entries);
    faultless = ap fault_of same_names ∙ kept.faultless;
    sources = record {
      stand = λ n. ap (λ (v : MapView). is_some (position (bytes_eq n) v.sources)) same ∙ kept.sources.stand n ∙ ap (λ (es : List Entry). is_source_node (find_node (nodes_of es) n)) (sym same_entries);
      apart = subst (λ (v : MapView). IsDistinct bytes_eq v.sources) (sym same) kept.sources.apart;
      count = ap (λ (v : MapView). length v.layers) same ∙ kept.sources.count ∙ ap (λ (v : MapView). length v.sources) (sym same);
      whole = subst (λ (v : MapView). All (λ (l : LayerState). (l.size ≡ v.size) × IsLayer l) v.layers) (sym same) kept.sources.whole;
    };
    statements =
        let over : AreKeptSteps (names_in m) m.sources.names.keys b.planned m.kept.items = copied_steps (names_in m) m.sources.names.keys m.planned b.planned (ap (λ (v : MapView). v.planned) same) (ap (λ (v : MapView). v.steps) same) m.kept.items kept.statements in
        let named : AreKeptSteps (names_in b) m.sources.names.keys b.planned m.kept.items = subst (λ s. AreKeptSteps s m.sources.names.keys b.planned m.kept.items) (sym same_names) over in
        subst (λ (v : MapView). AreKeptSteps (names_in b) v.sources b.planned v.kept) (sym same) named;
  }

-- a map that has other room keeps what it keeps
pub kept_stays : (m b : KeptMap) → b.names.entries ≡ m.names.entries → b.sources.names.keys ≡ m.sources.names.keys → b.sources.layers.items ≡ m.sources.layers.items → IsKept m → IsKept (record m { names = b.names; sources = b.sources })
kept_stays m b names keys layers = kept_alike m (record m { names = b.names; sources = b.sources }) (λ j. record (map_view m) { items = items_view (names j); sources = keys j; layers = layers j })

module _ (m : KeptMap) (names : m.names.entries ≡ []) (procedures : m.procedures ≡ []) (labels : m.labels ≡ []) (symbols : m.symbols ≡ []) (number : m.number ≡ 0) where
  pub seen_empty : seen m ≡ no_names m.extent
  seen_empty = rw (names, procedures, labels, symbols, number) refl

  pub kept_empty : IsSize m.extent → m.graph ≡ [] → m.sources.names.keys ≡ [] → m.sources.layers.items ≡ [] → m.planned.names.keys ≡ [] → m.planned.steps.items ≡ [] → m.kept.items ≡ [] → IsKept m
  unfolding by_depth fault_of IsDistinct
  kept_empty size graph sources layers planned steps kept = record {
    size = size;
    named = rw names (λ k d h. absurd (omega arith));
    formed = rw procedures (λ k d h. absurd (omega arith));
    lawful = subst IsLawful (sym seen_empty) (none_is_lawful m.extent);
    sources_few = rw names (omega arith);
    flats_few = rw names (omega arith);
    graph_is = rw (graph, names) refl;
    faultless = ap (λ (s : WholeState). fault_of s.names) seen_empty;
    sources = record {
      stand = λ n. rw (sources, names) refl;
      apart = rw sources tt;
      count = rw (sources, layers) refl;
      whole = rw layers (λ k d h. absurd (omega arith));
    };
    statements = record {
      planned_are = record {
        names_are = rw (planned, names) refl;
        count = rw (steps, planned) refl;
        each = λ k n x named at. absurd (none-some n (sym (ap (λ ns. slice_get ns k) planned) ∙ named));
      };
      count = rw (kept, steps) refl;
      each = λ k n x own named at here. absurd (none-some n (sym (ap (λ ns. slice_get ns k) planned) ∙ named));
    };
  }
