-- The drafts of edits of names: of sources that are added, statements that are written and names that are dropped; and how such edits are refused.
use Rattle.std.proofs.Common.{◌≡◌, ℕ, ◌+◌, ◌<◌, ◌≤◌, ◌^◌, Bool, true, false, cond, List, [], ◌∷◌, ◌++◌, length, count_by, position, ◌==◌, ℤ, Option, Some, None, is_some, Ok, Err, bytes_eq, IsTrue, refl, sym, ap, subst, ◌∙◌, arith, unwrap_or, IfSome, IfNone, map, option_map, Result, Vec}
use Rattle.std.proofs.lemmas.Bool.{lt-ltb, and_parts, eqb-true}
use Rattle.std.specs.List.{All}
use Rattle.std.specs.declared.alloc.Global.{Global}
use Rattle.std.proofs.lemmas.List.{map-append}
use Rattle.map_words.specs.Names.{is_plain}
use Rattle.map_nums.specs.Grids.{Size, Grid, constant}
use Rattle.map_defs.specs.Ops.{Name}
use Rattle.map_defs.specs.Nodes.{Node}
use Rattle.map_defs.specs.Depths.{is_looped}
use Rattle.map_defs.specs.FlatNames.{IsInside, AreFlats}
use Rattle.map_defs.specs.Statements as meant
use Rattle.map_defs.specs.Expansion.{WrongCall, not_defined, wrong_count, expansion_of}
use Rattle.layer_tiles.specs.Layers.{LayerState, IsLayer, layer_of}
use Rattle.statement_parser.specs.Formed.{IsWritten}
use Rattle.statement_parser.specs.Views.{op_view, written_view}
use Rattle.statement_parser.specs.declared.line.Written.{Written}
use Rattle.procedure_expand.proofs.Plain.{plain_undotted}
use Rattle.procedure_expand.specs.declared.flat.Flat.{Flat}
use Rattle.procedure_expand.specs.Flats.{flats_view}
use Rattle.statement_graph.specs.Groups.{Group, nodes_in, has_group, drop_group, put_group}
use Rattle.statement_graph.specs.declared.refusal.GraphRefusal.{GraphRefusal}
use Rattle.statement_graph.specs.declared.refusal.GraphRefusal.TheVariants.{Cycle, NoMemory}
use Rattle.statement_graph.specs.Puts.{source_node, own_name, FitsAs}
use Rattle.op_jobs.specs.Ranges.{HasRanges}
use Rattle.map_edits.specs.Entries.{source, Entry, find_def, put_entry, Def, statement}
use Rattle.map_edits.specs.LayerDefs.{layers_of, layers, nodes_of, flat_layer, node_of_layer}
use Rattle.map_edits.specs.EditForms.{Edit, load, new_layer, drop_name, define}
use Rattle.map_edits.specs.EntriesAfter.{same_size, entries_with, unless_beyond, bounded, put_statement, define_with}
use Rattle.map_edits.specs.Refusals.{sources, exists_already, wrong_size, beyond, Refusal, statements, which_kind, cycle, no_procedure, wrong_terms}
use Rattle.map_edits.specs.Limits.{is_source, is_flat, most_sources, most_flats, any_kind, zonal_kind, nearest_kind, first_beyond}
use Rattle.map_edits.specs.Attempts.{marks_after, with_names}
use Rattle.map_edits.specs.Touches.{whole, touch_of_names}
use Rattle.map_edits.specs.WholeEdits.{WholeEdit, of_names}
use Rattle.map_edits.specs.Counted.{accept_counted}
use Rattle.map_edits.specs.WholeStates.{WholeState}
use Rattle.map_edits.proofs.LawfulEdits.{entries_good, good_of}
use Rattle.map_edits.specs.Marks.{Mark, drop_marks}
use Rattle.map_edits.specs.Limits as limits
use Rattle.map_edits.specs.GroupLaws.{IsPlainEdit}
use Rattle.map_edits.proofs.Accepted.{none_beyond}
use Rattle.map_edits.proofs.Looks.{none_there}
use Rattle.kept_map.specs.Maps.{grid_of, source_in, entries_by, entries_in, names_in, seen}
use Rattle.kept_map.specs.Keeps.{IsKept}
use Rattle.kept_map.specs.declared.maps.KeptMap.{KeptMap}
use Rattle.kept_map.proofs.Few.{few_nodes}
use Rattle.edit_plans.proofs.There.{map_none}
use Rattle.kept_map.proofs.SourcesAfter.{is_source_def, stood_by}
use Rattle.kept_map.proofs.Given.{nodes_in_groups, has_group_is, groups_add, groups_drop, groups_put}
use Rattle.kept_map.specs.Groups.{groups_of, statement_nodes, IsGraphWith}
use Rattle.live_engine.specs.Accepts.{Refuses, which_of}
use Rattle.live_engine.specs.declared.edits.Refusal.TheVariants as a_refusal
use Rattle.live_engine.specs.Adding.{IsAdding}
use Rattle.live_engine.specs.Drafts.{entries_after, IsFit, IsDraftOf}
use Rattle.live_engine.specs.declared.drafts.Change.{Change}
use Rattle.live_engine.specs.declared.drafts.Change.TheVariants.{Source, Out, Statement}
use Rattle.live_engine.proofs.Counted.{source_more, sources_put, sources_drop, count_put, count_drop, there_least, flats_all}
use Rattle.live_engine.specs.Dropping.{drops}
use Rattle.live_engine.specs.Counting.{IsBeyond}
use Rattle.live_engine.specs.Defining.{defines, entries_with_it, groups_with_it, not_put}
use Rattle.live_engine.specs.Expanding.{StandsFor}
use Rattle.live_engine.specs.Standing.{standing_of}
use Rattle.live_engine.specs.declared.limits.Kind.{Kind}
use Rattle.live_engine.specs.declared.limits.Kind.TheVariants as kinds
use Rattle.live_engine.specs.declared.edits.Which.{Which}
use Rattle.live_engine.specs.declared.edits.Which.TheVariants as which
use Rattle.live_engine.specs.declared.edits.Refusal as refused
use Rattle.live_engine.proofs.Bodies.{written_undotted}
use Rattle.live_engine.proofs.Accepting.{accept_refused}

-- ---- the graph

module _ (m : KeptMap) (keeps : IsKept m) (n : Name) where
  pub group_is_new : find_def (entries_in m) n ≡ None → has_group m.graph n ≡ false
  group_is_new none = ap (λ g. has_group g n) keeps.graph_is ∙ has_group_is (entries_in m) n ∙ ap is_some none

  pub graph_is_small : length (nodes_in m.graph) + 2 < 2 ^ 32
  graph_is_small =
      let same : length (nodes_in m.graph) ≡ length (nodes_of (entries_in m)) = ap (λ (g : List Group). length (nodes_in g)) keeps.graph_is ∙ ap length (nodes_in_groups (entries_in m)) in
      let few = few_nodes (entries_in m) in let ss = keeps.sources_few in let fs = keeps.flats_few in
      omega (arith, same, few, ss, fs)

-- ---- a draft, by the entries that its edit makes

by_entries : (m : KeptMap) (keeps : IsKept m) (n : Name) (edit : Edit) (change : Change) (labels symbols : Option (List Mark)) → IsTrue (is_plain n) → IsPlainEdit edit → touch_of_names edit ≡ whole n
    → entries_with m.procedures (names_in m) edit ≡ Ok (entries_after (entries_in m) n change) → marks_after edit m.labels ≡ unwrap_or labels m.labels → marks_after edit m.symbols ≡ unwrap_or symbols m.symbols
    → IsFit m.extent (entries_in m) n change → (graph : List Group) → graph ≡ groups_of (entries_after (entries_in m) n change)
    → count_by is_source (entries_after (entries_in m) n change) ≤ most_sources → count_by is_flat (layers (entries_after (entries_in m) n change)) ≤ most_flats → IsDraftOf m (of_names edit) n change graph labels symbols
by_entries m keeps n edit change labels symbols plain said touch entries labels_are symbols_are fits graph graph_is few_sources few_flats =
    let good = (entries_good m.procedures (names_in m) edit (entries_after (entries_in m) n change) keeps.lawful.made (good_of (seen m) keeps.lawful) said entries).good in
    record {
      plain = plain;
      said = said;
      touch = touch;
      attempt = rw (entries, labels_are, symbols_are) refl;
      lawful = record { made = keeps.lawful.made; groups = good.groups; apart = good.apart; none_looped = good.none_looped };
      fits = fits;
      graph_is = graph_is;
      sources_few = few_sources;
      flats_few = few_flats;
    }

-- a source more
module _ (m : KeptMap) (keeps : IsKept m) (n key : Name) (plain : IsTrue (is_plain n)) (absent : find_def (entries_in m) n ≡ None) (layer : LayerState) (sized : layer.size ≡ m.extent) (whole : IsLayer layer)
    (same : key ≡ n) (few : count_by is_source (entries_in m) < most_sources) (graph : List Group) (graph_is : graph ≡ m.graph ++ record { name = n; nodes = source_node n ∷ [] } ∷ []) (edit : Edit) (adding : IsAdding (seen m) edit n (grid_of layer)) where
  pub added_draft : IsDraftOf m (of_names edit) n (Source key layer None) graph None None
  added_draft =
      by_entries m keeps n edit (Source key layer None) None None plain adding.plain adding.touch (rw (adding.after, lt-ltb (count_by is_source (entries_in m)) most_sources few) refl) (adding.marks m.labels) (adding.marks m.symbols)
      (record { same = same; absent = absent; sized = sized; whole = whole; seat = tt }) graph
      (graph_is ∙ ap (λ g. g ++ record { name = n; nodes = source_node n ∷ [] } ∷ []) keeps.graph_is ∙ groups_add (entries_in m) n (grid_of layer) absent)
      (let more = source_more (entries_in m) n (grid_of layer) in omega (arith, more, few))
      (let put = count_put is_flat (entries_in m) n (source (grid_of layer)) in let none : count_by is_flat (layers_of (record { name = n; def = source (grid_of layer) })) ≡ 0 = refl in
      let was = keeps.flats_few in omega (arith, put, none, was))

-- a name less
module _ (m : KeptMap) (keeps : IsKept m) (n : Name) (plain : IsTrue (is_plain n)) (there : is_some (find_def (entries_in m) n) ≡ true) (graph : List Group) (graph_is : graph ≡ drop_group m.graph n)
    (labels symbols : Option (List Mark)) (labels_left : drop_marks m.labels n ≡ unwrap_or labels m.labels) (symbols_left : drop_marks m.symbols n ≡ unwrap_or symbols m.symbols) where
  pub dropped_draft : IsDraftOf m (drops n) n Out graph labels symbols
  dropped_draft =
      by_entries m keeps n (drop_name n) Out labels symbols plain (plain_undotted n plain) refl (rw there refl) labels_left symbols_left tt graph
      (graph_is ∙ ap (λ g. drop_group g n) keeps.graph_is ∙ groups_drop (entries_in m) n)
      (let fewer = sources_drop (entries_in m) n in let was = keeps.sources_few in omega (arith, fewer, was))
      (let fewer = count_drop is_flat (entries_in m) n in let was = keeps.flats_few in omega (arith, fewer, was))

-- the marks without those of the name, or as they were where it has none
pub without_it : (own dropped : List Mark) (left : Option (List Mark)) → IfSome left (λ marks. marks ≡ dropped) → IfNone left (dropped ≡ own) → dropped ≡ unwrap_or left own
without_it own dropped None some none = none
without_it own dropped (Some marks) some none = sym some

-- ---- loads and new layers

-- a name that isn't there has no place among the sources
pub no_place : (m : KeptMap) → IsKept m → (n : Name) → find_def (entries_in m) n ≡ None → position (bytes_eq n) m.sources.names.keys ≡ None
no_place m keeps n absent = none_there (position (bytes_eq n) m.sources.names.keys) (stood_by m keeps n ∙ ap is_source_def absent)

-- the size of a layer against the map's
pub size_is : (m : KeptMap) (layer : LayerState) (told : Size) (fits b : Bool) → told ≡ layer.size → fits ≡ same_size told m.extent → fits ≡ b → same_size layer.size m.extent ≡ b
size_is m layer told fits b size tested is = ap (λ x. same_size x m.extent) (sym size) ∙ sym tested ∙ is

-- a name that is free, in the map that has room
module _ (m roomy : KeptMap) (n : Name) (same : seen roomy ≡ seen m) (plain : IsTrue (is_plain n)) (free : is_some (find_def (entries_in m) n) ≡ false) where
  pub load_adding : (layer : LayerState) (told : Size) (fits : Bool) → told ≡ layer.size → fits ≡ same_size told m.extent → fits ≡ true → IsAdding (seen roomy) (load n (grid_of layer)) n (grid_of layer)
  load_adding layer told fits told_is tested is = subst (λ (q : WholeState). IsAdding q (load n (grid_of layer)) n (grid_of layer)) (sym same)
      (record { after = rw (free, size_is m layer told fits true told_is tested is) refl; touch = refl; named = refl; plain = plain_undotted n plain; marks = λ ms. refl })

  pub new_adding : (cell : Option ℤ) (layer : LayerState) (stamp : ℕ) → layer ≡ layer_of m.extent (constant m.extent cell).cells stamp → IsAdding (seen roomy) (new_layer n cell) n (grid_of layer)
  new_adding cell layer stamp is =
      subst (λ (l : LayerState). IsAdding (seen roomy) (new_layer n cell) n (grid_of l)) (sym is)
      (subst (λ (q : WholeState). IsAdding q (new_layer n cell) n (constant m.extent cell)) (sym same) (record { after = rw free refl; touch = refl; named = refl; plain = plain_undotted n plain; marks = λ ms. refl }))

pub same_sized : (one other : Size) → same_size one other ≡ true → one ≡ other
same_sized one other same =
    let both = and_parts (one.rows == other.rows) (one.columns == other.columns) same in
    ap (λ (k : ℕ). record one { rows = k }) (eqb-true one.rows other.rows both.0) ∙ ap (λ (k : ℕ). record other { columns = k }) (eqb-true one.columns other.columns both.1)

-- the state that is seen is refused with its own size
pub size_refused : (s : WholeState) (e : WholeEdit) (rows columns : ℕ) → accept_counted s e ≡ Err (wrong_size s.names.size) → rows ≡ s.names.size.rows → columns ≡ s.names.size.columns → Refuses s s e (a_refusal.Size rows columns)
size_refused s e rows columns told r c = rw (r, c) (told, refl)

-- ---- limits and cycles

bounded_many : (n : Name) (es : List Entry) → most_flats < count_by is_flat (layers es) → bounded n es ≡ Err (beyond statements)
bounded_many n es many = ap (λ b. unless_beyond n es (cond b (Some any_kind) (first_beyond (zonal_kind ∷ nearest_kind ∷ []) (layers es)))) (lt-ltb most_flats (count_by is_flat (layers es)) many)

module _ (n : Name) (es : List Entry) where
  bounded_beyond : (w : Which) → IsBeyond es (Some w) → bounded n es ≡ Err (beyond (which_of w))
  bounded_beyond w h = go (first_beyond limits.kinds (layers es)) h
    where
      go : (o : Option limits.Kind) → Some (which_of w) ≡ option_map which_kind o → unless_beyond n es o ≡ Err (beyond (which_of w))
      go None h = absurd cc
      go (Some kind) h = let same : which_of w ≡ which_kind kind = cc in ap (λ x. Err (beyond x)) (sym same)

  none_first : IsBeyond es None → first_beyond limits.kinds (layers es) ≡ None
  none_first h = map_none which_kind (first_beyond limits.kinds (layers es)) (sym h)

  bounded_within : (looped : Bool) → IsBeyond es None → is_looped (nodes_of es) n ≡ looped → bounded n es ≡ cond looped (Err (cycle n)) (Ok es)
  bounded_within looped few is = ap (unless_beyond n es) (none_first few) ∙ ap (λ l. cond l (Err (cycle n)) (Ok es)) is

  flats_within : IsBeyond es None → count_by is_flat (layers es) ≤ most_flats
  flats_within few = (none_beyond limits.kinds (layers es) (none_first few)).0

own_last : (nodes : List Node) (node : Node) → own_name (nodes ++ node ∷ []) ≡ Some node.name
own_last [] node = refl
own_last (x ∷ []) node = refl
own_last (x ∷ y ∷ nodes) node = own_last (y ∷ nodes) node

-- the last node of a statement has its name
statement_own : (n : Name) (fs : List meant.Flat) → AreFlats (IsInside n) n [] fs → own_name (statement_nodes fs) ≡ Some n
statement_own n fs named =
    let own : meant.Flat = record { name = n; op = named.own } in
    let split : statement_nodes (named.inner ++ own ∷ []) ≡ statement_nodes named.inner ++ node_of_layer (flat_layer own) ∷ [] =
    ap (map node_of_layer) (map-append flat_layer named.inner (own ∷ [])) ∙ map-append node_of_layer (map flat_layer named.inner) (flat_layer own ∷ []) in
    ap (λ gs. own_name (statement_nodes gs)) named.is ∙ ap own_name split ∙ own_last (statement_nodes named.inner) (node_of_layer (flat_layer own))

-- ---- a statement of a map

module _ (m : KeptMap) (keeps : IsKept m) (n : Name) (written : Written) where
  refused_names : (r : Refusal) → entries_with m.procedures (names_in m) (define n (written_view written)) ≡ Err r → accept_counted (seen m) (defines n written) ≡ Err r
  refused_names r e = accept_refused (seen m) (defines n written) r (ap (with_names (seen m) (define n (written_view written))) e)

  abbrev pub entries_after_it : Result (List Entry) Refusal
  entries_after_it = entries_with m.procedures (names_in m) (define n (written_view written))

  pub defined_source : kinds.Source ≡ standing_of (find_def (entries_in m) n) → Refuses (seen m) (seen m) (defines n written) (a_refusal.Exists n)
  defined_source is = (refused_names (exists_already n) (go (find_def (entries_in m) n) is), refl)
    where
      go : (o : Option Def) → kinds.Source ≡ standing_of o → define_with m.procedures (entries_in m) n (written_view written) o ≡ Err (exists_already n)
      go None is = absurd cc
      go (Some (source grid)) is = refl
      go (Some (statement w flats)) is = absurd cc

  -- what the name stands for is no source
  abbrev IsOther : Type 0
  IsOther = (grid : Grid) → find_def (entries_in m) n ≡ Some (source grid) → ⊥

  module _ (kind : Kind) (kind_is : kind ≡ standing_of (find_def (entries_in m) n)) (differs : kind ≡ kinds.Source → ⊥) where
    no_source : IsOther
    no_source grid e = differs (kind_is ∙ ap standing_of e)

    puts_by : (r : Result (List meant.Flat) WrongCall) → expansion_of m.procedures n (written_view written) ≡ r → entries_after_it ≡ put_statement (entries_in m) n (written_view written) r
    puts_by r e = go (find_def (entries_in m) n) refl ∙ ap (put_statement (entries_in m) n (written_view written)) e
      where
        go : (o : Option Def) → find_def (entries_in m) n ≡ o → define_with m.procedures (entries_in m) n (written_view written) o ≡ put_statement (entries_in m) n (written_view written) (expansion_of m.procedures n (written_view written))
        go None e = refl
        go (Some (source grid)) e = absurd (no_source grid e)
        go (Some (statement w flats)) e = refl

    -- a statement of more flat ones than there may be
    alone_many : (fs : List meant.Flat) → 64 < length fs → 64 < count_by is_flat (layers (put_entry (entries_in m) n (statement (written_view written) fs)))
    alone_many fs many =
        let put = count_put is_flat (entries_in m) n (statement (written_view written) fs) in
        let least = there_least is_flat (entries_in m) n in
        let all = flats_all fs in
        omega (arith, put, least, all, many)

    pub stands_for_none : (r : refused.Refusal) → StandsFor {A = Unit {0}} (expansion_of m.procedures n (written_view written)) (Err r) → Refuses (seen m) (seen m) (defines n written) r
    stands_for_none (a_refusal.NoProcedure p) e = (refused_names (no_procedure p) (puts_by (Err (not_defined p)) e), refl)
    stands_for_none (a_refusal.Terms given wanted) e = (refused_names (wrong_terms given wanted) (puts_by (Err (wrong_count given wanted)) e), refl)
    stands_for_none (a_refusal.Limit which.Statements) e =
        (refused_names (beyond statements) (puts_by (Ok e.0) e.1 ∙ bounded_many n (put_entry (entries_in m) n (statement (written_view written) e.0)) (alone_many e.0 e.2)), refl)
    stands_for_none a_refusal.NoMemory e = refl
    stands_for_none r e = absurd e

    module _ (flats : Vec Flat Global) (expands : expansion_of m.procedures n (written_view written) ≡ Ok (flats_view flats.items)) (slice : List Flat) (slice_is : slice ≡ flats.items) where
      abbrev fs : List Flat
      fs = flats.items

      puts_it : entries_after_it ≡ bounded n (entries_with_it m n written fs)
      puts_it = puts_by (Ok (flats_view fs)) expands

      -- what is told of the slice, whatever else the entries are
      abbrev AreBeyond : Option Which → Type 0
      AreBeyond o = (size : Size) (grids : Name → Option LayerState) (w : meant.Written) → IsBeyond (put_entry (entries_by size grids m.names.entries) n (statement w (flats_view slice))) o

      are_beyond : (o : Option Which) → AreBeyond o → IsBeyond (entries_with_it m n written fs) o
      are_beyond o told = subst (λ (xs : List Flat). IsBeyond (entries_with_it m n written xs) o) slice_is (told m.extent (source_in m.sources) (written_view written))

      pub defined_beyond : (w : Which) → AreBeyond (Some w) → Refuses (seen m) (seen m) (defines n written) (a_refusal.Limit w)
      defined_beyond w many = (refused_names (beyond (which_of w)) (puts_it ∙ bounded_beyond n (entries_with_it m n written fs) w (are_beyond (Some w) many)), refl)

      -- the nodes of the graph with it
      graph_nodes : nodes_in (groups_with_it m n fs) ≡ nodes_of (entries_with_it m n written fs)
      graph_nodes =
          ap (λ (g : List Group). nodes_in (put_group g n (statement_nodes (flats_view fs)))) keeps.graph_is
          ∙ ap nodes_in (groups_put (entries_in m) n (written_view written) (flats_view fs)) ∙ nodes_in_groups (entries_with_it m n written fs)

      module _ (none : AreBeyond None) (given : List Flat) (given_is : given ≡ fs) where
        few : IsBeyond (entries_with_it m n written fs) None
        few = are_beyond None none

        sources_with_few : count_by is_source (entries_with_it m n written fs) ≤ 32
        sources_with_few = let most = keeps.sources_few in let less = sources_put (entries_in m) n (written_view written) (flats_view fs) in omega (arith, most, less)

        bounded_by : (looped : Bool) → is_looped (nodes_in (groups_with_it m n fs)) n ≡ looped → entries_after_it ≡ cond looped (Err (cycle n)) (Ok (entries_with_it m n written fs))
        bounded_by looped is = puts_it ∙ bounded_within n (entries_with_it m n written fs) looped few (ap (λ nodes. is_looped nodes n) (sym graph_nodes) ∙ is)

        pub fits_graph : AreFlats (IsInside n) n [] (flats_view fs) → FitsAs m.graph n (statement_nodes (flats_view given))
        fits_graph named = subst (λ (xs : List Flat). FitsAs m.graph n (statement_nodes (flats_view xs))) (sym given_is) (record {
          own = statement_own n (flats_view fs) named;
          few =
              let nodes : length (nodes_in (groups_with_it m n fs)) ≡ length (nodes_of (entries_with_it m n written fs)) = ap length graph_nodes in
              let all = few_nodes (entries_with_it m n written fs) in
              let sources = sources_with_few in
              let flats = flats_within n (entries_with_it m n written fs) few in
              omega (arith, nodes, all, sources, flats);
        })

        -- the graph doesn't take it
        pub defined_not_put : (r : GraphRefusal) → IsGraphWith m.graph n (statement_nodes (flats_view given)) (Err r) → Refuses (seen m) (seen m) (defines n written) (not_put n r)
        defined_not_put Cycle looped = (refused_names (cycle n) (bounded_by true (ap (λ (xs : List Flat). is_looped (nodes_in (groups_with_it m n xs)) n) (sym given_is) ∙ looped)), refl)
        defined_not_put NoMemory is = refl

        -- or it does
        pub defined_draft : (graph : List Group) → IsGraphWith m.graph n (statement_nodes (flats_view given)) (Ok graph) → IsTrue (is_plain n) → IsWritten (written_view written)
            → All (λ (f : Flat). HasRanges (op_view f.op)) fs → IsDraftOf m (defines n written) n (Statement written flats None) graph None None
        defined_draft graph put plain formed ranges =
            let is = subst (λ (xs : List Flat). IsGraphWith m.graph n (statement_nodes (flats_view xs)) (Ok graph)) given_is put in
            by_entries m keeps n (define n (written_view written)) (Statement written flats None) None None plain (plain_undotted n plain, written_undotted (written_view written) formed) refl (bounded_by false is.1) refl refl
            (record { formed = formed; ranges = ranges; other = no_source; seat = tt }) graph
            (is.0 ∙ ap (λ (g : List Group). put_group g n (statement_nodes (flats_view fs))) keeps.graph_is ∙ groups_put (entries_in m) n (written_view written) (flats_view fs))
            sources_with_few (flats_within n (entries_with_it m n written fs) few)
