-- The layers of a kept map by their names, and what a name misses.
use Rattle.std.proofs.Common.{◌≡◌, ℕ, true, false, not, [], position, Option, Some, None, is_some, option_map, unwrap_or, slice_get, bytes_eq, refl, sym, ap, ◌∙◌, map}
use Rattle.std.specs.List.{list_any}
use Rattle.std.specs.Option.{option_or}
use Rattle.std.proofs.lemmas.Bool.{true≢false, false≢true, and_from}
use Rattle.std.proofs.lemmas.Option.{none-some}
use Rattle.map_nums.specs.Grids.{Grid, Cells}
use Rattle.map_defs.specs.Ops.{Name, Op, needs_of}
use Rattle.map_defs.specs.Nodes.{find_node, lacks}
use Rattle.map_defs.specs.Depths.{by_depth}
use Rattle.layer_tiles.specs.Layers.{LayerState}
use Rattle.map_edits.specs.LayerDefs.{Making, given_grid, by_op, layers, find_making, nodes_of}
use Rattle.map_edits.specs.EngineStates.{EngineState, made, value_of, term_cells}
use Rattle.map_edits.specs.WholeStates.{stamps_of, cells_of}
use Rattle.map_edits.specs.Laws.{HasNoCycle, is_named_in}
use Rattle.map_edits.proofs.Looks.{made_node, find_node-making, none_there}
use Rattle.map_edits.proofs.Stamped.{kept_found, value_there}
use Rattle.map_edits.proofs.Order.{all_flats_listed}
use Rattle.map_edits.proofs.Defined.{value_is_defined}
use Rattle.map_edits.proofs.Unfolds.{value_unfolds}
use Rattle.map_waves.specs.declared.keeping.Kept.{Kept}
use Rattle.map_waves.specs.declared.plans.Step.{Step}
use Rattle.statement_parser.specs.declared.op.Op.{Op as Given}
use Rattle.op_jobs.specs.declared.beside.Beside.{Beside}
use Rattle.edit_plans.specs.Planned.{is_source_node, whole_names}
use Rattle.edit_plans.proofs.Forming.{step_at}
use Rattle.edit_plans.proofs.Operands.{kept_named}
use Rattle.edit_plans.proofs.Positions.{some_position, position_at}
use Rattle.kept_map.specs.Maps.{at_place, source_in, kept_in, layer_in, names_in, stamps_seen, grid_of, entries_in}
use Rattle.kept_map.specs.Keeps.{AreKeptSources, IsKeptStep, IsKept}
use Rattle.kept_map.specs.declared.maps.Sources.{Sources}
use Rattle.kept_map.specs.declared.maps.KeptMap.{KeptMap}
use Rattle.map_nums.specs.Options.{all_some}
use Rattle.map_defs.specs.Operate.{operate}
use Rattle.statement_graph.specs.Groups.{nodes_in}
use Rattle.statement_parser.specs.Views.{op_view}
use Rattle.edit_plans.proofs.There.{none_where}
use Rattle.edit_plans.proofs.Operating.{operate_size}
use Rattle.kept_map.proofs.SourceLayers.{map_some, place_there, source_stands, source_at, source_none, source_whole, source_def}
use Rattle.kept_map.proofs.Given.{source_value, nodes_in_groups}

pub node_made : (s : EngineState) (n : Name) (making : Making) → find_making (layers s.entries) n ≡ Some making → find_node (nodes_of s.entries) n ≡ Some (made_node n making)
node_made s n making e = find_node-making (layers s.entries) n ∙ ap (option_map (made_node n)) e

-- ---- sources

module _ (s : EngineState) (sources : Sources) (are : AreKeptSources s sources) where
  -- a flat statement isn't among them
  pub no_source : (n : Name) (op : Op) → find_making (layers s.entries) n ≡ Some (by_op op) → source_in sources n ≡ None
  no_source n op making = source_none sources n (none_there (position (bytes_eq n) sources.names.keys) (are.stand n ∙ ap is_source_node (node_made s n (by_op op) making)))

  -- each has its layer
  pub source_there : (n : Name) (grid : Grid) → find_making (layers s.entries) n ≡ Some (given_grid grid) → (l : LayerState) × (source_in sources n ≡ Some l)
  source_there n grid making =
      let r = source_stands sources n are.count (are.stand n ∙ ap is_source_node (node_made s n (given_grid grid) making)) in
      (r.1, source_at sources n r.0 r.2 ∙ r.3)

-- ---- statements

module _ (s : EngineState) (none : HasNoCycle (nodes_of s.entries)) (n : Name) where
  -- a flat statement with a grid is one of those that lack no name
  pub statement_listed : (op : Op) → find_making (layers s.entries) n ≡ Some (by_op op) → is_some (value_of s n) ≡ true → list_any (bytes_eq n) (whole_names (nodes_of s.entries) (by_depth (nodes_of s.entries))) ≡ true
  statement_listed op making defined =
      let nodes = nodes_of s.entries in
      kept_named (λ q. not (is_some (lacks nodes q))) n (by_depth nodes)
      ∙ and_from (is_named_in n (by_depth nodes)) (not (is_some (lacks nodes n)))
      (all_flats_listed nodes none n (record { name = n; needs = Some (needs_of op) }) (needs_of op) (node_made s n (by_op op) making) refl)
      (sym (value_is_defined s none n) ∙ defined)

  -- what has a grid is a source, or one of them
  defined_listed : is_source_node (find_node (nodes_of s.entries) n) ≡ false → (g : Grid) → value_of s n ≡ Some g → list_any (bytes_eq n) (whole_names (nodes_of s.entries) (by_depth (nodes_of s.entries))) ≡ true
  defined_listed away g e = go (find_making (layers s.entries) n) refl
    where
      go : (o : Option Making) → find_making (layers s.entries) n ≡ o → list_any (bytes_eq n) (whole_names (nodes_of s.entries) (by_depth (nodes_of s.entries))) ≡ true
      go None making = absurd (none-some g (sym (value_unfolds s none n ∙ ap (made s.size (value_of s)) making) ∙ e))
      go (Some (given_grid grid)) making = absurd (true≢false (sym (ap is_source_node (node_made s n (given_grid grid) making)) ∙ away))
      go (Some (by_op op)) making = statement_listed op making (ap is_some e)

module _ (m : KeptMap) (kept : IsKept m) where
  -- a statement with a grid has its place in the plan
  pub defined_placed : (n : Name) → is_some (position (bytes_eq n) m.sources.names.keys) ≡ false → (g : Grid) → value_of (names_in m) n ≡ Some g → is_some (position (bytes_eq n) m.planned.names.keys) ≡ true
  defined_placed n away g e =
      some_position (bytes_eq n) m.planned.names.keys
      ∙ ap (list_any (bytes_eq n)) kept.statements.planned_are.names_are
      ∙ defined_listed (names_in m) kept.lawful.none_looped n (sym (kept.sources.stand n) ∙ away) g e

  -- what is kept at its place is that of a step
  pub step_kept : (i : ℕ) (n : Name) (own : Kept Beside) → slice_get m.planned.names.keys i ≡ Some n → slice_get m.kept.items i ≡ Some own → (x : Step Given) × IsKeptStep (names_in m) n x own
  step_kept i n own named here =
      let step = step_at m.planned.names.keys m.planned.steps.items kept.statements.planned_are.count i n named in
      (step.0, kept.statements.each i n step.0 own named step.1 here)

  pub kept_step : (n : Name) (own : Kept Beside) → kept_in m n ≡ Some own → (x : Step Given) × IsKeptStep (names_in m) n x own
  kept_step n own e =
      let at = place_there m.kept.items (position (bytes_eq n) m.planned.names.keys) own e in
      step_kept at.0 n own (position_at n m.planned.names.keys at.0 at.1) at.2

-- a statement's layer is what is kept of it
pub layer_kept : (m : KeptMap) (n : Name) (own : Kept Beside) → source_in m.sources n ≡ None → kept_in m n ≡ Some own → layer_in m n ≡ Some own.layer
layer_kept m n own none e = ap (λ o. option_or o (option_map (λ (k : Kept Beside). k.layer) (kept_in m n))) none ∙ ap (option_map (λ (k : Kept Beside). k.layer)) e

pub layer_source : (m : KeptMap) (n : Name) (l : LayerState) → source_in m.sources n ≡ Some l → layer_in m n ≡ Some l
layer_source m n l e = ap (λ o. option_or o (option_map (λ (k : Kept Beside). k.layer) (kept_in m n))) e

-- ---- stamps

-- the stamps of a layer that is defined
pub stamps_found : (by_name : Name → Option LayerState) (s : EngineState) (n : Name) (l : LayerState) → by_name n ≡ Some l → is_some (value_of s n) ≡ true → stamps_of (stamps_seen by_name s) n ≡ Some l.stamps
stamps_found by_name s n l is there =
    kept_found (λ m. unwrap_or (option_map (λ (k : LayerState). k.stamps) (by_name m)) []) (λ m. is_some (value_of s m)) n (layers s.entries) ∙ rw (value_there s n, there, is) refl

-- a statement's grid has the size of the map
value_size : (s : EngineState) (n : Name) (op : Op) (cells : Cells) → HasNoCycle (nodes_of s.entries) → find_making (layers s.entries) n ≡ Some (by_op op) → cells_of s n ≡ Some cells → value_of s n ≡ Some (record { size = s.size; cells = cells })
value_size s n op cells none making is =
    let g = map_some (λ (g : Grid). g.cells) (value_of s n) cells is in
    let made_of = map_some (operate s.size op) (all_some (map (term_cells s.size (value_of s)) op.terms)) g.0 (sym (value_unfolds s none n ∙ ap (made s.size (value_of s)) making) ∙ g.1) in
    g.1 ∙ ap (λ g. Some g) (sym made_of.2 ∙ operate_size s.size op made_of.0 ∙ ap (λ cs. record { size = s.size; cells = cs }) (ap (λ (g : Grid). g.cells) made_of.2 ∙ g.2))

module _ (m : KeptMap) (keeps : IsKept m) (n : Name) where
  abbrev s : EngineState
  s = names_in m

  abbrev pub IsTold : LayerState → Type 0
  IsTold l = (value_of s n ≡ Some (grid_of l)) × (stamps_of (stamps_seen (layer_in m) s) n ≡ Some l.stamps) × (l.size ≡ m.extent)

  pub source_told : (i : ℕ) (l : LayerState) → position (bytes_eq n) m.sources.names.keys ≡ Some i → slice_get m.sources.layers.items i ≡ Some l → IsTold l
  source_told i l at is =
      let there : source_in m.sources n ≡ Some l = source_at m.sources n i at ∙ is in
      let value : value_of s n ≡ Some (grid_of l) = source_value s n (grid_of l) keeps.lawful.groups keeps.lawful.apart keeps.lawful.none_looped (source_def m n keeps l there) in
      (value, stamps_found (layer_in m) s n l (layer_source m n l there) (ap is_some value), (source_whole m.sources n s l keeps.sources there).0)

  pub statement_told : (k : ℕ) (own : Kept Beside) → position (bytes_eq n) m.sources.names.keys ≡ None → position (bytes_eq n) m.planned.names.keys ≡ Some k → slice_get m.kept.items k ≡ Some own → IsTold own.layer
  statement_told k own absent at is =
      let named = position_at n m.planned.names.keys k at in
      let step = step_kept m keeps k n own named is in
      let r = step.1 in
      let value : value_of s n ≡ Some (grid_of own.layer) = value_size s n (op_view step.0.op) own.layer.cells keeps.lawful.none_looped r.making r.value ∙ ap (λ z. Some (record { size = z; cells = own.layer.cells })) (sym r.size) in
      let layer : layer_in m n ≡ Some own.layer = layer_kept m n own (source_none m.sources n absent) (ap (at_place m.kept.items) at ∙ is) in
      (value, stamps_found (layer_in m) s n own.layer layer (ap is_some value), r.size)

  -- neither a source nor a statement that is defined
  pub nothing_told : position (bytes_eq n) m.sources.names.keys ≡ None → position (bytes_eq n) m.planned.names.keys ≡ None → value_of s n ≡ None
  nothing_told absent unplanned = none_where (value_of s n) (λ g e. false≢true (sym (ap is_some unplanned) ∙ defined_placed m keeps n (ap is_some absent) g e))

  pub graph_nodes : nodes_in m.graph ≡ nodes_of (entries_in m)
  graph_nodes = ap nodes_in keeps.graph_is ∙ nodes_in_groups (entries_in m)
