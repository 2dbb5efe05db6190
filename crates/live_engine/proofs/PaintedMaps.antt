-- An edit that repaints a source: the state that it makes, what it does to the sources, and the map after it.
use Rattle.std.proofs.Common.{◌≡◌, inl, inr, ℕ, ◌≤◌, ◌==◌, true, false, ◌<◌, ◌^◌, List, count_by, length, set, position, Some, None, is_some, option_map, slice_get, bytes_eq, Ok, refl, sym, ap, subst, ◌∙◌, arith}
use Rattle.std.specs.List.{All}
use Rattle.std.proofs.lemmas.Bool.{cases_Bool, cond_both, eqb-true, eqb-false, false_from_ne_true}
use Rattle.std.proofs.lemmas.List.{length-map, length-set}
use Rattle.std.proofs.lemmas.List.Elements.{All-set}
use Rattle.std.proofs.lemmas.Option.{same_Some, slice_get_cases, slice_get_within}
use Rattle.map_nums.specs.Counts.{raised}
use Rattle.map_nums.specs.Grids.{Size, Grid}
use Rattle.map_defs.specs.Ops.{Name}
use Rattle.map_defs.specs.Nodes.{Node, find_node}
use Rattle.layer_tiles.specs.Changes.{ChangeState, same_change, patched_change}
use Rattle.layer_tiles.specs.Layers.{LayerState, IsLayer, IsCommitted}
use Rattle.layer_tiles.specs.Patches.{PatchState}
use Rattle.layer_tiles.specs.Tiles.{Block}
use Rattle.statement_graph.specs.Groups.{nodes_in}
use Rattle.map_edits.specs.Entries.{source, Entry, find_def, put_entry}
use Rattle.map_edits.specs.EditForms.{Rectangle}
use Rattle.map_edits.specs.LayerDefs.{by_op, layers, nodes_of, find_making}
use Rattle.map_edits.specs.LayerChanges.{changed_of}
use Rattle.map_edits.specs.Limits.{is_source, is_flat, most_sources, most_flats}
use Rattle.map_edits.specs.EditCounts.{Counts}
use Rattle.map_edits.specs.Counted.{accept_counted}
use Rattle.map_edits.specs.Pasts.{parts_of}
use Rattle.map_edits.specs.StampsAfter.{stamps_at, stamped}
use Rattle.map_edits.specs.GroupLaws.{IsLawful}
use Rattle.map_edits.specs.Touches.{touch_of, within, is_whole}
use Rattle.map_edits.specs.WholeEdits.{WholeEdit}
use Rattle.map_edits.specs.WholeStates.{WholeState, cells_of}
use Rattle.map_edits.proofs.Among.{same_name, bytes_eq-self, bytes_eq-turned}
use Rattle.map_edits.proofs.Groups.{def_layers, group_making, making_by_head}
use Rattle.map_edits.proofs.Heads.{head_of, head_undotted}
use Rattle.map_edits.proofs.GroupsKept.{put_makings}
use Rattle.map_edits.proofs.LawfulEdits.{IsGoodChange, good_of}
use Rattle.map_edits.proofs.Puts.{find_put, find_put_other}
use Rattle.map_waves.specs.Operands.{IsOperand}
use Rattle.map_waves.specs.declared.counting.Counts as told
use Rattle.map_waves.specs.declared.plans.Shift.{Shift}
use Rattle.map_waves.specs.declared.plans.Shift.TheVariants.{Painted}
use Rattle.edit_plans.specs.PlansFor.{IsChangeOf}
use Rattle.edit_plans.specs.Planned.{is_source_node}
use Rattle.edit_plans.specs.SourceCounts.{joined, counts_of_touched}
use Rattle.edit_plans.proofs.Positions.{position_at}
use Rattle.edit_plans.proofs.Restamped.{old_is_stamped}
use Rattle.edit_plans.proofs.TouchedAlone.{source_only}
use Rattle.kept_map.specs.Maps.{grid_of, source_in, layer_in, entries_in, names_in, seen}
use Rattle.kept_map.specs.Keeps.{IsKept}
use Rattle.kept_map.specs.Edits.{change_in, IsSetUp, IsSamePlan}
use Rattle.kept_map.specs.Repairs.{IsPreparedFor, counts_view}
use Rattle.kept_map.specs.Groups.{groups_of}
use Rattle.kept_map.specs.declared.maps.KeptMap.{KeptMap}
use Rattle.kept_map.specs.declared.maps.Sources.{Sources}
use Rattle.kept_map.specs.declared.repairing.Prepared.{Prepared}
use Rattle.kept_map.proofs.Committed.{committed_prepared}
use Rattle.kept_map.proofs.LayersByName.{layer_source, stamps_found}
use Rattle.kept_map.proofs.Ready.{rests_after}
use Rattle.map_waves.proofs.Making.{all_get}
use Rattle.kept_map.proofs.SettingUp.{place_is, same_operand, constant_operand, placed_layer, placed_def, value_before, left_change, stamps_stay}
use Rattle.kept_map.proofs.SourceLayers.{source_at, source_painted, source_unpainted, entries_painted, placed_item, source_def}
use Rattle.kept_map.proofs.Given.{undotted, source_making, source_value, nodes_in_groups, groups_repaint}
use Rattle.live_engine.specs.Painting.{rectangle_of, met_tiles}
use Rattle.live_engine.specs.Inverses.{TakesBack}
use Rattle.live_engine.specs.Repainting.{CanRepaint, HadTiles, IsRepainted, IsRepaintOf, repainted_state}
use Rattle.live_engine.specs.declared.repainting.Repaint.{Repaint}
use Rattle.live_engine.specs.declared.inverses.Inverse.TheVariants as inverses
use Rattle.live_engine.specs.Settles.{CanSettle, IsSettled}
use Rattle.live_engine.proofs.Accepting.{accepted_is, few_changed, few_evaluated, can_settle}
use Rattle.live_engine.proofs.Counted.{sources_stay, flats_stay}
use Rattle.live_engine.proofs.TileBacks.{tiles_back}

pub layer_size : (m : KeptMap) → IsKept m → (i : ℕ) (l : LayerState) → slice_get m.sources.layers.items i ≡ Some l → l.size ≡ m.extent
layer_size m keeps i l e = (all_get (λ (k : LayerState). (k.size ≡ m.extent) × IsLayer k) m.sources.layers.items keeps.sources.whole i l e).0

-- an edit of a rectangle of a source counts its changed tiles, and damages those that the rectangle meets
pub repaint_counts : (m : KeptMap) (n : Name) (r : Rectangle) (grid : Grid) → IsLawful (repainted_state (seen m) n grid) → counts_of_touched (within n r) (names_in m) (repainted_state (seen m) n grid).names
    ≡ record { changed = length (changed_of (names_in m) (repainted_state (seen m) n grid).names n); evaluated = length (met_tiles m.extent r); worked = 0 }
repaint_counts m n r grid lawful =
    let entries = put_entry (entries_in m) n (source grid) in
    rw (source_making entries n lawful.groups lawful.apart grid (find_put (entries_in m) n (source grid)), bytes_eq-self n) refl

module _ {m : KeptMap} {e : WholeEdit} {grid : Grid} {d : Repaint} {place : ℕ} (kept : IsKept m) (is : IsRepaintOf m e grid d) (at : position (bytes_eq d.name) m.sources.names.keys ≡ Some place) where
  abbrev n : Name
  n = d.name

  abbrev l : LayerState
  l = is.layer

  abbrev r : Rectangle
  r = rectangle_of d.rectangle

  abbrev entries : List Entry
  entries = put_entry (entries_in m) n (source grid)

  abbrev after : WholeState
  after = repainted_state (seen m) n grid

  -- its name stands at one place
  there : slice_get m.sources.layers.items place ≡ Some l
  there = subst (λ k. slice_get m.sources.layers.items k ≡ Some l) (same_Some is.place place (sym is.placed ∙ at)) is.there

  size_is : l.size ≡ m.extent
  size_is = layer_size m kept place l there

  found : source_in m.sources n ≡ Some l
  found = source_at m.sources n place at ∙ there

  def : find_def (entries_in m) n ≡ Some (source (grid_of l))
  def = source_def m n kept l found

  -- ---- the state that it makes

  change : IsGoodChange (entries_in m) n entries
  change = record { good = good_of after is.lawful; makings = put_makings (entries_in m) n (source grid) kept.lawful.groups kept.lawful.apart is.plain tt }

  -- a source has its grid
  value_after : (q : Name) (g : Grid) → find_def entries q ≡ Some (source g) → cells_of after.names q ≡ Some g.cells
  value_after q g is = ap (option_map (λ (h : Grid). h.cells)) (source_value after.names q g change.good.groups change.good.apart change.good.none_looped is)

  own_value : cells_of after.names n ≡ Some grid.cells
  own_value = value_after n grid (find_put (entries_in m) n (source grid))

  -- ---- its statements

  groups : groups_of (entries_in m) ≡ groups_of entries
  groups = groups_repaint (entries_in m) n (grid_of l) grid def

  nodes : nodes_of entries ≡ nodes_of (entries_in m)
  nodes = sym (nodes_in_groups entries) ∙ ap nodes_in (sym groups) ∙ nodes_in_groups (entries_in m)

  pub same_plan : IsSamePlan m e after
  same_plan = record {
    nodes = nodes;
    makings = λ q op was. elim (cases_Bool (bytes_eq n (head_of q))) [
      | inl same ↦
          let own : n ≡ head_of q = same_name n (head_of q) same in
          let made : find_making (def_layers (head_of q) (source (grid_of l))) q ≡ Some (by_op op) =
          ap (group_making q) (sym (ap (find_def (entries_in m)) (sym own) ∙ def)) ∙ sym (making_by_head (entries_in m) q kept.lawful.groups kept.lawful.apart) ∙ was in
          absurd (source_only (head_of q) q (grid_of l) op made)
      | inr differs ↦ change.makings q differs ∙ was
    ];
    untouched = λ q op made. ap (λ touch. is_whole entries touch q) is.touch;
  }

  -- ---- how many names there are, and tiles

  sources_few : count_by is_source entries ≤ most_sources
  sources_few = subst (λ k. k ≤ most_sources) (sym (sources_stay (entries_in m) n (grid_of l) grid def)) kept.sources_few

  flats_few : count_by is_flat (layers entries) ≤ most_flats
  flats_few = subst (λ k. k ≤ most_flats) (sym (flats_stay (entries_in m) n (grid_of l) grid def)) kept.flats_few

  pub own_counts : counts_of_touched (touch_of e) (names_in m) after.names ≡ record { changed = length d.patch.tiles; evaluated = d.met; worked = 0 }
  own_counts = rw (is.touch, repaint_counts m n r grid is.lawful, changed) (ap (λ k. record { changed = length d.patch.tiles; evaluated = k; worked = 0 }) (sym is.met))
    where
      changed : length (changed_of (names_in m) after.names n) ≡ length d.patch.tiles
      changed =
          simp (value_before m kept n l def, own_value, ← is.cells, ← size_is, ← is.operand.exact l.cells refl) (length-map d.patch.tiles (λ (e : ℕ × Block). e.0))

  -- ---- its patch

  module _ (ptr : ℕ × ℕ) where
    abbrev shift : Shift
    shift = Painted place (record { ref_ptr = ptr; now = d.patch })

    -- what becomes of the layer at a place
    each_change : (i : ℕ) (k : LayerState) → slice_get m.sources.layers.items i ≡ Some k → (P : ChangeState → Type 0) → (place ≡ i → P (patched_change l d.patch)) → ((place == i) ≡ false → P (same_change k))
        → P (change_in m shift i)
    each_change i k here P own left =
        rw here (cond_both (place == i) (patched_change k d.patch) (same_change k) P
        (λ same. let at = eqb-true place i same in subst (λ (x : LayerState). P (patched_change x d.patch)) (same_Some l k (sym there ∙ ap (slice_get m.sources.layers.items) at ∙ here)) (own at))
        left)

    operands : (i : ℕ) → IsOperand m.extent (change_in m shift i)
    operands i = elim (slice_get_cases m.sources.layers.items i).1 [
      | inl k ↦ each_change i k.0 k.2 (IsOperand m.extent) (λ same. subst (λ (z : Size). IsOperand z (patched_change l d.patch)) size_is is.operand) (λ other. same_operand m.extent k.0 (layer_size m kept i k.0 k.2))
      | inr none ↦ rw none.1 (constant_operand m.extent None)
    ]

    own_change : IsChangeOf (names_in m) after.names n (patched_change l d.patch)
    own_change = record {
      after = λ now e. is.cells ∙ same_Some grid.cells now (sym own_value ∙ e);
      before = λ was e. sym (value_before m kept n l def) ∙ e;
    }

    changes : (i : ℕ) (q : Name) → slice_get m.sources.names.keys i ≡ Some q → IsChangeOf (names_in m) after.names q (change_in m shift i)
    changes i q named =
        let k = placed_layer m kept i q named in
        let its = placed_def m kept i q k.0 named k.1 in
        let head = head_undotted q (undotted (entries_in m) q (source (grid_of k.0)) kept.lawful.groups its) in
        each_change i k.0 k.1 (IsChangeOf (names_in m) after.names q)
        (λ same. subst (λ a. IsChangeOf (names_in m) after.names a (patched_change l d.patch))
        (same_Some n q (sym (position_at n m.sources.names.keys place at) ∙ ap (slice_get m.sources.names.keys) same ∙ named)) own_change)
        (λ other. left_change m kept after.names change.good.none_looped q k.0 its (inr (change.makings q (ap (bytes_eq n) head ∙ false_from_ne_true (bytes_eq n q) (λ e. eqb-false place i other (one_place e))))))
      where
        one_place : bytes_eq n q ≡ true → place ≡ i
        one_place e = same_Some place i (sym at ∙ ap (λ a. position (bytes_eq a) m.sources.names.keys) (same_name n q e) ∙ place_is m.sources.names.keys kept.sources.apart i q named)

    pub set_up : IsSetUp m e after shift m.sources.names.keys
    set_up = record {
      said = is.said;
      attempt = is.attempt;
      shift_is = is.size ∙ size_is;
      operands = operands;
      changes = changes;
      count = let count = kept.sources.count in omega (arith, count);
    }

    -- ---- what is prepared of its statements

    module _ (prepared : Prepared) (made : (f : WholeEdit) (t : WholeState) → IsSetUp m f t shift m.sources.names.keys → IsSamePlan m f t → IsPreparedFor m f t shift m.sources.names.keys m.planned.names.keys m.planned.steps.items prepared) where
      ready : IsPreparedFor m e after shift m.sources.names.keys m.planned.names.keys m.planned.steps.items prepared
      ready = made e after set_up same_plan

      pub paint_few : (prepared.counts.changed < 2 ^ 63) × (prepared.counts.evaluated < 2 ^ 63)
      paint_few = (
        few_changed m kept e after shift m.sources.names.keys m.planned.names.keys m.planned.steps.items prepared ready sources_few flats_few,
        few_evaluated m kept e after shift m.sources.names.keys m.planned.names.keys m.planned.steps.items prepared ready sources_few flats_few,
      )

      pub paint_settles : CanSettle m prepared
      paint_settles = can_settle m e after shift prepared kept set_up ready

      -- ---- the map after it

      module _ (mid : KeptMap) (settled : IsSettled m mid prepared) where
        mid_there : slice_get mid.sources.layers.items place ≡ Some l
        mid_there = ap (λ (q : KeptMap). slice_get q.sources.layers.items place) settled.others ∙ there

        pub paint_put : CanRepaint mid place d.patch
        paint_put = record { was = l; there = mid_there; within = slice_get_within mid.sources.layers.items place l mid_there; size = is.size }

        module _ (m' : KeptMap) (repainted : IsRepainted mid m' place d.patch) where
          abbrev new : LayerState
          new = repainted.layer

          abbrev sources_after : Sources
          sources_after = record { names = m.sources.names; layers = m'.sources.layers }

          abbrev map_after : KeptMap
          map_after = record m { sources = sources_after; planned = mid.planned; kept = mid.kept; number = raised m.number 1 }

          map_is : m' ≡ map_after
          map_is = repainted.others ∙ ap (λ (q : KeptMap). record q { sources = record { names = q.sources.names; layers = m'.sources.layers } }) settled.others

          committed : IsCommitted l d.patch (raised m.number 1) new
          committed = subst (λ k. IsCommitted l d.patch k new) (ap (λ (q : KeptMap). q.number) settled.others) (repainted.committed l mid_there)

          new_size : new.size ≡ m.extent
          new_size = committed.size ∙ size_is

          new_cells : new.cells ≡ grid.cells
          new_cells = committed.cells ∙ is.cells

          layers_are : m'.sources.layers.items ≡ set m.sources.layers.items place new
          layers_are = repainted.layers ∙ ap (λ (q : KeptMap). set q.sources.layers.items place new) settled.others

          own_source : source_in sources_after n ≡ Some new
          own_source = source_painted m.sources sources_after n place l new refl layers_are at there

          other_source : (q : Name) → bytes_eq q n ≡ false → source_in sources_after q ≡ source_in m.sources q
          other_source q differs = source_unpainted m.sources sources_after n place l new refl layers_are at there q differs

          entries_are : entries_in map_after ≡ entries
          entries_are =
              entries_painted m.extent (source_in m.sources) (source_in sources_after) n (λ q differs. other_source q (bytes_eq-turned n q differs)) m.names.entries kept.lawful.apart (placed_item m n kept (ap is_some at))
              ∙ simp (own_source, new_size ∙ sym is.grid_size, new_cells)

          stamps_are : (q : Name) (k : LayerState) → source_in sources_after q ≡ Some k → k.stamps ≡ stamps_at (seen m) after q
          stamps_are q k its = elim (cases_Bool (bytes_eq q n)) [
            | inl same ↦
                let own : q ≡ n = same_name q n same in
                let layer : new ≡ k = same_Some new k (sym own_source ∙ ap (source_in sources_after) (sym own) ∙ its) in
                rw (own, ← layer) (old_is_stamped (seen m) after n l.cells grid.cells l.stamps new.stamps kept.size (value_before m kept n l def) own_value
                (stamps_found (layer_in m) (names_in m) n l (layer_source m n l found) (ap is_some (source_value (names_in m) n (grid_of l) kept.lawful.groups kept.lawful.apart kept.lawful.none_looped def)))
                (simp (← new_cells, ← size_is) committed.stamps))
            | inr differs ↦
                let before = sym (other_source q differs) ∙ its in
                stamps_stay m kept after refl q k before (value_after q (grid_of k) (find_put_other (entries_in m) n (source grid) q differs ∙ source_def m q kept k before))
          ]

          pub painted_done : IsKept m' × (seen m' ≡ stamped (seen m) after)
          painted_done =
              subst (λ (q : KeptMap). IsKept q × (seen q ≡ stamped (seen m) after)) (sym map_is)
              (committed_prepared m map_after e after shift m.sources.names.keys m.planned.names.keys m.planned.steps.items prepared kept set_up ready
              (record {
                names_are = ap (λ es. record { size = m.extent; entries = es; number = raised m.number 1 }) entries_are;
                procedures = refl;
                labels = refl;
                symbols = refl;
                named = kept.named;
                formed = kept.formed;
                sources_few = sources_few;
                flats_few = flats_few;
                graph_is = kept.graph_is ∙ groups;
                sources = record {
                  stand = λ q. kept.sources.stand q ∙ ap (λ (ns : List Node). is_source_node (find_node ns q)) (sym nodes);
                  apart = kept.sources.apart;
                  count = ap length layers_are ∙ length-set m.sources.layers.items place new ∙ kept.sources.count;
                  whole = subst (All (λ (k : LayerState). (k.size ≡ m.extent) × IsLayer k)) (sym layers_are) (All-set (λ (k : LayerState). (k.size ≡ m.extent) × IsLayer k) m.sources.layers.items place new (new_size, repainted.whole) kept.sources.whole);
                };
                stamped = stamps_are;
                plan_names = settled.statements.plan_names;
                plan_count = settled.statements.rests.0;
                rest = rests_after m e after shift m.sources.names.keys m.planned.names.keys m.planned.steps.items kept ready.under mid.planned.steps.items settled.statements.rests;
                kept_count = settled.statements.kept_count;
                placed = settled.statements.placed;
              }))

          pub paint_accepted : (counts : told.Counts) → counts_view counts ≡ joined (record { changed = length d.patch.tiles; evaluated = d.met; worked = 0 }) (counts_view prepared.counts)
              → accept_counted (seen m) e ≡ Ok (record { state = seen m'; counts = counts_view counts })
          paint_accepted counts sum =
              accepted_is m e after shift m.sources.names.keys kept set_up m.planned.names.keys m.planned.steps.items prepared ready
              ∙ ap (λ (q : Counts). Ok (record { state = stamped (seen m) after; counts = q })) (ap (λ (q : Counts). joined q (counts_view prepared.counts)) own_counts ∙ sym sum)
              ∙ ap (λ (q : WholeState). Ok (record { state = q; counts = counts_view counts })) (sym painted_done.1)

          pub paint_taken_back : (taken : PatchState) → HadTiles mid place d.patch taken → TakesBack (seen m) (seen m') (touch_of e) (inverses.Tiles (record d { patch = taken }))
          paint_taken_back taken had =
              tiles_back m kept e grid d is taken (had l mid_there) (seen m') (ap (λ (q : WholeState). q.names.size) painted_done.1) (ap (λ (q : WholeState). parts_of q) painted_done.1)
