-- What takes a repaint back: the tiles that the source had, and when they can be put in place.
use Rattle.std.proofs.Common.{◌≡◌, inl, inr, ℕ, ◌==◌, not, List, [], ◌∷◌, length, position, Option, Some, None, option_map, slice_get, bytes_eq, Ok, refl, sym, ap, subst, ◌∙◌, ℤ}
use Rattle.std.specs.List.{list_any}
use Rattle.std.proofs.lemmas.Bool.{cases_Bool, eqb-true}
use Rattle.std.proofs.lemmas.Bool.Decides.{same_from_decides, Decides-int_eq}
use Rattle.std.proofs.lemmas.List.Elements.{filter_agree}
use Rattle.std.proofs.lemmas.Option.{none-some, same_Some}
use Rattle.map_nums.specs.Grids.{Size, IsSize, Grid, Cells, cell_at, cells_in, places}
use Rattle.map_nums.specs.Tiles.{tiles, tile_of}
use Rattle.map_defs.specs.Cells.{same_cell}
use Rattle.map_defs.specs.Differences.{differs, tile_has, changed_tiles}
use Rattle.layer_tiles.specs.Changes.{ChangeState}
use Rattle.layer_tiles.specs.Exchanges.{tiles_at}
use Rattle.layer_tiles.specs.Layers.{LayerState, IsLayer}
use Rattle.layer_tiles.specs.Patches.{PatchState, patch_get, patched, numbers_of}
use Rattle.layer_tiles.specs.Tiles.{Block, tile_block}
use Rattle.layer_tiles.proofs.Patching.{tile_kept}
use Rattle.layer_tiles.proofs.Whole.{patched_to}
use Rattle.map_edits.specs.Edits.{with_entries}
use Rattle.map_edits.specs.Entries.{source, find_def, put_entry}
use Rattle.map_edits.specs.GroupLaws.{IsLawful}
use Rattle.map_edits.specs.Pasts.{Parts, Past, parts_of, with_parts}
use Rattle.map_edits.specs.Touches.{touch_of}
use Rattle.map_edits.specs.Touching.{ChangesOnly}
use Rattle.map_edits.specs.WholeEdits.{WholeEdit, put_back}
use Rattle.map_edits.specs.WholeStates.{WholeState}
use Rattle.map_edits.proofs.GroupsKept.{put_makings}
use Rattle.map_edits.proofs.LawfulEdits.{IsGoodChange, good_of}
use Rattle.map_edits.proofs.PutBack.{put_put, put_same}
use Rattle.map_edits.proofs.Puts.{find_put}
use Rattle.map_waves.specs.Operands.{IsOperand}
use Rattle.edit_plans.specs.Planned.{is_source_node}
use Rattle.edit_plans.proofs.TouchedAlone.{part_touched}
use Rattle.kept_map.specs.Maps.{grid_of, source_in, entries_in, names_in, seen}
use Rattle.kept_map.specs.Keeps.{IsKept}
use Rattle.kept_map.specs.declared.maps.KeptMap.{KeptMap}
use Rattle.edit_plans.proofs.There.{map_none}
use Rattle.kept_map.proofs.SourceLayers.{source_at, source_whole, placed_item, item_source, source_def}
use Rattle.kept_map.proofs.Given.{source_node}
use Rattle.live_engine.specs.Inverses.{with_tiles, repainted, back, past_of, SuitsTiles, Fits, TakesBack}
use Rattle.live_engine.specs.Painting.{rectangle_of}
use Rattle.live_engine.specs.Repainting.{repainted_state, IsRepaintOf}
use Rattle.live_engine.specs.declared.inverses.Inverse.TheVariants as inverses
use Rattle.live_engine.specs.declared.repainting.Repaint.{Repaint}
use Rattle.live_engine.proofs.Backs.{reached_lawful, reached_said, takes_back}

-- ---- tiles that differ do so both ways

same_cell_turned : (c d : Option ℤ) → same_cell c d ≡ same_cell d c
same_cell_turned None None = refl
same_cell_turned None (Some w) = refl
same_cell_turned (Some z) None = refl
same_cell_turned (Some z) (Some w) = same_from_decides _ _ (Decides-int_eq w z) (let turned = Decides-int_eq z w in (λ e. sym (turned.0 e), λ e. turned.1 (sym e)))

changed_turned : (s : Size) (before after : Cells) → changed_tiles s (Some before) after ≡ changed_tiles s (Some after) before
unfolding changed_tiles
changed_turned s before after =
    filter_agree (tile_has s (differs before after)) (tile_has s (differs after before))
    (λ t. ap (λ ks. list_any (λ k. tile_of s k == t) ks) (filter_agree (differs before after) (differs after before) (λ k. ap not (same_cell_turned (cell_at before k) (cell_at after k))) (places s)))
    (tiles s)

-- ---- a patch and the tiles that it took the place of

had_tile : (s : Size) (cells : Cells) (held : List (ℕ × Block)) (t : ℕ) → patch_get (tiles_at s cells held) t ≡ option_map (λ (b : Block). tile_block s cells t) (patch_get held t)
had_tile s cells [] t = refl
had_tile s cells (x ∷ held) t = elim (cases_Bool (x.0 == t)) [
  | inl same ↦ rw same (ap (λ u. Some (tile_block s cells u)) (eqb-true x.0 t same))
  | inr other ↦ rw other (had_tile s cells held t)
]

numbers_stay : (s : Size) (cells : Cells) (held : List (ℕ × Block)) → numbers_of (tiles_at s cells held) ≡ numbers_of held
numbers_stay s cells [] = refl
numbers_stay s cells (x ∷ held) = ap (λ ks. x.0 ∷ ks) (numbers_stay s cells held)

-- a grid with these tiles in place of its own
abbrev change_by : Size → Cells → List (ℕ × Block) → ChangeState
change_by s cells held = record { size = s; before = Some cells; cells = patched s cells held; touched = numbers_of held }

module _ (s : Size) (cells : Cells) (held : List (ℕ × Block)) (size : IsSize s) (count : length cells ≡ cells_in s) where
  abbrev own : List (ℕ × Block)
  own = tiles_at s cells held

  abbrev new : Cells
  new = patched s cells held

  of_grid : (t : ℕ) (b : Block) → (o : Option Block) → option_map (λ (c : Block). tile_block s cells t) o ≡ Some b → b ≡ tile_block s cells t
  of_grid t b None e = absurd (none-some b e)
  of_grid t b (Some c) e = sym (same_Some (tile_block s cells t) b e)

  own_back : patched s new own ≡ cells
  own_back =
      patched_to s new cells own size count
      (λ t b e. of_grid t b (patch_get held t) (sym (had_tile s cells held t) ∙ e))
      (λ t within none. tile_kept s cells held t size within (map_none (λ (c : Block). tile_block s cells t) (patch_get held t) (sym (had_tile s cells held t) ∙ none)))

  -- they are just those that differ again
  own_operand : IsOperand s (change_by s cells held) → IsOperand s (change_by s new own)
  own_operand is =
      let numbers = numbers_stay s cells held in
      record {
        size = refl;
        exact = λ was e. numbers ∙ is.exact cells refl ∙ changed_turned s cells new ∙ ap (λ xs. changed_tiles s (Some new) xs) (sym own_back) ∙ ap (λ xs. changed_tiles s (Some xs) (patched s new own)) (same_Some new was e);
        same = λ was e none. own_back ∙ sym (is.same cells refl (sym numbers ∙ none)) ∙ same_Some new was e;
      }

-- ---- the tiles that a repainted source had

module _ (m : KeptMap) (keeps : IsKept m) (e : WholeEdit) (grid : Grid) (d : Repaint) (is : IsRepaintOf m e grid d) (taken : PatchState)
    (taken_is : taken ≡ record { size = d.patch.size; tiles = tiles_at is.layer.size is.layer.cells d.patch.tiles }) where
  abbrev l : LayerState
  l = is.layer

  abbrev before : Repaint
  before = record d { patch = taken }

  abbrev after : Parts
  after = parts_of (repainted_state (seen m) d.name grid)

  found : source_in m.sources d.name ≡ Some l
  found = source_at m.sources d.name is.place is.placed ∙ is.there

  whole : (l.size ≡ m.extent) × IsLayer l
  whole = source_whole m.sources d.name (names_in m) l keeps.sources found

  -- the source has its own grid again
  source_back : source (with_tiles grid taken) ≡ source (grid_of l)
  source_back = simp (is.grid_size ∙ sym whole.0, ← is.cells, taken_is, own_back l.size l.cells d.patch.tiles whole.1.size whole.1.cells)

  entries_back : repainted after.entries d.name taken (find_def after.entries d.name) ≡ entries_in m
  entries_back =
      simp (find_put (entries_in m) d.name (source grid), source_back, put_put (entries_in m) d.name (source grid) (source (grid_of l)))
      (put_same (entries_in m) d.name (source (grid_of l)) (source_def m d.name keeps l found))

  -- they take the repaint back, from a state with its parts
  pub tiles_back : (t : WholeState) → t.names.size ≡ m.extent → parts_of t ≡ after → TakesBack (seen m) t (touch_of e) (inverses.Tiles before)
  tiles_back t size parts =
      let suits : SuitsTiles m.extent after before = record {
        plain = is.plain;
        grid = grid;
        there = find_put (entries_in m) d.name (source grid);
        sized = is.grid_size;
        patch_sized = ap (λ (p : PatchState). p.size) taken_is ∙ is.size ∙ whole.0;
        operand = simp (← whole.0, ← is.cells, taken_is) (own_operand l.size l.cells d.patch.tiles whole.1.size whole.1.cells is.operand);
        met = is.met;
      } in
      takes_back m keeps t after (touch_of e) (inverses.Tiles before) size parts suits (ap (λ es. record (parts_of (seen m)) { entries = es }) entries_back) (sym is.touch)

-- ---- a repaint is taken back

module _ (m : KeptMap) (keeps : IsKept m) (d : Repaint) (fits : Fits m.extent (parts_of (seen m)) (inverses.Tiles d)) where
  abbrev suits : SuitsTiles m.extent (parts_of (seen m)) d
  suits = fits.suits

  abbrev past : Past
  past = past_of (inverses.Tiles d) (parts_of (seen m))

  abbrev now : Grid
  now = with_tiles suits.grid d.patch

  abbrev made : WholeState
  made = repainted_state (seen m) d.name now

  entries_are : past.parts.entries ≡ put_entry (entries_in m) d.name (source now)
  entries_are = ap (repainted (entries_in m) d.name d.patch) suits.there

  state_is : with_parts (seen m) past.parts ≡ made
  state_is = ap (λ es. record (seen m) { names = with_entries (names_in m) es }) entries_are

  lawful : IsLawful made
  lawful = subst IsLawful state_is (reached_lawful (seen m) past.parts fits.reached)

  only : ChangesOnly past.touch (names_in m) (with_entries (names_in m) past.parts.entries)
  only =
      let change : IsGoodChange (entries_in m) d.name made.names.entries =
      record { good = good_of made lawful; makings = put_makings (entries_in m) d.name (source now) keeps.lawful.groups keeps.lawful.apart suits.plain tt } in
      rw entries_are (part_touched (names_in m) made.names d.name (rectangle_of d.rectangle) now refl change (find_put (entries_in m) d.name (source now)))

  there : (i : ℕ) × (l : LayerState) × (position (bytes_eq d.name) m.sources.names.keys ≡ Some i) × (slice_get m.sources.layers.items i ≡ Some l)
  there =
      item_source m d.name keeps
      (placed_item m d.name keeps (keeps.sources.stand d.name ∙ ap is_source_node (source_node (entries_in m) d.name keeps.lawful.groups keeps.lawful.apart suits.grid suits.there)))

  abbrev layer : LayerState
  layer = there.1

  own_grid : suits.grid ≡ grid_of layer
  own_grid = let both : Some (source suits.grid) ≡ Some (source (grid_of layer)) = sym suits.there ∙ source_def m d.name keeps layer (source_at m.sources d.name there.0 there.2 ∙ there.3) in cc

  pub back_repaint : (grid : Grid) × IsRepaintOf m (put_back past) grid d
  back_repaint = (
    now,
    record {
      plain = suits.plain;
      said = reached_said (seen m) past fits.reached only;
      touch = refl;
      attempt = ap (λ (t : WholeState). Ok t) state_is;
      lawful = lawful;
      place = there.0;
      layer = layer;
      placed = there.2;
      there = there.3;
      grid_size = suits.sized;
      size = suits.patch_sized ∙ sym suits.sized ∙ ap (λ (g : Grid). g.size) own_grid;
      cells = ap (λ (g : Grid). patched g.size g.cells d.patch.tiles) (sym own_grid);
      operand = subst (λ (g : Grid). IsOperand g.size (change_by g.size g.cells d.patch.tiles)) own_grid (rw suits.sized suits.operand);
      met = suits.met;
    },
  )
