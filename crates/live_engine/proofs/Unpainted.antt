-- When a source is painted, and why not, and what is read for it.
use Rattle.std.proofs.Common.{◌≡◌, ℕ, ◌*◌, true, false, cond, List, length, position, get_or, slice_get, Option, Some, None, is_some, Ok, Err, bytes_eq, IsTrue, refl, sym, ap, subst, ◌∙◌, ℤ, arith}
use Rattle.std.proofs.lemmas.Bool.{true≢false, false≢true}
use Rattle.std.proofs.lemmas.Option.{slice_get_read, slice_get_within}
use Rattle.map_nums.specs.Grids.{Grid}
use Rattle.map_words.specs.Names.{is_plain}
use Rattle.map_defs.specs.Ops.{Name}
use Rattle.map_defs.specs.MadeProcedures.{IsUndotted}
use Rattle.layer_tiles.specs.Changes.{patched_change}
use Rattle.layer_tiles.specs.Layers.{LayerState}
use Rattle.layer_tiles.specs.Patches.{PatchState, patched}
use Rattle.layer_tiles.specs.Tallies.{TallyState, RisesBy}
use Rattle.map_edits.specs.Entries.{Def, source, statement, Entry, find_def, put_entry}
use Rattle.map_edits.specs.EditCounts.{Counts}
use Rattle.map_edits.specs.EditForms.{Rectangle, paint}
use Rattle.map_edits.specs.EntriesAfter.{paint_source}
use Rattle.map_edits.specs.Painting.{is_within, painted}
use Rattle.map_edits.specs.Refusals.{unknown, is_derived, wrong_size}
use Rattle.map_edits.specs.Attempts.{with_names, attempted}
use Rattle.map_edits.specs.Touches.{within}
use Rattle.map_edits.specs.WholeEdits.{of_names}
use Rattle.map_edits.specs.GroupLaws.{IsLawful}
use Rattle.map_edits.proofs.LawfulEdits.{good_of, entries_good}
use Rattle.map_waves.specs.Operands.{IsOperand}
use Rattle.edit_plans.specs.Planned.{is_source_node}
use Rattle.edit_plans.proofs.There.{none_where}
use Rattle.procedure_expand.proofs.Plain.{plain_undotted}
use Rattle.kept_map.specs.Maps.{grid_of, source_in, entries_in, names_in, seen}
use Rattle.kept_map.specs.Keeps.{IsKept}
use Rattle.kept_map.specs.Repairs.{RisesByRest}
use Rattle.kept_map.specs.declared.maps.KeptMap.{KeptMap}
use Rattle.kept_map.proofs.SourceLayers.{layer_at, source_at, source_def}
use Rattle.kept_map.proofs.Given.{source_node}
use Rattle.live_engine.specs.Accepts.{ReadsWithin}
use Rattle.live_engine.specs.Painting.{rectangle_of, met_tiles}
use Rattle.live_engine.specs.Repainting.{IsRepaintOf, repainted_state}
use Rattle.live_engine.specs.declared.painting.Rectangle as declared
use Rattle.live_engine.specs.declared.repainting.Repaint.{Repaint}
use Rattle.live_engine.proofs.Accepting.{reads_tried, reads_more}
use Rattle.live_engine.proofs.PaintedMaps.{layer_size, repaint_counts, own_counts}

module _ (m : KeptMap) (kept : IsKept m) (n : Name) (r : Rectangle) (cell : Option ℤ) where
  painting : (o : Option Def) → find_def (entries_in m) n ≡ o → attempted (seen m) (of_names (paint n r cell)) ≡ with_names (seen m) (paint n r cell) (paint_source (names_in m) n r cell o)
  painting o is = ap (λ q. with_names (seen m) (paint n r cell) (paint_source (names_in m) n r cell q)) is

  pub paint_unknown : is_some (find_def (entries_in m) n) ≡ false → attempted (seen m) (of_names (paint n r cell)) ≡ Err (unknown n)
  paint_unknown none = painting None (none_where (find_def (entries_in m) n) (λ d is. true≢false (sym (ap is_some is) ∙ none)))

  -- what is there and no source is a statement
  pub paint_derived : position (bytes_eq n) m.sources.names.keys ≡ None → (o : Option Def) → find_def (entries_in m) n ≡ o → is_some o ≡ true → attempted (seen m) (of_names (paint n r cell)) ≡ Err (is_derived n)
  paint_derived away None is there = absurd (false≢true there)
  paint_derived away (Some (source grid)) is there = absurd (false≢true (sym (ap is_some away) ∙ kept.sources.stand n ∙ ap is_source_node (source_node (entries_in m) n kept.lawful.groups kept.lawful.apart grid is)))
  paint_derived away (Some (statement written flats)) is there = painting (Some (statement written flats)) is

  pub paint_outside : (l : LayerState) → source_in m.sources n ≡ Some l → is_within m.extent r ≡ false → attempted (seen m) (of_names (paint n r cell)) ≡ Err (wrong_size m.extent)
  paint_outside l there out =
      painting (Some (source (grid_of l))) (source_def m n kept l there)
      ∙ ap (λ b. with_names (seen m) (paint n r cell) (cond b (Ok (put_entry (entries_in m) n (source (painted m.extent r cell (grid_of l))))) (Err (wrong_size m.extent)))) out

-- the layer of a source is read, and the rectangle lies on the map
module _ (m : KeptMap) (kept : IsKept m) (n : Name) (rectangle : declared.Rectangle) (cell : Option ℤ) (formed : IsTrue (is_plain n)) (place : ℕ) (at : position (bytes_eq n) m.sources.names.keys ≡ Some place)
    (l : LayerState) (read : l ≡ get_or m.sources.layers.items place l) (on : is_within m.extent (rectangle_of rectangle) ≡ true) where
  abbrev r : Rectangle
  r = rectangle_of rectangle

  abbrev grid : Grid
  grid = painted m.extent r cell (grid_of l)

  abbrev entries : List Entry
  entries = put_entry (entries_in m) n (source grid)

  plain : IsUndotted n
  plain = plain_undotted n formed

  there : slice_get m.sources.layers.items place ≡ Some l
  there =
      let k = layer_at m.sources n kept.sources.count place at in
      slice_get_read m.sources.layers.items (length m.sources.layers.items) place l refl (slice_get_within m.sources.layers.items place k.0 k.1) read

  sized : l.size ≡ m.extent
  sized = layer_size m kept place l there

  entries_are : paint_source (names_in m) n r cell (find_def (entries_in m) n) ≡ Ok entries
  entries_are = ap (paint_source (names_in m) n r cell) (source_def m n kept l (source_at m.sources n place at ∙ there)) ∙ ap (λ b. cond b (Ok entries) (Err (wrong_size m.extent))) on

  attempt : attempted (seen m) (of_names (paint n r cell)) ≡ Ok (repainted_state (seen m) n grid)
  attempt = ap (with_names (seen m) (paint n r cell)) entries_are

  lawful : IsLawful (repainted_state (seen m) n grid)
  lawful =
      let good = (entries_good m.procedures (names_in m) (paint n r cell) entries kept.lawful.made (good_of (seen m) kept.lawful) plain entries_are).good in
      record { made = kept.lawful.made; groups = good.groups; apart = good.apart; none_looped = good.none_looped }

  -- the looks at its tiles are allowed
  pub paint_reads : (x y : TallyState) → RisesBy (3 * length (met_tiles l.size r)) 0 x y → ReadsWithin (seen m) (of_names (paint n r cell)) x y × RisesBy (3 * length (met_tiles m.extent r)) 0 x y
  paint_reads x y looks =
      let own = subst (λ z. RisesBy (3 * length (met_tiles z r)) 0 x y) sized looks in
      let damage = ap (λ (counts : Counts). counts.evaluated) (repaint_counts m n r grid lawful) in
      (reads_tried (seen m) (repainted_state (seen m) n grid) (of_names (paint n r cell)) kept.lawful plain attempt (3 * length (met_tiles m.extent r)) x y (omega (arith, damage)) own, own)

  pub paint_draft : (patch : PatchState) (met : ℕ) → patch.size ≡ l.size → patched l.size l.cells patch.tiles ≡ (painted l.size r cell (grid_of l)).cells → IsOperand l.size (patched_change l patch) → met ≡ length (met_tiles l.size r)
      → IsRepaintOf m (of_names (paint n r cell)) grid (record { name = n; rectangle = rectangle; patch = patch; met = met })
  paint_draft patch met size cells operand counted = record {
    plain = plain;
    said = plain;
    touch = refl;
    attempt = attempt;
    lawful = lawful;
    place = place;
    layer = l;
    placed = at;
    there = there;
    grid_size = refl;
    size = size;
    cells = cells ∙ ap (λ z. (painted z r cell (grid_of l)).cells) sized;
    operand = operand;
    met = counted ∙ ap (λ z. length (met_tiles z r)) sized;
  }

-- ---- what a paint that is drafted reads

pub paint_reads_all : (m : KeptMap) → IsKept m → (n : Name) (r : Rectangle) (cell : Option ℤ) (grid : Grid) (d : Repaint) → IsRepaintOf m (of_names (paint n r cell)) grid d → (x y z : TallyState) → RisesBy (3 * length (met_tiles m.extent r)) 0 x y
    → RisesByRest m (of_names (paint n r cell)) (repainted_state (seen m) d.name grid) y z → ReadsWithin (seen m) (of_names (paint n r cell)) x z
paint_reads_all m kept n r cell grid d is x y z looks rest =
    let damage = ap (λ (counts : Counts). counts.evaluated) (own_counts kept is is.placed) in
    let touch : within n r ≡ within d.name (rectangle_of d.rectangle) = is.touch in
    let same : rectangle_of d.rectangle ≡ r = cc in
    let met = is.met ∙ ap (λ q. length (met_tiles m.extent q)) same in
    reads_more m (of_names (paint n r cell)) (repainted_state (seen m) d.name grid) (3 * length (met_tiles m.extent r)) x y z (omega (arith, damage, met)) looks rest
