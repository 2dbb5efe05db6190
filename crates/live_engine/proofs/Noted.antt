-- An edit that changes what is noted beside the names: the state that it makes, and the map after it, whose layers are all as they were.
use Rattle.std.proofs.Common.{◌≡◌, ℕ, ◌+◌, ◌-◌, ◌≤◌, Bool, true, List, [], ◌∷◌, ◌++◌, filter, map, take, length, get_or, sum_by, position, Option, Some, None, is_some, option_map, unwrap_or, bytes_eq, Ok, refl, sym, ap, subst, ◌∙◌, arith}
use Rattle.std.specs.List.{All}
use Rattle.std.proofs.lemmas.Bool.{false≢true, le-ltb}
use Rattle.std.proofs.Math.Seq.{take-append_seam}
use Rattle.std.proofs.lemmas.List.{length-append}
use Rattle.std.proofs.lemmas.List.Elements.{All-push, All-take, filter_passes}
use Rattle.std.proofs.lemmas.List.Sums.{sum_by-le}
use Rattle.map_nums.specs.Counts.{raised}
use Rattle.map_nums.specs.Grids.{Grid, Cells}
use Rattle.map_defs.specs.Ops.{Name, Op}
use Rattle.map_defs.specs.Statements.{Procedure}
use Rattle.map_defs.proofs.Unchanged.{changed_none}
use Rattle.map_defs.specs.Differences.{changed_tiles}
use Rattle.layer_tiles.specs.Layers.{LayerState, IsLayer}
use Rattle.layer_tiles.specs.Tiles.{tiles_in}
use Rattle.statement_parser.specs.Formed.{IsProcedure}
use Rattle.statement_parser.specs.Procedures.{procedure_view}
use Rattle.statement_parser.specs.Views.{op_view}
use Rattle.op_jobs.specs.Beside.{suits}
use Rattle.op_jobs.proofs.Agreeing.{map_agree}
use Rattle.map_edits.specs.Refusals.{procedures, labels, symbols}
use Rattle.map_edits.specs.Marks.{put_mark}
use Rattle.map_edits.specs.LayerDefs.{Making, given_grid, by_op, LayerDef, layers}
use Rattle.map_edits.specs.EngineStates.{EngineState, term_cells, value_of}
use Rattle.map_edits.specs.LayerChanges.{changed_of, damage_of, work_of, operands_in, now_of}
use Rattle.map_edits.specs.CountLaws.{CountsNothing}
use Rattle.map_edits.specs.Edits.{with_entries}
use Rattle.map_edits.specs.WholeStates.{WholeState, Stamps, cells_of}
use Rattle.map_edits.specs.WholeEdits.{WholeEdit, put_back}
use Rattle.map_edits.specs.Pasts.{Parts, parts_of}
use Rattle.map_edits.specs.Attempts.{counted, attempted}
use Rattle.map_edits.specs.Touches.{touch_of, nothing}
use Rattle.map_edits.specs.Touching.{ChangesOnly}
use Rattle.map_edits.specs.GroupLaws.{IsSaid}
use Rattle.map_edits.specs.Counted.{Accepted, of_attempt, unless_fault, fault_after, accept_counted}
use Rattle.map_edits.specs.EditCounts.{counts_of}
use Rattle.map_edits.specs.StampsAfter.{stamps_at, stamped}
use Rattle.map_edits.proofs.LawfulEdits.{lawful_stays}
use Rattle.map_edits.proofs.LawfulFaults.{said_puts_back, no_fault_stays}
use Rattle.map_edits.proofs.Unchanged.{counts_nothing}
use Rattle.edit_plans.specs.SourceCounts.{no_counts}
use Rattle.edit_plans.proofs.Forming.{step_at}
use Rattle.edit_plans.proofs.Positions.{position_at}
use Rattle.edit_plans.proofs.Restamped.{old_is_stamped}
use Rattle.kept_map.specs.Maps.{at_place, layer_in, entries_in, names_in, seen}
use Rattle.kept_map.specs.Keeps.{IsKept, AreKeptSteps}
use Rattle.kept_map.specs.Repairs.{counts_view}
use Rattle.kept_map.specs.declared.maps.KeptMap.{KeptMap}
use Rattle.kept_map.proofs.LayersByName.{layer_kept, layer_source, IsTold, source_told, statement_told, nothing_told}
use Rattle.kept_map.proofs.SourceLayers.{layer_at, source_at, source_none, source_whole}
use Rattle.live_engine.specs.Accepts.{Accepts}
use Rattle.live_engine.specs.Inverses.{past_of, AreReached, Fits, TakesBack}
use Rattle.live_engine.specs.Notes.{with_beside, edit_of_note, procedures_with, labels_with, symbols_with, MayNote, IsNoteBack, procedures_without, without_note, SuitsNote}
use Rattle.live_engine.specs.declared.edits.Accepted.{Accepted as Told}
use Rattle.live_engine.specs.declared.noting.NoteBack.{NoteBack}
use Rattle.live_engine.specs.declared.noting.NoteBack.TheVariants as backs
use Rattle.live_engine.specs.declared.inverses.Inverse.TheVariants as inverses
use Rattle.live_engine.specs.declared.noting.Note.{Note}
use Rattle.live_engine.specs.declared.noting.Note.TheVariants as notes
use Rattle.live_engine.proofs.Bodies.{body_made}
use Rattle.live_engine.proofs.Backs.{kept_reached, reached_said}

-- ---- the map after it

-- other procedures, labels and symbols, and one more edit is counted
abbrev pub beside : WholeState → Parts → WholeState
beside s p = record (counted s) { procedures = p.procedures; labels = p.labels; symbols = p.symbols }

-- an edit that makes this state, and touches no layer
pub record IsBeside (m : KeptMap) (e : WholeEdit) (p : Parts) : Type 0 where
  pub attempt : attempted (seen m) e ≡ Ok (beside (seen m) p)
  pub touches : touch_of e ≡ nothing
  pub faultless : fault_after e (beside (seen m) p) ≡ None
  pub said : IsSaid (seen m) e
  pub formed : All IsProcedure p.procedures

module _ (m : KeptMap) (e : WholeEdit) (p : Parts) (kept : IsKept m) (is : IsBeside m e p) where
  abbrev after : WholeState
  after = beside (seen m) p

  abbrev pub noted : KeptMap
  noted = record (with_beside m p) { number = raised m.number 1 }

  -- no value depends on the number of edits
  same_values : value_of after.names ≡ value_of (names_in m)
  unfolding value_of
  same_values = refl

  same_cells : (n : Name) → cells_of after.names n ≡ cells_of (names_in m) n
  same_cells n = ap (λ (v : Name → Option Grid). option_map (λ (g : Grid). g.cells) (v n)) same_values

  same_operands : (op : Op) → operands_in (names_in m) op ≡ operands_in after.names op
  same_operands op = sym (ap (λ (v : Name → Option Grid). map (λ u. unwrap_or (term_cells m.extent v u) []) op.terms) same_values)

  -- ---- stamps

  -- the layer of a name
  abbrev LayerOf : Name → Type 0
  LayerOf n = (l : LayerState) × (layer_in m n ≡ Some l) × IsTold m kept n l × IsLayer l

  layer_of : (n : Name) → is_some (value_of (names_in m) n) ≡ true → LayerOf n
  layer_of n defined = of_source (position (bytes_eq n) m.sources.names.keys) refl
    where
      of_statement : position (bytes_eq n) m.sources.names.keys ≡ None → (o : Option ℕ) → position (bytes_eq n) m.planned.names.keys ≡ o → LayerOf n
      of_statement absent None unplanned = absurd (false≢true (sym (ap is_some (nothing_told m kept n absent unplanned)) ∙ defined))
      of_statement absent (Some k) at =
          let named = position_at n m.planned.names.keys k at in
          let count = kept.statements.planned_are.count in
          let step = step_at m.planned.names.keys m.planned.steps.items count k n named in
          let own = step_at m.planned.names.keys m.kept.items (kept.statements.count ∙ count) k n named in
          let there = ap (λ (o : Option ℕ). at_place m.kept.items o) at ∙ own.1 in
          (own.0.layer, layer_kept m n own.0 (source_none m.sources n absent) there, statement_told m kept n k own.0 absent at own.1, (kept.statements.each k n step.0 own.0 named step.1 own.1).whole)

      of_source : (o : Option ℕ) → position (bytes_eq n) m.sources.names.keys ≡ o → LayerOf n
      of_source None absent = of_statement absent (position (bytes_eq n) m.planned.names.keys) refl
      of_source (Some i) at =
          let l = layer_at m.sources n kept.sources.count i at in
          let there = source_at m.sources n i at ∙ l.1 in
          (l.0, layer_source m n l.0 there, source_told m kept n i l.0 at l.1, (source_whole m.sources n (names_in m) l.0 kept.sources there).1)

  layer_stamps : (n : Name) → is_some (value_of (names_in m) n) ≡ true → unwrap_or (option_map (λ (k : LayerState). k.stamps) (layer_in m n)) [] ≡ stamps_at (seen m) after n
  layer_stamps n defined =
      let r = layer_of n defined in
      let l = r.0 in
      let cells = ap (option_map (λ (g : Grid). g.cells)) r.2.0 in
      ap (λ (o : Option LayerState). unwrap_or (option_map (λ (k : LayerState). k.stamps) o) []) r.1
      ∙ old_is_stamped (seen m) after n l.cells l.cells l.stamps l.stamps kept.size cells (same_cells n ∙ cells) r.2.1
      (record { count = r.3.stamps ∙ ap tiles_in r.2.2; same = λ k within e. refl; changed = λ k within differs. absurd (differs refl) })

  -- the layers that are defined, as they were before
  abbrev is_defined : LayerDef → Bool
  is_defined l = is_some (value_of after.names l.name)

  abbrev ls : List LayerDef
  ls = filter is_defined (layers (entries_in m))

  each_defined : (P : LayerDef → Type 0) → ((l : LayerDef) → is_some (value_of (names_in m) l.name) ≡ true → P l) → All P ls
  each_defined P holds k d within =
      let l : LayerDef = get_or ls k d in
      holds l (ap (λ (v : Name → Option Grid). is_some (v l.name)) (sym same_values) ∙ filter_passes is_defined (layers (entries_in m)) k d within)

  abbrev stamps_before : LayerDef → Stamps
  stamps_before l = record { name = l.name; stamps = unwrap_or (option_map (λ (k : LayerState). k.stamps) (layer_in m l.name)) [] }

  abbrev stamps_after : LayerDef → Stamps
  stamps_after l = record { name = l.name; stamps = stamps_at (seen m) after l.name }

  seen_noted : seen noted ≡ stamped (seen m) after
  seen_noted =
      ap (λ (ks : List Stamps). record after { stamps = ks })
      (map_agree stamps_before stamps_after ls (each_defined (λ l. stamps_before l ≡ stamps_after l) (λ l defined. ap (λ (ks : List ℕ). record { name = l.name; stamps = ks }) (layer_stamps l.name defined))))

  -- ---- counts

  nothing_counted : (l : LayerDef) → is_some (value_of (names_in m) l.name) ≡ true → CountsNothing nothing (names_in m) after.names l
  nothing_counted l defined = let r = layer_of l.name defined in let cells = ap (option_map (λ (g : Grid). g.cells)) r.2.0 in by_making l.name r.0.cells cells (same_cells l.name ∙ cells) l.making
    where
      by_making : (n : Name) (w : Cells) → cells_of (names_in m) n ≡ Some w → cells_of after.names n ≡ Some w → (making : Making) → CountsNothing nothing (names_in m) after.names (record { name = n; making = making })
      by_making n w was now (by_op op) = counts_nothing nothing (names_in m) after.names n op w refl (same_operands op) was now
      by_making n w was now (given_grid grid) = record {
        changed = ap (λ o. changed_tiles m.extent o (now_of after.names n)) was ∙ ap (λ (o : Option Cells). changed_tiles m.extent (Some w) (unwrap_or o [])) now ∙ changed_none m.extent [] w;
        damage = refl;
        work = refl;
      }

  none : (f : LayerDef → ℕ) → ((l : LayerDef) → CountsNothing nothing (names_in m) after.names l → f l ≡ 0) → sum_by f ls ≡ 0
  none f zeros = let most = sum_by-le f 0 ls (each_defined (λ l. f l ≤ 0) (λ l defined. let z = zeros l (nothing_counted l defined) in omega (arith, z))) in omega (arith, most)

  counts_are : counts_of nothing (names_in m) after.names ≡ no_counts
  counts_are =
      let changed = none (λ l. length (changed_of (names_in m) after.names l.name)) (λ l c. ap length c.changed) in
      let damage = none (λ l. length (damage_of nothing (names_in m) after.names l)) (λ l c. ap length c.damage) in
      let work = none (λ l. work_of nothing (names_in m) after.names l) (λ l c. c.work) in
      rw (changed, damage, work) refl

  -- ---- the map

  note_accepted : accept_counted (seen m) e ≡ Ok (record { state = seen noted; counts = no_counts })
  unfolding accept_counted
  note_accepted =
      ap (of_attempt (seen m) e) is.attempt
      ∙ ap (unless_fault (touch_of e) (seen m) after) is.faultless
      ∙ ap (λ u. Ok (record { state = stamped (seen m) after; counts = counts_of u (names_in m) after.names })) is.touches
      ∙ ap (λ c. Ok (record { state = stamped (seen m) after; counts = c })) counts_are
      ∙ ap (λ s. Ok (record { state = s; counts = no_counts })) (sym seen_noted)

  steps_stay : AreKeptSteps (names_in noted) m.sources.names.keys m.planned m.kept.items
  steps_stay = record {
    planned_are = kept.statements.planned_are;
    count = kept.statements.count;
    each = λ k n x own at here now.
        let step = kept.statements.each k n x own at here now in
        record {
          making = step.making;
          ranges = step.ranges;
          written = step.written;
          value = same_cells n ∙ step.value;
          size = step.size;
          whole = step.whole;
          beside = subst (λ (os : List Cells). suits m.extent (op_view x.op) os own.beside) (same_operands (op_view x.op)) step.beside;
        };
  }

  noted_kept : IsKept noted
  noted_kept =
      let a : Accepted = record { state = seen noted; counts = no_counts } in
      record {
        size = kept.size;
        named = kept.named;
        formed = is.formed;
        lawful = lawful_stays (seen m) e a kept.lawful is.said note_accepted;
        sources_few = kept.sources_few;
        flats_few = kept.flats_few;
        graph_is = kept.graph_is;
        faultless = no_fault_stays (seen m) e a kept.lawful kept.faultless (said_puts_back (seen m) e is.said) note_accepted;
        sources = record { stand = kept.sources.stand; apart = kept.sources.apart; count = kept.sources.count; whole = kept.sources.whole };
        statements = steps_stay;
      }

  -- once it is noted and counted
  module _ (put new : KeptMap) (put_is : put ≡ with_beside m p) (new_is : new ≡ record put { number = raised put.number 1 }) where
    pub is_noted : new ≡ noted
    is_noted = new_is ∙ ap (λ (x : KeptMap). record x { number = raised x.number 1 }) put_is

    pub count_kept : IsKept new
    count_kept = subst IsKept (sym is_noted) noted_kept

    pub count_accepted : (a : Told) → a.number ≡ new.number → counts_view a.counts ≡ no_counts → Accepts (seen m) (seen new) e (Ok a)
    count_accepted a number counts = (note_accepted ∙ ap (λ (x : KeptMap). Ok (record { state = seen x; counts = no_counts })) (sym is_noted) ∙ ap (λ c. Ok (record { state = seen new; counts = c })) (sym counts), number)

-- ---- a note

abbrev pub parts_with : WholeState → Note → Parts
parts_with s note = record { entries = s.names.entries; procedures = procedures_with s.procedures note; labels = labels_with s.labels note; symbols = symbols_with s.symbols note }

pub note_beside : (m : KeptMap) (note : Note) → IsKept m → MayNote (seen m) note → IsBeside m (edit_of_note note) (parts_with (seen m) note)
note_beside m (notes.Procedure p) kept may = record {
  attempt = rw (may.new, may.right, le-ltb 32 (length m.procedures + 1) may.few) refl;
  touches = refl;
  faultless = refl;
  said = body_made (procedure_view p) may.formed;
  formed = All-push IsProcedure m.procedures (procedure_view p) kept.formed may.formed;
}
note_beside m (notes.Label n z text) kept may = record { attempt = rw (may.0, le-ltb 4096 (length (put_mark m.labels n z text)) may.1) refl; touches = refl; faultless = refl; said = tt; formed = kept.formed }
note_beside m (notes.Symbol n z sign) kept may = record { attempt = rw (may.0, le-ltb 4096 (length (put_mark m.symbols n z (sign ∷ []))) may.1) refl; touches = refl; faultless = refl; said = tt; formed = kept.formed }

-- what it took the place of leads back
record LeadsBack (m : KeptMap) (note : Note) (back : NoteBack) : Type 0 where
  suits : SuitsNote (parts_with (seen m) note) back
  parts : without_note back (parts_with (seen m) note) ≡ parts_of (seen m)
  touch_is : nothing ≡ touch_of (edit_of_note note)

without_last : (ps : List Procedure) (p : Procedure) → take (length (ps ++ p ∷ []) - 1) (ps ++ p ∷ []) ≡ ps
without_last ps p = let count : length (ps ++ p ∷ []) - 1 ≡ length ps = omega (arith, length-append ps (p ∷ [])) in ap (λ n. take n (ps ++ p ∷ [])) count ∙ take-append_seam ps (p ∷ [])

leads_back : (m : KeptMap) (note : Note) (back : NoteBack) → IsNoteBack m note back → LeadsBack m note back
leads_back m (notes.Procedure p) backs.Procedure is = record {
  suits = omega (arith, length-append m.procedures (procedure_view p ∷ []));
  parts = ap (λ ps. record (parts_of (seen m)) { procedures = ps }) (without_last m.procedures (procedure_view p));
  touch_is = refl;
}
leads_back m (notes.Label n z text) (backs.Label taken) is = record { suits = omega arith; parts = ap (λ marks. record (parts_of (seen m)) { labels = marks }) is; touch_is = refl }
leads_back m (notes.Symbol n z sign) (backs.Symbol taken) is = record { suits = omega arith; parts = ap (λ marks. record (parts_of (seen m)) { symbols = marks }) is; touch_is = refl }
leads_back m note back is = absurd is

pub note_back : (m : KeptMap) (note : Note) (back : NoteBack) (number : ℕ) → IsKept m → IsNoteBack m note back
    → TakesBack (seen m) (seen (record (with_beside m (parts_with (seen m) note)) { number = number })) (touch_of (edit_of_note note)) (inverses.Note back)
note_back m note back number kept is =
    let r = leads_back m note back is in
    record { size = refl; fits = record { suits = r.suits; reached = subst (AreReached m.extent) (sym r.parts) (kept_reached m kept) }; parts = r.parts; touch_is = r.touch_is }

-- ---- a note is taken back

untouched : (s : EngineState) → ChangesOnly nothing s (with_entries s s.entries)
untouched s = record { size = refl; statements = λ n op away made. made; sources = λ n grid away made. made }

formed_without : (back : NoteBack) (ps : List Procedure) → All IsProcedure ps → All IsProcedure (procedures_without back ps)
formed_without backs.Procedure ps formed = All-take IsProcedure (length ps - 1) ps formed
formed_without back ps formed = formed

pub back_beside : (m : KeptMap) (back : NoteBack) → IsKept m → Fits m.extent (parts_of (seen m)) (inverses.Note back)
    → IsBeside m (put_back (past_of (inverses.Note back) (parts_of (seen m)))) (without_note back (parts_of (seen m)))
back_beside m back kept fits = record {
  attempt = refl;
  touches = refl;
  faultless = refl;
  said = reached_said (seen m) (past_of (inverses.Note back) (parts_of (seen m))) fits.reached (untouched (names_in m));
  formed = formed_without back m.procedures kept.formed;
}
