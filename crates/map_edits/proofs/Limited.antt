-- Every accepted edit keeps the limits.
use Rattle.std.proofs.Common.{◌≡◌, ℕ, ◌≤◌, ◌<◌, cond, List, [], ◌∷◌, count_by, sum_by, Some, ◌⊎◌, inl, inr, sym, ap, subst, arith}
use Rattle.map_nums.specs.Grids.{Grid}
use Rattle.map_defs.specs.Ops.{Name}
use Rattle.map_defs.specs.Statements.{Procedure}
use Rattle.map_edits.specs.Entries.{source, statement, Entry, find_def, put_entry, drop_entry}
use Rattle.map_edits.specs.LayerDefs.{LayerDef, layers_of, layers}
use Rattle.map_edits.specs.Limits.{most_sources, is_source, Kind, kinds, is_of, AreWithin}
use Rattle.map_edits.specs.EditForms.{edited}
use Rattle.map_edits.specs.WholeStates.{WholeState}
use Rattle.map_edits.specs.WholeEdits.{WholeEdit}
use Rattle.map_edits.specs.GroupLaws.{IsPlainEdit}
use Rattle.map_edits.specs.LimitLaws.{AreFew, PutsBackFew, FewStay}
use Rattle.map_edits.proofs.Puts.{counted_at, sum_put, sum_drop, sum_flat_map}
use Rattle.map_edits.proofs.Accepted.{IsMade, edited_is}
use Rattle.map_edits.proofs.LawfulEdits.{IsTried, tried, done_is}

-- ---- counts

abbrev one_source : Entry → ℕ
one_source e = cond (is_source e) 1 0

module _ (kind : Kind) where
  abbrev one_layer : LayerDef → ℕ
  one_layer l = cond (is_of kind l) 1 0

  -- a source has no flat statement
  layers_put : (es : List Entry) (n : Name) (grid : Grid) → count_by (is_of kind) (layers (put_entry es n (source grid))) ≤ count_by (is_of kind) (layers es)
  layers_put es n grid =
      let put = sum_put (λ e. sum_by one_layer (layers_of e)) es n (source grid) in
      let now = sum_flat_map one_layer layers_of (put_entry es n (source grid)) in let before = sum_flat_map one_layer layers_of es in
      omega arith

  layers_dropped : (es : List Entry) (n : Name) → count_by (is_of kind) (layers (drop_entry es n)) ≤ count_by (is_of kind) (layers es)
  layers_dropped es n =
      let left = sum_drop (λ e. sum_by one_layer (layers_of e)) es n in
      let now = sum_flat_map one_layer layers_of (drop_entry es n) in let before = sum_flat_map one_layer layers_of es in
      omega arith

-- fewer layers are within the limits
fewer_within : (ks : List Kind) (new old : List LayerDef) → ((kind : Kind) → count_by (is_of kind) new ≤ count_by (is_of kind) old) → AreWithin ks old → AreWithin ks new
fewer_within [] new old less within = tt
fewer_within (kind ∷ ks) new old less within = let fewer = less kind in let few = within.0 in (omega arith, fewer_within ks new old less within.1)

-- ---- the names after an edit

pub record FewNames (es : List Entry) : Type 0 where
  pub sources : count_by is_source es ≤ most_sources
  pub flats : AreWithin kinds (layers es)

source_few : (es new : List Entry) (n : Name) (grid : Grid) → FewNames es → count_by is_source (put_entry es n (source grid)) ≤ most_sources → new ≡ put_entry es n (source grid) → FewNames new
source_few es new n grid few count is =
    let flats = fewer_within kinds (layers (put_entry es n (source grid))) (layers es) (λ kind. layers_put kind es n grid) few.flats in
    subst FewNames (sym is) (record { sources = count; flats = flats })

entries_few : (ps : List Procedure) (es new : List Entry) (n : Name) (said : Type 0) → FewNames es → IsMade ps es new n said → FewNames new
entries_few ps es new n said few (inl put) =
    let count = sum_put one_source es n (source put.grid) in let before = few.sources in
    source_few es new n put.grid few (by_room put.room) put.is
  where
    by_room : (count_by is_source es < most_sources) ⊎ (g : Grid) × (find_def es n ≡ Some (source g)) → count_by is_source (put_entry es n (source put.grid)) ≤ most_sources
    by_room (inl room) = let count = sum_put one_source es n (source put.grid) in omega arith
    by_room (inr there) = let count = sum_put one_source es n (source put.grid) in let was = ap (counted_at one_source n) there.1 in let before = few.sources in omega arith
entries_few ps es new n said few (inr (inl put)) =
    let count = sum_put one_source es n (statement put.written put.flats) in let before = few.sources in
    subst FewNames (sym put.is) (record { sources = omega arith; flats = put.within })
entries_few ps es new n said few (inr (inr is)) =
    let count = sum_drop one_source es n in let before = few.sources in
    let flats = fewer_within kinds (layers (drop_entry es n)) (layers es) (λ kind. layers_dropped kind es n) few.flats in
    subst FewNames (sym is) (record { sources = omega arith; flats = flats })

-- ---- the whole state

module _ (s t : WholeState) (few : AreFew s) where
  attempt_few : (e : WholeEdit) → PutsBackFew s e → IsTried s t e → AreFew t
  attempt_few e back (inl (edit, same, r)) =
      let made = edited_is s.procedures s.names edit r.entries r.made in
      let names = entries_few s.procedures s.names.entries r.entries (edited edit) (IsPlainEdit edit) (record { sources = few.sources; flats = few.flats }) made.made in
      let ls = made.marks s.labels in let ss = made.marks s.symbols in
      let before = few.labels in let signs = few.symbols in
      subst AreFew (sym r.is) (record { sources = names.sources; flats = names.flats; procedures = few.procedures; labels = omega arith; symbols = omega arith })
  attempt_few e back (inr (inl (p, same, is))) = subst AreFew (sym is) (subst (PutsBackFew s) same back)
  attempt_few e back (inr (inr r)) = r.few few

pub few_stay : FewStay
few_stay s e a few back is =
    let r = done_is s e a is in
    let t = attempt_few s r.state few e back (tried s r.state e r.is) in
    subst AreFew r.whole (record { sources = t.sources; flats = t.flats; procedures = t.procedures; labels = t.labels; symbols = t.symbols })
