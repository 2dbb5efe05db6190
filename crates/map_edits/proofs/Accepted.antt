-- What is not refused has passed each test.
use Rattle.std.proofs.Common.{◌≡◌, ℤ, ◌<◌, ◌≤◌, Bool, true, false, cond, not, nat_lt, List, [], ◌∷◌, filter, length, count_by, bytes_eq, Option, Some, None, is_some, Result, Ok, Err, ◌⊎◌, inl, inr, refl, ap, ◌∙◌, arith}
use Rattle.std.proofs.lemmas.Bool.{true≢false, ltb-false, ltb-true}
use Rattle.std.proofs.lemmas.List.Sums.{length-filter, count_by-le-length}
use Rattle.map_nums.specs.Grids.{Grid, constant}
use Rattle.map_defs.specs.Ops.{Name}
use Rattle.map_defs.specs.Statements.{Written, Flat, Procedure}
use Rattle.map_defs.specs.Expansion.{WrongCall, not_defined, wrong_count, expansion_of}
use Rattle.map_defs.specs.Depths.{is_looped}
use Rattle.map_defs.specs.FlatNames.{Each}
use Rattle.map_defs.specs.MadeProcedures.{IsUndotted, written_names}
use Rattle.map_edits.specs.Entries.{Def, source, statement, Entry, find_def, put_entry, drop_entry}
use Rattle.map_edits.specs.LayerDefs.{LayerDef, layers, nodes_of}
use Rattle.map_edits.specs.EngineStates.{EngineState}
use Rattle.map_edits.specs.Refusals.{Refusal, cycle, beyond, sources}
use Rattle.map_edits.specs.Limits.{most_sources, is_source, Kind, most_of, kinds, is_of, first_beyond, AreWithin}
use Rattle.map_edits.specs.Painting.{is_within, painted}
use Rattle.map_edits.specs.EditForms.{Edit, load, new_layer, paint, define, drop_name, edited, Rectangle}
use Rattle.map_edits.specs.Edits.{may_fault}
use Rattle.map_edits.specs.Marks.{Mark, drop_marks}
use Rattle.map_edits.specs.Attempts.{marks_after}
use Rattle.map_edits.specs.Touches.{Touch, nothing, whole, within, touch_of_names}
use Rattle.map_edits.specs.GroupLaws.{IsPlainEdit}
use Rattle.map_edits.proofs.Puts.{find_put}
use Rattle.map_edits.specs.EntriesAfter.{same_size, add_source, paint_source, unless_beyond, put_statement, define_with, entries_with}

pub cond_err : {X : Type 0} (b : Bool) (r : Refusal) (o : Result X Refusal) (x : X) → cond b (Err r) o ≡ Ok x → (b ≡ false) × (o ≡ Ok x)
cond_err true r o x e = absurd cc
cond_err false r o x e = (refl, e)

pub cond_ok : {X : Type 0} (b : Bool) (r : Refusal) (o : Result X Refusal) (x : X) → cond b o (Err r) ≡ Ok x → o ≡ Ok x
cond_ok true r o x e = e
cond_ok false r o x e = absurd cc

-- where none is the first, there are too many of none
pub none_beyond : (ks : List Kind) (ls : List LayerDef) → first_beyond ks ls ≡ None → AreWithin ks ls
none_beyond [] ls e = tt
none_beyond (kind ∷ ks) ls e = go (nat_lt (most_of kind) (count_by (is_of kind) ls)) refl e (none_beyond ks ls)
  where
    go : (b : Bool) → nat_lt (most_of kind) (count_by (is_of kind) ls) ≡ b → cond b (Some kind) (first_beyond ks ls) ≡ None → (first_beyond ks ls ≡ None → AreWithin ks ls) → AreWithin (kind ∷ ks) ls
    go true h e rest = absurd cc
    go false h e rest = (ltb-false (most_of kind) (count_by (is_of kind) ls) h, rest e)

-- ---- the entries after an edit

-- a source is put: there is room for one more, or one stood there
pub record IsSourcePut (es new : List Entry) (n : Name) : Type 0 where
  pub grid : Grid
  pub is : new ≡ put_entry es n (source grid)
  pub room : (count_by is_source es < most_sources) ⊎ (g : Grid) × (find_def es n ≡ Some (source g))

-- a statement is put, within the limits, and not looped
pub record IsStatementPut (ps : List Procedure) (es new : List Entry) (n : Name) (said : Type 0) : Type 0 where
  pub written : Written
  pub plain : said → Each IsUndotted (written_names written)
  pub flats : List Flat
  pub expanded : expansion_of ps n written ≡ Ok flats
  pub is : new ≡ put_entry es n (statement written flats)
  pub within : AreWithin kinds (layers (put_entry es n (statement written flats)))
  pub alone : is_looped (nodes_of (put_entry es n (statement written flats))) n ≡ false

abbrev pub IsMade : List Procedure → List Entry → List Entry → Name → Type 0 → Type 0
IsMade ps es new n said = IsSourcePut es new n ⊎ IsStatementPut ps es new n said ⊎ (new ≡ drop_entry es n)

-- a touch is of the name that is edited, and a rectangle one of a source
abbrev pub IsTouchOf : Name → List Entry → Touch → Type 0
IsTouchOf n new nothing = ⊥
IsTouchOf n new (whole m) = n ≡ m
IsTouchOf n new (within m r) = (n ≡ m) × (g : Grid) × (find_def new m ≡ Some (source g))

-- what an edit that isn't refused makes of its name
pub record IsEdited (ps : List Procedure) (s : EngineState) (new : List Entry) (edit : Edit) : Type 0 where
  pub plain : IsPlainEdit edit → IsUndotted (edited edit)
  pub made : IsMade ps s.entries new (edited edit) (IsPlainEdit edit)
  pub touch : IsTouchOf (edited edit) new (touch_of_names edit)
  -- where no fault is looked for
  pub untested : may_fault edit ≡ false → new ≡ drop_entry s.entries (edited edit)
  pub marks : (ms : List Mark) → length (marks_after edit ms) ≤ length ms

bounded_is : (n : Name) (new entries : List Entry) (o : Option Kind) → first_beyond kinds (layers entries) ≡ o → unless_beyond n entries o ≡ Ok new
    → (new ≡ entries) × AreWithin kinds (layers entries) × (is_looped (nodes_of entries) n ≡ false)
bounded_is n new entries (Some kind) is e = absurd cc
bounded_is n new entries None is e =
    let looped = cond_err (is_looped (nodes_of entries) n) (cycle n) (Ok entries) new e in
    let same : Ok entries ≡ Ok new = looped.1 in
    (cc, none_beyond kinds (layers entries) is, looped.0)

module _ (es new : List Entry) (n : Name) where
  added_is : (grid : Grid) → add_source es n grid ≡ Ok new → IsSourcePut es new n
  added_is grid e = go (nat_lt (count_by is_source es) most_sources) refl e
    where
      go : (b : Bool) → nat_lt (count_by is_source es) most_sources ≡ b → cond b (Ok (put_entry es n (source grid))) (Err (beyond sources)) ≡ Ok new → IsSourcePut es new n
      go true h e = record { grid = grid; is = cc; room = inl (ltb-true (count_by is_source es) most_sources h) }
      go false h e = absurd cc

  module _ (ps : List Procedure) (written : Written) (said : Type 0) (plain : said → Each IsUndotted (written_names written)) where
    written_is : (o : Result (List Flat) WrongCall) → expansion_of ps n written ≡ o → put_statement es n written o ≡ Ok new → IsStatementPut ps es new n said
    written_is (Err (not_defined p)) expanded e = absurd cc
    written_is (Err (wrong_count given wanted)) expanded e = absurd cc
    written_is (Ok flats) expanded e =
        let all : List Entry = put_entry es n (statement written flats) in
        let r = bounded_is n new all (first_beyond kinds (layers all)) refl e in
        record { written = written; plain = plain; flats = flats; expanded = expanded; is = r.0; within = r.1; alone = r.2 }

    defined_is : (o : Option Def) → define_with ps es n written o ≡ Ok new → IsStatementPut ps es new n said
    defined_is (Some (source grid)) e = absurd cc
    defined_is (Some (statement w flats)) e = written_is (expansion_of ps n written) refl e
    defined_is None e = written_is (expansion_of ps n written) refl e

painted_is : (s : EngineState) (new : List Entry) (n : Name) (r : Rectangle) (cell : Option ℤ) (o : Option Def) → find_def s.entries n ≡ o → paint_source s n r cell o ≡ Ok new → IsSourcePut s.entries new n
painted_is s new n r cell None was e = absurd cc
painted_is s new n r cell (Some (statement w flats)) was e = absurd cc
painted_is s new n r cell (Some (source grid)) was e =
    let put : Ok (put_entry s.entries n (source (painted s.size r cell grid))) ≡ Ok new = cond_ok (is_within s.size r) _ (Ok (put_entry s.entries n (source (painted s.size r cell grid)))) new e in
    record { grid = painted s.size r cell grid; is = cc; room = inr (grid, was) }

same_marks : (ms : List Mark) → length ms ≤ length ms
same_marks ms = omega arith

fewer_marks : (n : Name) (ms : List Mark) → length (drop_marks ms n) ≤ length ms
fewer_marks n ms =
    let test : Mark → Bool = λ (m : Mark). not (bytes_eq m.name n) in
    let kept : length (filter test ms) ≡ count_by test ms = length-filter test ms in
    let most : count_by test ms ≤ length ms = count_by-le-length test ms in
    omega (arith, kept, most)

-- each edit by its row
pub edited_is : (ps : List Procedure) (s : EngineState) (edit : Edit) (new : List Entry) → entries_with ps s edit ≡ Ok new → IsEdited ps s new edit
edited_is ps s (load n grid) new e =
    let free = cond_err (is_some (find_def s.entries n)) _ (cond (same_size grid.size s.size) (add_source s.entries n grid) (Err _)) new e in
    let put = added_is s.entries new n grid (cond_ok (same_size grid.size s.size) _ (add_source s.entries n grid) new free.1) in
    record { plain = λ said. said; made = inl put; touch = refl; untested = λ never. absurd (true≢false never); marks = same_marks }
edited_is ps s (new_layer n cell) new e =
    let put = added_is s.entries new n (constant s.size cell) (cond_err (is_some (find_def s.entries n)) _ (add_source s.entries n (constant s.size cell)) new e).1 in
    record { plain = λ said. said; made = inl put; touch = refl; untested = λ never. absurd (true≢false never); marks = same_marks }
edited_is ps s (paint n r cell) new e =
    let put = painted_is s new n r cell (find_def s.entries n) refl e in
    let there = ap (λ es. find_def es n) put.is ∙ find_put s.entries n (source put.grid) in
    record { plain = λ said. said; made = inl put; touch = (refl, put.grid, there); untested = λ never. absurd (true≢false never); marks = same_marks }
edited_is ps s (define n written) new e =
    let put = defined_is s.entries new n ps written (IsPlainEdit (define n written)) (λ said. said.1) (find_def s.entries n) e in
    record { plain = λ said. said.0; made = inr (inl put); touch = refl; untested = λ never. absurd (true≢false never); marks = same_marks }
edited_is ps s (drop_name n) new e =
    let is : Ok (drop_entry s.entries n) ≡ Ok new = cond_ok (is_some (find_def s.entries n)) _ (Ok (drop_entry s.entries n)) new e in
    record { plain = λ said. said; made = inr (inr cc); touch = refl; untested = λ drops. cc; marks = fewer_marks n }
