-- The loads of the sample are accepted.
use Rattle.std.proofs.Common.{◌≡◌, ℕ, List, Some, None, Ok, refl, ap, ◌∙◌, codes}
use Rattle.std.proofs.lemmas.Bool.{eq-eqb}
use Rattle.map_nums.specs.Grids.{Size, Grid}
use Rattle.map_defs.specs.Ops.{Name}
use Rattle.map_defs.specs.Depths.{by_depth}
use Rattle.map_edits.specs.Entries.{Entry, source, put_entry}
use Rattle.map_edits.specs.EngineStates.{EngineState, no_entries}
use Rattle.map_edits.specs.Faults.{fault_of}
use Rattle.map_edits.specs.EditForms.{load}
use Rattle.map_edits.specs.EntriesAfter.{entries_with}
use Rattle.map_edits.specs.Edits.{with_entries}
use Rattle.map_edits.specs.Counted.{accept_counted}
use Rattle.map_machine.specs.States.{MapState}
use Rattle.map_machine.specs.Loads.{grid_load}
use Rattle.map_machine.specs.Words.{of_sample}
use Rattle.map_machine.specs.LoadTexts.{Files}
use Rattle.map_machine.specs.Openings.{Opening, goes_on, opened_opening}
use Rattle.map_machine.specs.SampleGrids.{by_place, height, friction, start, zone}
use Rattle.map_machine.specs.Samples.{sample_state}
use Rattle.map_machine.specs.Play.{form_opening}

-- a load that is not refused, and leaves no fault
goes_past : (s : MapState) (names : EngineState) (n : Name) (grid : Grid) (es : List Entry) (next : MapState → Opening) → s.whole.names ≡ names → entries_with s.whole.procedures names (load n grid) ≡ Ok es
    → fault_of (with_entries names es) ≡ None → ((t : MapState) → t.whole.names ≡ with_entries names es → next t ≡ goes_on) → opened_opening (grid_load s n grid) next ≡ goes_on
unfolding accept_counted
goes_past s names n grid es next same accepted none later =
    rw (ap (λ m. entries_with s.whole.procedures m (load n grid)) same ∙ accepted, ap (λ m. fault_of (with_entries m es)) same ∙ none) (later _ (ap (λ m. with_entries m es) same))

-- the names after the first loads
abbrev with_source : EngineState → Name → Grid → EngineState
with_source names n grid = with_entries names (put_entry names.entries n (source grid))

-- whatever its size
pub sample_goes_on : (most n : ℕ) (files : Files) → form_opening most (Some (of_sample n)) files ≡ goes_on
unfolding by_depth fault_of
sample_goes_on most n files =
    let size : Size = record { rows = n; columns = n } in
    let none = no_entries size in
    let first = with_source none (codes "H") (by_place n height) in
    let second = with_source first (codes "F") (by_place n friction) in
    let third = with_source second (codes "S") (by_place n start) in
    goes_past (sample_state n) none (codes "H") (by_place n height) first.entries _ refl (rw (eq-eqb n n refl) refl) refl (λ s s_is.
    goes_past s first (codes "F") (by_place n friction) second.entries _ s_is (rw (eq-eqb n n refl) refl) refl (λ t t_is.
    goes_past t second (codes "S") (by_place n start) third.entries _ t_is (rw (eq-eqb n n refl) refl) refl (λ u u_is.
    goes_past u third (codes "Z") (by_place n zone) (put_entry third.entries (codes "Z") (source (by_place n zone))) _ u_is (rw (eq-eqb n n refl) refl) refl (λ v v_is. refl))))
