-- The work of a repair.
use Rattle.std.proofs.Common.{◌≡◌, inl, inr, ℕ, ◌<◌, Bool, true, false, List, [], length, get_or, replicate, Some, refl, sym, ◌∙◌, ap, subst, arith, ◌≤◌}
use Rattle.std.specs.Prelude.{filter, ◌==◌}
use Rattle.std.specs.List.{All}
use Rattle.std.proofs.lemmas.Bool.{both_ways, eqb-true}
use Rattle.std.proofs.lemmas.Bool.Decides.{Decides-eqb}
use Rattle.std.proofs.lemmas.List.{get_or_default}
use Rattle.std.proofs.lemmas.List.Elements.{All-from_get_or}
use Rattle.std.proofs.lemmas.Map.Made.{IsDistinct-from_AllPairs}
use Rattle.std.proofs.lemmas.Map.Steps.{length-le_from_distinct_below}
use Rattle.changed_cells.specs.Changed.{AreChanged}
use Rattle.map_nums.specs.Grids.{Size, Cells, cells_in, places}
use Rattle.map_defs.specs.Regions.{AreRegions}
use Rattle.map_defs.specs.Work.{is_touched}
use Rattle.layer_tiles.specs.Tiles.{Block}
use Rattle.layer_tiles.specs.Patches.{patched}
use Rattle.tile_work.specs.Working.{WorkState, IsSameWork, IsPatchTo, base_of, begun_cells}
use Rattle.region_labels.specs.Flood.{is_marked, marks_in, FloodState}
use Rattle.region_labels.specs.Repairs.{IsLabelling, IsLabelStep, AreHandledRound, IsCleared, HoldsChanged}
use Rattle.region_labels.specs.Touched.{IsTouchedBy, IsMarkedFor}
use Rattle.region_labels.proofs.Results.{no_marks, labelling_begun, begun_same, regions_now, made}
use Rattle.region_labels.proofs.Touched.{work_counted, any_found}

-- what a repair leaves
pub record IsRepairedBy (s : Size) (now old : Cells) (changed : List ℕ) (marks : List Bool) (tiles : List (ℕ × Block)) : Type 0 where
  pub regions : AreRegions s now (patched s old tiles)
  pub work : marks_in marks ≡ length (filter (is_touched s (patched s old tiles) changed) (places s))

pub repaired_by : (s extent : Size) (was now old : Cells) (changed : List ℕ) (la lb lc : WorkState) (fa fb : FloodState) (tiles : List (ℕ × Block)) (n : ℕ) → AreRegions s was old → HoldsChanged s was now changed → extent ≡ s → la.size ≡ extent → la.before ≡ Some old → la.cells ≡ begun_cells extent (Some old) → fa ≡ record { size = extent; marks = replicate n false; found = [] } → n ≡ cells_in extent → IsSameWork la lb → IsCleared now changed la.cells lb.cells → IsSameWork lb lc → IsLabelStep s now lb.cells fa.marks lc.cells fb.marks → ((k : ℕ) → k < length changed → AreHandledRound s now fb.marks (get_or changed k 0)) → IsMarkedFor (IsTouchedBy s now changed) fa.marks fb.marks → IsPatchTo lc.size lc.before lc.cells tiles → IsRepairedBy s now old changed fb.marks tiles
repaired_by s extent was now old changed la lb lc fa fb tiles n right all e size before cells flood count same clear same' step handled caused patch =
    let c : la.cells ≡ old = cells ∙ ap (λ (z : Size). begun_cells z (Some old)) e ∙ begun_same s old right.full in
    let begun : IsLabelling s now lb.cells lb.cells fa.marks = subst (λ (f : FloodState). IsLabelling s now lb.cells lb.cells f.marks) (sym flood) (labelling_begun s now lb.cells n (count ∙ ap cells_in e)) in
    let clear' : IsCleared now changed old lb.cells = subst (λ (xs : Cells). IsCleared now changed xs lb.cells) c clear in
    let l = step.keeps lb.cells begun in
    let regions : AreRegions s now lc.cells =
    regions_now s was now old lb.cells lc.cells changed fb.marks right all clear' l handled (same'.count ∙ same.count ∙ ap length c ∙ right.full) in
    let is : patched s old tiles ≡ lc.cells = made s lc.size lc.before old lc.cells tiles (same'.size ∙ same.size ∙ size ∙ e) (ap base_of (same'.before ∙ same.before ∙ before)) patch.makes in
    let none : (i : ℕ) → is_marked fa.marks i ≡ false = λ i. ap (λ (f : FloodState). is_marked f.marks i) flood ∙ no_marks n i in
    record {
      regions = subst (AreRegions s now) (sym is) regions;
      work = work_counted s now lc.cells regions fb.marks changed l.size l.whole handled
          (λ i m. elim (caused i m) as (λ _. IsTouchedBy s now changed i) [ inl h ↦ absurd (both_ways (is_marked fa.marks i) (none i) h) | inr t ↦ t ])
          ∙ ap (λ (xs : Cells). length (filter (is_touched s xs changed) (places s))) (sym is);
    }

pub same_test : (a b : Bool) → (a ≡ true → b ≡ true) → (b ≡ true → a ≡ true) → a ≡ b
same_test true b f h = sym (f refl)
same_test false true f h = h refl
same_test false false f h = refl

-- ---- a list of changed places

pub few_changed : (s : Size) (before after : Cells) (found : List ℕ) → AreChanged s before after found → length found ≤ cells_in s
few_changed s before after found h =
    length-le_from_distinct_below found (cells_in s)
    (IsDistinct-from_AllPairs Decides-eqb found (λ i j d l m e. h.apart i j l m (get_or_default found i 0 d (omega (arith, l, m)) ∙ e ∙ get_or_default found j d 0 m)))
    (λ q m. let r = any_found (λ x. q == x) found m in let e : q ≡ get_or found r.0 0 = eqb-true q (get_or found r.0 0) r.2 in rw (e) (h.within r.0 r.1))

pub within_changed : (s : Size) (before after : Cells) (found : List ℕ) → AreChanged s before after found → All (λ at. at < cells_in s) found
within_changed s before after found h = All-from_get_or (λ at. at < cells_in s) found 0 h.within
