-- The tiles of a flow that bands have, and the first flow of theirs that is out of range.
use Rattle.std.proofs.Common.{◌≡◌, ℕ, ◌+◌, ◌-◌, ◌<◌, ◌≤◌, true, false, List, [], ◌∷◌, ◌++◌, length, get_or, drop, Option, Some, None, refl, sym, ◌∙◌, ap, subst, arith, inl, inr, ℤ, pos}
use Rattle.std.specs.Prelude.{not, Result, IsTrue}
use Rattle.std.proofs.lemmas.Bool.{cases_lt}
use Rattle.std.proofs.lemmas.List.{get_or_append_left, get_or-append_right, length-append}
use Rattle.std.proofs.lemmas.List.FromFn.{get_or-map-range_with_len}
use Rattle.map_nums.specs.Grids.{Size, IsSize, Cells, cell_at, cells_in, grid_by}
use Rattle.map_nums.specs.Numbers.{is_value}
use Rattle.map_nums.specs.Answers.{is_wide}
use Rattle.layer_tiles.specs.Tiles.{Block, tiles_in, tile_width}
use Rattle.layer_tiles.specs.Answers.{IsTileAnswer, IsLeastWide}
use Rattle.layer_tiles.specs.PlaceByPlace.{cell_in, IsPlacesAnswer}
use Rattle.layer_tiles.specs.declared.kernels.KernelRefusal.{KernelRefusal}
use Rattle.tile_frame.specs.Frames.{by_row}
use Rattle.tile_frame.proofs.Answering.{grid_answer}
use Rattle.tile_work.specs.Working.{IsPushed}
use Rattle.drainage_flow.specs.FlowBands.{all_flows}
use Rattle.drainage_flow.specs.Pouring.{flow_in}
use Rattle.drainage_flow.specs.Showing.{shown, shown_at}
use Rattle.drainage_flow.specs.Whole.{AreInRange, IsFirstWide}
use Rattle.drainage_flow.specs.declared.flow_band.FlowBand.{FlowBand}
use Rattle.drainage_flow.proofs.FlowBands.{lists_next}

no_before : {P : Type 0} → false ≡ true → P
no_before e = absurd (cc)

pub pushed_tile : (s : Size) (t : ℕ) (b : Block) (old new : List (ℕ × Block)) → new ≡ old ++ (t, b) ∷ [] → IsPushed s None t (Some b) old new
pushed_tile s t b old new e = inl (record { tiles = e; changed = λ h. no_before h })

pub shown_answer : (s : Size) (cells : Cells) (f : ℕ → ℤ) (t : ℕ) (result : Result Block KernelRefusal) → IsSize s → t < tiles_in s → IsPlacesAnswer (by_row (tile_width s t) (λ r c. shown_at cells f (cell_in s t r c))) s t result → IsTileAnswer s (grid_by s (shown_at cells f)).cells t result
shown_answer s cells f t result size within a = grid_answer s t (λ r c. shown_at cells f (cell_in s t r c)) (shown_at cells f) result size within (λ r c l m. refl) a

narrow : (o : Option ℤ) (z : ℤ) → is_value z ≡ true → is_wide (shown o z) ≡ false
narrow None z e = refl
narrow (Some y) z e = ap not e

pub never_wide : {P : Type 0} (s : Size) (cells : Cells) (flows : List ℤ) (t at : ℕ) → length flows ≡ cells_in s → AreInRange flows → IsLeastWide s (grid_by s (shown_at cells (flow_in flows))).cells t at → P
never_wide s cells flows t at count r w =
    let f = shown_at cells (flow_in flows) in
    let e : is_wide (cell_at (grid_by s f).cells at) ≡ is_wide (f at) = ap is_wide (get_or-map-range_with_len f 0 (cells_in s) at at None w.within (omega arith)) in
    let n : is_wide (f at) ≡ false = narrow (cell_at cells at) (flow_in flows at) (r.each at (omega (arith, count, w.within))) in
    let y : is_wide (cell_at (grid_by s f).cells at) ≡ true = w.wide in
    no_before (sym n ∙ sym e ∙ y)

-- ---- one list of flows behind another

in_both : (xs ys : List ℤ) (c : ℕ) → AreInRange xs → (length xs ≤ c → IsTrue (is_value (flow_in ys (c - length xs)))) → IsTrue (is_value (flow_in (xs ++ ys) c))
in_both xs ys c r h = elim (cases_lt c (length xs)) as (λ _. IsTrue (is_value (flow_in (xs ++ ys) c))) [
  | inl l ↦ ap is_value (get_or_append_left xs ys (pos 0) c l) ∙ r.each c l
  | inr l ↦ ap is_value (get_or-append_right xs ys (length xs) c (pos 0) refl l) ∙ h l
]

pub range_none : AreInRange []
range_none = record { each = λ c l. absurd (omega (arith, l)) }

pub range_both : (xs ys : List ℤ) → AreInRange xs → AreInRange ys → AreInRange (xs ++ ys)
range_both xs ys a b = record { each = λ c l. in_both xs ys c a (λ m. b.each (c - length xs) (omega (arith, l, m, length-append xs ys))) }

wide_before : (xs ys : List ℤ) (at : ℕ) → IsFirstWide xs at → IsFirstWide (xs ++ ys) at
wide_before xs ys at w = record {
  within = omega (arith, length-append xs ys, w.within);
  wide = ap is_value (get_or_append_left xs ys (pos 0) at w.within) ∙ w.wide;
  first = λ c l. ap is_value (get_or_append_left xs ys (pos 0) c (omega (arith, l, w.within))) ∙ w.first c l;
}

wide_behind : (xs ys : List ℤ) (at : ℕ) → AreInRange xs → IsFirstWide ys at → IsFirstWide (xs ++ ys) (length xs + at)
wide_behind xs ys at r w =
    let n : length xs + at - length xs ≡ at = omega arith in
    record {
      within = omega (arith, length-append xs ys, w.within);
      wide = ap is_value (get_or-append_right xs ys (length xs) (length xs + at) (pos 0) refl (omega arith) ∙ ap (flow_in ys) n) ∙ w.wide;
      first = λ c l. in_both xs ys c r (λ m. w.first (c - length xs) (omega (arith, l, m)));
    }

-- the bands before band k have the flows xs
module _ (bs : List FlowBand) (k : ℕ) (b : FlowBand) (xs : List ℤ) (l : k < length bs) (e : b ≡ get_or bs k b) (h : xs ++ all_flows (drop k bs) ≡ all_flows bs) where
  pub flows_next : (xs ++ b.flows.items) ++ all_flows (drop (k + 1) bs) ≡ all_flows bs
  flows_next = lists_next (λ (x : FlowBand). x.flows.items) xs (all_flows bs) bs k b l e h

  pub flows_few : length xs + length b.flows.items ≤ length (all_flows bs)
  flows_few = omega (arith, ap length flows_next, length-append (xs ++ b.flows.items) (all_flows (drop (k + 1) bs)), length-append xs b.flows.items)

  pub wide_here : (flows : List ℤ) (at first : ℕ) → flows ≡ b.flows.items → first ≡ length xs → AreInRange xs → IsFirstWide flows at → IsFirstWide (all_flows bs) (first + at)
  wide_here flows at first same start r w =
      let own : IsFirstWide b.flows.items at = subst (λ (ys : List ℤ). IsFirstWide ys at) same w in
      subst (λ n. IsFirstWide (all_flows bs) (n + at)) (sym start)
      (subst (λ (ys : List ℤ). IsFirstWide ys (length xs + at)) flows_next (wide_before (xs ++ b.flows.items) (all_flows (drop (k + 1) bs)) (length xs + at) (wide_behind xs b.flows.items at r own)))
