-- A place that no changed cell is near has its weight and its way down still.
use Rattle.std.proofs.Common.{◌≡◌, ℕ, ◌<◌, Bool, true, false, List, Option, Some, None, refl, sym, ◌∙◌, ap, arith, inl, inr, ◌+ℤ◌}
use Rattle.std.specs.List.{Contains}
use Rattle.std.proofs.lemmas.List.FromFn.{get_or-map-range_with_len}
use Rattle.map_nums.specs.Grids.{Size, Cells, cell_at, cells_in, moved, near, cell_there}
use Rattle.map_defs.specs.Flow.{downstream_of, flow_at, flow_grid}
use Rattle.layer_tiles.specs.Changes.{ChangeState, cells_before}
use Rattle.drainage_flow.specs.Nets.{part, is_to, inflow, gathered, Agrees}
use Rattle.drainage_flow.specs.FlowNets.{number_of, brought, weight_at, net_of, flow_number}
use Rattle.drainage_flow.specs.Settling.{number_at}
use Rattle.drainage_flow.specs.Steepest.{offset_at}
use Rattle.drainage_flow.specs.Seeding.{is_marked, MarkedAround, net_before, net_after}
use Rattle.drainage_flow.specs.Listing.{IsSame, AreListed}
use Rattle.drainage_flow.proofs.Sums.{sum_same}
use Rattle.drainage_flow.proofs.Masses.{flow_agrees}
use Rattle.drainage_flow.proofs.Near.{downstream_same, moved_back}

unmarked : {P : Type 0} (marks : List Bool) (c : ℕ) → is_marked marks c ≡ true → is_marked marks c ≡ false → P
unmarked marks c t f = let e : true ≡ false = sym t ∙ f in absurd (cc)

module _ (surface weights : ChangeState) (changed : List ℕ) (marks : List Bool) (some : 0 < surface.size.columns) (listed : AreListed surface weights changed) (around : (c : ℕ) → Contains changed c → MarkedAround surface.size marks c) (x : ℕ) (within : x < cells_in surface.size) (none : is_marked marks x ≡ false) where
  here_same : IsSame surface weights x
  here_same = elim (listed x within) as (λ _. IsSame surface weights x) [ inl h ↦ unmarked marks x (around x h).0 none | inr h ↦ h ]

  next_same : (u y : ℕ) → u < 8 → moved surface.size x (offset_at u) ≡ Some y → cell_at (cells_before surface) y ≡ cell_at surface.cells y
  next_same u y l e =
      let b = moved_back surface.size x y u some within l e in
      elim (listed y b.3) as (λ _. cell_at (cells_before surface) y ≡ cell_at surface.cells y) [ inl h ↦ unmarked marks x ((around y h).1 b.0 x b.1 b.2) none | inr h ↦ h.0 ]

  near_same : (u : ℕ) → u < 8 → near surface.size (cells_before surface) x (offset_at u) ≡ near surface.size surface.cells x (offset_at u)
  near_same u l = there (moved surface.size x (offset_at u)) refl
    where
      there : (o : Option ℕ) → moved surface.size x (offset_at u) ≡ o → cell_there (cells_before surface) o ≡ cell_there surface.cells o
      there None e = refl
      there (Some y) e = next_same u y l e

  pub stays_same : ((net_before surface weights).weight x ≡ (net_after surface weights).weight x) × ((net_before surface weights).down x ≡ (net_after surface weights).down x)
  unfolding weight_at
  stays_same = (
    ap (λ o. brought o (cell_at (cells_before weights) x)) here_same.0 ∙ ap (brought (cell_at surface.cells x)) here_same.1,
    downstream_same surface.size (cells_before surface) surface.cells x here_same.0 near_same,
  )

-- the cells of the flow agree as numbers
pub right_agrees : (s : Size) (surface weights old : Cells) → old ≡ (flow_grid s surface weights).cells → Agrees (net_of s surface weights) (number_at old)
unfolding flow_grid flow_number gathered inflow
right_agrees s surface weights old e c l =
    let is : (d : ℕ) → d < cells_in s → number_at old d ≡ flow_number s surface weights d = λ d m. ap number_of (ap (λ cells. cell_at cells d) e ∙ get_or-map-range_with_len (flow_at s surface weights) 0 (cells_in s) d d None m (omega arith)) in
    is c l ∙ flow_agrees s surface weights c l ∙ ap (λ z. weight_at surface weights c +ℤ z)
    (sum_same (λ d. part (is_to (downstream_of s surface d) c) (flow_number s surface weights d)) (λ d. part (is_to (downstream_of s surface d) c) (number_at old d)) (cells_in s) (λ d m. ap (part (is_to (downstream_of s surface d) c)) (sym (is d m))))
