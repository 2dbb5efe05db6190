use Rattle.std.proofs.Common.{◌≡◌, ℕ, ℤ, List, Option, Vec, map, sym, ◌∙◌, ap, subst}
use Rattle.std.specs.Prelude.{nat_abs}
use Rattle.std.specs.declared.alloc.Global.{Global}
use Rattle.std.proofs.lemmas.Int.{to_z-of_z}
use Rattle.map_nums.specs.Grids.{cells_in}
use Rattle.map_nums.specs.Widths.{value_width}
use Rattle.map_defs.specs.Nearest.{AreNearest}
use Rattle.friction_spread.specs.Bands.{ground_of, AreCostBands}
use Rattle.friction_spread.specs.Costs.{GroundState}
use Rattle.friction_spread.specs.Lists.{IsCostList}
use Rattle.friction_spread.specs.declared.bands.CostBand.{CostBand}
use Rattle.friction_neighbor.specs.Bands.{AreBandsOf}
use Rattle.friction_neighbor.specs.Fields.{FieldState, list_field}
use Rattle.friction_neighbor.specs.Shown.{shown_cells}
use Rattle.friction_neighbor.proofs.Banded.{costs_apart, both_apart, wanted_shown}
use Rattle.friction_neighbor.proofs.joins.nearest_of_bands.Goals as goal
use Rattle.friction_neighbor.proofs.joins.nearest_of_bands.Goals.{After-new-field}

pub spread_of_bands-requires-clause-bands : goal.spread_of_bands-requires-clause-bands
spread_of_bands-requires-clause-bands c =
    let gr : ℕ → GroundState = ground_of c.args.extent c.args.sources.now c.args.friction.now in
    let P : ℕ → Type 0 = λ n. AreCostBands (gr n) 0 c.deref.result.now in
    let Q : List CostBand → Type 0 = AreCostBands (gr (nat_abs c.args.limit)) 0 in
    subst P (sym (ap nat_abs (to_z-of_z value_width c.args.limit c.ranges.limit)))
    (subst Q (sym (c.deref.ensures.value ∙ c.in_ok-bands.ensures.costs)) (costs_apart (gr (nat_abs c.args.limit)) 0 c.args.bands.items c.requires.bands))

field_is : (c : After-new-field) → c.new-field.result ≡ list_field (ground_of c.args.extent c.args.sources.now c.args.friction.now (nat_abs c.args.limit)) c.costs.result.now
field_is c = c.new-field.ensures ∙ ap (λ (n : ℕ). list_field (ground_of c.args.extent c.args.sources.now c.args.friction.now n) c.costs.result.now) (c.limit_of.ensures.value ∙ ap nat_abs (to_z-of_z value_width c.args.limit c.ranges.limit))

pub values_of_bands-requires : goal.values_of_bands-requires
values_of_bands-requires c =
    let gr = ground_of c.args.extent c.args.sources.now c.args.friction.now (nat_abs c.args.limit) in
    let P : FieldState → Type 0 = λ f. AreBandsOf f.ground 0 c.deref-2.result.now c.deref-3.result.now in
    let Q : List CostBand → Type 0 = λ xs. AreBandsOf gr 0 xs c.deref-3.result.now in
    let R : List (Vec (Option ℤ) Global) → Type 0 = AreBandsOf gr 0 (map (λ b. b.costs) c.args.bands.items) in
    record {
      bands =
          subst P (sym (field_is (goal.at.values_of_bands-requires c).After-new-field))
          (subst Q (sym (c.deref-2.ensures.value ∙ c.in_ok-bands.ensures.costs))
          (subst R (sym (c.deref-3.ensures.value ∙ c.in_ok-bands.ensures.values)) (both_apart gr 0 c.args.bands.items c.requires.bands)));
    }

pub returns : goal.returns
returns c =
    let is = field_is (goal.at.returns c).After-new-field in
    let values = c.in_ok-values.values.items in
    let ok = c.in_ok-values.ensures in
    let P : ℕ → Type 0 = λ n. IsCostList (ground_of c.args.extent c.args.sources.now c.args.friction.now n) c.in_ok-costs.costs in
    let Q : FieldState → Type 0 = λ f. AreNearest f.ground.size f.ground.sources f.ground.friction f.ground.limit (shown_cells f.ground.size values) in
    record {
      costs = subst P (ap nat_abs (to_z-of_z value_width c.args.limit c.ranges.limit)) c.in_ok-costs.ensures;
      count = ok.count ∙ ap (λ (f : FieldState). cells_in f.ground.size) is;
      cells = ok.cells;
      nearest = subst Q is (wanted_shown c.new-field.result c.extent-extent.ensures.field values ok.count ok.right);
    }
