use Rattle.std.proofs.Common.{◌≡◌, ℕ, List, length, sym, ◌∙◌, ap, subst, arith}
use Rattle.std.specs.Prelude.{nat_abs}
use Rattle.std.proofs.lemmas.Int.{to_z-of_z}
use Rattle.map_nums.specs.Widths.{value_width}
use Rattle.map_defs.specs.Spread.{IsSpread}
use Rattle.friction_spread.specs.Bands.{ground_of, IsCostBand}
use Rattle.friction_spread.specs.Costs.{GroundState}
use Rattle.friction_spread.specs.Shown.{shown_cells}
use Rattle.friction_neighbor.specs.Fields.{FieldState, AreLeastValues, list_field}
use Rattle.friction_neighbor.proofs.Banded.{IsPart, cut, ends_within, cut_length, count_here, spread_here, own_band}
use Rattle.friction_neighbor.proofs.bands.nearest_of_band.Goals as goal
use Rattle.friction_neighbor.proofs.bands.nearest_of_band.Goals.{After-above, After-limit_of}

abbrev ground : After-above → GroundState
ground c = ground_of c.args.extent c.args.sources.now c.args.friction.now (nat_abs c.args.limit)

part : (c : After-above) → IsPart (ground c) c.args.first c.args.end c.in_ok-costs.costs c.columns-columns.result (length c.costs-count.result.now) c.above.result
part c =
    let P : ℕ → Type 0 = λ n. IsCostBand (ground_of c.args.extent c.args.sources.now c.args.friction.now n) c.args.first c.args.end c.in_ok-costs.costs in
    record {
      size = c.columns-columns.ensures.size;
      band = subst P (ap nat_abs (to_z-of_z value_width c.args.limit c.ranges.limit)) c.in_ok-costs.ensures;
      wide = c.columns-columns.ensures.columns;
      many = ap length c.costs-count.ensures;
      skipped = c.above.ensures;
    }

limit_is : (c : After-limit_of) → c.limit_of.result ≡ nat_abs c.args.limit
limit_is c = c.limit_of.ensures.value ∙ ap nat_abs (to_z-of_z value_width c.args.limit c.ranges.limit)

pub slice_bounds-new-end : goal.slice_bounds-new-end
slice_bounds-new-end c = omega (arith, ends_within _ _ _ _ _ _ _ (part (goal.at.slice_bounds-new-end c).After-above), c.requires.sources)

pub new-field-requires-clause-sources : goal.new-field-requires-clause-sources
new-field-requires-clause-sources c =
    let p = part (goal.at.new-field-requires-clause-sources c).After-above in
    cut_length _ _ _ _ _ _ _ p c.args.sources.now c.requires.sources ∙ count_here _ _ _ _ _ _ _ p c.in-Some.size c.in-Some.ensures.size

pub new-field-requires-clause-friction : goal.new-field-requires-clause-friction
new-field-requires-clause-friction c =
    let p = part (goal.at.new-field-requires-clause-friction c).After-above in
    cut_length _ _ _ _ _ _ _ p c.args.friction.now c.requires.friction ∙ count_here _ _ _ _ _ _ _ p c.in-Some.size c.in-Some.ensures.size

pub new-field-requires-clause-count : goal.new-field-requires-clause-count
new-field-requires-clause-count c =
    let p = part (goal.at.new-field-requires-clause-count c).After-above in
    ap length (c.costs.ensures ∙ sym c.costs-count.ensures) ∙ count_here _ _ _ _ _ _ _ p c.in-Some.size c.in-Some.ensures.size

pub new-field-requires-clause-costs : goal.new-field-requires-clause-costs
new-field-requires-clause-costs c =
    let e = (goal.at.new-field-requires-clause-costs c).After-above in
    let s = c.in-Some.size in
    let gr = ground e in
    let P : ℕ → List ℕ → Type 0 = λ n xs. IsSpread s (cut gr c.args.first c.args.end c.in_ok-costs.costs c.columns-columns.result (length c.costs-count.result.now) c.above.result (part e) gr.sources) (cut gr c.args.first c.args.end c.in_ok-costs.costs c.columns-columns.result (length c.costs-count.result.now) c.above.result (part e) gr.friction) n (shown_cells s n xs) in
    let Q : List ℕ → Type 0 = P gr.limit in
    let R : ℕ → Type 0 = λ n. P n c.costs.result.now in
    subst R (sym (limit_is (goal.at.new-field-requires-clause-costs c).After-limit_of)) (subst Q (sym c.costs.ensures) (spread_here _ _ _ _ _ _ _ (part e) s c.in-Some.ensures.size))

pub returns : goal.returns
returns c =
    let e = (goal.at.returns c).After-above in
    let s = c.in-Some.size in
    let gr = ground e in
    let sources = cut gr c.args.first c.args.end c.in_ok-costs.costs c.columns-columns.result (length c.costs-count.result.now) c.above.result (part e) gr.sources in
    let friction = cut gr c.args.first c.args.end c.in_ok-costs.costs c.columns-columns.result (length c.costs-count.result.now) c.above.result (part e) gr.friction in
    let is : c.new-field.result ≡ list_field (ground_of s sources friction gr.limit) c.in_ok-costs.costs.costs.items =
    c.new-field.ensures
    ∙ ap (λ (n : ℕ). list_field (ground_of s sources friction n) c.costs.result.now) (limit_is (goal.at.returns c).After-limit_of)
    ∙ ap (λ (xs : List ℕ). list_field (ground_of s sources friction gr.limit) xs) c.costs.ensures in
    let P : FieldState → Type 0 = λ f. AreLeastValues f c.in_ok-values.values.items in
    own_band _ _ _ _ _ _ _ (part e) s c.in-Some.ensures.size c.in_ok-values.values.items (subst P is c.in_ok-values.ensures)
