use Rattle.std.proofs.Common.{◌≡◌, ℕ, suc, ◌<◌, List, None, length, min, get_or, sym, ◌∙◌, ap, arith, inl, inr}
use Rattle.std.proofs.lemmas.Bool.{cases_lt, lt-leb, le-leb}
use Rattle.std.proofs.lemmas.List.{get_or_default}
use Rattle.std.proofs.lemmas.List.FromFn.{get_or-map-range_with_len}
use Rattle.map_nums.specs.Grids.{Size, cells_in}
use Rattle.map_defs.specs.Rounds.{cost_cell}
use Rattle.friction_spread.specs.Costs.{cost_of, values}
use Rattle.friction_spread.specs.Shown.{shown_at, shown_cells}
use Rattle.friction_neighbor.specs.Fields.{FieldState, cost_at}
use Rattle.friction_neighbor.proofs.fields.CostField.cost.Goals as goal

capped : (limit v : ℕ) → cost_of (suc limit) (cost_cell limit v) ≡ min v (suc limit)
capped limit v = elim (cases_lt limit v) as (λ _. cost_of (suc limit) (cost_cell limit v) ≡ min v (suc limit)) [
  | inl m ↦ rw (lt-leb v limit m) (omega (arith, m))
  | inr m ↦ rw (le-leb v limit m) (omega (arith, m))
]

value_at : (s : Size) (limit : ℕ) (costs : List ℕ) (i : ℕ) → i < cells_in s → length costs ≡ cells_in s → values limit (shown_cells s limit costs) i ≡ min (get_or costs i 0) (suc limit)
value_at s limit costs i l n =
    ap (cost_of (suc limit)) (get_or-map-range_with_len (shown_at limit costs) 0 (cells_in s) i i None l (omega arith))
    ∙ capped limit (get_or costs i (suc limit)) ∙ ap (λ v. min v (suc limit)) (sym (get_or_default costs i 0 (suc limit) (omega (arith, l, n))))

pub returns-clause-value : goal.returns-clause-value
returns-clause-value c =
    let f = c.self.inside in
    let l : c.args.at < cells_in f.extent = omega (arith, c.requires, ap (λ (g : FieldState). cells_in g.ground.size) c.self.view_is) in
    c.min.ensures ∙ ap (min (get_or f.costs.now c.args.at 0)) (omega arith) ∙ sym (value_at f.extent f.limit f.costs.now c.args.at l c.self.invariant.0) ∙ ap (λ (g : FieldState). cost_at g c.args.at) c.self.view_is
