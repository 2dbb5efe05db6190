-- What cells show that are a spread: the least costs of the net, since the spread that those give is the only one.
use Rattle.std.proofs.Common.{◌≡◌, inl, inr, ℕ, suc, ◌<◌, ◌≤◌, List, [], ◌∷◌, map, Option, None, refl, sym, ◌∙◌, ap, subst, arith, ℤ}
use Rattle.std.specs.List.{range_with_len}
use Rattle.std.proofs.lemmas.Bool.{cases_lt, lt-leb}
use Rattle.std.proofs.lemmas.List.{get_or_past}
use Rattle.std.proofs.lemmas.List.FromFn.{get_or-map-range_with_len, length-map-range_with_len}
use Rattle.map_nums.specs.Grids.{Cells, cell_at, cells_in}
use Rattle.map_defs.specs.Nets.{Net, cost_in, IsLeastIn}
use Rattle.map_defs.specs.Spread.{IsSpread, IsSpreadCell}
use Rattle.map_defs.specs.Rounds.{spread_net, cost_cell}
use Rattle.map_defs.proofs.SpreadNet.{spread_closed, spread_has_costs}
use Rattle.map_defs.proofs.SpreadCells.{cost_is_cell, cost_from_net, spread_only}
use Rattle.friction_spread.specs.Costs.{GroundState, cost_of, values, AreCosts, net_of}
use Rattle.friction_spread.proofs.Grounds.{net_same, net_closed, cost_back}
use Rattle.least_costs.proofs.Existing.{HasLeast, has_least}

-- ---- cells that are a spread show them

module _ (g : GroundState) (cells : Cells) (right : IsSpread g.size g.sources g.friction g.limit cells) where
  abbrev net : Net
  net = spread_net g.size g.sources g.friction (suc g.limit)

  found : HasLeast net (spread_closed g.size g.sources g.friction (suc g.limit))
  found = has_least net (spread_closed g.size g.sources g.friction (suc g.limit)) (spread_has_costs g.size g.sources g.friction (suc g.limit) (omega arith))

  abbrev grid : Cells
  grid = map (λ i. cost_cell g.limit (found.value i)) (range_with_len 0 (cells_in g.size))

  grid_at : (i : ℕ) → i < cells_in g.size → cell_at grid i ≡ cost_cell g.limit (found.value i)
  grid_at i l = get_or-map-range_with_len (λ i. cost_cell g.limit (found.value i)) 0 (cells_in g.size) i i None l (omega arith)

  grid_spread : IsSpread g.size g.sources g.friction g.limit grid
  grid_spread = record {
    full = length-map-range_with_len (λ i. cost_cell g.limit (found.value i)) 0 (cells_in g.size);
    each = λ i l. let P : Option ℤ → Type 0 = IsSpreadCell g.size g.sources g.friction g.limit i in
        subst P (sym (grid_at i l)) (cost_is_cell g.size g.sources g.friction g.limit i (found.value i) (cost_from_net g.size g.sources g.friction g.limit i (found.value i) (found.least_in i)));
  }

  cell_is : (i : ℕ) → i < cells_in g.size → cell_at cells i ≡ cost_cell g.limit (found.value i)
  cell_is i l = ap (λ xs. cell_at xs i) (spread_only g.size g.sources g.friction g.limit cells grid right grid_spread) ∙ grid_at i l

  most : (i : ℕ) → found.value i ≤ suc g.limit
  unfolding spread_net
  most i = (found.least_in i).capped

  value_is : (i : ℕ) → i < cells_in g.size → values g.limit cells i ≡ found.value i
  value_is i l = ap (cost_of (suc g.limit)) (cell_is i l) ∙ cost_back g.limit (found.value i) (most i)

  least_here : (i : ℕ) → i < cells_in g.size → IsLeastIn (net_of g) i (values g.limit cells i)
  least_here i l =
      let P : ℕ → Type 0 = IsLeastIn (net_of g) i in
      let Q : Net → Type 0 = λ n. IsLeastIn n i (found.value i) in
      subst P (sym (value_is i l)) (subst Q (net_same g) (found.least_in i))

  pub costs_here : AreCosts g.limit cells
  costs_here i = elim (cases_lt i (cells_in g.size)) as (λ _. cell_at cells i ≡ cost_cell g.limit (values g.limit cells i)) [
    | inl l ↦ cell_is i l ∙ ap (cost_cell g.limit) (sym (value_is i l))
    | inr l ↦ (let e : cell_at cells i ≡ None = get_or_past cells i None (omega (arith, l, right.full)) in e ∙ sym (rw (e) (rw (lt-leb (suc g.limit) g.limit (omega arith)) refl)))
  ]

  pub least_all : (i : ℕ) → IsLeastIn (net_of g) i (values g.limit cells i)
  least_all i = elim (cases_lt i (cells_in g.size)) as (λ _. IsLeastIn (net_of g) i (values g.limit cells i)) [
    | inl l ↦ least_here i l
    | inr l ↦ (let e : cell_at cells i ≡ None = get_or_past cells i None (omega (arith, l, right.full)) in
        let P : Option ℤ → Type 0 = λ c. IsLeastIn (net_of g) i (cost_of (suc g.limit) c) in
        subst P (sym e) (record { capped = omega arith; least = outside_costs i l; reached = λ h. absurd (omega (arith, h)) }))
  ]
    where
      outside_costs : (i : ℕ) → cells_in g.size ≤ i → (js : List ℕ) → suc g.limit ≤ cost_in (net_of g) i js
      outside_costs i l [] = (net_closed g).begins_within i l
      outside_costs i l (j ∷ js) = omega (arith, (net_closed g).steps_within j i l)
