-- The numbers of the nearest sources agree along the steps that least costs use: some values do, and no others are those numbers.
use Rattle.std.proofs.Common.{◌≡◌, ℕ, ◌≤◌, ℤ, Option, Some, None, length, sym, ◌∙◌, ap, subst, arith, inl, inr}
use Rattle.std.specs.Prelude.{◌⊎◌}
use Rattle.std.proofs.lemmas.Bool.{cases_lt}
use Rattle.std.proofs.lemmas.List.{get_or_past}
use Rattle.map_nums.specs.Grids.{Cells, cell_at, cells_in}
use Rattle.map_defs.specs.Nearest.{IsNearestCell, AreNearest, IsNoGreater, BeginsAt, StepsTo, IsLeastValue, nearest_grid}
use Rattle.map_defs.specs.Nets.{Net, IsLeastIn, IsWithin}
use Rattle.map_defs.proofs.NearestCells.{nearest_is, nearest_only, nearest_by_steps, cell_only}
use Rattle.friction_spread.specs.Costs.{net_of}
use Rattle.friction_spread.proofs.Grounds.{net_same, net_costs, values_within}
use Rattle.friction_neighbor.specs.Fields.{FieldState, IsField, cost_at, own_at}
use Rattle.friction_neighbor.specs.Repairs.{wanted_at}
use Rattle.friction_neighbor.proofs.Flooding.{some_or}
use Rattle.friction_neighbor.proofs.Places.{least}
use Rattle.friction_neighbor.proofs.Standing.{value, agrees}

module _ (f : FieldState) (field : IsField f) where
  abbrev net : Net
  net = net_of f.ground

  within : IsWithin net (cost_at f)
  within = values_within f.ground f.costs field.costs.full

  abbrev some_value : ℕ → Option ℤ
  some_value = value net (net_costs f.ground) (cost_at f) within (own_at f)

  stands : (i : ℕ) → IsLeastValue net (cost_at f) (own_at f) some_value i
  stands = agrees net (net_costs f.ground) (cost_at f) within (own_at f)

  near_here : (i : ℕ) → IsNearestCell f.ground.size f.ground.sources f.ground.friction f.ground.limit i (some_value i)
  near_here i =
      let same = sym (net_same f.ground) in
      nearest_by_steps f.ground.size f.ground.sources f.ground.friction f.ground.limit (cost_at f) (λ j. subst (λ (n : Net). IsLeastIn n j (cost_at f j)) same (least f field j)) some_value
      (λ j. subst (λ (n : Net). IsLeastValue n (cost_at f) (own_at f) some_value j) same (stands j)) i

  -- outside the map there is no value
  none_outside : (i : ℕ) → cells_in f.ground.size ≤ i → some_value i ≡ None
  none_outside i l = elim (some_or (some_value i)) as (λ _. some_value i ≡ None) [
    | inl n ↦ n
    | inr z ↦ (let w = within i l in elim ((stands i).attained z.0 z.1) as (λ _. some_value i ≡ None) [ inl b ↦ absurd (omega (arith, w, b.0.0)) | inr s ↦ absurd (omega (arith, w, s.1.0)) ])
  ]

  module _ (cells : Cells) (h : AreNearest f.ground.size f.ground.sources f.ground.friction f.ground.limit cells) where
    is_it : (i : ℕ) → some_value i ≡ cell_at cells i
    is_it i = elim (cases_lt i (cells_in f.ground.size)) as (λ _. some_value i ≡ cell_at cells i) [
      | inl l ↦ cell_only f.ground.size f.ground.sources f.ground.friction f.ground.limit i (some_value i) (cell_at cells i) (near_here i) (h.each i l)
      | inr l ↦ none_outside i l ∙ sym (get_or_past cells i None (omega (arith, l, h.full)))
    ]

    pub nearest_agree : (i : ℕ) → IsLeastValue net (cost_at f) (own_at f) (cell_at cells) i
    nearest_agree i = record {
      attained = λ z e. elim ((stands i).attained z (is_it i ∙ e)) as (λ _. (BeginsAt net (cost_at f) i × (own_at f i ≡ Some z)) ⊎ ((j : ℕ) × StepsTo net (cost_at f) j i × (cell_at cells j ≡ Some z))) [
        | inl b ↦ inl b
        | inr s ↦ inr (s.0, s.1, sym (is_it s.0) ∙ s.2)
      ];
      begun = λ z b o. let P : Option ℤ → Type 0 = λ c. IsNoGreater c z in subst P (is_it i) ((stands i).begun z b o);
      stepped = λ j z s e. let P : Option ℤ → Type 0 = λ c. IsNoGreater c z in subst P (is_it i) ((stands i).stepped j z s (is_it j ∙ e));
    }

    pub nearest_wanted : (i : ℕ) → cell_at cells i ≡ wanted_at f i
    nearest_wanted i = ap (λ (xs : Cells). cell_at xs i) (nearest_only f.ground.size f.ground.sources f.ground.friction f.ground.limit cells (nearest_grid f.ground.limit f.ground.size f.ground.sources f.ground.friction).cells h (nearest_is f.ground.size f.ground.sources f.ground.friction f.ground.limit))

  pub wanted_agree : (i : ℕ) → IsLeastValue net (cost_at f) (own_at f) (wanted_at f) i
  wanted_agree = nearest_agree (nearest_grid f.ground.limit f.ground.size f.ground.sources f.ground.friction).cells (nearest_is f.ground.size f.ground.sources f.ground.friction f.ground.limit)

  pub wanted_nearest : (cells : Cells) → length cells ≡ cells_in f.ground.size → ((i : ℕ) → cell_at cells i ≡ wanted_at f i) → AreNearest f.ground.size f.ground.sources f.ground.friction f.ground.limit cells
  wanted_nearest cells n h = record {
    full = n;
    each = λ i l. let P : Option ℤ → Type 0 = IsNearestCell f.ground.size f.ground.sources f.ground.friction f.ground.limit i in subst P (sym (h i)) ((nearest_is f.ground.size f.ground.sources f.ground.friction f.ground.limit).each i l);
  }
