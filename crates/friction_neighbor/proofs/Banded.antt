-- Bands of rows as fields of their own, and what is made of them.
use Rattle.std.proofs.Common.{◌≡◌, inl, inr, ℕ, ◌+◌, ◌-◌, ◌*◌, ◌/◌, ◌≤◌, List, [], ◌∷◌, length, length-drop, map, take, drop, None, sym, ◌∙◌, ap, subst, arith}
use Rattle.std.proofs.lemmas.Bool.{cases_lt}
use Rattle.std.proofs.lemmas.List.{get_or_past, length-take-le}
use Rattle.std.proofs.lemmas.Nat.{div-mul-add, mul-le}
use Rattle.map_nums.specs.Grids.{Size, IsSize, Cells, cell_at, cells_in}
use Rattle.map_defs.specs.Nearest.{AreNearest}
use Rattle.map_defs.specs.Spread.{IsSpread}
use Rattle.friction_spread.specs.Bands.{ground_of, rows_of, band_of, IsCostBand, AreCostBands}
use Rattle.friction_spread.specs.Costs.{GroundState}
use Rattle.friction_spread.specs.Shown.{shown_cells as cost_cells}
use Rattle.friction_spread.specs.declared.bands.CostBand.{CostBand}
use Rattle.friction_spread.proofs.Showing.{shown_spread}
use Rattle.friction_neighbor.specs.declared.bands.NearestBand.{NearestBand}
use Rattle.friction_neighbor.specs.Bands.{IsOwnBand, AreNearestBands, AreBandsOf}
use Rattle.friction_neighbor.specs.Fields.{FieldState, IsField, AreLeastValues, list_field}
use Rattle.friction_neighbor.specs.Repairs.{AreWanted}
use Rattle.friction_neighbor.specs.Shown.{shown_cells}
use Rattle.friction_neighbor.proofs.Agreeing.{wanted_nearest}
use Rattle.friction_neighbor.proofs.Results.{shown_count, shown_at}

-- ---- the rows of a band, cut out of a map's

-- the costs of a band, and how many columns and places it has, and rows taken in above
pub record IsPart (g : GroundState) (first end : ℕ) (costs : CostBand) (columns count above : ℕ) : Type 0 where
  pub size : IsSize g.size
  pub band : IsCostBand g first end costs
  pub wide : columns ≡ g.size.columns
  pub many : count ≡ length costs.costs.items
  pub skipped : above ≡ costs.above

module _ (g : GroundState) (first end : ℕ) (costs : CostBand) (columns count above : ℕ) (part : IsPart g first end costs columns count above) where
  abbrev band : IsCostBand g first end costs
  band = part.band

  abbrev start : ℕ
  start = (first - above) * columns

  abbrev pub cut : Cells → Cells
  cut cells = take (start + count - start) (drop start cells)

  counted : count ≡ (band.until - band.from) * columns
  counted = part.many ∙ band.count ∙ ap (λ n. (band.until - band.from) * n) (sym part.wide)

  begins : start ≡ band.from * columns
  begins = let e : first - above ≡ band.from = omega (arith, part.skipped, band.above) in ap (λ n. n * columns) e

  rows_counted : count / columns ≡ band.until - band.from
  rows_counted = let e : count ≡ (band.until - band.from) * columns + 0 = omega (arith, counted) in ap (λ n. n / columns) e ∙ div-mul-add (band.until - band.from) columns 0 (omega (arith, part.wide, part.size.some_column))

  pub ends_within : start + count ≤ cells_in g.size
  ends_within =
      let e : band.from + (band.until - band.from) ≡ band.until = omega (arith, band.some, band.above, band.below) in
      let m : band.until * columns ≤ g.size.rows * g.size.columns = mul-le band.until columns g.size.rows g.size.columns band.within (omega (arith, part.wide)) in
      omega (arith, begins, counted, ap (λ n. n * columns) e, m)

  pub cut_length : (cells : Cells) → length cells ≡ cells_in g.size → length (cut cells) ≡ count
  cut_length cells n = length-take-le (start + count - start) (drop start cells) (omega (arith, length-drop start cells, n, ends_within)) ∙ omega arith

  cut_same : (cells : Cells) → cut cells ≡ rows_of g.size band.from band.until cells
  cut_same cells =
      let w = g.size.columns in
      let n : start + count - start ≡ (band.until - band.from) * w = omega (arith, part.many, band.count) in
      let m : start ≡ band.from * w = begins ∙ ap (λ n. band.from * n) part.wide in
      ap (λ k. take k (drop start cells)) n ∙ ap (λ k. take ((band.until - band.from) * w) (drop k cells)) m

  module _ (s : Size) (same : s ≡ record { rows = count / columns; columns = columns }) where
    -- the band as a ground of its own
    abbrev pub own : GroundState
    own = ground_of s (cut g.sources) (cut g.friction) g.limit

    band_here : own ≡ band_of g band.from band.until
    band_here =
        let h = band_of g band.from band.until in
        ap (λ (z : Size). ground_of z (cut g.sources) (cut g.friction) g.limit) (same ∙ ap (λ n. let z : Size = record { rows = n; columns = columns } in z) rows_counted ∙ ap (λ n. let z : Size = record { rows = band.until - band.from; columns = n } in z) part.wide)
        ∙ ap (λ (xs : Cells). ground_of h.size xs (cut g.friction) g.limit) (cut_same g.sources)
        ∙ ap (λ (xs : Cells). ground_of h.size h.sources xs g.limit) (cut_same g.friction)

    pub count_here : count ≡ cells_in s
    count_here = part.many ∙ band.count ∙ ap (λ (k : GroundState). cells_in k.size) (sym band_here)

    pub spread_here : IsSpread s (cut g.sources) (cut g.friction) g.limit (cost_cells s g.limit costs.costs.items)
    spread_here =
        let P : GroundState → Type 0 = λ k. IsSpread k.size k.sources k.friction k.limit (cost_cells k.size k.limit costs.costs.items) in
        subst P (sym band_here) (shown_spread (band_of g band.from band.until) costs.costs.items band.count band.least)

    pub own_band : (values : Cells) → AreLeastValues (list_field own costs.costs.items) values → IsOwnBand g first end costs values
    own_band values h = record {
      are_costs = band;
      are_values = let P : GroundState → Type 0 = λ k. AreLeastValues (list_field k costs.costs.items) values in subst P band_here h;
    }

-- ---- bands one below the other, their costs and their values apart

pub costs_apart : (g : GroundState) (row : ℕ) (bands : List NearestBand) → AreNearestBands g row bands → AreCostBands g row (map (λ (b : NearestBand). b.costs) bands)
costs_apart g row [] h = h
costs_apart g row (one ∷ bands) h = (h.0, h.1.are_costs, costs_apart g h.0 bands h.2)

pub both_apart : (g : GroundState) (row : ℕ) (bands : List NearestBand) → AreNearestBands g row bands → AreBandsOf g row (map (λ (b : NearestBand). b.costs) bands) (map (λ (b : NearestBand). b.values) bands)
both_apart g row [] h = h
both_apart g row (one ∷ bands) h = (h.0, h.1, both_apart g h.0 bands h.2)

-- ---- values that are shown

shown_same : (s : Size) (values : Cells) (i : ℕ) → length values ≡ cells_in s → cell_at (shown_cells s values) i ≡ cell_at values i
shown_same s values i n = elim (cases_lt i (cells_in s)) as (λ _. cell_at (shown_cells s values) i ≡ cell_at values i) [
  | inl l ↦ shown_at s values i l
  | inr l ↦ get_or_past (shown_cells s values) i None (omega (arith, l, shown_count s values)) ∙ sym (get_or_past values i None (omega (arith, l, n)))
]

pub wanted_shown : (f : FieldState) → IsField f → (values : Cells) → length values ≡ cells_in f.ground.size → AreWanted f values → AreNearest f.ground.size f.ground.sources f.ground.friction f.ground.limit (shown_cells f.ground.size values)
wanted_shown f field values n right = wanted_nearest f field (shown_cells f.ground.size values) (shown_count f.ground.size values) (λ i. shown_same f.ground.size values i n ∙ right i)
