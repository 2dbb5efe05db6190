-- Values of bands of rows that come one below the other: a place of a band has its least value in the map too, where no other band lies beside
-- its row, and its cost and those of the places near it are the band's.
use Rattle.std.proofs.Common.{◌≡◌, inl, inr, ℕ, ◌+◌, ◌-◌, ◌*◌, ◌<◌, ◌≤◌, ℤ, true, false, List, [], ◌∷◌, ◌++◌, length, length-append, length-drop, get_or, drop, Option, Some, None, IsTrue, refl, sym, ◌∙◌, ap, subst, arith, take, min, suc, ◌≢◌}
use Rattle.std.specs.Prelude.{◌⊎◌, Vec}
use Rattle.std.specs.declared.alloc.Global.{Global}
use Rattle.std.proofs.lemmas.Bool.{cases_lt, cases_Bool, both_ways}
use Rattle.std.proofs.lemmas.List.{get_or_append_left, get_or-append_right, get_or_past, drop_more, drop_all, length-take-le}
use Rattle.std.proofs.lemmas.Nat.{mul-le}
use Rattle.map_nums.specs.Grids.{Cells, cell_at, cells_in, row_of, column_of, gap}
use Rattle.map_nums.specs.Numbers.{is_value}
use Rattle.map_defs.specs.Nearest.{BeginsAt, StepsTo}
use Rattle.layer_tiles.specs.Cells.{IsCell}
use Rattle.least_costs.proofs.Equations.{same_or}
use Rattle.tile_work.specs.PlaceSets.{PlaceSetState}
use Rattle.friction_spread.specs.declared.bands.CostBand.{CostBand}
use Rattle.friction_spread.specs.Bands.{rows_of, band_of, IsCostBand}
use Rattle.friction_spread.specs.Costs.{GroundState, base_of, step_of, net_of}
use Rattle.friction_spread.specs.Flat.{costs_of}
use Rattle.friction_spread.specs.Joins.{IsAtSeam}
use Rattle.friction_spread.proofs.Banding.{seam_or, cell_kept, base_kept, joined_up, joined_down, step_kept, leads_inside}
use Rattle.friction_spread.proofs.Flats.{cost_read}
use Rattle.friction_spread.proofs.Grounds.{IsJoined, leads, net_costs}
use Rattle.friction_spread.proofs.Showing.{shown_values}
use Rattle.friction_neighbor.specs.Bands.{IsOwnBand, AreBandsOf}
use Rattle.friction_neighbor.specs.Fields.{FieldState, IsField, AreLeastValues, list_field, cost_at, own_at}
use Rattle.friction_neighbor.specs.Gathers.{IsLeastHere}
use Rattle.friction_neighbor.specs.Joins.{IsListRepair, AreBandMarked, AreReadyTo}
use Rattle.friction_neighbor.specs.Mending.{Waits}
use Rattle.friction_neighbor.specs.Puts.{is_marked, ArePut, RoundMarked}
use Rattle.friction_neighbor.specs.Repairs.{wanted_at}
use Rattle.friction_neighbor.proofs.Begun.{outside_least}
use Rattle.friction_neighbor.proofs.Places.{steps_near}
use Rattle.friction_neighbor.proofs.Righting.{least_same}

turned : (g : GroundState) (j i : ℕ) → IsJoined g j i → IsJoined g i j
turned g j i q = record { from = q.to; to = q.from; from_open = q.to_open; to_open = q.from_open; other = λ e. q.other (sym e); rows = omega (arith, q.rows); columns = omega (arith, q.columns) }

cell_of_range : (c : Option ℤ) → ((w : ℤ) → c ≡ Some w → IsTrue (is_value w)) → IsCell c
cell_of_range None h = tt
cell_of_range (Some z) h = h z refl

by_part : (P : ℕ → Type 0) (up many : ℕ) → ((i : ℕ) → i < up → P i) → ((k : ℕ) → k < many → P (up + k)) → ((i : ℕ) → up + many ≤ i → P i) → (i : ℕ) → P i
by_part P up many a b o i = elim (cases_lt i up) as (λ _. P i) [
  | inl l ↦ a i l
  | inr l ↦ (let q : up + (i - up) ≡ i = omega (arith, l) in elim (cases_lt (i - up) many) as (λ _. P i) [
    | inl m ↦ subst P q (b (i - up) m)
    | inr m ↦ o i (omega (arith, l, m))
  ])
]

-- a band of a map, whose rows are `first` to before `end`
module _ (f : FieldState) (field : IsField f) (first end : ℕ) (band : CostBand) (costs : IsCostBand f.ground first end band) where
  abbrev g : GroundState
  g = f.ground

  abbrev w : ℕ
  w = g.size.columns

  abbrev from : ℕ
  from = costs.from

  abbrev until : ℕ
  until = costs.until

  abbrev taken : GroundState
  taken = band_of g from until

  -- the band as a field of its own
  abbrev b : FieldState
  b = list_field taken band.costs.items

  -- the places above the band, and in it, and those taken in above it
  abbrev up : ℕ
  up = first * w

  abbrev many : ℕ
  many = band.rows * w

  abbrev skipped : ℕ
  skipped = band.above * w

  some_column : 0 < w
  some_column = field.size.some_column

  within : end ≤ g.size.rows
  within = omega (arith, costs.below, costs.within)

  more : from < until
  more = omega (arith, costs.some, costs.above, costs.below)

  moved : (k : ℕ) → from * w + (skipped + k) ≡ up + k
  moved k = omega (arith, ap (λ n. n * w) costs.above)

  past : up + many ≡ end * w
  past = omega (arith, ap (λ n. n * w) costs.rows)

  room : skipped + many ≤ (until - from) * w
  room = omega (arith, mul-le (band.above + band.rows) w (until - from) w (omega (arith, costs.rows, costs.above, costs.below)) (omega arith))

  fits : (k : ℕ) → k < many → skipped + k < (until - from) * w
  fits k l = omega (arith, l, room)

  inside : (k : ℕ) → k < many → up + k < cells_in g.size
  inside k l = omega (arith, l, past, mul-le end w g.size.rows w within (omega arith))

  rows_same : (end - first) * w ≡ many
  rows_same = let e : end - first ≡ band.rows = omega (arith, costs.rows) in ap (λ n. n * w) e

  -- ---- as it is read

  module _ (above rows columns : ℕ) (skips : above ≡ band.above) (has : rows ≡ band.rows) (width : columns ≡ w) where
    skips_so : above * columns ≡ skipped
    skips_so = ap (λ n. n * columns) skips ∙ ap (λ n. band.above * n) width

    has_so : rows * columns ≡ many
    has_so = ap (λ n. n * columns) has ∙ ap (λ n. band.rows * n) width

    pub place_inside : (k : ℕ) → k < rows * columns → first * columns + k < cells_in g.size
    place_inside k l = omega (arith, ap (λ n. first * n) width, inside k (omega (arith, l, has_so)))

    pub cost_inside : (k : ℕ) → k < rows * columns → above * columns + k < length band.costs.items
    cost_inside k l = omega (arith, skips_so, fits k (omega (arith, l, has_so)), costs.count)

    pub own_ends : (part : Cells) → length part ≡ (until - from) * w → above * columns + rows * columns ≤ length part
    own_ends part n = omega (arith, skips_so, has_so, room, n)

    pub own_cut : (part : Cells) → take (above * columns + rows * columns - above * columns) (drop (above * columns) part) ≡ rows_of g.size band.above (band.above + band.rows) part
    own_cut part =
        let r : band.above + band.rows - band.above ≡ band.rows = omega arith in
        let e : above * columns + rows * columns - above * columns ≡ (band.above + band.rows - band.above) * w = omega (arith, has_so, ap (λ n. n * w) r) in
        ap (λ n. take n (drop (above * columns) part)) e ∙ ap (λ n. take ((band.above + band.rows - band.above) * w) (drop n part)) skips_so

    -- the cost that is read there is the band's
    pub cost_is : (k : ℕ) → k < rows * columns → min (get_or band.costs.items (above * columns + k) 0) (suc g.limit) ≡ costs_of g band.costs.items (skipped + k)
    cost_is k l =
        let e : above * columns + k ≡ skipped + k = ap (λ n. n + k) skips_so in
        let i = cost_inside k l in
        omega (arith, cost_read g band.costs.items (above * columns + k) i, ap (costs_of g band.costs.items) e, (costs.least (skipped + k)).capped)

  -- all near places before the k-th that have another cost in the map are marked
  abbrev AreMovedTo : ℕ → PlaceSetState → Type 0
  AreMovedTo k seen = (m : ℕ) → m < k → cost_at f (up + m) ≢ costs_of g band.costs.items (skipped + m) → RoundMarked f 0 seen (up + m)

  pub one_moved : (seen seen' : PlaceSetState) (k : ℕ) → ((i : ℕ) → is_marked seen i ≡ true → is_marked seen' i ≡ true) → (cost_at f (up + k) ≢ costs_of g band.costs.items (skipped + k) → RoundMarked f 0 seen' (up + k)) → AreMovedTo k seen → AreMovedTo (k + 1) seen'
  one_moved seen seen' k kept here before m l d = elim (cases_lt m k) as (λ _. RoundMarked f 0 seen' (up + m)) [
    | inl u ↦ (λ j n r c x. kept j (before m u d j n r c x))
    | inr u ↦ (let e : k ≡ m = omega (arith, l, u) in let P : ℕ → Type 0 = λ x. cost_at f (up + x) ≢ costs_of g band.costs.items (skipped + x) → RoundMarked f 0 seen' (up + x) in subst P e here d)
  ]

  -- ---- what it shares with the map

  cost_there : (k : ℕ) → cost_at b k ≡ costs_of g band.costs.items k
  cost_there k = shown_values taken band.costs.items costs.count costs.least k

  base_same : (k : ℕ) → k < many → base_of taken (skipped + k) ≡ base_of g (up + k)
  base_same k l = base_kept g from until some_column more costs.within (skipped + k) (fits k l) ∙ ap (base_of g) (moved k)

  source_same : (k : ℕ) → k < many → own_at b (skipped + k) ≡ own_at f (up + k)
  source_same k l = cell_kept g.size from until g.sources (skipped + k) (fits k l) ∙ ap (cell_at g.sources) (moved k)

  joined_there : (j i : ℕ) → j < many → i < many → IsJoined g (up + j) (up + i) → IsJoined taken (skipped + j) (skipped + i)
  joined_there j i l m q =
      let r : IsJoined g (from * w + (skipped + j)) (from * w + (skipped + i)) = subst (λ x. IsJoined g x (from * w + (skipped + i))) (sym (moved j)) (subst (IsJoined g (up + j)) (sym (moved i)) q) in
      joined_down g from until some_column more costs.within (skipped + j) (skipped + i) (fits j l) (fits i m) r

  step_same : (j i : ℕ) → IsJoined taken (skipped + j) (skipped + i) → step_of g (up + j) (up + i) ≡ step_of taken (skipped + j) (skipped + i)
  step_same j i q =
      ap (λ x. step_of g x (up + i)) (sym (moved j)) ∙ ap (step_of g (from * w + (skipped + j))) (sym (moved i)) ∙ step_kept g from until some_column more costs.within (skipped + j) (skipped + i) q

  module _ (part : Cells) (least_values : AreLeastValues b part) where
    -- the values of its own rows
    abbrev mine : Cells
    mine = rows_of g.size band.above (band.above + band.rows) part

    -- ---- a place of it at no seam, where the costs near are the band's

    module _ (k : ℕ) (l : k < many) (apart : IsAtSeam g.size first end (up + k) → ⊥) (same : (m : ℕ) → m < many → gap (row_of g.size (up + m)) (row_of g.size (up + k)) ≤ 1 → gap (column_of g.size (up + m)) (column_of g.size (up + k)) ≤ 1 → cost_at f (up + m) ≡ costs_of g band.costs.items (skipped + m)) where
      from_inside : (i : ℕ) → IsJoined g i (up + k) → (m : ℕ) × (m < many) × (up + m ≡ i)
      from_inside i q =
          let n = leads_inside g first end some_column costs.some within k i (omega (arith, l, rows_same)) apart (turned g i (up + k) q) in
          (i - up, omega (arith, n.0, n.1, rows_same), omega (arith, n.0))

      cost_same : (m : ℕ) → m < many → gap (row_of g.size (up + m)) (row_of g.size (up + k)) ≤ 1 → gap (column_of g.size (up + m)) (column_of g.size (up + k)) ≤ 1 → cost_at f (up + m) ≡ cost_at b (skipped + m)
      cost_same m n r c = same m n r c ∙ sym (cost_there (skipped + m))

      here : cost_at f (up + k) ≡ cost_at b (skipped + k)
      here = cost_same k l (omega arith) (omega arith)

      steps_there : (j : ℕ) → StepsTo (net_of g) (cost_at f) j (up + k) → (m : ℕ) × (m < many) × StepsTo (net_of taken) (cost_at b) (skipped + m) (skipped + k) × (up + m ≡ j)
      steps_there j s =
          let q = steps_near f field j (up + k) s in
          let r = from_inside j q in
          let p : IsJoined g (up + r.0) (up + k) = subst (λ x. IsJoined g x (up + k)) (sym r.2) q in
          let t : StepsTo (net_of g) (cost_at f) (up + r.0) (up + k) = subst (λ x. StepsTo (net_of g) (cost_at f) x (up + k)) (sym r.2) s in
          (r.0, r.1, (omega (arith, t.0, here), omega (arith, t.1, here, cost_same r.0 r.1 p.rows p.columns, step_same r.0 k (joined_there r.0 k r.1 l p))), r.2)

      steps_back : (j : ℕ) → StepsTo (net_of taken) (cost_at b) j (skipped + k) → (m : ℕ) × (m < many) × StepsTo (net_of g) (cost_at f) (up + m) (up + k) × (skipped + m ≡ j)
      steps_back j s =
          let q = leads taken j (skipped + k) (omega (arith, s.0, s.1)) in
          let o : IsJoined g (from * w + j) (up + k) = subst (IsJoined g (from * w + j)) (moved k) (joined_up g from until some_column more costs.within j (skipped + k) q) in
          let r = from_inside (from * w + j) o in
          let e : skipped + r.0 ≡ j = omega (arith, r.2, moved r.0) in
          let p : IsJoined g (up + r.0) (up + k) = subst (λ x. IsJoined g x (up + k)) (sym r.2) o in
          let t : StepsTo (net_of taken) (cost_at b) (skipped + r.0) (skipped + k) = subst (λ x. StepsTo (net_of taken) (cost_at b) x (skipped + k)) (sym e) s in
          (r.0, r.1, (omega (arith, t.0, here), omega (arith, t.1, here, cost_same r.0 r.1 p.rows p.columns, step_same r.0 k (joined_there r.0 k r.1 l p))), e)

      least_here : (values : Cells) → ((m : ℕ) → m < many → cell_at values (up + m) ≡ cell_at part (skipped + m)) → IsLeastHere f values (up + k) (cell_at values (up + k))
      least_here values kept =
          let h = least_values.each (skipped + k) in
          let P : Option ℤ → Type 0 = IsLeastHere f values (up + k) in
          subst P (sym (kept k l)) (record {
            attained = λ z e. elim (h.attained z e) as (λ _. (BeginsAt (net_of g) (cost_at f) (up + k) × (own_at f (up + k) ≡ Some z)) ⊎ ((j : ℕ) × StepsTo (net_of g) (cost_at f) j (up + k) × (cell_at values j ≡ Some z))) [
              | inl x ↦ inl ((omega (arith, x.0.0, here), omega (arith, x.0.1, here, base_same k l)), sym (source_same k l) ∙ x.1)
              | inr x ↦ (let r = steps_back x.0 x.1 in inr (up + r.0, r.2, kept r.0 r.1 ∙ ap (cell_at part) r.3 ∙ x.2))
            ];
            begun = λ z x o. h.begun z (omega (arith, x.0, here), omega (arith, x.1, here, base_same k l)) (source_same k l ∙ o);
            stepped = λ j z s e. let r = steps_there j s in h.stepped (skipped + r.0) z r.2 (sym (kept r.0 r.1) ∙ ap (cell_at values) r.3 ∙ e);
          })

    -- ---- its values below those of the rows above

    mine_at : (k : ℕ) → k < many → cell_at mine k ≡ cell_at part (skipped + k)
    mine_at k l = let e : band.above + band.rows - band.above ≡ band.rows = omega arith in cell_kept g.size band.above (band.above + band.rows) part k (omega (arith, l, ap (λ n. n * w) e))

    mine_count : length mine ≡ many
    mine_count =
        let e : band.above + band.rows - band.above ≡ band.rows = omega arith in
        let n : (band.above + band.rows - band.above) * w ≡ many = ap (λ n. n * w) e in
        length-take-le ((band.above + band.rows - band.above) * w) (drop skipped part) (omega (arith, length-drop skipped part, least_values.count, room, n)) ∙ n

    module _ (values : Cells) (entries entries' : List (ℕ × ℕ)) (seen seen' : PlaceSetState) (now : AreReadyTo f first values entries seen) (put : ArePut f entries seen entries' seen') (marked : AreBandMarked f first end band seen') where
      abbrev all : Cells
      all = values ++ mine

      upper : (i : ℕ) → i < up → cell_at all i ≡ cell_at values i
      upper i l = get_or_append_left values mine None i (omega (arith, l, now.count))

      lower : (k : ℕ) → k < many → cell_at all (up + k) ≡ cell_at part (skipped + k)
      lower k l = let e : up + k - up ≡ k = omega arith in get_or-append_right values mine up (up + k) None now.count (omega arith) ∙ ap (cell_at mine) e ∙ mine_at k l

      count : length all ≡ end * w
      count = omega (arith, length-append values mine, now.count, mine_count, past)

      cell : (i : ℕ) → IsCell (cell_at all i)
      cell = by_part (λ i. IsCell (cell_at all i)) up many
          (λ i l. subst IsCell (sym (upper i l)) (now.cells.each i))
          (λ k l. subst IsCell (sym (lower k l)) (cell_of_range (cell_at part (skipped + k)) (least_values.in_range (skipped + k))))
          (λ i l. let e : cell_at all i ≡ None = get_or_past all i None (omega (arith, l, count, past)) in subst IsCell (sym e) tt)

      -- near a place that is not marked, all have the band's costs
      unmoved : (k : ℕ) → k < many → is_marked seen' (up + k) ≡ false → (m : ℕ) → m < many → gap (row_of g.size (up + m)) (row_of g.size (up + k)) ≤ 1 → gap (column_of g.size (up + m)) (column_of g.size (up + k)) ≤ 1 → cost_at f (up + m) ≡ costs_of g band.costs.items (skipped + m)
      unmoved k l none m n r c = elim (same_or (cost_at f (up + m)) (costs_of g band.costs.items (skipped + m))) as (λ _. cost_at f (up + m) ≡ costs_of g band.costs.items (skipped + m)) [
        | inl e ↦ e
        | inr d ↦ absurd (both_ways (is_marked seen' (up + k)) none (marked.moved m n d (up + k) (inside k l) r c (omega arith)))
      ]

      abbrev IsReady : ℕ → Type 0
      IsReady i = (is_marked seen' i ≡ true) ⊎ (IsLeastHere f all i (cell_at all i) × ((j : ℕ) → StepsTo (net_of g) (cost_at f) j i → j < end * w))

      ready_above : (i : ℕ) → i < up → IsReady i
      ready_above i l = elim (now.each i l) as (λ _. IsReady i) [
        | inl m ↦ inl (put.marked i m)
        | inr h ↦ inr (least_same (net_of g) (net_costs g) (cost_at f) (own_at f) (cell_at values) (cell_at all) i (cell_at values i) (cell_at all i) (λ j s. sym (upper j (h.1 j s))) (sym (upper i l)) h.0, λ j s. omega (arith, h.1 j s, past))
      ]

      ready_here : (k : ℕ) → k < many → IsReady (up + k)
      ready_here k l = elim (cases_Bool (is_marked seen' (up + k))) as (λ _. IsReady (up + k)) [
        | inl m ↦ inl m
        | inr none ↦ elim (seam_or g.size first end (up + k)) as (λ _. IsReady (up + k)) [
          | inl s ↦ inl (marked.seams (up + k) (inside k l) s)
          | inr apart ↦ (let same = unmoved k l none in inr (least_here k l apart same all lower, λ j s. let r = steps_there k l apart same j s in omega (arith, r.1, r.3, past)))
        ]
      ]

      pub ready : AreReadyTo f end all entries' seen'
      ready = record {
        size = put.size ∙ now.size;
        count = count;
        cells = record { each = cell };
        waiting = put.each now.waiting;
        waits = λ i m. elim (put.entered i m) as (λ _. Waits (cost_at f) entries' i) [ inl o ↦ put.kept (cost_at f i, i) (now.waits i o) | inr n ↦ n ];
        each = by_part (λ i. i < end * w → IsReady i) up many (λ i l m. ready_above i l) (λ k l m. ready_here k l) (λ i l m. absurd (omega (arith, l, m, past)));
      }

-- ---- bands one below the other

abbrev Part : Type 0
Part = Vec (Option ℤ) Global

pub as_many : (g : GroundState) (row : ℕ) (bands : List CostBand) (parts : List Part) → AreBandsOf g row bands parts → length bands ≡ length parts
as_many g row [] [] h = refl
as_many g row [] (part ∷ parts) h = absurd h
as_many g row (band ∷ bands) [] h = absurd h
as_many g row (band ∷ bands) (part ∷ parts) h = omega (arith, as_many g h.0 bands parts h.2)

pub next_band : (g : GroundState) (row k : ℕ) (bands : List CostBand) (parts : List Part) (band : CostBand) (part : Part) → k < length bands → k < length parts → band ≡ get_or bands k band → part ≡ get_or parts k part → AreBandsOf g row (drop k bands) (drop k parts) → IsOwnBand g row (row + band.rows) band part.items × AreBandsOf g (row + band.rows) (drop (k + 1) bands) (drop (k + 1) parts)
next_band g row k bands parts band part l m e f here =
    let P : List CostBand → Type 0 = λ xs. AreBandsOf g row xs (drop k parts) in
    let Q : List Part → Type 0 = AreBandsOf g row (band ∷ drop (k + 1) bands) in
    let r = subst Q (drop_more parts k part m ∙ ap (λ (p : Part). p ∷ drop (k + 1) parts) (sym f)) (subst P (drop_more bands k band l ∙ ap (λ (b : CostBand). b ∷ drop (k + 1) bands) (sym e)) here) in
    let R : ℕ → Type 0 = λ end. IsOwnBand g row end band part.items × AreBandsOf g end (drop (k + 1) bands) (drop (k + 1) parts) in
    subst R (sym r.1.are_costs.rows) (r.1, r.2)

none_left : (g : GroundState) (row : ℕ) (parts : List Part) → AreBandsOf g row [] parts → row ≡ g.size.rows
none_left g row [] h = h
none_left g row (part ∷ parts) h = absurd h

pub no_more_bands : (g : GroundState) (row k : ℕ) (bands : List CostBand) (parts : List Part) → length bands ≤ k → AreBandsOf g row (drop k bands) (drop k parts) → row ≡ g.size.rows
no_more_bands g row k bands parts l here = let P : List CostBand → Type 0 = λ xs. AreBandsOf g row xs (drop k parts) in none_left g row (drop k parts) (subst P (drop_all k bands l) here)

pub none_ready : (f : FieldState) (values : Cells) (entries : List (ℕ × ℕ)) (seen : PlaceSetState) → seen.size ≡ f.ground.size → ((i : ℕ) → is_marked seen i ≡ false) → values ≡ [] → entries ≡ [] → AreReadyTo f 0 values entries seen
none_ready f values entries seen size none e q = record {
  size = size;
  count = omega (arith, ap length e);
  cells = record { each = λ i. let n : cell_at values i ≡ None = get_or_past values i None (omega (arith, ap length e)) in subst IsCell (sym n) tt };
  waiting = λ x c. absurd (omega (arith, c.1, ap length q));
  waits = λ i m. absurd (both_ways (is_marked seen i) (none i) m);
  each = λ i l. absurd (omega (arith, l));
}

-- the values of all rows are on their way to the wanted ones
pub repair_from : (f : FieldState) → IsField f → (values : Cells) (entries : List (ℕ × ℕ)) (seen : PlaceSetState) → AreReadyTo f f.ground.size.rows values entries seen → IsListRepair f values values seen entries
repair_from f field values entries seen ready = record {
  size = ready.size;
  count = ready.count;
  cells = ready.cells;
  waiting = ready.waiting;
  mending = record {
    each = λ i. elim (cases_lt i (cells_in f.ground.size)) as (λ _. Waits (cost_at f) entries i ⊎ (IsLeastHere f values i (cell_at values i) ⊎ (cell_at values i ≡ wanted_at f i))) [
      | inl l ↦ elim (ready.each i l) as (λ _. Waits (cost_at f) entries i ⊎ (IsLeastHere f values i (cell_at values i) ⊎ (cell_at values i ≡ wanted_at f i))) [ inl m ↦ inl (ready.waits i m) | inr h ↦ inr (inl h.0) ]
      | inr l ↦ inr (inl (outside_least f field values i ready.count l))
    ];
    called = λ i m. inl (ready.waits i m);
    kept = λ i. inl refl;
  };
}
