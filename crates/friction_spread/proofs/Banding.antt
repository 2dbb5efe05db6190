-- Bands of rows. What a path costs in a band it costs in the map, where the band's places come after those of the rows above.
use Rattle.std.proofs.Common.{◌≡◌, inl, inr, ℕ, suc, ◌+◌, ◌-◌, ◌*◌, ◌/◌, ◌%◌, ◌<◌, ◌≤◌, Bool, cond, List, [], ◌∷◌, ◌++◌, length, length-append, length-drop, get_or, take, drop, None, Option, ℤ, refl, sym, ◌∙◌, ap, subst, arith}
use Rattle.std.specs.Prelude.{◌⊎◌, ◌==◌, ◌&&◌, nat_lt, is_some}
use Rattle.std.specs.List.{Contains}
use Rattle.std.proofs.lemmas.Bool.{cases_lt, lt-ltb, eqb-true, eq-eqb}
use Rattle.std.proofs.lemmas.List.{get_or-take, get_or-drop, get_or_append_left, get_or-append_right, drop_more, drop_all, length-take-le}
use Rattle.std.proofs.lemmas.Nat.{div-add-mod', div-mul-add, mod-mul-add, mod_below, div_below, mul-le}
use Rattle.map_nums.specs.Grids.{Size, Cells, cell_at, cells_in, row_of}
use Rattle.map_defs.specs.Nets.{cost_in, IsLeastIn}
use Rattle.map_defs.specs.Spread.{friction_of, friction_at, step_cost}
use Rattle.map_defs.specs.Rounds.{is_open}
use Rattle.changed_cells.proofs.Joining.{same_test}
use Rattle.least_costs.specs.Queue.{IsKept}
use Rattle.least_costs.specs.Filling.{IsRelaxed}
use Rattle.least_costs.proofs.Equations.{same_or}
use Rattle.least_costs.proofs.Fills.{relaxed_still}
use Rattle.friction_spread.specs.declared.bands.CostBand.{CostBand}
use Rattle.friction_spread.specs.Costs.{GroundState, base_of, step_of, net_of}
use Rattle.friction_spread.specs.Flat.{costs_of}
use Rattle.friction_spread.specs.Bands.{rows_of, band_of, IsCostBand, AreCostBands}
use Rattle.friction_spread.specs.Joins.{IsAtSeam, AreCostsTo}
use Rattle.friction_spread.proofs.Grounds.{IsJoined, leads, step_joined, base_outside}
use Rattle.friction_spread.proofs.Flats.{cost_past, none_tried}

-- ---- places

split : (w first k : ℕ) → first * w + k ≡ (first + k / w) * w + k % w
split w first k = omega (arith, div-add-mod' k w)

pub row_below : (w first k : ℕ) → 0 < w → (first * w + k) / w ≡ first + k / w
row_below w first k p = ap (λ n. n / w) (split w first k) ∙ div-mul-add (first + k / w) w (k % w) (mod_below k w p)

column_below : (w first k : ℕ) → 0 < w → (first * w + k) % w ≡ k % w
column_below w first k p = ap (λ n. n % w) (split w first k) ∙ mod-mul-add (first + k / w) w (k % w) (mod_below k w p)

same_moved : (first a b : ℕ) → (a == b) ≡ (first + a == first + b)
same_moved first a b = same_test (a == b) (first + a == first + b) (λ t. eq-eqb (first + a) (first + b) (ap (λ n. first + n) (eqb-true a b t))) (λ t. eq-eqb a b (omega (arith, eqb-true (first + a) (first + b) t)))

pair_or : (a b c d : ℕ) → ((a < b) × (c ≡ d)) ⊎ ((a < b) × (c ≡ d) → ⊥)
pair_or a b c d = elim (cases_lt a b) as (λ _. ((a < b) × (c ≡ d)) ⊎ ((a < b) × (c ≡ d) → ⊥)) [
  | inl l ↦ elim (same_or c d) as (λ _. ((a < b) × (c ≡ d)) ⊎ ((a < b) × (c ≡ d) → ⊥)) [ inl e ↦ inl (l, e) | inr n ↦ inr (λ h. n h.1) ]
  | inr l ↦ inr (λ h. absurd (omega (arith, h.0, l)))
]

pub seam_or : (s : Size) (first end c : ℕ) → IsAtSeam s first end c ⊎ (IsAtSeam s first end c → ⊥)
seam_or s first end c = elim (pair_or 0 first (row_of s c) first) as (λ _. IsAtSeam s first end c ⊎ (IsAtSeam s first end c → ⊥)) [
  | inl p ↦ inl (inl p)
  | inr p ↦ elim (pair_or end s.rows (row_of s c + 1) end) as (λ _. IsAtSeam s first end c ⊎ (IsAtSeam s first end c → ⊥)) [
    | inl q ↦ inl (inr q)
    | inr q ↦ inr (λ h. elim h as (λ _. ⊥) [ inl x ↦ p x | inr x ↦ q x ])
  ]
]

-- ---- a band in its map

pub cell_kept : (s : Size) (first end : ℕ) (cells : Cells) (k : ℕ) → k < (end - first) * s.columns → cell_at (rows_of s first end cells) k ≡ cell_at cells (first * s.columns + k)
cell_kept s first end cells k l = get_or-take ((end - first) * s.columns) (drop (first * s.columns) cells) k None l ∙ get_or-drop (first * s.columns) cells k None

module _ (g : GroundState) (first end : ℕ) (some_column : 0 < g.size.columns) (some : first < end) (within : end ≤ g.size.rows) where
  abbrev h : GroundState
  h = band_of g first end

  -- the places above the band, and in it
  abbrev above : ℕ
  above = first * g.size.columns

  abbrev size : ℕ
  size = (end - first) * g.size.columns

  pub ends : above + size ≡ end * g.size.columns
  ends = let q : first + (end - first) ≡ end = omega arith in omega (arith, ap (λ n. n * g.size.columns) q)

  pub inside : (k : ℕ) → k < size → above + k < cells_in g.size
  inside k l = omega (arith, l, ends, mul-le end g.size.columns g.size.rows g.size.columns within (omega arith))

  pub friction_kept : (k : ℕ) → k < size → friction_at h.friction k ≡ friction_at g.friction (above + k)
  friction_kept k l = ap friction_of (cell_kept g.size first end g.friction k l)

  pub open_kept : (k : ℕ) → k < size → is_open h.size h.friction k ≡ is_open g.size g.friction (above + k)
  open_kept k l = ap (λ b. b && nat_lt 0 (friction_at h.friction k)) (lt-ltb k size l ∙ sym (lt-ltb (above + k) (cells_in g.size) (inside k l))) ∙ ap (λ n. nat_lt (above + k) (cells_in g.size) && nat_lt 0 n) (friction_kept k l)

  pub base_kept : (k : ℕ) → k < size → base_of h k ≡ base_of g (above + k)
  unfolding base_of
  base_kept k l =
      ap (λ (b : Bool). let v : ℕ = cond (b && is_some (cell_at h.sources k)) 0 (suc g.limit) in v) (open_kept k l)
      ∙ ap (λ (c : Option ℤ). let v : ℕ = cond (is_open g.size g.friction (above + k) && is_some c) 0 (suc g.limit) in v) (cell_kept g.size first end g.sources k l)

  pub joined_up : (j i : ℕ) → IsJoined h j i → IsJoined g (above + j) (above + i)
  joined_up j i q = record {
    from = inside j q.from;
    to = inside i q.to;
    from_open = omega (arith, q.from_open, friction_kept j q.from);
    to_open = omega (arith, q.to_open, friction_kept i q.to);
    other = λ e. q.other (omega (arith, e));
    rows = omega (arith, q.rows, row_below g.size.columns first j some_column, row_below g.size.columns first i some_column);
    columns = omega (arith, q.columns, column_below g.size.columns first j some_column, column_below g.size.columns first i some_column);
  }

  pub joined_down : (j i : ℕ) → j < size → i < size → IsJoined g (above + j) (above + i) → IsJoined h j i
  joined_down j i l m q = record {
    from = l;
    to = m;
    from_open = omega (arith, q.from_open, friction_kept j l);
    to_open = omega (arith, q.to_open, friction_kept i m);
    other = λ e. q.other (ap (λ n. above + n) e);
    rows = omega (arith, q.rows, row_below g.size.columns first j some_column, row_below g.size.columns first i some_column);
    columns = omega (arith, q.columns, column_below g.size.columns first j some_column, column_below g.size.columns first i some_column);
  }

  cost_kept : (j i : ℕ) → j < size → i < size → step_cost h.size h.friction j i ≡ step_cost g.size g.friction (above + j) (above + i)
  unfolding step_cost
  cost_kept j i l m = rw (row_below g.size.columns first j some_column, row_below g.size.columns first i some_column, column_below g.size.columns first j some_column, column_below g.size.columns first i some_column, ← friction_kept j l, ← friction_kept i m, ← same_moved first (j / g.size.columns) (i / g.size.columns)) refl

  pub step_kept : (j i : ℕ) → IsJoined h j i → step_of g (above + j) (above + i) ≡ step_of h j i
  step_kept j i q = step_joined g (above + j) (above + i) (joined_up j i q) ∙ sym (cost_kept j i q.from q.to) ∙ sym (step_joined h j i q)

  path_kept : (i : ℕ) (js : List ℕ) → cost_in (net_of h) i js < suc g.limit → (ks : List ℕ) × (cost_in (net_of g) (above + i) ks ≡ cost_in (net_of h) i js)
  path_kept i [] l = elim (cases_lt i size) as (λ _. (ks : List ℕ) × (cost_in (net_of g) (above + i) ks ≡ cost_in (net_of h) i [])) [ inl m ↦ ([], sym (base_kept i m)) | inr m ↦ absurd (omega (arith, l, base_outside h i m)) ]
  path_kept i (j ∷ js) l = let r = path_kept j js (omega (arith, l)) in let q = step_kept j i (leads h j i (omega (arith, l))) in ((above + j) ∷ r.0, omega (arith, r.1, q))

  -- ---- a step from a row with no other band beside it leads into the band

  pub leads_inside : (k i : ℕ) → k < size → (IsAtSeam g.size first end (above + k) → ⊥) → IsJoined g (above + k) i → (above ≤ i) × (i < above + size)
  leads_inside k i l apart q =
      let w = g.size.columns in
      let e = row_below w first k some_column in
      let a : 0 < first → (above + k) / w ≡ first → ⊥ = λ x y. apart (inl (x, y)) in
      let b : end < g.size.rows → (above + k) / w + 1 ≡ end → ⊥ = λ x y. apart (inr (x, y)) in
      let u = div_below k w (end - first) some_column l in
      let v = div_below i w g.size.rows some_column q.to in
      let low : first ≤ i / w = elim (cases_lt 0 first) as (λ _. first ≤ i / w) [
        | inl x ↦ (elim (same_or ((above + k) / w) first) as (λ _. first ≤ i / w) [ inl y ↦ absurd (a x y) | inr y ↦ omega (arith, e, y, q.rows) ])
        | inr x ↦ omega (arith, x)
      ] in
      let high : i / w < end = elim (cases_lt end g.size.rows) as (λ _. i / w < end) [
        | inl x ↦ (elim (same_or ((above + k) / w + 1) end) as (λ _. i / w < end) [ inl y ↦ absurd (b x y) | inr y ↦ omega (arith, e, u, y, q.rows) ])
        | inr x ↦ omega (arith, x, v)
      ] in
      let r = div-add-mod' i w in
      (omega (arith, r, mul-le first w (i / w) w low (omega arith)), omega (arith, ends, r, mod_below i w some_column, mul-le (i / w + 1) w end w (omega (arith, high)) (omega arith)))

-- ---- the costs of a band below those of the rows above

-- of a list of costs from row `from` on, those of the rows `first` to before `end`
abbrev pub own_rows : ℕ → ℕ → ℕ → ℕ → List ℕ → List ℕ
own_rows w first end from wide = take ((end - first) * w) (drop ((first - from) * w) wide)

-- the band's rows are `first` to before `end`; its costs were found with the rows `from` to before `until`
module _ (g : GroundState) (first end from until : ℕ) (some_column : 0 < g.size.columns) (some : first < end) (before : from ≤ first) (after : end ≤ until) (within : until ≤ g.size.rows) where
  abbrev w : ℕ
  w = g.size.columns

  abbrev taken : GroundState
  taken = band_of g from until

  abbrev top : ℕ
  top = suc g.limit

  -- the places above the band, and in it, and those taken in above it
  abbrev up : ℕ
  up = first * w

  abbrev many : ℕ
  many = (end - first) * w

  abbrev skipped : ℕ
  skipped = (first - from) * w

  more : from < until
  more = omega (arith, some, before, after)

  past : up + many ≡ end * w
  past = ends g first end some_column some (omega (arith, after, within))

  moved : (k : ℕ) → from * w + (skipped + k) ≡ up + k
  moved k = let q : from + (first - from) ≡ first = omega (arith, before) in omega (arith, ap (λ n. n * w) q)

  room : skipped + many ≤ (until - from) * w
  room = let q : first - from + (end - first) + (until - end) ≡ until - from = omega (arith, some, before, after) in omega (arith, ap (λ n. n * w) q)

  fits : (k : ℕ) → k < many → skipped + k < (until - from) * w
  fits k l = omega (arith, l, room)

  -- the band's own costs
  abbrev own : List ℕ → List ℕ
  own = own_rows w first end from

  pub own_count : (wide : List ℕ) → length wide ≡ (until - from) * w → length (own wide) ≡ many
  own_count wide n = length-take-le many (drop skipped wide) (omega (arith, length-drop skipped wide, n, room))

  module _ (above rows columns : ℕ) (skips : from + above ≡ first) (has : first + rows ≡ end) (width : columns ≡ w) where
    skips_so : above * columns ≡ skipped
    skips_so = let e : above ≡ first - from = omega (arith, skips) in ap (λ n. n * columns) e ∙ ap (λ n. (first - from) * n) width

    has_so : rows * columns ≡ many
    has_so = let e : rows ≡ end - first = omega (arith, has) in ap (λ n. n * columns) e ∙ ap (λ n. (end - first) * n) width

    pub own_ends : above * columns + rows * columns ≤ (until - from) * w
    own_ends = omega (arith, skips_so, has_so, room)

    pub own_cut : (wide : List ℕ) → take (above * columns + rows * columns - above * columns) (drop (above * columns) wide) ≡ own wide
    own_cut wide =
        let e : above * columns + rows * columns - above * columns ≡ many = omega (arith, has_so) in
        ap (λ n. take n (drop (above * columns) wide)) e ∙ ap (λ n. take many (drop n wide)) skips_so

  own_at : (wide : List ℕ) (k : ℕ) → k < many → costs_of g (own wide) k ≡ costs_of g wide (skipped + k)
  own_at wide k l = get_or-take many (drop skipped wide) k top l ∙ get_or-drop skipped wide k top

  module _ (costs wide : List ℕ) (entries entries' : List (ℕ × ℕ)) (now : AreCostsTo g first costs entries) (count : length wide ≡ (until - from) * w) (are_least : (i : ℕ) → IsLeastIn (net_of taken) i (costs_of taken wide i)) (kept : IsKept entries entries') (seams : (c : ℕ) → IsAtSeam g.size first end c → costs_of g (costs ++ own wide) c < suc g.limit → Contains entries' (costs_of g (costs ++ own wide) c, c)) where
    abbrev d : ℕ → ℕ
    d = costs_of g costs

    abbrev d' : ℕ → ℕ
    d' = costs_of g (costs ++ own wide)

    by_part : (P : ℕ → Type 0) → ((i : ℕ) → i < up → P i) → ((k : ℕ) → k < many → P (up + k)) → ((i : ℕ) → up + many ≤ i → P i) → (i : ℕ) → P i
    by_part P a b o i = elim (cases_lt i up) as (λ _. P i) [
      | inl l ↦ a i l
      | inr l ↦ (let q : up + (i - up) ≡ i = omega (arith, l) in elim (cases_lt (i - up) many) as (λ _. P i) [
        | inl m ↦ subst P q (b (i - up) m)
        | inr m ↦ o i (omega (arith, l, m))
      ])
    ]

    upper : (i : ℕ) → i < up → d' i ≡ d i
    upper i l = get_or_append_left costs (own wide) top i (omega (arith, l, now.count))

    lower : (k : ℕ) → k < many → d' (up + k) ≡ costs_of taken wide (skipped + k)
    lower k l = let e : up + k - up ≡ k = omega arith in get_or-append_right costs (own wide) up (up + k) top now.count (omega arith) ∙ ap (costs_of g (own wide)) e ∙ own_at wide k l

    outside : (i : ℕ) → up + many ≤ i → d' i ≡ top
    outside i l = cost_past g (costs ++ own wide) i (omega (arith, l, length-append costs (own wide), now.count, own_count wide count))

    most : (i : ℕ) → d' i ≤ top
    most = by_part (λ i. d' i ≤ top) (λ i l. omega (arith, upper i l, now.filling.most i)) (λ k l. omega (arith, lower k l, (are_least (skipped + k)).capped)) (λ i l. omega (arith, outside i l))

    falls : (i : ℕ) → d' i ≤ d i
    falls i = elim (cases_lt i up) as (λ _. d' i ≤ d i) [ inl l ↦ omega (arith, upper i l) | inr l ↦ omega (arith, most i, cost_past g costs i (omega (arith, l, now.count))) ]

    reached : (i : ℕ) → d' i < top → (js : List ℕ) × (cost_in (net_of g) i js ≡ d' i)
    reached = by_part (λ i. d' i < top → (js : List ℕ) × (cost_in (net_of g) i js ≡ d' i))
        (λ i l m. let r = now.filling.reached i (omega (arith, upper i l, m)) in (r.0, r.1 ∙ sym (upper i l)))
        (λ k l m. let r = (are_least (skipped + k)).reached (omega (arith, lower k l, m)) in
        let p = path_kept g from until some_column more within (skipped + k) r.0 (omega (arith, r.2, lower k l, m)) in
        (p.0, ap (λ i. cost_in (net_of g) i p.0) (sym (moved k)) ∙ p.1 ∙ r.2 ∙ sym (lower k l)))
        (λ i l m. absurd (omega (arith, outside i l, m)))

    -- a step within the band was counted in its costs
    stepped : (k i : ℕ) → k < many → i < many → d' (up + k) < top → IsJoined taken (skipped + k) (skipped + i) → d' (up + i) ≤ d' (up + k) + step_of g (up + k) (up + i)
    stepped k i l n m q =
        let r = (are_least (skipped + k)).reached (omega (arith, lower k l, m)) in
        let e : step_of g (up + k) (up + i) ≡ step_of taken (skipped + k) (skipped + i) = ap (λ x. step_of g x (up + i)) (sym (moved k)) ∙ ap (step_of g (from * w + (skipped + k))) (sym (moved i)) ∙ step_kept g from until some_column more within (skipped + k) (skipped + i) q in
        omega (arith, lower k l, lower i n, r.2, (are_least (skipped + i)).least ((skipped + k) ∷ r.0), e)

    relaxed : (k : ℕ) → k < many → (IsAtSeam g.size first end (up + k) → ⊥) → d' (up + k) < top → (i : ℕ) → IsRelaxed (net_of g) d' (up + k) i
    relaxed k l apart m i s =
        let q = leads g (up + k) i s in
        let n = leads_inside g first end some_column some (omega (arith, after, within)) k i l apart q in
        let e : up + (i - up) ≡ i = omega (arith, n.0) in
        let b : i - up < many = omega (arith, n.0, n.1) in
        let P : ℕ → Type 0 = λ x. d' x ≤ d' (up + k) + step_of g (up + k) x in
        let j : IsJoined g (from * w + (skipped + k)) (from * w + (skipped + (i - up))) = subst (λ x. IsJoined g x (from * w + (skipped + (i - up)))) (sym (moved k)) (subst (IsJoined g (up + k)) (sym (moved (i - up) ∙ e)) q) in
        subst P e (stepped k (i - up) l b m (joined_down g from until some_column more within (skipped + k) (skipped + (i - up)) (fits k l) (fits (i - up) b) j))

    tried : (c : ℕ) → d' c < top → Contains entries' (d' c, c) ⊎ ((i : ℕ) → IsRelaxed (net_of g) d' c i)
    tried = by_part (λ c. d' c < top → Contains entries' (d' c, c) ⊎ ((i : ℕ) → IsRelaxed (net_of g) d' c i))
        (λ c l m. elim (now.filling.tried c (omega (arith, upper c l, m))) as (λ _. Contains entries' (d' c, c) ⊎ ((i : ℕ) → IsRelaxed (net_of g) d' c i)) [
          | inl t ↦ inl (let P : ℕ → Type 0 = λ x. Contains entries' (x, c) in subst P (sym (upper c l)) (kept (d c, c) t))
          | inr r ↦ inr (λ i. relaxed_still (net_of g) d d' c i falls (upper c l) (r i))
        ])
        (λ k l m. elim (seam_or g.size first end (up + k)) as (λ _. Contains entries' (d' (up + k), up + k) ⊎ ((i : ℕ) → IsRelaxed (net_of g) d' (up + k) i)) [
          | inl s ↦ inl (seams (up + k) s m)
          | inr s ↦ inr (relaxed k l s m)
        ])
        (λ c l m. absurd (omega (arith, outside c l, m)))

    begun : (i : ℕ) → i < end * w → d' i ≤ base_of g i
    begun = by_part (λ i. i < end * w → d' i ≤ base_of g i)
        (λ i l m. omega (arith, upper i l, now.begun i l))
        (λ k l m. let b = base_kept g from until some_column more within (skipped + k) (fits k l) in omega (arith, lower k l, (are_least (skipped + k)).least [], b, ap (base_of g) (moved k)))
        (λ i l m. absurd (omega (arith, l, m, past)))

    pub joined : AreCostsTo g end (costs ++ own wide) entries'
    joined = record {
      count = omega (arith, length-append costs (own wide), now.count, own_count wide count, past);
      filling = record { most = most; reached = reached; tried = tried };
      begun = begun;
    }

-- ---- bands one below the other

pub next_band : (g : GroundState) (row k : ℕ) (bands : List CostBand) (band : CostBand) → k < length bands → band ≡ get_or bands k band → AreCostBands g row (drop k bands) → IsCostBand g row (row + band.rows) band × AreCostBands g (row + band.rows) (drop (k + 1) bands)
next_band g row k bands band l e here =
    let P : List CostBand → Type 0 = AreCostBands g row in
    let r = subst P (drop_more bands k band l ∙ ap (λ (b : CostBand). b ∷ drop (k + 1) bands) (sym e)) here in
    let Q : ℕ → Type 0 = λ end. IsCostBand g row end band × AreCostBands g end (drop (k + 1) bands) in
    subst Q (sym r.1.rows) (r.1, r.2)

pub no_more_bands : (g : GroundState) (row k : ℕ) (bands : List CostBand) → length bands ≤ k → AreCostBands g row (drop k bands) → row ≡ g.size.rows
no_more_bands g row k bands l here = let P : List CostBand → Type 0 = AreCostBands g row in subst P (drop_all k bands l) here

pub none_joined : (g : GroundState) (costs : List ℕ) (entries : List (ℕ × ℕ)) → costs ≡ [] → AreCostsTo g 0 costs entries
none_joined g costs entries e = record {
  count = omega (arith, ap length e);
  filling = none_tried g (costs_of g costs) entries (λ i. cost_past g costs i (omega (arith, ap length e)));
  begun = λ i l. absurd (omega (arith, l));
}

pub begun_all : (g : GroundState) (costs : List ℕ) (entries : List (ℕ × ℕ)) → AreCostsTo g g.size.rows costs entries → (i : ℕ) → costs_of g costs i ≤ base_of g i
begun_all g costs entries joined i = elim (cases_lt i (cells_in g.size)) as (λ _. costs_of g costs i ≤ base_of g i) [ inl l ↦ joined.begun i l | inr l ↦ omega (arith, joined.filling.most i, base_outside g i l) ]

-- ---- the cells of a band, cut out of the map's

-- n cells of each operand, from a place on
abbrev cut : GroundState → ℕ → ℕ → Size → GroundState
cut g from n s = record { size = s; sources = take n (drop from g.sources); friction = take n (drop from g.friction); limit = g.limit }

rows_between : (first end columns w : ℕ) → columns ≡ w → first < end → end * columns - first * columns ≡ (end - first) * w
rows_between first end columns w q l = let e : first + (end - first) ≡ end = omega (arith, l) in omega (arith, ap (λ n. n * w) e, ap (λ n. end * n) q, ap (λ n. first * n) q)

pub band_same : (g : GroundState) (first end columns : ℕ) (s : Size) → columns ≡ g.size.columns → s ≡ record { rows = end - first; columns = columns } → first < end → cut g (first * columns) (end * columns - first * columns) s ≡ band_of g first end
band_same g first end columns s q r l =
    let w = g.size.columns in
    ap (λ (n : ℕ). cut g n (end * columns - first * columns) s) (ap (λ n. first * n) q) ∙ ap (λ (n : ℕ). cut g (first * w) n s) (rows_between first end columns w q l)
    ∙ ap (λ (z : Size). cut g (first * w) ((end - first) * w) z) (r ∙ ap (λ n. let z : Size = record { rows = end - first; columns = n } in z) q)

pub cut_length : (cells : Cells) (first end columns rows : ℕ) → length cells ≡ rows * columns → first < end → end ≤ rows → length (take (end * columns - first * columns) (drop (first * columns) cells)) ≡ (end - first) * columns
cut_length cells first end columns rows n l m = length-take-le (end * columns - first * columns) (drop (first * columns) cells) (omega (arith, length-drop (first * columns) cells, n, mul-le end columns rows columns m (omega arith))) ∙ rows_between first end columns columns refl l
