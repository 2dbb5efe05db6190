-- The plain program for nearest sources gives their numbers, only one grid is they, and values that agree along the steps that
-- least costs use are they.
use Rattle.std.proofs.Common.{◌≡◌, ℕ, zero, suc, ◌<◌, ◌≤◌, ℤ, pos, ◌≤ℤ◌, Bool, true, false, cond, List, [], ◌∷◌, length, get_or, fold, Option, Some, None, IsSome, Contains, refl, sym, ◌∙◌, ap, subst, arith, inl, inr}
use Rattle.std.specs.Prelude.{◌⊎◌, filter, is_some, if◌then◌else◌, int_le}
use Rattle.std.specs.List.{cons_option}
use Rattle.std.specs.Int.{int_min}
use Rattle.std.proofs.lemmas.Bool.{cases_lt, and_parts, and_from}
use Rattle.std.proofs.lemmas.Int.{ints, fold-int_min_bounds, fold-int_min_reached}
use Rattle.std.proofs.lemmas.List.{get_or-map, get_or_past, ext_get_or}
use Rattle.std.proofs.lemmas.List.Elements.{All-cons, All-weaker, All-contains, filter_passes}
use Rattle.std.proofs.lemmas.List.FromFn.{get_or-map-range_with_len, length-map-range_with_len}
use Rattle.std.proofs.Math.ListN.{length-map}
use Rattle.map_nums.specs.Stats.{minimum_of}
use Rattle.map_nums.proofs.Extremes.{le_is_true, le_both}
use Rattle.map_nums.proofs.Picks.{find_leading}
use Rattle.map_nums.specs.Grids.{Size, Cells, cell_at, cells_in, numbers_in}
use Rattle.map_defs.specs.Cells.{has_number, same_cell}
use Rattle.map_defs.specs.Nets.{Net, IsLeastIn}
use Rattle.map_defs.specs.Spread.{PathTo, path_cost, IsPath, IsLeastCost, IsSpreadCell}
use Rattle.map_defs.specs.Rounds.{spread_net, spread_grid}
use Rattle.map_defs.specs.Nearest.{begins_at, IsNearestCell, AreNearest, only, same_number, nearest_at, nearest_grid, IsLeastValue}
use Rattle.map_defs.specs.NearestLaws.{NearestIs, NearestOnly, NearestFromSteps, OneOfSteps}
use Rattle.map_defs.proofs.RegionCells.{same_is, same_so}
use Rattle.map_defs.proofs.SpreadNet.{spread_closed, spread_has_costs, path_costs, path_of}
use Rattle.map_defs.proofs.SpreadCells.{spread_is}
use Rattle.map_defs.proofs.NearestNet.{some_of, valued, costed, some_begins, least_begins}

-- ---- the least of a list of numbers

le_same : (x y : ℤ) → x ≤ℤ y → y ≤ℤ x → x ≡ y
le_same x y h k = grind (arith, ints)

pub record IsMinimum (xs : List ℤ) (m : ℤ) : Type 0 where
  pub there : Contains xs m
  pub least : (y : ℤ) → Contains xs y → m ≤ℤ y

-- m is the least, where there is one
abbrev pub IsMinimumOf : List ℤ → Option ℤ → Type 0
IsMinimumOf xs None = xs ≡ []
IsMinimumOf xs (Some m) = IsMinimum xs m

first_or : (x : ℤ) (xs : List ℤ) (m : ℤ) → (m ≡ x) ⊎ Contains xs m → Contains (x ∷ xs) m
first_or x xs m (inl e) = (0, omega arith, sym e)
first_or x xs m (inr c) = (suc c.0, omega (arith, c.1), c.2)

minimum_is : (xs : List ℤ) → IsMinimumOf xs (minimum_of xs)
unfolding minimum_of
minimum_is [] = refl
minimum_is (x ∷ xs) =
    let m = fold int_min x xs in
    let b = fold-int_min_bounds x xs m refl in
    let above = All-cons (λ y. m ≤ℤ y) x xs b.0 b.1 in
    let there = first_or x xs m (fold-int_min_reached x xs m refl) in
    let e = find_leading int_le (x ∷ xs) m there (All-weaker (λ y. m ≤ℤ y) (λ y. int_le m y ≡ true) (λ y. le_is_true m y) (x ∷ xs) above) (λ y z h k. le_both y z h k) in
    let P : Option ℤ → Type 0 = IsMinimumOf (x ∷ xs) in
    subst P (sym e) (record { there = there; least = λ y c. All-contains (λ y. m ≤ℤ y) (x ∷ xs) y above c })

-- ---- numbers of cells that pass a test

number_first : (c : Option ℤ) (xs : List ℤ) (z : ℤ) → c ≡ Some z → Contains (cons_option c xs) z
number_first None xs z e = absurd (cc)
number_first (Some w) xs z e = let q : w ≡ z = cc in (0, omega arith, q)

number_more : (c : Option ℤ) (xs : List ℤ) (z : ℤ) → Contains xs z → Contains (cons_option c xs) z
number_more None xs z h = h
number_more (Some w) xs z h = (suc h.0, omega (arith, h.1), h.2)

number_in : (cells : Cells) (k : ℕ) (z : ℤ) → cell_at cells k ≡ Some z → Contains (numbers_in cells) z
number_in [] k z e = let n : cell_at [] k ≡ None = get_or_past [] k None (omega arith) in absurd (cc)
number_in (c ∷ cells) zero z e = number_first c (numbers_in cells) z e
number_in (c ∷ cells) (suc k) z e = number_more c (numbers_in cells) z (number_in cells k z e)

kept_first : (b : Bool) (x z : ℤ) (xs : List ℤ) → b ≡ true → x ≡ z → Contains (cond b (x ∷ xs) xs) z
kept_first true x z xs t e = (0, omega arith, e)
kept_first false x z xs t e = absurd (cc)

kept_more : (b : Bool) (x z : ℤ) (xs : List ℤ) → Contains xs z → Contains (cond b (x ∷ xs) xs) z
kept_more true x z xs h = (suc h.0, omega (arith, h.1), h.2)
kept_more false x z xs h = h

kept_at : (p : ℤ → Bool) (xs : List ℤ) (k : ℕ) (z : ℤ) → k < length xs → get_or xs k z ≡ z → p z ≡ true → Contains (filter p xs) z
kept_at p [] k z l e t = absurd (omega (arith, l))
kept_at p (x ∷ xs) zero z l e t = kept_first (p x) x z (filter p xs) (ap p e ∙ t) e
kept_at p (x ∷ xs) (suc k) z l e t = kept_more (p x) x z (filter p xs) (kept_at p xs k z (omega (arith, l)) e t)

passes : (p : ℤ → Bool) (xs : List ℤ) (z : ℤ) → Contains (filter p xs) z → p z ≡ true
passes p xs z c = ap p (sym c.2) ∙ filter_passes p xs c.0 z c.1

-- ---- the sources of one number

abbrev own_or_none : ℤ → Option ℤ → Option ℤ
own_or_none z c = if has_number z c then c else None

only_at : (z : ℤ) (cells : Cells) (k : ℕ) → cell_at (only z cells) k ≡ own_or_none z (cell_at cells k)
only_at z cells k = elim (cases_lt k (length cells)) as (λ _. cell_at (only z cells) k ≡ own_or_none z (cell_at cells k)) [
  | inl l ↦ get_or-map (own_or_none z) cells k None None l
  | inr l ↦ get_or_past (only z cells) k None (omega (arith, length-map cells (own_or_none z), l)) ∙ sym (ap (own_or_none z) (get_or_past cells k None l))
]

own_kept : (z : ℤ) (c : Option ℤ) → c ≡ Some z → own_or_none z c ≡ Some z
own_kept z None e = absurd (cc)
own_kept z (Some w) e = rw (same_so (Some z) (Some w) (sym e)) e

own_number : (z : ℤ) (c : Option ℤ) → IsSome (own_or_none z c) → c ≡ Some z
own_number z None h = absurd (cc)
own_number z (Some w) h = number_by (has_number z (Some w)) refl h
  where
    number_by : (b : Bool) → has_number z (Some w) ≡ b → IsSome (cond b (Some w) None) → Some w ≡ Some z
    number_by true e h = sym (same_is (Some z) (Some w) e)
    number_by false e h = absurd (cc)

module _ (s : Size) (sources friction : Cells) where
  path_only : (z : ℤ) (i : ℕ) (js : List ℕ) → PathTo s sources friction i js → cell_at sources (begins_at i js) ≡ Some z → PathTo s (only z sources) friction i js
  path_only z i [] p e = (p.0, ap is_some (only_at z sources i ∙ own_kept z (cell_at sources i) e))
  path_only z i (j ∷ js) p e = (p.0, p.1, path_only z j js p.2 e)

  -- a path from a source of number z
  pub record IsPathFrom (z : ℤ) (i : ℕ) (js : List ℕ) : Type 0 where
    pub path : PathTo s sources friction i js
    pub begins : cell_at sources (begins_at i js) ≡ Some z

  path_all : (z : ℤ) (i : ℕ) (js : List ℕ) → PathTo s (only z sources) friction i js → IsPathFrom z i js
  path_all z i [] p = let e = own_number z (cell_at sources i) (ap is_some (sym (only_at z sources i)) ∙ p.1) in record { path = (p.0, ap is_some e); begins = e }
  path_all z i (j ∷ js) p = let r = path_all z j js p.2 in record { path = (p.0, p.1, r.path); begins = r.begins }

  -- a path begins at some number
  path_number : (i : ℕ) (js : List ℕ) → PathTo s sources friction i js → (z : ℤ) × (cell_at sources (begins_at i js) ≡ Some z)
  path_number i [] p = some_of (cell_at sources i) p.1
  path_number i (j ∷ js) p = path_number j js p.2

  -- what a spread shows is the least cost
  spread_shows : (limit i v : ℕ) (c : Option ℤ) → IsSpreadCell s sources friction limit i c → IsLeastCost s sources friction i v → v ≤ limit → c ≡ Some (pos v)
  spread_shows limit i v None h least l = let r = least.some in absurd (omega (arith, h r.0 r.1, r.2, l))
  spread_shows limit i v (Some z) h least l =
      let a = h.2.some in
      let b = least.some in
      let e : h.0 ≡ v = omega (arith, h.2.least b.0 b.1, b.2, least.least a.0 a.1, a.2) in
      ap Some (h.1 ∙ ap pos e)

module _ (s : Size) (sources friction : Cells) (limit : ℕ) where
  abbrev costs : Cells
  costs = (spread_grid limit s sources friction).cells

  abbrev costs_from : ℤ → Cells
  costs_from z = (spread_grid limit s (only z sources) friction).cells

  abbrev is_near : ℕ → ℤ → Bool
  is_near i z = same_number (cell_at costs i) (cell_at (costs_from z) i)

  least_from : (i v : ℕ) (z : ℤ) (js : List ℕ) → IsLeastCost s sources friction i v → IsPath s sources friction i js → path_cost s friction i js ≡ v → cell_at sources (begins_at i js) ≡ Some z → IsLeastCost s (only z sources) friction i v
  least_from i v z js least p c e = record {
    some = (js, record { path = path_only s sources friction z i js p.path e; short = p.short }, c);
    least = λ ks q. least.least ks (record { path = (path_all s sources friction z i ks q.path).path; short = q.short });
  }

  -- the number at which a path of least cost begins passes
  near_so : (i v : ℕ) (z : ℤ) (js : List ℕ) → i < cells_in s → IsLeastCost s sources friction i v → v ≤ limit → IsPath s sources friction i js → path_cost s friction i js ≡ v → cell_at sources (begins_at i js) ≡ Some z → Contains (filter (is_near i) (numbers_in sources)) z
  near_so i v z js h least l p c e =
      let all : cell_at costs i ≡ Some (pos v) = spread_shows s sources friction limit i v (cell_at costs i) ((spread_is s sources friction limit).each i h) least l in
      let from : cell_at (costs_from z) i ≡ Some (pos v) = spread_shows s (only z sources) friction limit i v (cell_at (costs_from z) i) ((spread_is s (only z sources) friction limit).each i h) (least_from i v z js least p c e) l in
      let t : is_near i z ≡ true = and_from (is_some (cell_at costs i)) (same_cell (cell_at costs i) (cell_at (costs_from z) i)) (ap is_some all) (same_so (cell_at costs i) (cell_at (costs_from z) i) (all ∙ sym from)) in
      let n = number_in sources (begins_at i js) z e in
      kept_at (is_near i) (numbers_in sources) n.0 z n.1 n.2 t

  -- and a number that passes is one at which such a path begins
  near_is : (i : ℕ) (z : ℤ) (c d : Option ℤ) → c ≡ d → IsSome c → IsSpreadCell s sources friction limit i c → IsSpreadCell s (only z sources) friction limit i d →
      (v : ℕ) × IsLeastCost s sources friction i v × (v ≤ limit) × ((js : List ℕ) × IsPath s sources friction i js × (path_cost s friction i js ≡ v) × (cell_at sources (begins_at i js) ≡ Some z))
  near_is i z None d e h p q = absurd (cc)
  near_is i z (Some u) None e h p q = absurd (cc)
  near_is i z (Some u) (Some w) e h p q =
      let r = q.2.some in
      let f = path_all s sources friction z i r.0 r.1.path in
      let n : pos q.0 ≡ pos p.0 = cc (p.1, q.1) in
      (p.0, p.2, p.3, (r.0, record { path = f.path; short = r.1.short }, r.2 ∙ omega (arith, ints, n), f.begins))

  program_cell : (i : ℕ) → i < cells_in s → (m : Option ℤ) → IsMinimumOf (filter (is_near i) (numbers_in sources)) m → IsNearestCell s sources friction limit i m
  program_cell i h None e = none_near (cell_at costs i) ((spread_is s sources friction limit).each i h)
    where
      none_near : (c : Option ℤ) → IsSpreadCell s sources friction limit i c → IsNearestCell s sources friction limit i None
      none_near None q = q
      none_near (Some z) q =
          let r = q.2.some in
          let n = path_number s sources friction i r.0 r.1.path in
          let c = near_so i q.0 n.0 r.0 h q.2 q.3 r.1 r.2 n.1 in
          absurd (omega (arith, c.1, ap length e))
  program_cell i h (Some m) e =
      let t = passes (is_near i) (numbers_in sources) m e.there in
      let b = and_parts (is_some (cell_at costs i)) (same_cell (cell_at costs i) (cell_at (costs_from m) i)) t in
      let r = near_is i m (cell_at costs i) (cell_at (costs_from m) i) (same_is (cell_at costs i) (cell_at (costs_from m) i) b.1) b.0 ((spread_is s sources friction limit).each i h) ((spread_is s (only m sources) friction limit).each i h) in
      (r.0, r.1, r.2, record { some = r.3; least = λ js w p c q. e.least w (near_so i r.0 w js h r.1 r.2 p c q) })

  pub nearest_is : AreNearest s sources friction limit (nearest_grid limit s sources friction).cells
  unfolding nearest_grid
  nearest_is = record {
    full = length-map-range_with_len (nearest_at limit s sources friction) 0 (cells_in s);
    each = λ i h.
        let P : Option ℤ → Type 0 = IsNearestCell s sources friction limit i in
        subst P (sym (get_or-map-range_with_len (nearest_at limit s sources friction) 0 (cells_in s) i i None h (omega arith)))
        (program_cell i h (nearest_at limit s sources friction i) (minimum_is (filter (is_near i) (numbers_in sources))));
  }

  pub cell_only : (i : ℕ) (c d : Option ℤ) → IsNearestCell s sources friction limit i c → IsNearestCell s sources friction limit i d → c ≡ d
  cell_only i None None p q = refl
  cell_only i None (Some w) p q = let r = q.1.some in absurd (omega (arith, p r.0 r.1, r.2, q.2))
  cell_only i (Some z) None p q = let r = p.1.some in absurd (omega (arith, q r.0 r.1, r.2, p.2))
  cell_only i (Some z) (Some w) p q =
      let a = p.3.some in
      let b = q.3.some in
      let e : p.0 ≡ q.0 = omega (arith, p.1.least b.0 b.1, b.2, q.1.least a.0 a.1, a.2) in
      ap Some (le_same z w (p.3.least b.0 w b.1 (b.2 ∙ sym e) b.3) (q.3.least a.0 z a.1 (a.2 ∙ e) a.3))

  pub nearest_only : (c d : Cells) → AreNearest s sources friction limit c → AreNearest s sources friction limit d → c ≡ d
  nearest_only c d p q = ext_get_or None c d (p.full ∙ sym q.full) (λ i h. cell_only i (cell_at c i) (cell_at d i) (p.each i (omega (arith, p.full, h))) (q.each i (omega (arith, p.full, h))))

  -- ---- along the steps that least costs use

  abbrev net : Net
  net = spread_net s sources friction (suc limit)

  numbered : (i : ℕ) → net.base i < net.top → IsSome (cell_at sources i)
  unfolding spread_net
  numbered i h = (path_of s sources friction (suc limit) i [] h).1

  module _ (d : ℕ → ℕ) (least : (i : ℕ) → IsLeastIn net i (d i)) (value : ℕ → Option ℤ) (agree : (i : ℕ) → IsLeastValue net d (cell_at sources) value i) where
    cell_by : (i : ℕ) (c : Option ℤ) → value i ≡ c → IsNearestCell s sources friction limit i c
    unfolding spread_net
    cell_by i None e = λ js p. elim (cases_lt (d i) (suc limit)) as (λ _. limit < path_cost s friction i js) [
      | inl l ↦ (let v = valued net (spread_closed s sources friction (suc limit)) (spread_has_costs s sources friction (suc limit) (omega arith)) (cell_at sources) numbered d least value agree (suc (d i)) i (omega arith) l in
          let v_is : value i ≡ Some v.0 = v.1 in absurd (cc))
      | inr l ↦ omega (arith, l, (least i).least js, path_costs s sources friction (suc limit) i js p.path)
    ]
    cell_by i (Some z) e =
        let closed = spread_closed s sources friction (suc limit) in
        let costs = spread_has_costs s sources friction (suc limit) (omega arith) in
        let h = some_begins net closed costs (cell_at sources) numbered d least value agree i z e in
        let l : d i < suc limit = costed net closed costs (cell_at sources) numbered d least value agree i z e in
        let p = path_of s sources friction (suc limit) i h.path (omega (arith, h.costs, l)) in
        let c = sym (path_costs s sources friction (suc limit) i h.path p) ∙ h.costs in (
          d i,
          record { some = (h.path, record { path = p; short = h.short }, c); least = λ js q. omega (arith, (least i).least js, path_costs s sources friction (suc limit) i js q.path) },
          omega (arith, l),
          record {
            some = (h.path, record { path = p; short = h.short }, c, h.begins);
            least = λ js w q k b. least_begins net closed costs (cell_at sources) numbered d least value agree i z w js e (path_costs s sources friction (suc limit) i js q.path ∙ k) b;
          },
        )

    pub nearest_by_steps : (i : ℕ) → IsNearestCell s sources friction limit i (value i)
    nearest_by_steps i = cell_by i (value i) refl

  pub one_of_steps : (d : ℕ → ℕ) (value other : ℕ → Option ℤ) → ((i : ℕ) → IsLeastIn net i (d i)) → ((i : ℕ) → IsLeastValue net d (cell_at sources) value i) → ((i : ℕ) → IsLeastValue net d (cell_at sources) other i) → (i : ℕ) → value i ≡ other i
  one_of_steps d value other least agree also i = cell_only i (value i) (other i) (nearest_by_steps d least value agree i) (nearest_by_steps d least other also i)

-- ---- the laws

pub nearest_is_law : NearestIs
nearest_is_law s sources friction limit = nearest_is s sources friction limit

pub nearest_only_law : NearestOnly
nearest_only_law s sources friction limit = nearest_only s sources friction limit

pub nearest_from_steps_law : NearestFromSteps
nearest_from_steps_law s sources friction limit d value least agree i = nearest_by_steps s sources friction limit d least value agree i

pub one_of_steps_law : OneOfSteps
one_of_steps_law s sources friction limit d value other least agree also i = one_of_steps s sources friction limit d value other least agree also i
