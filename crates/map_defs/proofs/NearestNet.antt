-- Values that agree along the steps that least costs use are the least numbers at which paths of least cost begin.
--
-- No such path begins at a lesser number, by induction along the path. And some path begins at the value: keep of the net
-- only the steps of least costs between places of one value, and the beginnings at places of that value. The costs still
-- agree with their equations, so they are the least costs of what was kept, and a path that has one leads through it alone.
use Rattle.std.proofs.Common.{◌≡◌, ℕ, zero, suc, ◌+◌, ◌<◌, ◌≤◌, ℤ, ◌≤ℤ◌, Bool, true, false, cond, List, [], ◌∷◌, length, Option, Some, None, IsSome, refl, sym, ◌∙◌, arith, inl, inr}
use Rattle.std.specs.Prelude.{◌⊎◌, if◌then◌else◌}
use Rattle.std.proofs.lemmas.Bool.{cases_lt, cases_Bool}
use Rattle.std.proofs.lemmas.Int.{ints}
use Rattle.map_defs.specs.Cells.{same_cell}
use Rattle.map_defs.specs.Nets.{Net, IsClosed, HasCosts, cost_in, IsLeastIn, IsEquation}
use Rattle.map_defs.specs.Nearest.{begins_at, IsNoGreater, IsLeastValue}
use Rattle.map_defs.proofs.Nets.{agreeing_least, least_agree}
use Rattle.map_defs.proofs.RegionCells.{same_is, same_so}
use Rattle.map_defs.proofs.SpreadNet.{below_top, at_cost, at_top}

-- ---- cells and numbers

pub some_of : (c : Option ℤ) → IsSome c → (z : ℤ) × (c ≡ Some z)
some_of None h = absurd (cc)
some_of (Some z) h = (z, refl)

pub number_of : (c : Option ℤ) (w : ℤ) → IsNoGreater c w → (z : ℤ) × (c ≡ Some z) × (z ≤ℤ w)
number_of None w h = absurd h
number_of (Some z) w h = (z, refl, h)

pub no_greater : (c : Option ℤ) (z w : ℤ) → c ≡ Some z → z ≤ℤ w → IsNoGreater c w
no_greater None z w e h = absurd (cc)
no_greater (Some u) z w e h = let q : u ≡ z = cc in rw (q) h

pub le_then : (x y z : ℤ) → x ≤ℤ y → y ≤ℤ z → x ≤ℤ z
le_then x y z h k = omega (arith, ints)

le_at : (c : Option ℤ) (z w : ℤ) → c ≡ Some z → IsNoGreater c w → z ≤ℤ w
le_at None z w e h = absurd h
le_at (Some u) z w e h = let q : z ≡ u = cc in rw (q) h

choice_most : (b : Bool) (x top e : ℕ) → e ≤ x → e ≤ top → e ≤ cond b x top
choice_most true x top e h k = h
choice_most false x top e h k = k

choice_some : (b : Bool) (x top : ℕ) → 0 < x → 0 < top → 0 < cond b x top
choice_some true x top h k = h
choice_some false x top h k = k

-- a path that begins at a number z and costs c
pub record HasPath (g : Net) (own : ℕ → Option ℤ) (i c : ℕ) (z : ℤ) : Type 0 where
  pub path : List ℕ
  pub short : length path < g.size
  pub costs : cost_in g i path ≡ c
  pub begins : own (begins_at i path) ≡ Some z

module _ (g : Net) (closed : IsClosed g) (costs : HasCosts g) (own : ℕ → Option ℤ) (numbered : (i : ℕ) → g.base i < g.top → IsSome (own i)) (d : ℕ → ℕ) (least : (i : ℕ) → IsLeastIn g i (d i)) (value : ℕ → Option ℤ) (agree : (i : ℕ) → IsLeastValue g d own value i) where
  equal : (i : ℕ) → IsEquation g d i (d i)
  equal = least_agree g d least

  -- a place with a cost has a value
  pub valued : (fuel i : ℕ) → d i < fuel → d i < g.top → (z : ℤ) × (value i ≡ Some z)
  valued zero i l h = absurd (omega (arith, l))
  valued (suc fuel) i l h = elim (equal i).attained as (λ _. (z : ℤ) × (value i ≡ Some z)) [
    | inl e ↦ absurd (omega (arith, e, h))
    | inr r ↦ elim r as (λ _. (z : ℤ) × (value i ≡ Some z)) [
      | inl e ↦ (let o = some_of (own i) (numbered i (omega (arith, e, h))) in let n = number_of (value i) o.0 ((agree i).begun o.0 (h, e) o.1) in (n.0, n.1))
      | inr q ↦ (let c = costs q.0 i in let v = valued fuel q.0 (omega (arith, l, c, q.1)) (omega (arith, h, c, q.1)) in
          let n = number_of (value i) v.0 ((agree i).stepped q.0 v.0 (h, sym q.1) v.1) in (n.0, n.1))
    ]
  ]

  -- and a place with a value has a cost
  pub costed : (i : ℕ) (z : ℤ) → value i ≡ Some z → d i < g.top
  costed i z e = elim ((agree i).attained z e) as (λ _. d i < g.top) [ inl b ↦ b.0.0 | inr q ↦ q.1.0 ]

  -- no path of least cost begins at a number below the value
  pub none_below : (js : List ℕ) (i : ℕ) (w : ℤ) → d i < g.top → cost_in g i js ≡ d i → own (begins_at i js) ≡ Some w → IsNoGreater (value i) w
  none_below [] i w h e o = (agree i).begun w (h, sym e) o
  none_below (j ∷ js) i w h e o =
      let c = costs j i in
      let same : cost_in g j js ≡ d j = omega (arith, (least j).least js, (equal i).stepped j, e) in
      let n = number_of (value j) w (none_below js j w (omega (arith, same, e, c, h)) same o) in
      let m = number_of (value i) n.0 ((agree i).stepped j n.0 (h, omega (arith, same, e)) n.1) in
      no_greater (value i) m.0 w m.1 (le_then m.0 n.0 w m.2 n.2)

  -- ---- what is kept of the net

  abbrev keeps_base : ℕ → Bool
  keeps_base i = same_cell (own i) (value i)

  abbrev keeps_step : ℕ → ℕ → Bool
  keeps_step j i = same_cell (value j) (value i)

  abbrev kept : Net
  kept = record { size = g.size; top = g.top; base = λ i. if keeps_base i then g.base i else g.top; step = λ j i. if keeps_step j i then g.step j i else g.top }

  kept_closed : IsClosed kept
  kept_closed = record {
    begins_within = λ i h. choice_most (keeps_base i) (g.base i) g.top g.top (closed.begins_within i h) (omega arith);
    steps_within = λ j i h. choice_most (keeps_step j i) (g.step j i) g.top g.top (closed.steps_within j i h) (omega arith);
  }

  kept_costs : 0 < g.top → HasCosts kept
  kept_costs some j i = choice_some (keeps_step j i) (g.step j i) g.top (costs j i) some

  kept_from : (i : ℕ) (z : ℤ) → value i ≡ Some z → (d i ≡ kept.base i) ⊎ ((j : ℕ) × (d i ≡ d j + kept.step j i))
  kept_from i z e = elim ((agree i).attained z e) as (λ _. (d i ≡ kept.base i) ⊎ ((j : ℕ) × (d i ≡ d j + kept.step j i))) [
    | inl b ↦ inl (b.0.1 ∙ sym (at_cost (keeps_base i) (g.base i) g.top (same_so (own i) (value i) (b.1 ∙ sym e))))
    | inr q ↦ inr (q.0, omega (arith, q.1.1, at_cost (keeps_step q.0 i) (g.step q.0 i) g.top (same_so (value q.0) (value i) (q.2 ∙ sym e))))
  ]

  kept_attained : (i : ℕ) → (d i ≡ g.top) ⊎ ((d i ≡ kept.base i) ⊎ ((j : ℕ) × (d i ≡ d j + kept.step j i)))
  kept_attained i = elim (cases_lt (d i) g.top) as (λ _. (d i ≡ g.top) ⊎ ((d i ≡ kept.base i) ⊎ ((j : ℕ) × (d i ≡ d j + kept.step j i)))) [
    | inl l ↦ (let v = valued (suc (d i)) i (omega arith) l in inr (kept_from i v.0 v.1))
    | inr l ↦ inl (omega (arith, l, (least i).capped))
  ]

  kept_equal : (i : ℕ) → IsEquation kept d i (d i)
  kept_equal i = record {
    capped = (least i).capped;
    begun = choice_most (keeps_base i) (g.base i) g.top (d i) (equal i).begun (least i).capped;
    stepped = λ j. elim (cases_Bool (keeps_step j i)) as (λ _. d i ≤ d j + kept.step j i) [
      | inl t ↦ omega (arith, at_cost (keeps_step j i) (g.step j i) g.top t, (equal i).stepped j)
      | inr f ↦ omega (arith, at_top (keeps_step j i) (g.step j i) g.top f, (least i).capped)
    ];
    attained = kept_attained i;
  }

  -- a path through what was kept begins at the value of its last place, and costs the same
  kept_path : (js : List ℕ) (i : ℕ) (z : ℤ) → cost_in kept i js < g.top → value i ≡ Some z → (own (begins_at i js) ≡ Some z) × (cost_in g i js ≡ cost_in kept i js)
  kept_path [] i z l e =
      let t = below_top (keeps_base i) (g.base i) g.top l in
      (same_is (own i) (value i) t ∙ e, sym (at_cost (keeps_base i) (g.base i) g.top t))
  kept_path (j ∷ js) i z l e =
      let t = below_top (keeps_step j i) (g.step j i) g.top (omega (arith, l)) in
      let r = kept_path js j z (omega (arith, l)) (same_is (value j) (value i) t ∙ e) in
      (r.0, omega (arith, r.1, at_cost (keeps_step j i) (g.step j i) g.top t))

  -- a path of least cost begins at the value
  pub some_begins : (i : ℕ) (z : ℤ) → value i ≡ Some z → HasPath g own i (d i) z
  some_begins i z e =
      let l = costed i z e in
      let r = (agreeing_least kept d kept_closed (kept_costs (omega (arith, l))) kept_equal i).reached l in
      let p = kept_path r.0 i z (omega (arith, r.2, l)) e in
      record { path = r.0; short = r.1; costs = p.1 ∙ r.2; begins = p.0 }

  -- and none at a lesser number
  pub least_begins : (i : ℕ) (z w : ℤ) (js : List ℕ) → value i ≡ Some z → cost_in g i js ≡ d i → own (begins_at i js) ≡ Some w → z ≤ℤ w
  least_begins i z w js e c o = le_at (value i) z w e (none_below js i w (costed i z e) c o)
