-- Places that were looked at.
use Rattle.std.proofs.Common.{◌≡◌, inl, inr, ℕ, true, false, List, get_or, replicate, sym, ◌∙◌, subst, arith}
use Rattle.std.specs.Prelude.{slice_set}
use Rattle.std.proofs.lemmas.Bool.{cases_lt, cases_eq}
use Rattle.std.proofs.lemmas.List.{get_or-replicate, get_or_past, length-replicate, get_or-set_other}
use Rattle.map_nums.specs.Grids.{Size}
use Rattle.tile_work.specs.PlaceSets.{PlaceSetState}
use Rattle.least_costs.specs.Queue.{IsQueued, IsKept}
use Rattle.friction_spread.specs.Costs.{GroundState, net_of}
use Rattle.friction_spread.specs.Near.{AreMarked}

no_mark : (n i : ℕ) → get_or (replicate n false) i false ≡ false
no_mark n i = elim (cases_lt i n) as (λ _. get_or (replicate n false) i false ≡ false) [ inl l ↦ get_or-replicate n i false false l | inr l ↦ get_or_past (replicate n false) i false (omega (arith, l, length-replicate n false)) ]

pub none_marked : (g : GroundState) (d : ℕ → ℕ) (entries : List (ℕ × ℕ)) (s : Size) (n : ℕ) (seen : PlaceSetState) → s ≡ g.size → seen ≡ record { size = s; marks = replicate n false } → AreMarked g d entries seen
none_marked g d entries s n seen q e =
    let P : PlaceSetState → Type 0 = λ p. AreMarked g d entries p in
    subst P (sym e) (record { size = q; queued = λ i m. let f : true ≡ false = sym m ∙ no_mark n i in absurd (cc) })

pub seen_next : (g : GroundState) (d : ℕ → ℕ) (entries entries' : List (ℕ × ℕ)) (seen seen' : PlaceSetState) (at : ℕ) → IsKept entries entries' → IsQueued (net_of g) d entries' at → seen' ≡ record seen { marks = slice_set seen.marks at true } → AreMarked g d entries seen → AreMarked g d entries' seen'
seen_next g d entries entries' seen seen' at kept here e h =
    let P : PlaceSetState → Type 0 = λ p. AreMarked g d entries' p in
    subst P (sym e) (record {
      size = h.size;
      queued = λ i m. elim (cases_eq i at) as (λ _. IsQueued (net_of g) d entries' i) [
        | inl q ↦ (let Q : ℕ → Type 0 = IsQueued (net_of g) d entries' in subst Q (sym q) here)
        | inr q ↦ (λ x. kept _ (h.queued i (sym (get_or-set_other seen.marks at i true false q) ∙ m) x))
      ];
    })
