-- What one entry does to the working layer.
use Rattle.std.proofs.Common.{◌≡◌, inl, inr, ℕ, ◌+◌, ◌-◌, ◌*◌, ◌<◌, ◌≤◌, min, List, ◌∷◌, Option, ℤ, sym, ◌∙◌, ap, subst, arith}
use Rattle.std.specs.Prelude.{Result, Ok, Err, OnErr}
use Rattle.std.specs.List.{All}
use Rattle.std.specs.List.Sorted.{IsPermutation}
use Rattle.map_nums.specs.Grids.{Size, cells_in}
use Rattle.map_defs.specs.Nets.{Net, equation}
use Rattle.layer_tiles.specs.Tiles.{tile_of}
use Rattle.tile_work.specs.Working.{WorkState, IsSameWork, base_of}
use Rattle.least_costs.specs.Best.{IsRepairing}
use Rattle.least_costs.specs.Queue.{IsDue, IsQueued}
use Rattle.least_costs.proofs.Equations.{same_or}
use Rattle.least_costs.proofs.Queues.{key_least}
use Rattle.least_costs.proofs.Steps.{AreFewer, due_moves}
use Rattle.friction_spread.specs.Costs.{GroundState, values, net_of}
use Rattle.friction_spread.specs.Copied.{IsCopiedWhere, IsMoved, IsCaused}
use Rattle.friction_spread.proofs.Grounds.{net_closed, net_costs, no_loop}

pub same_then : (a b c : WorkState) → IsSameWork a b → IsSameWork b c → IsSameWork a c
same_then a b c p q = record { size = q.size ∙ p.size; before = q.before ∙ p.before; count = q.count ∙ p.count }

-- no place that disagrees has a lesser key, so an equation gives no less than the least one, where its value is not below that
pub key_below : (g : Net) (d : ℕ → ℕ) (entries : List (ℕ × ℕ)) (key at : ℕ) → IsQueued g d entries at → All (λ (y : ℕ × ℕ). key ≤ y.0) entries → key ≤ d at → key ≤ equation g d at
key_below g d entries key at queued all l = elim (same_or (d at) (equation g d at)) as (λ _. key ≤ equation g d at) [
  | inl e ↦ omega (arith, l, e)
  | inr n ↦ omega (arith, key_least key (min (d at) (equation g d at), at) entries all (queued n))
]

-- a place whose entry is due has another least cost than before
pub due_moved : (g : GroundState) (before : Option (List (Option ℤ))) (d : ℕ → ℕ) (entries left : List (ℕ × ℕ)) (moved key at : ℕ) → IsRepairing (net_of g) (values g.limit (base_of before)) d entries moved → IsPermutation entries ((key, at) ∷ left) → All (λ (y : ℕ × ℕ). key ≤ y.0) entries → IsDue (net_of g) d key at → (at < cells_in g.size) × IsMoved g before at
due_moved g before d entries left moved key at now popped all due = (due.within, λ c h. due_moves (net_of g) (net_closed g) (net_costs g) (no_loop g) (values g.limit (base_of before)) d entries left moved key at now popped all due (c at) (h at))

pub moved_same : (g : GroundState) (a b : Option (List (Option ℤ))) (i : ℕ) → b ≡ a → IsMoved g a i → IsMoved g b i
moved_same g a b i e h = let P : Option (List (Option ℤ)) → Type 0 = λ o. IsMoved g o i in subst P (sym e) h

pub caused_then : (g : GroundState) (b c : WorkState) (at : ℕ) (cause : Type 0) → b.size ≡ g.size → IsSameWork b c → IsCopiedWhere b at cause c → (cause → (at < cells_in g.size) × IsMoved g b.before at) → IsCaused g b → IsCaused g c
caused_then g b c at cause size same copied moves caused t e = elim (copied t e) as (λ _. (i : ℕ) × (i < cells_in g.size) × (t ≡ tile_of g.size i) × IsMoved g c.before i) [
  | inl h ↦ (let r = caused t h in (r.0, r.1, r.2, moved_same g b.before c.before r.0 same.before r.3))
  | inr h ↦ (let m = moves h.1 in (at, m.0, h.0 ∙ ap (λ (s : Size). tile_of s at) size, moved_same g b.before c.before at same.before m.1))
]

pub on_err : {T E Q : Type 0} (r : Result T E) → Q → OnErr r Q
on_err (Ok x) q = tt
on_err (Err e) q = q

-- ---- entries in the queue are picks yet to come

-- the picks of all that came of a place when it left its old value, and when it arrived
abbrev pub allowed : ℕ → ℕ → ℕ
allowed moved arrived = 419 * moved + 209 * arrived

pub picks_next : (q n n' m m' r r' fell rose : ℕ) → n' + 1 ≤ n + (9 * fell + 10 * rose) → m + rose ≤ m' → r' ≡ r + fell → 21 * n ≤ q + allowed m r → (q + allowed m r - 21 * n) + (21 + (20 * fell + 209 * rose)) ≤ q + allowed m' r' - 21 * n'
picks_next q n n' m m' r r' fell rose l k h e = omega arith

pub enough_next : (q n n' m m' r r' fell rose : ℕ) → n' + 1 ≤ n + (9 * fell + 10 * rose) → m + rose ≤ m' → r' ≡ r + fell → 21 * n ≤ q + allowed m r → 21 * n' ≤ q + allowed m' r'
enough_next q n n' m m' r r' fell rose l k h e = omega arith

pub picks_last : (q n m r w : ℕ) → 1 ≤ n → m + r + 1 ≤ 2 * w → AreFewer m r w → 21 * n ≤ q + allowed m r → (q + allowed m r - 21 * n) + 230 ≤ q + 628 * w
picks_last q n m r w some k few e = omega (arith, some, k, few.left, e)
