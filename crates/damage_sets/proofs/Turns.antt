-- The touched tiles of an operand, one after another.
use Rattle.std.proofs.Common.{◌≡◌, ◌⊎◌, inl, inr, ℕ, zero, suc, ◌+◌, ◌*◌, ◌<◌, ◌≤◌, Bool, List, [], ◌∷◌, length, get_or, nat_lt, cond, arith, ⊎_elim}
use Rattle.std.specs.List.{Contains, count_by}
use Rattle.std.proofs.lemmas.Bool.{cases_lt}
use Rattle.std.proofs.lemmas.Bool.Decides.{nat_tests}
use Rattle.std.proofs.lemmas.List.Sums.{count_by-le-length, sum_by-cons}
use Rattle.map_nums.specs.Grids.{cells_in}
use Rattle.map_nums.specs.Tiles.{tile_of}
use Rattle.layer_tiles.specs.Changes.{ChangeState}
use Rattle.layer_tiles.specs.ChangeFacts.{IsChange, IsNext}
use Rattle.layer_tiles.specs.Tallies.{TallyState, RisesBy, looked}
use Rattle.layer_tiles.proofs.ChangeLaws.{Contains-or, untouched_place}
use Rattle.layer_tiles.proofs.Rising.{rises_looked, rises_within}
use Rattle.damage_sets.specs.Seen.{IsChangedCell, IsChangedOf, IsChangedBelow, touched_below}
use Rattle.damage_sets.specs.Widened.{IsWidened}
use Rattle.damage_sets.proofs.Widening.{widened_then, widened_as}

-- a changed cell lies in a touched tile
touched_there : (c : ChangeState) → IsChange c → (i : ℕ) → i < cells_in c.size → IsChangedCell c i → Contains c.touched (tile_of c.size i)
touched_there c h i l d = which (Contains-or c.touched (tile_of c.size i))
  where
    which : Contains c.touched (tile_of c.size i) ⊎ (Contains c.touched (tile_of c.size i) → ⊥) → Contains c.touched (tile_of c.size i)
    which (inl there) = there
    which (inr n) = absurd (d (untouched_place c h i l n))

-- the next touched tile had its turn
pub turns_more : (c : ChangeState) (from tile reach : ℕ) (old mid new : List Bool) → IsChange c → IsNext c.touched from tile → IsWidened c.size reach (IsChangedBelow c from) old mid → IsWidened c.size reach (IsChangedOf c tile) mid new → IsWidened c.size reach (IsChangedBelow c (tile + 1)) old new
turns_more c from tile reach old mid new h next p q =
    widened_then c.size reach (IsChangedBelow c from) (IsChangedOf c tile) (IsChangedBelow c (tile + 1)) old mid new p q
    (λ i l d. ⊎_elim
    (λ (a : tile_of c.size i < from). inl (a, d.1))
    (λ (a : from ≤ tile_of c.size i).
    let least = next.least (tile_of c.size i) (touched_there c h i l d.1) a in
    inr (omega (arith, least, d.0), d.1))
    (cases_lt (tile_of c.size i) from))
    (λ i l d. (omega (arith, d.0, next.not_below), d.1))
    (λ i l d. (omega (arith, d.0), d.1))

-- no touched tile is left
pub turns_all : (c : ChangeState) (from reach : ℕ) (old new : List Bool) → IsChange c → ((t : ℕ) → Contains c.touched t → t < from) → IsWidened c.size reach (IsChangedBelow c from) old new → IsWidened c.size reach (IsChangedCell c) old new
turns_all c from reach old new h below p =
    widened_as c.size reach (IsChangedBelow c from) (IsChangedCell c) old new p
    (λ i l d. d.1)
    (λ i l d. (below (tile_of c.size i) (touched_there c h i l d), d))

-- ---- looks

below_step : (x from t : ℕ) → from ≤ t → cond (nat_lt x from) 1 0 ≤ cond (nat_lt x (t + 1)) 1 0
below_step x from t l = grind (arith, nat_tests)

count_cons : (p : ℕ → Bool) (x : ℕ) (xs : List ℕ) → count_by p (x ∷ xs) ≡ cond (p x) 1 0 + count_by p xs
count_cons p x xs = sum_by-cons (λ u. cond (p u) 1 0) x xs

below_rises : (xs : List ℕ) (from t : ℕ) → from ≤ t → count_by (λ u. nat_lt u from) xs ≤ count_by (λ u. nat_lt u (t + 1)) xs
below_rises [] from t l = omega arith
below_rises (x ∷ xs) from t l = omega (arith, count_cons (λ u. nat_lt u from) x xs, count_cons (λ u. nat_lt u (t + 1)) x xs, below_step x from t l, below_rises xs from t l)

below_here : (x from t : ℕ) → from ≤ t → x ≡ t → cond (nat_lt x from) 1 0 + 1 ≤ cond (nat_lt x (t + 1)) 1 0
below_here x from t l e = grind (arith, nat_tests)

below_more : (xs : List ℕ) (from t k : ℕ) → from ≤ t → k < length xs → get_or xs k t ≡ t → count_by (λ u. nat_lt u from) xs + 1 ≤ count_by (λ u. nat_lt u (t + 1)) xs
below_more [] from t k l m e = absurd (omega (arith, m))
below_more (x ∷ xs) from t zero l m e = omega (arith, count_cons (λ u. nat_lt u from) x xs, count_cons (λ u. nat_lt u (t + 1)) x xs, below_here x from t l e, below_rises xs from t l)
below_more (x ∷ xs) from t (suc k) l m e = omega (arith, count_cons (λ u. nat_lt u from) x xs, count_cons (λ u. nat_lt u (t + 1)) x xs, below_step x from t l, below_more xs from t k l (omega (arith, m)) e)

pub looks_more : (c : ChangeState) (from tile : ℕ) (a b d : TallyState) → IsNext c.touched from tile → RisesBy (2 * touched_below c from) 0 a b → d ≡ looked 2 b → RisesBy (2 * touched_below c (tile + 1)) 0 a d
looks_more c from tile a b d next r e =
    let more = below_more c.touched from tile next.held.0 next.not_below next.held.1 next.held.2 in
    rises_within (2 * touched_below c from + 2) 0 (2 * touched_below c (tile + 1)) 0 a d (omega (arith, more)) (omega arith) (rises_looked (2 * touched_below c from) 0 2 a b d r e)

pub looks_all : (c : ChangeState) (from : ℕ) (a b : TallyState) → RisesBy (2 * touched_below c from) 0 a b → RisesBy (2 * length c.touched) 0 a b
looks_all c from a b r = rises_within (2 * touched_below c from) 0 (2 * length c.touched) 0 a b (omega (arith, count_by-le-length (λ u. nat_lt u from) c.touched)) (omega arith) r
