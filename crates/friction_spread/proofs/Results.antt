-- What a repair gives, and its work.
use Rattle.std.proofs.Common.{◌≡◌, ◌≢◌, inl, inr, ℕ, zero, suc, ◌+◌, ◌<◌, Bool, true, false, cond, List, [], ◌∷◌, length, Option, Some, None, refl, sym, ◌∙◌, ap, subst, arith, ℤ, pos, negsuc}
use Rattle.std.specs.Prelude.{◌==◌, not, is_some, filter, if◌then◌else◌}
use Rattle.std.specs.List.{range_with_len}
use Rattle.std.proofs.lemmas.Bool.{cases_lt, eqb-true, eq-eqb, lt-leb}
use Rattle.std.proofs.lemmas.Bool.Decides.{nat_tests}
use Rattle.map_nums.specs.Grids.{Size, Cells, cell_at, cells_in, places}
use Rattle.map_defs.specs.Cells.{same_cell}
use Rattle.map_defs.specs.Damage.{differs}
use Rattle.map_defs.specs.Nets.{IsLeastIn}
use Rattle.map_defs.specs.Rounds.{cost_cell}
use Rattle.map_defs.specs.Spread.{IsSpread, IsSpreadCell}
use Rattle.map_defs.proofs.RegionCells.{same_is, same_so}
use Rattle.map_defs.proofs.SpreadCells.{cost_is_cell, cost_from_net}
use Rattle.layer_tiles.specs.Tiles.{Block}
use Rattle.layer_tiles.specs.Patches.{patched}
use Rattle.tile_work.specs.Working.{base_of}
use Rattle.friction_spread.specs.Costs.{GroundState, cost_of, values, AreCosts, net_of}
use Rattle.friction_spread.proofs.Grounds.{net_same}
use Rattle.least_costs.specs.Ranks.{sum_to, changed}
use Rattle.changed_cells.proofs.Joining.{same_test}

-- ---- least costs are the spread

pub spread_from : (g : GroundState) (cells : Cells) → length cells ≡ cells_in g.size → AreCosts g.limit cells → ((i : ℕ) → IsLeastIn (net_of g) i (values g.limit cells i)) → IsSpread g.size g.sources g.friction g.limit cells
spread_from g cells n costs least = record {
  full = n;
  each = λ i l.
      let v = values g.limit cells i in
      let P : Option ℤ → Type 0 = IsSpreadCell g.size g.sources g.friction g.limit i in
      subst P (sym (costs i)) (cost_is_cell g.size g.sources g.friction g.limit i v (cost_from_net g.size g.sources g.friction g.limit i v (subst (λ n. IsLeastIn n i v) (sym (net_same g)) (least i))));
}

pub made : (s z : Size) (before : Option (List (Option ℤ))) (base cells : Cells) (tiles : List (ℕ × Block)) → z ≡ s → base_of before ≡ base → patched z (base_of before) tiles ≡ cells → patched s base tiles ≡ cells
made s z before base cells tiles e f m = ap (λ (x : Size). patched x base tiles) (sym e) ∙ ap (λ (xs : Cells). patched z xs tiles) (sym f) ∙ m

-- ---- counts

-- places counted from k on
abbrev sum_from : (ℕ → ℕ) → ℕ → ℕ → ℕ
sum_from f k zero = 0
sum_from f k (suc n) = f k + sum_from f (k + 1) n

sum_last : (f : ℕ → ℕ) (k n : ℕ) → sum_from f k (suc n) ≡ sum_from f k n + f (k + n)
sum_last f k zero = let e : k + 0 ≡ k = omega arith in omega (arith, ap f e)
sum_last f k (suc n) = let e : k + 1 + n ≡ k + suc n = omega arith in omega (arith, sum_last f (k + 1) n, ap f e)

sum_same : (f : ℕ → ℕ) (n : ℕ) → sum_to f n ≡ sum_from f 0 n
sum_same f zero = refl
sum_same f (suc n) = let e : 0 + n ≡ n = omega arith in omega (arith, sum_same f n, sum_last f 0 n, ap f e)

one_for : (v w : Bool) (n m : ℕ) (x : ℕ) (xs : List ℕ) → v ≡ not w → n ≡ length xs → (if w then 0 else 1) + n ≡ length (cond v (x ∷ xs) xs)
one_for true true n m x xs e l = cc
one_for true false n m x xs e l = omega (arith, l)
one_for false true n m x xs e l = omega (arith, l)
one_for false false n m x xs e l = cc

count_from : (o d : ℕ → ℕ) (p : ℕ → Bool) (top k n : ℕ) → k + n ≡ top → ((j : ℕ) → j < top → p j ≡ not (o j == d j)) → sum_from (λ j. if o j == d j then 0 else 1) k n ≡ length (filter p (range_with_len k n))
count_from o d p top k zero e h = refl
count_from o d p top k (suc n) e h = one_for (p k) (o k == d k) (sum_from (λ j. if o j == d j then 0 else 1) (k + 1) n) 0 k (filter p (range_with_len (k + 1) n)) (h k (omega (arith, e))) (count_from o d p top (k + 1) n (omega (arith, e)) h)

pub changed_count : (o d : ℕ → ℕ) (p : ℕ → Bool) (n : ℕ) → ((j : ℕ) → j < n → p j ≡ not (o j == d j)) → changed o d n ≡ length (filter p (range_with_len 0 n))
unfolding changed
changed_count o d p n h = sum_same (λ j. if o j == d j then 0 else 1) n ∙ count_from o d p n 0 n (omega arith) h

-- ---- numbers where there were none

some_test : (limit : ℕ) (c : Option ℤ) → c ≡ cost_cell limit (cost_of (suc limit) c) → is_some c ≡ not (suc limit == cost_of (suc limit) c)
some_test limit None e = grind (arith, nat_tests)
some_test limit (Some (negsuc v)) e = grind (arith, nat_tests)
some_test limit (Some (pos v)) e = elim (cases_lt limit v) as (λ _. true ≡ not (suc limit == v)) [
  | inl l ↦ (let q : Some (pos v) ≡ None = e ∙ rw (lt-leb v limit l) refl in absurd (cc))
  | inr l ↦ (let n : suc limit ≢ v = omega (arith, l) in grind (arith, nat_tests))
]

pub first_moved : (g : GroundState) (cells : Cells) → AreCosts g.limit cells → changed (values g.limit []) (values g.limit cells) (cells_in g.size) ≡ length (filter (λ i. is_some (cell_at cells i)) (places g.size))
first_moved g cells h = changed_count (values g.limit []) (values g.limit cells) (λ i. is_some (cell_at cells i)) (cells_in g.size) (λ j l. some_test g.limit (cell_at cells j) (h j))

-- ---- cells that differ

differs_test : (limit : ℕ) (was now : Cells) (j : ℕ) → AreCosts limit was → AreCosts limit now → differs was now j ≡ not (values limit was j == values limit now j)
differs_test limit was now j h k =
    ap not (same_test (same_cell (cell_at was j) (cell_at now j)) (values limit was j == values limit now j)
    (λ t. eq-eqb (values limit was j) (values limit now j) (ap (cost_of (suc limit)) (same_is (cell_at was j) (cell_at now j) t)))
    (λ t. same_so (cell_at was j) (cell_at now j) (h j ∙ ap (cost_cell limit) (eqb-true (values limit was j) (values limit now j) t) ∙ sym (k j))))

pub moved_differs : (g : GroundState) (was now : Cells) → AreCosts g.limit was → AreCosts g.limit now → changed (values g.limit was) (values g.limit now) (cells_in g.size) ≡ length (filter (differs was now) (places g.size))
moved_differs g was now h k = changed_count (values g.limit was) (values g.limit now) (differs was now) (cells_in g.size) (λ j l. differs_test g.limit was now j h k)
