-- What a flow shows, how many of its cells changed, and what that says of damage and work.
use Rattle.std.proofs.Common.{◌≡◌, ◌≢◌, ℕ, zero, suc, ◌+◌, ◌<◌, ◌≤◌, Bool, true, false, cond, List, [], ◌∷◌, length, map, Option, Some, None, refl, sym, ◌∙◌, ap, subst, arith, inl, inr, ℤ}
use Rattle.std.specs.Prelude.{◌⊎◌, ◌||◌, not, filter, is_some, option_map}
use Rattle.std.specs.List.{range_with_len, Contains, All}
use Rattle.std.specs.Ordering.{int_eq}
use Rattle.std.proofs.lemmas.Bool.{cases_Bool}
use Rattle.std.proofs.lemmas.List.{get_or_default}
use Rattle.std.proofs.lemmas.List.FromFn.{get_or-map-range_with_len, length-map-range_with_len, fill_by_all}
use Rattle.map_nums.specs.Grids.{Size, Cells, cell_at, cells_in, places, grid_by}
use Rattle.map_nums.specs.Numbers.{is_value}
use Rattle.map_nums.specs.Answers.{is_wide}
use Rattle.map_defs.specs.Flow.{flow_at, flow_grid}
use Rattle.map_defs.specs.Ops.{Term}
use Rattle.map_defs.specs.Work.{op_work, first_work}
use Rattle.map_defs.specs.Differences.{differs}
use Rattle.layer_tiles.specs.Changes.{ChangeState, cells_before}
use Rattle.changed_cells.specs.Unions.{AreAllPlaces, both_changed}
use Rattle.changed_cells.proofs.Joining.{differs_not, same_length}
use Rattle.drainage_flow.specs.FlowNets.{number_of, flow_number}
use Rattle.drainage_flow.specs.Settling.{number_at}
use Rattle.drainage_flow.specs.Mending.{differing}
use Rattle.drainage_flow.specs.Listing.{IsSame, AreListed}
use Rattle.drainage_flow.specs.Overflows.{IsOverflow}
use Rattle.drainage_flow.specs.Showing.{shown, shown_at, changes}
use Rattle.drainage_flow.specs.Whole.{AreInRange, IsFirstWide}
use Rattle.drainage_flow.specs.First.{AreFlows}
use Rattle.drainage_flow.specs.Repairs.{flow_now, flow_work}
use Rattle.map_nums.proofs.Ascending.{equals_itself}
use Rattle.drainage_flow.proofs.Overflows.{wide_is}

-- ---- what a flow shows

shown_map : (F : ℤ → ℤ) (o : Option ℤ) → shown o (number_of (option_map F o)) ≡ option_map F o
shown_map F None = refl
shown_map F (Some z) = refl

pub shown_flow : (s : Size) (surface weights : Cells) (c : ℕ) → shown_at surface (flow_number s surface weights) c ≡ flow_at s surface weights c
unfolding flow_number flow_at
shown_flow s surface weights c = shown_map _ (cell_at surface c)

pub grid_shown : (s : Size) (surface weights : Cells) (flow : ℕ → ℤ) → ((c : ℕ) → c < cells_in s → flow c ≡ flow_number s surface weights c) → (grid_by s (shown_at surface flow)).cells ≡ (flow_grid s surface weights).cells
unfolding flow_grid
grid_shown s surface weights flow same =
    fill_by_all (flow_at s surface weights) (map (shown_at surface flow) (places s)) (cells_in s) None (length-map-range_with_len (shown_at surface flow) 0 (cells_in s))
    (λ c l. get_or-map-range_with_len (shown_at surface flow) 0 (cells_in s) c c None l (omega arith) ∙ ap (shown (cell_at surface c)) (same c l) ∙ shown_flow s surface weights c)

pub flow_cell : (s : Size) (surface weights : Cells) (c : ℕ) → c < cells_in s → cell_at (flow_grid s surface weights).cells c ≡ flow_at s surface weights c
unfolding flow_grid
flow_cell s surface weights c l = get_or-map-range_with_len (flow_at s surface weights) 0 (cells_in s) c c None l (omega arith)

-- ---- flows in range

wide_flow : (s : Size) (surface weights : Cells) (c : ℕ) → is_wide (flow_at s surface weights c) ≡ not (is_value (flow_number s surface weights c))
unfolding flow_number
wide_flow s surface weights c = wide_is (flow_at s surface weights c)

not_false : (b : Bool) → not b ≡ false → b ≡ true
not_false true e = refl
not_false false e = absurd (cc)

pub number_in_range : (s : Size) (surface weights : Cells) (c : ℕ) → is_wide (flow_at s surface weights c) ≡ false → is_value (flow_number s surface weights c) ≡ true
number_in_range s surface weights c e = not_false (is_value (flow_number s surface weights c)) (sym (wide_flow s surface weights c) ∙ e)

pub all_narrow : (s : Size) (surface weights : Cells) (flows : List ℤ) → AreFlows s surface weights flows → AreInRange flows → IsOverflow s surface weights None
all_narrow s surface weights flows a r c l = wide_flow s surface weights c ∙ ap not (ap is_value (sym (a.each c l)) ∙ r.each c (omega (arith, a.count, l)))

pub first_overflow : (s : Size) (surface weights : Cells) (flows : List ℤ) (at : ℕ) → AreFlows s surface weights flows → IsFirstWide flows at → IsOverflow s surface weights (Some at)
first_overflow s surface weights flows at a w =
    let l : at < cells_in s = omega (arith, a.count, w.within) in
    record {
      within = l;
      wide = wide_flow s surface weights at ∙ ap not (ap is_value (sym (a.each at l)) ∙ w.wide);
      least = λ c m. (let k : c < cells_in s = omega (arith, m, l) in wide_flow s surface weights c ∙ ap not (ap is_value (sym (a.each c k)) ∙ w.first c m));
    }

-- ---- counts

count_here : (b : Bool) (a : ℕ) → length (cond b (a ∷ []) []) ≡ cond b 1 0
count_here true a = refl
count_here false a = refl

count_front : (b c : Bool) (a : ℕ) (xs ys : List ℕ) → length xs ≡ length ys + cond c 1 0 → length (cond b (a ∷ xs) xs) ≡ length (cond b (a ∷ ys) ys) + cond c 1 0
count_front true c a xs ys e = omega (arith, e)
count_front false c a xs ys e = e

pub count_more : (p : ℕ → Bool) (a n : ℕ) → length (filter p (range_with_len a (suc n))) ≡ length (filter p (range_with_len a n)) + cond (p (a + n)) 1 0
count_more p a zero = let e : a + 0 ≡ a = omega arith in rw (e) (count_here (p a) a ∙ omega arith)
count_more p a (suc n) =
    let e : a + 1 + n ≡ a + suc n = omega arith in
    count_front (p a) (p (a + suc n)) a (filter p (range_with_len (a + 1) (suc n))) (filter p (range_with_len (a + 1) n)) (count_more p (a + 1) n ∙ ap (λ k. length (filter p (range_with_len (a + 1) n)) + cond (p k) 1 0) e)

two_counts : (b c : Bool) (a : ℕ) (xs ys : List ℕ) → b ≡ c → length xs ≡ length ys → length (cond b (a ∷ xs) xs) ≡ length (cond c (a ∷ ys) ys)
two_counts true true a xs ys e l = omega (arith, l)
two_counts true false a xs ys e l = absurd (cc)
two_counts false true a xs ys e l = absurd (cc)
two_counts false false a xs ys e l = l

pub count_same : (p q : ℕ → Bool) (a n : ℕ) → ((i : ℕ) → a ≤ i → i < a + n → p i ≡ q i) → length (filter p (range_with_len a n)) ≡ length (filter q (range_with_len a n))
count_same p q a zero h = refl
count_same p q a (suc n) h = two_counts (p a) (q a) a (filter p (range_with_len (a + 1) n)) (filter q (range_with_len (a + 1) n)) (h a (omega arith) (omega arith)) (count_same p q (a + 1) n (λ i l m. h i (omega (arith, l)) (omega (arith, m))))

-- numbers differ only where cells do
pub differing_few : (old f : ℕ → ℤ) (p : ℕ → Bool) (n : ℕ) → ((c : ℕ) → c < n → old c ≢ f c → p c ≡ true) → differing old f n ≤ length (filter p (range_with_len 0 n))
differing_few old f p zero h = omega arith
differing_few old f p (suc n) h = omega (arith, differing_few old f p n (λ c l. h c (omega (arith, l))), count_more p 0 n, one (int_eq (old n) (f n)) refl)
  where
    one : (b : Bool) → int_eq (old n) (f n) ≡ b → cond b 0 1 ≤ cond (p (0 + n)) 1 0
    one true e = omega arith
    one false e = (let t : p (0 + n) ≡ true = ap p (omega arith) ∙ h n (omega arith) (other (old n) (f n) e) in rw (t) (omega arith))
      where
        other : (x y : ℤ) → int_eq x y ≡ false → x ≢ y
        other x y e q = (let t : int_eq x y ≡ true = ap (λ z. int_eq z y) q ∙ equals_itself y in absurd (cc))

-- ---- work

is_some_shown : (o : Option ℤ) (z : ℤ) → is_some (shown o z) ≡ is_some o
is_some_shown None z = refl
is_some_shown (Some y) z = refl

pub first_worked : (s : Size) (surface weights : Cells) (n : ℕ) → n ≡ length (filter (λ i. is_some (cell_at surface i)) (places s)) → cells_in s + n ≡ first_work s (flow_grid s surface weights).cells
first_worked s surface weights n e =
    ap (λ m. cells_in s + m) (e ∙ count_same (λ i. is_some (cell_at surface i)) (λ i. is_some (cell_at (flow_grid s surface weights).cells i)) 0 (cells_in s)
    (λ i l m. (let k : i < cells_in s = omega (arith, m) in sym (ap is_some (flow_cell s surface weights i k ∙ sym (shown_flow s surface weights i)) ∙ is_some_shown (cell_at surface i) (flow_number s surface weights i)))))

pub next_worked : (t u : Term) (surface weights : ChangeState) (old : Cells) (changed : List ℕ) (n : ℕ) → AreAllPlaces surface.size (both_changed surface weights) changed → n ≡ length changed + changes surface.size old (flow_now surface weights) → n ≡ flow_work t u surface weights (Some old)
unfolding op_work
next_worked t u surface weights old changed n a e = e ∙ ap (λ m. m + changes surface.size old (flow_now surface weights)) (same_length surface.size (both_changed surface weights) changed a)

-- ---- listed places

or_false : (a b : Bool) → a || (b || false) ≡ false → (a ≡ false) × (b ≡ false)
or_false true b e = absurd (cc)
or_false false true e = absurd (cc)
or_false false false e = (refl, refl)

pub all_listed : (surface weights : ChangeState) (changed : List ℕ) → AreAllPlaces surface.size (both_changed surface weights) changed → AreListed surface weights changed
all_listed surface weights changed a c l = elim (cases_Bool (both_changed surface weights c)) as (λ _. Contains changed c ⊎ IsSame surface weights c) [
  | inl t ↦ (let h = a.all c l t in inl (h.0, h.1, get_or_default changed h.0 c 0 h.1 ∙ h.2))
  | inr f ↦ (let p = or_false (differs (cells_before surface) surface.cells c) (differs (cells_before weights) weights.cells c) f in inr (differs_not (cells_before surface) surface.cells c p.0, differs_not (cells_before weights) weights.cells c p.1))
]

pub within_all : (s : Size) (p : ℕ → Bool) (found : List ℕ) → AreAllPlaces s p found → All (λ c. c < cells_in s) found
within_all s p found a k d l = (let P : ℕ → Type 0 = λ x. x < cells_in s in subst P (get_or_default found k 0 d l) (a.within k l))

-- where neither operand changed, the old cell is right for the surface
pub old_shown : (surface weights : ChangeState) (old : Cells) (changed : List ℕ) → old ≡ (flow_grid surface.size (cells_before surface) (cells_before weights)).cells → AreListed surface weights changed → (c : ℕ) → c < cells_in surface.size → Contains changed c ⊎ (cell_at old c ≡ shown_at surface.cells (number_at old) c)
unfolding flow_number
old_shown surface weights old changed e listed c l = elim (listed c l) as (λ _. Contains changed c ⊎ (cell_at old c ≡ shown_at surface.cells (number_at old) c)) [
  | inl h ↦ inl h
  | inr h ↦ (
      let s = surface.size in
      let is : cell_at old c ≡ flow_at s (cells_before surface) (cells_before weights) c = ap (λ (xs : Cells). cell_at xs c) e ∙ flow_cell s (cells_before surface) (cells_before weights) c l in
      inr (is ∙ sym (shown_flow s (cells_before surface) (cells_before weights) c) ∙ ap (λ (o : Option ℤ). shown (cell_at (cells_before surface) c) (number_of o)) (sym is) ∙ ap (λ (o : Option ℤ). shown o (number_at old c)) h.0))
]

one_few : (b : Bool) → cond b 1 0 ≤ 1
one_few true = omega arith
one_few false = omega arith

pub one_most : (m : ℕ) (b : Bool) → m ≡ cond b 1 0 → m ≤ 1
one_most m b e = omega (arith, e, one_few b)

pub count_next : (p : ℕ → Bool) (k n m : ℕ) → n ≡ length (filter p (range_with_len 0 k)) → m ≡ cond (p k) 1 0 → n + m ≡ length (filter p (range_with_len 0 (k + 1)))
count_next p k n m e f =
    let z : 0 + k ≡ k = omega arith in
    let s : suc k ≡ k + 1 = omega arith in
    let c : cond (p (0 + k)) 1 0 ≡ cond (p k) 1 0 = ap (λ (j : ℕ). let v : ℕ = cond (p j) 1 0 in v) z in
    let t : length (filter p (range_with_len 0 (suc k))) ≡ length (filter p (range_with_len 0 (k + 1))) = ap (λ (j : ℕ). length (filter p (range_with_len 0 j))) s in
    omega (arith, e, f, c, t, count_more p 0 k)
