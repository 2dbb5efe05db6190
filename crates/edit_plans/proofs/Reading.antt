-- What the sources and the first statements of a plan count may be read.
use Rattle.std.proofs.Common.{◌≡◌, ℕ, zero, suc, ◌+◌, ◌-◌, ◌<◌, ◌≤◌, Bool, true, nat_le, List, [], ◌∷◌, filter, length, sum_by, Option, Some, None, is_some, option_map, slice_get, get_or, refl, sym, ap, subst, ◌∙◌, arith, if◌then◌else◌, inl, inr}
use Rattle.std.proofs.lemmas.Bool.{le-leb, cases_Bool}
use Rattle.std.proofs.lemmas.List.Sums.{sum_by-cons}
use Rattle.std.proofs.lemmas.Option.{get_or_from_slice_get, slice_get-get_or}
use Rattle.map_defs.specs.Ops.{Name}
use Rattle.map_defs.specs.Depths.{depth_in}
use Rattle.map_edits.specs.LayerDefs.{Making, given_grid, by_op, LayerDef, layers, nodes_of}
use Rattle.map_edits.specs.EngineStates.{EngineState, value_of}
use Rattle.map_edits.specs.Faults.{Fault}
use Rattle.map_edits.specs.Touches.{Touch, touch_of}
use Rattle.map_edits.specs.LayerChanges.{damage_of, work_of}
use Rattle.map_edits.specs.EditCounts.{defined_layers}
use Rattle.map_edits.specs.Allowances.{reads_for, faulty_name, layers_to, counts_to, reads_of_attempt, edit_reads}
use Rattle.map_edits.specs.CountLaws.{IsWithin}
use Rattle.map_edits.specs.Counted.{fault_after}
use Rattle.map_edits.specs.Laws.{HasNoCycle}
use Rattle.map_edits.proofs.Looks.{made_node, find_node-making}
use Rattle.map_edits.proofs.Summed.{sum_filter}
use Rattle.map_edits.proofs.Unfolds.{depth_unfolds, depth_by}
use Rattle.map_waves.specs.Plans.{Plan, damage_at, work_at}
use Rattle.map_waves.specs.Answers.{total_of}
use Rattle.edit_plans.specs.PlansFor.{IsPlanFor}
use Rattle.map_edits.specs.Touching.{ChangesOnly}
use Rattle.edit_plans.specs.Orderly.{IsOrderly}
use Rattle.edit_plans.specs.SourceCounts.{is_given, joined, counts_of_sources, counts_to_place}
use Rattle.edit_plans.specs.ReadLaws.{ReadsAreAllowed}
use Rattle.edit_plans.proofs.LayersMade.{EachLayer, IsFoundBy, layers_found}
use Rattle.edit_plans.proofs.Counting.{damage_is, work_is}
use Rattle.edit_plans.proofs.CountsSummed.{one_count, total_step}

-- a source has no depth
pub given_depth : (t : EngineState) → IsOrderly t → (l : LayerDef) → IsFoundBy (layers t.entries) l → is_given l.making ≡ true → depth_in (nodes_of t.entries) l.name ≡ 0
given_depth t orderly l found given = go l.making refl given
  where
    go : (making : Making) → l.making ≡ making → is_given making ≡ true → depth_in (nodes_of t.entries) l.name ≡ 0
    go (given_grid grid) is h =
        depth_unfolds (nodes_of t.entries) orderly.none_looped l.name
        ∙ ap (depth_by (depth_in (nodes_of t.entries))) (find_node-making (layers t.entries) l.name ∙ ap (option_map (made_node l.name)) (found ∙ ap (λ m. Some m) is))
    go (by_op op) is h = absurd cc

-- where all that is given passes, its sum is as before
pub given_sum : (f : LayerDef → ℕ) (r : LayerDef → Bool) (q : LayerDef → Bool) (P : LayerDef → Type 0) → ((l : LayerDef) → P l → is_given l.making ≡ true → r l ≡ true) → (ls : List LayerDef) → EachLayer P ls
    → sum_by f (filter (λ (l : LayerDef). is_given l.making) (filter q ls)) ≤ sum_by (λ l. if r l then f l else 0) (filter (λ (l : LayerDef). is_given l.making) (filter q ls))
given_sum f r q P passes [] each = omega arith
given_sum f r q P passes (l ∷ ls) each =
    let rest = given_sum f r q P passes ls each.1 in
    elim (cases_Bool (q l)) [
      | inl h ↦ elim (cases_Bool (is_given l.making)) [
        | inl given ↦
            let own : (if r l then f l else 0) ≡ f l = ap (λ (b : Bool). if b then f l else 0) (passes l each.0 given) in
            let a = sum_by-cons f l (filter (λ (l : LayerDef). is_given l.making) (filter q ls)) in
            let b = sum_by-cons (λ l. if r l then f l else 0) l (filter (λ (l : LayerDef). is_given l.making) (filter q ls)) in
            simp (h, given) (omega arith)
        | inr other ↦ simp (h, other) rest
      ]
      | inr h ↦ simp h rest
    ]

total_rises : (f : ℕ → ℕ) (j d : ℕ) → total_of f j ≤ total_of f (j + d)
total_rises f j zero = let none : j + 0 ≡ j = omega arith in let same : total_of f (j + 0) ≡ total_of f j = ap (total_of f) none in omega arith
total_rises f j (suc d) =
    let rest = total_rises f j d in
    let step = total_step f (j + d) in
    let next : j + suc d ≡ j + d + 1 = omega arith in
    let same : total_of f (j + suc d) ≡ total_of f (j + d + 1) = ap (total_of f) next in
    omega arith

-- a list that is cut at its end is whole
whole_sum : (f : ℕ → ℕ) (end n : ℕ) → end ≤ n → total_of f end ≤ total_of f n
whole_sum f end n within =
    let rises = total_rises f end (n - end) in
    let whole : end + (n - end) ≡ n = omega arith in
    let all : total_of f (end + (n - end)) ≡ total_of f n = ap (total_of f) whole in
    omega arith

-- the sum of the first statements, all of which pass, is no more than that of all that pass
first_few : (g : ℕ → ℕ) (r : Name → Bool) (names : List Name) (end : ℕ) → end ≤ length names → ((j : ℕ) (m : Name) → j < end → slice_get names j ≡ Some m → r m ≡ true)
    → total_of g end ≤ total_of (λ k. if r (get_or names k []) then g k else 0) (length names)
first_few g r names end within passes =
    let low = same_to end (omega arith) in
    let high = whole_sum passing end (length names) within in
    omega arith
  where
    passing : ℕ → ℕ
    passing k = if r (get_or names k []) then g k else 0

    same_to : (k : ℕ) → k ≤ end → total_of g k ≤ total_of passing k
    same_to zero below = omega arith
    same_to (suc k) below =
        let rest = same_to k (omega arith) in
        let name : slice_get names k ≡ Some (get_or names k []) = slice_get-get_or names k [] (omega arith) in
        let here : passing k ≡ g k = ap (λ (b : Bool). if b then g k else 0) (passes k (get_or names k []) (omega arith) name) in
        let one = total_step g k in
        let other = total_step passing k in
        let more : suc k ≡ k + 1 = omega arith in
        let next : total_of g (suc k) ≡ total_of g (k + 1) = ap (total_of g) more in
        let then_next : total_of passing (suc k) ≡ total_of passing (k + 1) = ap (total_of passing) more in
        omega arith

module _ (touch : Touch) (s t : EngineState) (p : Plan) (sources names : List Name) (plan : IsPlanFor touch s t p sources names) (orderly : IsOrderly t) where
  -- what counts among the layers to a depth
  one_allowed : (f : LayerDef → ℕ) (g : ℕ → ℕ) (d end : ℕ) → ((k : ℕ) (n : Name) → slice_get names k ≡ Some n → f (record { name = n; making = by_op (p.step k).op }) ≡ g k) → end ≤ length names
      → ((j : ℕ) (m : Name) → j < end → slice_get names j ≡ Some m → depth_in (nodes_of t.entries) m ≤ d)
      → sum_by f (filter (λ (l : LayerDef). is_given l.making) (defined_layers t)) + total_of g end ≤ sum_by f (layers_to t d)
  one_allowed f g d end same within shallow =
      let r : Name → Bool = λ n. nat_le (depth_in (nodes_of t.entries) n) d in
      let cut : LayerDef → ℕ = λ l. if r l.name then f l else 0 in
      let all = one_count touch s t p sources names plan orderly cut (λ k. if r (get_or names k []) then g k else 0)
      (λ k n at. ap (λ x. if r n then x else 0) (same k n at) ∙ ap (λ m. if r m then g k else 0) (sym (get_or_from_slice_get names k n [] at))) in
      let deep = sum_filter f (λ (l : LayerDef). r l.name) (defined_layers t) in
      let given = given_sum f (λ l. r l.name) (λ l. is_some (value_of t l.name)) (IsFoundBy (layers t.entries))
      (λ l found is. let none = given_depth t orderly l found is in le-leb (depth_in (nodes_of t.entries) l.name) d (omega arith)) (layers t.entries) (layers_found t orderly) in
      let few = first_few g r names end within (λ j m less at. le-leb (depth_in (nodes_of t.entries) m) d (shallow j m less at)) in
      omega arith

module _ (touch : Touch) (s t : EngineState) (p : Plan) (sources names : List Name) (plan : IsPlanFor touch s t p sources names) (changes : ChangesOnly touch s t) (old : HasNoCycle (nodes_of s.entries)) (orderly : IsOrderly t)
    (end : ℕ) (within : end ≤ length names) where
  within_fault : (o : Option Fault) → ((f : Fault) → o ≡ Some f → (j : ℕ) (m : Name) → j < end → slice_get names j ≡ Some m → depth_in (nodes_of t.entries) m ≤ depth_in (nodes_of t.entries) (faulty_name f))
      → IsWithin (reads_for (joined (counts_of_sources touch s t) (counts_to_place p end))) (reads_for (counts_to touch s t o))
  within_fault None reached =
      let none = orderly.none_looped in
      let tiles = one_count touch s t p sources names plan orderly (λ (l : LayerDef). length (damage_of touch s t l)) (λ i. length (damage_at p i)) (λ k n at. ap length (damage_is touch s t p sources names plan changes old none k n at)) in
      let work = one_count touch s t p sources names plan orderly (λ (l : LayerDef). work_of touch s t l) (λ i. work_at p i) (λ k n at. work_is touch s t p sources names plan changes old none k n at) in
      let few = whole_sum (λ i. length (damage_at p i)) end (length names) within in
      let little = whole_sum (λ i. work_at p i) end (length names) within in
      record { looks = omega (arith, tiles, few); picks = omega (arith, work, little) }
  within_fault (Some f) reached =
      let none = orderly.none_looped in
      let d = depth_in (nodes_of t.entries) (faulty_name f) in
      let tiles = one_allowed touch s t p sources names plan orderly (λ (l : LayerDef). length (damage_of touch s t l)) (λ i. length (damage_at p i)) d end
      (λ k n at. ap length (damage_is touch s t p sources names plan changes old none k n at)) within (reached f refl) in
      let work = one_allowed touch s t p sources names plan orderly (λ (l : LayerDef). work_of touch s t l) (λ i. work_at p i) d end
      (λ k n at. work_is touch s t p sources names plan changes old none k n at) within (reached f refl) in
      record { looks = omega (arith, tiles); picks = omega (arith, work) }

pub reads_are_allowed : ReadsAreAllowed
unfolding edit_reads
reads_are_allowed s t e p sources names end tried plan changes old orderly within reached =
    let touch = touch_of e in
    subst (λ r. IsWithin (reads_for (joined (counts_of_sources touch s.names t.names) (counts_to_place p end))) (reads_of_attempt s e r)) (sym tried)
    (within_fault touch s.names t.names p sources names plan changes old orderly end within (fault_after e t) reached)
