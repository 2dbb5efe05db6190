-- The fault of a layer that is defined, by its operation and the cells of its operands; and the first fault of a state is the first fault of its plan.
use Rattle.std.proofs.Common.{◌≡◌, ℕ, zero, suc, ◌<◌, List, [], ◌∷◌, map, filter, length, Option, Some, None, is_some, option_map, slice_get, get_or, ◌↔◌, refl, sym, ap, ◌∙◌, arith, inl, inr, ◌&&◌, nat_lt, Bool, true, false, position, unwrap_or, if◌then◌else◌}
use Rattle.std.proofs.lemmas.Option.{none-some, slice_get_within, slice_get-get_or}
use Rattle.std.proofs.lemmas.Bool.{cases_Bool}
use Rattle.map_nums.specs.Options.{first_some, all_some}
use Rattle.map_defs.specs.Ops.{Name, Term, Op}
use Rattle.map_defs.specs.Nodes.{Node}
use Rattle.map_defs.specs.Depths.{by_depth}
use Rattle.layer_tiles.specs.Operands.{cells_after}
use Rattle.map_edits.specs.LayerDefs.{nodes_of, by_op, layers, find_making}
use Rattle.map_edits.specs.EngineStates.{EngineState, value_of, term_cells}
use Rattle.map_edits.specs.Faults.{Fault, fault_of_layer, fault_of, too_many_viewers, viewers_of, overflow_at}
use Rattle.map_edits.specs.Laws.{HasNoCycle}
use Rattle.map_edits.specs.Touches.{Touch}
use Rattle.map_waves.specs.Statements.{fault_in, made, wide_at, too_many}
use Rattle.map_waves.specs.Plans.{Plan, operands_at, fault_at}
use Rattle.edit_plans.specs.PlansFor.{IsPlanFor}
use Rattle.edit_plans.specs.PlanLaws.{FirstFaultIsTold, NoFaultIsNone}
use Rattle.edit_plans.specs.Telling.{fault_told}
use Rattle.map_edits.proofs.Looks.{none_there}
use Rattle.map_edits.proofs.LawfulFaults.{undefined_faultless, faulty}
use Rattle.map_nums.specs.Grids.{Cells}
use Rattle.map_nums.specs.Answers.{is_wide}
use Rattle.map_defs.specs.Viewers.{viewers_in}
use Rattle.map_defs.specs.Operate.{operate}
use Rattle.map_defs.specs.Sight.{most_viewers}
use Rattle.map_edits.proofs.Unfolds.{value_unfolds}
use Rattle.edit_plans.proofs.Valued.{operands_made}
use Rattle.map_waves.specs.Statements as waves
use Rattle.map_edits.specs.EngineStates as states
use Rattle.edit_plans.proofs.There.{map_none}

module _ (t : EngineState) where
  abbrev cells_for : Term → Option Cells
  cells_for u = term_cells t.size (value_of t) u

  viewers_told : (op : Op) (cells : List Cells) → all_some (map cells_for op.terms) ≡ Some cells → viewers_of t (Some (by_op op)) ≡ viewers_in op cells
  viewers_told op cells e = ap (λ os. unwrap_or (option_map (viewers_in op) os) 0) e

  module _ (none : HasNoCycle (nodes_of t.entries)) (n : Name) (op : Op) (cells : List Cells) (making : find_making (layers t.entries) n ≡ Some (by_op op)) (all : all_some (map cells_for op.terms) ≡ Some cells) where
    pub grid_is : value_of t n ≡ Some (operate t.size op cells)
    grid_is = value_unfolds t none n ∙ ap (states.made t.size (value_of t)) making ∙ ap (option_map (operate t.size op)) all

    -- a layer's fault is told with its name
    pub layer_fault : fault_of_layer t n ≡ option_map (fault_told t.size n) (fault_in t.size op cells)
    unfolding fault_in
    layer_fault =
        ap (λ v. faulty v t.size n (value_of t n)) (ap (viewers_of t) making ∙ viewers_told op cells all) ∙ ap (faulty (viewers_in op cells) t.size n) grid_is
        ∙ go (nat_lt most_viewers (viewers_in op cells)) (position is_wide (made t.size op cells))
      where
        go : (b : Bool) (o : Option ℕ)
            → ◌≡◌ {A = Option Fault} (if b && true then Some (too_many_viewers n (viewers_in op cells)) else overflow_at t.size n o)
            (option_map (fault_told t.size n) (if b then Some (too_many (viewers_in op cells)) else option_map (λ at. wide_at at) o))
        go true o = refl
        go false None = refl
        go false (Some place) = refl

-- ---- the first of a list

module _ {X : Type 0} (f : Name → Option X) where
  pub first_at : (names : List Name) (k : ℕ) (n : Name) (x : X) → slice_get names k ≡ Some n → f n ≡ Some x → ((j : ℕ) (m : Name) → j < k → slice_get names j ≡ Some m → f m ≡ None) → first_some (map f names) ≡ Some x
  first_at [] k n x at is none = absurd (none-some n at)
  first_at (m ∷ names) zero n x at is none = let same : m ≡ n = cc in ap (λ o. first_some (o ∷ map f names)) (ap f same ∙ is)
  first_at (m ∷ names) (suc k) n x at is none =
      ap (λ o. first_some (o ∷ map f names)) (none 0 m (omega arith) refl) ∙ first_at names k n x at is (λ j q less here. none (suc j) q (omega arith) here)

  pub first_none : (names : List Name) → ((j : ℕ) (m : Name) → slice_get names j ≡ Some m → f m ≡ None) → first_some (map f names) ≡ None
  first_none [] none = refl
  first_none (m ∷ names) none = ap (λ o. first_some (o ∷ map f names)) (none 0 m refl) ∙ first_none names (λ j q here. none (suc j) q here)

  pub none_first : (names : List Name) → first_some (map f names) ≡ None → (j : ℕ) (m : Name) → slice_get names j ≡ Some m → f m ≡ None
  none_first [] is j m at = absurd (none-some m at)
  none_first (n ∷ names) is j m at = go (f n) refl is (none_first names)
    where
      rest : f n ≡ None → ((i : ℕ) (q : Name) → slice_get names i ≡ Some q → f q ≡ None) → (i : ℕ) → slice_get (n ∷ names) i ≡ Some m → f m ≡ None
      rest here later zero e = let same : n ≡ m = cc in ap f (sym same) ∙ here
      rest here later (suc i) e = later i m e

      go : (o : Option X) → f n ≡ o → first_some (o ∷ map f names) ≡ None → (first_some (map f names) ≡ None → (i : ℕ) (q : Name) → slice_get names i ≡ Some q → f q ≡ None) → f m ≡ None
      go None here later more = rest here (more later) j at
      go (Some x) here later more = absurd (none-some x (sym later))

  -- what is left out has none
  first_passing : (p : Name → Bool) → ((n : Name) → p n ≡ false → f n ≡ None) → (nodes : List Node)
      → first_some (map (λ (node : Node). f node.name) nodes) ≡ first_some (map f (map (λ (node : Node). node.name) (filter (λ (node : Node). p node.name) nodes)))
  first_passing p none [] = refl
  first_passing p none (x ∷ xs) =
      let rest = first_passing p none xs in
      elim (cases_Bool (p x.name)) [ inl e ↦ simp e (first_more (f x.name) rest) | inr e ↦ simp (e, none x.name e) rest ]
    where
      first_more : (o : Option X) → first_some (map (λ (node : Node). f node.name) xs) ≡ first_some (map f (map (λ (node : Node). node.name) (filter (λ (node : Node). p node.name) xs)))
          → first_some (o ∷ map (λ (node : Node). f node.name) xs) ≡ first_some (o ∷ map f (map (λ (node : Node). node.name) (filter (λ (node : Node). p node.name) xs)))
      first_more None same = same
      first_more (Some y) same = refl

-- ---- the fault of one statement

module _ (touch : Touch) (s t : EngineState) (p : Plan) (sources names : List Name) (plan : IsPlanFor touch s t p sources names) (none : HasNoCycle (nodes_of t.entries)) where
  faults_listed : fault_of t ≡ first_some (map (fault_of_layer t) names)
  unfolding fault_of
  faults_listed =
      first_passing (fault_of_layer t) (λ n. is_some (value_of t n)) (λ n e. undefined_faultless t n (none_there (value_of t n) e)) (by_depth (nodes_of t.entries))
      ∙ ap (λ ns. first_some (map (fault_of_layer t) ns)) (sym plan.names_are)

  -- a statement's fault is told with its name
  pub fault_is_told : (k : ℕ) (n : Name) → slice_get names k ≡ Some n → fault_of_layer t n ≡ option_map (fault_told t.size n) (fault_at p k)
  fault_is_told k n at =
      let step = plan.steps k n at in
      let all = operands_made touch s t p sources names plan none k n at in
      layer_fault t none n (p.step k).op (cells_after (operands_at p k)) step.making all
      ∙ ap (λ q. option_map (fault_told t.size n) (fault_in q (p.step k).op (cells_after (operands_at p k)))) (sym plan.size)

  none_told : (k : ℕ) (n : Name) → slice_get names k ≡ Some n → fault_at p k ≡ None → fault_of_layer t n ≡ None
  none_told k n at e = fault_is_told k n at ∙ ap (option_map (fault_told t.size n)) e

  pub first_is_told : (k : ℕ) (n : Name) (f : waves.Fault) → slice_get names k ≡ Some n → fault_at p k ≡ Some f → ((j : ℕ) → j < k → fault_at p j ≡ None) → fault_of t ≡ Some (fault_told t.size n f)
  first_is_told k n f at is earlier =
      faults_listed ∙ first_at (fault_of_layer t) names k n (fault_told t.size n f) at (fault_is_told k n at ∙ ap (option_map (fault_told t.size n)) is)
      (λ j m less here. none_told j m here (earlier j less))

  untold : (k : ℕ) (n : Name) → slice_get names k ≡ Some n → fault_of_layer t n ≡ None → fault_at p k ≡ None
  untold k n at e = map_none (fault_told t.size n) (fault_at p k) (sym (fault_is_told k n at) ∙ e)

  pub none_where_none : (fault_of t ≡ None) ↔ ((k : ℕ) → k < length names → fault_at p k ≡ None)
  none_where_none = (
    λ e k below. there k (slice_get names k) refl below e,
    λ each. faults_listed ∙ first_none (fault_of_layer t) names (λ j m at. none_told j m at (each j (slice_get_within names j m at))),
  )
    where
      there : (k : ℕ) (o : Option Name) → slice_get names k ≡ o → k < length names → fault_of t ≡ None → fault_at p k ≡ None
      there k None at below e = absurd (none-some (get_or names k []) (sym at ∙ slice_get-get_or names k [] below))
      there k (Some n) at below e = untold k n at (none_first (fault_of_layer t) names (sym faults_listed ∙ e) k n at)

pub first_fault_is_told : FirstFaultIsTold
first_fault_is_told touch s t p sources names k n f plan none at is earlier = first_is_told touch s t p sources names plan none k n f at is earlier

pub no_fault_is_none : NoFaultIsNone
no_fault_is_none touch s t p sources names plan none = none_where_none touch s t p sources names plan none
