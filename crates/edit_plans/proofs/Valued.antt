-- What a plan makes is the values of the state after.
use Rattle.std.proofs.Common.{◌≡◌, ℕ, zero, suc, ◌<◌, Bool, true, List, [], ◌∷◌, map, filter, Option, Some, None, is_some, option_map, slice_get, refl, sym, ap, ◌∙◌, arith, inl, inr}
use Rattle.std.proofs.lemmas.Bool.{false≢true, and_parts, cases_Bool}
use Rattle.std.proofs.lemmas.Option.{none-some, same_Some}
use Rattle.map_nums.specs.Grids.{Cells, Grid, constant}
use Rattle.map_nums.specs.Options.{all_some}
use Rattle.map_defs.specs.Ops.{Name, Term, layer_term, number_term}
use Rattle.map_defs.specs.Operate.{operate}
use Rattle.map_defs.specs.Nodes.{Node}
use Rattle.map_defs.specs.Depths.{by_depth}
use Rattle.layer_tiles.specs.Changes.{ChangeState, constant_change}
use Rattle.layer_tiles.specs.Operands.{cells_after}
use Rattle.map_edits.specs.LayerDefs.{nodes_of}
use Rattle.map_edits.specs.EngineStates.{EngineState, term_cells, made, value_of}
use Rattle.map_edits.specs.WholeStates.{cells_of}
use Rattle.map_edits.specs.Touches.{Touch}
use Rattle.map_edits.specs.Laws.{HasNoCycle}
use Rattle.map_edits.proofs.Unfolds.{value_unfolds}
use Rattle.map_waves.specs.Plans.{Plan, operand_in, changes_to, operands_at, change_at}
use Rattle.edit_plans.specs.PlansFor.{IsRefFor, AreRefsFor, IsPlanFor}
use Rattle.edit_plans.specs.PlanLaws.{ValuesAreMade}
use Rattle.map_waves.specs.declared.plans.Ref.{Ref}
use Rattle.map_waves.specs.declared.plans.Ref.TheVariants.{Source, Statement, Number}
use Rattle.map_waves.proofs.Running.{changes_at}
use Rattle.edit_plans.proofs.Operating.{operate_size}
use Rattle.edit_plans.proofs.There.{some_map, all_cons}

-- a name that is left by a test passes it
passes_at : (q : Name → Bool) (xs : List Node) (k : ℕ) (n : Name) → slice_get (map (λ (x : Node). x.name) (filter (λ (x : Node). q x.name) xs)) k ≡ Some n → q n ≡ true
passes_at q [] k n here = absurd (none-some n here)
passes_at q (x ∷ xs) zero n here = elim (cases_Bool (q x.name)) [ inl e ↦ ap q (sym (same_Some x.name n (simp e at here))) ∙ e | inr e ↦ passes_at q xs zero n (simp e at here) ]
passes_at q (x ∷ xs) (suc k) n here = elim (cases_Bool (q x.name)) [ inl e ↦ passes_at q xs k n (simp e at here) | inr e ↦ passes_at q xs (suc k) n (simp e at here) ]

module _ (touch : Touch) (s t : EngineState) (p : Plan) (sources names : List Name) (plan : IsPlanFor touch s t p sources names) where
  -- the first k statements have the values of their names
  abbrev pub AreMadeTo : ℕ → Type 0
  AreMadeTo k = (j : ℕ) (m : Name) → j < k → slice_get names j ≡ Some m → cells_of t m ≡ Some (change_at p j).cells

  module _ (k : ℕ) (before : AreMadeTo k) where
    source_after : (m : Name) (i : ℕ) → slice_get sources i ≡ Some m → is_some (cells_of t m) ≡ true → cells_of t m ≡ Some (p.source i).cells
    source_after m i is there = go (cells_of t m) refl there
      where
        go : (o : Option Cells) → cells_of t m ≡ o → is_some o ≡ true → cells_of t m ≡ Some (p.source i).cells
        go None e none = absurd (false≢true none)
        go (Some now) e some = e ∙ ap (λ cells. Some cells) (sym ((plan.sources_are i m is).after now e))

    term_after : (u : Term) (r : Ref) → IsRefFor sources names k u r → is_some (term_cells t.size (value_of t) u) ≡ true → term_cells t.size (value_of t) u ≡ Some (operand_in p (changes_to p k) r).cells
    term_after (layer_term m) (Source i) is there = source_after m i is there
    term_after (layer_term m) (Statement j) is there = before j m is.1 is.0 ∙ ap (λ (c : ChangeState). Some c.cells) (sym (changes_at p j k (constant_change p.size None) is.1))
    term_after (number_term z) (Number c) is there = ap (λ q. Some (constant q (Some z)).cells) (sym plan.size) ∙ ap (λ d. Some (constant p.size d).cells) (sym is)
    term_after (layer_term m) (Number c) is there = absurd is
    term_after (number_term z) (Source i) is there = absurd is
    term_after (number_term z) (Statement j) is there = absurd is

    terms_after : (us : List Term) (rs : List Ref) → AreRefsFor sources names k us rs → is_some (all_some (map (term_cells t.size (value_of t)) us)) ≡ true
        → all_some (map (term_cells t.size (value_of t)) us) ≡ Some (cells_after (map (operand_in p (changes_to p k)) rs))
    terms_after [] [] are there = refl
    terms_after [] (r ∷ rs) are there = absurd are
    terms_after (u ∷ us) [] are there = absurd are
    terms_after (u ∷ us) (r ∷ rs) are there =
        let both = and_parts (is_some (term_cells t.size (value_of t) u)) (is_some (all_some (map (term_cells t.size (value_of t)) us))) (sym (all_cons (term_cells t.size (value_of t) u) (map (term_cells t.size (value_of t)) us)) ∙ there) in
        ap (λ o. all_some (o ∷ map (term_cells t.size (value_of t)) us)) (term_after u r are.0 both.0)
        ∙ ap (option_map (λ rest. (operand_in p (changes_to p k) r).cells ∷ rest)) (terms_after us rs are.1 both.1)

  module _ (none : HasNoCycle (nodes_of t.entries)) where
    -- a statement of the plan is defined, and so is all that it reads
    operands_there : (k : ℕ) (n : Name) → slice_get names k ≡ Some n → is_some (all_some (map (term_cells t.size (value_of t)) (p.step k).op.terms)) ≡ true
    operands_there k n at =
        sym (some_map (operate t.size (p.step k).op) (all_some (map (term_cells t.size (value_of t)) (p.step k).op.terms)))
        ∙ ap is_some (sym (value_unfolds t none n ∙ ap (made t.size (value_of t)) (plan.steps k n at).making))
        ∙ passes_at (λ m. is_some (value_of t m)) (by_depth (nodes_of t.entries)) k n (ap (λ ns. slice_get ns k) (sym plan.names_are) ∙ at)

    operands_here : (k : ℕ) (n : Name) → AreMadeTo k → slice_get names k ≡ Some n → all_some (map (term_cells t.size (value_of t)) (p.step k).op.terms) ≡ Some (cells_after (operands_at p k))
    operands_here k n before at = terms_after k before (p.step k).op.terms (p.step k).refs (plan.steps k n at).refs (operands_there k n at)

    grid_here : (k : ℕ) (n : Name) → AreMadeTo k → slice_get names k ≡ Some n → value_of t n ≡ Some (operate t.size (p.step k).op (cells_after (operands_at p k)))
    grid_here k n before at =
        value_unfolds t none n ∙ ap (made t.size (value_of t)) (plan.steps k n at).making
        ∙ ap (option_map (operate t.size (p.step k).op)) (operands_here k n before at)

    value_here : (k : ℕ) (n : Name) → AreMadeTo k → slice_get names k ≡ Some n → value_of t n ≡ Some (record { size = p.size; cells = (change_at p k).cells })
    value_here k n before at =
        grid_here k n before at
        ∙ ap (λ q. Some (operate q (p.step k).op (cells_after (operands_at p k)))) (sym plan.size)
        ∙ ap (λ g. Some g) (operate_size p.size (p.step k).op (cells_after (operands_at p k)))

    made_to : (b k : ℕ) → k < b → AreMadeTo k
    made_to zero k h = absurd (omega arith)
    made_to (suc b) k h = λ j m less at. ap (option_map (λ (g : Grid). g.cells)) (value_here j m (made_to b j (omega arith)) at)

    pub all_made : (k : ℕ) → AreMadeTo k
    all_made k = made_to (suc k) k (omega arith)

    -- the operands of a statement have the values of their names
    pub operands_made : (k : ℕ) (n : Name) → slice_get names k ≡ Some n → all_some (map (term_cells t.size (value_of t)) (p.step k).op.terms) ≡ Some (cells_after (operands_at p k))
    operands_made k n at = operands_here k n (all_made k) at

    pub value_is_made : (k : ℕ) (n : Name) → slice_get names k ≡ Some n → value_of t n ≡ Some (record { size = p.size; cells = (change_at p k).cells })
    value_is_made k n at = value_here k n (all_made k) at

pub values_are_made : ValuesAreMade
values_are_made touch s t p sources names k n plan none at = value_is_made touch s t p sources names plan none k n at
