-- The operands of a statement that stood before, and wasn't written, were all there.
use Rattle.std.proofs.Common.{◌≡◌, ℕ, ℤ, Bool, true, false, List, [], ◌∷◌, map, Option, Some, None, IsSome, option_map, unwrap_or, slice_get, if◌then◌else◌, refl, sym, ap, subst, ◌∙◌}
use Rattle.std.specs.List.{All}
use Rattle.std.proofs.lemmas.Option.{none-some}
use Rattle.std.proofs.lemmas.List.Elements.{All-nil, All-cons}
use Rattle.map_nums.specs.Grids.{Cells, Grid, constant}
use Rattle.map_nums.specs.Options.{all_some}
use Rattle.map_defs.specs.Ops.{Name, Term, layer_term, number_term, Op}
use Rattle.map_defs.specs.Operate.{operate}
use Rattle.layer_tiles.specs.Changes.{ChangeState, constant_change}
use Rattle.map_edits.specs.LayerDefs.{by_op, layers, find_making, nodes_of}
use Rattle.map_edits.specs.EngineStates.{EngineState, term_cells, value_of}
use Rattle.map_edits.specs.EngineStates as states
use Rattle.map_edits.specs.Touches.{Touch}
use Rattle.map_edits.specs.Laws.{HasNoCycle}
use Rattle.map_edits.proofs.Unfolds.{value_unfolds}
use Rattle.map_waves.specs.Statements.{made, cells_were}
use Rattle.map_waves.specs.Plans.{Plan, operand_in, changes_to, operands_at}
use Rattle.edit_plans.specs.PlansFor.{IsRefFor, AreRefsFor, IsPlanFor}
use Rattle.map_edits.specs.Touching.{ChangesOnly}
use Rattle.map_waves.specs.declared.plans.Ref.{Ref}
use Rattle.map_waves.specs.declared.plans.Ref.TheVariants.{Source, Statement, Number}
use Rattle.map_waves.proofs.Running.{changes_at}
use Rattle.edit_plans.proofs.There.{all_parts}

-- all operands were there, with these cells
pub record WereThere (os : List ChangeState) (cells : List (List (Option ℤ))) : Type 0 where
  pub there : All (λ (c : ChangeState). IsSome c.before) os
  pub before : cells_were os ≡ cells

was_some : (c : ChangeState) (was : Cells) → c.before ≡ Some was → IsSome c.before
was_some c was e = subst IsSome (sym e) refl

-- a statement that stood before: the cells of its operands, and its own
pub record StoodOn (s : EngineState) (p : Plan) (k : ℕ) (w : List (Option ℤ)) : Type 0 where
  pub cells : List (List (Option ℤ))
  pub all : all_some (map (term_cells s.size (value_of s)) (p.step k).op.terms) ≡ Some cells
  pub made_is : w ≡ made p.size (p.step k).op cells
  pub there : WereThere (operands_at p k) cells

module _ (touch : Touch) (s t : EngineState) (p : Plan) (sources names : List Name) (plan : IsPlanFor touch s t p sources names) (changes : ChangesOnly touch s t) (old : HasNoCycle (nodes_of s.entries)) where
  same_size : p.size ≡ s.size
  same_size = plan.size ∙ sym changes.size

  term_before : (k : ℕ) (u : Term) (r : Ref) (was : Cells) → IsRefFor sources names k u r → term_cells s.size (value_of s) u ≡ Some was → (operand_in p (changes_to p k) r).before ≡ Some was
  term_before k (layer_term m) (Source i) was is e = (plan.sources_are i m is).before was e
  term_before k (layer_term m) (Statement j) was is e = ap (λ (c : ChangeState). c.before) (changes_at p j k (constant_change p.size None) is.1) ∙ (plan.steps j m is.0).was ∙ e
  term_before k (number_term z) (Number c) was is e = ap (λ d. Some (constant p.size d).cells) is ∙ ap (λ q. Some (constant q (Some z)).cells) same_size ∙ e
  term_before k (layer_term m) (Number c) was is e = absurd is
  term_before k (number_term z) (Source i) was is e = absurd is
  term_before k (number_term z) (Statement j) was is e = absurd is

  terms_before : (k : ℕ) (us : List Term) (rs : List Ref) (cells : List Cells) → AreRefsFor sources names k us rs → all_some (map (term_cells s.size (value_of s)) us) ≡ Some cells → WereThere (map (operand_in p (changes_to p k)) rs) cells
  terms_before k [] [] cells are e = record { there = All-nil (λ (c : ChangeState). IsSome c.before); before = cc }
  terms_before k [] (r ∷ rs) cells are e = absurd are
  terms_before k (u ∷ us) [] cells are e = absurd are
  terms_before k (u ∷ us) (r ∷ rs) cells are e =
      let parts = all_parts (term_cells s.size (value_of s) u) (map (term_cells s.size (value_of s)) us) cells e in
      let here : ChangeState = operand_in p (changes_to p k) r in
      let others : List ChangeState = map (operand_in p (changes_to p k)) rs in
      let was : here.before ≡ Some parts.0 = term_before k u r parts.0 are.0 parts.2 in
      let last = terms_before k us rs parts.1 are.1 parts.3 in
      record {
        there = All-cons (λ (c : ChangeState). IsSome c.before) here others (was_some here parts.0 was) last.there;
        before = ap (λ o. unwrap_or o [] ∷ cells_were others) was ∙ ap (λ cs. parts.0 ∷ cs) last.before ∙ parts.4;
      }

  -- a statement that isn't written and was defined
  pub stood_on : (k : ℕ) (n : Name) (w : Cells) → slice_get names k ≡ Some n → (p.step k).written ≡ false → (p.step k).was ≡ Some w → StoodOn s p k w
  stood_on k n w at unwritten was = go (all_some (map (term_cells s.size (value_of s)) op.terms)) refl
    where
      op : Op
      op = (p.step k).op

      making : find_making (layers s.entries) n ≡ Some (by_op op)
      making = let step = plan.steps k n at in changes.statements n op (sym step.written ∙ unwritten) step.making

      own : option_map (λ (g : Grid). g.cells) (option_map (operate s.size op) (all_some (map (term_cells s.size (value_of s)) op.terms))) ≡ Some w
      own = ap (option_map (λ (g : Grid). g.cells)) (sym (value_unfolds s old n ∙ ap (states.made s.size (value_of s)) making)) ∙ sym (plan.steps k n at).was ∙ was

      go : (o : Option (List Cells)) → all_some (map (term_cells s.size (value_of s)) op.terms) ≡ o → StoodOn s p k w
      go None e = absurd (none-some w (sym (ap (λ o. option_map (λ (g : Grid). g.cells) (option_map (operate s.size op) o)) e) ∙ own))
      go (Some cells) e =
          let both : Some (made s.size op cells) ≡ Some w = sym (ap (λ o. option_map (λ (g : Grid). g.cells) (option_map (operate s.size op) o)) e) ∙ own in
          let same : made s.size op cells ≡ w = cc in
          record {
            cells = cells;
            all = e;
            made_is = sym same ∙ ap (λ q. made q op cells) (sym same_size);
            there = terms_before k op.terms (p.step k).refs cells (plan.steps k n at).refs e;
          }

-- what is reckoned from stood, and wasn't written
pub reckoned_stood : (b : Bool) (o : Option Cells) (w : Cells) → (if b then None else o) ≡ Some w → (b ≡ false) × (o ≡ Some w)
reckoned_stood true o w e = absurd cc
reckoned_stood false o w e = (refl, e)
