-- What a plan makes is the values of the state after the edit, and what is kept of a statement is right, before the edit and after it.
use Rattle.std.proofs.Common.{◌≡◌, ℕ, zero, suc, ◌<◌, List, [], ◌∷◌, map, Option, Some, None, option_map, refl, sym, ap, ◌∙◌, arith, ℤ, true, unwrap_or, is_some, subst}
use Rattle.std.specs.List.{All}
use Rattle.std.proofs.lemmas.Option.{none-some}
use Rattle.std.proofs.lemmas.List.Elements.{All-nil, All-cons}
use Rattle.map_nums.specs.Grids.{Cells, constant, Size}
use Rattle.map_defs.specs.Ops.{Name, Term, layer_term, number_term, Op}
use Rattle.layer_tiles.specs.Changes.{ChangeState, constant_change}
use Rattle.layer_tiles.specs.Operands.{cells_after}
use Rattle.map_waves.specs.Statements.{made, cells_were, fault_in}
use Rattle.map_waves.specs.Plans.{Plan, operand_in, changes_to, change_at, operands_at}
use Rattle.map_waves.specs.Values.{all_some, term_cells, operand_cells, Unfolds, IsRefTo, AreRefsTo, IsPlanOf, IsRefBefore, AreRefsBefore}
use Rattle.map_waves.specs.declared.plans.Ref.{Ref}
use Rattle.map_waves.specs.declared.plans.Ref.TheVariants.{Source, Statement, Number}
use Rattle.map_waves.specs.Keeping.{IsRightOver}
use Rattle.map_waves.specs.Prepared.{IsPrepared, shown}
use Rattle.map_waves.specs.Placing.{IsRightFor, IsPlaced, IsPlacedLayer}
use Rattle.map_waves.specs.declared.keeping.Aside.{Aside}
use Rattle.map_waves.specs.declared.keeping.Kept.{Kept}
use Rattle.map_waves.specs.declared.keeping.Made.{Made}
use Rattle.map_waves.proofs.Running.{changes_at}

module _ (p : Plan) (op_of : Name → Option Op) (value : Name → Option Cells) (name : ℕ → Name) (n : ℕ) (plan : IsPlanOf op_of value name p n) (unfolds : Unfolds p.size op_of value) where
  module _ (k : ℕ) (before : (j : ℕ) → j < k → value (name j) ≡ Some (change_at p j).cells) where
    cells_for : (t : Term) (r : Ref) → IsRefTo p name value k t r → term_cells p.size value t ≡ Some (operand_in p (changes_to p k) r).cells
    cells_for (layer_term m) (Source i) is = is
    cells_for (layer_term m) (Statement j) is =
        ap value (sym is.0) ∙ before j is.1 ∙ ap (λ (c : ChangeState). Some c.cells) (sym (changes_at p j k (constant_change p.size None) is.1))
    cells_for (number_term z) (Number c) is = ap (λ d. Some (constant p.size d).cells) (sym is)
    cells_for (layer_term m) (Number c) is = absurd is
    cells_for (number_term z) (Source i) is = absurd is
    cells_for (number_term z) (Statement j) is = absurd is

    all_cells : (ts : List Term) (rs : List Ref) → AreRefsTo p name value k ts rs → all_some (map (term_cells p.size value) ts) ≡ Some (cells_after (map (operand_in p (changes_to p k)) rs))
    all_cells [] [] are = refl
    all_cells [] (r ∷ rs) are = absurd are
    all_cells (t ∷ ts) [] are = absurd are
    all_cells (t ∷ ts) (r ∷ rs) are =
        ap (λ o. all_some (o ∷ map (term_cells p.size value) ts)) (cells_for t r are.0)
        ∙ ap (option_map (λ rest. (operand_in p (changes_to p k) r).cells ∷ rest)) (all_cells ts rs are.1)

    operands_here : k < n → operand_cells p.size value (p.step k).op ≡ Some (cells_after (operands_at p k))
    operands_here below = all_cells (p.step k).op.terms (p.step k).refs (plan.refs k below)

    value_here : k < n → value (name k) ≡ Some (change_at p k).cells
    value_here below = unfolds (name k) (p.step k).op (plan.ops k below) ∙ ap (option_map (made p.size (p.step k).op)) (operands_here below)

  values_below : (b k : ℕ) → k < b → k < n → value (name k) ≡ Some (change_at p k).cells
  values_below zero k h below = absurd (omega arith)
  values_below (suc b) k h below = value_here k (λ j less. values_below b j (omega arith) (omega arith)) below

  -- the change of each statement has the value of its name
  pub values_are : (k : ℕ) → k < n → value (name k) ≡ Some (change_at p k).cells
  values_are k below = values_below (suc k) k (omega arith) below

  -- and its operands those of its terms
  pub operands_are_values : (k : ℕ) → k < n → operand_cells p.size value (p.step k).op ≡ Some (cells_after (operands_at p k))
  operands_are_values k below = operands_here k (λ j less. values_are j (omega arith)) below

-- ---- what is kept is right

-- all were there, with these cells
record WereThere (os : List ChangeState) (cells : List (List (Option ℤ))) : Type 0 where
  there : All (λ (c : ChangeState). is_some c.before ≡ true) os
  before : cells_were os ≡ cells

module _ (p : Plan) (value : Name → Option Cells) (k : ℕ) where
  abbrev operand_for : Ref → ChangeState
  operand_for r = operand_in p (changes_to p k) r

  before_is : (t : Term) (r : Ref) → IsRefBefore p value k t r → term_cells p.size value t ≡ (operand_for r).before
  before_is (layer_term m) (Source i) is = is
  before_is (layer_term m) (Statement j) is = is.0 ∙ ap (λ (c : ChangeState). c.before) (sym (changes_at p j k (constant_change p.size None) is.1))
  before_is (number_term z) (Number c) is = ap (λ d. Some (constant p.size d).cells) (sym is)
  before_is (layer_term m) (Number c) is = absurd is
  before_is (number_term z) (Source i) is = absurd is
  before_is (number_term z) (Statement j) is = absurd is

  were_there : (ts : List Term) (rs : List Ref) (cells : List Cells) → AreRefsBefore p value k ts rs → all_some (map (term_cells p.size value) ts) ≡ Some cells → WereThere (map operand_for rs) cells
  were_there [] [] cells are e = record { there = All-nil (λ (c : ChangeState). is_some c.before ≡ true); before = cc }
  were_there [] (r ∷ rs) cells are e = absurd are
  were_there (t ∷ ts) [] cells are e = absurd are
  were_there (t ∷ ts) (r ∷ rs) cells are e = go (term_cells p.size value t) refl e (all_some (map (term_cells p.size value) ts)) refl (λ rest h. were_there ts rs rest are.1 h)
    where
      go : (o : Option Cells) → term_cells p.size value t ≡ o → all_some (o ∷ map (term_cells p.size value) ts) ≡ Some cells
          → (q : Option (List Cells)) → all_some (map (term_cells p.size value) ts) ≡ q → ((rest : List Cells) → all_some (map (term_cells p.size value) ts) ≡ Some rest → WereThere (map operand_for rs) rest)
          → WereThere (map operand_for (r ∷ rs)) cells
      go None is f q more later = absurd (none-some cells f)
      go (Some own) is f None more later = absurd (none-some cells (sym (ap (option_map (λ rest. own ∷ rest)) more) ∙ f))
      go (Some own) is f (Some rest) more later =
          let both : Some (own ∷ rest) ≡ Some cells = sym (ap (option_map (λ rest. own ∷ rest)) more) ∙ f in
          let same : own ∷ rest ≡ cells = cc in
          let here : (operand_for r).before ≡ Some own = sym (before_is t r are.0) ∙ is in
          let others = later rest more in
          record {
            there = All-cons (λ (c : ChangeState). is_some c.before ≡ true) (operand_for r) (map operand_for rs) (ap is_some here) others.there;
            before = ap (λ o. unwrap_or o [] ∷ cells_were (map operand_for rs)) here ∙ ap (λ cs. own ∷ cs) others.before ∙ same;
          }

module _ {B : Type 0} (suits : Size → Op → List Cells → Aside B → Type 0) (p : Plan) (k : ℕ) where
  pub right_before : (value : Name → Option Cells) (operands : List Cells) (own : Kept B) → AreRefsBefore p value k (p.step k).op.terms (p.step k).refs
      → operand_cells p.size value (p.step k).op ≡ Some operands → IsRightFor suits p.size (p.step k).op operands own → IsRightOver suits p.size (p.step k).op (operands_at p k) own
  right_before value operands own refs are right =
      let were = were_there p value k (p.step k).op.terms (p.step k).refs operands refs are in
      record {
        size = right.size;
        there = were.there;
        right = right.right ∙ ap (made p.size (p.step k).op) (sym were.before);
        faultless = ap (fault_in p.size (p.step k).op) were.before ∙ right.faultless;
        beside = subst (λ (os : List Cells). suits p.size (p.step k).op os own.beside) (sym were.before) right.beside;
      }

  -- a layer in place has the size and the cells of its change
  record IsLike (change : ChangeState) (own : Kept B) : Type 0 where
    size : own.layer.size ≡ change.size
    cells : own.layer.cells ≡ change.cells

  like_shown : (size : Size) (n : ℕ) (own : Option (Kept B)) (r : Option (Made B)) (new : Kept B) → IsPlacedLayer own (shown size own r) n new.layer → IsLike (shown size own r) new
  like_shown size n None r new is = record { size = ap (λ l. l.size) is; cells = ap (λ l. l.cells) is }
  like_shown size n (Some old) None new is = record { size = is.0; cells = is.1 }
  like_shown size n (Some old) (Some m) new is = record { size = is.0; cells = is.1 }

  pub right_after : (stamp : ℕ) (own : Option (Kept B)) (r : Option (Made B)) (new : Kept B) → IsPrepared suits p k own r → IsPlaced p.size own r stamp new
      → IsRightFor suits p.size (p.step k).op (cells_after (operands_at p k)) new
  right_after stamp own r new prepared placed =
      let like = like_shown p.size stamp own r new placed.layer in
      record {
        size = like.size ∙ ap (λ (c : ChangeState). c.size) prepared.change;
        right = like.cells ∙ ap (λ (c : ChangeState). c.cells) prepared.change;
        faultless = prepared.faultless;
        beside = prepared.beside new.beside placed.beside;
      }
