-- A plan for the layers of a state, by name, before and after an edit.
use Rattle.std.specs.Prelude.{◌≡◌, ℕ, ◌<◌, List, [], ◌∷◌, map, Option, Some, None, option_map, ℤ}
use Rattle.map_nums.specs.Grids.{Size, Cells, constant}
use Rattle.map_defs.specs.Ops.{Name, Term, layer_term, number_term, Op}
use Rattle.map_waves.specs.Statements.{made}
use Rattle.map_waves.specs.Plans.{Plan}
use Rattle.map_waves.specs.declared.plans.Ref.{Ref}
use Rattle.map_waves.specs.declared.plans.Ref.TheVariants.{Source, Statement, Number}

-- the operands' cells, where every one is there
abbrev pub all_some : List (Option Cells) → Option (List Cells)
all_some [] = Some []
all_some (None ∷ os) = None
all_some (Some cells ∷ os) = option_map (λ rest. cells ∷ rest) (all_some os)

abbrev pub term_cells : Size → (Name → Option Cells) → Term → Option Cells
term_cells s value (layer_term n) = value n
term_cells s value (number_term z) = Some (constant s (Some z)).cells

-- the cells of an operation's terms
abbrev pub operand_cells : Size → (Name → Option Cells) → Op → Option (List Cells)
operand_cells s value op = all_some (map (term_cells s value) op.terms)

-- each statement's cells are those of its operation on the values of its operands
abbrev pub Unfolds : Size → (Name → Option Op) → (Name → Option Cells) → Type 0
Unfolds s op_of value = (n : Name) (op : Op) → op_of n ≡ Some op → value n ≡ option_map (made s op) (operand_cells s value op)

-- an operand of statement k stands for a term
abbrev pub IsRefTo : Plan → (ℕ → Name) → (Name → Option Cells) → ℕ → Term → Ref → Type 0
IsRefTo p name value k (layer_term n) (Source i) = value n ≡ Some (p.source i).cells
IsRefTo p name value k (layer_term n) (Statement j) = (name j ≡ n) × (j < k)
IsRefTo p name value k (layer_term n) (Number c) = ⊥
IsRefTo p name value k (number_term z) (Source i) = ⊥
IsRefTo p name value k (number_term z) (Statement j) = ⊥
IsRefTo p name value k (number_term z) (Number c) = c ≡ Some z

abbrev pub AreRefsTo : Plan → (ℕ → Name) → (Name → Option Cells) → ℕ → List Term → List Ref → Type 0
AreRefsTo p name value k [] [] = Unit {0}
AreRefsTo p name value k [] (r ∷ rs) = ⊥
AreRefsTo p name value k (t ∷ ts) [] = ⊥
AreRefsTo p name value k (t ∷ ts) (r ∷ rs) = IsRefTo p name value k t r × AreRefsTo p name value k ts rs

-- the first n statements of a plan are these names' operations, on operands that stand for their terms
pub record IsPlanOf (op_of : Name → Option Op) (value : Name → Option (List (Option ℤ))) (name : ℕ → List ℕ) (p : Plan) (n : ℕ) : Type 0 where
  pub ops : (k : ℕ) → k < n → op_of (name k) ≡ Some (p.step k).op
  pub refs : (k : ℕ) → k < n → AreRefsTo p name value k (p.step k).op.terms (p.step k).refs

-- ---- before the edit

-- an operand of statement k stood for a term
abbrev pub IsRefBefore : Plan → (Name → Option Cells) → ℕ → Term → Ref → Type 0
IsRefBefore p value k (layer_term n) (Source i) = value n ≡ (p.source i).before
IsRefBefore p value k (layer_term n) (Statement j) = (value n ≡ (p.step j).was) × (j < k)
IsRefBefore p value k (layer_term n) (Number c) = ⊥
IsRefBefore p value k (number_term z) (Source i) = ⊥
IsRefBefore p value k (number_term z) (Statement j) = ⊥
IsRefBefore p value k (number_term z) (Number c) = c ≡ Some z

abbrev pub AreRefsBefore : Plan → (Name → Option Cells) → ℕ → List Term → List Ref → Type 0
AreRefsBefore p value k [] [] = Unit {0}
AreRefsBefore p value k [] (r ∷ rs) = ⊥
AreRefsBefore p value k (t ∷ ts) [] = ⊥
AreRefsBefore p value k (t ∷ ts) (r ∷ rs) = IsRefBefore p value k t r × AreRefsBefore p value k ts rs
