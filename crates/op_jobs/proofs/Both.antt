-- The operands of an operation that takes one or two.
use Rattle.std.proofs.Common.{◌≡◌, List, [], ◌∷◌, length, refl, ◌∙◌, ap, arith}
use Rattle.std.specs.List.{All}
use Rattle.map_nums.specs.Grids.{Size}
use Rattle.map_defs.specs.Operate.{operand}
use Rattle.layer_tiles.specs.Changes.{ChangeState, cells_before}
use Rattle.layer_tiles.specs.Operands.{size_of, cells_after}
use Rattle.map_waves.specs.Operands.{IsOperand}
use Rattle.map_waves.specs.Statements.{cells_were}
use Rattle.op_jobs.specs.Operands.{AreBoth}

pub one_of : {X : Type 0} (xs : List X) → length xs ≡ 1 → (x : X) × (xs ≡ x ∷ [])
one_of [] n = absurd (omega (arith, n))
one_of (x ∷ []) n = (x, refl)
one_of (x ∷ y ∷ xs) n = absurd (omega (arith, n))

pub two_of : {X : Type 0} (xs : List X) → length xs ≡ 2 → (x : X) × ((y : X) × (xs ≡ x ∷ y ∷ []))
two_of [] n = absurd (omega (arith, n))
two_of (x ∷ []) n = absurd (omega (arith, n))
two_of (x ∷ y ∷ []) n = (x, (y, refl))
two_of (x ∷ y ∷ z ∷ xs) n = absurd (omega (arith, n))

module _ {operands : List ChangeState} {v z : ChangeState} (two : operands ≡ v ∷ z ∷ []) where
  pub values_are : operand (cells_after operands) 0 ≡ v.cells
  values_are = rw two refl

  pub values_were : operand (cells_were operands) 0 ≡ cells_before v
  values_were = rw two refl

  pub first_in : (P : ChangeState → Type 0) → All P operands → P v
  first_in P all = (rw two at all) 0 v (omega arith)

  pub second_in : (P : ChangeState → Type 0) → All P operands → P z
  second_in P all = (rw two at all) 1 v (omega arith)

module _ {s : Size} {operands : List ChangeState} {v z : ChangeState} (two : operands ≡ v ∷ z ∷ []) (both : AreBoth s operands) where
  pub first_is : IsOperand s v
  first_is = first_in two (IsOperand s) both.each

  pub second_is : IsOperand s z
  second_is = second_in two (IsOperand s) both.each

  pub one_size : size_of operands ≡ s
  one_size = ap size_of two ∙ first_is.size
