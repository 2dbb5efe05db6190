-- The numbers of cells, one cell after another, and the operations on them.
use Rattle.std.proofs.Common.{◌≡◌, ℕ, zero, suc, ◌<◌, ◌≤◌, List, [], ◌∷◌, ◌++◌, length, get_or, Option, Some, None, ℤ, pos, refl, sym, ◌∙◌, ap, arith, option_map, inl, inr, Bool, true, false, Decides, FitsSigned, to_z, of_z}
use Rattle.std.proofs.lemmas.Int.{ints}
use Rattle.std.proofs.lemmas.List.Elements.{filter_map-append}
use Rattle.std.proofs.lemmas.Bool.Decides.{Decides-int_eq}
use Rattle.std.specs.Int.{w128}
use Rattle.std.specs.Ordering.{int_eq}
use Rattle.map_nums.specs.Widths.{value_width}
use Rattle.map_nums.specs.Numbers.{IsFloor}
use Rattle.map_nums.specs.Grids.{Cells, numbers_in}
use Rattle.map_nums.specs.declared.Stat.{Stat}
use Rattle.map_defs.specs.Local.{LocalOp, of_stat, difference, ratio, rating, all_numbers, taken_numbers, ratio_of}
use Rattle.map_defs.proofs.Floors.{floor_only}
use Rattle.local_ops.specs.Operations.{op_of, Takes}
use Rattle.local_ops.specs.declared.ops.LocalOp as ops
use Rattle.local_ops.specs.declared.ops.LocalOp.TheVariants.{Ignoring, Difference, Ratio, Rating}
use Rattle.local_ops.specs.declared.ops.LocalOp.TheVariants as variants

pushed : (y z : ℤ) (zs : List ℤ) (r q : Option (List ℤ)) → ((ys : List ℤ) → r ≡ Some ys → q ≡ Some (ys ++ z ∷ [])) → option_map (λ ys. y ∷ ys) r ≡ Some zs → option_map (λ ys. y ∷ ys) q ≡ Some (zs ++ z ∷ [])
pushed y z zs None q h e = cc
pushed y z zs (Some ys) q h e = ap (option_map (λ ys. y ∷ ys)) (h ys refl) ∙ ap (option_map (λ ys. ys ++ z ∷ [])) e

-- one more number
pub all_numbers-push : (cells : Cells) (zs : List ℤ) (z : ℤ) → all_numbers cells ≡ Some zs → all_numbers (cells ++ Some z ∷ []) ≡ Some (zs ++ z ∷ [])
all_numbers-push [] zs z e = ap (option_map (λ ys. ys ++ z ∷ [])) e
all_numbers-push (None ∷ cells) zs z e = cc
all_numbers-push (Some y ∷ cells) zs z e = pushed y z zs (all_numbers cells) (all_numbers (cells ++ Some z ∷ [])) (λ ys f. all_numbers-push cells ys z f) e

-- none where one is null
pub all_numbers-null : (cells : Cells) (k : ℕ) (d : Option ℤ) → k < length cells → get_or cells k d ≡ None → all_numbers cells ≡ None
all_numbers-null [] k d l e = absurd (omega (arith, l))
all_numbers-null (c ∷ cells) zero d l e = rw (e) refl
all_numbers-null (None ∷ cells) (suc k) d l e = refl
all_numbers-null (Some z ∷ cells) (suc k) d l e = ap (option_map (λ zs. z ∷ zs)) (all_numbers-null cells k d (omega arith) e)

-- an operation takes one to eight operands
pub takes_some : (op : LocalOp) (n : ℕ) → Takes op n → (0 < n) × (n ≤ 8)
takes_some (of_stat stat ignoring) n t = (omega (arith, t.0), t.1)
takes_some difference n t = (omega (arith, t), omega (arith, t))
takes_some ratio n t = (omega (arith, t), omega (arith, t))
takes_some (rating rates) n t = (omega (arith, t), omega (arith, t))

-- a quotient that is a floor is the ratio
pub ratio_is : (a b q : ℤ) → IsFloor a b q → Some q ≡ ratio_of a b
ratio_is a b q h = rw (other (int_eq b (pos 0)) (b ≡ pos 0) (Decides-int_eq b (pos 0)) (not_nought a b q h)) (ap Some (floor_only a b q h))
  where
    other : (v : Bool) (P : Type 0) → Decides v P → (P → ⊥) → v ≡ false
    other true P d n = absurd (n (d.0 refl))
    other false P d n = refl

    not_nought : (a b q : ℤ) → IsFloor a b q → b ≡ pos 0 → ⊥
    not_nought a b q (inl f) e = absurd (grind (arith, ints))
    not_nought a b q (inr f) e = absurd (grind (arith, ints))

-- numbers in wider words
pub widened_far : (z : ℤ) → FitsSigned value_width z → to_z w128 (of_z w128 (to_z value_width (of_z value_width z))) ≡ z
widened_far z f = omega (arith, ints)

-- one more cell with a number
pub numbers_in-some : (before after : Cells) (zs : List ℤ) (z : ℤ) → after ≡ before ++ Some z ∷ [] → zs ≡ numbers_in before → zs ++ z ∷ [] ≡ numbers_in after
numbers_in-some before after zs z e f = rw (e, f) (sym (filter_map-append (λ c. c) before (Some z ∷ [])))

-- an operation that doesn't ignore nulls takes all numbers
pub takes_all : (op : ops.LocalOp) (cells : Cells) → ((stat : Stat) → op ≡ Ignoring stat → ⊥) → taken_numbers (op_of op) cells ≡ all_numbers cells
takes_all (variants.Stat stat) cells other = refl
takes_all (Ignoring stat) cells other = absurd (other stat refl)
takes_all Difference cells other = refl
takes_all Ratio cells other = refl
takes_all (Rating rates) cells other = refl
