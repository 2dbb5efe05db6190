-- The order of cells: null before all numbers.
use Rattle.std.proofs.Common.{◌≡◌, ◌⊎◌, inl, inr, true, false, refl, sym, ap, arith, ℤ, ◌<ℤ◌, ◌≤ℤ◌, Option, Some, None}
use Rattle.std.proofs.lemmas.Int.{ints, by_lt_z}
use Rattle.std.proofs.lemmas.Bool.Decides.{Decides-int_eq}
use Rattle.map_defs.specs.Cells.{same_cell}
use Rattle.map_defs.specs.Kinds.{is_before}

abbrev pub IsBelow : Option ℤ → Option ℤ → Type 0
IsBelow None None = ⊥
IsBelow None (Some w) = Unit {0}
IsBelow (Some z) None = ⊥
IsBelow (Some z) (Some w) = z <ℤ w

abbrev pub IsUpTo : Option ℤ → Option ℤ → Type 0
IsUpTo None d = Unit {0}
IsUpTo (Some z) None = ⊥
IsUpTo (Some z) (Some w) = z ≤ℤ w

-- what the tests say of two cells, the first below the second
pub record Apart (c d : Option ℤ) : Type 0 where
  pub there : same_cell c d ≡ false
  pub back : same_cell d c ≡ false
  pub before : is_before c d ≡ true
  pub after : is_before d c ≡ false

pub apart : (c d : Option ℤ) → IsBelow c d → Apart c d
apart None None h = absurd h
apart None (Some w) h = record { there = refl; back = refl; before = refl; after = refl }
apart (Some z) None h = absurd h
apart (Some z) (Some w) h = record { there = grind (arith, ints); back = grind (arith, ints); before = grind (arith, ints); after = grind (arith, ints) }

pub cell_itself : (c : Option ℤ) → same_cell c c ≡ true
cell_itself None = refl
cell_itself (Some z) = (Decides-int_eq z z).1 refl

pub cell_is : (c d : Option ℤ) → same_cell c d ≡ true → c ≡ d
cell_is None None e = refl
cell_is None (Some w) e = absurd (cc)
cell_is (Some z) None e = absurd (cc)
cell_is (Some z) (Some w) e = ap (λ (x : ℤ). Some x) (sym ((Decides-int_eq w z).0 e))

pub below_or_same : (c d : Option ℤ) → IsUpTo c d → (c ≡ d) ⊎ IsBelow c d
below_or_same None None h = inl refl
below_or_same None (Some w) h = inr tt
below_or_same (Some z) None h = absurd h
below_or_same (Some z) (Some w) h = by_lt_z z w (λ l. inr l) (λ l. let e : z ≡ w = omega (arith, ints) in inl (ap (λ (x : ℤ). Some x) e))

pub in_order : (c d : Option ℤ) → IsUpTo c d ⊎ IsBelow d c
in_order None d = inl tt
in_order (Some z) None = inr tt
in_order (Some z) (Some w) = by_lt_z w z (λ l. inr l) (λ l. inl (omega (arith, ints)))

pub below_trans : (b c d : Option ℤ) → IsBelow b c → IsBelow c d → IsBelow b d
below_trans None None d h k = absurd h
below_trans None (Some z) None h k = absurd k
below_trans None (Some z) (Some w) h k = tt
below_trans (Some y) None d h k = absurd h
below_trans (Some y) (Some z) None h k = absurd k
below_trans (Some y) (Some z) (Some w) h k = omega (arith, ints)

pub up_to_trans : (b c d : Option ℤ) → IsUpTo b c → IsUpTo c d → IsUpTo b d
up_to_trans None c d h k = tt
up_to_trans (Some y) None d h k = absurd h
up_to_trans (Some y) (Some z) None h k = absurd k
up_to_trans (Some y) (Some z) (Some w) h k = omega (arith, ints)
