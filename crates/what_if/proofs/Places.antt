-- The place of a row and a column.
use Rattle.std.proofs.Common.{◌≡◌, ◌<◌, ◌≤◌, ◌+◌, ◌-◌, ◌*◌, ℕ, zero, suc, true, Bool, sym, ◌∙◌, arith}
use Rattle.std.proofs.Math.Numerals.{sub-one}
use Rattle.std.proofs.lemmas.Nat.{mul-le}
use Rattle.std.proofs.lemmas.Bool.Decides.{nat_tests}
use Rattle.map_nums.specs.Grids.{Size, cells_in}
use Rattle.map_machine.specs.LayerAnswers.{is_on}

rows_less : (r c : ℕ) → 1 ≤ r → r * c ≡ (r - 1) * c + c
rows_less zero c h = absurd (omega arith)
rows_less (suc r) c h = rw (sub-one) (omega arith)

on_parts : (s : Size) (r c : ℕ) → is_on s r c ≡ true → (1 ≤ r) × (r ≤ s.rows) × (1 ≤ c) × (c ≤ s.columns)
on_parts s r c on = (grind (arith, nat_tests), grind (arith, nat_tests), grind (arith, nat_tests), grind (arith, nat_tests))

-- a row and a column of the map are a cell of it
place_on : (s : Size) (r c : ℕ) → is_on s r c ≡ true → (r - 1) * s.columns + (c - 1) < cells_in s
place_on s r c on =
    let p = on_parts s r c on in
    omega (arith, mul-le r s.columns s.rows s.columns p.1 (omega arith), rows_less r s.columns p.0, p.2, p.3)

pub place_here : (s e : Size) (columns r c : ℕ) (b : Bool) → e ≡ s → columns ≡ e.columns → b ≡ is_on e r c → b ≡ true → (r - 1) * columns + (c - 1) < cells_in s
place_here s e columns r c b same n is on = rw (n, same) (place_on s r c (rw (← same) (sym is ∙ on)))
