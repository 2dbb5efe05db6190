-- How far a number falls to a straight neighbour, and to a diagonal one.
use Rattle.std.proofs.Common.{◌≡◌, ◌≢◌, ℕ, zero, suc, ◌%◌, ◌<◌, eqb, Bool, true, false, cond, Option, Some, refl, sym, ◌∙◌, ap, arith, ℤ, pos, ◌-ℤ◌, ◌*ℤ◌}
use Rattle.std.proofs.lemmas.Int.{ints}
use Rattle.std.proofs.lemmas.Bool.Decides.{nat_tests}
use Rattle.map_nums.specs.Numbers.{is_value}
use Rattle.map_defs.specs.Drainage.{is_straight, drop_to}
use Rattle.drainage_flow.specs.FlowNets.{IsSmall}
use Rattle.drainage_flow.specs.Steepest.{offset_at}

-- what a cell may hold is small
pub value_is_small : (z : ℤ) → is_value z ≡ true → IsSmall z
value_is_small z h = record { high = grind (arith, ints); low = grind (arith, ints) }

straight_even : (k : ℕ) → k < 8 → is_straight (offset_at k) ≡ eqb (k % 2) 0
straight_even zero h = refl
straight_even (suc zero) h = refl
straight_even (suc (suc zero)) h = refl
straight_even (suc (suc (suc zero))) h = refl
straight_even (suc (suc (suc (suc zero)))) h = refl
straight_even (suc (suc (suc (suc (suc zero))))) h = refl
straight_even (suc (suc (suc (suc (suc (suc zero)))))) h = refl
straight_even (suc (suc (suc (suc (suc (suc (suc zero))))))) h = refl
straight_even (suc (suc (suc (suc (suc (suc (suc (suc k)))))))) h = absurd (omega arith)

drop_by : (z w : ℤ) (k : ℕ) (b : Bool) → is_straight (offset_at k) ≡ b → drop_to z (offset_at k) (Some w) ≡ (z -ℤ w) *ℤ (cond b (pos 7) (pos 5))
drop_by z w k b e = ap (λ t. (z -ℤ w) *ℤ (cond t (pos 7) (pos 5))) e

pub drop_even : (z w v : ℤ) (k : ℕ) (there : Option ℤ) → k < 8 → k % 2 ≡ 0 → there ≡ Some w → v ≡ (z -ℤ w) *ℤ pos 7 → v ≡ drop_to z (offset_at k) there
drop_even z w v k there h e t f = f ∙ sym (ap (drop_to z (offset_at k)) t ∙ drop_by z w k true (straight_even k h ∙ ap (λ n. eqb n 0) e))

pub drop_odd : (z w v : ℤ) (k : ℕ) (there : Option ℤ) → k < 8 → k % 2 ≢ 0 → there ≡ Some w → v ≡ (z -ℤ w) *ℤ pos 5 → v ≡ drop_to z (offset_at k) there
drop_odd z w v k there h e t f = f ∙ sym (ap (drop_to z (offset_at k)) t ∙ drop_by z w k false (straight_even k h ∙ not_zero (k % 2) e))
  where
    not_zero : (n : ℕ) → n ≢ 0 → eqb n 0 ≡ false
    not_zero n e = grind (arith, nat_tests)
