use Rattle.std.proofs.Common.{◌≡◌, ◌+◌, ap, ◌∙◌, ◌∷◌, [], length, Some, ℕ, ℤ, pos, arith}
use Rattle.std.proofs.lemmas.Int.{ints}
use Rattle.std.proofs.lemmas.List.{length-append}
use Rattle.map_machine.specs.Signs.{sign_of}
use Rattle.map_display.proofs.Rows.{table_more}
use Rattle.map_display.proofs.signs.Signs.of.Goals as goal

pub loop-number-preserved : goal.loop-number-preserved
loop-number-preserved c =
    let number = c.loop-number.number in
    let inv = c.loop-number.invariant in
    record {
      count = omega (arith, ap length c.in_ok-push.ensures.items, length-append c.loop-number.table.items (c.looked_up.result ∷ []), inv.count);
      value = omega (arith, ints, inv.value);
      signs = λ symbols n h.
          table_more (λ (k : ℕ). sign_of symbols n (Some (pos k))) c.loop-number.table.items c.push.new.self.items c.looked_up.result number c.in_ok-push.ensures.items inv.count
          (c.looked_up.ensures symbols n h ∙ ap (λ (z : ℤ). sign_of symbols n (Some z)) inv.value) (inv.signs symbols n h);
    }
