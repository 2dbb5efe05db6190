use Rattle.std.proofs.Common.{ℕ, Vec, Global, get_or, ap, ◌∙◌, arith}
use Rattle.std.proofs.lemmas.List.{get_or_default}
use Rattle.map_display.proofs.Rows.{next_word, first_word}
use Rattle.map_display.proofs.stamps.put_row.Goals as goal
use Rattle.map_display.proofs.stamps.put_row.Goals.{then-i-gt0+in_ok-push, else-i-gt0}

pub loop-i-preserved : goal.loop-i-preserved
loop-i-preserved c =
    let row = c.args.row.now in
    let i = c.loop-i.i in
    let n = get_or row i 0 in
    elim c.if-i-gt0.branch [
      | then-i-gt0+in_ok-push w ↦
          next_word c.args.text.now.items c.loop-i.text.items c.if-i-gt0.text.items c.put_number.new.text.items row i n
          c.loop-i.invariant (ap (λ (v : Vec ℕ Global). v.items) w.text-is ∙ w.in_ok-push.ensures.items) c.in_ok-put_number.ensures w.if-i-gt0.true c.loop-i-test.true (get_or_default row i 0 n c.loop-i-test.true)
      | else-i-gt0 w ↦
          first_word c.args.text.now.items c.if-i-gt0.text.items c.put_number.new.text.items row i n
          (ap (λ (v : Vec ℕ Global). v.items) w.text-is ∙ c.loop-i.invariant) c.in_ok-put_number.ensures (omega (arith, w.if-i-gt0.false)) c.loop-i-test.true (get_or_default row i 0 n c.loop-i-test.true)
    ]
