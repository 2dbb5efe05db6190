use Rattle.std.proofs.Common.{◌≡◌, ◌∙◌, sym, ap, subst, map, take, not, is_some, option_map, cond, Some, Option, List, ℕ, ℤ, Bor, true, false, bytes_eq, FitsSigned, rules, arith}
use Rattle.std.specs.HashMap.{get}
use Rattle.std.specs.Ordering.{int_eq}
use Rattle.std.proofs.lemmas.Int.{ints, to_z-of_z}
use Rattle.map_nums.specs.Widths.{value_width}
use Rattle.layer_tiles.specs.declared.texts.Text.{Text}
use Rattle.map_edits.specs.Marks.{Mark as Kept, find_mark}
use Rattle.map_marks.specs.Views.{mark_of}
use Rattle.map_display.proofs.Gathering.{Tells, tells_without, tells_already, tells_new, taken_more, not_true, not_false, some_map, map_cond}
use Rattle.map_display.proofs.layer_marks.LayerMarks.of.Goals as goal
use Rattle.map_display.proofs.layer_marks.LayerMarks.of.Goals.{then-not-contains_key+in_ok-insert, else-not-contains_key}

pub loop-mark-preserved-then-ne : goal.loop-mark-preserved-then-ne
loop-mark-preserved-then-ne c =
    let items = c.all-mark-items.result.now in
    let i = c.loop-mark.mark-index in
    let m = c.mark-item.result in
    let n = c.args.name.now in
    let f = λ (z : ℤ). option_map (λ (t : Bor Text). t.now) (get int_eq c.loop-mark.texts z) in
    subst (λ (ms : List Kept). Tells ms n f) (sym (taken_more items i m c.loop-mark-test.true c.mark-item.is))
    (tells_without (map mark_of (take i items)) (mark_of m) n f (not_true (bytes_eq m.name n) (sym c.ne.ensures ∙ c.if-ne.true)) c.loop-mark.invariant)

pub loop-mark-preserved : goal.loop-mark-preserved
loop-mark-preserved c =
    let items = c.all-mark-items.result.now in
    let i = c.loop-mark.mark-index in
    let m = c.mark-item.result in
    let n = c.args.name.now in
    let now = λ (t : Bor Text). t.now in
    let f = λ (z : ℤ). option_map now (get int_eq c.loop-mark.texts z) in
    let named : bytes_eq m.name n ≡ true = not_false (bytes_eq m.name n) (sym c.ne.ensures ∙ c.if-ne.false) in
    let fits : FitsSigned value_width m.value = first_of (search rules, search (rules, ints), grind (arith, ints)) in
    let there : is_some (f m.value) ≡ c.contains_key.result = some_map now (get int_eq c.loop-mark.texts m.value) ∙ sym c.contains_key.ensures in
    elim c.if-not-contains_key.branch [
      | then-not-contains_key+in_ok-insert w ↦
          let g = λ (z : ℤ). option_map now (get int_eq w.insert.new.self z) in
          rw w.texts-is
          (subst (λ (ms : List Kept). Tells ms n g) (sym (taken_more items i m c.loop-mark-test.true c.mark-item.is))
          (tells_new (map mark_of (take i items)) (mark_of m) n f g named (there ∙ w.if-not-contains_key.true) (λ z. ap (option_map now) (w.in_ok-insert.ensures.updates.0 z) ∙ map_cond now _ _ _ ∙ ap (λ (y : ℤ). cond (int_eq y z) (Some m.text) (f z)) (to_z-of_z value_width m.value fits)) c.loop-mark.invariant))
      | else-not-contains_key w ↦
          rw w.texts-is
          (subst (λ (ms : List Kept). Tells ms n f) (sym (taken_more items i m c.loop-mark-test.true c.mark-item.is))
          (tells_already (map mark_of (take i items)) (mark_of m) n f (there ∙ w.if-not-contains_key.false) c.loop-mark.invariant))
    ]
