use Rattle.std.proofs.Common.{◌++◌, ◌∷◌, [], Option, List, ℕ, ap, ◌∙◌}
use Rattle.statement_parser.specs.Canonical.{cell_text}
use Rattle.map_machine.specs.Displays.{label_tail, label_of}
use Rattle.map_machine.specs.Signs.{sign_of}
use Rattle.map_display.proofs.Told.{kind_told}
use Rattle.map_display.proofs.legends.Key.put_kind.Goals as goal

pub returns : goal.returns
returns c = λ labels symbols n h.
    let cell = c.args.kind.now.cell in
    kind_told c.args.text.now.items (cell_text cell) (label_tail (label_of labels n cell)) c.put_cell.new.text.items c.put_counted.new.text.items c.push.new.self.items c.push-2.new.self.items c.put_label.new.text.items c.push-3.new.self.items (sign_of symbols n cell) c.args.kind.now.count
    c.in_ok-put_cell.ensures c.in_ok-put_counted.ensures c.in_ok-push.ensures.items
    (c.in_ok-push-2.ensures.items ∙ ap (λ (b : ℕ). c.push.new.self.items ++ b ∷ []) (c.sign.ensures symbols n h.signs))
    (c.in_ok-put_label.ensures ∙ ap (λ (o : Option (List ℕ)). c.push-2.new.self.items ++ label_tail o) (c.label.ensures labels n h.labels)) c.in_ok-push-3.ensures.items
