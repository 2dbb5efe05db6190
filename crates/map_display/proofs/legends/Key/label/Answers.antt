use Rattle.std.proofs.Common.{ap, ◌∙◌, Option, ℤ, FitsSigned, rules}
use Rattle.std.proofs.lemmas.Int.{to_z-of_z}
use Rattle.map_nums.specs.Widths.{value_width}
use Rattle.map_edits.specs.Marks.{find_mark}
use Rattle.map_machine.specs.Displays.{label_of}
use Rattle.map_display.proofs.legends.Key.label.Goals as goal

pub returns-in-Some : goal.returns-in-Some
returns-in-Some c =
    let fits : FitsSigned value_width c.in-Some.value = search rules in
    λ labels n h. c.text.ensures labels n h ∙ ap (λ (z : ℤ). find_mark labels n z) (to_z-of_z value_width c.in-Some.value fits) ∙ ap (λ (o : Option ℤ). label_of labels n o) c.in-Some.ensures.value
