use Rattle.std.proofs.Common.{ap, ◌∙◌, Option, option_map, List, ℕ, ℤ, Bor, FitsSigned, rules}
use Rattle.std.proofs.lemmas.Int.{to_z-of_z}
use Rattle.map_nums.specs.Widths.{value_width}
use Rattle.layer_tiles.specs.declared.texts.Text.{Text}
use Rattle.map_edits.specs.Marks.{find_mark}
use Rattle.map_machine.specs.Signs.{sign_by}
use Rattle.map_display.proofs.signs.looked_up.Goals as goal

pub returns : goal.returns
returns c =
    let fits : FitsSigned value_width c.args.value = search rules in
    let same = to_z-of_z value_width c.args.value fits in
    λ symbols n h.
    c.sign_by.ensures
    ∙ ap (λ (z : ℤ). sign_by (option_map (λ (t : Bor Text). t.now) c.text.result) z) same
    ∙ ap (λ (t : Option (List ℕ)). sign_by t c.args.value) (c.text.ensures symbols n h ∙ ap (λ (z : ℤ). find_mark symbols n z) same)
