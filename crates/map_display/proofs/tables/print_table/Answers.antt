use Rattle.std.proofs.Common.{◌≡◌, ◌++◌, List, ℕ, length, codes, ap, ◌∙◌, rules}
use Rattle.std.specs.List.{flat_map}
use Rattle.cell_kinds.specs.declared.combinations.Combination.{Combination}
use Rattle.map_machine.specs.Causes.{counted}
use Rattle.map_display.specs.Lines.{combination_line}
use Rattle.map_display.proofs.Told.{whole_table}
use Rattle.map_display.proofs.tables.print_table.Goals as goal

pub returns-clause-text : goal.returns-clause-text
returns-clause-text g c =
    let z = c.args.zones_name.now in
    let v = c.args.values_name.now in
    let pairs = c.in_ok-pairs.pairs.items in
    let count : c.len.result ≡ length pairs = search rules in
    let names : c.extend_from_slice.new.self.items ≡ (codes "table " ++ z) ++ codes " " ++ v =
    c.in_ok-extend_from_slice.ensures.items ∙ ap (λ (b : List ℕ). c.push.new.self.items ++ b) c.bytes.ensures.value
    ∙ ap (λ (t : List ℕ). t ++ v) (c.in_ok-push.ensures.items ∙ ap (λ (t : List ℕ). t ++ codes " ") c.in_ok-text.ensures) in
    let word : c.put_counted.new.text.items ≡ counted ((codes "table " ++ z) ++ codes " " ++ v) (length pairs) =
    c.in_ok-put_counted.ensures ∙ ap (λ (t : List ℕ). counted t c.len.result) names ∙ ap (λ (k : ℕ). counted ((codes "table " ++ z) ++ codes " " ++ v) k) count in
    let head : c.push-2.new.self.items ≡ counted ((codes "table " ++ z) ++ codes " " ++ v) (length pairs) ++ codes "\n" = c.in_ok-push-2.ensures.items ∙ ap (λ (t : List ℕ). t ++ codes "\n") word in
    whole_table z v c.args.zones.now.cells c.args.values.now.cells pairs c.push-2.new.self.items c.put_combinations.new.text.items c.in_ok-pairs.ensures.pairs head
    (c.in_ok-put_combinations.ensures ∙ ap (λ (l : List Combination). c.push-2.new.self.items ++ flat_map combination_line l) c.deref.ensures.value)
