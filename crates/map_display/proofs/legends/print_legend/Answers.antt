use Rattle.std.proofs.Common.{◌≡◌, ◌++◌, List, ℕ, length, codes, ap, ◌∙◌, rules}
use Rattle.cell_kinds.specs.declared.kinds.Kind.{Kind}
use Rattle.map_machine.specs.Causes.{counted}
use Rattle.map_display.specs.Lines.{counted_kinds_lines}
use Rattle.map_display.proofs.Told.{whole_legend}
use Rattle.map_display.proofs.legends.print_legend.Goals as goal

pub returns-clause-text : goal.returns-clause-text
returns-clause-text g c =
    let n = c.args.name.now in
    let kinds = c.in_ok-kinds.kinds.items in
    let count : c.len.result ≡ length kinds = search rules in
    let word : c.put_counted.new.text.items ≡ counted (codes "legend " ++ n) (length kinds) = c.in_ok-put_counted.ensures ∙ ap (λ (t : List ℕ). counted t c.len.result) c.in_ok-text.ensures ∙ ap (λ (k : ℕ). counted (codes "legend " ++ n) k) count in
    let head : c.push.new.self.items ≡ counted (codes "legend " ++ n) (length kinds) ++ codes "\n" = c.in_ok-push.ensures.items ∙ ap (λ (t : List ℕ). t ++ codes "\n") word in
    whole_legend n c.args.layer.now.cells c.args.labels.now c.args.symbols.now kinds c.push.new.self.items c.put_kinds.new.text.items c.in_ok-kinds.ensures.kinds head
    (c.in_ok-put_kinds.ensures c.args.labels.now c.args.symbols.now n (record { labels = c.in_ok-texts.ensures; signs = c.in_ok-signs.ensures })
    ∙ ap (λ (l : List Kind). c.push.new.self.items ++ counted_kinds_lines n c.args.labels.now c.args.symbols.now l) c.deref.ensures.value)
