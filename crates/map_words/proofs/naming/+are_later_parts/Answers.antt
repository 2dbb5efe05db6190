use Rattle.std.proofs.Common.{rules, ◌≡◌, ◌+◌, true, false, take, drop, [], sym, ap, ◌∙◌}
use Rattle.std.specs.List.{list_all}
use Rattle.map_words.specs.Names.{parts_from, is_later_part}
use Rattle.map_words.proofs.Dots.{rest_is, later_no, later_yes, later_alone}
use Rattle.map_words.proofs.naming.+are_later_parts.Goals as goal

pub returns-then-not-is_later_part : goal.returns-then-not-is_later_part
returns-then-not-is_later_part t c =
    let no : is_later_part (take c.in-Some.at c.args.text.now) ≡ false = search rules in
    later_no c.args.text.now c.in-Some.at c.in-Some.ensures no

pub returns-in-None : goal.returns-in-None
returns-in-None t c = c.is_later_part.ensures ∙ sym (later_alone c.args.text.now c.in-None.ensures)

pub returns-else-not-is_later_part : goal.returns-else-not-is_later_part
returns-else-not-is_later_part t c =
    let yes : is_later_part (take c.in-Some.at c.args.text.now) ≡ true = search rules in
    let rest : c.are_later_parts.result ≡ list_all is_later_part (parts_from [] (drop (c.in-Some.at + 1) c.args.text.now)) = c.are_later_parts.ensures ∙ ap (λ s. list_all is_later_part (parts_from [] s)) (rest_is c.args.text.now (c.in-Some.at + 1)) in
    later_yes c.args.text.now c.in-Some.at c.in-Some.ensures c.are_later_parts.result yes rest
