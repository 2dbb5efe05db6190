use Rattle.std.proofs.Common.{rules, ◌≡◌, ◌+◌, true, false, take, drop, [], sym, ap, ◌∙◌}
use Rattle.std.specs.List.{list_all}
use Rattle.map_words.specs.Names.{parts_from, is_plain, is_later_part}
use Rattle.map_words.proofs.Dots.{rest_is, parts_no, parts_yes, parts_alone}
use Rattle.map_words.proofs.naming.are_parts.Goals as goal

pub returns-then-not-is_plain : goal.returns-then-not-is_plain
returns-then-not-is_plain c =
    let no : is_plain (take c.in-Some.at c.args.text.now) ≡ false = search rules in
    parts_no c.args.text.now c.in-Some.at c.in-Some.ensures no

pub returns-in-None : goal.returns-in-None
returns-in-None c = sym (parts_alone c.args.text.now c.in-None.ensures)

pub returns-else-not-is_plain : goal.returns-else-not-is_plain
returns-else-not-is_plain c =
    let yes : is_plain (take c.in-Some.at c.args.text.now) ≡ true = search rules in
    let rest : c.are_later_parts.result ≡ list_all is_later_part (parts_from [] (drop (c.in-Some.at + 1) c.args.text.now)) = c.are_later_parts.ensures ∙ ap (λ s. list_all is_later_part (parts_from [] s)) (rest_is c.args.text.now (c.in-Some.at + 1)) in
    parts_yes c.args.text.now c.in-Some.at c.in-Some.ensures c.are_later_parts.result yes rest
