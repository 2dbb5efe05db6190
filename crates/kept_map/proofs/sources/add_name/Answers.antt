use Rattle.std.proofs.Common.{◌≡◌, false, cond, ◌++◌, ◌∷◌, [], is_some, bytes_eq, rules, sym, ap, ◌∙◌}
use Rattle.std.specs.List.{list_any}
use Rattle.edit_plans.proofs.Positions.{some_position}
use Rattle.kept_map.proofs.sources.add_name.Goals as goal
use Rattle.kept_map.proofs.sources.add_name.Goals.{in-Ok, in-Err}

pub returns-clause-names : goal.returns-clause-names
returns-clause-names c =
    let keys = c.args.names.now.keys in
    let name = c.args.name in
    let none : list_any (bytes_eq name) keys ≡ false = sym (some_position (bytes_eq name) keys) ∙ ap is_some c.requires.new in
    elim c.match-insert.branch [ in-Ok w ↦ w.in-Ok.ensures.keys ∙ ap (λ b. cond b keys (keys ++ name ∷ [])) none | in-Err w ↦ search rules ]
