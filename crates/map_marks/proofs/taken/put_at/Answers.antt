use Rattle.std.proofs.Common.{◌≡◌, ◌∙◌, ap, map, min, ℕ, length, rules}
use Rattle.std.specs.List.{insert}
use Rattle.map_marks.specs.Views.{mark_of}
use Rattle.map_marks.proofs.Taking.{kept-insert}
use Rattle.map_marks.proofs.taken.put_at.Goals as goal
use Rattle.map_marks.proofs.taken.put_at.Goals.{in-Ok, in-Err}

pub returns-clause-items : goal.returns-clause-items
returns-clause-items c =
    let marks = c.args.marks.now in
    let place : c.min-place.result ≡ min c.args.place (length marks.items) = c.min-place.ensures ∙ ap (min c.args.place) (c.len.ensures ∙ marks.ok.0) in
    elim c.match-insert.branch [
      | in-Ok w ↦ ap (map mark_of) w.in-Ok.ensures.items ∙ ap (λ (k : ℕ). map mark_of (insert marks.items k c.args.mark)) place ∙ kept-insert marks.items c.args.place c.args.mark
      | in-Err w ↦ search rules
    ]
