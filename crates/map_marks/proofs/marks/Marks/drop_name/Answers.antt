use Rattle.std.proofs.Common.{◌≡◌, ◌∙◌, ap, map, not, Bool, List, rules, bytes_eq, filter}
use Rattle.std.proofs.lemmas.Fn.{filter_same}
use Rattle.map_edits.specs.Marks.{Mark as Kept, drop_marks}
use Rattle.map_marks.specs.declared.mark.Mark.{Mark}
use Rattle.map_marks.specs.Views.{mark_of}
use Rattle.map_marks.proofs.Searching.{kept-filter}
use Rattle.map_marks.proofs.marks.Marks.drop_name.Goals as goal

pub returns : goal.returns
returns c =
    let kept = c.self.inside.kept.items in
    let test : Mark → Bool = λ m. not (bytes_eq m.name c.args.name.now) in
    let left : c.retain.new.self.items ≡ filter test kept = filter_same _ test _ (λ x b f' k. search rules) kept c.retain.new.self.items c.retain.ensures.filtered in
    ap (map mark_of) left ∙ kept-filter (λ (m : Kept). not (bytes_eq m.name c.args.name.now)) kept ∙ ap (λ (l : List Kept). drop_marks l c.args.name.now) c.self.view_is
