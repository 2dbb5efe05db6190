use Rattle.std.proofs.Common.{◌≡◌, ◌∙◌, ◌<◌, sym, ap, subst, length, map, List, Bool, bytes_eq}
use Rattle.std.specs.List.{list_any}
use Rattle.map_edits.specs.Marks.{Mark as Kept, drop_marks}
use Rattle.map_marks.specs.declared.mark.Mark.{Mark}
use Rattle.map_marks.specs.Views.{mark_of}
use Rattle.map_marks.proofs.Dropping.{none_dropped, some_dropped, all_left}
use Rattle.map_marks.proofs.marks.Marks.without.Goals as goal

pub returns-then-not-has_name-clause-none : goal.returns-then-not-has_name-clause-none
returns-then-not-has_name-clause-none c =
    let n = c.args.name.now in
    let none = ap (list_any (λ (m : Mark). bytes_eq m.name n)) (sym c.deref.ensures.value) ∙ sym c.has_name.ensures ∙ c.if-not-has_name.true in
    subst (λ (l : List Kept). drop_marks l n ≡ l) c.self.view_is (none_dropped n c.self.inside.kept.items none)

pub returns-clause-some : goal.returns-clause-some
returns-clause-some c =
    let n = c.args.name.now in
    all_left n c.deref-mark-items.result.now c.loop-mark.kept.items c.loop-mark.mark-index c.loop-mark.invariant c.loop-mark-test.false
    ∙ ap (λ (l : List Kept). drop_marks l n) (ap (map mark_of) c.deref-mark-items.ensures.value ∙ c.self.view_is)

pub returns-clause-fewer : goal.returns-clause-fewer
returns-clause-fewer c =
    let n = c.args.name.now in
    let some = ap (list_any (λ (m : Mark). bytes_eq m.name n)) (sym c.deref.ensures.value) ∙ sym c.has_name.ensures ∙ c.if-not-has_name.false in
    rw (returns-clause-some c) (subst (λ (l : List Kept). length (drop_marks l n) < length l) c.self.view_is (some_dropped n c.self.inside.kept.items some))
