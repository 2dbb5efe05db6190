use Rattle.std.proofs.Common.{◌+◌, ◌<◌, List, [], drop, subst, sym}
use Rattle.std.proofs.lemmas.List.Elements.{All-head, All-tail, All-get_or}
use Rattle.std.proofs.lemmas.Bool.{iff_false}
use Rattle.cell_kinds.specs.declared.kinds.Kind.{Kind}
use Rattle.cell_kinds.specs.declared.kinds.Run.{Run}
use Rattle.cell_kinds.specs.Expanded.{AreFilled}
use Rattle.cell_kinds.proofs.Joined.{IsJoined, joined_first, joined_next, joined_same, joined_other}
use Rattle.cell_kinds.proofs.kinds.joined.Goals as goal
use Rattle.cell_kinds.proofs.kinds.joined.Goals.{then-same, else-same+in_ok-push}

pub loop-run-init : goal.loop-run-init
loop-run-init c =
    let first = c.in-Some.first.now in
    let rest = c.in-Some.rest.now in
    let filled = subst AreFilled c.in-Some.ensures.cases.0 c.requires.filled in
    subst (λ (done : List Kind). IsJoined c.args.runs.now done (record { cell = first.cell; count = first.count }) rest) (sym c.new-kinds.ensures.items)
    (subst (λ (rs : List Run). IsJoined rs [] (record { cell = first.cell; count = first.count }) rest) (sym c.in-Some.ensures.cases.0) (joined_first first rest (All-head (λ (r : Run). 0 < r.count) first rest filled)))

pub loop-run-preserved : goal.loop-run-preserved
loop-run-preserved c =
    let runs = c.args.runs.now in
    let rest = c.in-Some.rest.now in
    let i = c.loop-run.run-index in
    let done = c.loop-run.kinds.items in
    let kind = c.loop-run.kind in
    let run = c.run-item.result in
    let filled = All-tail (λ (r : Run). 0 < r.count) c.in-Some.first.now rest (subst AreFilled c.in-Some.ensures.cases.0 c.requires.filled) in
    let some : 0 < run.count = subst (λ (r : Run). 0 < r.count) (sym c.run-item.is) (All-get_or (λ (r : Run). 0 < r.count) rest i run c.loop-run-test.true filled) in
    let here = joined_next runs done kind rest i run c.loop-run-test.true c.run-item.is c.loop-run.invariant in
    elim c.if-same.branch [
      | then-same w ↦
          rw (w.kinds-is, w.kind-is) (joined_same runs done kind run (drop (i + 1) rest) some here (c.same.ensures.0 w.if-same.true))
      | else-same+in_ok-push w ↦
          rw (w.kinds-is, w.kind-is) (joined_other runs done kind run (drop (i + 1) rest) some here w.push.new.self.items (iff_false c.same.ensures w.if-same.false) w.in_ok-push.ensures.items)
    ]
