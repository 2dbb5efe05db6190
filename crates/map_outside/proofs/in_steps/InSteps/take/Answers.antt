use Rattle.std.proofs.Common.{◌≡◌, ℕ, length, drop, arith, ap}
use Rattle.std.proofs.lemmas.List.{length-append, length-drop}
use Rattle.map_outside.specs.Steady.{StepState}
use Rattle.map_outside.proofs.Pieces.{piece_moved, piece_empty}
use Rattle.map_outside.proofs.in_steps.InSteps.take.Goals as goal

pub returns-clause-bytes : goal.returns-clause-bytes
returns-clause-bytes c =
    let s = c.self.inside in
    let count : ℕ = c.min-count.result in
    let piece = rw c.deref.ensures.value at c.copy_from_slice.ensures.after in
    let left_is : drop s.at s.bytes.items ≡ c.args.self.now.left = ap (λ (v : StepState). v.left) c.self.view_is in
    piece_moved s.bytes.items c.args.self.now.left c.copy_from_slice.new.self (drop count c.args.into.now) s.at count left_is piece (omega (arith, s.bytes.ok.0))

pub returns-clause-end : goal.returns-clause-end
returns-clause-end c none room =
    let s = c.self.inside in
    let count : ℕ = c.min-count.result in
    piece_empty s.bytes.items s.at count s.step (length c.args.into.now) c.min.result c.len.result c.min-count.ensures c.min.ensures (omega (arith, s.bytes.ok.0)) c.self.invariant.1 none
    (omega (arith, length-append c.copy_from_slice.new.self (drop count c.args.into.now), length-drop count c.args.into.now))
