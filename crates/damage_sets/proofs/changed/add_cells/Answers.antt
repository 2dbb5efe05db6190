use Rattle.std.proofs.Common.{◌≡◌, ◌+◌, None, get_or, sym, subst, ◌∙◌, arith, IsTrue}
use Rattle.std.proofs.lemmas.List.{get_or_default}
use Rattle.map_nums.specs.Grids.{Size}
use Rattle.damage_sets.specs.Added.{IsAt}
use Rattle.damage_sets.specs.Widened.{IsWidened}
use Rattle.damage_sets.proofs.Rows.{row_more, row_same}
use Rattle.damage_sets.proofs.changed.add_cells.Goals as goal
use Rattle.damage_sets.proofs.changed.add_cells.Goals.{then-not-same, else-not-same}

pub loop-k-preserved : goal.loop-k-preserved
loop-k-preserved c =
    let s = c.args.set.now.size in
    let i = c.loop-k.invariant in
    let k = c.loop-k.k in
    let before = c.args.before.now in
    let after = c.args.after.now in
    let b : c.index-before-k.result ≡ get_or before k None = c.index-before-k.is ∙ get_or_default before k c.index-before-k.result None (omega arith) in
    let a : c.index-after-k.result ≡ get_or after k None = c.index-after-k.is ∙ get_or_default after k c.index-after-k.result None (omega arith) in
    record {
      size = elim c.if-not-same.branch [
        | then-not-same w ↦ rw (w.set-is) (w.add_square.ensures.size ∙ i.size)
        | else-not-same w ↦ rw (w.set-is) i.size
      ];
      marks = elim c.if-not-same.branch [
        | then-not-same w ↦
            let m : IsWidened s c.args.reach (IsAt s c.args.row (c.args.left + k)) c.loop-k.set.marks w.add_square.new.self.marks =
            subst (λ (z : Size). IsWidened z c.args.reach (IsAt z c.args.row (c.args.left + k)) c.loop-k.set.marks w.add_square.new.self.marks) i.size w.add_square.ensures.marks in
            rw (w.set-is)
            (row_more s c.args.reach c.args.row c.args.left k before after c.args.set.now.marks c.loop-k.set.marks w.add_square.new.self.marks i.marks m
            (λ e. let t : IsTrue c.same.result = c.same.ensures.1 (b ∙ e ∙ sym a) in let u = w.if-not-same.true in cc))
        | else-not-same w ↦
            let t : IsTrue c.same.result = w.if-not-same.false in
            rw (w.set-is) (row_same s c.args.reach c.args.row c.args.left k before after c.args.set.now.marks c.loop-k.set.marks i.marks (sym b ∙ c.same.ensures.0 t ∙ a))
      ];
    }
