use Rattle.std.proofs.Common.{◌≡◌, None, Option, ℤ, get_or, refl, sym, ◌∙◌, ap, subst, arith}
use Rattle.std.specs.Prelude.{slice_set}
use Rattle.std.proofs.lemmas.List.{get_or_default}
use Rattle.map_nums.specs.Grids.{Cells, cell_at}
use Rattle.region_labels.specs.Moves.{moved_label, IsUpTo}
use Rattle.region_labels.proofs.Moving.{moved_here, moved_next, moved_all}
use Rattle.region_labels.proofs.bands.move_labels.Goals as goal
use Rattle.region_labels.proofs.bands.move_labels.Goals.{After-index-labels-k}

-- what is read is still as it was
read_is : (c : After-index-labels-k) → c.index-labels-k.result ≡ cell_at c.args.labels.now c.loop-k.k
read_is c =
    let k = c.loop-k.k in
    let x = c.index-labels-k.result in
    c.index-labels-k.is ∙ ap (λ (xs : Cells). get_or xs k x) c.loop-k.invariant ∙ moved_here (moved_label c.args.by) c.args.labels.now k c.loop-k-test.true x ∙ get_or_default c.args.labels.now k x None c.loop-k-test.true

pub loop-k-init : goal.loop-k-init
loop-k-init c = refl

pub moved_label-requires : goal.moved_label-requires
moved_label-requires c = let P : Option ℤ → Type 0 = IsUpTo c.args.by in subst P (sym (read_is c)) (c.requires c.loop-k.k c.loop-k-test.true)

pub loop-k-preserved : goal.loop-k-preserved
loop-k-preserved c =
    let k = c.loop-k.k in
    let f = moved_label c.args.by in
    ap (λ (xs : Cells). slice_set xs k c.moved_label.result) c.loop-k.invariant ∙ moved_next f c.args.labels.now k c.loop-k-test.true c.moved_label.result (c.moved_label.ensures ∙ ap f (read_is (goal.at.loop-k-preserved c).After-index-labels-k))

pub returns : goal.returns
returns c = c.loop-k.invariant ∙ moved_all (moved_label c.args.by) c.args.labels.now c.loop-k.k (omega (arith, c.loop-k-test.false))
