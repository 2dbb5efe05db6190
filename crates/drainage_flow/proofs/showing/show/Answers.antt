use Rattle.std.proofs.Common.{◌≡◌, ◌≢◌, ◌∙◌, sym, ap, true, false, List, Option, ℤ}
use mir.Syntax.{w128}
use Rattle.std.proofs.lemmas.Int.{to_z-of_z}
use Rattle.map_nums.specs.Grids.{cell_at}
use Rattle.tile_work.specs.Working.{base_of, written}
use Rattle.drainage_flow.specs.Showing.{shown}
use Rattle.drainage_flow.proofs.Shown.{show_worked, show_copied}
use Rattle.drainage_flow.proofs.showing.show.Goals as goal
use Rattle.drainage_flow.proofs.showing.show.Goals.{After-one_more}

cell_is : (g : _) (c : After-one_more g) → c.shown-cell.result ≡ shown (cell_at c.args.surface.now.cells c.args.at) c.args.amount
cell_is g c = c.shown-cell.ensures ∙ ap (shown c.cell-height.result) (to_z-of_z w128 c.args.amount c.ranges.amount) ∙ ap (λ (o : Option ℤ). shown o c.args.amount) c.cell-height.ensures.cell

other : (g : _) (c : After-one_more g) → cell_at c.args.flows.now.cells c.args.at ≢ shown (cell_at c.args.surface.now.cells c.args.at) c.args.amount
other g c = λ e.
    let t : c.same.result ≡ true = c.same.ensures.1 (c.get-now.ensures.cell ∙ e ∙ sym (cell_is g c)) in
    let f : c.same.result ≡ false = c.if-same.false in
    absurd (cc (t, f))

pub returns-clause-worked : goal.returns-clause-worked
returns-clause-worked g c = λ old flow f h.
    let was : c.old_cell-was.result ≡ cell_at old c.args.at = c.old_cell-was.ensures.cell ∙ ap (λ (b : Option (List (Option ℤ))). cell_at (base_of b) c.args.at) h.before in
    show_worked c.args.surface.now.size c.args.surface.now.cells old flow c.args.flows.now c.set.new.self c.args.at c.args.amount f c.requires.within c.requires.size (other g c)
    (c.in_ok-set.ensures.ok ∙ ap (written c.args.flows.now c.args.at) (cell_is g c)) c.args.worked c.one_more.result h
    (λ e. c.one_more.ensures.more (c.get-now.ensures.cell ∙ e ∙ sym was))
    (λ n. c.one_more.ensures.same (λ e. n (sym c.get-now.ensures.cell ∙ e ∙ was)))

pub returns-clause-copied : goal.returns-clause-copied
returns-clause-copied g c = λ old flow f h.
    show_copied c.args.surface.now.size c.args.surface.now.cells old flow c.args.flows.now c.set.new.self c.args.at c.args.amount f c.requires.within c.requires.size (other g c)
    (c.in_ok-set.ensures.ok ∙ ap (written c.args.flows.now c.args.at) (cell_is g c)) h
