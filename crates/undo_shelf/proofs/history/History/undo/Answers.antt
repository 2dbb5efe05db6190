use Rattle.std.proofs.Common.{◌≡◌, List, [], ◌∷◌, length, drop, ◌≤◌, ap, ◌∙◌, subst}
use Rattle.circular_buffer.specs.Buffer.{Buffer}
use Rattle.map_edits.specs.Pasts.{most_pasts}
use Rattle.live_engine.specs.declared.inverses.Inverse.{Inverse}
use Rattle.undo_shelf.proofs.Undone.{newest_first, none_first, left_within, held_again, newest_fits, older_chained, undone_newest, undone_none, reads_newest, again_chained, undone_nothing, nothing_chained, reads_nothing}
use Rattle.undo_shelf.proofs.history.History.undo.Given.{Over}
use Rattle.undo_shelf.proofs.history.History.undo.Goals as goal
use Rattle.undo_shelf.proofs.history.History.undo.Goals.{In-Some, In_default, After-keep}

newest : (g : Over) (c : In-Some g) → c.args.self.now ≡ c.in-Some.inverse ∷ c.pop_front.new.self.items
newest g c = newest_first c.self.inside.inverses.items c.args.self.now c.pop_front.new.self.items c.in-Some.inverse c.self.view_is c.in-Some.ensures.value (ap (λ (b : Buffer Inverse). b.items) c.pop_front.ensures.items)

none : (g : Over) (c : In_default g) → c.args.self.now ≡ []
none g c = none_first c.self.inside.inverses.items c.args.self.now c.self.view_is c.in_default.ensures.value

rest : (g : Over) (c : In_default g) → c.pop_front.new.self.items ≡ drop 1 c.args.self.now
rest g c = ap (λ (b : Buffer Inverse). b.items) c.pop_front.ensures.items ∙ ap (drop 1) c.self.view_is

again : (g : Over) (c : After-keep g) → c.keep.new.self ≡ c.args.self.now
again g c =
    held_again c.args.self.now c.pop_front.new.self.items c.keep.new.self c.in-Some.inverse c.in-Err.inverse (newest g (goal.at.returns-in-Err-clause-undone g c).In-Some)
    (subst (λ (is : List Inverse). length is ≤ most_pasts) c.self.view_is c.self.invariant.1) c.keep.ensures c.in-Err.ensures.reverted.0

pub revert-requires-clause-fits : goal.revert-requires-clause-fits
revert-requires-clause-fits g c _ _ = newest_fits c.args.engine.now c.args.self.now c.pop_front.new.self.items c.in-Some.inverse (newest g (goal.at.revert-requires-clause-fits g c).In-Some) c.requires.chained

pub invariant_of-self-in-Err : goal.invariant_of-self-in-Err
invariant_of-self-in-Err g c =
    let popped = c.pop_front.ensures.items in
    (ap (λ (b : Buffer Inverse). b.capacity) popped ∙ c.self.invariant.0, left_within c.self.inside.inverses.items c.pop_front.new.self.items (ap (λ (b : Buffer Inverse). b.items) popped) c.self.invariant.1)

pub returns-in_default-clause-undone : goal.returns-in_default-clause-undone
returns-in_default-clause-undone g c = undone_nothing c.args.engine.now c.args.self.now (none g c) c.pop_front.new.self.items (rest g c)

pub returns-in_default-clause-chained : goal.returns-in_default-clause-chained
returns-in_default-clause-chained g c = nothing_chained c.args.engine.now c.args.self.now (none g c) c.pop_front.new.self.items (rest g c)

pub returns-in_default-clause-reads : goal.returns-in_default-clause-reads
returns-in_default-clause-reads g c = reads_nothing c.args.engine.now c.args.self.now (none g c) (g.M.Tally.counts c.args.tally.now)

pub returns-in-Ok-clause-undone : goal.returns-in-Ok-clause-undone
returns-in-Ok-clause-undone g c =
    undone_newest c.args.engine.now c.args.self.now c.pop_front.new.self.items c.in-Some.inverse (newest g (goal.at.returns-in-Ok-clause-undone g c).In-Some) c.revert.new.self c.in-Ok.accepted c.in-Ok.ensures.reverted

pub returns-in-Ok-clause-chained : goal.returns-in-Ok-clause-chained
returns-in-Ok-clause-chained g c =
    older_chained c.args.engine.now c.args.self.now c.pop_front.new.self.items c.in-Some.inverse (newest g (goal.at.returns-in-Ok-clause-chained g c).In-Some) c.revert.new.self c.in-Ok.accepted c.in-Ok.ensures.reverted c.requires.chained

pub returns-in-Ok-clause-reads : goal.returns-in-Ok-clause-reads
returns-in-Ok-clause-reads g c =
    reads_newest c.args.engine.now c.args.self.now c.pop_front.new.self.items c.in-Some.inverse (newest g (goal.at.returns-in-Ok-clause-reads g c).In-Some) (g.M.Tally.counts c.args.tally.now) (g.M.Tally.counts c.revert.new.tally) c.revert.ensures.reads

pub returns-in-Err-clause-undone : goal.returns-in-Err-clause-undone
returns-in-Err-clause-undone g c =
    undone_none c.args.engine.now c.args.self.now c.pop_front.new.self.items c.in-Some.inverse (newest g (goal.at.returns-in-Err-clause-undone g c).In-Some) c.revert.new.self c.keep.new.self (again g c) c.in-Err.ensures.reverted.1

pub returns-in-Err-clause-chained : goal.returns-in-Err-clause-chained
returns-in-Err-clause-chained g c = again_chained c.args.engine.now c.revert.new.self c.args.self.now c.keep.new.self (again g c) c.in-Err.ensures.reverted.1 c.requires.chained

pub returns-in-Err-clause-reads : goal.returns-in-Err-clause-reads
returns-in-Err-clause-reads g c =
    reads_newest c.args.engine.now c.args.self.now c.pop_front.new.self.items c.in-Some.inverse (newest g (goal.at.returns-in-Err-clause-reads g c).In-Some) (g.M.Tally.counts c.args.tally.now) (g.M.Tally.counts c.revert.new.tally) c.revert.ensures.reads
