use Rattle.std.proofs.Common.{◌≡◌, ◌⊎◌, ◌<◌, ℕ, ℤ, length, List, sym, ap, subst, arith}
use Rattle.std.specs.Prelude.{IsTrue}
use Rattle.std.specs.List.{All, Contains}
use Rattle.map_nums.specs.Grids.{cell_at, cells_in}
use Rattle.map_nums.specs.Numbers.{is_value}
use Rattle.layer_tiles.specs.Changes.{ChangeState}
use Rattle.changed_cells.specs.Unions.{AreAllPlaces, both_changed}
use Rattle.changed_cells.proofs.Joining.{found_few}
use Rattle.drainage_flow.specs.FlowNets.{flow_number}
use Rattle.drainage_flow.specs.Settling.{number_at, AreCells, AreNewFlows}
use Rattle.drainage_flow.specs.Listing.{AreListed}
use Rattle.drainage_flow.specs.Showing.{shown_at, ArePlaced}
use Rattle.drainage_flow.proofs.Ends.{all_listed, within_all, old_shown}
use Rattle.drainage_flow.proofs.Repaired.{placed, puts_within, puts_in_range, flow_repaired}
use Rattle.drainage_flow.proofs.Damages.{find_rises, mended_rises, written_rises}
use Rattle.drainage_flow.proofs.repairs.flow_from.Goals as goal

pub changed_places_of_both-requires-clause-size : goal.changed_places_of_both-requires-clause-size
changed_places_of_both-requires-clause-size g c = c.requires.size

pub changed_places_of_both-requires-clause-one_there : goal.changed_places_of_both-requires-clause-one_there
changed_places_of_both-requires-clause-one_there g c = c.requires.before.1

pub changed_places_of_both-requires-clause-other_there : goal.changed_places_of_both-requires-clause-other_there
changed_places_of_both-requires-clause-other_there g c = c.requires.before.2

pub returns-in_default-clause-tally : goal.returns-in_default-clause-tally
returns-in_default-clause-tally g c = λ t u h k.
    find_rises t u c.args.surface.now c.args.weights.now c.args.base.now.cells c.requires.size c.extent-surface.ensures.change c.extent-weights.ensures.change c.requires.before.1 c.requires.before.2 h k _ _ c.changed_places_of_both.ensures.looks

pub mend-requires-clause-surface : goal.mend-requires-clause-surface
mend-requires-clause-surface g c = c.requires.before.1

pub mend-requires-clause-weights : goal.mend-requires-clause-weights
mend-requires-clause-weights g c = c.requires.before.2

pub mend-requires-clause-old_size : goal.mend-requires-clause-old_size
mend-requires-clause-old_size g c = c.requires.before.0

pub mend-requires-clause-weights_size : goal.mend-requires-clause-weights_size
mend-requires-clause-weights_size g c = c.requires.size

pub mend-requires-clause-cells : goal.mend-requires-clause-cells
mend-requires-clause-cells g c = c.extent-weights.ensures.change.are_cells.each

pub mend-requires-clause-right : goal.mend-requires-clause-right
mend-requires-clause-right g c = c.requires.before.3

pub mend-requires-clause-within : goal.mend-requires-clause-within
mend-requires-clause-within g c =
    let s = c.args.surface.now.size in
    subst (λ (xs : List ℕ). All (λ i. i < cells_in s) xs) (sym c.deref.ensures.value) (within_all s (both_changed c.args.surface.now c.args.weights.now) c.in-Ok.changed.items c.in-Ok.ensures.places)

pub mend-requires-clause-listed : goal.mend-requires-clause-listed
mend-requires-clause-listed g c =
    subst (λ (xs : List ℕ). AreListed c.args.surface.now c.args.weights.now xs) (sym c.deref.ensures.value) (all_listed c.args.surface.now c.args.weights.now c.in-Ok.changed.items c.in-Ok.ensures.places)

pub returns-in_default-mend-clause-tally : goal.returns-in_default-mend-clause-tally
returns-in_default-mend-clause-tally g c = λ t u h k.
    mended_rises t u c.args.surface.now c.args.weights.now c.args.base.now.cells c.requires.size c.extent-surface.ensures.change c.extent-weights.ensures.change c.requires.before.1 c.requires.before.2 h k _ _ c.changed_places_of_both.ensures.looks
    c.in-Ok.changed.items c.deref.result.now c.in-Ok.ensures.places c.deref.ensures.value _ c.mend.ensures.picks

pub overflow-requires-clause-old : goal.overflow-requires-clause-old
overflow-requires-clause-old g c = subst (λ (x : ChangeState). AreCells x.cells) (sym c.same-before.ensures) c.extent-base.ensures.layer.are_cells.each

pub overflow-requires-clause-flows : goal.overflow-requires-clause-flows
overflow-requires-clause-flows g c =
    let s = c.args.surface.now.size in
    let surface = c.args.surface.now.cells in
    let weights = c.args.weights.now.cells in
    subst (λ (x : ChangeState). AreNewFlows s surface weights x.cells c.deref-2.result.now) (sym c.same-before.ensures)
    (subst (λ (ps : List (ℕ × ℤ)). AreNewFlows s surface weights c.args.base.now.cells ps) (sym c.deref-2.ensures.value) c.in-Ok-mend.ensures.flows)

pub returns-in-Some-clause-refusal : goal.returns-in-Some-clause-refusal
returns-in-Some-clause-refusal g c = c.in-Some.ensures

pub returns-in-Some-clause-tally : goal.returns-in-Some-clause-tally
returns-in-Some-clause-tally g c = λ t u h k.
    mended_rises t u c.args.surface.now c.args.weights.now c.args.base.now.cells c.requires.size c.extent-surface.ensures.change c.extent-weights.ensures.change c.requires.before.1 c.requires.before.2 h k _ _ c.changed_places_of_both.ensures.looks
    c.in-Ok.changed.items c.deref.result.now c.in-Ok.ensures.places c.deref.ensures.value _ c.mend.ensures.picks

pub write_flow-requires-clause-base_size : goal.write_flow-requires-clause-base_size
write_flow-requires-clause-base_size g c = c.requires.before.0

pub write_flow-requires-clause-within : goal.write_flow-requires-clause-within
write_flow-requires-clause-within g c =
    let s = c.args.surface.now.size in
    subst (λ (xs : List ℕ). All (λ i. i < cells_in s) xs) (sym c.deref-3.ensures.value) (within_all s (both_changed c.args.surface.now c.args.weights.now) c.in-Ok.changed.items c.in-Ok.ensures.places)

pub write_flow-requires-clause-few : goal.write_flow-requires-clause-few
write_flow-requires-clause-few g c = omega (arith, ap length c.deref-3.ensures.value, found_few c.args.surface.now.size (both_changed c.args.surface.now c.args.weights.now) c.in-Ok.changed.items c.in-Ok.ensures.places)

pub write_flow-requires-clause-puts_within : goal.write_flow-requires-clause-puts_within
write_flow-requires-clause-puts_within g c =
    let s = c.args.surface.now.size in
    subst (λ (ps : List (ℕ × ℤ)). All (λ p. p.0 < cells_in s) ps) (sym c.deref-4.ensures.value) (puts_within s c.args.surface.now.cells c.args.weights.now.cells c.args.base.now.cells c.in-Ok-mend.puts.items c.in-Ok-mend.ensures.flows)

pub write_flow-requires-clause-in_range : goal.write_flow-requires-clause-in_range
write_flow-requires-clause-in_range g c =
    let s = c.args.surface.now.size in
    subst (λ (ps : List (ℕ × ℤ)). All (λ p. IsTrue (is_value p.1)) ps) (sym c.deref-4.ensures.value) (puts_in_range s c.args.surface.now.cells c.args.weights.now.cells c.args.base.now.cells c.in-Ok-mend.puts.items c.in-Ok-mend.ensures.flows c.in_default-overflow.ensures)

pub write_flow-requires-clause-listed : goal.write_flow-requires-clause-listed
write_flow-requires-clause-listed g c =
    let su = c.args.surface.now in
    let we = c.args.weights.now in
    let old = c.args.base.now.cells in
    subst (λ (xs : List ℕ). (i : ℕ) → i < cells_in su.size → Contains xs i ⊎ (cell_at old i ≡ shown_at su.cells (number_at old) i)) (sym c.deref-3.ensures.value)
    (old_shown su we old c.in-Ok.changed.items c.requires.before.3 (all_listed su we c.in-Ok.changed.items c.in-Ok.ensures.places))

pub write_flow-requires-clause-placed : goal.write_flow-requires-clause-placed
write_flow-requires-clause-placed g c =
    let s = c.args.surface.now.size in
    let surface = c.args.surface.now.cells in
    let weights = c.args.weights.now.cells in
    let old = c.args.base.now.cells in
    (flow_number s surface weights, subst (λ (ps : List (ℕ × ℤ)). ArePlaced s old ps (flow_number s surface weights)) (sym c.deref-4.ensures.value) (placed s surface weights old c.in-Ok-mend.puts.items c.in-Ok-mend.ensures.flows))

pub returns-in-Ok-write_flow-clause-repair : goal.returns-in-Ok-write_flow-clause-repair
returns-in-Ok-write_flow-clause-repair g c =
    let su = c.args.surface.now in
    let we = c.args.weights.now in
    let old = c.args.base.now.cells in
    let all = subst (λ (xs : List ℕ). AreAllPlaces su.size (both_changed su we) xs) (sym c.deref-3.ensures.value) c.in-Ok.ensures.places in
    let new = subst (λ (ps : List (ℕ × ℤ)). AreNewFlows su.size su.cells we.cells old ps) (sym c.deref-4.ensures.value) c.in-Ok-mend.ensures.flows in
    let r = c.in-Ok-write_flow.repair in
    let e = c.in-Ok-write_flow.ensures in
    flow_repaired su we old c.deref-3.result.now c.deref-4.result.now r.patch r.worked all new c.in_default-overflow.ensures e.size e.patch e.worked

pub returns-in-Ok-write_flow-clause-tally : goal.returns-in-Ok-write_flow-clause-tally
returns-in-Ok-write_flow-clause-tally g c = λ t u h k.
    let su = c.args.surface.now in
    let we = c.args.weights.now in
    let old = c.args.base.now.cells in
    let new = subst (λ (ps : List (ℕ × ℤ)). AreNewFlows su.size su.cells we.cells old ps) (sym c.deref-4.ensures.value) c.in-Ok-mend.ensures.flows in
    written_rises t u su we old c.requires.size c.extent-surface.ensures.change c.extent-weights.ensures.change c.requires.before.1 c.requires.before.2 h k _ _ c.changed_places_of_both.ensures.looks
    c.in-Ok.changed.items c.deref.result.now c.in-Ok.ensures.places c.deref.ensures.value _ c.mend.ensures.picks
    c.deref-3.result.now (length c.deref-4.result.now) _ c.deref-3.ensures.value new.counted (c.write_flow.ensures.tally (flow_number su.size su.cells we.cells) (placed su.size su.cells we.cells old c.deref-4.result.now new))

pub returns-clause-tally : goal.returns-clause-tally
returns-clause-tally g c = λ t u h k.
    let su = c.args.surface.now in
    let we = c.args.weights.now in
    let old = c.args.base.now.cells in
    let new = subst (λ (ps : List (ℕ × ℤ)). AreNewFlows su.size su.cells we.cells old ps) (sym c.deref-4.ensures.value) c.in-Ok-mend.ensures.flows in
    written_rises t u su we old c.requires.size c.extent-surface.ensures.change c.extent-weights.ensures.change c.requires.before.1 c.requires.before.2 h k _ _ c.changed_places_of_both.ensures.looks
    c.in-Ok.changed.items c.deref.result.now c.in-Ok.ensures.places c.deref.ensures.value _ c.mend.ensures.picks
    c.deref-3.result.now (length c.deref-4.result.now) _ c.deref-3.ensures.value new.counted (c.write_flow.ensures.tally (flow_number su.size su.cells we.cells) (placed su.size su.cells we.cells old c.deref-4.result.now new))
