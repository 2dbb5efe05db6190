use Rattle.std.proofs.Common.{ℕ, ◌+◌, ◌*◌, ◌≤◌, List, length, get_or, refl, sym, subst, arith}
use Rattle.std.specs.Prelude.{filter}
use Rattle.layer_tiles.specs.Tallies.{RisesBy}
use Rattle.map_nums.specs.Grids.{Size, places}
use Rattle.map_defs.specs.Differences.{differs}
use Rattle.layer_tiles.specs.Changes.{cells_before}
use Rattle.layer_tiles.proofs.Rising.{rises_none, rises_then, rises_within}
use Rattle.changed_cells.specs.Changed.{AreChanged}
use Rattle.changed_cells.specs.Unions.{both_changed}
use Rattle.changed_cells.proofs.Joining.{joined_start, joined_next, joined_all, more_most}
use Rattle.changed_cells.proofs.unions.changed_places_of_both.Given.{Over}
use Rattle.changed_cells.proofs.unions.changed_places_of_both.Goals as goal
use Rattle.changed_cells.proofs.unions.changed_places_of_both.Goals.{After-deref-at-items}

more_is : (g : Over) (c : After-deref-at-items g) → AreChanged c.args.one.now.size (cells_before c.args.other.now) c.args.other.now.cells c.deref-at-items.result.now
more_is g c =
    let P : Size → Type 0 = λ s. AreChanged s (cells_before c.args.other.now) c.args.other.now.cells c.deref-at-items.result.now in
    let Q : List ℕ → Type 0 = AreChanged c.args.other.now.size (cells_before c.args.other.now) c.args.other.now.cells in
    subst P c.requires.size (subst Q (sym c.deref-at-items.ensures.value) c.in_ok-more.ensures.places)

pub loop-at-init : goal.loop-at-init
loop-at-init g c = record {
  joined = joined_start c.args.one.now.size (cells_before c.args.one.now) c.args.one.now.cells c.deref-at-items.result.now c.in_ok-found.found.items c.in_ok-found.ensures.places;
  picks = rises_none _;
}

pub add_unless-requires-clause-within : goal.add_unless-requires-clause-within
add_unless-requires-clause-within g c = (more_is g (goal.at.add_unless-requires-clause-within g c).After-deref-at-items).within c.loop-at.at-index c.loop-at-test.true

pub loop-at-preserved : goal.loop-at-preserved
loop-at-preserved g c =
    let m = more_is g (goal.at.loop-at-preserved g c).After-deref-at-items in
    record {
      joined = joined_next c.args.one.now.size (differs (cells_before c.args.one.now) c.args.one.now.cells) c.deref-at-items.result.now c.loop-at.found.items c.add_unless.new.found.items c.loop-at.at-index (get_or c.deref-at-items.result.now c.loop-at.at-index 0) refl (m.within c.loop-at.at-index c.loop-at-test.true) m.apart c.loop-at-test.true c.in_ok-add_unless.ensures.added c.loop-at.invariant.joined;
      picks = rises_within (0 + 0) (2 * c.loop-at.at-index + 2) 0 (2 * (c.loop-at.at-index + 1)) _ _ (omega arith) (omega arith) (rises_then 0 (2 * c.loop-at.at-index) 0 2 _ _ _ c.loop-at.invariant.picks c.add_unless.ensures.picks);
    }

pub returns-clause-places : goal.returns-clause-places
returns-clause-places g c = joined_all c.args.one.now.size (cells_before c.args.one.now) c.args.one.now.cells (cells_before c.args.other.now) c.args.other.now.cells c.deref-at-items.result.now c.loop-at.found.items c.loop-at.at-index (omega (arith, c.loop-at-test.false)) (omega (arith, c.loop-at.auto.at-index-end)) (more_is g (goal.at.returns-clause-places g c).After-deref-at-items) c.loop-at.invariant.joined

-- after both lists and the first k of the second
looks_are : (g : Over) (c : After-deref-at-items g) (k : ℕ) (t : g.row.M.Denot) → k ≤ length c.deref-at-items.result.now → RisesBy 0 (2 * k) (g.M.Tally.counts c.changed_places-2.new.tally) (g.M.Tally.counts t) → RisesBy (2 * length c.args.one.now.touched + 2 * length c.args.other.now.touched) (2 * length (filter (both_changed c.args.one.now c.args.other.now) (places c.args.one.now.size))) (g.M.Tally.counts c.args.tally.now) (g.M.Tally.counts t)
looks_are g c k t l r =
    let one = c.args.one.now in
    let other = c.args.other.now in
    let m = more_most one.size (cells_before one) one.cells (cells_before other) other.cells c.deref-at-items.result.now (more_is g c) in
    let x = 2 * length one.touched in
    let y = 2 * length other.touched in
    rises_within (x + y + 0) (0 + 0 + 2 * k) (x + y) _ _ _ (omega arith) (omega (arith, m, l))
    (rises_then (x + y) (0 + 0) 0 (2 * k) _ _ _ (rises_then x 0 y 0 _ _ _ c.changed_places.ensures.looks c.changed_places-2.ensures.looks) r)

pub returns-clause-looks : goal.returns-clause-looks
returns-clause-looks g c = looks_are g (goal.at.returns-clause-looks g c).After-deref-at-items c.loop-at.at-index c.loop-at.tally c.loop-at.auto.at-index-end c.loop-at.invariant.picks

pub returns-in_err-add_unless-clause-looks : goal.returns-in_err-add_unless-clause-looks
returns-in_err-add_unless-clause-looks g c =
    looks_are g (goal.at.returns-in_err-add_unless-clause-looks g c).After-deref-at-items (c.loop-at.at-index + 1) c.add_unless.new.tally (omega (arith, c.loop-at-test.true))
    (rises_within (0 + 0) (2 * c.loop-at.at-index + 2) 0 (2 * (c.loop-at.at-index + 1)) _ _ (omega arith) (omega arith) (rises_then 0 (2 * c.loop-at.at-index) 0 2 _ _ _ c.loop-at.invariant.picks c.add_unless.ensures.picks))
