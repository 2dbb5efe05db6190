use Rattle.std.proofs.Common.{◌≡◌, ℕ, ◌+◌, ◌-◌, ◌*◌, ◌≤◌, length, refl, subst, ap, ◌∙◌, sym, arith}
use Rattle.std.specs.Int.{from_bool}
use Rattle.map_nums.specs.Grids.{cells_in}
use Rattle.layer_tiles.specs.Tallies.{RisesBy}
use Rattle.layer_tiles.proofs.Rising.{rises_then, rises_within, rises_none}
use Rattle.tile_work.specs.Working.{base_of, copies}
use Rattle.least_costs.proofs.Queues.{popped_length}
use Rattle.friction_spread.proofs.Settling.{same_then, on_err}
use Rattle.friction_neighbor.specs.Repairs.{alone, IsDue}
use Rattle.friction_neighbor.proofs.Counting.{copies_most, alone_few, alone_most}
use Rattle.friction_neighbor.proofs.Settling.{place_within, key_is, due_moved, dealt_on, alone_on, caused_on, all_wanted, picks_next, enough_next, to_go_falls}
use Rattle.friction_neighbor.proofs.settle.settle.Given.{Over}
use Rattle.friction_neighbor.proofs.settle.settle.Goals as goal
use Rattle.friction_neighbor.proofs.settle.settle.Goals.{After-from-moved}

-- the value of the place alone is another one, or it isn't
moves : (g : Over) (c : After-from-moved g) → c.from-moved.result ≡ from_bool c.in_ok-told.told
moves g c = c.from-moved.ensures

alone_now : (g : Over) (c : After-from-moved g) → alone c.args.field.now (base_of c.args.values.now.before) c.deal.new.values.cells ≡ c.loop-cost.moved + c.from-moved.result
alone_now g c =
    let b = base_of c.args.values.now.before in
    let i = c.loop-cost.invariant in
    let h = alone_on c.args.field.now c.extent-extent.ensures.field b c.loop-cost.values.cells c.loop-cost.seen c.loop-cost.queue c.pop.new.self c.in-Some.cost c.in-Some.at i.repair c.in-Some.ensures.entry c.in-Some.ensures.least c.deal.new.values.cells c.deal.new.seen c.deal.new.queue c.in_ok-told.told c.in_ok-told.ensures.dealt in
    omega (arith, h, i.moved, moves g c)

len_now : (g : Over) (c : After-from-moved g) → length c.deal.new.queue + 1 ≤ length c.loop-cost.queue + 9 * c.from-moved.result
len_now g c = omega (arith, c.in_ok-told.ensures.dealt.len, popped_length (c.in-Some.cost, c.in-Some.at) c.loop-cost.queue c.pop.new.self c.in-Some.ensures.entry, moves g c)

pub deal-requires-clause-size : goal.deal-requires-clause-size
deal-requires-clause-size g c = c.loop-cost.invariant.same.size ∙ c.requires.size

pub deal-requires-clause-seen : goal.deal-requires-clause-seen
deal-requires-clause-seen g c = c.loop-cost.invariant.repair.size

pub deal-requires-clause-within : goal.deal-requires-clause-within
deal-requires-clause-within g c = place_within c.args.field.now c.extent-extent.ensures.field (base_of c.args.values.now.before) c.loop-cost.values.cells c.loop-cost.seen c.loop-cost.queue c.pop.new.self c.in-Some.cost c.in-Some.at c.loop-cost.invariant.repair c.in-Some.ensures.entry c.in-Some.ensures.least

pub deal-requires-clause-cost : goal.deal-requires-clause-cost
deal-requires-clause-cost g c = key_is c.args.field.now c.extent-extent.ensures.field (base_of c.args.values.now.before) c.loop-cost.values.cells c.loop-cost.seen c.loop-cost.queue c.pop.new.self c.in-Some.cost c.in-Some.at c.loop-cost.invariant.repair c.in-Some.ensures.entry c.in-Some.ensures.least

pub overflow_add-moved : goal.overflow_add-moved
overflow_add-moved g c = omega (arith, alone_now g (goal.at.overflow_add-moved g c).After-from-moved, alone_few c.args.field.now (base_of c.args.values.now.before) c.deal.new.values.cells, c.extent-extent.ensures.field.size.most_cells)

pub loop-cost-init : goal.loop-cost-init
loop-cost-init g c = record {
  same = record { size = refl; before = refl; count = refl };
  full = c.extent-places.ensures.count ∙ ap cells_in c.requires.begun.size;
  repair = c.requires.begun;
  moved = sym c.requires.unmoved;
  caused = c.requires.caused;
  some = λ l. l;
  enough = omega arith;
  more = omega arith;
  tally = rises_within 0 0 _ _ _ _ (omega arith) (omega arith) (rises_none _);
}

pub loop-cost-smaller : goal.loop-cost-smaller
loop-cost-smaller g c =
    let put = c.in_ok-told.ensures.dealt.put in
    let n = cells_in c.args.field.now.field.ground.size in
    to_go_falls n (copies c.loop-cost.seen.marks) (copies c.deal.new.seen.marks) (length c.loop-cost.queue) (length c.deal.new.queue) (length c.pop.new.self) (popped_length (c.in-Some.cost, c.in-Some.at) c.loop-cost.queue c.pop.new.self c.in-Some.ensures.entry) put.count put.more
    (omega (arith, copies_most c.deal.new.seen.marks, put.full, c.loop-cost.invariant.full))

pub loop-cost-preserved : goal.loop-cost-preserved
loop-cost-preserved g c =
    let e = (goal.at.loop-cost-preserved g c).After-from-moved in
    let v = c.args.field.now in
    let field = c.extent-extent.ensures.field in
    let va = c.args.values.now in
    let vb = c.loop-cost.values in
    let vc = c.deal.new.values in
    let b = base_of va.before in
    let i = c.loop-cost.invariant in
    let n = length c.loop-cost.queue in
    let n' = length c.deal.new.queue in
    let a = 31 * length c.args.queue.now in
    let m = c.loop-cost.moved in
    let t = c.from-moved.result in
    let l = popped_length (c.in-Some.cost, c.in-Some.at) c.loop-cost.queue c.pop.new.self c.in-Some.ensures.entry in
    let P : ℕ → Type 0 = λ k. RisesBy (copies vc.copied - copies vb.copied) (31 + 9 * k) (g.M.Tally.counts c.loop-cost.tally) (g.M.Tally.counts c.deal.new.tally) in
    record {
      same = same_then va vb vc i.same c.deal.ensures.same;
      full = c.in_ok-told.ensures.dealt.put.full ∙ i.full;
      repair = dealt_on v field b vb.cells c.loop-cost.seen c.loop-cost.queue c.pop.new.self c.in-Some.cost c.in-Some.at i.repair c.in-Some.ensures.entry c.in-Some.ensures.least vc.cells c.deal.new.seen c.deal.new.queue c.in_ok-told.told c.in_ok-told.ensures.dealt;
      moved = sym (alone_now g e);
      caused = caused_on v b vb vc c.in-Some.at (IsDue v.field vb.cells c.in-Some.at) (i.same.size ∙ c.requires.size) c.deal.ensures.copied
          (λ d. (place_within v field b vb.cells c.loop-cost.seen c.loop-cost.queue c.pop.new.self c.in-Some.cost c.in-Some.at i.repair c.in-Some.ensures.entry c.in-Some.ensures.least, due_moved v field b vb.cells c.loop-cost.seen c.loop-cost.queue c.pop.new.self c.in-Some.cost c.in-Some.at i.repair c.in-Some.ensures.entry c.in-Some.ensures.least d))
          i.caused;
      some = λ x. i.some (omega (arith, l));
      enough = enough_next a n n' m t (len_now g e) i.enough;
      more = omega (arith, i.more, c.deal.ensures.more);
      tally = rises_within (copies vb.copied - copies va.copied + (copies vc.copied - copies vb.copied)) (a + 288 * m - 31 * n + (31 + 9 * t)) (copies vc.copied - copies va.copied) (a + 288 * (m + t) - 31 * n') _ _ (omega (arith, i.more, c.deal.ensures.more)) (picks_next a n n' m t (len_now g e) i.enough)
          (rises_then (copies vb.copied - copies va.copied) (a + 288 * m - 31 * n) (copies vc.copied - copies vb.copied) (31 + 9 * t) _ _ _ i.tally (subst P (sym (moves g e)) c.in_ok-told.ensures.tally));
    }

pub returns-clause-right : goal.returns-clause-right
returns-clause-right g c = all_wanted c.args.field.now c.extent-extent.ensures.field (base_of c.args.values.now.before) c.loop-cost.values.cells c.loop-cost.seen c.loop-cost.queue c.in_default.ensures.none c.loop-cost.invariant.repair

pub returns-clause-tally : goal.returns-clause-tally
returns-clause-tally g c = λ cells right.
    let v = c.args.field.now in
    let b = base_of c.args.values.now.before in
    let i = c.loop-cost.invariant in
    let k = alone_most v b c.loop-cost.values.cells cells i.repair.mending.kept right in
    rises_within (copies c.loop-cost.values.copied - copies c.args.values.now.copied) (31 * length c.args.queue.now + 288 * c.loop-cost.moved - 31 * length c.loop-cost.queue) (copies c.loop-cost.values.copied - copies c.args.values.now.copied) (31 * length c.args.queue.now + 288 * alone v b cells) _ _ (omega arith) (omega (arith, k, i.moved)) i.tally

pub returns-in_err-told-clause-caused : goal.returns-in_err-told-clause-caused
returns-in_err-told-clause-caused g c =
    let v = c.args.field.now in
    let field = c.extent-extent.ensures.field in
    let vb = c.loop-cost.values in
    let b = base_of c.args.values.now.before in
    let i = c.loop-cost.invariant in
    caused_on v b vb c.deal.new.values c.in-Some.at (IsDue v.field vb.cells c.in-Some.at) (i.same.size ∙ c.requires.size) c.deal.ensures.copied
    (λ d. (place_within v field b vb.cells c.loop-cost.seen c.loop-cost.queue c.pop.new.self c.in-Some.cost c.in-Some.at i.repair c.in-Some.ensures.entry c.in-Some.ensures.least, due_moved v field b vb.cells c.loop-cost.seen c.loop-cost.queue c.pop.new.self c.in-Some.cost c.in-Some.at i.repair c.in-Some.ensures.entry c.in-Some.ensures.least d))
    i.caused

pub returns-in_err-told-clause-wanted : goal.returns-in_err-told-clause-wanted
returns-in_err-told-clause-wanted g c =
    let v = c.args.field.now in
    let b = base_of c.args.values.now.before in
    let i = c.loop-cost.invariant in
    let va = c.args.values.now in
    let vb = c.loop-cost.values in
    let vc = c.deal.new.values in
    let a = 31 * length c.args.queue.now in
    on_err c.from_residual.result (λ cells right.
    let k = alone_most v b vb.cells cells i.repair.mending.kept right in
    let l = popped_length (c.in-Some.cost, c.in-Some.at) c.loop-cost.queue c.pop.new.self c.in-Some.ensures.entry in
    rises_within (copies vb.copied - copies va.copied + (copies vc.copied - copies vb.copied + 1)) (a + 288 * c.loop-cost.moved - 31 * length c.loop-cost.queue + 40) (copies vc.copied - copies va.copied + 1) (a + 288 * alone v b cells + 40) _ _ (omega (arith, i.more, c.deal.ensures.more)) (omega (arith, k, i.moved, i.enough))
    (rises_then (copies vb.copied - copies va.copied) (a + 288 * c.loop-cost.moved - 31 * length c.loop-cost.queue) (copies vc.copied - copies vb.copied + 1) 40 _ _ _ i.tally c.in_err-told.ensures.wanted))

pub returns-in_err-told-clause-some : goal.returns-in_err-told-clause-some
returns-in_err-told-clause-some g c =
    let l = popped_length (c.in-Some.cost, c.in-Some.at) c.loop-cost.queue c.pop.new.self c.in-Some.ensures.entry in
    on_err c.from_residual.result (c.loop-cost.invariant.some (omega (arith, l)))
