use Rattle.std.proofs.Common.{◌≡◌, ◌+◌, ◌-◌, ◌*◌, ◌<◌, length, get_or, ℤ, Some, ap, sym, ◌∙◌, arith}
use Rattle.map_nums.specs.Grids.{cells_in}
use Rattle.layer_tiles.proofs.Rising.{rises_none, rises_then, rises_within}
use Rattle.region_labels.specs.Flood.{FloodState, marks_in, IsFlooding}
use Rattle.region_labels.proofs.Causes.{flooding_caused}
use Rattle.region_labels.proofs.Rows.{few_found, some_value, less, round_next, region_begun, region_done}
use Rattle.region_labels.proofs.floods.reach_region.Given.{Over}
use Rattle.region_labels.proofs.floods.reach_region.Goals as goal
use Rattle.region_labels.proofs.floods.reach_region.Goals.{After-found-in-loop-head, After-reach_all, In_ok-reach_all}

pub loop-head-init : goal.loop-head-init
loop-head-init g c = record {
  floods = λ z e. region_begun c.args.of.now.size c.args.of.now.cells z c.args.root c.args.flood.now.size c.args.flood.now.marks c.clear.new.self c.add.new.self c.requires.marks (c.requires.within, c.requires.cell ∙ e) c.requires.new c.clear.ensures c.in_ok-add.ensures.ok;
  round = λ z e k l. absurd (omega (arith, l));
  extent = ap (λ (f : FloodState). f.size) c.in_ok-add.ensures.ok ∙ ap (λ (f : FloodState). f.size) c.clear.ensures;
  head = omega arith;
  picks = rises_none _;
}

flooding : (g : Over) (c : After-found-in-loop-head g) → (z : ℤ) × (c.args.value ≡ Some z) × IsFlooding c.args.of.now.size c.args.of.now.cells z c.args.root c.args.flood.now.marks c.loop-head.flood
flooding g c = let v = some_value c.args.value c.requires.some in (v.0, v.1, c.loop-head.invariant.floods v.0 v.1)

head_lt : (g : Over) (c : After-found-in-loop-head g) → c.loop-head.head < length c.loop-head.flood.found
head_lt g c = rw (← c.found.ensures) c.loop-head-test.true

found_here : (g : Over) (c : After-found-in-loop-head g) → get_or c.found-in-loop-head.result.now c.loop-head.head 0 ≡ get_or c.loop-head.flood.found c.loop-head.head 0
found_here g c = ap (λ xs. get_or xs c.loop-head.head 0) c.found-in-loop-head.ensures

pub reach_all-requires-clause-within : goal.reach_all-requires-clause-within
reach_all-requires-clause-within g c =
    let d = (goal.at.reach_all-requires-clause-within g c).After-found-in-loop-head in
    let f = flooding g d in
    rw (found_here g d) (f.2.each c.loop-head.head (head_lt g d)).has.0

pub reach_all-requires-clause-marks : goal.reach_all-requires-clause-marks
reach_all-requires-clause-marks g c = (flooding g (goal.at.reach_all-requires-clause-marks g c).After-found-in-loop-head).2.size

pub loop-head-smaller : goal.loop-head-smaller
loop-head-smaller g c =
    let d = (goal.at.loop-head-smaller g c).After-found-in-loop-head in
    let f = flooding g d in
    less (cells_in c.args.of.now.size) c.loop-head.head 1 (length c.loop-head.flood.found) (omega arith) (head_lt g d) (few_found c.args.of.now.size c.args.of.now.cells f.0 c.args.root c.args.flood.now.marks c.loop-head.flood f.2)

pub loop-head-preserved : goal.loop-head-preserved
loop-head-preserved g c =
    let d = (goal.at.loop-head-preserved g c).After-found-in-loop-head in
    let l = head_lt g d in
    let at = found_here g d in
    record {
      floods = λ z e. c.reach_all.ensures.grown.floods z c.args.root c.args.flood.now.marks e (c.loop-head.invariant.floods z e) (c.loop-head.head, l, sym at);
      round = λ z e. round_next c.args.of.now.size c.args.of.now.cells z c.args.value c.args.root c.loop-head.head (get_or c.found-in-loop-head.result.now c.loop-head.head 0) c.args.flood.now.marks c.is_after-after.result c.loop-head.flood c.reach_all.new.flood c.extent-size.ensures.size e l at (c.loop-head.invariant.floods z e) c.is_after-after.ensures.0 c.reach_all.ensures.grown c.in_ok-reach_all.ensures.near (c.loop-head.invariant.round z e);
      extent = c.reach_all.ensures.grown.extent ∙ c.loop-head.invariant.extent;
      head = omega (arith, l, c.reach_all.ensures.grown.grows);
      picks = rises_within (0 + 0) (9 * c.loop-head.head + 9) 0 (9 * (c.loop-head.head + 1)) _ _ (omega arith) (omega arith) (rises_then 0 (9 * c.loop-head.head) 0 9 _ _ _ c.loop-head.invariant.picks c.reach_all.ensures.picks);
    }

pub returns-clause-ok : goal.returns-clause-ok
returns-clause-ok g c = λ z e. region_done c.args.of.now.size c.args.of.now.cells z c.args.root c.loop-head.head c.args.flood.now.marks c.loop-head.flood (c.loop-head.invariant.floods z e) (c.loop-head.invariant.round z e) (rw (← c.found.ensures) c.loop-head-test.false)

pub reach_all-requires-clause-extent : goal.reach_all-requires-clause-extent
reach_all-requires-clause-extent g c = c.loop-head.invariant.extent ∙ c.requires.extent

pub returns-in_err-reach_all-clause-extent : goal.returns-in_err-reach_all-clause-extent
returns-in_err-reach_all-clause-extent g c = c.reach_all.ensures.grown.extent ∙ c.loop-head.invariant.extent

pub returns-clause-extent : goal.returns-clause-extent
returns-clause-extent g c = c.loop-head.invariant.extent

-- the flood after one more round
flooded : (g : Over) (c : After-reach_all g) → (z : ℤ) → c.args.value ≡ Some z → IsFlooding c.args.of.now.size c.args.of.now.cells z c.args.root c.args.flood.now.marks c.reach_all.new.flood
flooded g c z e =
    let d = (goal.at.After-reach_all g c).After-found-in-loop-head in
    c.reach_all.ensures.grown.floods z c.args.root c.args.flood.now.marks e (c.loop-head.invariant.floods z e) (c.loop-head.head, head_lt g d, sym (found_here g d))

pub returns-in_err-reach_all-clause-caused : goal.returns-in_err-reach_all-clause-caused
returns-in_err-reach_all-clause-caused g c = λ z e. flooding_caused c.args.of.now.size c.args.of.now.cells z c.args.root c.args.flood.now.marks c.reach_all.new.flood (flooded g (goal.at.returns-in_err-reach_all-clause-caused g c).After-reach_all z e)

pub returns-in_err-reach_all-clause-grows : goal.returns-in_err-reach_all-clause-grows
returns-in_err-reach_all-clause-grows g c = let v = some_value c.args.value c.requires.some in omega (arith, (flooded g (goal.at.returns-in_err-reach_all-clause-grows g c).After-reach_all v.0 v.1).counted)

pub returns-in_err-reach_all-clause-picks : goal.returns-in_err-reach_all-clause-picks
returns-in_err-reach_all-clause-picks g c =
    let d = (goal.at.returns-in_err-reach_all-clause-picks g c).After-found-in-loop-head in
    let l = head_lt g d in
    let v = some_value c.args.value c.requires.some in
    let h = flooded g (goal.at.returns-in_err-reach_all-clause-picks g c).After-reach_all v.0 v.1 in
    rises_within (0 + 0) (9 * c.loop-head.head + 9) 0 (9 * (marks_in c.reach_all.new.flood.marks - marks_in c.args.flood.now.marks)) _ _ (omega arith) (omega (arith, l, c.reach_all.ensures.grown.grows, h.counted)) (rises_then 0 (9 * c.loop-head.head) 0 9 _ _ _ c.loop-head.invariant.picks c.reach_all.ensures.picks)

pub returns-clause-caused : goal.returns-clause-caused
returns-clause-caused g c = λ z e. flooding_caused c.args.of.now.size c.args.of.now.cells z c.args.root c.args.flood.now.marks c.loop-head.flood (c.loop-head.invariant.floods z e)

pub returns-clause-grows : goal.returns-clause-grows
returns-clause-grows g c = let v = some_value c.args.value c.requires.some in omega (arith, (c.loop-head.invariant.floods v.0 v.1).counted)

pub returns-clause-picks : goal.returns-clause-picks
returns-clause-picks g c =
    let v = some_value c.args.value c.requires.some in
    rises_within 0 (9 * c.loop-head.head) 0 (9 * (marks_in c.loop-head.flood.marks - marks_in c.args.flood.now.marks)) _ _ (omega arith) (omega (arith, c.loop-head.invariant.head, (c.loop-head.invariant.floods v.0 v.1).counted)) c.loop-head.invariant.picks
