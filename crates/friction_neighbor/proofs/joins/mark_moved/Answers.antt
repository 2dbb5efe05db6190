use Rattle.std.proofs.Common.{◌≡◌, ◌≢◌, ℕ, ◌+◌, ◌*◌, ◌<◌, List, length, get_or, sym, ◌∙◌, ap, subst, arith}
use Rattle.map_nums.specs.Grids.{Size, cells_in}
use Rattle.tile_work.specs.PlaceSets.{PlaceSetState}
use Rattle.friction_spread.specs.Flat.{costs_of}
use Rattle.friction_neighbor.specs.Fields.{cost_at}
use Rattle.friction_neighbor.specs.Puts.{ArePut, RoundMarked}
use Rattle.friction_neighbor.proofs.Joining.{place_inside, cost_inside, cost_is, one_moved}
use Rattle.friction_neighbor.proofs.Putting.{put_none, same_put, put_then}
use Rattle.friction_neighbor.proofs.joins.mark_moved.Goals as goal
use Rattle.friction_neighbor.proofs.joins.mark_moved.Goals.{In-loop-k, then-cost-min+in_ok-put_round, else-cost-min}

width : (c : In-loop-k) → c.columns-columns.result ≡ c.args.field.now.ground.size.columns
width c = c.columns-columns.ensures.columns ∙ ap (λ (s : Size). s.columns) c.extent.ensures.extent

within : (c : In-loop-k) → c.args.first * c.columns-columns.result + c.loop-k.k < cells_in c.args.field.now.ground.size
within c = place_inside c.args.field.now c.extent.ensures.field c.args.first (c.args.first + c.args.band.now.rows) c.args.band.now c.requires.band c.above.result c.rows.result c.columns-columns.result c.above.ensures c.rows.ensures (width c) c.loop-k.k c.loop-k-test.true

pub cost-requires : goal.cost-requires
cost-requires c = within (goal.at.cost-requires c).In-loop-k

pub spot-requires : goal.spot-requires
spot-requires c = within (goal.at.spot-requires c).In-loop-k

pub bounds-costs-skipped : goal.bounds-costs-skipped
bounds-costs-skipped c =
    omega (arith, ap length c.costs-costs.ensures, cost_inside c.args.field.now c.extent.ensures.field c.args.first (c.args.first + c.args.band.now.rows) c.args.band.now c.requires.band c.above.result c.rows.result c.columns-columns.result c.above.ensures c.rows.ensures (width (goal.at.bounds-costs-skipped c).In-loop-k) c.loop-k.k c.loop-k-test.true)

pub loop-k-preserved : goal.loop-k-preserved
loop-k-preserved c =
    let f = c.args.field.now in
    let w = f.ground.size.columns in
    let band = c.args.band.now in
    let k = c.loop-k.k in
    let i = c.loop-k.invariant in
    let queue = c.if-cost-min.queue in
    let seen = c.if-cost-min.seen in
    let wide = width (goal.at.loop-k-preserved c).In-loop-k in
    let at : c.args.first * c.columns-columns.result + k ≡ c.args.first * w + k = ap (λ n. c.args.first * n + k) wide in
    let cost = cost_is f c.extent.ensures.field c.args.first (c.args.first + band.rows) band c.requires.band c.above.result c.rows.result c.columns-columns.result c.above.ensures c.rows.ensures wide k c.loop-k-test.true in
    let put : ArePut f c.loop-k.queue c.loop-k.seen queue seen = elim c.if-cost-min.branch as (λ _. ArePut f c.loop-k.queue c.loop-k.seen queue seen) [
      | then-cost-min+in_ok-put_round v ↦ same_put f c.loop-k.queue v.put_round.new.queue queue c.loop-k.seen v.put_round.new.seen seen v.queue-is v.seen-is v.in_ok-put_round.ensures.put
      | else-cost-min v ↦ same_put f c.loop-k.queue c.loop-k.queue queue c.loop-k.seen c.loop-k.seen seen v.queue-is v.seen-is (put_none f c.loop-k.queue c.loop-k.seen)
    ] in
    let round : cost_at f (c.args.first * w + k) ≢ costs_of f.ground band.costs.items (band.above * w + k) → RoundMarked f 0 seen (c.args.first * w + k) = λ d. elim c.if-cost-min.branch as (λ _. RoundMarked f 0 seen (c.args.first * w + k)) [
      | then-cost-min+in_ok-put_round v ↦ (let P : PlaceSetState → Type 0 = λ s. RoundMarked f 0 s (c.args.first * w + k) in let Q : ℕ → Type 0 = RoundMarked f 0 v.put_round.new.seen in subst P (sym v.seen-is) (subst Q (v.spot.ensures.at ∙ at) v.in_ok-put_round.ensures.marked))
      | else-cost-min v ↦ absurd (d (omega (arith, v.if-cost-min.false, c.cost.ensures.value, ap (cost_at f) at, c.min.ensures, ap (λ (xs : List ℕ). get_or xs (c.above.result * c.columns-columns.result + k) 0) c.costs-costs.ensures, c.limit-top.ensures.limit, cost)))
    ] in
    record {
      size = put.size ∙ i.size;
      put = put_then f c.args.queue.now c.loop-k.queue queue c.args.seen.now c.loop-k.seen seen i.put put;
      moved = one_moved f c.extent.ensures.field c.args.first (c.args.first + band.rows) band c.requires.band c.loop-k.seen seen k put.marked round i.moved;
    }
