use Rattle.std.proofs.Common.{◌<◌, inl, inr, ap, arith}
use Rattle.std.specs.List.{Contains}
use Rattle.std.proofs.lemmas.Bool.{lt-ltb}
use Rattle.map_nums.specs.Grids.{Size}
use Rattle.friction_spread.specs.Flat.{costs_of}
use Rattle.friction_spread.proofs.bands.push_seams.Goals as goal

pub returns-clause-queued : goal.returns-clause-queued
returns-clause-queued c = λ i s l.
    let cost = costs_of c.args.ground.now c.args.costs.now i in
    let size = ap (λ (z : Size). z.rows) c.extent.ensures.extent in
    elim s as (λ _. Contains c.push_beside-2.new.queue (cost, i)) [
      | inl p ↦ c.in_ok-push_beside-2.ensures.kept (cost, i) (c.in_ok-push_beside.ensures.queued (lt-ltb 0 c.args.first p.0) i p.1 l)
      | inr p ↦ (let below : c.args.end < c.rows-rows.result = omega (arith, p.0, c.rows-rows.ensures.rows, size) in c.in_ok-push_beside-2.ensures.queued (lt-ltb c.args.end c.rows-rows.result below) i (omega (arith, p.1)) l)
    ]
