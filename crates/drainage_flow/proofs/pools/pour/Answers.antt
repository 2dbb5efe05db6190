use Rattle.std.proofs.Common.{None, arith, subst}
use Rattle.map_nums.specs.Grids.{cells_in}
use Rattle.drainage_flow.specs.FlowNets.{net_of}
use Rattle.drainage_flow.specs.Pouring.{flow_in, ArePools}
use Rattle.drainage_flow.specs.FlowBands.{all_downs, all_waits, all_flows}
use Rattle.drainage_flow.proofs.Ends.{grid_shown}
use Rattle.drainage_flow.proofs.FlowBands.{fresh_places, bands_even, bands_end, bands_pools, flows_of}
use Rattle.drainage_flow.proofs.pools.pour.Goals as goal

pub run_all-requires-clause-even : goal.run_all-requires-clause-even
run_all-requires-clause-even c = bands_even c.args.extent c.args._surface.now c.args._weights.now c.args.bands.now 0 (cells_in c.args.extent) c.requires.bands

pub run_all-requires-clause-count : goal.run_all-requires-clause-count
run_all-requires-clause-count c = omega (arith, c.cells.ensures.cells, bands_end c.args.extent c.args._surface.now c.args._weights.now c.args.bands.now 0 (cells_in c.args.extent) c.requires.bands)

pub run_all-requires-clause-few : goal.run_all-requires-clause-few
run_all-requires-clause-few c = omega (arith, c.cells.ensures.cells, c.cells.ensures.size.most_cells)

pub run_all-requires-clause-pools : goal.run_all-requires-clause-pools
run_all-requires-clause-pools c =
    let net = net_of c.args.extent c.args._surface.now c.args._weights.now in
    (net, fresh_places net, cells_in c.args.extent, bands_pools c.args.extent c.args._surface.now c.args._weights.now c.args.bands.now c.cells.ensures.size c.requires.bands)

pub returns : goal.returns
returns c =
    let s = c.args.extent in
    let net = net_of s c.args._surface.now c.args._weights.now in
    let p = bands_pools s c.args._surface.now c.args._weights.now c.args.bands.now c.cells.ensures.size c.requires.bands in
    let q = c.run_all.ensures.pools net (fresh_places net) (cells_in s) p in
    let bs = c.run_all.new.bands in
    let q : ArePools net (fresh_places net) 0 (cells_in s) (cells_in s) None (all_downs bs) (all_waits bs) (all_flows bs) = subst (λ k. ArePools net (fresh_places net) 0 (cells_in s) k None (all_downs bs) (all_waits bs) (all_flows bs)) c.cells.ensures.cells q in
    let f = flows_of s c.args._surface.now c.args._weights.now (all_downs bs) (all_waits bs) (all_flows bs) q in
    record { even = c.run_all.ensures.even; counts = c.run_all.ensures.counts; flows = f; cells = grid_shown s c.args._surface.now c.args._weights.now (flow_in (all_flows bs)) f.each }
