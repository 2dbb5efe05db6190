use Rattle.std.proofs.Common.{◌≡◌, ◌-◌, ◌*◌, None, length, refl, sym, ◌∙◌, ap, subst, arith}
use Rattle.drainage_flow.specs.Pouring.{ArePools}
use Rattle.drainage_flow.proofs.FlowBands.{rows_made, pools_fresh, band_is}
use Rattle.drainage_flow.proofs.Seats.{if_ok}
use Rattle.drainage_flow.proofs.pools.flow_of_band.Goals as goal

pub poured-requires-clause-even : goal.poured-requires-clause-even
poured-requires-clause-even c =
    let m = rows_made c.args.extent c.args.surface.now c.args.weights.now c.args.first c.args.end c.columns-columns.result c.in_ok-downs.downs.items c.in_ok-waits.waits.items c.in_ok-flows.flows.items c.columns-columns.ensures.columns c.requires.rows c.requires.within c.requires.surface c.in_ok-downs.ensures (c.in_ok-waits.ensures.count ∙ ap length c.deref.ensures.value) (λ k l. c.in_ok-waits.ensures.waits k (omega (arith, l, ap length c.deref.ensures.value))) c.in_ok-flows.ensures in
    (m.waits_count ∙ sym m.downs_are.count, m.flows_count ∙ sym m.downs_are.count, tt)

pub poured-requires-clause-few : goal.poured-requires-clause-few
poured-requires-clause-few c =
    let m = rows_made c.args.extent c.args.surface.now c.args.weights.now c.args.first c.args.end c.columns-columns.result c.in_ok-downs.downs.items c.in_ok-waits.waits.items c.in_ok-flows.flows.items c.columns-columns.ensures.columns c.requires.rows c.requires.within c.requires.surface c.in_ok-downs.ensures (c.in_ok-waits.ensures.count ∙ ap length c.deref.ensures.value) (λ k l. c.in_ok-waits.ensures.waits k (omega (arith, l, ap length c.deref.ensures.value))) c.in_ok-flows.ensures in
    omega (arith, m.within, m.downs_are.count, c.columns-columns.ensures.size.most_cells)

pub poured-requires-clause-pools : goal.poured-requires-clause-pools
poured-requires-clause-pools c =
    let m = rows_made c.args.extent c.args.surface.now c.args.weights.now c.args.first c.args.end c.columns-columns.result c.in_ok-downs.downs.items c.in_ok-waits.waits.items c.in_ok-flows.flows.items c.columns-columns.ensures.columns c.requires.rows c.requires.within c.requires.surface c.in_ok-downs.ensures (c.in_ok-waits.ensures.count ∙ ap length c.deref.ensures.value) (λ k l. c.in_ok-waits.ensures.waits k (omega (arith, l, ap length c.deref.ensures.value))) c.in_ok-flows.ensures in
    let f = pools_fresh c.args.extent c.args.surface.now c.args.weights.now (c.args.first * c.args.extent.columns) ((c.args.end - c.args.first) * c.args.extent.columns) c.in_ok-downs.downs.items c.in_ok-waits.waits.items c.in_ok-flows.flows.items c.columns-columns.ensures.size m.within m.downs_are m.waits_count m.flows_count m.each_wait m.small in
    let begins : c.args.first * c.args.extent.columns ≡ c.args.first * c.columns-columns.result = ap (λ x. c.args.first * x) (sym c.columns-columns.ensures.columns) in
    (f.0, f.1, f.2, subst (λ a. ArePools f.0 f.1 a f.2 0 None c.in_ok-downs.downs.items c.in_ok-waits.waits.items c.in_ok-flows.flows.items) begins f.3)

pub returns : goal.returns
returns c =
    let m = rows_made c.args.extent c.args.surface.now c.args.weights.now c.args.first c.args.end c.columns-columns.result c.in_ok-downs.downs.items c.in_ok-waits.waits.items c.in_ok-flows.flows.items c.columns-columns.ensures.columns c.requires.rows c.requires.within c.requires.surface c.in_ok-downs.ensures (c.in_ok-waits.ensures.count ∙ ap length c.deref.ensures.value) (λ k l. c.in_ok-waits.ensures.waits k (omega (arith, l, ap length c.deref.ensures.value))) c.in_ok-flows.ensures in
    let begins : c.args.first * c.args.extent.columns ≡ c.args.first * c.columns-columns.result = ap (λ x. c.args.first * x) (sym c.columns-columns.ensures.columns) in
    if_ok c.poured.result (λ b run. band_is c.args.extent c.args.surface.now c.args.weights.now (c.args.first * c.args.extent.columns) ((c.args.end - c.args.first) * c.args.extent.columns) c.in_ok-downs.downs.items c.in_ok-waits.waits.items c.in_ok-flows.flows.items c.columns-columns.ensures.size m.within m.downs_are m.waits_count m.flows_count m.each_wait m.small m.brings b.downs.items b.waits.items b.flows.items
    (λ g r k p. subst (λ a. ArePools g r a k (length c.in_ok-downs.downs.items) None b.downs.items b.waits.items b.flows.items) (sym begins)
    (run g r k (subst (λ a. ArePools g r a k 0 None c.in_ok-downs.downs.items c.in_ok-waits.waits.items c.in_ok-flows.flows.items) begins p)))
    b refl refl refl) c.poured.ensures
