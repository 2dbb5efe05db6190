use Rattle.std.proofs.Common.{rules, ◌≡◌, ◌+◌, ◌<◌, ◌≤◌, ℕ, List, length, get_or, ◌∙◌, ap, subst, arith, SFits, to_z-of_z}
use mir.Syntax.{w128}
use Rattle.drainage_flow.specs.FlowBands.{counts_of, IsSeat}
use Rattle.drainage_flow.specs.declared.flow_band.FlowBand.{FlowBand}
use Rattle.drainage_flow.proofs.FlowBands.{even_flows}
use Rattle.drainage_flow.proofs.Seats.{seat_low, seat_on, counts_at, counts_count, flow_found}
use Rattle.drainage_flow.proofs.whole.flow_after.Goals as goal

-- the band is one of them, and a place in it is never above its number among all
low : (bs : List FlowBand) (start k i c at : ℕ) → start + c ≡ at → IsSeat (counts_of bs) start k i → (k < length bs) × (i + c ≤ at)
low bs start k i c at e s = let r = seat_low (counts_of bs) start k i s in (omega (arith, r.0, counts_count bs), omega (arith, r.1, e))

-- a place of the same band
near : (bs : List FlowBand) (start k i c at count : ℕ) (b : FlowBand) → start + c ≡ at → IsSeat (counts_of bs) start k i → b ≡ get_or bs k b → count ≡ length b.downs.items → i + c < count → IsSeat (counts_of bs) at k (i + c)
near bs start k i c at count b e s is n l =
    let same : length b.downs.items ≡ length (get_or bs k b).downs.items = ap (λ (x : FlowBand). length x.downs.items) is in
    subst (λ x. IsSeat (counts_of bs) x k (i + c)) e (seat_on (counts_of bs) start k i c s (omega (arith, l, n, same, counts_at bs k b (low bs start k i c at e s).0)))

pub overflow_add-place : goal.overflow_add-place
overflow_add-place c = let s = c.requires.seat in omega (arith, (low c.args.bands.now s.0 c.args.band c.args.first c.args.c c.args.at s.1 s.2).1)

pub offset_bounds-bands-band : goal.offset_bounds-bands-band
offset_bounds-bands-band c = let s = c.requires.seat in let below = (low c.args.bands.now s.0 c.args.band c.args.first c.args.c c.args.at s.1 s.2).0 in omega (arith, below)

pub bounds-bands-band : goal.bounds-bands-band
bounds-bands-band c = let s = c.requires.seat in (low c.args.bands.now s.0 c.args.band c.args.first c.args.c c.args.at s.1 s.2).0

pub offset_bounds-bands-band-then-place-count : goal.offset_bounds-bands-band-then-place-count
offset_bounds-bands-band-then-place-count c = let s = c.requires.seat in let below = (low c.args.bands.now s.0 c.args.band c.args.first c.args.c c.args.at s.1 s.2).0 in omega (arith, below)

pub bounds-bands-band-then-place-count : goal.bounds-bands-band-then-place-count
bounds-bands-band-then-place-count c = let s = c.requires.seat in (low c.args.bands.now s.0 c.args.band c.args.first c.args.c c.args.at s.1 s.2).0

pub flow-requires : goal.flow-requires
flow-requires c =
    let bs = c.args.bands.now in
    let s = c.requires.seat in
    let there = near bs s.0 c.args.band c.args.first c.args.c c.args.at c.count.result c.index-bands-band.result s.1 s.2 c.index-bands-band.is c.count.ensures c.if-place-count.true in
    (flow_found bs c.args.at c.args.band (c.args.first + c.args.c) c.index-bands-band-then-place-count.result c.requires.even there c.index-bands-band-then-place-count.is).0

pub returns-then-place-count : goal.returns-then-place-count
returns-then-place-count c =
    let bs = c.args.bands.now in
    let s = c.requires.seat in
    let there = near bs s.0 c.args.band c.args.first c.args.c c.args.at c.count.result c.index-bands-band.result s.1 s.2 c.index-bands-band.is c.count.ensures c.if-place-count.true in
    let fits : SFits w128 c.flow.result = search rules in
    to_z-of_z fits ∙ c.flow.ensures ∙ (flow_found bs c.args.at c.args.band (c.args.first + c.args.c) c.index-bands-band-then-place-count.result c.requires.even there c.index-bands-band-then-place-count.is).1

pub seat-k-requires : goal.seat-k-requires
seat-k-requires c = omega (arith, c.requires.within, even_flows c.args.bands.now c.requires.even)

pub flow-requires-2 : goal.flow-requires-2
flow-requires-2 c = (flow_found c.args.bands.now c.args.at c.seat-k.result.0 c.seat-k.result.1 c.index-bands-k.result c.requires.even c.seat-k.ensures.seat c.index-bands-k.is).0

pub returns : goal.returns
returns c =
    let fits : SFits w128 c.flow-2.result = search rules in
    to_z-of_z fits ∙ c.flow-2.ensures ∙ (flow_found c.args.bands.now c.args.at c.seat-k.result.0 c.seat-k.result.1 c.index-bands-k.result c.requires.even c.seat-k.ensures.seat c.index-bands-k.is).1
