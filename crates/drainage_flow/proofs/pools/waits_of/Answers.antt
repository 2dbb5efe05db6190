use Rattle.std.proofs.Common.{◌≡◌, ℕ, ◌+◌, ◌-◌, ◌*◌, ◌≤◌, List, Option, length, sym, ◌∙◌, ap, subst, arith, pos}
use Rattle.std.specs.Prelude.{◌⊎◌}
use Rattle.std.proofs.lemmas.List.{take_at}
use Rattle.drainage_flow.specs.Pouring.{wait_in, AddsWaits}
use Rattle.drainage_flow.specs.Bands.{AreDowns}
use Rattle.drainage_flow.proofs.FlowBands.{few_rows, last_is, none_wait, waits_near}
use Rattle.drainage_flow.proofs.pools.waits_of.Goals as goal
use Rattle.drainage_flow.proofs.pools.waits_of.Goals.{After-deref, After-deref_mut-2, After-deref-2}

above_few : (c : After-deref) → length c.deref.result.now ≤ 1500000
above_few c = omega (arith, ap length c.deref.ensures.value, c.in_ok-above.ensures.count, few_rows c.args.extent c.saturating_sub.result c.args.first c.columns.ensures.size (omega (arith, c.requires.rows, c.requires.within)))

none : (c : After-deref) (k : ℕ) → wait_in c.deref_mut.result.now k ≡ 0
none c k = ap (λ (ws : List ℕ). wait_in ws k) c.deref_mut.ensures.value ∙ none_wait c.in_ok-waits.waits.items c.in_ok-waits.ensures.none k

pub add_waits-requires : goal.add_waits-requires
add_waits-requires c = record { few = (0, λ k. omega (arith, none c k), omega (arith, above_few c)) }

-- what the first counting left
first_left : (c : After-deref_mut-2) → c.deref_mut-2.result.now ≡ c.add_waits.new.waits
first_left c = c.deref_mut-2.ensures.value ∙ take_at c.add_waits.new.waits _ c.in_ok-waits.waits.len (c.add_waits.ensures.count ∙ c.deref_mut.ensures.len)

downs_few : (c : After-deref_mut-2) → length c.args.downs.now ≤ 1500000
downs_few c = omega (arith, c.requires.downs.count, few_rows c.args.extent c.args.first c.args.end c.columns.ensures.size c.requires.within)

first_few : (d : After-deref) (c : After-deref_mut-2) (k : ℕ) → wait_in c.deref_mut.result.now k ≡ 0 → length c.deref.result.now ≤ 1500000 → wait_in c.deref_mut-2.result.now k ≤ 1500000
first_few d c k n l = omega (arith, ap (λ (ws : List ℕ). wait_in ws k) (first_left c), c.add_waits.ensures.few k, n, l)

pub add_waits-requires-2 : goal.add_waits-requires-2
add_waits-requires-2 c = let d = (goal.at.add_waits-requires-2 c).After-deref in record { few = (1500000, λ k. first_few d c k (none d k) (above_few d), omega (arith, downs_few c)) }

-- and the second
next_left : (c : After-deref-2) → c.deref_mut-3.result.now ≡ c.add_waits-2.new.waits
next_left c = c.deref_mut-3.ensures.value ∙ take_at c.add_waits-2.new.waits _ c.in_ok-waits.waits.len (c.add_waits-2.ensures.count ∙ c.deref_mut-2.ensures.len)

last : (c : After-deref-2) → (c.args.end ≤ c.min-last.result) × (c.min-last.result ≤ c.args.extent.rows) × ((c.min-last.result ≡ c.args.end + 1) ⊎ (c.min-last.result ≡ c.args.extent.rows))
last c = last_is c.args.extent.rows c.rows.result c.args.end c.min-last.result c.min-last.ensures c.rows.ensures.rows c.requires.within

below_few : (c : After-deref-2) → length c.deref-2.result.now ≤ 1500000
below_few c = omega (arith, ap length c.deref-2.ensures.value, c.in_ok-below.ensures.count, few_rows c.args.extent c.args.end c.min-last.result c.columns.ensures.size (last c).1)

pub add_waits-requires-3 : goal.add_waits-requires-3
add_waits-requires-3 c =
    let at = goal.at.add_waits-requires-3 c in
    let d = at.After-deref in
    let f = at.After-deref_mut-2 in
    record { few = (3000000, λ k. omega (arith, ap (λ (ws : List ℕ). wait_in ws k) (next_left c), c.add_waits-2.ensures.few k, first_few d f k (none d k) (above_few d), downs_few f), omega (arith, below_few c)) }

pub returns-clause-waits : goal.returns-clause-waits
returns-clause-waits c = λ k l.
    let at = goal.at.returns-clause-waits c in
    let d = at.After-deref in
    let f = at.After-deref_mut-2 in
    let z = at.After-deref-2 in
    let s = c.args.extent in
    let surface = c.args.surface.now in
    let first = c.args.first in
    let end = c.args.end in
    let lasts = last z in
    let start : first * c.columns.result ≡ first * s.columns = ap (λ m. first * m) c.columns.ensures.columns in
    let before : c.saturating_sub.result ≡ first - 1 = c.saturating_sub.ensures in
    let above : AreDowns s surface ((first - 1) * s.columns) ((first - (first - 1)) * s.columns) c.deref.result.now = subst (AreDowns s surface ((first - 1) * s.columns) ((first - (first - 1)) * s.columns)) (sym c.deref.ensures.value) (subst (λ m. AreDowns s surface (m * s.columns) ((first - m) * s.columns) c.in_ok-above.above.items) before c.in_ok-above.ensures) in
    let below : AreDowns s surface (end * s.columns) ((c.min-last.result - end) * s.columns) c.deref-2.result.now = subst (AreDowns s surface (end * s.columns) ((c.min-last.result - end) * s.columns)) (sym c.deref-2.ensures.value) c.in_ok-below.ensures in
    let here : (xs : List (Option ℕ)) (old new : List ℕ) → AddsWaits xs (length xs) (first * c.columns.result) old new → AddsWaits xs (length xs) (first * s.columns) old new = λ xs old new h. subst (λ m. AddsWaits xs (length xs) m old new) start h in
    let count : length c.deref_mut.result.now ≡ length c.args.downs.now = ap length c.deref_mut.ensures.value ∙ c.in_ok-waits.ensures.count in
    let three = take_at c.add_waits-3.new.waits _ c.in_ok-waits.waits.len (c.add_waits-3.ensures.count ∙ c.deref_mut-3.ensures.len) in
    ap (λ (ws : List ℕ). pos (wait_in ws k)) three
    ∙ waits_near s surface c.columns.ensures.size.some_column first end c.min-last.result c.requires.rows lasts.0 lasts.1 lasts.2 c.deref.result.now c.args.downs.now c.deref-2.result.now above c.requires.downs below
    c.deref_mut.result.now c.add_waits.new.waits c.add_waits-2.new.waits c.add_waits-3.new.waits count (none d)
    (here c.deref.result.now c.deref_mut.result.now c.add_waits.new.waits c.add_waits.ensures)
    (subst (λ (ws : List ℕ). AddsWaits c.args.downs.now (length c.args.downs.now) (first * s.columns) ws c.add_waits-2.new.waits) (first_left f) (here c.args.downs.now c.deref_mut-2.result.now c.add_waits-2.new.waits c.add_waits-2.ensures))
    (subst (λ (ws : List ℕ). AddsWaits c.deref-2.result.now (length c.deref-2.result.now) (first * s.columns) ws c.add_waits-3.new.waits) (next_left z) (here c.deref-2.result.now c.deref_mut-3.result.now c.add_waits-3.new.waits c.add_waits-3.ensures))
    k l
