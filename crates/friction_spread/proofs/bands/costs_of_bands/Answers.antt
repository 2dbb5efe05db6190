use Rattle.std.proofs.Common.{ℕ, ◌≤◌, List, sym, subst}
use Rattle.friction_spread.specs.Costs.{base_of}
use Rattle.friction_spread.specs.Flat.{costs_of}
use Rattle.friction_spread.proofs.Banding.{begun_all}
use Rattle.friction_spread.proofs.bands.costs_of_bands.Goals as goal

pub fill-requires-clause-begun : goal.fill-requires-clause-begun
fill-requires-clause-begun c =
    let gr = c.args.ground.now in
    let P : List ℕ → Type 0 = λ xs. (i : ℕ) → costs_of gr xs i ≤ base_of gr i in
    subst P (sym c.deref_mut.ensures.value) (begun_all gr c.in_ok-costs.costs.items c.join.new.queue c.in_ok-costs.ensures)
