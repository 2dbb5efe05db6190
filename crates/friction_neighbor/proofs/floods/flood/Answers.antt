use Rattle.std.proofs.Common.{◌≡◌, ℕ, ◌<◌, ◌∷◌, [], ◌++◌, List, length, Option, None, ℤ, sym, ◌∙◌, subst, arith}
use Rattle.std.specs.Prelude.{slice_set}
use Rattle.map_nums.specs.Grids.{cell_at}
use Rattle.map_defs.proofs.NearestNet.{no_greater}
use Rattle.friction_neighbor.specs.Floods.{IsFlooding, MayGrow}
use Rattle.friction_neighbor.proofs.Places.{free_begins}
use Rattle.friction_neighbor.proofs.Flooding.{none_of, some_in, le_self, set_here, grows_then, grows_set, given_first}
use Rattle.friction_neighbor.proofs.floods.flood.Goals as goal
use Rattle.friction_neighbor.proofs.floods.flood.Goals.{Else-has}

within : (c : Else-has) → c.args.seed.now.at < length c.args.values.now
within c = omega (arith, c.requires.seed.within, c.requires.flooding.count)

none : (c : Else-has) → cell_at c.args.values.now c.args.seed.now.at ≡ None
none c = none_of (cell_at c.args.values.now c.args.seed.now.at) (sym c.has_value-has.ensures ∙ c.if-has.false)

pub pass_all-requires-clause-flooding : goal.pass_all-requires-clause-flooding
pass_all-requires-clause-flooding c =
    let d = (goal.at.pass_all-requires-clause-flooding c).Else-has in
    let f = c.args.field.now in
    let seed = c.args.seed.now in
    let values = c.args.values.now in
    let found = c.args.found.now.items in
    let P : Option ℤ → Type 0 = λ v. IsFlooding f seed.number (slice_set values seed.at v) (found ++ seed.at ∷ []) in
    let Q : List ℕ → Type 0 = IsFlooding f seed.number (slice_set values seed.at seed.value) in
    subst Q (sym c.in_ok-push.ensures.items) (subst P (sym c.requires.seed.value)
    (given_first f seed.number values seed.at (within d) (none d) c.requires.seed.in_range found c.requires.none (free_begins f c.extent-extent.ensures.field seed.at c.requires.seed.free) c.requires.seed.number c.requires.flooding))

pub returns-then-has-clause-has : goal.returns-then-has-clause-has
returns-then-has-clause-has c =
    let seed = c.args.seed.now in
    let w = some_in (cell_at c.args.values.now seed.at) (sym c.has_value-has.ensures ∙ c.if-has.true) in
    no_greater (cell_at c.args.values.now seed.at) w.0 seed.number w.1 (c.requires.flooding.most seed.at w.0 w.1)

pub returns-clause-grows : goal.returns-clause-grows
returns-clause-grows c =
    let d = (goal.at.returns-clause-grows c).Else-has in
    let seed = c.args.seed.now in
    let values = c.args.values.now in
    let P : Option ℤ → Type 0 = λ v. MayGrow values (slice_set values seed.at v) in
    grows_then values (slice_set values seed.at seed.value) c.pass_all.new.values (subst P (sym c.requires.seed.value) (grows_set values seed.at seed.number (within d) (none d))) c.in_ok-pass_all.ensures.grows

pub returns-clause-has : goal.returns-clause-has
returns-clause-has c =
    let d = (goal.at.returns-clause-has c).Else-has in
    let seed = c.args.seed.now in
    no_greater (cell_at c.pass_all.new.values seed.at) seed.number seed.number (c.in_ok-pass_all.ensures.grows seed.at seed.number (set_here c.args.values.now seed.at seed.value seed.number c.requires.seed.value (within d))) (le_self seed.number)
