use Rattle.std.proofs.Common.{◌≡◌, ◌+◌, ◌*◌, sym, ap, ◌∙◌, arith}
use Rattle.map_nums.specs.Grids.{Size}
use Rattle.region_labels.specs.Flood.{is_marked}
use Rattle.region_labels.proofs.Rows.{IsPlace, place_of}
use Rattle.region_labels.proofs.floods.reach.Given.{Over}
use Rattle.region_labels.proofs.floods.reach.Goals as goal
use Rattle.region_labels.proofs.floods.reach.Goals.{Start, After-has_at}

place : (g : Over) (c : Start g) → IsPlace c.args.of.now.size c.args.row c.args.column (c.args.row * c.args.columns + c.args.column)
place g c = place_of c.args.of.now.size c.args.row c.args.column c.args.columns c.requires.columns c.requires.row (rw (← c.requires.columns) c.requires.column)

-- the mark that was asked for
mark_is : (g : Over) (c : After-has_at g) → c.has_at.result ≡ is_marked c.args.flood.now.marks (c.args.row * c.args.columns + c.args.column)
mark_is g c =
    c.has_at.ensures
    ∙ ap (λ (s : Size). is_marked c.args.flood.now.marks (c.args.row * s.columns + c.args.column)) c.requires.extent
    ∙ ap (λ n. is_marked c.args.flood.now.marks (c.args.row * n + c.args.column)) (sym c.requires.columns)

pub has_at-requires-clause-row : goal.has_at-requires-clause-row
has_at-requires-clause-row g c = rw (c.requires.extent) c.requires.row

pub has_at-requires-clause-column : goal.has_at-requires-clause-column
has_at-requires-clause-column g c = rw (c.requires.extent, ← c.requires.columns) c.requires.column

pub overflow_mul-at : goal.overflow_mul-at
overflow_mul-at g c = omega (arith, (place g (goal.at.overflow_mul-at g c).Start).within, c.extent-size.ensures.size.most_cells)

pub overflow_add-at : goal.overflow_add-at
overflow_add-at g c = omega (arith, (place g (goal.at.overflow_add-at g c).Start).within, c.extent-size.ensures.size.most_cells)

pub cell-requires : goal.cell-requires
cell-requires g c = (place g (goal.at.cell-requires g c).Start).within

pub add-requires-clause-within : goal.add-requires-clause-within
add-requires-clause-within g c = rw (c.requires.extent) (place g (goal.at.add-requires-clause-within g c).Start).within

pub add-requires-clause-new : goal.add-requires-clause-new
add-requires-clause-new g c = sym (mark_is g (goal.at.add-requires-clause-new g c).After-has_at) ∙ c.if-has_at.false
