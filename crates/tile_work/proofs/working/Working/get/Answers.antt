use Rattle.std.proofs.Common.{◌≡◌, ◌<◌, sym, ◌∙◌, ap, subst, Some, None, length}
use Rattle.map_nums.specs.Grids.{cells_in, cell_at}
use Rattle.layer_tiles.specs.Tiles.{tile_of}
use Rattle.layer_tiles.proofs.Rounds.{back}
use Rattle.tile_work.specs.Working.{WorkState, slot_at, base_of, before_of, seated_tiles}
use Rattle.tile_work.proofs.Seats.{found, seat_lt, seats_count}
use Rattle.tile_work.proofs.Slots.{work_here, length-work}
use Rattle.std.specs.Option.{option_copied}
use Rattle.tile_work.proofs.working.Working.get.Goals as goal
use Rattle.tile_work.proofs.working.Working.get.Given.{Over}
use Rattle.tile_work.proofs.working.Working.get.Goals.{After-tile_of, After-index, In-Some}

within : (g : Over) (c : After-tile_of g) → c.args.at < cells_in c.self.inside.extent
within g c = subst (λ (w : WorkState). c.args.at < cells_in w.size) (sym c.self.view_is) c.requires

tile_within : (g : Over) (c : After-tile_of g) → c.tile_of.result < length c.self.inside.seats.items
tile_within g c = rw (c.tile_of.ensures, ← seats_count None c.self.inside.tiles.items c.self.inside.seats.items, c.self.invariant.0.count) (back c.self.inside.extent c.args.at c.self.invariant.0.size (within g c)).tile

slot_here : (g : Over) (c : After-index g) → slot_at (seated_tiles c.self.inside.tiles.items c.self.inside.seats.items) (tile_of c.self.inside.extent c.args.at) ≡ c.index.result.now
slot_here g c =
    ap (slot_at (seated_tiles c.self.inside.tiles.items c.self.inside.seats.items)) (sym c.tile_of.ensures)
    ∙ found None c.self.inside.tiles.items c.self.inside.seats.items c.tile_of.result c.index-seat.result.now c.index.result.now c.self.invariant.2 (tile_within g (goal.at.After-index g c).After-tile_of) c.index-seat.ensures c.index.ensures

pub index-seat-requires : goal.index-seat-requires
index-seat-requires g c = rw (c.self.inside.seats.ok.0) (tile_within g c)

pub index-requires : goal.index-requires
index-requires g c = rw (c.self.inside.tiles.ok.0) (seat_lt None c.self.inside.tiles.items c.self.inside.seats.items c.tile_of.result c.index-seat.result.now c.self.invariant.2 (tile_within g (goal.at.index-requires g c).After-tile_of) c.index-seat.ensures)

tile_here : (g : Over) (c : In-Some g) → slot_at (seated_tiles c.self.inside.tiles.items c.self.inside.seats.items) (tile_of c.self.inside.extent c.args.at) ≡ Some c.in-Some.tile
tile_here g c = slot_here g (goal.at.In-Some g c).After-index ∙ c.in-Some.is

pub cell_in-requires-clause-size : goal.cell_in-requires-clause-size
cell_in-requires-clause-size g c = c.self.invariant.0.sizes _ c.in-Some.tile (tile_here g (goal.at.cell_in-requires-clause-size g c).In-Some)

pub returns-in-Some-clause-cell : goal.returns-in-Some-clause-cell
returns-in-Some-clause-cell g c =
    c.cell_in.ensures
    ∙ sym (work_here c.self.inside.extent _ (seated_tiles c.self.inside.tiles.items c.self.inside.seats.items) c.args.at (Some c.in-Some.tile) (within g (goal.at.returns-in-Some-clause-cell g c).After-tile_of) (tile_here g (goal.at.returns-in-Some-clause-cell g c).In-Some))
    ∙ ap (λ (w : WorkState). cell_at w.cells c.args.at) c.self.view_is

pub returns-in-None-clause-cell : goal.returns-in-None-clause-cell
returns-in-None-clause-cell g c =
    c.old_cell.ensures.cell
    ∙ ap (λ (w : WorkState). cell_at (base_of w.before) c.args.at) (sym c.self.view_is)
    ∙ sym (work_here c.self.inside.extent (base_of (before_of (option_copied c.self.inside.base))) (seated_tiles c.self.inside.tiles.items c.self.inside.seats.items) c.args.at None (within g (goal.at.returns-in-None-clause-cell g c).After-tile_of) (slot_here g (goal.at.returns-in-None-clause-cell g c).After-index ∙ c.in-None.is))
    ∙ ap (λ (w : WorkState). cell_at w.cells c.args.at) c.self.view_is

pub returns-in-Some-clause-count : goal.returns-in-Some-clause-count
returns-in-Some-clause-count g c = subst (λ (w : WorkState). length w.cells ≡ cells_in w.size) c.self.view_is (length-work c.self.inside.extent (base_of (before_of (option_copied c.self.inside.base))) (seated_tiles c.self.inside.tiles.items c.self.inside.seats.items))

pub returns-in-None-clause-count : goal.returns-in-None-clause-count
returns-in-None-clause-count g c = subst (λ (w : WorkState). length w.cells ≡ cells_in w.size) c.self.view_is (length-work c.self.inside.extent (base_of (before_of (option_copied c.self.inside.base))) (seated_tiles c.self.inside.tiles.items c.self.inside.seats.items))
