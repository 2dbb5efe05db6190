-- What the shapes make of a number and the cells round it.
use Rattle.std.specs.Prelude.{◌≡◌, ℕ, ◌+◌, ◌*◌, ℤ, pos, neg_ℤ, ◌+ℤ◌, ◌-ℤ◌, ◌*ℤ◌, nat_abs, not, Option, option_map, unwrap_or, if◌then◌else◌}
use Rattle.map_nums.specs.Grids.{Size, Cells, cell_at}
use Rattle.map_defs.specs.Cells.{has_number}
use Rattle.map_defs.specs.Slopes.{octant}
use Rattle.map_defs.specs.Roots.{floor_root}
use Rattle.map_defs.specs.Incremental.{Form, linkage_form, length_form, partition_form, frontage_form, gradient_form, aspect_form}
use Rattle.layer_tiles.specs.Tiles.{Block, block_row, tile_height, tile_width}
use Rattle.incremental_ops.specs.declared.rings.Ring.{Ring}
use Rattle.incremental_ops.specs.declared.values.Shape.{Shape}
use Rattle.incremental_ops.specs.declared.values.Shape.TheVariants.{Linkage, Length, Partition, Frontage, Gradient, Aspect}
use Rattle.incremental_ops.specs.Around.{ring_in}

abbrev pub form_of : Shape → Form
form_of Linkage = linkage_form
form_of Length = length_form
form_of Partition = partition_form
form_of Frontage = frontage_form
form_of Gradient = gradient_form
form_of Aspect = aspect_form

abbrev pub linked : ℤ → Option ℤ → ℕ → ℕ
linked z cell w = if has_number z cell then w else 0

abbrev pub parted : ℤ → Option ℤ → ℕ → ℕ
parted z cell w = if not (has_number z cell) then w else 0

abbrev pub leaning_of : ℤ → Option ℤ → Option ℤ → Option ℤ → ℤ
leaning_of z a b c = unwrap_or a z +ℤ pos 2 *ℤ unwrap_or b z +ℤ unwrap_or c z

abbrev pub slope_p_of : Ring → ℤ → ℤ
slope_p_of g z = leaning_of z g.ne g.e g.se -ℤ leaning_of z g.nw g.w g.sw

abbrev pub slope_q_of : Ring → ℤ → ℤ
slope_q_of g z = leaning_of z g.nw g.n g.ne -ℤ leaning_of z g.sw g.s g.se

unfoldable pub shape_of : Shape → Ring → ℤ → ℕ
shape_of Linkage g z = 0 + linked z g.n 1 + linked z g.ne 2 + linked z g.e 4 + linked z g.se 8 + linked z g.s 16 + linked z g.sw 32 + linked z g.w 64 + linked z g.nw 128
shape_of Length g z = 0 + linked z g.n 5 + linked z g.ne 7 + linked z g.e 5 + linked z g.se 7 + linked z g.s 5 + linked z g.sw 7 + linked z g.w 5 + linked z g.nw 7
shape_of Partition g z = 0 + parted z g.n 1 + parted z g.e 2 + parted z g.s 4 + parted z g.w 8
shape_of Frontage g z = 0 + parted z g.n 10 + parted z g.e 10 + parted z g.s 10 + parted z g.w 10
shape_of Gradient g z = floor_root (nat_abs (slope_p_of g z) * nat_abs (slope_p_of g z) + nat_abs (slope_q_of g z) * nat_abs (slope_q_of g z))
shape_of Aspect g z = octant (neg_ℤ (slope_p_of g z)) (neg_ℤ (slope_q_of g z))

abbrev pub shape_cell : Shape → Ring → Option ℤ → Option ℤ
shape_cell shape g own = option_map (λ z. pos (shape_of shape g z)) own

-- the shape's value at the cell in column c + 1 of the middle one of three rows
abbrev pub shape_in : Shape → Cells → Cells → Cells → ℕ → Option ℤ
shape_in shape above here below c = shape_cell shape (ring_in above here below c) (cell_at here (c + 1))

-- at a row and a column of a tile, in its square grown by one
unfoldable pub shape_round : Shape → Block → ℕ → ℕ → Option ℤ
shape_round shape b r c = shape_in shape (block_row b r) (block_row b (r + 1)) (block_row b (r + 2)) c

-- the square is larger than the tile by one on each side
pub record IsGrown (s : Size) (t : ℕ) (b : Block) : Type 0 where
  pub height : b.height ≡ tile_height s t + 2
  pub width : b.width ≡ tile_width s t + 2
