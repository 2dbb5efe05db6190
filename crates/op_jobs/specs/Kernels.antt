-- What makes the tiles of a statement.
use Rattle.std.specs.Prelude.{◌≡◌, ◌≢◌, ◌<◌, ◌≤◌, ℕ, List, length}
use Rattle.map_nums.specs.declared.Stat.TheVariants.{Product}
use Rattle.map_nums.specs.Grids.{Size, Cells}
use Rattle.map_defs.specs.Drainage.{direction_grid}
use Rattle.map_defs.specs.Facts.{radius_of}
use Rattle.map_defs.specs.Focal.{focal_grid, offsets_of}
use Rattle.map_defs.specs.Incremental.{form_grid}
use Rattle.map_defs.specs.Local.{local_grid}
use Rattle.map_defs.specs.Operate.{operand}
use Rattle.map_defs.specs.Sight.{sight_grid}
use Rattle.map_defs.specs.Zonal.{zonal_grid}
use Rattle.layer_tiles.specs.Changes.{ChangeState}
use Rattle.layer_tiles.specs.Operands.{cells_after}
use Rattle.local_ops.specs.Operations.{op_of, Takes}
use Rattle.incremental_ops.specs.Shapes.{form_of}
use Rattle.sight_lines.specs.Heights.{AreHeights}
use Rattle.sight_lines.specs.Puts.{sighting_of}
use Rattle.sight_lines.specs.Viewed.{viewers_of}
use Rattle.zonal_totals.specs.Books.{IsBookOf}
use Rattle.statement_parser.specs.Formed.{IsRadius}
use Rattle.map_waves.specs.declared.keeping.Aside.{Aside}
use Rattle.map_waves.specs.declared.keeping.Aside.TheVariants.{Other}
use Rattle.op_jobs.specs.Lists.{IsList, list_cells}
use Rattle.op_jobs.specs.Operands.{AreBoth}
use Rattle.op_jobs.specs.declared.beside.Beside as besides
use Rattle.op_jobs.specs.declared.beside.Beside.TheVariants as a_beside
use Rattle.op_jobs.specs.declared.kernels.Kernel.{Kernel}
use Rattle.op_jobs.specs.declared.kernels.Kernel.TheVariants.{Local, Focal, Shape, Direction, Zonal, Sight, Fresh}

-- the cells whose tiles it makes
abbrev pub kernel_cells : Size → List ChangeState → Kernel → Cells
kernel_cells s operands (Local l) = (local_grid s (op_of l) (cells_after operands)).cells
kernel_cells s operands (Focal stat r) = (focal_grid stat (offsets_of r) s (operand (cells_after operands) 0)).cells
kernel_cells s operands (Shape shape) = (form_grid (form_of shape) s (operand (cells_after operands) 0)).cells
kernel_cells s operands Direction = (direction_grid s (operand (cells_after operands) 0)).cells
kernel_cells s operands (Zonal stat book) = (zonal_grid stat s (operand (cells_after operands) 0) (operand (cells_after operands) 1)).cells
kernel_cells s operands (Sight sight viewers) = (sight_grid (sighting_of sight) s (operand (cells_after operands) 0) (operand (cells_after operands) 1)).cells
kernel_cells s operands (Fresh fresh) = list_cells s fresh.list

-- it can make them
abbrev pub CanMake : Size → List ChangeState → Kernel → Type 0
CanMake s operands (Local l) = Takes (op_of l) (length operands)
CanMake s operands (Focal stat r) = IsRadius r × (0 < length operands)
CanMake s operands (Shape shape) = 0 < length operands
CanMake s operands Direction = 0 < length operands
CanMake s operands (Zonal stat book) = AreBoth s operands × (stat ≢ Product) × (book.size ≡ s) × IsBookOf book (operand (cells_after operands) 0) (operand (cells_after operands) 1)
CanMake s operands (Sight sight viewers) = AreBoth s operands × (sight.reach ≤ 64) × AreHeights sight.from sight.to × (viewers ≡ viewers_of s (operand (cells_after operands) 0))
CanMake s operands (Fresh fresh) = IsList s fresh.list

-- how many rows and columns off it feels a changed cell, where it goes by the operands alone
abbrev pub kernel_reach : Kernel → ℕ
kernel_reach (Focal stat r) = radius_of r
kernel_reach (Shape shape) = 1
kernel_reach Direction = 1
kernel_reach kernel = 0

-- what is to stand beside the layer
abbrev pub beside_by : Kernel → Aside besides.Beside
beside_by (Zonal stat book) = Other (a_beside.Book book)
beside_by (Sight sight viewers) = Other (a_beside.Viewers viewers)
beside_by (Fresh fresh) = fresh.beside
beside_by kernel = Other a_beside.Nothing

-- the units of work
abbrev pub worked_by : Kernel → ℕ
worked_by (Fresh fresh) = fresh.worked
worked_by kernel = 0
