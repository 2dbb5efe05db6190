-- Operations by their classes.
use Rattle.std.specs.Prelude.{◌≡◌, List, length, IsTrue}
use Rattle.map_nums.specs.Grids.{Size}
use Rattle.map_defs.specs.Damage.{reach_of}
use Rattle.map_defs.specs.Ops.{Head, flow_head, spread_head, nearest_head, region_head, Op, Term, zonal_op, sight_op}
use Rattle.layer_tiles.specs.Changes.{ChangeState}
use Rattle.layer_tiles.specs.Operands.{cells_after}
use Rattle.sight_lines.specs.Puts.{sighting_of}
use Rattle.map_waves.specs.Statements.{made}
use Rattle.map_waves.specs.declared.keeping.Aside.TheVariants.{Other}
use Rattle.op_jobs.specs.Classes.{is_plain}
use Rattle.op_jobs.specs.Kernels.{kernel_cells, kernel_reach, CanMake, beside_by, worked_by}
use Rattle.op_jobs.specs.declared.beside.Beside.TheVariants.{Nothing}
use Rattle.op_jobs.specs.declared.classes.Class as classes
use Rattle.op_jobs.specs.declared.classes.Class.TheVariants.{Plain, Zonal, Sight, Whole}
use Rattle.op_jobs.specs.declared.kernels.Kernel.{Kernel}
use Rattle.op_jobs.specs.declared.own.Lone.TheVariants as a_lone
use Rattle.op_jobs.specs.declared.own.Repair as repairs
use Rattle.op_jobs.specs.declared.own.Repair.TheVariants.{Alone, Nearest}

-- the head of the operations that it repairs
abbrev pub head_of : repairs.Repair → Head
head_of (Alone a_lone.Flow) = flow_head
head_of (Alone (a_lone.Spread limit)) = spread_head limit
head_of (Alone a_lone.Regions) = region_head
head_of (Nearest limit) = nearest_head limit

abbrev pub IsRepairOf : Op → repairs.Repair → Type 0
IsRepairOf op repair = op.head ≡ head_of repair

-- the kernel makes the operation's tiles from the operands alone
pub record IsPlain (op : Op) (kernel : Kernel) : Type 0 where
  pub class : IsTrue (is_plain op)
  pub reach : kernel_reach kernel ≡ reach_of op
  pub can : (s : Size) (operands : List ChangeState) → length operands ≡ length op.terms → CanMake s operands kernel
  pub cells : (s : Size) (operands : List ChangeState) → kernel_cells s operands kernel ≡ made s op (cells_after operands)
  pub alone : beside_by kernel ≡ Other Nothing
  pub idle : worked_by kernel ≡ 0

abbrev pub IsClassOf : Op → classes.Class → Type 0
IsClassOf op (Plain kernel) = IsPlain op kernel
IsClassOf op (Zonal stat) = (t : Term) × (u : Term) × (op ≡ zonal_op stat t u)
IsClassOf op (Sight sight) = (t : Term) × (u : Term) × (op ≡ sight_op (sighting_of sight) t u)
IsClassOf op (Whole repair) = IsRepairOf op repair
