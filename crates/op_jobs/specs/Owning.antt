-- What the jobs of one statement share.
use Rattle.std.specs.Prelude.{◌≡◌, ◌^◌, ◌<◌, ℕ, ◌*◌, true, List, length, Option, Some, None, Result, Ok, Err, IsTrue, IsFalse, nat_lt, replicate}
use Rattle.map_nums.specs.Grids.{Size, Cells}
use Rattle.map_nums.specs.Tiles.{tiles_in}
use Rattle.map_defs.specs.Ops.{Op}
use Rattle.map_defs.specs.Damage.{has_work}
use Rattle.map_defs.specs.Sight.{most_viewers}
use Rattle.map_defs.specs.Viewers.{viewers_in}
use Rattle.layer_tiles.specs.Changes.{ChangeState}
use Rattle.layer_tiles.specs.Operands.{cells_after}
use Rattle.damage_sets.specs.Sets.{TileSetState}
use Rattle.damage_sets.specs.Damage.{damage_of, touched_in}
use Rattle.map_waves.specs.Answers.{LacksJobs}
use Rattle.map_waves.specs.Statements.{made, damage_by, work_by}
use Rattle.map_waves.specs.declared.halts.NoJobs.{NoJobs}
use Rattle.op_jobs.specs.Beside.{suits}
use Rattle.op_jobs.specs.Kernels.{kernel_cells, CanMake, beside_by, worked_by}
use Rattle.op_jobs.specs.Repairs.{IsRepairOf}
use Rattle.op_jobs.specs.declared.own.TileJobs.{TileJobs}
use Rattle.op_jobs.specs.declared.own.WholeJob.{WholeJob}
use Rattle.op_jobs.specs.declared.own.Own.{Own}
use Rattle.op_jobs.specs.declared.own.Own.TheVariants.{Tiles, Whole}

-- a job for each tile of the damage
pub record AreTileJobs (s : Size) (op : Op) (operands : List ChangeState) (was : Option Cells) (jobs : TileJobs) : Type 0 where
  pub tiles : jobs.tiles.items ≡ damage_by s op was operands
  pub can : CanMake s operands jobs.kernel
  pub cells : kernel_cells s operands jobs.kernel ≡ made s op (cells_after operands)
  pub beside_is : suits s op (cells_after operands) (beside_by jobs.kernel)
  pub work_is : worked_by jobs.kernel ≡ work_by s op was operands
  pub little : worked_by jobs.kernel < 2 ^ 32
  pub viewers : IsFalse (nat_lt most_viewers (viewers_in op (cells_after operands)))

-- the tiles whose square, grown by r, has a changed operand cell; all of them where no layer is kept
abbrev pub reached : ℕ → Size → Option Cells → List ChangeState → TileSetState
reached r s None operands = record { size = s; marks = replicate (tiles_in s) true }
reached r s (Some was) operands = damage_of r s operands

-- the looks that finding them takes
abbrev pub reached_looks : Option Cells → List ChangeState → ℕ
reached_looks None operands = 0
reached_looks (Some was) operands = 2 * touched_in operands

-- one job for all
pub record IsWholeJob (s : Size) (op : Op) (operands : List ChangeState) (was : Option Cells) (job : WholeJob) : Type 0 where
  pub class : IsTrue (has_work op)
  pub repair_is : IsRepairOf op job.repair
  pub set_is : job.touched ≡ reached 0 s was operands

abbrev pub IsOwn : Size → Op → List ChangeState → Option Cells → Own → Type 0
IsOwn s op operands was (Tiles jobs) = AreTileJobs s op operands was jobs
IsOwn s op operands was (Whole job) = IsWholeJob s op operands was job

-- what the jobs share, or why there are none
abbrev pub IsOwnAnswer : Size → Op → List ChangeState → Option Cells → Result Own NoJobs → Type 0
IsOwnAnswer s op operands was (Ok own) = IsOwn s op operands was own
IsOwnAnswer s op operands was (Err halt) = LacksJobs s op (cells_after operands) halt

-- how many jobs
abbrev pub count_of : Own → ℕ
count_of (Tiles jobs) = length jobs.tiles.items
count_of (Whole job) = 1
