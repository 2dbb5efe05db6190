-- The jobs of a statement that is written: what they rest on, what they read, and what they may answer.
use Rattle.std.specs.Prelude.{◌≡◌, ℕ, ◌*◌, length, slice_index, slice_get, List, Some, Result, Ok}
use Rattle.map_nums.specs.Grids.{Size, IsSize, Cells}
use Rattle.layer_tiles.specs.Operands.{cells_after}
use Rattle.layer_tiles.specs.declared.kernels.KernelRefusal.{KernelRefusal}
use Rattle.statement_parser.specs.Views.{op_view}
use Rattle.statement_parser.specs.declared.op.Op.{Op}
use Rattle.map_waves.specs.Statements.{made, damage_by, work_by}
use Rattle.map_waves.specs.Jobs.{JobsState, was_in, aside_in}
use Rattle.map_waves.specs.declared.keeping.Made.{Made}
use Rattle.map_waves.specs.declared.keeping.Renewal.TheVariants.{Anew}
use Rattle.op_jobs.specs.Operands.{IsEdited}
use Rattle.op_jobs.specs.Owning.{IsOwn, count_of}
use Rattle.op_jobs.specs.Kernels.{beside_by, worked_by}
use Rattle.op_jobs.specs.Pieces.{IsTilePiece, IsWholePiece, tiles_of}
use Rattle.op_jobs.specs.declared.beside.Beside.{Beside}
use Rattle.op_jobs.specs.declared.pieces.Piece.{Piece}
use Rattle.op_jobs.specs.declared.own.Own.{Own}
use Rattle.op_jobs.specs.declared.own.Own.TheVariants as an_own
use Rattle.op_jobs.specs.declared.own.TileJobs.{TileJobs}

abbrev pub StatementJobs : Type 0
StatementJobs = JobsState Op Beside Own

-- the cells after the edit
abbrev pub now_in : StatementJobs → Cells
now_in j = made j.size (op_view j.op) (cells_after j.operands)

pub record IsSound (j : StatementJobs) : Type 0 where
  pub size : IsSize j.size
  pub edited : IsEdited j.size (op_view j.op) j.operands j.kept
  pub own_is : IsOwn j.size (op_view j.op) j.operands (was_in j) j.own
  pub count_is : j.count ≡ count_of j.own

-- ---- reads

abbrev pub damage_in : StatementJobs → ℕ
damage_in j = length (damage_by j.size (op_view j.op) (was_in j) j.operands)

abbrev pub first_by : Own → ℕ → ℕ
first_by (an_own.Tiles jobs) damage = 34 * damage
first_by (an_own.Whole job) damage = 28 * damage

abbrev pub looks_by : Own → ℕ → ℕ
looks_by (an_own.Tiles jobs) damage = 26
looks_by (an_own.Whole job) damage = 32 * damage

abbrev pub picks_by : Own → ℕ → ℕ
picks_by (an_own.Tiles jobs) work = 0
picks_by (an_own.Whole job) work = 1000 * work

abbrev pub first : StatementJobs → ℕ
first j = first_by j.own (damage_in j)

abbrev pub looks : StatementJobs → ℕ → ℕ
looks j k = looks_by j.own (damage_in j)

abbrev pub picks : StatementJobs → ℕ → ℕ
picks j k = picks_by j.own (work_by j.size (op_view j.op) (was_in j) j.operands)

-- ---- answers

abbrev pub IsPieceOf : Own → StatementJobs → ℕ → Result Piece KernelRefusal → Type 0
IsPieceOf (an_own.Tiles jobs) j k answer = IsTilePiece j.size (was_in j) (now_in j) (slice_index jobs.tiles.items k) answer
IsPieceOf (an_own.Whole job) j k answer = IsWholePiece j.size (op_view j.op) (was_in j) (aside_in j) j.operands answer

-- what job k may answer
unfoldable pub IsPiece : StatementJobs → ℕ → Result Piece KernelRefusal → Type 0
IsPiece j k answer = IsPieceOf j.own j k answer

-- pieces in the order of their jobs
abbrev pub ArePieces : StatementJobs → List Piece → Type 0
ArePieces j pieces = (k : ℕ) (p : Piece) → slice_get pieces k ≡ Some p → IsPiece j k (Ok p)

-- what pieces of tiles come to, beside what their jobs share
pub record IsMadeOf (s : Size) (jobs : TileJobs) (pieces : List Piece) (m : Made Beside) : Type 0 where
  pub size : m.patch.size ≡ s
  pub tiles : m.patch.tiles ≡ tiles_of jobs.tiles.items pieces
  pub beside_is : m.beside ≡ Anew (beside_by jobs.kernel)
  pub evaluated : m.evaluated ≡ length jobs.tiles.items
  pub worked : m.worked ≡ worked_by jobs.kernel
