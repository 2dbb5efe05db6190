-- What jobs make.
use Rattle.std.specs.Prelude.{◌≡◌, ◌<◌, ◌^◌, ℕ, List, [], ◌∷◌, ◌++◌, slice_get, slice_index, Option, Some, None, Result, Ok, Err, IsFalse, unwrap_or, if◌then◌else◌}
use Rattle.std.specs.List.{All, position}
use Rattle.map_nums.specs.Answers.{is_wide}
use Rattle.map_nums.specs.Grids.{Size, Cells}
use Rattle.map_defs.specs.Ops.{Op}
use Rattle.map_defs.specs.Damage.{changed_tiles}
use Rattle.layer_tiles.specs.Answers.{IsLeastWide}
use Rattle.layer_tiles.specs.Changes.{ChangeState}
use Rattle.layer_tiles.specs.Operands.{cells_after}
use Rattle.layer_tiles.specs.Patches.{PatchState, patched, numbers_of}
use Rattle.layer_tiles.specs.Tiles.{Block, IsBlockOf, tile_cells, tile_block}
use Rattle.layer_tiles.specs.declared.kernels.KernelRefusal.{KernelRefusal}
use Rattle.layer_tiles.specs.declared.kernels.KernelRefusal.TheVariants.{Overflow, NoMemory}
use Rattle.map_waves.specs.Gathered.{IsRepaired}
use Rattle.map_waves.specs.Statements.{made, work_by}
use Rattle.map_waves.specs.declared.keeping.Aside.{Aside}
use Rattle.map_waves.specs.declared.keeping.Made.{Made}
use Rattle.op_jobs.specs.Beside.{suits}
use Rattle.op_jobs.specs.Changed.{is_changed}
use Rattle.op_jobs.specs.declared.beside.Beside.{Beside}
use Rattle.op_jobs.specs.declared.pieces.Piece.{Piece}
use Rattle.op_jobs.specs.declared.pieces.Piece.TheVariants.{Tile, Whole}

-- ---- a job for a tile

-- all of tile t is in range, and it is there where it changed
pub record IsTileMade (s : Size) (was : Option Cells) (now : Cells) (t : ℕ) (made : Option Block) : Type 0 where
  pub is : made ≡ (if is_changed s was now t then Some (tile_block s now t) else None)
  pub narrow : All (λ c. IsFalse (is_wide c)) (tile_cells s now t)

-- want of memory is free
abbrev pub IsTilePiece : Size → Option Cells → Cells → ℕ → Result Piece KernelRefusal → Type 0
IsTilePiece s was now t (Ok (Tile made)) = IsTileMade s was now t made
IsTilePiece s was now t (Ok (Whole m)) = ⊥
IsTilePiece s was now t (Err (Overflow at)) = IsLeastWide s now t at
IsTilePiece s was now t (Err NoMemory) = Unit {0}

-- the tiles that a piece adds to a patch
abbrev pub tiles_at : ℕ → Piece → List (ℕ × Block)
tiles_at t (Tile None) = []
tiles_at t (Tile (Some b)) = (t, b) ∷ []
tiles_at t (Whole m) = []

abbrev pub FitsTile : Size → ℕ → Piece → Type 0
FitsTile s t (Tile None) = Unit {0}
FitsTile s t (Tile (Some b)) = IsBlockOf s t b
FitsTile s t (Whole m) = Unit {0}

-- of several tiles, in their order
abbrev pub tiles_of : List ℕ → List Piece → List (ℕ × Block)
tiles_of [] pieces = []
tiles_of (t ∷ ts) [] = []
tiles_of (t ∷ ts) (p ∷ pieces) = tiles_at t p ++ tiles_of ts pieces

abbrev pub FitTiles : Size → List ℕ → List Piece → Type 0
FitTiles s ts pieces = (k : ℕ) (p : Piece) → slice_get pieces k ≡ Some p → FitsTile s (slice_index ts k) p

-- ---- a job for all

-- all is in range; exactly the tiles that changed, and the work
pub record IsWholeMade (s : Size) (op : Op) (was : Option Cells) (operands : List ChangeState) (patch : PatchState) (work : ℕ) : Type 0 where
  pub size : patch.size ≡ s
  pub cells : patched s (unwrap_or was []) patch.tiles ≡ made s op (cells_after operands)
  pub exact : numbers_of patch.tiles ≡ changed_tiles s was (made s op (cells_after operands))
  pub work_is : work ≡ work_by s op was operands
  pub little : work < 2 ^ 32
  pub narrow : position is_wide (made s op (cells_after operands)) ≡ None

-- the repaired layer with what stands beside it, all in range
pub record IsWholeRepaired (s : Size) (op : Op) (was : Option Cells) (aside : Option (Aside Beside)) (operands : List ChangeState) (m : Made Beside) : Type 0 where
  pub repaired : IsRepaired suits s op operands was aside m
  pub narrow : position is_wide (made s op (cells_after operands)) ≡ None

abbrev pub IsWholePiece : Size → Op → Option Cells → Option (Aside Beside) → List ChangeState → Result Piece KernelRefusal → Type 0
IsWholePiece s op was aside operands (Ok (Tile tile)) = ⊥
IsWholePiece s op was aside operands (Ok (Whole m)) = IsWholeRepaired s op was aside operands m
IsWholePiece s op was aside operands (Err (Overflow at)) = position is_wide (made s op (cells_after operands)) ≡ Some at
IsWholePiece s op was aside operands (Err NoMemory) = Unit {0}
