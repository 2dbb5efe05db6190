-- Layers that were not there, of parts.
use Rattle.std.specs.Prelude.{◌≡◌, ℕ, suc, ◌-◌, ◌*◌, ◌<◌, ◌≤◌, List, length, Option, Some, None, IsTrue, slice_get, if◌then◌else◌, ⊤}
use Rattle.map_nums.specs.Grids.{Size, Cells, cells_in}
use Rattle.map_nums.specs.Numbers.{greatest_value}
use Rattle.map_nums.specs.Tiles.{tiles_in}
use Rattle.map_defs.specs.Ops.{Op}
use Rattle.map_defs.specs.Operate.{operand}
use Rattle.layer_tiles.specs.Changes.{ChangeState}
use Rattle.layer_tiles.specs.Operands.{cells_after}
use Rattle.friction_spread.specs.Costs.{GroundState}
use Rattle.friction_spread.specs.Bands.{ground_of, IsCostBand}
use Rattle.friction_neighbor.specs.Bands.{IsNearestBand}
use Rattle.drainage_flow.specs.FlowBands.{IsFlowBand}
use Rattle.zonal_totals.specs.Ranges.{AreTileCounts}
use Rattle.region_labels.specs.Provisional.{IsLabelBand}
use Rattle.op_jobs.specs.Classes.{is_zonal}
use Rattle.op_jobs.specs.Operands.{AreBoth}
use Rattle.op_jobs.specs.Parts.{part_start}
use Rattle.op_jobs.specs.Repairs.{IsRepairOf}
use Rattle.op_jobs.specs.declared.ground.FlowCells.{FlowCells}
use Rattle.op_jobs.specs.declared.ground.PathCells.{PathCells}
use Rattle.op_jobs.specs.declared.ground.Ground.{Ground}
use Rattle.op_jobs.specs.declared.ground.Ground.TheVariants as a_ground
use Rattle.op_jobs.specs.declared.ground.Part.{Part}
use Rattle.op_jobs.specs.declared.ground.Part.TheVariants.{Costs, Nearest, Flows, Labels, Counts}
use Rattle.op_jobs.specs.declared.own.Lone.TheVariants.{Flow, Spread, Regions}
use Rattle.op_jobs.specs.declared.own.Repair.TheVariants.{Alone}
use Rattle.op_jobs.specs.declared.own.Repair.TheVariants as a_repair

-- ---- what parts are found from

-- cells of a whole map, and a limit that a cost may have
pub record FillPaths (s : Size) (g : PathCells) : Type 0 where
  pub low : g.limit ≤ greatest_value
  pub sources : length g.sources.items ≡ cells_in s
  pub friction : length g.friction.items ≡ cells_in s

-- the ground of least costs that they are
abbrev pub path_ground : Size → PathCells → GroundState
path_ground s g = ground_of s g.sources.items g.friction.items g.limit

pub record FillFlow (s : Size) (g : FlowCells) : Type 0 where
  pub surface : length g.surface.items ≡ cells_in s
  pub weights : length g.weights.items ≡ cells_in s

-- all cells of both operands, and the limit
pub record ArePathCells (s : Size) (operands : List ChangeState) (limit : ℕ) (g : PathCells) : Type 0 where
  pub fill : FillPaths s g
  pub limit_is : g.limit ≡ limit
  pub sources_are : g.sources.items ≡ operand (cells_after operands) 0
  pub friction_are : g.friction.items ≡ operand (cells_after operands) 1

-- all cells of both operands
pub record AreFlowCells (s : Size) (operands : List ChangeState) (g : FlowCells) : Type 0 where
  pub fill : FillFlow s g
  pub surface_is : g.surface.items ≡ operand (cells_after operands) 0
  pub weights_are : g.weights.items ≡ operand (cells_after operands) 1

-- all cells of the one operand
pub record AreOnlyCells (s : Size) (operands : List ChangeState) (cells : Cells) : Type 0 where
  pub cells_are : cells ≡ operand (cells_after operands) 0
  pub count : length cells ≡ cells_in s

abbrev pub IsGround : Size → List ChangeState → Ground → Type 0
IsGround s operands (a_ground.Costs g) = ArePathCells s operands g.limit g
IsGround s operands (a_ground.Nearest g) = ArePathCells s operands g.limit g
IsGround s operands (a_ground.Flow g) = AreFlowCells s operands g
IsGround s operands (a_ground.Regions cells) = AreOnlyCells s operands cells.items
IsGround s operands a_ground.Zones = AreBoth s operands

-- what a book is counted from
abbrev pub AreZones : Ground → Type 0
AreZones a_ground.Zones = Unit {0}
AreZones ground = ⊥

-- it is one of this operation
abbrev pub IsGroundOf : Op → Ground → Type 0
IsGroundOf op (a_ground.Costs g) = IsRepairOf op (Alone (Spread g.limit))
IsGroundOf op (a_ground.Nearest g) = IsRepairOf op (a_repair.Nearest g.limit)
IsGroundOf op (a_ground.Flow g) = IsRepairOf op (Alone Flow)
IsGroundOf op (a_ground.Regions cells) = IsRepairOf op (Alone Regions)
IsGroundOf op a_ground.Zones = IsTrue (is_zonal op)

-- so many parts can be found from it
pub record IsGrounded (s : Size) (op : Op) (operands : List ChangeState) (n : ℕ) (ground : Ground) : Type 0 where
  pub some : 0 < n
  pub few : n ≤ s.rows
  pub of : IsGroundOf op ground
  pub is : IsGround s operands ground

-- ---- looks

-- those that laying the cells takes: each tile of both, of zones none
abbrev pub laying : Size → Op → ℕ
laying s op = if is_zonal op then 0 else 2 * tiles_in s

-- each tile of both is looked at, where no layer is kept
abbrev pub grounding : Size → Op → Option Cells → List ChangeState → ℕ
grounding s op None operands = 2 * tiles_in s
grounding s op (Some was) operands = 0

-- by part k of n, of its tiles; a band is found from the lists
abbrev pub finding : Size → Op → List ChangeState → ℕ → ℕ → ℕ
finding s op operands n k = if is_zonal op then 2 * (part_start (tiles_in s) n (suc k) - part_start (tiles_in s) n k) else 0

-- ---- what is found of part k of n

abbrev pub IsCosts : GroundState → ℕ → ℕ → Part → Type 0
IsCosts g n k (Costs band) = IsCostBand g (part_start g.size.rows n k) (part_start g.size.rows n (suc k)) band
IsCosts g n k part = ⊥

abbrev pub IsNearest : GroundState → ℕ → ℕ → Part → Type 0
IsNearest g n k (Nearest band) = IsNearestBand g (part_start g.size.rows n k) (part_start g.size.rows n (suc k)) band
IsNearest g n k part = ⊥

abbrev pub IsFlows : Size → Cells → Cells → ℕ → ℕ → Part → Type 0
IsFlows s surface weights n k (Flows band) = IsFlowBand s surface weights (part_start s.rows n k * s.columns) ((part_start s.rows n (suc k) - part_start s.rows n k) * s.columns) band
IsFlows s surface weights n k part = ⊥

abbrev pub IsLabels : Size → Cells → ℕ → ℕ → Part → Type 0
IsLabels s cells n k (Labels band) = IsLabelBand s cells (part_start s.rows n k) (part_start s.rows n (suc k)) band
IsLabels s cells n k part = ⊥

abbrev pub IsCounts : Size → Cells → Cells → ℕ → ℕ → Part → Type 0
IsCounts s values zones n k (Counts counts) = AreTileCounts s values zones (part_start (tiles_in s) n k) (part_start (tiles_in s) n (suc k)) counts
IsCounts s values zones n k part = ⊥

-- all parts of a zonal statement's tiles
pub record AreAllCounts (s : Size) (values zones : Cells) (parts : List Part) : Type 0 where
  pub some : 0 < length parts
  pub each : (k : ℕ) (p : Part) → slice_get parts k ≡ Some p → IsCounts s values zones (length parts) k p

-- of what is laid out for a repair
abbrev pub IsGroundPart : Size → Ground → ℕ → ℕ → Part → Type 0
IsGroundPart s (a_ground.Costs g) n k part = IsCosts (path_ground s g) n k part
IsGroundPart s (a_ground.Nearest g) n k part = IsNearest (path_ground s g) n k part
IsGroundPart s (a_ground.Flow g) n k part = IsFlows s g.surface.items g.weights.items n k part
IsGroundPart s (a_ground.Regions cells) n k part = IsLabels s cells.items n k part
IsGroundPart s a_ground.Zones n k part = ⊤

abbrev pub IsPart : Size → Op → List ChangeState → Ground → ℕ → ℕ → Part → Type 0
IsPart s op operands a_ground.Zones n k part = IsCounts s (operand (cells_after operands) 0) (operand (cells_after operands) 1) n k part
IsPart s op operands ground n k part = IsGroundPart s ground n k part

-- all parts, in order, and what they were found from
pub record AreGrounded (s : Size) (operands : List ChangeState) (ground : Ground) (parts : List Part) : Type 0 where
  pub from : IsGround s operands ground
  pub some : 0 < length parts
  pub each : (k : ℕ) (p : Part) → slice_get parts k ≡ Some p → IsGroundPart s ground (length parts) k p
