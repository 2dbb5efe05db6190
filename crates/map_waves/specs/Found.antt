-- Parts of a layer that was not there.
use Rattle.std.specs.Prelude.{◌≡◌, ℕ, List, length, Some, slice_get}
use Rattle.map_nums.specs.Grids.{Size}
use Rattle.map_defs.specs.Ops.{Op}
use Rattle.layer_tiles.specs.Changes.{ChangeState}

-- all parts, in order, and what they were found from
pub record AreFound {G P : Type 0} (grounded : Size → Op → List ChangeState → ℕ → G → Type 0) (part : Size → Op → List ChangeState → G → ℕ → ℕ → P → Type 0) (s : Size) (op : Op) (operands : List ChangeState) (ground : G) (parts : List P) : Type 0 where
  pub from : grounded s op operands (length parts) ground
  pub each : (k : ℕ) (p : P) → slice_get parts k ≡ Some p → part s op operands ground (length parts) k p
