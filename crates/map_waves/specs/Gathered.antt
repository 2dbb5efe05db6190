-- A repaired layer.
use Rattle.std.specs.Prelude.{◌≡◌, ◌^◌, ◌<◌, List, [], length, Option, unwrap_or}
use Rattle.map_nums.specs.Grids.{Size, Cells}
use Rattle.map_defs.specs.Ops.{Op}
use Rattle.map_defs.specs.Damage.{changed_tiles}
use Rattle.layer_tiles.specs.Changes.{ChangeState}
use Rattle.layer_tiles.specs.Operands.{cells_after}
use Rattle.layer_tiles.specs.Patches.{patched, numbers_of}
use Rattle.map_waves.specs.Statements.{made, damage_by, work_by}
use Rattle.map_waves.specs.Keeping.{CanPut, IsPut}
use Rattle.map_waves.specs.declared.keeping.Aside.{Aside}
use Rattle.map_waves.specs.declared.keeping.Made.{Made}

-- exactly the tiles that differ from `was`, all of them where there was no layer; what comes of what stands `aside` is right; and the numbers of the reply
pub record IsRepaired {B : Type 0} (suits : Size → Op → List Cells → Aside B → Type 0) (s : Size) (op : Op) (operands : List ChangeState) (was : Option Cells) (aside : Option (Aside B)) (m : Made B) : Type 0 where
  pub size : m.patch.size ≡ s
  pub cells : patched s (unwrap_or was []) m.patch.tiles ≡ made s op (cells_after operands)
  pub exact : numbers_of m.patch.tiles ≡ changed_tiles s was (made s op (cells_after operands))
  pub can_put : CanPut aside m.beside
  pub beside : (b : Aside B) → IsPut aside m.beside b → suits s op (cells_after operands) b
  pub evaluated : m.evaluated ≡ length (damage_by s op was operands)
  pub worked : m.worked ≡ work_by s op was operands
  pub little : m.worked < 2 ^ 32
