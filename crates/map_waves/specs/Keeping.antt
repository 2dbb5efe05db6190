-- What is kept of a statement.
use Rattle.std.specs.Prelude.{◌≡◌, List, Option, Some, None, IsSome, option_map}
use Rattle.std.specs.List.{All}
use Rattle.std.specs.Borrow.{Bor}
use Rattle.map_nums.specs.Grids.{Size, Cells}
use Rattle.map_defs.specs.Ops.{Op}
use Rattle.layer_tiles.specs.Changes.{ChangeState}
use Rattle.layer_tiles.specs.Layers.{LayerState}
use Rattle.layer_tiles.specs.Patches.{patched}
use Rattle.map_waves.specs.Statements.{cells_were, made, fault_in}
use Rattle.map_waves.specs.declared.keeping.Aside.{Aside}
use Rattle.map_waves.specs.declared.keeping.Aside.TheVariants.{Layer}
use Rattle.map_waves.specs.declared.keeping.Renewal.{Renewal}
use Rattle.map_waves.specs.declared.keeping.Renewal.TheVariants.{Anew, Patched}
use Rattle.map_waves.specs.declared.keeping.Kept.{Kept}

-- what is kept of it, where something is
abbrev pub kept_now : {B : Type 0} → Option (Bor (Kept B)) → Option (Kept B)
kept_now {B} None = None
kept_now {B} (Some k) = Some k.now

-- what stands beside it
abbrev pub aside_of : {B : Type 0} → Option (Kept B) → Option (Aside B)
aside_of {B} kept = option_map (λ (k : Kept B). k.beside) kept

module _ {B : Type 0} where
  -- what is made can be put in place of what stands beside a layer: a patch only into a layer of its size
  abbrev pub CanPut : Option (Aside B) → Renewal B → Type 0
  CanPut beside (Anew new) = Unit {0}
  CanPut (Some (Layer l)) (Patched patch) = patch.size ≡ l.size
  CanPut beside (Patched patch) = ⊥

  -- what stands there then. No one asks for the stamps of a second layer
  abbrev pub IsPut : Option (Aside B) → Renewal B → Aside B → Type 0
  IsPut beside (Anew new) now = now ≡ new
  IsPut (Some (Layer l)) (Patched patch) now = (n : LayerState) × (now ≡ Layer n) × (n.size ≡ l.size) × (n.cells ≡ patched l.size l.cells patch.tiles)
  IsPut beside (Patched patch) now = ⊥

-- its cells
abbrev pub was_of : {B : Type 0} → Option (Kept B) → Option Cells
was_of {B} kept = option_map (λ (k : Kept B). k.layer.cells) kept

-- the layer is the operation's over the operands before, which were all there, and had no fault; what stands beside it is right for them
pub record IsRightOver {B : Type 0} (suits : Size → Op → List Cells → Aside B → Type 0) (s : Size) (op : Op) (operands : List ChangeState) (k : Kept B) : Type 0 where
  pub size : k.layer.size ≡ s
  pub there : All (λ c. IsSome c.before) operands
  pub right : k.layer.cells ≡ made s op (cells_were operands)
  pub faultless : fault_in s op (cells_were operands) ≡ None
  pub beside : suits s op (cells_were operands) k.beside

-- what is kept is right, where something is
abbrev pub IsRightKept : {B : Type 0} → (Size → Op → List Cells → Aside B → Type 0) → Size → Op → List ChangeState → Option (Kept B) → Type 0
IsRightKept {B} suits s op operands None = Unit {0}
IsRightKept {B} suits s op operands (Some k) = IsRightOver suits s op operands k
