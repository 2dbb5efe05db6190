-- What is put in place of a statement.
use Rattle.std.specs.Prelude.{◌≡◌, ℕ, List, Option, Some, None, slice_get, slice_index_or}
use Rattle.map_nums.specs.Grids.{Size, Cells}
use Rattle.map_defs.specs.Ops.{Op}
use Rattle.layer_tiles.specs.Changes.{ChangeState}
use Rattle.layer_tiles.specs.Layers.{LayerState, IsStamped, layer_of}
use Rattle.map_waves.specs.Statements.{made, fault_in}
use Rattle.map_waves.specs.Prepared.{shown, IsReady, IsBesideAfter}
use Rattle.map_waves.specs.declared.keeping.Aside.{Aside}
use Rattle.map_waves.specs.declared.keeping.Kept.{Kept}
use Rattle.map_waves.specs.declared.keeping.Made.{Made}
use Rattle.map_waves.specs.declared.plans.Step.{Step}

-- what is kept is right for operands with these cells
pub record IsRightFor {B : Type 0} (suits : Size → Op → List Cells → Aside B → Type 0) (s : Size) (op : Op) (operands : List Cells) (k : Kept B) : Type 0 where
  pub size : k.layer.size ≡ s
  pub right : k.layer.cells ≡ made s op operands
  pub faultless : fault_in s op operands ≡ None
  pub beside : suits s op operands k.beside

module _ {B : Type 0} where
  -- the layer has the change's cells; each tile that changed has the stamp, and each other one its old stamp
  abbrev pub IsPlacedLayer : Option (Kept B) → ChangeState → ℕ → LayerState → Type 0
  IsPlacedLayer None change stamp new = new ≡ layer_of change.size change.cells stamp
  IsPlacedLayer (Some old) change stamp new = (new.size ≡ old.layer.size) × (new.cells ≡ change.cells) × IsStamped old.layer.size old.layer.cells new.cells stamp old.layer.stamps new.stamps

  -- what was kept, with what was made of it in place
  pub record IsPlaced (s : Size) (own : Option (Kept B)) (r : Option (Made B)) (stamp : ℕ) (new : Kept B) : Type 0 where
    pub layer : IsPlacedLayer own (shown s own r) stamp new.layer
    pub beside : IsBesideAfter own r new.beside

  -- what is kept in a slot
  abbrev pub slot_of : List (Option (Kept B)) → Option ℕ → Option (Kept B)
  slot_of slots None = None
  slot_of slots (Some i) = slice_index_or slots i None

-- no two statements have one slot
abbrev pub HaveOwnSlots : {O : Type 0} → List (Step O) → Type 0
HaveOwnSlots {O} steps = (j k i : ℕ) (x y : Step O) → slice_get steps j ≡ Some x → slice_get steps k ≡ Some y → x.kept ≡ Some i → y.kept ≡ Some i → j ≡ k

module _ {O B : Type 0} where
  -- what was made of each statement can be put in its slot
  abbrev pub AreReady : Size → List (Option (Kept B)) → List (Step O) → List (Option (Made B)) → Type 0
  AreReady s slots steps rs = (k : ℕ) (x : Step O) (r : Option (Made B)) → slice_get steps k ≡ Some x → slice_get rs k ≡ Some r → IsReady s (slot_of slots x.kept) r

  -- the first statements are in place
  abbrev pub ArePlaced : Size → ℕ → List (Option (Kept B)) → List (Step O) → List (Option (Made B)) → List (Kept B) → Type 0
  ArePlaced s stamp slots steps rs new = (k : ℕ) (now : Kept B) (x : Step O) (r : Option (Made B)) → slice_get new k ≡ Some now → slice_get steps k ≡ Some x → slice_get rs k ≡ Some r
      → IsPlaced s (slot_of slots x.kept) r stamp now
