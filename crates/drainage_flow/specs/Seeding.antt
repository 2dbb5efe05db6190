-- Each place is renewed once: it takes its new weight and drains where it does after the edit.
use Rattle.std.specs.Prelude.{◌≡◌, ◌⊎◌, ℕ, ◌<◌, ◌==◌, ℤ, ◌+ℤ◌, ◌-ℤ◌, Bool, true, false, List, slice_index_or, Option, Some, if◌then◌else◌}
use Rattle.std.specs.List.{Contains}
use Rattle.map_nums.specs.Grids.{Size, Cells, moved}
use Rattle.layer_tiles.specs.Changes.{ChangeState, cells_before}
use Rattle.drainage_flow.specs.Nets.{Net, part, is_to, gathered}
use Rattle.drainage_flow.specs.Queues.{pending}
use Rattle.drainage_flow.specs.FlowNets.{net_of}
use Rattle.drainage_flow.specs.Mending.{AreKeyed}
use Rattle.drainage_flow.specs.Settling.{number_at}
use Rattle.drainage_flow.specs.Steepest.{offset_at}
use Rattle.drainage_flow.specs.declared.queue.Entry.{Entry}

abbrev pub is_marked : List Bool → ℕ → Bool
is_marked marks c = slice_index_or marks c false

-- after the edit where a place is marked, before it elsewhere
abbrev pub mixed : Net → Net → List Bool → Net
mixed before after marks = record {
  size = before.size;
  weight = λ c. if is_marked marks c then after.weight c else before.weight c;
  down = λ c. if is_marked marks c then after.down c else before.down c;
}

-- the old flow and what is on its way agree with the mixed net
pub record IsSeeded (before after : Net) (height old : ℕ → ℤ) (entries : List Entry) (marks : List Bool) : Type 0 where
  pub keyed : AreKeyed before.size height entries
  pub tied : (c : ℕ) → c < before.size → old c +ℤ pending entries c ≡ gathered (mixed before after marks) old c

-- amounts were added: `more c` for each place c
pub record AreAdded (size : ℕ) (height more : ℕ → ℤ) (old new : List Entry) : Type 0 where
  pub adds : (c : ℕ) → pending new c ≡ pending old c +ℤ more c
  pub from : (y : Entry) → Contains new y → Contains old y ⊎ ((y.height ≡ height y.place) × (y.place < size))

-- the flow of a place goes another way
abbrev pub rerouted : Option ℕ → Option ℕ → ℤ → ℕ → ℤ
rerouted from to flow c = part (is_to to c) flow -ℤ part (is_to from c) flow

-- and its weight is another
abbrev pub renewed : Net → Net → (ℕ → ℤ) → ℕ → ℕ → ℤ
renewed before after old at c = part (at == c) (after.weight at -ℤ before.weight at) +ℤ rerouted (before.down at) (after.down at) (old at) c

-- ---- over changes

abbrev pub net_before : ChangeState → ChangeState → Net
net_before surface weights = net_of surface.size (cells_before surface) (cells_before weights)

abbrev pub net_after : ChangeState → ChangeState → Net
net_after surface weights = net_of surface.size surface.cells weights.cells

abbrev pub IsSeededOf : ChangeState → ChangeState → Cells → List Entry → List Bool → Type 0
IsSeededOf surface weights old entries marks = IsSeeded (net_before surface weights) (net_after surface weights) (number_at surface.cells) (number_at old) entries marks

-- a place and its neighbours are marked
abbrev pub MarkedAround : Size → List Bool → ℕ → Type 0
MarkedAround s marks at = (is_marked marks at ≡ true) × ((k j : ℕ) → k < 8 → moved s at (offset_at k) ≡ Some j → is_marked marks j ≡ true)

-- what was marked is marked still
abbrev pub StaysMarked : List Bool → List Bool → Type 0
StaysMarked old new = (c : ℕ) → is_marked old c ≡ true → is_marked new c ≡ true
