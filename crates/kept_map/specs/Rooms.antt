-- Room for what is kept of statements, and for names and sources.
use Rattle.std.specs.Prelude.{◌≡◌, ℕ, ◌≤◌, ◌<◌, [], length, vec_capacity}
use Rattle.indexmap.specs.IndexMap.{spare}
use Rattle.indexmap.specs.IndexSet.{spare as spare_of_set}
use Rattle.kept_map.specs.declared.maps.Sources.{Sources}
use Rattle.kept_map.specs.declared.maps.KeptMap.{KeptMap}
use Rattle.kept_map.specs.declared.room.Room.{Room}

-- there is room for what was kept, and for what will be
pub record HasRoom (old new : ℕ) (room : Room) : Type 0 where
  pub slots : old ≤ vec_capacity room.slots
  pub next : new ≤ vec_capacity room.next
  pub no_slots : room.slots.items ≡ []
  pub none_next : room.next.items ≡ []

-- there is room for one source more
pub record HasSourceRoom (sources : Sources) : Type 0 where
  pub names : 0 < spare_of_set sources.names
  pub layers : length sources.layers.items < vec_capacity sources.layers

-- and for one name
pub record HasNextRoom (m : KeptMap) : Type 0 where
  pub names : 0 < spare m.names
  pub sources : HasSourceRoom m.sources
