-- The forms in memory, and what their calls do.
use Rattle.std.specs.Prelude.{ℕ, ◌≡◌, ◌≤◌, ◌<◌, true, false, List, [], ◌∷◌, ◌++◌, drop, length, min, nat_lt, if◌then◌else◌, Option, Some, None, Result, Ok, Err, Vec, String, string_bytes}
use Rattle.std.specs.Str.{bytes_eq}
use Rattle.std.specs.declared.alloc.Global.{Global}
use Rattle.map_outside.specs.Calls.{CallState, is_next_listed, called, failed}
use Rattle.map_outside.specs.Contents.{Files}
use Rattle.map_outside.specs.declared.sources.Failed.{Failed}
use Rattle.map_outside.specs.declared.shelves.FetchFault.{FetchFault}
use Rattle.map_outside.specs.declared.shelves.FetchFault.TheVariants.{Failed as FetchFailed, Long, NoMemory as FetchNoMemory}
use Rattle.map_outside.specs.declared.sinks.PutFault.{PutFault}
use Rattle.map_outside.specs.declared.sinks.PutFault.TheVariants.{Failed as PutFailed, NoMemory as PutNoMemory}

-- pairs of a name and the bytes under it
pub record ShelfState : Type 0 where
  pub files : List (List ℕ × List ℕ)
  pub calls : CallState

abbrev pub named_bytes : List (String Global × Vec ℕ Global) → List (List ℕ × List ℕ)
named_bytes [] = []
named_bytes (file ∷ files) = (string_bytes file.0, file.1.items) ∷ named_bytes files

-- the bytes of the first file of that name
abbrev pub file_named : List (List ℕ × List ℕ) → Files
file_named [] name = None
file_named (file ∷ files) name = if bytes_eq file.0 name then Some file.1 else file_named files name

-- why a fetch can't give the file's bytes, where it can't
abbrev pub fault_of_file : Option (List ℕ) → ℕ → Option FetchFault
fault_of_file None limit = Some FetchFailed
fault_of_file (Some bytes) limit = if nat_lt limit (length bytes) then Some Long else None

abbrev pub fetch_fault : ShelfState → List ℕ → ℕ → Option FetchFault
fetch_fault s name limit = if is_next_listed s.calls then Some FetchFailed else fault_of_file (file_named s.files name) limit

abbrev pub MemoryFetches : ShelfState → List ℕ → ℕ → Result (Vec ℕ Global) FetchFault → ShelfState → Type 0
MemoryFetches old name limit (Ok v) new = (fetch_fault old name limit ≡ None) × (new ≡ record old { calls = called old.calls })
MemoryFetches old name limit (Err FetchFailed) new = (fetch_fault old name limit ≡ Some FetchFailed) × (new ≡ record old { calls = failed old.calls })
MemoryFetches old name limit (Err Long) new = (fetch_fault old name limit ≡ Some Long) × (new ≡ record old { calls = called old.calls })
MemoryFetches old name limit (Err FetchNoMemory) new = (fetch_fault old name limit ≡ None) × (new ≡ record old { calls = called old.calls })

-- a copy of the bytes, where they are at most the limit, or why there is none
abbrev pub CopiesWithin : List ℕ → ℕ → Result (Vec ℕ Global) FetchFault → Type 0
CopiesWithin bytes limit (Ok v) = (v.items ≡ bytes) × (length bytes ≤ limit)
CopiesWithin bytes limit (Err Long) = limit < length bytes
CopiesWithin bytes limit (Err FetchNoMemory) = length bytes ≤ limit
CopiesWithin bytes limit (Err FetchFailed) = ⊥

-- the bytes that are left, of which a call gives at most a step
pub record SourceState : Type 0 where
  pub left : List ℕ
  pub step : ℕ
  pub calls : CallState

-- a take into a slice with this room
abbrev pub MemoryTakes : SourceState → ℕ → Result ℕ Failed → SourceState → Type 0
MemoryTakes old room (Ok count) new = (is_next_listed old.calls ≡ false) × (count ≡ min (min room old.step) (length old.left))
    × (new ≡ record old { left = drop count old.left; calls = called old.calls })
MemoryTakes old room (Err e) new = (is_next_listed old.calls ≡ true) × (new ≡ record old { calls = failed old.calls })

-- the bytes that were put
pub record SinkState : Type 0 where
  pub bytes : List ℕ
  pub calls : CallState

abbrev pub MemoryPuts : {T : Type 0} → SinkState → List ℕ → Result T PutFault → SinkState → Type 0
MemoryPuts old bytes (Ok x) new = (is_next_listed old.calls ≡ false) × (new ≡ record { bytes = old.bytes ++ bytes; calls = called old.calls })
MemoryPuts old bytes (Err PutFailed) new = (is_next_listed old.calls ≡ true) × (new ≡ record old { calls = failed old.calls })
MemoryPuts old bytes (Err PutNoMemory) new = (is_next_listed old.calls ≡ false) × (new ≡ record old { calls = called old.calls })
