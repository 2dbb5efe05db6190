-- The forms in memory that never fail, and what their calls do.
use Rattle.std.specs.Prelude.{ℕ, ◌≡◌, ◌-◌, Bool, ◌||◌, nat_lt, List, [], ◌++◌, take, drop, length, replicate, min, if◌then◌else◌, Option, Some, None, unwrap_or, Result, Ok, Err}
use Rattle.map_outside.specs.Contents.{Files}
use Rattle.map_outside.specs.Forms.{file_named}
use Rattle.map_outside.specs.declared.sources.Failed.{Failed}
use Rattle.map_outside.specs.declared.sinks.PutFault.{PutFault}

-- the bytes of the first file of a name, and none where it lacks the name
abbrev pub bytes_named : List (List ℕ × List ℕ) → List ℕ → List ℕ
bytes_named files name = unwrap_or (file_named files name) []

-- so each name has a file
abbrev pub steady_files : List (List ℕ × List ℕ) → Files
steady_files files name = Some (bytes_named files name)

-- the bytes that are left, of which a call gives at most a step
pub record StepState : Type 0 where
  pub left : List ℕ
  pub step : ℕ

-- how many bytes a call gives into a slice with this room, and what is left then
abbrev pub step_count : StepState → ℕ → ℕ
step_count s room = min (min room s.step) (length s.left)

abbrev pub stepped : StepState → ℕ → StepState
stepped s room = record s { left = drop (step_count s room) s.left }

abbrev pub SteadyTakes : StepState → ℕ → Result ℕ Failed → StepState → Type 0
SteadyTakes old room (Ok count) new = (count ≡ step_count old room) × (new ≡ stepped old room)
SteadyTakes old room (Err e) new = ⊥

-- so many times one byte
pub record RepeatState : Type 0 where
  pub byte : ℕ
  pub count : ℕ

abbrev pub repeated : RepeatState → List ℕ
repeated s = replicate s.count s.byte

abbrev pub RepeatTakes : RepeatState → ℕ → Result ℕ Failed → RepeatState → Type 0
RepeatTakes old room (Ok count) new = (count ≡ min room old.count) × (new ≡ record old { count = old.count - count })
RepeatTakes old room (Err e) new = ⊥

-- the bytes that were put, up to so many, and whether any was put past them
pub record RoomState : Type 0 where
  pub bytes : List ℕ
  pub room : ℕ
  pub is_past : Bool

abbrev pub put_in_room : RoomState → List ℕ → RoomState
put_in_room s bytes = record s { bytes = take s.room (s.bytes ++ bytes); is_past = s.is_past || nat_lt s.room (length (s.bytes ++ bytes)) }

abbrev pub SteadyPuts : {T : Type 0} → RoomState → List ℕ → Result T PutFault → RoomState → Type 0
SteadyPuts old bytes (Ok x) new = new ≡ put_in_room old bytes
SteadyPuts old bytes (Err e) new = ⊥

-- what is held is told as long as nothing was put past the room
abbrev pub held_in_room : RoomState → Option (List ℕ)
held_in_room s = if s.is_past then None else Some s.bytes
