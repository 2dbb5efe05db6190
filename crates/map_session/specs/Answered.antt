-- What a session answers.
use Rattle.std.specs.Prelude.{◌≡◌, ℕ, ⊤, List, Result, Ok, Err}
use Rattle.map_nums.specs.declared.NoMemory.{NoMemory}
use Rattle.map_defs.specs.Ops.{Name}
use Rattle.map_machine.specs.declared.Kind.TheVariants.{Accepted, Refused as RefusedKind}
use Rattle.map_machine.specs.States.{MapState}
use Rattle.map_machine.specs.Loads.{Opened, ready, turned_away, first_load, next_load}
use Rattle.map_machine.specs.Steps.{step_of}
use Rattle.map_session.specs.Said.{Does}
use Rattle.map_session.specs.declared.replies.Reply.{Reply}
use Rattle.map_session.specs.declared.session.Begun.{Begun}
use Rattle.map_session.specs.declared.session.Begun.TheVariants.{Ready, Refused}

-- a session begins as this comes out; want of memory is free
abbrev pub BeginsAs : Opened → Result Begun NoMemory → Type 0
BeginsAs opened (Ok (Ready s reply)) = (opened ≡ ready s reply.bytes.items) × (reply.kind ≡ Accepted)
BeginsAs opened (Ok (Refused reply)) = (opened ≡ turned_away reply.bytes.items) × (reply.kind ≡ RefusedKind)
BeginsAs opened (Err e) = ⊤

-- as the first load of these bytes under this name does
abbrev pub Begins : Name → List ℕ → Result Begun NoMemory → Type 0
Begins name bytes result = BeginsAs (first_load name bytes) result

-- what the reply to a load says of it
abbrev pub Opens : MapState → MapState → Reply → Opened → Type 0
Opens old new reply (ready s bytes) = (new ≡ s) × (reply.bytes.items ≡ bytes) × (reply.kind ≡ Accepted)
Opens old new reply (turned_away bytes) = (new ≡ old) × (reply.bytes.items ≡ bytes) × (reply.kind ≡ RefusedKind)

-- a load answers as this comes out; after want of memory all is as before
abbrev pub LoadsAs : MapState → MapState → Opened → Result Reply NoMemory → Type 0
LoadsAs old new opened (Ok reply) = Opens old new reply opened
LoadsAs old new opened (Err e) = new ≡ old

-- as a later load of these bytes under this name does
abbrev pub Loads : MapState → MapState → Name → List ℕ → Result Reply NoMemory → Type 0
Loads old new name bytes result = LoadsAs old new (next_load old name bytes) result

-- as the line does
abbrev pub Steps : MapState → MapState → List ℕ → Result Reply NoMemory → Type 0
Steps old new line result = Does old new (step_of old line) result
