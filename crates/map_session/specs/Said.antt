-- What a reply says.
use Rattle.std.specs.Prelude.{◌≡◌, ℕ, List, Result, Ok, Err}
use Rattle.map_nums.specs.declared.NoMemory.{NoMemory}
use Rattle.map_machine.specs.declared.Kind.{Kind}
use Rattle.map_machine.specs.States.{MapState}
use Rattle.map_machine.specs.Steps.{Stepped}
use Rattle.map_session.specs.declared.replies.Reply.{Reply}

-- these bytes, as a reply of this kind
abbrev pub Says : List ℕ → Kind → Reply → Type 0
Says text kind reply = (reply.bytes.items ≡ text) × (reply.kind ≡ kind)

-- the state and the reply are what a step makes them; after want of memory all is as before
abbrev pub Does : MapState → MapState → Stepped → Result Reply NoMemory → Type 0
Does old new stepped (Ok reply) = (new ≡ stepped.state) × (reply.bytes.items ≡ stepped.reply) × (reply.kind ≡ stepped.kind)
Does old new stepped (Err e) = new ≡ old
