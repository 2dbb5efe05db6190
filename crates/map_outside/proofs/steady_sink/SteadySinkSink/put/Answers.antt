use Rattle.std.proofs.Common.{◌≤◌, ◌++◌, ◌∙◌, ◌+◌, ◌-◌, ℕ, List, ap, subst, sym, arith, length-take-le, length, take, drop}
use Rattle.map_outside.specs.Contents.{Grows}
use Rattle.map_outside.specs.Steady.{RoomState, put_in_room, held_in_room}
use Rattle.map_outside.proofs.Rooms.{room_put, room_grows}
use Rattle.map_outside.proofs.steady_sink.SteadySinkSink.put.Goals as goal

pub returns-clause-exact : goal.returns-clause-exact
returns-clause-exact c =
    let s = c.self.inside in
    let count : ℕ = c.min-count.result in
    let piece : List ℕ = c.copy_from_slice.new.self in
    room_put s.room.items c.args.bytes.now s.len count s.room.len (sym s.room.ok.0) c.self.invariant (rw c.len.ensures at c.min-count.ensures) piece _ s.is_past
    c.copy_from_slice.ensures.after (ap (λ (l : List ℕ). take s.len l ++ (piece ++ drop (s.len + count - s.len) (drop s.len l))) c.deref_mut.ensures.value)
    ∙ ap (λ (v : RoomState). put_in_room v c.args.bytes.now) c.self.view_is

pub returns-clause-bytes : goal.returns-clause-bytes
returns-clause-bytes c =
    let s = c.self.inside in
    let within : length (take s.len s.room.items) ≤ s.room.len = omega (arith, length-take-le s.len s.room.items (omega (arith, s.room.ok.0, c.self.invariant)), c.self.invariant) in
    subst (λ (v : RoomState). Grows (held_in_room c.args.self.now) (held_in_room v) c.args.bytes.now) (sym (returns-clause-exact c))
    (room_grows c.args.self.now c.args.bytes.now (subst (λ (v : RoomState). length v.bytes ≤ v.room) c.self.view_is within))
