-- Bytes that are put into a room.
use Rattle.std.proofs.Common.{◌≡◌, ◌≤◌, ◌+◌, ◌-◌, ℕ, min, Bool, true, false, ◌||◌, nat_lt, ltb-false, List, ◌++◌, length, take, drop, refl, sym, ap, ap₂, ◌∙◌, arith, take_all, take_at, length-append, length-drop, length-take-le}
use Rattle.std.proofs.lemmas.Grind.{common_steps}
use Rattle.std.proofs.Math.Seq.{take-append-add}
use Rattle.std.proofs.lemmas.List.{take_min}
use Rattle.map_outside.specs.Contents.{Grows}
use Rattle.map_outside.specs.Steady.{RoomState, put_in_room, held_in_room}

-- so many bytes of a room were put
abbrev pub filled : List ℕ → ℕ → ℕ → Bool → RoomState
filled all at size is_past = record { bytes = take at all; room = size; is_past = is_past }

module _ (all bytes : List ℕ) (at count size : ℕ) (whole : length all ≡ size) (within : at ≤ size) (is : count ≡ min (length bytes) (size - at)) where
  -- a front of the bytes stands behind those that were there
  pub bytes_put : (piece rest : List ℕ) → piece ≡ take count bytes → take (at + count) (take at all ++ (piece ++ rest)) ≡ take size (take at all ++ bytes)
  bytes_put piece rest moved =
      let front : List ℕ = take at all in
      let len : length front ≡ at = length-take-le at all (omega arith) in
      let few : length piece ≡ count = ap length moved ∙ length-take-le count bytes (omega arith) in
      let most : count ≡ min (size - at) (length bytes) = omega arith in
      let full : at + (size - at) ≡ size = omega arith in
      let put : take (at + count) (front ++ (piece ++ rest)) ≡ front ++ take count (piece ++ rest) = rw len at (take-append-add front (piece ++ rest) count) in
      let room : take (at + (size - at)) (front ++ bytes) ≡ front ++ take (size - at) bytes = rw len at (take-append-add front bytes (size - at)) in
      put ∙ ap (λ l. front ++ l) (take_at piece rest count few ∙ moved ∙ ap (λ n. take n bytes) most ∙ take_min (size - at) bytes) ∙ sym room ∙ ap (λ n. take n (front ++ bytes)) full

  -- some are past the room where not all of them stand there
  pub past_put : nat_lt count (length bytes) ≡ nat_lt size (length (take at all ++ bytes))
  past_put = grind (arith, common_steps, length-append (take at all) bytes, length-take-le at all)

  -- a front of the bytes was written over those of the room
  pub room_put : (piece after : List ℕ) (is_past : Bool) → piece ≡ take count bytes → after ≡ take at all ++ (piece ++ drop (at + count - at) (drop at all))
      → filled (take size (after ++ drop (length after) all)) (at + count) size (is_past || nat_lt count (length bytes)) ≡ put_in_room (filled all at size is_past) bytes
  room_put piece after is_past moved after_is =
      let few : length piece ≡ count = ap length moved ∙ length-take-le count bytes (omega arith) in
      let rest : List ℕ = drop (at + count - at) (drop at all) in
      let len : length after ≡ size = ap length after_is ∙ omega (arith, length-append (take at all) (piece ++ rest), length-append piece rest, length-take-le at all, length-drop (at + count - at) (drop at all), length-drop at all) in
      let kept : take size (after ++ drop (length after) all) ≡ take at all ++ (piece ++ rest) = take_at after (drop (length after) all) size len ∙ after_is in
      ap₂ (λ (b : List ℕ) (p : Bool). record { bytes = b; room = size; is_past = is_past || p }) (ap (take (at + count)) kept ∙ bytes_put piece rest moved) past_put

-- what is held grows by the bytes, or ceases to be told
pub room_grows : (s : RoomState) (bytes : List ℕ) → length s.bytes ≤ s.room → Grows (held_in_room s) (held_in_room (put_in_room s bytes)) bytes
room_grows s bytes within = grows_by s.is_past (nat_lt s.room (length (s.bytes ++ bytes))) refl
  where
    grows_by : (p q : Bool) → q ≡ nat_lt s.room (length (s.bytes ++ bytes))
        → Grows (held_in_room (record s { is_past = p })) (held_in_room (record s { bytes = take s.room (s.bytes ++ bytes); is_past = p || q })) bytes
    grows_by true q e = tt
    grows_by false true e = tt
    grows_by false false e = take_all s.room (s.bytes ++ bytes) (ltb-false s.room (length (s.bytes ++ bytes)) (sym e))
