-- Room for the reply to an accepted edit.
use Rattle.std.specs.Prelude.{◌≡◌, ◌≤◌, [], vec_capacity}
use Rattle.map_session.specs.declared.rooms.ReplyRoom.{ReplyRoom}

-- nothing is put yet, and the longest such reply has room
pub record IsFree (r : ReplyRoom) : Type 0 where
  pub empty : r.bytes.items ≡ []
  pub room : 112 ≤ vec_capacity r.bytes
