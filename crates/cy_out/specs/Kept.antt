-- What a `BodyOut` tells of the answer that is being sent, and the room that it keeps.
use Rattle.std.specs.Prelude.{ℕ, ◌+◌, ◌^◌, ◌<◌, ◌≤◌, if◌then◌else◌, length, Option, None, Some, unwrap_or, vec_len, vec_capacity}
use Rattle.cy_event.specs.Answering.{Answering, Sending, is_committed}
use Rattle.cy_event.specs.Answering as answering
use Rattle.cy_rings.specs.Rings.{Rings}
use Rattle.cy_out.specs.Told.{told_asked, told_mode}
use Rattle.cy_out.specs.declared.body_out.Commit.{Commit}
use Rattle.cy_out.specs.declared.body_out.BodyOut.TheInside.{Inside}
use Rattle.cy_out.specs.declared.body_out.TheConstants.{PIECE_SIZE, PIECE_ROOM, LAST_ROOM}
use Rattle.cy_respond.specs.declared.head.TheConstants.{ANSWER_HEAD_ROOM}
use Rattle.cy_rings.specs.declared.kit.TheConstants.{OUT_CAPACITY}

abbrev pub told_commit : Option Commit → Option answering.Commit
told_commit None = None
told_commit (Some c) = Some (record { mode = told_mode c.mode; closes = c.closes })

abbrev pub sending_of : Inside → Sending
sending_of b = record {
  asked = told_asked b.asked;
  left = b.left;
  waiting = b.waiting.items;
  commit = told_commit b.commit;
}

-- the buffer keeps its room, and a length that was set was a number of 64 bits
pub record KeepsBuffer (b : Inside) : Type 0 where
  pub room : PIECE_SIZE ≤ vec_capacity b.waiting
  pub size : vec_len b.waiting ≤ PIECE_SIZE
  pub set_length : unwrap_or b.left 0 + vec_len b.waiting < 2 ^ 64

-- the answer that is being sent, and the out ring
abbrev pub answering_with : Sending → Rings → Answering
answering_with s rings = record { sending = s; output = rings.output }

-- how many bytes a head still takes at most
abbrev pub head_room : Sending → ℕ
head_room s = if is_committed s then 0 else ANSWER_HEAD_ROOM

-- how many bytes the end of an answer takes at most: the head where it isn't out, a piece, and the last chunk
abbrev pub finish_room : Sending → ℕ
finish_room s = head_room s + (PIECE_ROOM + LAST_ROOM)

-- a finish finds room
pub record CanFinish (a : Answering) : Type 0 where
  pub room : length a.output + finish_room a.sending ≤ OUT_CAPACITY
