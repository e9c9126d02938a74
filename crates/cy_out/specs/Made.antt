-- What a call does with the values of which an answer is made: the head of a `RespHead`, what a `BodyOut` sends, the bytes
-- in the out ring, and those that the client got.
use Rattle.std.specs.Prelude.{◌≡◌, ℕ, List}
use Rattle.cy_event.specs.Answers.{Answer}
use Rattle.cy_event.specs.Answering.{Sending}
use Rattle.cy_out.specs.Calls.{Call, UnderWay, after_call}
use Rattle.cy_out.specs.Exchanges.{Exchange}

pub record Held : Type 0 where
  pub head : Answer
  pub exchange : Exchange

-- by these values
abbrev pub held : Answer → Sending → List ℕ → List ℕ → Held
held head s output received = record {
  head = head;
  exchange = record { received = received; answering = record { sending = s; output = output } };
}

-- of an answer under way
abbrev pub held_by : UnderWay → Held
held_by u = record { head = u.head; exchange = u.exchange }

-- Each answer under way that has these values has those once this is called.
abbrev pub Makes : Call → Held → Held → Type 0
Makes call before after = (u : UnderWay) → held_by u ≡ before → held_by (after_call call u) ≡ after
