-- An answer under way, over any list of calls for it and of bytes that the client takes. What a call does is in the words
-- of its method's contract: a status and a field are those of the head, a length, a close, an abort, a write and a flush
-- those of the body, and a reset and an error are both's.
use Rattle.std.specs.Prelude.{ℕ, nat_lt, if◌then◌else◌, Bool, false, List, [], ◌∷◌, ◌++◌, length, Option, None, Some}
use Rattle.cy_event.specs.Answers.{Answer, fresh_answer}
use Rattle.cy_event.specs.AnswerModes.{Asked}
use Rattle.cy_event.specs.Answering.{Sending, aborted, after_length, beginning, closing, emptied, error_content, error_head, with_error}
use Rattle.cy_event.specs.Heads.{Field}
use Rattle.cy_respond.specs.Fields.{after_field, after_status, is_status}
use Rattle.cy_out.specs.Exchanges.{Act, Exchange, after_act, is_out, marks_by, moment_of}
use Rattle.cy_event.specs.Pieces.{PutOrFlush, content_put, put}

-- What changes an answer whose head isn't out: `set_status` and `add_header` of a `RespHead`, `set_length` and `error` of
-- a `BodyOut`, and `reset` of both. Once the head is out, who calls has to refuse it: a `RespHead` doesn't know that it
-- is out, and a `BodyOut` asks that it isn't.
pub data Change : Type 0 where
  sets_status : ℕ → Change
  adds_header : Field → Change
  sets_length : ℕ → Change
  resets : Change
  puts_error : ℕ → Change

-- all calls before the end; acts are the writes and flushes, and what the client takes
pub data Call : Type 0 where
  changes : Change → Call
  sets_close : Call
  -- A `BodyOut` asks that the head is out. Where it isn't, nothing changes.
  aborts : Call
  does : Act → Call

-- an answer under way, its exchange, and what was called for it
pub record UnderWay : Type 0 where
  -- its status and its fields
  pub head : Answer
  pub exchange : Exchange
  -- the length that was set, and what was put and flushed, since the last reset or error and before an abort
  pub set_length : Option ℕ
  pub marks : List PutOrFlush
  -- the moment of the act that put the head
  pub moment : Option ℕ
  pub is_given_up : Bool

-- as a request begins, where the client got these bytes, and those wait for it
abbrev pub begun : Asked → List ℕ → List ℕ → UnderWay
begun asked received output = record {
  head = fresh_answer;
  exchange = record { received = received; answering = record { sending = beginning asked; output = output } };
  set_length = None;
  marks = [];
  moment = None;
  is_given_up = false;
}

-- ---- calls

abbrev pub sending : UnderWay → Sending
sending u = u.exchange.answering.sending

abbrev pub with_sending : Sending → UnderWay → UnderWay
with_sending s u = record u { exchange = record u.exchange { answering = record u.exchange.answering { sending = s } } }

-- No length is set below what was put. A `BodyOut` asks that the status of an error is one that an answer may have; else
-- nothing is changed.
abbrev pub changed : Change → UnderWay → UnderWay
changed (sets_status status) u = record u { head = after_status status u.head }
changed (adds_header field) u = record u { head = after_field field u.head }
changed (sets_length n) u = record (with_sending (after_length n (sending u)) u) {
  set_length = if nat_lt n (length (content_put u.marks)) then u.set_length else Some n;
}
changed resets u = record (with_sending (emptied (sending u)) u) { head = fresh_answer; set_length = None; marks = [] }
changed (puts_error status) u =
    if is_status status then record (with_sending (with_error status (sending u)) u) {
      head = error_head status;
      set_length = None;
      marks = put (error_content status) ∷ [];
    } else u

-- What is put in an answer that is given up is lost.
abbrev pub acted : Act → UnderWay → UnderWay
acted act u =
    let next = after_act u.head act u.exchange in record u {
      exchange = next;
      marks = if u.is_given_up then u.marks else u.marks ++ marks_by u.head act u.exchange;
      moment = if is_out u.exchange then u.moment else (if is_out next then moment_of act else None);
    }

abbrev pub after_call : Call → UnderWay → UnderWay
after_call (changes change) u = if is_out u.exchange then u else changed change u
after_call sets_close u = with_sending (closing (sending u)) u
after_call aborts u = record (with_sending (aborted (sending u)) u) { is_given_up = is_out u.exchange }
after_call (does act) u = acted act u

abbrev pub after_calls : List Call → UnderWay → UnderWay
after_calls [] u = u
after_calls (call ∷ calls) u = after_calls calls (after_call call u)
