-- What is remembered of a connection: a list of marks that only grows, the newest first, each with its moment.
use Rattle.std.specs.Prelude.{ℕ, Bool, List, Option}
use Rattle.cy_event.specs.declared.framing.Framing.{Framing}
use Rattle.cy_event.specs.declared.steps.Call.{Call}
use Rattle.cy_event.specs.declared.steps.CloseCause.{CloseCause}
use Rattle.cy_event.specs.declared.steps.Job.{Job}
use Rattle.cy_event.specs.Heads.{Field, Head}

-- what is settled as a head is taken up
pub record TakenUp : Type 0 where
  -- where it begins in the bytes that came, and how long it is with its empty line
  pub place : ℕ
  pub size : ℕ
  pub head : Head
  -- how its body is framed, and as many bytes of trailers as it may have
  pub framing : Framing
  pub max_trailer : ℕ
  -- how long asynchronous processing may take where the component says nothing, in milliseconds
  pub async_timeout : ℕ
  -- the component that serves it, and whether it may process asynchronously
  pub part : ℕ
  pub can_async : Bool
  -- whether its answer may leave the connection open, and whether `100 Continue` is due
  pub keep : Bool
  pub go_on : Bool

-- what a parked callback waits for
pub data Side : Type 0 where
  input_side : Side
  output_side : Side

pub data Mark : Type 0 where
  -- the connection was admitted; its input has ended; it was broken; a cause to close it was set
  opened ended broken : Mark
  caused : CloseCause → Mark
  -- these bytes came; these were accepted as content of the answer
  came put : List ℕ → Mark
  -- a head was taken up; one was refused with a status, and whether its method was HEAD; the request has ended
  began : TakenUp → Mark
  refused : ℕ → Bool → Mark
  over : Mark
  -- an accepted call of the state table; a dispatch may name a component
  called : Call → Option ℕ → Mark
  -- a callback began; it was parked, or readiness was answered false
  started : Job → Mark
  parked not_ready : Side → Mark
  -- a callback is over; the end of the content was told; the read listener was set, the write listener
  back end_given read_listener_set write_listener_set : Mark
  -- the socket took so many bytes; so much content was delivered; a listener with this tag was added; a timeout was set
  sent given listened timeout_set : ℕ → Mark
  -- of the answer the status was set, the length was set; an error answer of this status was put in its place
  status_set length_set error_answer : ℕ → Mark
  -- a field was added; all of the answer was reset; a flush had something to cut, or nothing; the answer was broken off
  field_added : Field → Mark
  answer_reset flushed nothing_to_flush aborted : Mark

abbrev pub Trace : Type 0
Trace = List (ℕ × Mark)
