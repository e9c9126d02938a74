-- The read and the write listener of a request, which hear when they may read or write without waiting (Servlet 3.1,
-- sections 3.7 and 5.7).
use Rattle.std.specs.Prelude.{Bool, true, false, ◌&&◌, not, Option, None, Some, if◌then◌else◌}
use Rattle.cy_event.specs.declared.steps.Job.{Job}
use Rattle.cy_event.specs.declared.steps.Job.TheVariants as job

-- A listener that is armed hears of the next readiness. It is armed as it is set, and where readiness is answered false.
pub record ReadyListeners : Type 0 where
  pub read_set : Bool
  pub read_armed : Bool
  -- whether it heard, since it was set, that all was read
  pub all_read_told : Bool
  pub write_set : Bool
  pub write_armed : Bool

abbrev pub no_listeners : ReadyListeners
no_listeners = record { read_set = false; read_armed = false; all_read_told = false; write_set = false; write_armed = false }

abbrev pub with_read_listener : ReadyListeners → ReadyListeners
with_read_listener l = record l { read_set = true; read_armed = true; all_read_told = false }

abbrev pub with_write_listener : ReadyListeners → ReadyListeners
with_write_listener l = record l { write_set = true; write_armed = true }

-- readiness was answered false; without a listener this has no effect
abbrev pub input_not_ready : ReadyListeners → ReadyListeners
input_not_ready l = record l { read_armed = l.read_set }

abbrev pub output_not_ready : ReadyListeners → ReadyListeners
output_not_ready l = record l { write_armed = l.write_set }

-- a callback is begun: what it tells, it tells once, and a dispatch leaves no listener
abbrev pub after_begun : Job → ReadyListeners → ReadyListeners
after_begun (job.Again part) l = no_listeners
after_begun job.Readable l = record l { read_armed = false }
after_begun job.AllRead l = record l { all_read_told = true }
after_begun job.Writable l = record l { write_armed = false }
after_begun j l = l

-- The listener that is called next, where content waits, the body is whole, or a byte would be taken: content first, then
-- that there is no more of it, then the output.
abbrev pub next_listener : Bool → Bool → Bool → ReadyListeners → Option Job
next_listener waits whole writable l =
    if l.read_set && l.read_armed && waits then Some job.Readable
    else if l.read_set && not l.all_read_told && whole && not waits then Some job.AllRead
    else if l.write_set && l.write_armed && writable then Some job.Writable
    else None
