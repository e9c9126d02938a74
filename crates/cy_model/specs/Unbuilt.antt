-- The marks that no entry makes yet, since what makes them isn't built. Where it is built, its line goes.
use Rattle.std.specs.Prelude.{◌≡◌, ℕ, Bool, true, false, not, ◌||◌, ◌==◌, [], ◌∷◌}
use Rattle.cy_event.specs.declared.steps.Call.{Call}
use Rattle.cy_event.specs.declared.steps.Call.TheVariants as call
use Rattle.cy_event.specs.declared.steps.CloseCause.{CloseCause}
use Rattle.cy_event.specs.declared.steps.CloseCause.TheVariants as cause
use Rattle.cy_event.specs.declared.steps.Job.{Job}
use Rattle.cy_event.specs.declared.steps.Job.TheVariants as job
use Rattle.cy_event.specs.Framings.{bad_request}
use Rattle.cy_model.specs.Marks.{Mark, TakenUp, Trace, began, called, started, parked, listened, timeout_set, read_listener_set, write_listener_set, not_ready, status_set, field_added, length_set, answer_reset, flushed, nothing_to_flush, error_answer, aborted, caused, broken}
use Rattle.cy_model.specs.Verdicts.{is_head_method, not_found_status}

-- requests of HEAD
abbrev pub is_unbuilt_request : TakenUp → Bool
is_unbuilt_request r = is_head_method r.head

-- calls of the state table but those of a service that returns
abbrev pub is_unbuilt_call : Call → Bool
is_unbuilt_call call.Run = false
is_unbuilt_call call.Return = false
is_unbuilt_call k = true

-- callbacks but the service
abbrev pub is_unbuilt_job : Job → Bool
is_unbuilt_job (job.Service part) = false
is_unbuilt_job j = true

-- causes but those of a head, of a body, of an answer that says so, and of the end of the input
abbrev pub is_unbuilt_cause : CloseCause → Bool
is_unbuilt_cause cause.Refused = false
is_unbuilt_cause cause.BadBody = false
is_unbuilt_cause cause.SwallowLimit = false
is_unbuilt_cause cause.LastAnswer = false
is_unbuilt_cause cause.InputEnd = false
is_unbuilt_cause k = true

-- what a callback asks to hear of
abbrev pub is_unbuilt_asking : Mark → Bool
is_unbuilt_asking (listened tag) = true
is_unbuilt_asking (timeout_set ms) = true
is_unbuilt_asking read_listener_set = true
is_unbuilt_asking write_listener_set = true
is_unbuilt_asking (not_ready side) = true
is_unbuilt_asking m = false

-- the error answers but that of a path which no rule serves, and that of a request whose body was none
abbrev pub is_unbuilt_error : ℕ → Bool
is_unbuilt_error status = not (status == not_found_status || status == bad_request)

-- of an answer all but its content and those error answers
abbrev pub is_unbuilt_answering : Mark → Bool
is_unbuilt_answering (status_set status) = true
is_unbuilt_answering (field_added field) = true
is_unbuilt_answering (length_set n) = true
is_unbuilt_answering answer_reset = true
is_unbuilt_answering flushed = true
is_unbuilt_answering nothing_to_flush = true
is_unbuilt_answering (error_answer status) = is_unbuilt_error status
is_unbuilt_answering aborted = true
is_unbuilt_answering m = false

abbrev pub is_unbuilt_mark : Mark → Bool
is_unbuilt_mark (began r) = is_unbuilt_request r
is_unbuilt_mark (called k part) = is_unbuilt_call k
is_unbuilt_mark (started j) = is_unbuilt_job j
is_unbuilt_mark (parked side) = true
is_unbuilt_mark (caused k) = is_unbuilt_cause k
is_unbuilt_mark broken = true
is_unbuilt_mark m = is_unbuilt_asking m || is_unbuilt_answering m

-- none of them stands in the trace
abbrev pub NothingUnbuilt : Trace → Type 0
NothingUnbuilt [] = Unit {0}
NothingUnbuilt ((t, m) ∷ T) = (is_unbuilt_mark m ≡ false) × NothingUnbuilt T
