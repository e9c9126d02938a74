-- What each mark changes is computed for it; a callback that begins, for each sort of callback.
use Rattle.std.proofs.Common.{◌≡◌, ℕ, false, refl}
use Rattle.cy_event.specs.declared.steps.Job.{Job}
use Rattle.cy_event.specs.declared.steps.Job.TheVariants as job
use Rattle.cy_event.specs.Callbacks.{is_owed_to_listener}
use Rattle.cy_event.specs.ReadyListeners.{after_begun}
use Rattle.cy_model.specs.Folds.{after_started, begun_by, callback_of}
use Rattle.cy_model.specs.Marks.{Trace, started}
use Rattle.cy_rows.specs.Kept.{kept}
use Rattle.cy_rows.specs.Laws.{AnswerMarks, CallbackMarks, ConnectionMarks, ListenerMarks, RequestMarks, is_service, kept_with}
use Rattle.std.specs.Prelude.{None}

callback-begins : (t : ℕ) (j : Job) (T : Trace) → is_service j ≡ false → kept_with t (started j) T
    ≡ record (kept T) {
      callback = begun_by j (callback_of T);
      running = begun_by j (callback_of T);
      parked = None;
      listeners = after_begun j (kept T).listeners;
      context = after_started (is_owed_to_listener j) (kept T).context;
    }
callback-begins t (job.Service part) T e = cc
callback-begins t (job.Again part) T e = refl
callback-begins t job.Resume T e = refl
callback-begins t job.Readable T e = refl
callback-begins t job.AllRead T e = refl
callback-begins t job.Writable T e = refl
callback-begins t job.ReadError T e = refl
callback-begins t job.WriteError T e = refl
callback-begins t (job.OnTimeout listener tag) T e = refl
callback-begins t (job.OnError listener tag) T e = refl
callback-begins t (job.OnComplete listener tag) T e = refl

pub connection-marks : ConnectionMarks
connection-marks = record {
  admission = λ t T. refl;
  input_end = λ t T. refl;
  bytes = λ t b T. refl;
  taking = λ t n T. refl;
  cause = λ t k T. refl;
  break = λ t T. refl;
}

pub request-marks : RequestMarks
request-marks = record {
  begin = λ t r T. refl;
  refusal = λ t status to_head T. refl;
  end = λ t T. refl;
}

pub callback-marks : CallbackMarks
callback-marks = record {
  call = λ t k T. refl;
  dispatch = λ t part k T. refl;
  service = λ t part T. refl;
  callback = callback-begins;
  wait = λ t s T. refl;
  callback_end = λ t T. refl;
}

pub listener-marks : ListenerMarks
listener-marks = record {
  content = λ t n T. refl;
  content_end = λ t T. refl;
  listener = λ t tag T. refl;
  timeout = λ t ms T. refl;
  read_listener = λ t T. refl;
  write_listener = λ t T. refl;
  no_input = λ t T. refl;
  no_output = λ t T. refl;
}

pub answer-marks : AnswerMarks
answer-marks = record {
  status = λ t n T. refl;
  field = λ t f T. refl;
  length = λ t n T. refl;
  reset = λ t T. refl;
  content = λ t b T. refl;
  flush = λ t T. refl;
  vain_flush = λ t T. refl;
  error = λ t n T. refl;
  break_off = λ t T. refl;
}
