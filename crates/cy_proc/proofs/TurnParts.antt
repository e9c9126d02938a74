-- The parts that follow an event or a turn stand for the trace that follows it.
use Rattle.std.proofs.Common.{◌≡◌, inl, ℕ, Bool, true, false, ◌&&◌, List, [], ◌∷◌, ◌++◌, Option, Some, None, is_none, refl, sym, ap, ◌∙◌, subst, ◌==◌, if◌then◌else◌}
use Rattle.std.proofs.lemmas.Bool.{eq-eqb}
use Rattle.std.proofs.lemmas.List.{append-nil}
use Rattle.cy_event.specs.declared.limits.Limits.{Limits}
use Rattle.cy_event.specs.declared.steps.Call.{Call}
use Rattle.cy_event.specs.declared.steps.Call.TheVariants as call
use Rattle.cy_event.specs.declared.steps.Event.{Event}
use Rattle.cy_event.specs.declared.steps.Job.{Job}
use Rattle.cy_event.specs.declared.steps.Job.TheVariants as job
use Rattle.cy_event.specs.declared.steps.Reply.{Reply}
use Rattle.cy_event.specs.declared.steps.State.{State}
use Rattle.cy_event.specs.declared.steps.State.TheVariants as state
use Rattle.cy_event.specs.Table.{next_state, state_after}
use Rattle.cy_model.specs.Entries.{ended_count, job_marks, job_reply, owed_after, reply_to_event, rested_event, rested_turn, turn_reply}
use Rattle.cy_model.specs.Folds.{is_open, is_served, part_of, running}
use Rattle.cy_model.specs.Jobs.{next_job, service_in}
use Rattle.cy_model.specs.Marks.{called, started, Trace}
use Rattle.cy_model.specs.Replies.{plain}
use Rattle.cy_states.specs.Progress.{Progress, after_call, progress_of}
use Rattle.cy_model.specs.Settling.{rested, with_marks}
use Rattle.cy_model.proofs.Built.{IsPlain}
use Rattle.cy_proc.proofs.Plain.{plain_job}
use Rattle.cy_proc.specs.Lines.{LineParts, Represents}
use Rattle.cy_proc.specs.declared.processor.Stage.{Stage}
use Rattle.cy_proc.specs.declared.processor.Stage.TheVariants as stage
use Rattle.cy_proc.specs.LineChanges.{after_told, at_moment, told_answer}
use Rattle.cy_proc.specs.ProcessorAnswers.{Answers, Serves, ServesAfter, ended_items}
use Rattle.cy_proc.specs.ProcessorChanges.{after_job, job_at, owed_at}
use Rattle.cy_proc.specs.Processors.{IsOfRequest, ProcessorParts, StandsForRequest, is_open_at, processor_parts, request_folds, service_by, stage_by}
use Rattle.cy_proc.proofs.Built.{built_more}
use Rattle.cy_proc.proofs.Lines.{marks_at, moved_stands, plainly, told_from, rested_open, same_input}
use Rattle.cy_proc.proofs.Requests.{IsOpenBy, event_same, owed_request, serves_same, serving_request, stands_open, stands_request}

-- ---- the answers to events and turns

pub event_answers : (limits : Limits) (at : ℕ) (e : Event) (b : List ℕ) (T : Trace) (old moved new : LineParts) (p : ProcessorParts) (r : Reply) → is_open_at p.stage ≡ true → Serves T old p → moved ≡ at_moment at old → r ≡ told_answer e b moved → new ≡ after_told limits e b moved → Answers T (plain (reply_to_event T e b)) (rested_event limits new.moment T e b) (plain r) new p
event_answers limits at e b T old moved new p r o s later replied parts =
    let told = told_from limits at e b T old moved new r s.line later replied parts in
    record {
      reply = ap plain told.reply;
      after = serves_same T (rested_event limits new.moment T e b) new p o (event_same limits new.moment e b T (plainly T s.line.sound)) s.processor told.stands;
    }

-- a connection's line isn't touched by the marks of a service that begins
began_service : (part : ℕ) (T : Trace) (l : LineParts) → Represents T l → Represents ((l.moment, called call.Run None) ∷ (l.moment, started (job.Service part)) ∷ T) l
began_service part T l s = let i = s.sound.input in record {
  same = s.same;
  sound = record {
    input = same_input T ((l.moment, called call.Run None) ∷ (l.moment, started (job.Service part)) ∷ T) i i.given i.heads_came i.told;
    took_past = s.sound.took_past;
    built = built_more l.moment (called call.Run None) ((l.moment, started (job.Service part)) ∷ T) refl (built_more l.moment (started (job.Service part)) T refl s.sound.built);
    calm = s.sound.calm;
  };
  none_later = marks_at (started (job.Service part) ∷ called call.Run None ∷ []) T l s;
  at_rest = λ o calm. let r = s.at_rest o calm in record { good = r.good; goes_on = r.goes_on };
}

-- the service begins
began_parts : (T : Trace) (t : ℕ) (p : ProcessorParts) → IsOpenBy (request_folds T) false → IsOfRequest (request_folds T) p → IsOfRequest (request_folds ((t, called call.Run None) ∷ (t, started (job.Service p.part)) ∷ T)) (after_job (Some (job.Service p.part)) p)
began_parts T t p here s =
    let f = request_folds T in
    let g = request_folds ((t, called call.Run None) ∷ (t, started (job.Service p.part)) ∷ T) in
    let part : p.part ≡ f.part = ap (λ (q : ProcessorParts). q.part) s.same in
    let progress : after_call (progress_of f.calls) call.Run ≡ progress_of (f.calls ++ call.Run ∷ []) =
    ap (λ (ks : List Call). after_call (progress_of ks) call.Run) here.calls
    ∙ sym (ap (λ (ks : List Call). progress_of (ks ++ call.Run ∷ [])) here.calls) in
    record {
      same = ap (λ (q : ProcessorParts). record q { stage = stage.Serving; progress = after_call q.progress call.Run }) s.same
          ∙ ap (λ (w : Progress). record (processor_parts p.limits f) { stage = stage.Serving; progress = w }) progress
          ∙ sym (ap (λ (v : Bool). record (processor_parts p.limits g) { stage = stage_by v f.is_refused f.taken (Some (job.Service p.part)) }) here.is_open);
      alone = record {
        minor = s.alone.minor;
        begun = s.alone.begun;
        taken = s.alone.taken;
        state = ap (λ (st : State). next_state st call.Run) here.state ∙ sym (ap (λ (ks : List Call). state_after (ks ++ call.Run ∷ [])) here.calls);
        running = ap (λ (n : ℕ). Some (job.Service n)) part ∙ sym (ap (λ (v : Bool). service_by v true f.part) here.is_open);
        calls = λ o. ap (λ (ks : List Call). ks ++ call.Run ∷ []) here.calls;
        answer = s.alone.answer;
        few = s.alone.few;
        sending = s.alone.sending;
      };
    }

-- the callback that is owed begins
job_stands : (st : Stage) (T : Trace) (l : LineParts) (p : ProcessorParts) → p.stage ≡ st → is_open_at st ≡ true → IsOfRequest (request_folds T) p → Represents T l → ServesAfter T (with_marks l.moment (job_marks (owed_at st p.part)) T) l (after_job (owed_at st p.part) p)
job_stands stage.Free T l p at o s line = cc
job_stands stage.Owed T l p at o s line = record {
  serves = record {
    line = began_service p.part T l line;
    processor = inl (began_parts T l.moment p (owed_request (request_folds T) p at s) s);
  };
  charts = sym (append-nil (ended_items T));
}
job_stands stage.Serving T l p at o s line = serves_same T T l p (ap is_open_at at) (record { folds = refl; charts = refl }) (inl s) line
job_stands stage.Over T l p at o s line = cc
job_stands stage.Refused T l p at o s line = cc

-- the callback that is owed is the one that the trace owes
service_at : (o : Bool) (runs : Option Job) (was_served : Bool) (part : ℕ) → Option Job
service_at o runs was_served part = if o && is_none runs then service_in state.Dispatched was_served part else None

closed_owes : (T : Trace) (st : Stage) (part : ℕ) → is_open T ≡ false → owed_at st part ≡ None → owed_at st part ≡ service_at (is_open T) (running T) (is_served T) (part_of T)
unfolding service_at
closed_owes T st part closed none =
    none ∙ sym (ap (λ (v : Bool). if v && is_none (running T) then service_in state.Dispatched (is_served T) (part_of T) else None) closed)

owed_by : (st : Stage) (T : Trace) (p : ProcessorParts) → p.stage ≡ st → StandsForRequest T p → owed_at st p.part ≡ service_at (is_open T) (running T) (is_served T) (part_of T)
unfolding service_at
owed_by stage.Free T p at s = closed_owes T stage.Free p.part (stands_open T p s ∙ ap is_open_at at) refl
owed_by stage.Owed T p at s =
    let w = stands_request T p (ap is_open_at at) s in
    let here = owed_request (request_folds T) p at w in
    let o = here.is_open in
    let runs = here.runs in
    let was = here.served in
    ap (λ (n : ℕ). Some (job.Service n)) (ap (λ (q : ProcessorParts). q.part) w.same)
    ∙ sym (λ i. if o i && is_none (runs i) then service_in state.Dispatched (was i) (part_of T) else None)
owed_by stage.Serving T p at s =
    let w = stands_request T p (ap is_open_at at) s in
    let here = serving_request (request_folds T) p at w in
    let o = here.is_open in
    let runs = here.runs in
    sym (λ i. if o i && is_none (runs i) then service_in state.Dispatched (is_served T) (part_of T) else None)
owed_by stage.Over T p at s = closed_owes T stage.Over p.part (stands_open T p s ∙ ap is_open_at at) refl
owed_by stage.Refused T p at s = closed_owes T stage.Refused p.part (stands_open T p s ∙ ap is_open_at at) refl

pub owed_is : (T : Trace) (p : ProcessorParts) → IsPlain T → StandsForRequest T p → job_at p ≡ next_job T
unfolding service_at
owed_is T p plain_now s = owed_by p.stage T p refl s ∙ sym (plain_job T plain_now)

same_number : (n : ℕ) → (n == n) ≡ true
same_number n = eq-eqb n n refl

pub turn_answers : (limits : Limits) (at : ℕ) (T : Trace) (old new : LineParts) (p q : ProcessorParts) (r : Reply) → is_open_at p.stage ≡ true → Serves T old p → new ≡ at_moment at old → r ≡ job_reply (job_at p) → q ≡ after_job (job_at p) p → Answers T (turn_reply T (rested limits new.moment T)) (rested_turn limits new.moment T) (plain r) new q
turn_answers limits at T old new p q r o s later replied parts =
    let m = new.moment in
    let rests : rested limits m T ≡ T = rested_open limits m T old s.line (stands_open T p s.processor ∙ o) in
    let owed : owed_after T (rested limits m T) ≡ job_at p =
    ap (owed_after T) rests
    ∙ ap (λ (v : Bool). if v then next_job T else None) (same_number (ended_count T))
    ∙ sym (owed_is T p (plainly T s.line.sound) s.processor) in
    let trace : rested_turn limits m T ≡ with_marks m (job_marks (job_at p)) T =
    ap (λ (w : Option Job). with_marks m (job_marks w) (rested limits m T)) owed
    ∙ ap (with_marks m (job_marks (job_at p))) rests in
    let line = moved_stands at T old new s.line later in
    let stands = job_stands p.stage T new p refl o (stands_request T p o s.processor) line in
    record {
      reply = ap plain (replied ∙ sym (ap job_reply owed));
      after = subst (λ (R : Trace). ServesAfter T R new q) (sym trace) (subst (λ (k : ProcessorParts). ServesAfter T (with_marks m (job_marks (job_at p)) T) new k) (sym parts) stands);
    }
