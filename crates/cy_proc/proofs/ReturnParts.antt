-- The service returns: the parts that follow stand for the trace with the marks of its end.
use Rattle.std.proofs.Common.{◌≡◌, ◌≤◌, inl, ℕ, Bool, true, false, not, List, [], ◌∷◌, ◌++◌, map, Option, Some, None, is_some, refl, sym, ap, ◌∙◌, subst, arith, if◌then◌else◌}
use Rattle.std.proofs.lemmas.List.{map-append}
use Rattle.cy_event.specs.declared.limits.Limits.{Limits}
use Rattle.cy_event.specs.declared.steps.Act.TheVariants as act
use Rattle.cy_event.specs.declared.steps.Call.{Call}
use Rattle.cy_event.specs.declared.steps.Call.TheVariants as call
use Rattle.cy_event.specs.declared.steps.CloseCause.{CloseCause}
use Rattle.cy_event.specs.declared.steps.Job.{Job}
use Rattle.cy_event.specs.declared.steps.Job.TheVariants as job
use Rattle.cy_event.specs.declared.steps.Reply.TheVariants as reply
use Rattle.cy_event.specs.declared.table.ChartItem.{ChartItem}
use Rattle.cy_event.specs.declared.steps.State.{State}
use Rattle.cy_event.specs.declared.steps.State.TheVariants as state
use Rattle.cy_event.specs.Answers.{Answer, after_put, error_answer as error_answer_of, fresh_answer}
use Rattle.cy_event.specs.Framings.{bad_request}
use Rattle.cy_event.specs.Charts.{chart_of}
use Rattle.cy_event.specs.Heads.{Head}
use Rattle.cy_event.specs.Targets.{target_of}
use Rattle.cy_head.specs.Answers.{just_read}
use Rattle.cy_event.specs.Table.{next_state, row, is_end, state_after}
use Rattle.cy_model.specs.Entries.{callback_reply, rested_callback, return_marks, end_marks_where}
use Rattle.cy_event.specs.Answering.{Sending, has_closed, with_error}
use Rattle.cy_model.specs.Endings.{cause_behind, cause_marks, closing_marks_by, end_marks, ends_closed, is_bad_request}
use Rattle.cy_model.specs.Folds.{calls, cause_of, ended_charts, is_open, part_of, request_of, running, state_of}
use Rattle.cy_model.specs.Outputs.{answer_of, end_by, is_committed, sending_of, unsent}
use Rattle.cy_model.specs.Marks.{Mark, TakenUp, called, back, error_answer, over, Trace}
use Rattle.cy_model.specs.Replies.{plain, replied_in}
use Rattle.cy_states.specs.Progress.{Progress, after_call, progress_of}
use Rattle.cy_model.specs.Settling.{last_answer_marks, rested, with_marks}
use Rattle.cy_model.proofs.Built.{error_before, plain_end}
use Rattle.cy_proc.proofs.Plain.{finish_closes}
use Rattle.cy_proc.specs.Lines.{IsSound, LineParts, Represents, is_body_cause}
use Rattle.cy_proc.specs.declared.processor.Stage.{Stage}
use Rattle.cy_proc.specs.declared.processor.Stage.TheVariants as stage
use Rattle.cy_proc.specs.LineChanges.{after_end_of, after_rest, at_moment}
use Rattle.cy_proc.specs.ProcessorAnswers.{Answers, Serves, ServesAfter, ended_items}
use Rattle.cy_proc.specs.ProcessorChanges.{after_return, answer_at, answer_returned, line_returned}
use Rattle.cy_proc.specs.Processors.{IsOfRequest, ProcessorParts, RequestFolds, is_open_at, over_charts_at, processor_parts, request_folds, minor_by, table_by, keep_by, uncut}
use Rattle.cy_proc.proofs.Built.{built_more}
use Rattle.cy_proc.proofs.ActParts.{content_is}
use Rattle.cy_proc.proofs.Lines.{Holds, holds, marks_at, marks_by, moved_stands, plainly, rest_moment, rest_stands, same_input}
use Rattle.cy_proc.proofs.Ends.{bad_stands, over_stands}
use Rattle.cy_proc.proofs.Requests.{IsOpenBy, head_kept, rested_same, serving_request, stands_request, stands_same}

-- ---- the end of a request

-- what the end of a request leaves of it, but for what is sent of its answer
pub record Ends (S R : Trace) : Type 0 where
  pub folds : request_folds R ≡ record (request_folds S) { is_open = false; running = None; sending = sending_of R }
  pub charts : ended_charts R ≡ ended_charts S ++ calls S ∷ []

pub over_ends : (t : ℕ) (keep : Bool) (S : Trace) → Ends S (with_marks t (over ∷ last_answer_marks keep) S)
over_ends t true S = record { folds = refl; charts = refl }
over_ends t false S = record { folds = refl; charts = refl }

-- a request that has ended in a trace, and what follows of itself
pub ended_serves : (limits : Limits) (m : ℕ) (T R : Trace) (l : LineParts) (p : ProcessorParts) → p.stage ≡ stage.Over → IsOfRequest (request_folds R) p → ended_charts R ≡ ended_charts T ++ calls R ∷ [] → m ≤ l.moment → Represents R l → ServesAfter T (rested limits m R) (after_rest limits l) p
ended_serves limits m T R l p at finished charts by line =
    let same = rested_same limits m R (plainly R line.sound) in
    record {
      serves = record {
        line = rest_stands limits m R l by (holds R l line);
        processor = stands_same R (rested limits m R) p same (inl finished);
      };
      charts = ap (map chart_of) (same.charts ∙ charts)
          ∙ map-append chart_of (ended_charts T) (calls R ∷ [])
          ∙ ap (λ (x : List (List ChartItem)). ended_items T ++ x)
          (ap (λ (q : ProcessorParts). q.progress.chart ∷ []) (sym finished.same) ∙ sym (ap (λ (st : Stage). over_charts_at st p.progress) at));
    }

-- the service returns
returned_line : (T : Trace) (l : LineParts) → Represents T l → Holds ((l.moment, called call.Return None) ∷ (l.moment, back) ∷ T) l
returned_line T l s = let i = s.sound.input in record {
  same = s.same;
  sound = record {
    input = same_input T ((l.moment, called call.Return None) ∷ (l.moment, back) ∷ T) i i.given i.heads_came i.told;
    took_past = s.sound.took_past;
    built = built_more l.moment (called call.Return None) ((l.moment, back) ∷ T) refl (built_more l.moment back T refl s.sound.built);
    calm = s.sound.calm;
  };
  none_later = marks_at (back ∷ called call.Return None ∷ []) T l s;
}

-- the version in the table of the last request
table_minor : (taken : Option TakenUp) → (table_by taken).head.minor ≡ minor_by taken
table_minor None = refl
table_minor (Some r) = ap (λ (h : Head). h.minor) (head_kept (target_of r.head.method r.head.target) (just_read r.head))

-- what a return leaves of the last request, of which this is the answer
abbrev returned : Answer → Sending → RequestFolds → RequestFolds
returned a rest f = record f { calls = f.calls ++ call.Return ∷ []; state = next_state f.state call.Return; running = None; is_open = false; answer = a; sending = rest }

returned_parts : (a : Answer) (rest : Sending) (f : RequestFolds) (p : ProcessorParts) → IsOpenBy f true → IsOfRequest f p → IsOfRequest (returned a rest f) (after_return p)
returned_parts a rest f p here s =
    let progress : after_call (progress_of f.calls) call.Return ≡ progress_of (f.calls ++ call.Return ∷ []) =
    ap (λ (ks : List Call). after_call (progress_of ks) call.Return) here.calls
    ∙ sym (ap (λ (ks : List Call). progress_of (ks ++ call.Return ∷ [])) here.calls) in
    let parts = processor_parts p.limits (returned a rest f) in
    record {
      same = ap after_return s.same
          ∙ ap (λ (w : Progress). record parts { stage = stage.Over; progress = w }) progress
          ∙ sym (ap (λ (st : Stage). record parts { stage = st }) (s.alone.taken here.is_open));
      alone = record {
        minor = s.alone.minor;
        begun = s.alone.begun;
        taken = λ e. cc;
        state = ap (λ (st : State). next_state st call.Return) here.state ∙ sym (ap (λ (ks : List Call). state_after (ks ++ call.Return ∷ [])) here.calls);
        running = refl;
        calls = λ e. cc;
        answer = λ e. cc;
        few = λ e. cc;
        sending = λ e. cc;
      };
    }

-- what an answer says of the request is what its processor keeps
line_so : (a : Answer) (f : RequestFolds) (p : ProcessorParts) (l : LineParts) → IsOfRequest f p → after_end_of p.keep p.table.head.minor a l ≡ after_end_of f.keep f.minor a l
line_so a f p l s =
    ap (λ (v : Bool). after_end_of v p.table.head.minor a l) (ap (λ (q : ProcessorParts). q.keep) s.same)
    ∙ ap (λ (n : ℕ). after_end_of f.keep n a l) (ap (λ (q : ProcessorParts). q.table.head.minor) s.same ∙ table_minor f.taken ∙ sym s.alone.minor)

line_of : (f : RequestFolds) (p : ProcessorParts) (l : LineParts) → l.cause ≡ None → f.is_open ≡ true → IsOfRequest f p → line_returned p l ≡ after_end_of f.keep f.minor f.answer l
line_of f p l none o s =
    ap (λ (c : Option CloseCause). after_end_of p.keep p.table.head.minor (answer_returned c p) l) none
    ∙ line_so (after_put p.content fresh_answer) f p l s
    ∙ ap (λ (a : Answer). after_end_of f.keep f.minor a l) (sym (content_is f p o s))

-- the body was none
line_bad : (f : RequestFolds) (p : ProcessorParts) (l : LineParts) → is_bad_request l.cause ≡ true → IsOfRequest f p → line_returned p l ≡ after_end_of f.keep f.minor (error_answer_of bad_request) l
line_bad f p l bad s =
    ap (λ (v : Bool). after_end_of p.keep p.table.head.minor (if v then error_answer_of bad_request else answer_at p) l) bad
    ∙ line_so (error_answer_of bad_request) f p l s

-- nothing of its answer is out
none_out : (T : Trace) (p : ProcessorParts) → is_open T ≡ true → IsOfRequest (request_folds T) p → is_committed T ≡ false
none_out T p o s = ap (λ (x : Sending). elim x.commit [ None ↦ false | Some c ↦ true ]) (s.alone.sending o)

-- its service returns: the marks of its end, where there is no cause to close
return_ends : (T : Trace) (p : ProcessorParts) → IsSound T → cause_of T ≡ None → IsOpenBy (request_folds T) true → IsOfRequest (request_folds T) p → end_marks T ≡ over ∷ last_answer_marks (keep_by (request_of T))
return_ends T p sound none here s =
    let o = here.is_open in
    let minor = minor_by (request_of T) in
    let keep = keep_by (request_of T) in
    let a = after_put (answer_of T).content fresh_answer in
    let is : answer_of T ≡ a = s.alone.answer o in
    let sent_so : sending_of T ≡ uncut minor keep a = s.alone.sending o ∙ ap (uncut minor keep) is in
    let closes : ends_closed T ≡ not keep =
    (λ i. has_closed (end_by (none i) false (is i) 0 (record { sending = sent_so i; output = unsent T })).sending)
    ∙ finish_closes a 0 minor keep (unsent T) refl in
    plain_end T (plainly T sound) (none_out T p o s)
    ∙ (λ i. error_before (none i) ++ over ∷ closing_marks_by (none i) (cause_behind false false (ends_closed T)))
    ∙ ap (λ (v : Bool). over ∷ cause_marks (cause_behind false false v)) closes
    ∙ by_keep keep
  where
    by_keep : (v : Bool) → over ∷ cause_marks (cause_behind false false (not v)) ≡ over ∷ last_answer_marks v
    by_keep true = refl
    by_keep false = refl

-- and where its body was none
bad_ends : (T : Trace) (p : ProcessorParts) (k : CloseCause) → IsSound T → cause_of T ≡ Some k → is_bad_request (Some k) ≡ true → is_open T ≡ true → IsOfRequest (request_folds T) p → end_marks T ≡ error_answer bad_request ∷ over ∷ []
bad_ends T p k sound has bad o s =
    plain_end T (plainly T sound) (none_out T p o s)
    ∙ (λ i. error_before (has i) ++ over ∷ closing_marks_by (has i) (cause_behind false false (ends_closed T)))
    ∙ ap (λ (v : Bool). (if v then error_answer bad_request ∷ [] else []) ++ over ∷ []) bad

bad_mark : (T : Trace) (l : LineParts) → Holds T l → Holds ((l.moment, error_answer bad_request) ∷ T) l
bad_mark T l s = let i = s.sound.input in record {
  same = s.same;
  sound = record {
    input = same_input T ((l.moment, error_answer bad_request) ∷ T) i i.given i.heads_came i.told;
    took_past = s.sound.took_past;
    built = built_more l.moment (error_answer bad_request) T refl s.sound.built;
    calm = s.sound.calm;
  };
  none_later = marks_by l.moment l.moment (error_answer bad_request ∷ []) T (omega arith) s.none_later;
}

-- what follows of a return, whichever marks its end has
return_by : (limits : Limits) (at : ℕ) (b into : List ℕ) (T : Trace) (old moved finished new : LineParts) (p q : ProcessorParts) (marks : List Mark) → p.stage ≡ stage.Serving → Serves T old p → moved ≡ at_moment at old → q ≡ after_return p → new ≡ after_rest limits finished
    → finished.moment ≡ moved.moment → end_marks T ≡ marks
    → let R : Trace = with_marks moved.moment marks ((moved.moment, called call.Return None) ∷ (moved.moment, back) ∷ T) in
    Represents R finished → IsOfRequest (request_folds R) (after_return p) → ended_charts R ≡ ended_charts T ++ calls R ∷ []
    → Answers T (callback_reply limits T act.Return) (rested_callback limits new.moment T act.Return b) (replied_in reply.Done into) new q
return_by limits at b into T old moved finished new p q marks at_stage s later parts rests same_moment ends line request charts =
    let m = moved.moment in
    let S : Trace = (m, called call.Return None) ∷ (m, back) ∷ T in
    let R : Trace = with_marks m marks S in
    let here = serving_request (request_folds T) p at_stage (stands_request T p (ap is_open_at at_stage) s.processor) in
    let runs : running T ≡ Some (job.Service (part_of T)) = here.runs in
    let in_state : state_of T ≡ state.Dispatched = (plainly T s.line.sound).here in
    let wanted : callback_reply limits T act.Return ≡ plain reply.Done = ap (λ (o : Option Job). if is_some o then plain reply.Done else plain reply.NotActive) runs in
    let at_moment_of : new.moment ≡ m = ap (λ (k : LineParts). k.moment) rests ∙ rest_moment limits finished ∙ same_moment in
    let trace : rested_callback limits new.moment T act.Return b ≡ rested limits m R =
    ap (λ (t : ℕ). rested_callback limits t T act.Return b) at_moment_of
    ∙ ap (λ (o : Option Job). if is_some o then rested limits m (with_marks m (return_marks T) T) else T) runs
    ∙ ap (λ (st : State). rested limits m (with_marks m (end_marks_where (is_end (row st call.Return)) T) S)) in_state
    ∙ ap (λ (ms : List Mark). rested limits m (with_marks m ms S)) ends in
    let follows = ended_serves limits m T R finished (after_return p) refl request charts (omega (arith, same_moment)) line in
    record {
      reply = sym wanted;
      after = subst (λ (X : Trace). ServesAfter T X new q) (sym trace) (subst (λ (k : LineParts). ServesAfter T (rested limits m R) k q) (sym rests) (subst (λ (k : ProcessorParts). ServesAfter T (rested limits m R) (after_rest limits finished) k) (sym parts) follows));
    }

pub return_answers : (limits : Limits) (at : ℕ) (b into : List ℕ) (T : Trace) (old moved finished new : LineParts) (p q : ProcessorParts) → p.stage ≡ stage.Serving → Serves T old p → moved ≡ at_moment at old → finished ≡ line_returned p moved → q ≡ after_return p → new ≡ after_rest limits finished → Answers T (callback_reply limits T act.Return) (rested_callback limits new.moment T act.Return b) (replied_in reply.Done into) new q
return_answers limits at b into T old moved finished new p q at_stage s later written parts rests = by_cause (cause_of T) refl
  where
    m : ℕ
    m = moved.moment

    S : Trace
    S = (m, called call.Return None) ∷ (m, back) ∷ T

    line : Represents T moved
    line = moved_stands at T old moved s.line later

    stands : IsOfRequest (request_folds T) p
    stands = stands_request T p (ap is_open_at at_stage) s.processor

    here : IsOpenBy (request_folds T) true
    here = serving_request (request_folds T) p at_stage stands

    its_cause : moved.cause ≡ cause_of T
    its_cause = ap (λ (l : LineParts). l.cause) line.same

    same_moment : finished.moment ≡ m
    same_moment = ap (λ (k : LineParts). k.moment) written

    by_cause : (c : Option CloseCause) → cause_of T ≡ c → Answers T (callback_reply limits T act.Return) (rested_callback limits new.moment T act.Return b) (replied_in reply.Done into) new q
    by_cause None none =
        let keep = keep_by (request_of T) in
        let minor = minor_by (request_of T) in
        let a = after_put (answer_of T).content fresh_answer in
        let is : answer_of T ≡ a = stands.alone.answer here.is_open in
        let R : Trace = with_marks m (over ∷ last_answer_marks keep) S in
        let ends = over_ends m keep S in
        let text : line_returned p moved ≡ after_end_of keep minor a moved =
        line_of (request_folds T) p moved (its_cause ∙ none) here.is_open stands ∙ ap (λ (x : Answer). after_end_of keep minor x moved) is in
        let over_now : Represents R finished =
        subst (Represents R) (sym (written ∙ text))
        (over_stands S moved minor keep a here.is_open (stands.alone.sending here.is_open ∙ ap (uncut minor keep) is) is refl refl none (returned_line T moved line)) in
        return_by limits at b into T old moved finished new p q (over ∷ last_answer_marks keep) at_stage s later parts rests same_moment
        (return_ends T p line.sound none here stands) over_now
        (subst (λ (f : RequestFolds). IsOfRequest f (after_return p)) (sym ends.folds) (returned_parts (answer_of T) (sending_of R) (request_folds T) p here stands))
        (ends.charts ∙ sym (ap (λ (f : RequestFolds). ended_charts T ++ f.calls ∷ []) ends.folds))
    by_cause (Some k) has =
        let keep = keep_by (request_of T) in
        let minor = minor_by (request_of T) in
        let a = error_answer_of bad_request in
        let bad : is_bad_request (Some k) ≡ true = sym (ap is_body_cause has) ∙ line.sound.calm here.is_open in
        let E : Trace = (m, error_answer bad_request) ∷ S in
        let R : Trace = (m, over) ∷ E in
        let ends = over_ends m true E in
        let sent_so : sending_of E ≡ uncut minor keep a = ap (with_error bad_request) (stands.alone.sending here.is_open) in
        let over_now : Represents R finished =
        subst (Represents R) (sym (written ∙ line_bad (request_folds T) p moved (ap is_bad_request (its_cause ∙ has) ∙ bad) stands))
        (bad_stands E moved minor keep a k here.is_open sent_so refl refl refl has (bad_mark S moved (returned_line T moved line))) in
        return_by limits at b into T old moved finished new p q (error_answer bad_request ∷ over ∷ []) at_stage s later parts rests same_moment
        (bad_ends T p k line.sound has bad here.is_open stands) over_now
        (subst (λ (f : RequestFolds). IsOfRequest f (after_return p)) (sym ends.folds) (returned_parts a (sending_of R) (request_folds T) p here stands))
        (ends.charts ∙ sym (ap (λ (f : RequestFolds). ended_charts T ++ f.calls ∷ []) ends.folds))
