-- A head that is taken up or refused: the parts that follow stand for the trace that follows.
use Rattle.std.proofs.Common.{◌≡◌, ◌≤◌, inl, ℕ, ◌+◌, ◌++◌, Bool, true, false, not, ◌&&◌, List, [], ◌∷◌, length, map, Some, None, refl, sym, ap, ◌∙◌, subst, arith, codes, bytes_eq, if◌then◌else◌}
use Rattle.std.proofs.lemmas.Bool.{and_parts}
use Rattle.std.proofs.lemmas.List.{append-nil}
use Rattle.cy_event.specs.declared.limits.Limits.{Limits}
use Rattle.cy_event.specs.declared.steps.CloseCause.TheVariants.{Refused}
use Rattle.cy_event.specs.Answers.{Answer, error_answer as error_answer_of, fresh_answer}
use Rattle.cy_event.specs.Charts.{chart_of}
use Rattle.cy_event.specs.Framings.{Framed, bad_request}
use Rattle.cy_event.specs.Heads.{Head, Front, awaited, found, malformed, head_of}
use Rattle.cy_event.specs.Targets.{target_of}
use Rattle.cy_event.specs.RequestHeads.{RequestParts}
use Rattle.cy_event.proofs.Fronts.{front_length-bounds, head_of-found}
use Rattle.cy_head.specs.Answers.{answer_to}
use Rattle.cy_head.specs.declared.front.Front.TheVariants as answer
use Rattle.cy_framing.specs.declared.verdict.Framed.{Framed as FramedSo}
use Rattle.cy_map.specs.declared.rule.Rule.{Rule}
use Rattle.cy_event.specs.Answering.{beginning}
use Rattle.cy_model.specs.Folds.{begun_count, calls, cause_of, ended_charts, is_open}
use Rattle.cy_model.specs.Inputs.{consumed, unread}
use Rattle.cy_model.specs.Outputs.{asked_of}
use Rattle.cy_model.specs.Marks.{Mark, began, refused, error_answer, over, caused, TakenUp, Trace}
use Rattle.cy_model.specs.Settling.{Due, nothing, refusal, not_found, request, due_by_front, due_by_verdict, due_move, due_of, front_of, is_awaited, is_last_number, last_answer_marks, may_begin, rested, taken_up, with_marks, after_move}
use Rattle.cy_model.specs.Unbuilt.{is_unbuilt_request}
use Rattle.cy_model.specs.Verdicts.{Verdict, turned_away, unserved, served, is_head_method, not_found_status, verdict_of}
use Rattle.cy_model.proofs.Moves.{may_begin-parts}
use Rattle.cy_model.proofs.LeftToDo.{DueTakes, due_takes}
use Rattle.cy_target.specs.Kept.{with_target}
use Rattle.cy_proc.specs.Judging.{IsVerdict}
use Rattle.cy_proc.specs.declared.verdict.Judgement.TheVariants as judged
use Rattle.cy_proc.specs.Lines.{LineParts, Represents}
use Rattle.cy_proc.specs.LineChanges.{after_begin, after_end_of, after_refusal, after_rest, is_due}
use Rattle.cy_proc.specs.ProcessorAnswers.{Serves, ServesAfter, TakesUp, ended_items}
use Rattle.cy_proc.specs.ProcessorChanges.{due_at, due_of_head, line_with, processor_with, with_request}
use Rattle.cy_proc.specs.Processors.{IsIdle, IsOfRequest, IsServiceAlone, ProcessorParts, RequestFolds, StandsForRequest, fresh_processor, is_open_at, request_folds, service_by, stage_by, uncut, waiting_content}
use Rattle.cy_proc.specs.declared.processor.Stage.TheVariants as stage
use Rattle.cy_proc.proofs.Built.{IsBuiltDue, built_more, due_built}
use Rattle.cy_proc.proofs.Lines.{Holds, began_held, holds, marks_by, plainly, refused_stands, rest_moment, rest_stands, same_input}
use Rattle.cy_proc.proofs.Ends.{over_stands}
use Rattle.cy_proc.proofs.Requests.{head_kept, rested_same, stands_idle, stands_same}
use Rattle.cy_proc.proofs.ReturnParts.{ended_serves, over_ends}

-- ---- what the code does

-- a head that is turned away is refused
turned_line : (limits : Limits) (number size : ℕ) (head : Head) (l : LineParts) (v : Verdict) (status : ℕ) → IsVerdict v (judged.TurnedAway status) → line_with (due_by_verdict limits 0 number size head v) l ≡ after_refusal status (is_head_method head) l
turned_line limits number size head l (turned_away s) status is = ap (λ (k : ℕ). after_refusal k (is_head_method head) l) (sym is)
turned_line limits number size head l (unserved f) status is = absurd is
turned_line limits number size head l (served rule f) status is = absurd is

pub turned_from : (limits : Limits) (rules : List Rule) (size status : ℕ) (to_head : Bool) (old new : RequestParts) (l k : LineParts) → IsVerdict (verdict_of rules old.head) (judged.TurnedAway status) → new.head ≡ old.head → to_head ≡ bytes_eq new.head.method (codes "HEAD") → k ≡ after_refusal status to_head l → k ≡ line_with (due_of_head limits rules size old.head l) l
turned_from limits rules size status to_head old new l k is same says refused_line =
    refused_line
    ∙ ap (λ (v : Bool). after_refusal status v l) (says ∙ ap is_head_method same)
    ∙ sym (turned_line limits (l.begun + 1) size old.head l (verdict_of rules old.head) status is)

-- a head that no rule serves begins and ends
unserved_line : (limits : Limits) (number size : ℕ) (head : Head) (l : LineParts) (v : Verdict) (so : FramedSo) → IsVerdict v (judged.Unserved so)
    → line_with (due_by_verdict limits 0 number size head v) l
    ≡ after_end_of (so.keep && not (is_last_number limits.max_keep_alive number)) head.minor (error_answer_of not_found_status) (after_begin size so.body limits.max_trailer false l)
unserved_line limits number size head l (turned_away s) so is = absurd is
unserved_line limits number size head l (unserved f) so is =
    ap (λ (k : Framed). after_end_of (k.keep && not (is_last_number limits.max_keep_alive number)) head.minor (error_answer_of not_found_status) (after_begin size k.body limits.max_trailer false l)) (sym is)
unserved_line limits number size head l (served rule f) so is = absurd is

pub unserved_from : (limits : Limits) (rules : List Rule) (size minor : ℕ) (so : FramedSo) (keep : Bool) (old new : RequestParts) (l begun k : LineParts)
    → IsVerdict (verdict_of rules old.head) (judged.Unserved so) → new ≡ with_target (target_of old.head.method old.head.target) old
    → keep ≡ (so.keep && not (is_last_number limits.max_keep_alive (l.begun + 1))) → minor ≡ new.head.minor
    → begun ≡ after_begin size so.body limits.max_trailer false l → k ≡ after_end_of keep minor (error_answer_of not_found_status) begun
    → k ≡ line_with (due_of_head limits rules size old.head l) l
unserved_from limits rules size minor so keep old new l begun k is same kept numbered begin finished =
    finished
    ∙ ap (λ (v : Bool). after_end_of v minor (error_answer_of not_found_status) begun) kept
    ∙ ap (λ (n : ℕ). after_end_of (so.keep && not (is_last_number limits.max_keep_alive (l.begun + 1))) n (error_answer_of not_found_status) begun)
    (numbered ∙ ap (λ (r : RequestParts). r.head.minor) same ∙ ap (λ (h : Head). h.minor) (head_kept (target_of old.head.method old.head.target) old))
    ∙ ap (after_end_of (so.keep && not (is_last_number limits.max_keep_alive (l.begun + 1))) old.head.minor (error_answer_of not_found_status)) begin
    ∙ sym (unserved_line limits (l.begun + 1) size old.head l (verdict_of rules old.head) so is)

-- how long a head is that is found
pub found_bounds : (max_head max_fields : ℕ) (b : List ℕ) (n : ℕ) → answer_to (head_of max_head max_fields b) ≡ answer.Head n → (1 ≤ n) × (n ≤ length b)
found_bounds max_head max_fields b n e =
    elim (head_of max_head max_fields b) as (λ f. head_of max_head max_fields b ≡ f → answer_to f ≡ answer.Head n → (1 ≤ n) × (n ≤ length b)) [
      | awaited ↦ λ at is. cc
      | malformed ↦ λ at is. cc
      | found size h ↦ λ at is.
          let same : size ≡ n = cc in
          subst (λ (k : ℕ). (1 ≤ k) × (k ≤ length b)) same (front_length-bounds b size (head_of-found max_head max_fields b size h at))
    ] refl e

-- a bad front is refused
pub bad_line : (limits : Limits) (rules : List Rule) (number : ℕ) (f : Front) (l : LineParts) → answer_to f ≡ answer.Bad → line_with (due_by_front limits rules 0 number f) l ≡ after_refusal bad_request false l
bad_line limits rules number awaited l e = cc
bad_line limits rules number malformed l e = refl
bad_line limits rules number (found n h) l e = cc

-- ---- what is due stands for a place

-- the same, for a head at this place
at_place : ℕ → Due → Due
at_place place nothing = nothing
at_place place (refusal status to_head) = refusal status to_head
at_place place (not_found r) = not_found (record r { place = place })
at_place place (request r) = request (record r { place = place })

placed : (limits : Limits) (rules : List Rule) (place number : ℕ) (f : Front) → due_by_front limits rules place number f ≡ at_place place (due_by_front limits rules 0 number f)
unfolding at_place
placed limits rules place number awaited = refl
placed limits rules place number malformed = refl
placed limits rules place number (found n h) =
    elim (verdict_of rules h) as (λ v. due_by_verdict limits place number n h v ≡ at_place place (due_by_verdict limits 0 number n h v)) [
      | turned_away status ↦ refl
      | unserved f ↦ refl
      | served rule f ↦ refl
    ]

-- nothing is due only while a head is awaited
not_nothing : (limits : Limits) (rules : List Rule) (number : ℕ) (f : Front) → due_by_front limits rules 0 number f ≡ nothing → is_awaited f ≡ true
not_nothing limits rules number awaited e = refl
not_nothing limits rules number malformed e = cc
not_nothing limits rules number (found n h) e =
    elim (verdict_of rules h) as (λ v. due_by_verdict limits 0 number n h v ≡ nothing → is_awaited (found n h) ≡ true) [
      | turned_away status ↦ λ d. cc
      | unserved f ↦ λ d. cc
      | served rule f ↦ λ d. cc
    ] e

-- ---- what is taken up

-- the marks of what was due were made, and line and processor stand for what follows
record Taken (limits : Limits) (T : Trace) (d : Due) (l k : LineParts) (p : ProcessorParts) : Type 0 where
  marks : List Mark
  moved : due_move d ≡ Some marks
  follows : ServesAfter T (rested limits l.moment (with_marks l.moment marks T)) k p

-- a refused head leaves no request
refusal_parts : (limits : Limits) (status : ℕ) (to_head : Bool) (T : Trace) (t : ℕ) → is_open T ≡ false → IsOfRequest (request_folds ((t, caused Refused) ∷ (t, refused status to_head) ∷ T)) (record (fresh_processor limits) { stage = stage.Refused })
refusal_parts limits status to_head T t closed = record {
  same = sym (ap (λ (v : Bool). record (fresh_processor limits) { stage = stage_by v true None None; content = waiting_content v fresh_answer }) closed);
  alone = record {
    minor = refl;
    begun = refl;
    taken = λ o. cc;
    state = refl;
    running = sym (ap (λ (v : Bool). service_by v false 0) closed);
    calls = λ o. refl;
    answer = λ o. refl;
    few = λ o. omega arith;
    sending = λ o. refl;
  };
}

refusal_taken : (limits : Limits) (T : Trace) (status : ℕ) (to_head : Bool) (l : LineParts) → IsIdle (request_folds T) → cause_of T ≡ None → Represents T l → Taken limits T (refusal status to_head) l (after_rest limits (after_refusal status to_head l)) (record (fresh_processor limits) { stage = stage.Refused })
refusal_taken limits T status to_head l idle none s =
    let m = l.moment in
    let R : Trace = (m, caused Refused) ∷ (m, refused status to_head) ∷ T in
    let q : ProcessorParts = record (fresh_processor limits) { stage = stage.Refused } in
    let stood = refused_stands status to_head T l idle.closed none s in
    let same = rested_same limits m R (plainly R stood.sound) in
    record {
      marks = refused status to_head ∷ caused Refused ∷ [];
      moved = refl;
      follows = record {
        serves = record {
          line = rest_stands limits m R (after_refusal status to_head l) (omega arith) (holds R (after_refusal status to_head l) stood);
          processor = stands_same R (rested limits m R) q same (inl (refusal_parts limits status to_head T m idle.closed));
        };
        charts = ap (map chart_of) same.charts ∙ sym (append-nil (ended_items T));
      };
    }

-- how long the head of a request is
size_bounds : (limits : Limits) (T : Trace) (r : TakenUp) → front_of limits T ≡ found r.size r.head → (1 ≤ r.size) × (r.size ≤ length (unread T))
size_bounds limits T r front = front_length-bounds (unread T) r.size (head_of-found limits.max_head limits.max_fields (unread T) r.size r.head front)

-- the request isn't one of HEAD
not_head : (r : TakenUp) → is_unbuilt_request r ≡ false → is_head_method r.head ≡ false
not_head r built = built

-- how its answer begins, with this content
begins_uncut : (r : TakenUp) (a : Answer) → is_unbuilt_request r ≡ false → record (beginning (asked_of r)) { waiting = a.content } ≡ uncut r.head.minor r.keep a
begins_uncut r a built =
    ap (λ (v : Bool). record (beginning (record { minor = r.head.minor; is_head = v; keep = r.keep })) { waiting = a.content }) (not_head r built)

-- a request that was just taken up
begun_alone : (r : TakenUp) (T : Trace) (t : ℕ) → is_unbuilt_request r ≡ false → IsServiceAlone (request_folds ((t, began r) ∷ T))
begun_alone r T t built = record {
  minor = refl;
  begun = refl;
  taken = λ o. refl;
  state = refl;
  running = refl;
  calls = λ o. refl;
  answer = λ o. refl;
  few = λ o. omega arith;
  sending = λ o. begins_uncut r fresh_answer built;
}

request_taken : (limits : Limits) (T : Trace) (r : TakenUp) (l : LineParts) → r.place ≡ consumed T → front_of limits T ≡ found r.size r.head → is_unbuilt_request r ≡ false → cause_of T ≡ None → Represents T l → Taken limits T (request r) l (after_rest limits (after_begin r.size r.framing r.max_trailer r.go_on l)) (with_request stage.Owed r (fresh_processor limits))
request_taken limits T r l place front built none s =
    let m = l.moment in
    let R : Trace = (m, began r) ∷ T in
    let q : ProcessorParts = with_request stage.Owed r (fresh_processor limits) in
    let bounds = size_bounds limits T r front in
    let stood = began_held r T l place bounds.1 built none bounds.0 s in
    let same = rested_same limits m R (plainly R stood.sound) in
    let stands : StandsForRequest R q = inl (record { same = refl; alone = begun_alone r T m built }) in
    record {
      marks = began r ∷ [];
      moved = refl;
      follows = record {
        serves = record {
          line = rest_stands limits m R (after_begin r.size r.framing r.max_trailer r.go_on l) (omega arith) stood;
          processor = stands_same R (rested limits m R) q same stands;
        };
        charts = ap (map chart_of) same.charts ∙ sym (append-nil (ended_items T));
      };
    }

error_mark : (T : Trace) (l : LineParts) → Holds T l → Holds ((l.moment, error_answer not_found_status) ∷ T) l
error_mark T l s = let i = s.sound.input in record {
  same = s.same;
  sound = record {
    input = same_input T ((l.moment, error_answer not_found_status) ∷ T) i i.given i.heads_came i.told;
    took_past = s.sound.took_past;
    built = built_more l.moment (error_answer not_found_status) T refl s.sound.built;
    calm = s.sound.calm;
  };
  none_later = marks_by l.moment l.moment (error_answer not_found_status ∷ []) T (omega arith) s.none_later;
}

not_found_taken : (limits : Limits) (T : Trace) (r : TakenUp) (l : LineParts) → r.place ≡ consumed T → front_of limits T ≡ found r.size r.head → is_unbuilt_request r ≡ false → cause_of T ≡ None → Represents T l → Taken limits T (not_found r) l (after_rest limits (after_end_of r.keep r.head.minor (error_answer_of not_found_status) (after_begin r.size r.framing r.max_trailer r.go_on l))) (with_request stage.Over r (fresh_processor limits))
not_found_taken limits T r l place front built none s =
    let m = l.moment in
    let a = error_answer_of not_found_status in
    let S : Trace = (m, error_answer not_found_status) ∷ (m, began r) ∷ T in
    let R : Trace = with_marks m (over ∷ last_answer_marks r.keep) S in
    let q : ProcessorParts = with_request stage.Over r (fresh_processor limits) in
    let k : LineParts = after_begin r.size r.framing r.max_trailer r.go_on l in
    let bounds = size_bounds limits T r front in
    let begun : Holds S k = error_mark ((m, began r) ∷ T) k (began_held r T l place bounds.1 built none bounds.0 s) in
    let line : Represents R (after_end_of r.keep r.head.minor a k) =
    over_stands S k r.head.minor r.keep a refl (begins_uncut r a built) refl refl refl none begun in
    let ends = over_ends m r.keep S in
    let stands : IsOfRequest (request_folds R) q =
    subst (λ (f : RequestFolds). IsOfRequest f q) (sym ends.folds) (record {
      same = refl;
      alone = record {
        minor = refl;
        begun = refl;
        taken = λ o. cc;
        state = refl;
        running = refl;
        calls = λ o. cc;
        answer = λ o. cc;
        few = λ o. cc;
        sending = λ o. cc;
      };
    }) in
    let charts : ended_charts R ≡ ended_charts T ++ calls R ∷ [] = ends.charts ∙ sym (ap (λ (f : RequestFolds). ended_charts T ++ f.calls ∷ []) ends.folds) in
    record {
      marks = began r ∷ error_answer not_found_status ∷ over ∷ last_answer_marks r.keep;
      moved = refl;
      follows = ended_serves limits m T R (after_end_of r.keep r.head.minor a k) q refl stands charts (omega arith) line;
    }

-- whatever is due, but for nothing
due_taken : (limits : Limits) (T : Trace) (d : Due) (l : LineParts) → (d ≡ nothing → ⊥) → DueTakes (consumed T) (front_of limits T) (at_place (consumed T) d) → IsBuiltDue d → IsIdle (request_folds T) → cause_of T ≡ None → Represents T l → Taken limits T (at_place (consumed T) d) l (after_rest limits (line_with d l)) (processor_with d (fresh_processor limits))
unfolding DueTakes IsBuiltDue at_place
due_taken limits T nothing l some takes built closed none s = absurd (some refl)
due_taken limits T (refusal status to_head) l some takes built closed none s = refusal_taken limits T status to_head l closed none s
due_taken limits T (not_found r) l some takes built closed none s = not_found_taken limits T (record r { place = consumed T }) l refl takes.0 built none s
due_taken limits T (request r) l some takes built closed none s = request_taken limits T (record r { place = consumed T }) l refl takes.0 built none s

not_both : (v : Bool) → not v ≡ true → v ≡ true → ⊥
not_both true e f = cc
not_both false e f = cc

pub same_limits : (d : Due) (p : ProcessorParts) → (processor_with d p).limits ≡ p.limits
same_limits nothing p = refl
same_limits (refusal status to_head) p = refl
same_limits (not_found r) p = refl
same_limits (request r) p = refl

same_moment : (d : Due) (l : LineParts) → (line_with d l).moment ≡ l.moment
same_moment nothing l = refl
same_moment (refusal status to_head) l = refl
same_moment (not_found r) l = refl
same_moment (request r) l = refl

pub opened_moment : (limits : Limits) (rules : List Rule) (l taken new : LineParts) → taken ≡ line_with (due_at limits rules l) l → new ≡ after_rest limits taken → new.moment ≡ l.moment
opened_moment limits rules l taken new t r =
    ap (λ (k : LineParts). k.moment) r ∙ rest_moment limits taken ∙ ap (λ (k : LineParts). k.moment) t ∙ same_moment (due_at limits rules l) l

pub open_takes : (limits : Limits) (rules : List Rule) (T : Trace) (l taken new : LineParts) (p q : ProcessorParts) → p ≡ fresh_processor limits → is_due limits l ≡ true → Serves T l p → taken ≡ line_with (due_at limits rules l) l → q ≡ processor_with (due_at limits rules l) p → new ≡ after_rest limits taken → TakesUp rules T new q
open_takes limits rules T l taken new p q free due s begun held rests =
    let d = due_by_front limits rules 0 (begun_count T + 1) (front_of limits T) in
    let place = consumed T in
    let at_trace : due_at limits rules l ≡ d = ap (λ (k : LineParts). due_at limits rules k) s.line.same in
    let due_trace : (may_begin T && not (is_awaited (front_of limits T))) ≡ true =
    ap (λ (k : LineParts). is_due limits k) (sym s.line.same) ∙ due in
    let tests = and_parts (may_begin T) (not (is_awaited (front_of limits T))) due_trace in
    let free_now = may_begin-parts T tests.0 in
    let idle : IsIdle (request_folds T) = stands_idle T p (ap (λ (k : ProcessorParts). is_open_at k.stage) free) s.processor in
    let here : due_of limits rules T ≡ at_place place d = placed limits rules place (begun_count T + 1) (front_of limits T) in
    let takes = subst (DueTakes place (front_of limits T)) here (due_takes limits rules place (begun_count T + 1) (front_of limits T)) in
    let w = due_taken limits T d l (λ e. not_both (is_awaited (front_of limits T)) tests.1 (not_nothing limits rules (begun_count T + 1) (front_of limits T) e)) takes (due_built limits rules 0 (begun_count T + 1) (front_of limits T)) idle free_now.1 s.line in
    let line : new ≡ after_rest limits (line_with d l) = rests ∙ ap (after_rest limits) (begun ∙ ap (λ (x : Due). line_with x l) at_trace) in
    let processor : q ≡ processor_with d (fresh_processor limits) = held ∙ ap (λ (x : Due). processor_with x p) at_trace ∙ ap (processor_with d) free in
    let same : q.limits ≡ limits = ap (λ (x : ProcessorParts). x.limits) processor ∙ same_limits d (fresh_processor limits) in
    let m : new.moment ≡ l.moment = opened_moment limits rules l taken new begun rests in
    let moved : taken_up limits rules l.moment T ≡ Some (with_marks l.moment w.marks T) =
    ap (λ (v : Bool). after_move l.moment T (if v then due_move (due_of limits rules T) else None)) tests.0
    ∙ ap (after_move l.moment T) (ap due_move here ∙ w.moved) in
    let serves : ServesAfter T (rested limits l.moment (with_marks l.moment w.marks T)) new q =
    subst (λ (k : LineParts). ServesAfter T (rested limits l.moment (with_marks l.moment w.marks T)) k q) (sym line)
    (subst (λ (x : ProcessorParts). ServesAfter T (rested limits l.moment (with_marks l.moment w.marks T)) (after_rest limits (line_with d l)) x) (sym processor) w.follows) in
    record {
      trace = with_marks l.moment w.marks T;
      taken = ap (λ (k : Limits). taken_up k rules new.moment T) same ∙ ap (λ (t : ℕ). taken_up limits rules t T) m ∙ moved;
      after = subst (λ (k : Limits). ServesAfter T (rested k new.moment (with_marks l.moment w.marks T)) new q) (sym same)
          (subst (λ (t : ℕ). ServesAfter T (rested limits t (with_marks l.moment w.marks T)) new q) (sym m) serves);
    }
