-- A step that is refused leaves no mark.
use Rattle.std.proofs.Common.{◌≡◌, ℕ, Bool, true, false, List, ◌∷◌, [], Option, Some, None, is_some, take, refl, if◌then◌else◌}
use Rattle.cy_event.specs.declared.limits.Limits.{Limits}
use Rattle.cy_event.specs.declared.steps.Act.{Act}
use Rattle.cy_event.specs.declared.steps.Act.TheVariants as act
use Rattle.cy_event.specs.declared.steps.Event.{Event}
use Rattle.cy_event.specs.declared.steps.Event.TheVariants as event
use Rattle.cy_event.specs.declared.steps.Job.{Job}
use Rattle.cy_event.specs.declared.steps.Reply.TheVariants as reply
use Rattle.cy_map.specs.declared.rule.Rule.{Rule}
use Rattle.cy_model.specs.Entries.{opening, tick, on_event, on_run, on_act, act_marks, act_reply, after, after_act, after_callback, after_turn, callback_reply, event_marks, event_reply, is_closed_act, is_closed_to, is_full, job_reply, open_act_marks, open_act_reply, owed_after, reply_to, turn_reply, write_takes}
use Rattle.cy_model.specs.Folds.{running}
use Rattle.cy_model.specs.Outputs.{answer_of, is_gone}
use Rattle.cy_model.specs.Laws.{RefusalsLeaveNoMark}
use Rattle.cy_model.specs.Marks.{put, Trace}
use Rattle.cy_model.specs.Reads.{Reading, content_read, end_read, nothing_read, reading_marks, reading_in, reading_reply}
use Rattle.cy_model.specs.Replies.{Replied, is_refusal, plain}
use Rattle.cy_model.specs.Settling.{settled, with_marks}

-- ---- tests that choose a reply and a trace

first_stays : (v : Bool) (r s : Replied) (T S : Trace) → (is_refusal s.reply ≡ true → S ≡ T) → is_refusal (if v then r else s).reply ≡ true
    → (if v then T else S) ≡ T
first_stays true r s T S other e = refl
first_stays false r s T S other e = other e

second_stays : (v : Bool) (r s : Replied) (T S : Trace) → (is_refusal r.reply ≡ true → S ≡ T) → is_refusal (if v then r else s).reply ≡ true
    → (if v then S else T) ≡ T
second_stays true r s T S other e = other e
second_stays false r s T S other e = refl

-- ---- the kinds of entries

event_told : (T S : Trace) (e : Event) (b : List ℕ) → is_refusal (event_reply T e b) ≡ true → S ≡ T
event_told T S event.In b e = cc
event_told T S event.End b e = cc
event_told T S (event.Took n) b e = cc

turn_told : (o : Option Job) (T S : Trace) → is_refusal (job_reply o) ≡ true → S ≡ T
turn_told None T S e = cc
turn_told (Some j) T S e = cc

module _ (limits : Limits) (rules : List Rule) (t : ℕ) (T : Trace) where
  reading_told : (r : Reading) → is_refusal (reading_reply r).reply ≡ true → after_act limits rules t T (reading_marks r) ≡ T
  reading_told (content_read content) e = cc
  reading_told end_read e = cc
  reading_told nothing_read e = refl

  open_act_told : (a : Act) (b : List ℕ) → is_refusal (open_act_reply limits T a).reply ≡ true
      → after_act limits rules t T (open_act_marks limits T a b) ≡ T
  open_act_told (act.Write n) b e =
      let taken = take (write_takes (answer_of T) n) b in
      elim (is_full (answer_of T) n) as (λ v. is_refusal (if v then reply.Again else reply.Taken (write_takes (answer_of T) n)) ≡ true
      → after_act limits rules t T (if v then None else Some (put taken ∷ [])) ≡ T) [
        | true ↦ λ q. refl
        | false ↦ λ q. cc
      ] e
  open_act_told act.Return b e = cc
  open_act_told (act.Read n) b e = reading_told (reading_in n T) e

  act_told : (a : Act) (b : List ℕ) → is_refusal (act_reply limits T a).reply ≡ true → after_act limits rules t T (act_marks limits T a b) ≡ T
  act_told a b e =
      elim (is_closed_act a T) as (λ v. is_refusal (if v then plain reply.Closed else open_act_reply limits T a).reply ≡ true
      → after_act limits rules t T (if v then None else open_act_marks limits T a b) ≡ T) [
        | true ↦ λ q. refl
        | false ↦ λ q. open_act_told a b q
      ] e

pub refusals_leave_no_mark : RefusalsLeaveNoMark
unfolding after reply_to
refusals_leave_no_mark limits rules t T opening e = cc
refusals_leave_no_mark limits rules t T tick e = cc
refusals_leave_no_mark limits rules t T (on_event v b) e =
    first_stays (is_closed_to v T) (plain reply.Closed) (plain (event_reply T v b)) T (settled limits rules t (with_marks t (event_marks T v b) T))
    (event_told T _ v b) (closed_is (is_closed_to v T) e)
  where
    closed_is : (c : Bool) → is_refusal (if c then reply.Closed else event_reply T v b) ≡ true
        → is_refusal (if c then plain reply.Closed else plain (event_reply T v b)).reply ≡ true
    closed_is true q = q
    closed_is false q = q
refusals_leave_no_mark limits rules t T on_run e =
    let S = settled limits rules t T in
    first_stays (is_gone T) (plain reply.Closed) (turn_reply T S) T (after_turn t T S) (turn_told (owed_after T S) T (after_turn t T S)) e
refusals_leave_no_mark limits rules t T (on_act a b) e =
    first_stays (is_gone T) (plain reply.Closed) (callback_reply limits T a) T (after_callback limits rules t T a b)
    (second_stays (is_some (running T)) (act_reply limits T a) (plain reply.NotActive) T (after_act limits rules t T (act_marks limits T a b))
    (act_told limits rules t T a b)) e
