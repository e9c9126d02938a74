-- The end of the content is told only once all of it was handed over, and the body is whole.
use Rattle.std.proofs.Common.{◌≡◌, ◌≤◌, ℕ, Bool, true, false, List, [], ◌∷◌, drop, length, length-drop, take, take-append-drop, Option, Some, None, is_some, arith, refl, sym, ap, ◌∙◌, subst, if◌then◌else◌}
use Rattle.std.proofs.lemmas.List.{take_all}
use Rattle.cy_event.specs.declared.limits.Limits.{Limits}
use Rattle.cy_event.specs.declared.body.BodyStage.{BodyStage}
use Rattle.cy_event.specs.declared.body.BodyStage.TheVariants as stage
use Rattle.cy_event.specs.declared.steps.Act.{Act}
use Rattle.cy_event.specs.declared.steps.Act.TheVariants as act
use Rattle.cy_event.specs.declared.steps.Event.{Event}
use Rattle.cy_event.specs.declared.steps.Event.TheVariants as event
use Rattle.cy_event.specs.declared.steps.Job.{Job}
use Rattle.cy_event.specs.declared.steps.Reply.TheVariants as reply
use Rattle.cy_event.specs.Bodies.{Body, body_of, body_start, scan_bytes, whole}
use Rattle.cy_event.specs.BodyGrammar.{IsBody}
use Rattle.cy_in.proofs.BodiesAt.{whole_at}
use Rattle.cy_in.proofs.WholeWritten.{whole_is_written}
use Rattle.cy_map.specs.declared.rule.Rule.{Rule}
use Rattle.cy_model.specs.Entries.{Entry, opening, tick, on_event, on_run, on_act, act_reply, callback_reply, event_reply, is_closed_act, is_closed_to, is_full, job_reply, open_act_reply, owed_after, reply_to, trace_of, write_takes}
use Rattle.cy_model.specs.Folds.{begun_count, bytes_of, is_open, last_taken, running}
use Rattle.cy_model.specs.Inputs.{behind_head, body_by, given_count, has_whole_body, is_whole, scan_by, waiting, waiting_of}
use Rattle.cy_model.specs.Marks.{TakenUp, Trace, began, over}
use Rattle.cy_model.specs.Outputs.{answer_of, is_gone}
use Rattle.cy_model.specs.Reads.{reading_by, reading_reply}
use Rattle.cy_model.specs.Replies.{Replied, plain}
use Rattle.cy_model.specs.Settling.{settled}
use Rattle.cy_model.proofs.Ends.{Ends, ends_kept, nothing_ends, runs_open}
use Rattle.cy_model.proofs.TraceInduction.{trace_keeps}
use Rattle.cy_bodies.specs.ContentLaws.{EndsAreToldLast, IsAllContentOf}
use Rattle.cy_bodies.specs.Handed.{content_came, handed_to}
use Rattle.cy_bodies.proofs.GivenContent.{handed_told, requests_given}

-- ---- where the end is told

-- a callback runs, no content waits, and the body is whole
record MayTell (T : Trace) : Type 0 where
  job : Job
  runs : running T ≡ Some job
  none : waiting T ≡ []
  whole : has_whole_body T ≡ true

-- no content waits, and the body is whole
abbrev IsAtEnd : Trace → Type 0
IsAtEnd T = (waiting T ≡ []) × (has_whole_body T ≡ true)

abbrev IsEnd : Replied → Type 0
IsEnd r = r.reply ≡ reply.GotEnd

reading_end : (n : ℕ) (waits : List ℕ) (v : Bool) → IsEnd (reading_reply (reading_by n waits v)) → (waits ≡ []) × (v ≡ true)
reading_end n (x ∷ waits) v e = cc
reading_end n [] true e = (refl, refl)
reading_end n [] false e = cc

write_no_end : (v : Bool) (n : ℕ) → (if v then reply.Again else reply.Taken n) ≡ reply.GotEnd → ⊥
write_no_end true n e = cc
write_no_end false n e = cc

open_act_end : (limits : Limits) (T : Trace) (a : Act) → IsEnd (open_act_reply limits T a) → IsAtEnd T
open_act_end limits T (act.Read n) e = reading_end n (waiting T) (has_whole_body T) e
open_act_end limits T (act.Write n) e = absurd (write_no_end (is_full (answer_of T) n) (write_takes (answer_of T) n) e)
open_act_end limits T act.Return e = cc

act_end : (limits : Limits) (T : Trace) (a : Act) (v : Bool) → IsEnd (if v then plain reply.Closed else open_act_reply limits T a) → IsAtEnd T
act_end limits T a true e = cc
act_end limits T a false e = open_act_end limits T a e

callback_end : (limits : Limits) (T : Trace) (a : Act) (o : Option Job) → running T ≡ o
    → IsEnd (if is_some o then act_reply limits T a else plain reply.NotActive) → MayTell T
callback_end limits T a None is e = cc
callback_end limits T a (Some j) is e =
    let at = act_end limits T a (is_closed_act a T) e in
    record { job = j; runs = is; none = at.0; whole = at.1 }

gone_end : (limits : Limits) (T : Trace) (a : Act) (v : Bool) → IsEnd (if v then plain reply.Closed else callback_reply limits T a) → MayTell T
gone_end limits T a true e = cc
gone_end limits T a false e = callback_end limits T a (running T) refl e

event_no_end : (T : Trace) (e : Event) (b : List ℕ) (v : Bool) → (if v then reply.Closed else event_reply T e b) ≡ reply.GotEnd → ⊥
event_no_end T e b true q = cc
event_no_end T event.In b false q = cc
event_no_end T event.End b false q = cc
event_no_end T (event.Took n) b false q = cc

turn_no_end : (v : Bool) (o : Option Job) → IsEnd (if v then plain reply.Closed else plain (job_reply o)) → ⊥
turn_no_end true o q = cc
turn_no_end false None q = cc
turn_no_end false (Some j) q = cc

told_end : (limits : Limits) (rules : List Rule) (t : ℕ) (T : Trace) (e : Entry) → IsEnd (reply_to limits rules t T e) → MayTell T
unfolding reply_to
told_end limits rules t T opening q = cc
told_end limits rules t T tick q = cc
told_end limits rules t T (on_event e b) q = absurd (event_no_end T e b (is_closed_to e T) q)
told_end limits rules t T on_run q = absurd (turn_no_end (is_gone T) (owed_after T (settled limits rules t T)) q)
told_end limits rules t T (on_act a b) q = gone_end limits T a (is_gone T) q

-- ---- an open request is the last that was taken up

open_last : (T : Trace) → is_open T ≡ true → (r : TakenUp) × (last_taken T ≡ Some r)
open_last [] e = cc
open_last ((t, began r) ∷ T) e = (r, refl)
open_last ((t, over) ∷ T) e = cc
open_last ((t, m) ∷ T) e = open_last T e

-- ---- all of the content

whole_stage_of : (s : BodyStage) → is_whole s ≡ true → s ≡ stage.Whole
whole_stage_of stage.Whole e = refl
whole_stage_of s e = cc

-- the whole body is written, with what came as its content
all_written : (T : Trace) (r : TakenUp) → last_taken T ≡ Some r → has_whole_body T ≡ true
    → (n : ℕ) × (body_of r.max_trailer r.framing (behind_head (bytes_of T) r) ≡ whole (content_came (bytes_of T) r) n)
all_written T r is whole_now =
    let m = scan_bytes r.max_trailer (body_start r.framing) (behind_head (bytes_of T) r) in
    let at_end = whole_stage_of m.stage (sym (ap (λ (o : Option TakenUp). is_whole (scan_by o (bytes_of T)).stage) is) ∙ whole_now) in
    (m.raw, whole_at m (content_came (bytes_of T) r) m.stage at_end)

-- where none waits of a whole body, all is given
none_left : (T : Trace) (r : TakenUp) (n : ℕ) → last_taken T ≡ Some r → body_of r.max_trailer r.framing (behind_head (bytes_of T) r) ≡ whole (content_came (bytes_of T) r) n
    → waiting T ≡ [] → length (content_came (bytes_of T) r) ≤ given_count T
none_left T r n is body none =
    let content = content_came (bytes_of T) r in
    let left : drop (given_count T) content ≡ [] =
    sym (ap (λ (o : Option TakenUp). waiting_of (body_by o (bytes_of T)) (given_count T)) is ∙ ap (λ (b : Body). waiting_of b (given_count T)) body) ∙ none in
    omega (arith, ap length left, length-drop (given_count T) content)

all_given : (T : Trace) (r : TakenUp) (held : List ℕ) → last_taken T ≡ Some r → has_whole_body T ≡ true → waiting T ≡ []
    → held ≡ take (given_count T) (content_came (bytes_of T) r) → IsAllContentOf held (bytes_of T) r
all_given T r held is whole_now none first =
    let bytes = behind_head (bytes_of T) r in
    let content = content_came (bytes_of T) r in
    let b = all_written T r is whole_now in
    let w = whole_is_written r.max_trailer r.framing bytes content b.0 b.1 in
    let same : content ≡ held = sym (first ∙ take_all (given_count T) content (none_left T r b.0 is b.1 none)) in
    record {
      body = take b.0 bytes;
      behind = drop b.0 bytes;
      written = subst (IsBody r.max_trailer r.framing (take b.0 bytes)) same w.1;
      front = sym (take-append-drop b.0 bytes);
    }

pub ends_are_told_last : EndsAreToldLast
ends_are_told_last limits rules entries t e q =
    let T = trace_of limits rules entries in
    let number = begun_count T in
    let m = told_end limits rules t T e q in
    let ends = trace_keeps Ends limits rules (ends_kept limits rules) nothing_ends entries in
    let last = open_last T (runs_open T m.job ends m.runs) in
    let p = requests_given limits rules number entries in
    let same = p.1 refl in
    let f = p.2 last.0 (same.0 ∙ last.1) in
    let first : handed_to limits rules number entries ≡ take (given_count T) (content_came (bytes_of T) last.0) =
    handed_told limits rules number entries ∙ f.1 ∙ ap (λ (n : ℕ). take n (content_came (bytes_of T) last.0)) (sym same.1) in
    record {
      last = last.0;
      taken = last.1;
      all = all_given T last.0 (handed_to limits rules number entries) last.1 m.whole m.none first;
    }
