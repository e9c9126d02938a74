-- What one entry adds to the input and gives of it: the bytes that there is room for, the content that waits, or nothing.
use Rattle.std.proofs.Common.{◌≡◌, ◌≤◌, ℕ, Bool, true, false, cond, length, length-take, arith, take, List, [], ◌∷◌, Option, Some, None, is_some, refl, subst}
use Rattle.cy_event.specs.declared.limits.Limits.{Limits}
use Rattle.cy_event.specs.declared.steps.Act.{Act}
use Rattle.cy_event.specs.declared.steps.Act.TheVariants as act
use Rattle.cy_event.specs.declared.steps.Call.TheVariants as call
use Rattle.cy_event.specs.declared.steps.Event.{Event}
use Rattle.cy_event.specs.declared.steps.Event.TheVariants as event
use Rattle.cy_event.specs.declared.steps.Job.{Job}
use Rattle.cy_event.specs.declared.steps.Reply.TheVariants as reply
use Rattle.cy_map.specs.declared.rule.Rule.{Rule}
use Rattle.cy_model.specs.Endings.{end_marks}
use Rattle.cy_model.specs.Entries.{Entry, opening, tick, on_event, on_run, on_act, act_marks, act_reply, after, after_act, after_callback, after_turn, callback_reply, event_marks, is_closed_act, is_closed_to, is_full, job_marks, open_act_marks, open_act_reply, owed_after, reply_to, return_marks, sent_of, trace_of, turn_reply, write_takes}
use Rattle.cy_model.specs.Folds.{running}
use Rattle.cy_model.specs.Inputs.{has_whole_body, room, waiting}
use Rattle.cy_model.specs.Laws.{is_containers}
use Rattle.cy_model.specs.Marks.{Mark, opened, ended, end_given, came, given, sent, back, called, started, put, Trace}
use Rattle.cy_model.specs.Outputs.{answer_of, is_gone}
use Rattle.cy_model.specs.Reads.{reading_by, reading_marks, reading_reply}
use Rattle.cy_model.specs.Replies.{plain}
use Rattle.cy_model.specs.Settling.{settled, with_marks}
use Rattle.cy_model.proofs.ContainerMarks.{end_containers, marks_keep, settled-by-marks}
use Rattle.cy_model.proofs.TraceInduction.{job_begins, return_keeps, returned}

-- bytes come, or content is given
abbrev pub moves_input : Mark → Bool
moves_input (came b) = true
moves_input (given n) = true
moves_input m = false

containers_move_none : (m : Mark) → is_containers m ≡ true → moves_input m ≡ false
containers_move_none (came b) e = cc
containers_move_none (given n) e = cc
containers_move_none m e = refl

-- What holds of the trace before an entry and of no content, holds of the trace behind it and of the content that its
-- reply hands over.
pub record KeptByWalk (t : ℕ) (T : Trace) (W : Trace → List ℕ → Type 0) : Type 0 where
  pub start : W T []
  pub others : (u : ℕ) (m : Mark) (S : Trace) (got : List ℕ) → moves_input m ≡ false → W S got → W ((u, m) ∷ S) got
  pub comes : (b : List ℕ) → W ((t, came (take (room T) b)) ∷ T) []
  pub gives : (n : ℕ) → W ((t, given (length (take n (waiting T)))) ∷ T) (take n (waiting T))

module _ (limits : Limits) (rules : List Rule) (t : ℕ) (T : Trace) (W : Trace → List ℕ → Type 0) (k : KeptByWalk t T W) where
  contained : (got : List ℕ) (u : ℕ) (m : Mark) (S : Trace) → is_containers m ≡ true → W S got → W ((u, m) ∷ S) got
  contained got u m S c w = k.others u m S got (containers_move_none m c) w

  settles : (S : Trace) (got : List ℕ) → W S got → W (settled limits rules t S) got
  settles S got w = settled-by-marks limits rules (λ R. W R got) (contained got) t S w

  event_walks : (e : Event) (b : List ℕ) → W (with_marks t (event_marks T e b) T) []
  event_walks event.In b = k.comes b
  event_walks event.End b = k.others t ended T [] refl k.start
  event_walks (event.Took n) b = k.others t (sent (sent_of n T)) T [] refl k.start

  -- a callback begins
  job_walks : (S : Trace) (o : Option Job) → W S [] → W (with_marks t (job_marks o) S) []
  job_walks S None w = w
  job_walks S (Some j) w =
      let begun = k.others t (started j) S [] refl w in
      job_begins (λ R. W R []) t j S (λ e. begun) (λ e. k.others t (called call.Run None) ((t, started j) ∷ S) [] refl begun)

  return_walks : W (with_marks t (return_marks T) T) []
  return_walks =
      let here = k.others t (called call.Return None) ((t, back) ∷ T) [] refl (k.others t back T [] refl k.start) in
      return_keeps (λ R. W R []) t T (λ e. here)
      (λ e. marks_keep (λ R. W R []) (contained []) t (end_marks T) (returned t T) (end_containers T) here)

  -- content that waits is given, its end is told, or nothing is
  reading_walks : (n : ℕ) (waits : List ℕ) (whole : Bool) → waiting T ≡ waits
      → W (after_act limits rules t T (reading_marks (reading_by n waits whole))) (reading_reply (reading_by n waits whole)).got
  reading_walks n (x ∷ waits) whole e =
      settles ((t, given (length (take n (x ∷ waits)))) ∷ T) (take n (x ∷ waits))
      (subst (λ (bs : List ℕ). W ((t, given (length (take n bs))) ∷ T) (take n bs)) e (k.gives n))
  reading_walks n [] true e = settles ((t, end_given) ∷ T) [] (k.others t end_given T [] refl k.start)
  reading_walks n [] false e = k.start

  open_act_walks : (a : Act) (b : List ℕ) → W (after_act limits rules t T (open_act_marks limits T a b)) (open_act_reply limits T a).got
  open_act_walks (act.Read n) b = reading_walks n (waiting T) (has_whole_body T) refl
  open_act_walks (act.Write n) b =
      let taken = take (write_takes (answer_of T) n) b in
      elim (is_full (answer_of T) n) as (λ v. W (after_act limits rules t T (cond v None (Some (put taken ∷ [])))) []) [
        | true ↦ k.start
        | false ↦ settles ((t, put taken) ∷ T) [] (k.others t (put taken) T [] refl k.start)
      ]
  open_act_walks act.Return b = settles (with_marks t (return_marks T) T) [] return_walks

  act_walks : (a : Act) (b : List ℕ) → W (after_act limits rules t T (act_marks limits T a b)) (act_reply limits T a).got
  act_walks a b =
      elim (is_closed_act a T) as (λ v. W (after_act limits rules t T (cond v None (open_act_marks limits T a b)))
      (cond v (plain reply.Closed) (open_act_reply limits T a)).got) [
        | true ↦ k.start
        | false ↦ open_act_walks a b
      ]

  callback_walks : (a : Act) (b : List ℕ) → W (after_callback limits rules t T a b) (callback_reply limits T a).got
  callback_walks a b =
      elim (is_some (running T)) as (λ v. W (cond v (after_act limits rules t T (act_marks limits T a b)) T)
      (cond v (act_reply limits T a) (plain reply.NotActive)).got) [
        | true ↦ act_walks a b
        | false ↦ k.start
      ]

  pub entry_walks : (e : Entry) → W (after limits rules t T e) (reply_to limits rules t T e).got
  unfolding after reply_to
  entry_walks opening = settles ((t, opened) ∷ T) [] (k.others t opened T [] refl k.start)
  entry_walks tick = settles T [] k.start
  entry_walks (on_event e b) =
      elim (is_closed_to e T) as (λ v. W (cond v T (settled limits rules t (with_marks t (event_marks T e b) T))) []) [
        | true ↦ k.start
        | false ↦ settles (with_marks t (event_marks T e b) T) [] (event_walks e b)
      ]
  entry_walks on_run =
      let S = settled limits rules t T in
      elim (is_gone T) as (λ v. W (cond v T (after_turn t T S)) (cond v (plain reply.Closed) (turn_reply T S)).got) [
        | true ↦ k.start
        | false ↦ job_walks S (owed_after T S) (settles T [] k.start)
      ]
  entry_walks (on_act a b) =
      elim (is_gone T) as (λ v. W (cond v T (after_callback limits rules t T a b)) (cond v (plain reply.Closed) (callback_reply limits T a)).got) [
        | true ↦ k.start
        | false ↦ callback_walks a b
      ]

-- ---- each piece of bytes fits the room, and content waits as it is given

abbrev pub Fits : Mark → Trace → Type 0
Fits (came b) T = length b ≤ room T
Fits (given n) T = n ≤ length (waiting T)
Fits m T = Unit {0}

abbrev pub AllFit : Trace → Type 0
AllFit [] = Unit {0}
AllFit ((t, m) ∷ T) = Fits m T × AllFit T

others_fit : (m : Mark) (T : Trace) → moves_input m ≡ false → Fits m T
others_fit (came b) T e = cc
others_fit (given n) T e = cc
others_fit m T e = tt

walk_fits : (t : ℕ) (T : Trace) → AllFit T → KeptByWalk t T (λ S got. AllFit S)
walk_fits t T all = record {
  start = all;
  others = λ u m S got e fits. (others_fit m S e, fits);
  comes = λ b. (omega (arith, length-take (room T) b), all);
  gives = λ n. (omega (arith, length-take n (waiting T)), all);
}

pub entries_fit : (limits : Limits) (rules : List Rule) (entries : List (ℕ × Entry)) → AllFit (trace_of limits rules entries)
entries_fit limits rules [] = tt
entries_fit limits rules ((t, e) ∷ entries) =
    let T = trace_of limits rules entries in
    entry_walks limits rules t T (λ S got. AllFit S) (walk_fits t T (entries_fit limits rules entries)) e
