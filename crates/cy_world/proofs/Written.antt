-- What is written between two entries stands behind what was written before.
use Rattle.std.proofs.Common.{◌≡◌, ℕ, true, false, List, [], ◌∷◌, ◌++◌, length, take, drop, take-append-drop, Option, Some, None, is_some, append_assoc, refl, sym, ap, ◌∙◌, arith, if◌then◌else◌, cond}
use Rattle.std.proofs.lemmas.List.{append-nil, drop_all, drop-append-le}
use Rattle.cy_event.specs.declared.limits.Limits.{Limits}
use Rattle.cy_event.specs.declared.steps.Act.{Act}
use Rattle.cy_event.specs.declared.steps.Act.TheVariants as act
use Rattle.cy_event.specs.declared.steps.Call.TheVariants as call
use Rattle.cy_event.specs.declared.steps.CloseCause.{CloseCause}
use Rattle.cy_event.specs.declared.steps.Event.{Event}
use Rattle.cy_event.specs.declared.steps.Event.TheVariants as event
use Rattle.cy_event.specs.declared.steps.Job.{Job}
use Rattle.cy_event.specs.Callbacks.{makes_calls}
use Rattle.cy_event.specs.Table.{is_end, row}
use Rattle.cy_map.specs.declared.rule.Rule.{Rule}
use Rattle.cy_model.specs.Endings.{end_marks}
use Rattle.cy_model.specs.Entries.{act_marks, after_act, after_callback, after_turn, end_marks_where, event_marks, is_closed_act, is_closed_to, is_full, job_marks, open_act_marks, owed_after, rested_event, return_marks, run_marks, sent_of, write_takes}
use Rattle.cy_model.specs.Folds.{cause_of, running, state_of}
use Rattle.cy_model.specs.Inputs.{room}
use Rattle.cy_model.specs.Laws.{is_containers}
use Rattle.cy_model.specs.Marks.{Mark, back, called, came, broken, end_given, ended, given, put, sent, started, Trace}
use Rattle.cy_model.specs.Outputs.{answer_of, output, unsent, writing}
use Rattle.cy_model.specs.Reads.{content_read, end_read, nothing_read, reading_in, reading_marks}
use Rattle.cy_model.specs.Settling.{rested, settled, with_marks}
use Rattle.cy_model.proofs.Built.{IsPlain, mark_plain}
use Rattle.cy_model.proofs.ContainerMarks.{end_containers, marks_keep, settled-by-marks}
use Rattle.cy_model.proofs.Growth.{past_stays, takes_output, unsent_begins}
use Rattle.cy_proc.specs.Lines.{LineParts, Represents}
use Rattle.cy_proc.proofs.Rests.{cause_now, rested_closed, rested_now, with_cause}

-- between two traces something was written, and the socket took nothing
pub record Writes (T R : Trace) : Type 0 where
  pub written : List ℕ
  pub waits : unsent R ≡ unsent T ++ written
  pub past : (writing R).past ≡ (writing T).past

-- nothing is written
pub nothing_written : (T : Trace) → Writes T T
nothing_written T = record { written = []; waits = sym (append-nil (unsent T)); past = refl }

-- a mark of which the socket takes nothing
mark_writes : (T : Trace) (t : ℕ) (m : Mark) (S : Trace) → takes_output m ≡ false → Writes T S → Writes T ((t, m) ∷ S)
mark_writes T t m S none w =
    let more = unsent_begins t m S none in
    record {
      written = w.written ++ more.0;
      waits = more.1 ∙ ap (λ (u : List ℕ). u ++ more.0) w.waits ∙ append_assoc (unsent T) w.written more.0;
      past = past_stays t m S none ∙ w.past;
    }

-- the container takes nothing
container_writes : (m : Mark) → is_containers m ≡ true → takes_output m ≡ false
container_writes (sent n) e = cc
container_writes broken e = cc
container_writes m e = refl

pub settled_writes : (limits : Limits) (rules : List Rule) (t : ℕ) (T S : Trace) → Writes T S → Writes T (settled limits rules t S)
settled_writes limits rules t T S w =
    settled-by-marks limits rules (Writes T) (λ u m R is v. mark_writes T u m R (container_writes m is) v) t S w

-- ---- what an entry writes

pub settling_writes : (limits : Limits) (rules : List Rule) (t : ℕ) (T : Trace) → Writes T (settled limits rules t T)
settling_writes limits rules t T = settled_writes limits rules t T T (nothing_written T)

job_writes : (T S : Trace) (t : ℕ) (o : Option Job) → Writes T S → Writes T (with_marks t (job_marks o) S)
job_writes T S t None w = w
job_writes T S t (Some j) w =
    let begun = mark_writes T t (started j) S refl w in
    elim (makes_calls j) as (λ v. Writes T (with_marks t (started j ∷ run_marks v) S)) [
      | true ↦ mark_writes T t (called call.Run None) ((t, started j) ∷ S) refl begun
      | false ↦ begun
    ]

pub turn_writes : (limits : Limits) (rules : List Rule) (t : ℕ) (T : Trace) → Writes T (after_turn t T (settled limits rules t T))
turn_writes limits rules t T = job_writes T (settled limits rules t T) t (owed_after T (settled limits rules t T)) (settling_writes limits rules t T)

return_writes : (t : ℕ) (T : Trace) → Writes T (with_marks t (return_marks T) T)
return_writes t T =
    let S : Trace = (t, called call.Return None) ∷ (t, back) ∷ T in
    let same : Writes T S = mark_writes T t (called call.Return None) ((t, back) ∷ T) refl (mark_writes T t back T refl (nothing_written T)) in
    elim (is_end (row (state_of T) call.Return)) as (λ v. Writes T (with_marks t (end_marks_where v T) S)) [
      | true ↦ marks_keep (Writes T) (λ u m R is v. mark_writes T u m R (container_writes m is) v) t (end_marks T) S (end_containers T) same
      | false ↦ same
    ]

open_act_writes : (limits : Limits) (rules : List Rule) (t : ℕ) (T : Trace) (a : Act) (b : List ℕ) → Writes T (after_act limits rules t T (open_act_marks limits T a b))
open_act_writes limits rules t T (act.Read n) b =
    elim (reading_in n T) as (λ r. Writes T (after_act limits rules t T (reading_marks r))) [
      | content_read content ↦ settled_writes limits rules t T ((t, given (length content)) ∷ T) (mark_writes T t (given (length content)) T refl (nothing_written T))
      | end_read ↦ settled_writes limits rules t T ((t, end_given) ∷ T) (mark_writes T t end_given T refl (nothing_written T))
      | nothing_read ↦ nothing_written T
    ]
open_act_writes limits rules t T (act.Write n) b =
    let taken = take (write_takes (answer_of T) n) b in
    elim (is_full (answer_of T) n) as (λ v. Writes T (after_act limits rules t T (cond v None (Some (put taken ∷ []))))) [
      | true ↦ nothing_written T
      | false ↦ settled_writes limits rules t T ((t, put taken) ∷ T) (mark_writes T t (put taken) T refl (nothing_written T))
    ]
open_act_writes limits rules t T act.Return b = settled_writes limits rules t T (with_marks t (return_marks T) T) (return_writes t T)

pub act_writes : (limits : Limits) (rules : List Rule) (t : ℕ) (T : Trace) (a : Act) (b : List ℕ) → Writes T (after_callback limits rules t T a b)
act_writes limits rules t T a b =
    elim (is_some (running T)) as (λ v. Writes T (if v then after_act limits rules t T (act_marks limits T a b) else T)) [
      | true ↦ elim (is_closed_act a T) as (λ v. Writes T (after_act limits rules t T (cond v None (open_act_marks limits T a b)))) [
        | true ↦ nothing_written T
        | false ↦ open_act_writes limits rules t T a b
      ]
      | false ↦ nothing_written T
    ]

-- what the socket tells writes nothing before it is settled
mark_output : (t : ℕ) (e : Event) (b : List ℕ) (T : Trace) → output (with_marks t (event_marks T e b) T) ≡ output T
mark_output t event.In b T = refl
mark_output t event.End b T = refl
mark_output t (event.Took n) b T =
    append_assoc (writing T).past (take (sent_of n T) (unsent T)) (drop (sent_of n T) (unsent T))
    ∙ ap (λ (u : List ℕ). (writing T).past ++ u) (take-append-drop (sent_of n T) (unsent T))

told_plain : (t : ℕ) (e : Event) (b : List ℕ) (T : Trace) → IsPlain T → IsPlain (with_marks t (event_marks T e b) T)
told_plain t event.In b T p = mark_plain t T p (came (take (room T) b)) refl
told_plain t event.End b T p = mark_plain t T p ended refl
told_plain t (event.Took n) b T p = mark_plain t T p (sent (sent_of n T)) refl

rested_output : (limits : Limits) (t : ℕ) (T : Trace) → IsPlain T → output (rested limits t T) ≡ output T
rested_output limits t T p = by_cause (cause_of T) refl
  where
    caused_output : (o : Option CloseCause) → output (with_cause t T o) ≡ output T
    caused_output None = refl
    caused_output (Some k) = refl

    by_cause : (o : Option CloseCause) → cause_of T ≡ o → output (rested limits t T) ≡ output T
    by_cause None e = ap output (rested_now limits t T p e) ∙ caused_output (cause_now limits T)
    by_cause (Some k) e = ap output (rested_closed limits t T p (ap is_some e))

pub event_output : (limits : Limits) (t : ℕ) (e : Event) (b : List ℕ) (T : Trace) → IsPlain T → output (rested_event limits t T e b) ≡ output T
event_output limits t e b T p =
    let R : Trace = with_marks t (event_marks T e b) T in
    elim (is_closed_to e T) as (λ v. output (cond v T (rested limits t R)) ≡ output T) [
      | true ↦ refl
      | false ↦ rested_output limits t R (told_plain t e b T p) ∙ mark_output t e b T
    ]

-- ---- what waits for the socket

behind : (x y : List ℕ) → drop (length x) (x ++ y) ≡ y
behind x y = drop-append-le (length x) x y (omega arith) ∙ ap (λ (u : List ℕ). u ++ y) (nothing_left x)
  where
    nothing_left : (u : List ℕ) → drop (length u) u ≡ []
    nothing_left u = drop_all (length u) u (omega arith)

-- what was written since stands behind what waited then
pub written_since : (T R : Trace) (l k : LineParts) → Represents T l → Represents R k → Writes T R → output T ++ drop (length l.unsent) k.unsent ≡ output R
written_since T R l k before now w =
    let waited : l.unsent ≡ unsent T = ap (λ (q : LineParts). q.unsent) before.same in
    let waits : k.unsent ≡ unsent T ++ w.written = ap (λ (q : LineParts). q.unsent) now.same ∙ w.waits in
    (λ i. output T ++ drop (length (waited i)) (waits i))
    ∙ ap (λ (u : List ℕ). output T ++ u) (behind (unsent T) w.written)
    ∙ append_assoc (writing T).past (unsent T) w.written
    ∙ sym ((λ i. w.past i ++ w.waits i))
