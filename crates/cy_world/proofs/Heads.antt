-- Only one move of the container takes up a head or refuses it: whatever else happens, as many were taken up as before.
use Rattle.std.proofs.Common.{◌≡◌, ℕ, ◌+◌, Bool, true, false, List, [], ◌∷◌, length, ⊎_elim, option_map, take, Option, Some, None, is_some, refl, sym, ap, ◌∙◌, subst, arith, if◌then◌else◌, cond, nat_le}
use Rattle.cy_event.specs.declared.limits.Limits.{Limits}
use Rattle.cy_event.specs.declared.steps.Act.{Act}
use Rattle.cy_event.specs.declared.steps.Act.TheVariants as act
use Rattle.cy_event.specs.declared.steps.Call.TheVariants as call
use Rattle.cy_event.specs.declared.steps.CloseCause.{CloseCause}
use Rattle.cy_event.specs.declared.steps.CloseCause.TheVariants.{BadBody, InputEnd, LastAnswer, Refused, SwallowLimit}
use Rattle.cy_event.specs.declared.steps.Event.{Event}
use Rattle.cy_event.specs.declared.steps.Event.TheVariants as event
use Rattle.cy_event.specs.declared.steps.Job.{Job}
use Rattle.cy_event.specs.declared.steps.State.{State}
use Rattle.cy_event.specs.declared.steps.State.TheVariants as state
use Rattle.cy_map.specs.declared.rule.Rule.{Rule}
use Rattle.cy_model.specs.Endings.{end_marks, error_marks, failure_marks, fault_marks_by, hears_fault, server_error}
use Rattle.cy_model.specs.Entries.{act_marks, event_marks, is_closed_act, is_closed_to, is_full, job_marks, open_act_marks, owed_after, rested_act, rested_callback, rested_event, rested_turn, return_marks, write_takes}
use Rattle.cy_model.specs.Folds.{begun_count, cause_of, earlier, running, state_of}
use Rattle.cy_model.specs.Marks.{Mark, aborted, began, called, caused, end_given, error_answer, given, over, put, refused, TakenUp, Trace}
use Rattle.cy_model.specs.Outputs.{answer_of, is_committed}
use Rattle.cy_model.specs.Reads.{content_read, end_read, nothing_read, reading_in, reading_marks}
use Rattle.cy_model.specs.Settling.{Due, bad_place, body_cause, body_cause_by, cause_and_fault, due_move, due_of, head_move, not_found, nothing, refusal, request, rested, return_marks_in, swallow_place, taken_up, with_marks}
use Rattle.cy_model.specs.Verdicts.{not_found_status}
use Rattle.cy_model.proofs.Moves.{EndsWith, IsCauseMove, end_keeps, is_answers, may_begin-parts}
use Rattle.cy_model.proofs.LeftToDo.{head_move-parts}
use Rattle.cy_model.proofs.Settlings.{KeepsQuietMoves, rested-keeps}
use Rattle.cy_model.proofs.TraceInduction.{job_begins, not_found_keeps, not_found_marks, return_keeps, returned, went_on}
use Rattle.cy_proc.specs.Lines.{LineParts, Represents}
use Rattle.cy_world.specs.Places.{heads_of, refusals_by}

-- how many heads were taken up or refused: a refusal is a cause to close
abbrev pub heads_in : Trace → ℕ
heads_in T = begun_count T + refusals_by (cause_of T)

pub line_heads : (T : Trace) (l : LineParts) → Represents T l → heads_of l ≡ heads_in T
line_heads T l stands = ap heads_of stands.same

-- ---- causes

-- a cause that is none of a refusal says nothing of one, whether it is the first or not
pub later_cause : (first : Option CloseCause) (k : CloseCause) → refusals_by (Some k) ≡ 0 → refusals_by (earlier first k) ≡ refusals_by first
later_cause None k e = e
later_cause (Some first) k e = refl

caused_heads : (t : ℕ) (k : CloseCause) (T : Trace) → refusals_by (Some k) ≡ 0 → heads_in ((t, caused k) ∷ T) ≡ heads_in T
caused_heads t k T e = ap (λ (n : ℕ). begun_count T + n) (later_cause (cause_of T) k e)

-- the end of an answer is none
pub answers_none : (k : CloseCause) → is_answers k ≡ true → refusals_by (Some k) ≡ 0
answers_none Refused e = cc
answers_none k e = refl

-- nor is a bad body, or the end of the input
pub move_none : (limits : Limits) (k : CloseCause) (T : Trace) → IsCauseMove limits k T → refusals_by (Some k) ≡ 0
move_none limits k T m =
    ⊎_elim (λ (b : body_cause limits T ≡ Some k). by_body (bad_place T) (swallow_place limits T) k b) (λ i. ap (λ (c : CloseCause). refusals_by (Some c)) i.0) m.why
  where
    by_places : (v : Bool) (c : CloseCause) → (if v then Some BadBody else Some SwallowLimit) ≡ Some c → refusals_by (Some c) ≡ 0
    by_places true c e = let is : BadBody ≡ c = cc in ap (λ (d : CloseCause). refusals_by (Some d)) (sym is)
    by_places false c e = let is : SwallowLimit ≡ c = cc in ap (λ (d : CloseCause). refusals_by (Some d)) (sym is)

    by_body : (a b : Option ℕ) (c : CloseCause) → body_cause_by a b ≡ Some c → refusals_by (Some c) ≡ 0
    by_body None None c e = cc
    by_body (Some x) None c e = by_places true c e
    by_body None (Some y) c e = by_places false c e
    by_body (Some x) (Some y) c e = by_places (nat_le x y) c e

-- ---- the moves of the container but taking up a head

module _ (n : ℕ) where
  -- as many heads were taken up or refused
  abbrev Had : Trace → Type 0
  Had T = heads_in T ≡ n

  had_over : (t : ℕ) (T : Trace) → Had T → EndsWith Had t T
  had_over t T h = record { plain = h; closes = λ k a. caused_heads t k ((t, over) ∷ T) (answers_none k a) ∙ h }

  had_end : (t : ℕ) (T R : Trace) → Had R → Had (with_marks t (end_marks T) R)
  had_end t T R h =
      end_keeps Had t T R (had_over t R h) (λ status. had_over t ((t, error_answer status) ∷ R) h) (had_over t ((t, aborted) ∷ R) h)

  had_cause : (limits : Limits) (t : ℕ) (k : CloseCause) (T : Trace) → IsCauseMove limits k T → Had T → Had (with_marks t (cause_and_fault T k) T)
  had_cause limits t k T m h =
      elim (hears_fault T) as (λ v. Had (with_marks t (caused k ∷ fault_marks_by v) T)) [
        | true ↦ caused_heads t k T (move_none limits k T m) ∙ h
        | false ↦ caused_heads t k T (move_none limits k T m) ∙ h
      ]

  had_return : (t : ℕ) (T : Trace) (s : State) (ms : List Mark) → return_marks_in s T ≡ Some ms → Had T → Had (with_marks t ms T)
  had_return t T state.TimingOut ms e h =
      let same : ms ≡ called call.Return None ∷ [] = cc in
      subst (λ (ns : List Mark). Had (with_marks t ns T)) (sym same) h
  had_return t T state.Error ms e h =
      let same : ms ≡ called call.Return None ∷ failure_marks server_error T = cc in
      subst (λ (ns : List Mark). Had (with_marks t ns T)) (sym same)
      (elim (is_committed T) as (λ v. Had (with_marks t (called call.Return None ∷ error_marks v server_error) T)) [ true ↦ h | false ↦ h ])
  had_return t T state.Completing ms e h =
      let same : ms ≡ called call.Return None ∷ end_marks T = cc in
      subst (λ (ns : List Mark). Had (with_marks t ns T)) (sym same) (had_end t T (went_on t T) h)
  had_return t T s ms e h = cc

  had_quiet : (limits : Limits) → KeepsQuietMoves limits Had
  had_quiet limits = record {
    causes = had_cause limits;
    returns = λ t T ms m h. had_return t T (state_of T) ms m.marks h;
    input_ends = λ t T m h. caused_heads t InputEnd T refl ∙ h;
  }

  had_rested : (limits : Limits) (t : ℕ) (T : Trace) → Had T → Had (rested limits t T)
  had_rested limits t T h = rested-keeps limits t Had (had_quiet limits) T h

  had_return_marks : (t : ℕ) (T : Trace) → Had T → Had (with_marks t (return_marks T) T)
  had_return_marks t T h = return_keeps Had t T (λ e. h) (λ e. had_end t T (returned t T) h)

  had_open_act : (limits : Limits) (t : ℕ) (T : Trace) (a : Act) (b : List ℕ) → Had T → Had (rested_act limits t T (open_act_marks limits T a b))
  had_open_act limits t T (act.Read m) b h =
      elim (reading_in m T) as (λ r. Had (rested_act limits t T (reading_marks r))) [
        | content_read content ↦ had_rested limits t ((t, given (length content)) ∷ T) h
        | end_read ↦ had_rested limits t ((t, end_given) ∷ T) h
        | nothing_read ↦ h
      ]
  had_open_act limits t T (act.Write m) b h =
      let taken = put (take_of m) in
      elim (is_full (answer_of T) m) as (λ v. Had (rested_act limits t T (cond v None (Some (taken ∷ []))))) [
        | true ↦ h
        | false ↦ had_rested limits t ((t, taken) ∷ T) h
      ]
    where
      take_of : ℕ → List ℕ
      take_of m = take (write_takes (answer_of T) m) b
  had_open_act limits t T act.Return b h = had_rested limits t (with_marks t (return_marks T) T) (had_return_marks t T h)

  had_act : (limits : Limits) (t : ℕ) (T : Trace) (a : Act) (b : List ℕ) → Had T → Had (rested_act limits t T (act_marks limits T a b))
  had_act limits t T a b h =
      elim (is_closed_act a T) as (λ v. Had (rested_act limits t T (cond v None (open_act_marks limits T a b)))) [
        | true ↦ h
        | false ↦ had_open_act limits t T a b h
      ]

  had_job : (t : ℕ) (o : Option Job) (T : Trace) → Had T → Had (with_marks t (job_marks o) T)
  had_job t None T h = h
  had_job t (Some j) T h = job_begins Had t j T (λ e. h) (λ e. h)

  had_told : (t : ℕ) (e : Event) (b : List ℕ) (T : Trace) → Had T → Had (with_marks t (event_marks T e b) T)
  had_told t event.In b T h = h
  had_told t event.End b T h = h
  had_told t (event.Took m) b T h = h

-- ---- in all

pub rested_heads : (limits : Limits) (t : ℕ) (T : Trace) → heads_in (rested limits t T) ≡ heads_in T
rested_heads limits t T = had_rested (heads_in T) limits t T refl

pub event_heads : (limits : Limits) (t : ℕ) (T : Trace) (e : Event) (b : List ℕ) → heads_in (rested_event limits t T e b) ≡ heads_in T
event_heads limits t T e b =
    elim (is_closed_to e T) as (λ v. heads_in (if v then T else rested limits t (with_marks t (event_marks T e b) T)) ≡ heads_in T) [
      | true ↦ refl
      | false ↦ had_rested (heads_in T) limits t (with_marks t (event_marks T e b) T) (had_told (heads_in T) t e b T refl)
    ]

pub turn_heads : (limits : Limits) (t : ℕ) (T : Trace) → heads_in (rested_turn limits t T) ≡ heads_in T
turn_heads limits t T =
    had_job (heads_in T) t (owed_after T (rested limits t T)) (rested limits t T) (rested_heads limits t T)

pub callback_heads : (limits : Limits) (t : ℕ) (T : Trace) (a : Act) (b : List ℕ) → heads_in (rested_callback limits t T a b) ≡ heads_in T
callback_heads limits t T a b =
    elim (is_some (running T)) as (λ v. heads_in (if v then rested_act limits t T (act_marks limits T a b) else T) ≡ heads_in T) [
      | true ↦ had_act (heads_in T) limits t T a b refl
      | false ↦ refl
    ]

-- ---- a head is taken up or refused

not_found_heads : (t : ℕ) (r : TakenUp) (T : Trace) → heads_in (with_marks t (not_found_marks r) T) ≡ heads_in T + 1
not_found_heads t r T =
    let S : Trace = (t, over) ∷ (t, error_answer not_found_status) ∷ (t, began r) ∷ T in
    let more : heads_in S ≡ heads_in T + 1 = omega arith in
    not_found_keeps (λ (R : Trace). heads_in R ≡ heads_in T + 1) t r T more (caused_heads t LastAnswer S refl ∙ more)

due_heads : (t : ℕ) (T : Trace) (d : Due) (ms : List Mark) → cause_of T ≡ None → due_move d ≡ Some ms → heads_in (with_marks t ms T) ≡ heads_in T + 1
due_heads t T nothing ms none e = cc
due_heads t T (refusal status to_head) ms none e =
    let same : ms ≡ refused status to_head ∷ caused Refused ∷ [] = cc in
    ap (λ (ns : List Mark). heads_in (with_marks t ns T)) same
    ∙ ap (λ (o : Option CloseCause). begun_count T + refusals_by (earlier o Refused)) none
    ∙ sym (ap (λ (o : Option CloseCause). begun_count T + refusals_by o + 1) none ∙ omega arith)
due_heads t T (not_found r) ms none e =
    let same : ms ≡ not_found_marks r = cc in
    ap (λ (ns : List Mark). heads_in (with_marks t ns T)) same ∙ not_found_heads t r T
due_heads t T (request r) ms none e =
    let same : ms ≡ began r ∷ [] = cc in
    ap (λ (ns : List Mark). heads_in (with_marks t ns T)) same ∙ omega arith

pub taken_heads : (limits : Limits) (rules : List Rule) (t : ℕ) (T R : Trace) → taken_up limits rules t T ≡ Some R → heads_in R ≡ heads_in T + 1
taken_heads limits rules t T R e = by_move (head_move limits rules T) refl e
  where
    by_move : (o : Option (List Mark)) → head_move limits rules T ≡ o → option_map (λ (ms : List Mark). with_marks t ms T) o ≡ Some R → heads_in R ≡ heads_in T + 1
    by_move None is q = cc
    by_move (Some ms) is q =
        let w = head_move-parts limits rules T ms is in
        let same : with_marks t ms T ≡ R = cc in
        ap heads_in (sym same) ∙ due_heads t T (due_of limits rules T) ms (may_begin-parts T w.0).1 w.1
