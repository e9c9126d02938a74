-- The trace of any entries has no mark that isn't built yet.
use Rattle.std.proofs.Common.{◌≡◌, ◌⊎◌, inl, inr, ⊎_elim, ℕ, Bool, true, false, List, [], ◌∷◌, ◌++◌, Option, Some, None, nat_le, refl, sym, ap, ◌∙◌, subst, if◌then◌else◌}
use Rattle.cy_event.specs.declared.limits.Limits.{Limits}
use Rattle.cy_event.specs.declared.steps.Call.TheVariants as call
use Rattle.cy_event.specs.declared.steps.CloseCause.{CloseCause}
use Rattle.cy_event.specs.declared.steps.CloseCause.TheVariants.{BadBody, InputEnd, LastAnswer, SwallowLimit}
use Rattle.cy_event.specs.declared.steps.Job.{Job}
use Rattle.cy_event.specs.declared.steps.State.{State}
use Rattle.cy_event.specs.declared.steps.State.TheVariants as state
use Rattle.cy_event.specs.declared.steps.Job.TheVariants as job
use Rattle.cy_event.specs.Framings.{bad_request}
use Rattle.cy_event.specs.Table.{is_end, row}
use Rattle.cy_map.specs.declared.rule.Rule.{Rule}
use Rattle.cy_model.specs.Endings.{cause_behind, closing_marks_by, end_marks, ends_closed, hears_fault, is_bad_request}
use Rattle.cy_model.specs.Entries.{Entry, end_marks_where, job_marks, return_marks, trace_of}
use Rattle.cy_model.specs.Folds.{cause_of, is_open, running}
use Rattle.cy_model.specs.Marks.{Mark, TakenUp, Trace, back, began, called, came, caused, ended, end_given, error_answer, given, opened, over, sent}
use Rattle.cy_model.specs.Settling.{bad_place, body_cause, body_cause_by, due_of, not_found, request, swallow_place, with_marks}
use Rattle.cy_model.specs.Unbuilt.{NothingUnbuilt, is_unbuilt_cause, is_unbuilt_request}
use Rattle.cy_model.specs.Verdicts.{not_found_status}
use Rattle.cy_model.proofs.Built.{IsPlain, error_before, hears_none, owed_open, plain_end, plain_of, service_owed}
use Rattle.cy_model.proofs.FramedHeads.{taken_framed}
use Rattle.cy_model.proofs.Moves.{IsCauseMove, may_begin-parts}
use Rattle.cy_model.proofs.TraceInduction.{IsKept, IsQuietIn, IsTakenAt, not_found_keeps, returned, trace_keeps}
use Rattle.cy_model.proofs.Uncut.{IsUncut, put_uncut, same_uncut, uncut_is_whole}

-- ---- causes

ap_cause : (known k : CloseCause) → Some known ≡ Some k → is_unbuilt_cause known ≡ false → is_unbuilt_cause k ≡ false
ap_cause known k e built =
    let same : known ≡ k = cc in
    subst (λ (c : CloseCause). is_unbuilt_cause c ≡ false) same built

-- a body, and the end of the input inside it, are causes
body_built : (k : CloseCause) (bad swallow : Option ℕ) → body_cause_by bad swallow ≡ Some k → is_unbuilt_cause k ≡ false
body_built k None None e = cc
body_built k (Some bad) None e = ap_cause BadBody k e refl
body_built k None (Some swallow) e = ap_cause SwallowLimit k e refl
body_built k (Some bad) (Some swallow) e =
    elim (nat_le bad swallow) as (λ v. (if v then Some BadBody else Some SwallowLimit) ≡ Some k → is_unbuilt_cause k ≡ false) [
      | true ↦ λ q. ap_cause BadBody k q refl
      | false ↦ λ q. ap_cause SwallowLimit k q refl
    ] e

cause_built : (limits : Limits) (k : CloseCause) (T : Trace) → IsCauseMove limits k T → is_unbuilt_cause k ≡ false
cause_built limits k T m =
    ⊎_elim (λ (body : body_cause limits T ≡ Some k). body_built k (bad_place T) (swallow_place limits T) body) (λ inside. ap is_unbuilt_cause inside.0) m.why

-- the container returns for no request
no_quiet : (s : State) (T : Trace) → IsPlain T → IsQuietIn s T → s ≡ state.Dispatched
no_quiet s T p q = sym q.here ∙ p.here

built_request : (limits : Limits) (rules : List Rule) (r : TakenUp) (T : Trace) → IsTakenAt limits r T
    → (due_of limits rules T ≡ request r) ⊎ (due_of limits rules T ≡ not_found r) → is_unbuilt_request r ≡ false
built_request limits rules r T at due =
    (taken_framed limits rules r T at due).built

-- Nothing unbuilt stands in the trace, a callback is that of an open request, and of the answer to an open request nothing
-- is out.
pub record IsBuilt (T : Trace) : Type 0 where
  pub unbuilt : NothingUnbuilt T
  pub runs : (j : Job) → running T ≡ Some j → is_open T ≡ true
  pub uncut : is_open T ≡ true → IsUncut T

pub plainly : (T : Trace) → IsBuilt T → IsPlain T
plainly T b = plain_of T b.unbuilt

-- a service that returns ends its request
pub ends_here : (T : Trace) → IsPlain T → return_marks T ≡ back ∷ called call.Return None ∷ end_marks T
ends_here T p = ap (λ (s : State). back ∷ called call.Return None ∷ end_marks_where (is_end (row s call.Return)) T) p.here

-- where a request is over, no callback runs, and of no answer anything is to be said
over_built : (T : Trace) → NothingUnbuilt T → is_open T ≡ false → running T ≡ None → IsBuilt T
over_built T unbuilt shut still = record {
  unbuilt = unbuilt;
  runs = λ j e. absurd (none_runs (running T) j still e);
  uncut = λ o. absurd (both (is_open T) o shut);
}
  where
    none_runs : (o : Option Job) (j : Job) → o ≡ None → o ≡ Some j → ⊥
    none_runs o j n e = cc

    both : (v : Bool) → v ≡ true → v ≡ false → ⊥
    both v a b = cc

closed_built : (t : ℕ) (first : Option CloseCause) (closed : Bool) (R : Trace) → NothingUnbuilt R
    → IsBuilt (with_marks t (over ∷ closing_marks_by first (cause_behind false false closed)) R)
closed_built t None true R a = over_built ((t, caused LastAnswer) ∷ (t, over) ∷ R) (refl, (refl, a)) refl refl
closed_built t None false R a = over_built ((t, over) ∷ R) (refl, a) refl refl
closed_built t (Some k) closed R a = over_built ((t, over) ∷ R) (refl, a) refl refl

-- by the causes of the trace T a request ends behind R
ended_built : (t : ℕ) (T R : Trace) (first : Option CloseCause) → NothingUnbuilt R
    → IsBuilt (with_marks t (error_before first ++ over ∷ closing_marks_by first (cause_behind false false (ends_closed T))) R)
ended_built t T R first a =
    elim (is_bad_request first) as (λ v. IsBuilt (with_marks t ((if v then error_answer bad_request ∷ [] else []) ++ over
    ∷ closing_marks_by first (cause_behind false false (ends_closed T))) R)) [
      | true ↦ closed_built t first (ends_closed T) ((t, error_answer bad_request) ∷ R) (refl, a)
      | false ↦ closed_built t first (ends_closed T) R a
    ]

returned_built : (t : ℕ) (T : Trace) → IsBuilt T → is_open T ≡ true → IsBuilt (with_marks t (return_marks T) T)
returned_built t T b open_now =
    let p = plainly T b in
    let marks = ends_here T p ∙ ap (λ (ms : List Mark). back ∷ called call.Return None ∷ ms) (plain_end T p (uncut_is_whole T (b.uncut open_now))) in
    subst (λ (ms : List Mark). IsBuilt (with_marks t ms T)) (sym marks) (ended_built t T (returned t T) (cause_of T) (refl, (refl, b.unbuilt)))

pub built_kept : (limits : Limits) (rules : List Rule) → IsKept limits rules IsBuilt
built_kept limits rules = record {
  opens = λ t T b. record { unbuilt = (refl, b.unbuilt); runs = b.runs; uncut = λ o. same_uncut T ((t, opened) ∷ T) refl refl (b.uncut o) };
  ends = λ t T b. record { unbuilt = (refl, b.unbuilt); runs = b.runs; uncut = λ o. same_uncut T ((t, ended) ∷ T) refl refl (b.uncut o) };
  comes = λ t x T taken b. record { unbuilt = (refl, b.unbuilt); runs = b.runs; uncut = λ o. same_uncut T ((t, came x) ∷ T) refl refl (b.uncut o) };
  sends = λ t n T b. record { unbuilt = (refl, b.unbuilt); runs = b.runs; uncut = λ o. same_uncut T ((t, sent n) ∷ T) refl refl (b.uncut o) };
  causes = λ t k T m b. record {
    unbuilt = (cause_built limits k T m, b.unbuilt);
    runs = b.runs;
    uncut = λ o. same_uncut T ((t, caused k) ∷ T) refl refl (b.uncut o);
  };
  faults = λ t k T m hears b. absurd (both (hears_fault T) hears (hears_none T (plainly T b)));
  times_out = λ t T q b. absurd (timing_out (no_quiet state.TimingOut T (plainly T b) q));
  fails = λ t T q b. absurd (failing (no_quiet state.Error T (plainly T b) q));
  breaks_off = λ t T q b. absurd (failing (no_quiet state.Error T (plainly T b) q));
  completes = λ t T q b. absurd (completing (no_quiet state.Completing T (plainly T b) q));
  input_ends = λ t T end b. record {
    unbuilt = (refl, b.unbuilt);
    runs = b.runs;
    uncut = λ o. same_uncut T ((t, caused InputEnd) ∷ T) refl refl (b.uncut o);
  };
  refuses = λ t status to_head T may due b. record {
    unbuilt = (refl, (refl, b.unbuilt));
    runs = λ j e. cc;
    uncut = λ o. absurd (both (is_open T) o (may_begin-parts T may).0);
  };
  finds_none = λ t r T may at due b.
      let E : Trace = (t, error_answer not_found_status) ∷ (t, began r) ∷ T in
      let a : NothingUnbuilt ((t, over) ∷ E) = (refl, (refl, (built_request limits rules r T at (inr due), b.unbuilt))) in
      not_found_keeps IsBuilt t r T (over_built ((t, over) ∷ E) a refl refl) (over_built ((t, caused LastAnswer) ∷ (t, over) ∷ E) (refl, a) refl refl);
  begins = λ t r T may at due b. record {
    unbuilt = (built_request limits rules r T at (inl due), b.unbuilt);
    runs = λ j e. refl;
    uncut = λ o. record { whole = refl; waits = refl };
  };
  serves = λ t j T e b.
      let service = service_owed T j (plainly T b) e in
      let open_now = owed_open T j e in
      subst (λ (i : Job). IsBuilt (with_marks t (job_marks (Some i)) T)) (sym service.1)
      (record {
        unbuilt = (refl, (refl, b.unbuilt));
        runs = λ i f. open_now;
        uncut = λ o. same_uncut T (with_marks t (job_marks (Some (job.Service service.0))) T) refl refl (b.uncut open_now);
      });
  gives = λ t j n T e may b. record { unbuilt = (refl, b.unbuilt); runs = b.runs; uncut = λ o. same_uncut T ((t, given n) ∷ T) refl refl (b.uncut o) };
  tells_end = λ t j T e may b. record { unbuilt = (refl, b.unbuilt); runs = b.runs; uncut = λ o. same_uncut T ((t, end_given) ∷ T) refl refl (b.uncut o) };
  puts = λ t j x T e few b. record { unbuilt = (refl, b.unbuilt); runs = b.runs; uncut = λ o. put_uncut t x T few (b.uncut o) };
  returns = λ t j T e b. returned_built t T b (b.runs j e);
}
  where
    both : (v : Bool) → v ≡ true → v ≡ false → ⊥
    both v p q = cc

    timing_out : state.TimingOut ≡ state.Dispatched → ⊥
    timing_out e = cc

    failing : state.Error ≡ state.Dispatched → ⊥
    failing e = cc

    completing : state.Completing ≡ state.Dispatched → ⊥
    completing e = cc

pub nothing_built : IsBuilt []
nothing_built = record { unbuilt = tt; runs = λ j e. cc; uncut = λ o. cc }

pub entries_are_built : (limits : Limits) (rules : List Rule) (entries : List (ℕ × Entry)) → IsBuilt (trace_of limits rules entries)
entries_are_built limits rules entries =
    trace_keeps IsBuilt limits rules (built_kept limits rules) nothing_built entries
