-- The calls of each request are a legal history of the state table.
use Rattle.std.proofs.Common.{◌≡◌, ℕ, Bool, true, false, cond, ◌||◌, List, [], ◌∷◌, ◌++◌, All, Option, Some, None, is_some, IsSome, refl, sym, ap, ◌∙◌, subst}
use Rattle.std.proofs.lemmas.Bool.{and_parts, or_from}
use Rattle.std.proofs.lemmas.List.Elements.{All-nil, All-push}
use Rattle.cy_event.specs.declared.limits.Limits.{Limits}
use Rattle.cy_event.specs.declared.steps.Call.{Call}
use Rattle.cy_event.specs.declared.steps.Call.TheVariants as call
use Rattle.cy_event.specs.declared.steps.CloseCause.{CloseCause}
use Rattle.cy_event.specs.declared.steps.Job.{Job}
use Rattle.cy_event.specs.declared.steps.Job.TheVariants as job
use Rattle.cy_event.specs.declared.steps.State.{State}
use Rattle.cy_event.specs.declared.steps.State.TheVariants as state
use Rattle.cy_map.specs.declared.rule.Rule.{Rule}
use Rattle.cy_event.specs.Table.{row, is_end, ends_from, next_state, state_from, IsLegal}
use Rattle.cy_event.proofs.Histories.{ends_from-append, legal_more, state_from-append}
use Rattle.cy_model.specs.Endings.{end_marks, hears_fault}
use Rattle.cy_model.specs.Entries.{job_marks, return_marks, trace_of}
use Rattle.cy_model.specs.Folds.{calls, charts, ended_charts, is_open, state_of}
use Rattle.cy_model.specs.Laws.{ChartsAreLegal}
use Rattle.cy_model.specs.Marks.{Mark, aborted, back, began, called, caused, error_answer, started, Trace}
use Rattle.cy_model.specs.Settling.{with_marks}
use Rattle.cy_model.specs.Verdicts.{not_found_status}
use Rattle.cy_model.proofs.Built.{owed_open, service_owed}
use Rattle.cy_model.proofs.BuiltInduction.{IsKeptWhereBuilt, built_trace_keeps}
use Rattle.cy_model.proofs.BuiltKept.{ends_here, plainly}
use Rattle.cy_model.proofs.Moves.{EndsWith, end_keeps}
use Rattle.cy_model.proofs.TraceInduction.{IsQuietIn, not_found_keeps, returned, went_on}

-- what is known of the requests of a trace
record Charted (T : Trace) : Type 0 where
  -- those that have ended
  pub past : All IsLegal (ended_charts T)
  -- the last one
  pub legal : IsLegal (calls T)
  pub goes_on : is_open T ≡ true → ends_from state.Dispatched (calls T) ≡ false
  pub leads : state_of T ≡ state_from state.Dispatched (calls T)

-- ---- calls

-- behind the calls of a request
call_here : (T : Trace) (P : State → Type 0) → Charted T → P (state_of T) → P (state_from state.Dispatched (calls T))
call_here T P c p = subst P c.leads p

one_more : (T : Trace) (k : Call) → Charted T → is_open T ≡ true → IsSome (row (state_of T) k) → IsLegal (calls T ++ k ∷ [])
one_more T k c open_now has_row =
    legal_more state.Dispatched (calls T) k c.legal (c.goes_on open_now) (call_here T (λ s. IsSome (row s k)) c has_row)

leads_on : (T : Trace) (k : Call) → Charted T → next_state (state_of T) k ≡ state_from state.Dispatched (calls T ++ k ∷ [])
leads_on T k c = ap (λ (s : State). next_state s k) c.leads ∙ sym (state_from-append state.Dispatched (calls T) (k ∷ []))

goes_further : (T : Trace) (k : Call) → Charted T → is_open T ≡ true → is_end (row (state_of T) k) ≡ false
    → ends_from state.Dispatched (calls T ++ k ∷ []) ≡ false
goes_further T k c open_now no_end =
    ends_from-append state.Dispatched (calls T) (k ∷ [])
    ∙ or_from (ends_from state.Dispatched (calls T)) (ends_from (state_from state.Dispatched (calls T)) (k ∷ [])) (c.goes_on open_now)
    (call_here T (λ s. ends_from s (k ∷ []) ≡ false) c (ap (λ (v : Bool). v || false) no_end))

-- a call that has a row and is no end
called_charted : (t : ℕ) (k : Call) (part : Option ℕ) (T : Trace) → is_open T ≡ true → IsSome (row (state_of T) k) → is_end (row (state_of T) k) ≡ false
    → Charted T → Charted ((t, called k part) ∷ T)
called_charted t k part T open_now has_row no_end c = record {
  past = c.past;
  legal = one_more T k c open_now has_row;
  goes_on = λ o. goes_further T k c open_now no_end;
  leads = leads_on T k c;
}

-- ---- ends

-- the marks of an end, behind the last call
over_charted : (t : ℕ) (T : Trace) → All IsLegal (ended_charts T) → IsLegal (calls T) → state_of T ≡ state_from state.Dispatched (calls T) → EndsWith Charted t T
over_charted t T past legal leads =
    let past_now = All-push IsLegal (ended_charts T) (calls T) past legal in
    record {
      plain = record { past = past_now; legal = legal; goes_on = λ o. cc; leads = leads };
      closes = λ k q. record { past = past_now; legal = legal; goes_on = λ o. cc; leads = leads };
    }

ended_charted : (t : ℕ) (T R : Trace) → All IsLegal (ended_charts R) → IsLegal (calls R) → state_of R ≡ state_from state.Dispatched (calls R)
    → Charted (with_marks t (end_marks T) R)
ended_charted t T R past legal leads =
    end_keeps Charted t T R (over_charted t R past legal leads)
    (λ status. over_charted t ((t, error_answer status) ∷ R) past legal leads)
    (over_charted t ((t, aborted) ∷ R) past legal leads)

fault_is_no_end : (s : State) → is_end (row s call.Fault) ≡ false
fault_is_no_end state.Dispatched = refl
fault_is_no_end s = refl

-- a request hears of a fault
fault_charted : (t : ℕ) (k : CloseCause) (T : Trace) → hears_fault T ≡ true → Charted T → Charted ((t, called call.Fault None) ∷ (t, caused k) ∷ T)
fault_charted t k T hears c =
    let parts = and_parts (is_open T) (is_some (row (state_of T) call.Fault)) hears in
    called_charted t call.Fault None ((t, caused k) ∷ T) parts.0 parts.1 (fault_is_no_end (state_of T))
    (record { past = c.past; legal = c.legal; goes_on = c.goes_on; leads = c.leads })

-- the container returns in a state from which that leads on
quiet_charted : (t : ℕ) (T : Trace) (s : State) → IsQuietIn s T → IsSome (row s call.Return) → is_end (row s call.Return) ≡ false → Charted T → Charted (went_on t T)
quiet_charted t T s q has_row no_end c =
    called_charted t call.Return None T q.open_now
    (subst (λ (x : State). IsSome (row x call.Return)) (sym q.here) has_row) (ap (λ (x : State). is_end (row x call.Return)) q.here ∙ no_end) c

served_charted : (t n : ℕ) (T : Trace) → is_open T ≡ true → state_of T ≡ state.Dispatched → Charted T → Charted (with_marks t (job_marks (Some (job.Service n))) T)
served_charted t n T open_now here c =
    called_charted t call.Run None ((t, started (job.Service n)) ∷ T) open_now
    (subst (λ (x : State). IsSome (row x call.Run)) (sym here) refl) (ap (λ (x : State). is_end (row x call.Run)) here)
    (record { past = c.past; legal = c.legal; goes_on = c.goes_on; leads = c.leads })

return_charted : (t : ℕ) (T : Trace) → is_open T ≡ true → state_of T ≡ state.Dispatched → return_marks T ≡ back ∷ called call.Return None ∷ end_marks T
    → Charted T → Charted (with_marks t (return_marks T) T)
return_charted t T open_now here marks c =
    subst (λ (ms : List Mark). Charted (with_marks t ms T)) (sym marks)
    (ended_charted t T (returned t T) c.past
    (one_more T call.Return c open_now (subst (λ (x : State). IsSome (row x call.Return)) (sym here) refl)) (leads_on T call.Return c))

charted_kept : (limits : Limits) (rules : List Rule) → IsKeptWhereBuilt limits rules Charted
charted_kept limits rules = record {
  opens = λ t T b c. record { past = c.past; legal = c.legal; goes_on = c.goes_on; leads = c.leads };
  ends = λ t T b c. record { past = c.past; legal = c.legal; goes_on = c.goes_on; leads = c.leads };
  comes = λ t x T taken b c. record { past = c.past; legal = c.legal; goes_on = c.goes_on; leads = c.leads };
  sends = λ t n T b c. record { past = c.past; legal = c.legal; goes_on = c.goes_on; leads = c.leads };
  causes = λ t k T m b c. record { past = c.past; legal = c.legal; goes_on = c.goes_on; leads = c.leads };
  faults = λ t k T m hears b c. fault_charted t k T hears c;
  times_out = λ t T q b c. quiet_charted t T state.TimingOut q refl refl c;
  fails = λ t T q b c.
      let r = quiet_charted t T state.Error q refl refl c in
      record { past = r.past; legal = r.legal; goes_on = r.goes_on; leads = r.leads };
  breaks_off = λ t T q b c.
      let r = quiet_charted t T state.Error q refl refl c in
      record { past = r.past; legal = r.legal; goes_on = r.goes_on; leads = r.leads };
  completes = λ t T q b c.
      ended_charted t T (went_on t T) c.past
      (one_more T call.Return c q.open_now (subst (λ (x : State). IsSome (row x call.Return)) (sym q.here) refl)) (leads_on T call.Return c);
  input_ends = λ t T end b c. record { past = c.past; legal = c.legal; goes_on = c.goes_on; leads = c.leads };
  refuses = λ t status to_head T may due b c. record { past = c.past; legal = tt; goes_on = λ o. refl; leads = refl };
  finds_none = λ t r T may at due b c.
      let e = over_charted t ((t, error_answer not_found_status) ∷ (t, began r) ∷ T) c.past tt refl in
      not_found_keeps Charted t r T e.plain (record { past = e.plain.past; legal = e.plain.legal; goes_on = λ o. cc; leads = e.plain.leads });
  begins = λ t r T may at due b c. record { past = c.past; legal = tt; goes_on = λ o. refl; leads = refl };
  serves = λ t j T e b c.
      let service = service_owed T j (plainly T b) e in
      subst (λ (i : Job). Charted (with_marks t (job_marks (Some i)) T)) (sym service.1)
      (served_charted t service.0 T (owed_open T j e) (plainly T b).here c);
  gives = λ t j n T e may b c. record { past = c.past; legal = c.legal; goes_on = c.goes_on; leads = c.leads };
  tells_end = λ t j T e may b c. record { past = c.past; legal = c.legal; goes_on = c.goes_on; leads = c.leads };
  puts = λ t j x T e few b c. record { past = c.past; legal = c.legal; goes_on = c.goes_on; leads = c.leads };
  returns = λ t j T e b c. return_charted t T (b.runs j e) (plainly T b).here (ends_here T (plainly T b)) c;
}

-- ---- the law

all_legal : (T : Trace) → Charted T → All IsLegal (charts T)
all_legal T c =
    elim (is_open T) as (λ v. All IsLegal (cond v (ended_charts T ++ calls T ∷ []) (ended_charts T))) [
      | true ↦ All-push IsLegal (ended_charts T) (calls T) c.past c.legal
      | false ↦ c.past
    ]

nothing_charted : Charted []
nothing_charted = record { past = All-nil IsLegal; legal = tt; goes_on = λ o. refl; leads = refl }

pub charts_are_legal : ChartsAreLegal
charts_are_legal limits rules entries =
    let T = trace_of limits rules entries in
    all_legal T (built_trace_keeps limits rules Charted (charted_kept limits rules) nothing_charted entries).1
