-- What parts say of the last request is what the trace says for which they stand.
use Rattle.std.proofs.Common.{◌≡◌, inl, inr, ℕ, Bool, true, false, cond, List, [], ◌++◌, map, take, Option, Some, None, is_some, refl, sym, ap, ◌∙◌, subst, ◌||◌}
use Rattle.std.proofs.lemmas.List.{append-nil}
use Rattle.cy_event.specs.declared.limits.Limits.{Limits}
use Rattle.cy_event.specs.declared.steps.CloseCause.{CloseCause}
use Rattle.cy_event.specs.declared.steps.Event.{Event}
use Rattle.cy_event.specs.declared.steps.Event.TheVariants as event
use Rattle.cy_event.specs.declared.steps.Job.{Job}
use Rattle.cy_event.specs.declared.table.ChartItem.{ChartItem}
use Rattle.cy_event.specs.Charts.{chart_of}
use Rattle.cy_event.specs.RequestHeads.{RequestParts}
use Rattle.cy_event.specs.Targets.{PathAndQuery}
use Rattle.cy_target.specs.Kept.{with_target}
use Rattle.cy_event.specs.Table.{state_after}
use Rattle.cy_model.specs.Entries.{event_marks, is_closed_to, rested_event, sent_of}
use Rattle.cy_model.specs.Folds.{cause_of, ended_charts, is_open, is_served, part_of}
use Rattle.cy_model.specs.Inputs.{room}
use Rattle.cy_model.specs.Marks.{TakenUp, came, sent, ended, Trace}
use Rattle.cy_states.specs.Progress.{Progress}
use Rattle.cy_model.specs.Settling.{rested, with_marks}
use Rattle.cy_model.proofs.Built.{IsPlain, mark_plain}
use Rattle.cy_proc.proofs.Rests.{cause_now, rested_closed, rested_now, with_cause}
use Rattle.cy_proc.specs.Lines.{LineParts, Represents}
use Rattle.cy_proc.specs.declared.processor.Stage.{Stage}
use Rattle.cy_proc.specs.declared.processor.Stage.TheVariants as stage
use Rattle.cy_proc.specs.ProcessorAnswers.{ServesAfter, ended_items}
use Rattle.cy_proc.specs.Processors.{IsIdle, IsOfRequest, IsServiceAlone, ProcessorParts, RequestFolds, StandsBy, StandsForRequest, calls_by, fresh_processor, is_open_at, over_charts, over_charts_at, request_folds, service_by, stage_by, stage_of}

-- ---- tables

-- reading a target changes nothing of the head
pub head_kept : (o : Option PathAndQuery) (parts : RequestParts) → (with_target o parts).head ≡ parts.head
head_kept None parts = refl
head_kept (Some named) parts = refl

-- ---- resting

-- resting changes nothing of the requests
pub record SameRequests (T R : Trace) : Type 0 where
  pub folds : request_folds R ≡ request_folds T
  pub charts : ended_charts R ≡ ended_charts T

caused_same : (t : ℕ) (T : Trace) (o : Option CloseCause) → SameRequests T (with_cause t T o)
caused_same t T None = record { folds = refl; charts = refl }
caused_same t T (Some k) = record { folds = refl; charts = refl }

pub rested_same : (limits : Limits) (t : ℕ) (T : Trace) → IsPlain T → SameRequests T (rested limits t T)
rested_same limits t T p = by_cause (cause_of T) refl
  where
    by_cause : (o : Option CloseCause) → cause_of T ≡ o → SameRequests T (rested limits t T)
    by_cause None e = subst (SameRequests T) (sym (rested_now limits t T p e)) (caused_same t T (cause_now limits T))
    by_cause (Some k) e = subst (SameRequests T) (sym (rested_closed limits t T p (ap is_some e))) (record { folds = refl; charts = refl })

-- ---- events

-- an event changes nothing of the requests
told_same : (t : ℕ) (e : Event) (b : List ℕ) (T : Trace) → SameRequests T (with_marks t (event_marks T e b) T)
told_same t event.In b T = record { folds = refl; charts = refl }
told_same t event.End b T = record { folds = refl; charts = refl }
told_same t (event.Took n) b T = record { folds = refl; charts = refl }

pub joined : (T R S : Trace) → SameRequests T R → SameRequests R S → SameRequests T S
joined T R S first second = record { folds = second.folds ∙ first.folds; charts = second.charts ∙ first.charts }

told_plain : (t : ℕ) (e : Event) (b : List ℕ) (T : Trace) → IsPlain T → IsPlain (with_marks t (event_marks T e b) T)
told_plain t event.In b T p = mark_plain t T p (came (take (room T) b)) refl
told_plain t event.End b T p = mark_plain t T p ended refl
told_plain t (event.Took n) b T p = mark_plain t T p (sent (sent_of n T)) refl

pub event_same : (limits : Limits) (t : ℕ) (e : Event) (b : List ℕ) (T : Trace) → IsPlain T → SameRequests T (rested_event limits t T e b)
event_same limits t e b T p =
    let R : Trace = with_marks t (event_marks T e b) T in
    elim (is_closed_to e T) as (λ v. SameRequests T (cond v T (rested limits t R))) [
      | true ↦ record { folds = refl; charts = refl }
      | false ↦ joined T R (rested limits t R) (told_same t e b T) (rested_same limits t R (told_plain t e b T p))
    ]

-- ---- standing

-- what stands for a trace stands for each with the same requests
pub stands_same : (T R : Trace) (p : ProcessorParts) → SameRequests T R → StandsForRequest T p → StandsForRequest R p
stands_same T R p same s = subst (λ (f : RequestFolds). StandsBy f p) (sym same.folds) s

-- no request has ended
pub charts_same : (T R : Trace) (p : ProcessorParts) → SameRequests T R → over_charts p ≡ [] → ended_items R ≡ ended_items T ++ over_charts p
charts_same T R p same none =
    ap (map chart_of) same.charts ∙ sym (append-nil (ended_items T)) ∙ ap (λ (x : List (List ChartItem)). ended_items T ++ x) (sym none)

-- the chart of an open request isn't over
pub open_charts : (st : Stage) (progress : Progress) → is_open_at st ≡ true → over_charts_at st progress ≡ []
open_charts stage.Free progress o = refl
open_charts stage.Owed progress o = refl
open_charts stage.Serving progress o = refl
open_charts stage.Over progress o = cc
open_charts stage.Refused progress o = refl

-- ---- what the stage says

-- the stage of a request is open where it is
stage_open : (o refused_now : Bool) (taken : Option TakenUp) (runs : Option Job) → is_open_at (stage_by o refused_now taken runs) ≡ o
stage_open true refused_now taken None = refl
stage_open true refused_now taken (Some j) = refl
stage_open false true taken runs = refl
stage_open false false None runs = refl
stage_open false false (Some r) runs = refl

-- and a service is owed where none runs
stage_owed : (o refused_now : Bool) (taken : Option TakenUp) (runs : Option Job) → stage_by o refused_now taken runs ≡ stage.Owed → runs ≡ None
stage_owed true refused_now taken None e = refl
stage_owed true refused_now taken (Some j) e = cc
stage_owed false true taken runs e = cc
stage_owed false false None runs e = cc
stage_owed false false (Some r) runs e = cc

stage_serving : (o refused_now : Bool) (taken : Option TakenUp) (runs : Option Job) → stage_by o refused_now taken runs ≡ stage.Serving → is_some runs ≡ true
stage_serving true refused_now taken None e = cc
stage_serving true refused_now taken (Some j) e = refl
stage_serving false true taken runs e = cc
stage_serving false false None runs e = cc
stage_serving false false (Some r) runs e = cc

-- the parts of an open request are those of the last one
pub stands_request : (T : Trace) (p : ProcessorParts) → is_open_at p.stage ≡ true → StandsForRequest T p → IsOfRequest (request_folds T) p
stands_request T p o s =
    elim s [
      | inl w ↦ w
      | inr free ↦ let closed : is_open_at p.stage ≡ false = ap (λ (q : ProcessorParts). is_open_at q.stage) free.fresh in cc
    ]

-- it is open in the trace, too
request_open : (f : RequestFolds) (p : ProcessorParts) → IsOfRequest f p → f.is_open ≡ is_open_at p.stage
request_open f p s =
    sym (stage_open f.is_open f.is_refused f.taken f.running) ∙ ap (λ (q : ProcessorParts). is_open_at q.stage) (sym s.same)

pub stands_open : (T : Trace) (p : ProcessorParts) → StandsForRequest T p → is_open T ≡ is_open_at p.stage
stands_open T p s =
    elim s [
      | inl w ↦ request_open (request_folds T) p w
      | inr free ↦ free.idle.closed ∙ sym (ap (λ (q : ProcessorParts). is_open_at q.stage) free.fresh)
    ]

-- once it isn't, nothing runs
pub stands_idle : (T : Trace) (p : ProcessorParts) → is_open_at p.stage ≡ false → StandsForRequest T p → IsIdle (request_folds T)
stands_idle T p closed s =
    elim s [
      | inl w ↦
          let here : is_open T ≡ false = request_open (request_folds T) p w ∙ closed in
          record {
            closed = here;
            none_runs = w.alone.running ∙ ap (λ (v : Bool). service_by v (is_served T) (part_of T)) here;
          }
      | inr free ↦ free.idle
    ]

stage_free : (o refused_now : Bool) (taken : Option TakenUp) (runs : Option Job) → stage_by o refused_now taken runs ≡ stage.Free → (is_some taken || refused_now) ≡ true → ⊥
stage_free true refused_now taken None e begun = cc
stage_free true refused_now taken (Some j) e begun = cc
stage_free false true taken runs e begun = cc
stage_free false false None runs e begun = cc
stage_free false false (Some r) runs e begun = cc

-- free parts are those of no request
pub stands_free : (T : Trace) (p : ProcessorParts) → p.stage ≡ stage.Free → StandsForRequest T p → p ≡ fresh_processor p.limits
stands_free T p at s =
    let f = request_folds T in
    elim s [
      | inl w ↦ absurd (stage_free f.is_open f.is_refused f.taken f.running (sym (ap (λ (q : ProcessorParts). q.stage) w.same) ∙ at) w.alone.begun)
      | inr w ↦ w.fresh
    ]

-- ---- an open request

-- whether its service was begun, by whether it runs
served_by : (o served_now : Bool) (part : ℕ) → o ≡ true → served_now ≡ is_some (service_by o served_now part)
served_by true true part e = refl
served_by true false part e = refl
served_by false served_now part e = cc

-- what an open request says by whether its service was begun
pub record IsOpenBy (f : RequestFolds) (served_now : Bool) : Type 0 where
  pub is_open : f.is_open ≡ true
  pub runs : f.running ≡ service_by true served_now f.part
  pub served : f.is_served ≡ served_now
  pub calls : f.calls ≡ calls_by served_now
  pub state : f.state ≡ state_after (calls_by served_now)

open_by : (f : RequestFolds) (v : Bool) → f.is_open ≡ true → IsServiceAlone f → is_some f.running ≡ v → IsOpenBy f v
open_by f v o s at =
    let served : f.is_served ≡ v = served_by f.is_open f.is_served f.part o ∙ sym (ap is_some s.running) ∙ at in
    record {
      is_open = o;
      runs = s.running ∙ ap (λ (u : Bool). service_by u f.is_served f.part) o ∙ ap (λ (u : Bool). service_by true u f.part) served;
      served = served;
      calls = s.calls o ∙ ap calls_by served;
      state = s.state ∙ ap state_after (s.calls o ∙ ap calls_by served);
    }

pub owed_request : (f : RequestFolds) (p : ProcessorParts) → p.stage ≡ stage.Owed → IsOfRequest f p → IsOpenBy f false
owed_request f p at s =
    let here : stage_of f ≡ stage.Owed = sym (ap (λ (q : ProcessorParts). q.stage) s.same) ∙ at in
    open_by f false (request_open f p s ∙ ap is_open_at at) s.alone (ap is_some (stage_owed f.is_open f.is_refused f.taken f.running here))

pub serving_request : (f : RequestFolds) (p : ProcessorParts) → p.stage ≡ stage.Serving → IsOfRequest f p → IsOpenBy f true
serving_request f p at s =
    let here : stage_of f ≡ stage.Serving = sym (ap (λ (q : ProcessorParts). q.stage) s.same) ∙ at in
    open_by f true (request_open f p s ∙ ap is_open_at at) s.alone (stage_serving f.is_open f.is_refused f.taken f.running here)

-- what follows without a change of the requests
pub serves_same : (T R : Trace) (l : LineParts) (p : ProcessorParts) → is_open_at p.stage ≡ true → SameRequests T R → StandsForRequest T p → Represents R l → ServesAfter T R l p
serves_same T R l p o same s line = record {
  serves = record { line = line; processor = stands_same T R p same s };
  charts = charts_same T R p same (open_charts p.stage p.progress o);
}
