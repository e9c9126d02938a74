-- What a connection keeps goes on standing for what has happened.
use Rattle.std.proofs.Common.{◌≡◌, ℕ, zero, suc, Bool, true, false, not, ◌&&◌, List, [], ◌∷◌, ◌++◌, length, map, max, Option, Some, None, is_none, is_some, refl, sym, ap, ◌∙◌, subst, arith, ◌==◌, ◌⊎◌, ⊎_elim, take, if◌then◌else◌}
use Rattle.std.proofs.lemmas.Bool.{eq-eqb, ne_eqb}
use Rattle.std.proofs.lemmas.List.{append-nil, length-map}
use Rattle.cy_event.specs.declared.limits.Limits.{Limits}
use Rattle.cy_event.specs.declared.steps.Event.{Event}
use Rattle.cy_event.specs.declared.steps.Reply.{Reply}
use Rattle.cy_event.specs.declared.table.ChartItem.{ChartItem}
use Rattle.cy_event.specs.Charts.{chart_of}
use Rattle.cy_map.specs.declared.rule.Rule.{Rule}
use Rattle.cy_event.specs.declared.steps.Act.{Act}
use Rattle.cy_event.specs.declared.steps.Act.TheVariants as act
use Rattle.cy_event.specs.declared.steps.Job.{Job}
use Rattle.cy_event.specs.declared.steps.Reply.TheVariants as reply
use Rattle.cy_model.specs.Entries.{act_marks, act_reply, after_act, after_callback, after_turn, callback_reply, ended_count, is_closed_act, is_full, job_marks, job_reply, open_act_marks, open_act_reply, owed_after, reply_to_event, rested_act, rested_callback, rested_event, rested_turn, return_marks, turn_reply, write_takes}
use Rattle.cy_model.specs.Jobs.{asking, job_owed, next_job}
use Rattle.cy_model.specs.Folds.{cause_of, ended_charts, is_open, running}
use Rattle.cy_model.specs.Outputs.{answer_of, unsent}
use Rattle.cy_states.specs.Progress.{Progress}
use Rattle.cy_model.specs.Marks.{Trace, end_given, given, put}
use Rattle.cy_model.specs.Reads.{content_read, end_read, nothing_read, reading_in, reading_marks, reading_reply}
use Rattle.cy_model.specs.Replies.{is_refusal, plain, replied_in}
use Rattle.cy_model.specs.Settling.{front_of, is_awaited, may_begin, may_begin_by, rested, settled, taken_up, with_marks}
use Rattle.cy_model.proofs.Gone.{open_may_not_begin}
use Rattle.cy_model.proofs.Settlings.{none-due, settled-at-rest, settled-rested, settled-taken}
use Rattle.cy_proc.specs.LineAnswers.{AnswersEachEvent, RestsEach as LineRestsEach}
use Rattle.cy_proc.specs.LineChanges.{is_due}
use Rattle.cy_proc.specs.Lines.{LineParts, Represents}
use Rattle.cy_proc.specs.ProcessorAnswers.{AnswersEachAct, AnswersEachEvent as OpenAnswersEachEvent, AnswersEachTurn, Serves, ServesAfter, TakesUp, ended_items}
use Rattle.cy_proc.specs.Processors.{ProcessorParts, is_open_at, is_over_at, over_charts, over_charts_at}
use Rattle.cy_proc.specs.declared.processor.Stage.{Stage}
use Rattle.cy_proc.specs.declared.processor.Stage.TheVariants as stage
use Rattle.cy_proc.proofs.Lines.{plainly, rested_open}
use Rattle.cy_proc.proofs.Requests.{SameRequests, event_same, rested_same, stands_idle, stands_open, stands_same}
use Rattle.cy_world.specs.Lives.{AnswersLive, LivesAfterFollowing, RestsEach, SettlesEach, SettlesOne, TakesOne}
use Rattle.cy_world.specs.Places.{IsAlive, LiveParts, Lives}

-- ---- the line alone goes on

-- the requests are those that were
same_lives : (T R : Trace) (p : LiveParts) (l : LineParts) → Lives T p → SameRequests T R → Represents R l → Lives R (record p { line = l })
same_lives T R p l s same line = record {
  serves = record { line = line; processor = stands_same T R p.processor same s.serves.processor };
  limits = s.limits;
  charts = s.charts ∙ sym (ap (map chart_of) same.charts);
}

last_moment : (m : ℕ) → max m 0 ≡ m
last_moment m = omega arith

pub told_lives : (e : Event) (b : List ℕ) (r : Reply) (T : Trace) (p : LiveParts) (l : LineParts) → Lives T p → l.moment ≡ max p.line.moment 0 → AnswersEachEvent p.limits l.moment e b p.line r l → AnswersLive (plain (reply_to_event T e b)) (rested_event p.limits p.line.moment T e b) (plain r) (record p { line = l })
told_lives e b r T p l s later answers =
    let told = answers T s.serves.line in
    let at : l.moment ≡ p.line.moment = later ∙ last_moment p.line.moment in
    record {
      reply = ap plain told.reply;
      lives = subst (λ (m : ℕ). Lives (rested_event p.limits m T e b) (record p { line = l })) at
          (same_lives T (rested_event p.limits l.moment T e b) p l s (event_same p.limits l.moment e b T (plainly T s.serves.line.sound)) told.stands);
    }

pub rested_lives : (T : Trace) (p : LiveParts) (l : LineParts) → Lives T p → LineRestsEach p.limits p.line.moment p.line l → Lives (rested p.limits p.line.moment T) (record p { line = l })
rested_lives T p l s rests =
    same_lives T (rested p.limits p.line.moment T) p l s (rested_same p.limits p.line.moment T (plainly T s.serves.line.sound)) (rests T s.serves.line)

-- nothing is done by itself while a request is open
pub open_lives : (T : Trace) (p : LiveParts) → Lives T p → is_open_at p.processor.stage ≡ true → Lives (rested p.limits p.line.moment T) p
open_lives T p s o = subst (λ (R : Trace). Lives R p) (sym (rested_open p.limits p.line.moment T p.line s.serves.line (stands_open T p.processor s.serves.processor ∙ o))) s

-- ---- settling

-- what settling a trace leads to by the way
pub record SettlesTo (rules : List Rule) (limits : Limits) (m : ℕ) (T : Trace) (p : LiveParts) : Type 0 where
  pub trace : Trace
  pub lives : Lives trace p
  pub same : settled limits rules m trace ≡ settled limits rules m T

-- no chart waits to be kept
pub none_over : (st : Stage) (progress : Progress) → is_over_at st ≡ false → over_charts_at st progress ≡ []
none_over stage.Free progress kept = refl
none_over stage.Owed progress kept = refl
none_over stage.Serving progress kept = refl
none_over stage.Over progress kept = cc
none_over stage.Refused progress kept = cc

-- the charts that are kept are all
pub all_charts : (T : Trace) (p : LiveParts) → is_over_at p.processor.stage ≡ false → Lives T p → p.charts ≡ ended_items T
all_charts T p kept s =
    sym (append-nil p.charts)
    ∙ ap (λ (x : List (List ChartItem)). p.charts ++ x) (sym (none_over p.processor.stage p.processor.progress kept))
    ∙ s.charts

-- line and processor went on together
pub served_lives : (T R : Trace) (p : LiveParts) (l : LineParts) (q : ProcessorParts) → is_over_at p.processor.stage ≡ false → q.limits ≡ p.limits → Lives T p → ServesAfter T R l q → Lives R (record p { line = l; processor = q })
served_lives T R p l q kept same s after = record {
  serves = after.serves;
  limits = same;
  charts = ap (λ (x : List (List ChartItem)). x ++ over_charts q) (all_charts T p kept s) ∙ sym after.charts;
}

-- the socket told something while the request is open
pub served_event : (e : Event) (b : List ℕ) (r : Reply) (T : Trace) (p : LiveParts) (l : LineParts) (q : ProcessorParts) → is_over_at p.processor.stage ≡ false → Lives T p → l.moment ≡ max p.line.moment 0 → q.limits ≡ p.processor.limits → OpenAnswersEachEvent e b p.line p.processor r l q → AnswersLive (plain (reply_to_event T e b)) (rested_event p.limits p.line.moment T e b) (plain r) (record p { line = l; processor = q })
served_event e b r T p l q kept s later same answers =
    let w = answers T s.serves in
    let at : l.moment ≡ p.line.moment = later ∙ last_moment p.line.moment in
    let to_limits : q.limits ≡ p.limits = same ∙ s.limits in
    record {
      reply = w.reply;
      lives = subst (λ (k : Limits). Lives (rested_event k p.line.moment T e b) (record p { line = l; processor = q })) to_limits
          (subst (λ (t : ℕ). Lives (rested_event q.limits t T e b) (record p { line = l; processor = q })) at
          (served_lives T (rested_event q.limits l.moment T e b) p l q kept to_limits s w.after));
    }

-- a head is taken up or refused
pub opened_lives : (rules : List Rule) (T : Trace) (p : LiveParts) (l : LineParts) (q : ProcessorParts) → is_over_at p.processor.stage ≡ false → l.moment ≡ p.line.moment → q.limits ≡ p.processor.limits → Lives T p → ((R : Trace) → Serves R p.line p.processor → TakesUp rules R l q) → TakesOne rules p.limits p.line.moment T (record p { line = l; processor = q })
opened_lives rules T p l q kept at same s takes =
    let w = takes T s.serves in
    let R = w.trace in
    let to_limits : q.limits ≡ p.limits = same ∙ s.limits in
    record {
      trace = R;
      taken = sym (ap (λ (k : Limits). taken_up k rules l.moment T) to_limits ∙ ap (λ (t : ℕ). taken_up p.limits rules t T) at) ∙ w.taken;
      lives = subst (λ (k : Limits). Lives (rested k p.line.moment R) (record p { line = l; processor = q })) to_limits
          (subst (λ (t : ℕ). Lives (rested q.limits t R) (record p { line = l; processor = q })) at
          (served_lives T (rested q.limits l.moment R) p l q kept to_limits s w.after));
    }

-- the next head is taken up or refused
pub next_lives : (rules : List Rule) (limits : Limits) (m : ℕ) (T : Trace) (p due kept : LiveParts) → p.limits ≡ limits → p.line.moment ≡ m → SettlesTo rules limits m T p → RestsEach p due → due.limits ≡ p.limits → due.line.moment ≡ p.line.moment → SettlesOne rules due kept → SettlesTo rules limits m T kept
next_lives rules limits m T p due kept same_limits same_moment w rest limits_due moment_due one =
    let S = rested limits m w.trace in
    let here : Lives S due =
    subst (λ (k : Limits). Lives (rested k m w.trace) due) same_limits (subst (λ (t : ℕ). Lives (rested p.limits t w.trace) due) same_moment (rest w.trace w.lives)) in
    let u = one S here in
    let to_limits : due.limits ≡ limits = limits_due ∙ same_limits in
    let at : due.line.moment ≡ m = moment_due ∙ same_moment in
    let taken : taken_up limits rules m S ≡ Some u.trace =
    sym (ap (λ (k : Limits). taken_up k rules due.line.moment S) to_limits ∙ ap (λ (t : ℕ). taken_up limits rules t S) at) ∙ u.taken in
    record {
      trace = rested limits m u.trace;
      lives = subst (λ (k : Limits). Lives (rested k m u.trace) kept) to_limits (subst (λ (t : ℕ). Lives (rested due.limits t u.trace) kept) at u.lives);
      same = settled-rested limits rules m u.trace ∙ sym (settled-taken limits rules m w.trace u.trace taken) ∙ w.same;
    }

-- no head is due
not_due : (limits : Limits) (T : Trace) (p : LiveParts) → (not (is_open_at p.processor.stage) && is_due limits p.line) ≡ false → Lives T p → (may_begin T && not (is_awaited (front_of limits T))) ≡ false
not_due limits T p none s =
    elim (is_open_at p.processor.stage) as (λ v. is_open_at p.processor.stage ≡ v → (not v && is_due limits p.line) ≡ false → (may_begin T && not (is_awaited (front_of limits T))) ≡ false) [
      | true ↦ λ o n.
          ap (λ (v : Bool). v && not (is_awaited (front_of limits T))) (open_may_not_begin T (stands_open T p.processor s.serves.processor ∙ o))
      | false ↦ λ o n.
          ap (λ (l : LineParts). is_due limits l) (sym s.serves.line.same) ∙ n
    ] refl none

-- so it is settled
pub settled_lives : (rules : List Rule) (T : Trace) (limits : Limits) (m : ℕ) (p : LiveParts) → (not (is_open_at p.processor.stage) && is_due limits p.line) ≡ false → Lives (rested limits m T) p → Lives (settled limits rules m T) p
settled_lives rules T limits m p none s =
    subst (λ (R : Trace). Lives R p) (sym (settled-at-rest limits rules m T (none-due limits rules m (rested limits m T) (not_due limits (rested limits m T) p none s)))) s

-- what settling has come to is settled
pub rest_settles : (rules : List Rule) (limits : Limits) (m : ℕ) (T : Trace) (p due : LiveParts) → p.limits ≡ limits → p.line.moment ≡ m → SettlesTo rules limits m T p → RestsEach p due → (not (is_open_at due.processor.stage) && is_due limits due.line) ≡ false → Lives (settled limits rules m T) due
rest_settles rules limits m T p due same_limits same_moment w rest none =
    subst (λ (R : Trace). Lives R due) w.same
    (settled_lives rules w.trace limits m due none
    (subst (λ (k : Limits). Lives (rested k m w.trace) due) same_limits (subst (λ (t : ℕ). Lives (rested p.limits t w.trace) due) same_moment (rest w.trace w.lives))))

-- ---- acts and turns

-- a request that is open isn't over
pub open_not_over : (st : Stage) → is_open_at st ≡ true → is_over_at st ≡ false
open_not_over stage.Free o = cc
open_not_over stage.Owed o = refl
open_not_over stage.Serving o = refl
open_not_over stage.Over o = cc
open_not_over stage.Refused o = cc

pub act_told : (a : Act) (b into : List ℕ) (r : Reply) (T : Trace) (p : LiveParts) (l : LineParts) (q : ProcessorParts) → is_open_at p.processor.stage ≡ true → Lives T p → l.moment ≡ max p.line.moment 0 → q.limits ≡ p.processor.limits
    → AnswersEachAct a b p.line p.processor r into l q → AnswersLive (callback_reply p.limits T a) (rested_callback p.limits p.line.moment T a b) (replied_in r into) (record p { line = l; processor = q })
act_told a b into r T p l q o s later same answers =
    let w = answers T s.serves in
    let at : l.moment ≡ p.line.moment = later ∙ last_moment p.line.moment in
    let to_limits : q.limits ≡ p.limits = same ∙ s.limits in
    record {
      reply = w.reply ∙ ap (λ (k : Limits). callback_reply k T a) to_limits;
      lives = subst (λ (k : Limits). Lives (rested_callback k p.line.moment T a b) (record p { line = l; processor = q })) to_limits
          (subst (λ (t : ℕ). Lives (rested_callback q.limits t T a b) (record p { line = l; processor = q })) at
          (served_lives T (rested_callback q.limits l.moment T a b) p l q (open_not_over p.processor.stage o) to_limits s w.after));
    }

-- where no request is open, no callback runs that could act
pub idle_told : (a : Act) (b : List ℕ) (T : Trace) (p : LiveParts) → is_open_at p.processor.stage ≡ false → Lives T p
    → AnswersLive (callback_reply p.limits T a) (rested_callback p.limits p.line.moment T a b) (plain reply.NotActive) p
idle_told a b T p closed s =
    let none : running T ≡ None = (stands_idle T p.processor closed s.serves.processor).none_runs in
    record {
      reply = sym (ap (λ (o : Option Job). if is_some o then act_reply p.limits T a else plain reply.NotActive) none);
      lives = subst (λ (R : Trace). Lives R p) (sym (ap (λ (o : Option Job). if is_some o then rested_act p.limits p.line.moment T (act_marks p.limits T a b) else T) none)) s;
    }

-- ---- refused acts

module _ (limits : Limits) (t : ℕ) (T : Trace) where
  open_act_refused : (a : Act) (b : List ℕ) → is_refusal (open_act_reply limits T a).reply ≡ true → rested_act limits t T (open_act_marks limits T a b) ≡ T
  open_act_refused (act.Read n) b e =
      elim (reading_in n T) as (λ r. is_refusal (reading_reply r).reply ≡ true → rested_act limits t T (reading_marks r) ≡ T) [
        | content_read content ↦ λ q. cc
        | end_read ↦ λ q. cc
        | nothing_read ↦ λ q. refl
      ] e
  open_act_refused (act.Write n) b e =
      elim (is_full (answer_of T) n) as (λ v. is_refusal (if v then reply.Again else reply.Taken (write_takes (answer_of T) n)) ≡ true
      → rested_act limits t T (if v then None else Some (put (take (write_takes (answer_of T) n) b) ∷ [])) ≡ T) [
        | true ↦ λ q. refl
        | false ↦ λ q. cc
      ] e
  open_act_refused act.Return b e = cc

  -- a refused act leaves the trace
  pub callback_refused : (a : Act) (b : List ℕ) → is_refusal (callback_reply limits T a).reply ≡ true → rested_callback limits t T a b ≡ T
  callback_refused a b e =
      elim (is_some (running T)) as (λ v. is_refusal (if v then act_reply limits T a else plain reply.NotActive).reply ≡ true
      → (if v then rested_act limits t T (act_marks limits T a b) else T) ≡ T) [
        | true ↦ λ q.
            elim (is_closed_act a T) as (λ v. is_refusal (if v then plain reply.Closed else open_act_reply limits T a).reply ≡ true
            → rested_act limits t T (if v then None else open_act_marks limits T a b) ≡ T) [
              | true ↦ λ x. refl
              | false ↦ λ x. open_act_refused a b x
            ] q
        | false ↦ λ q. refl
      ] e

  -- it is followed by nothing
  open_act_unfollowed : (rules : List Rule) (a : Act) (b : List ℕ) → is_refusal (open_act_reply limits T a).reply ≡ true → after_act limits rules t T (open_act_marks limits T a b) ≡ T
  open_act_unfollowed rules (act.Read n) b e =
      elim (reading_in n T) as (λ r. is_refusal (reading_reply r).reply ≡ true → after_act limits rules t T (reading_marks r) ≡ T) [
        | content_read content ↦ λ q. cc
        | end_read ↦ λ q. cc
        | nothing_read ↦ λ q. refl
      ] e
  open_act_unfollowed rules (act.Write n) b e =
      elim (is_full (answer_of T) n) as (λ v. is_refusal (if v then reply.Again else reply.Taken (write_takes (answer_of T) n)) ≡ true
      → after_act limits rules t T (if v then None else Some (put (take (write_takes (answer_of T) n) b) ∷ [])) ≡ T) [
        | true ↦ λ q. refl
        | false ↦ λ q. cc
      ] e
  open_act_unfollowed rules act.Return b e = cc

  pub callback_unfollowed : (rules : List Rule) (a : Act) (b : List ℕ) → is_refusal (callback_reply limits T a).reply ≡ true → after_callback limits rules t T a b ≡ T
  callback_unfollowed rules a b e =
      elim (is_some (running T)) as (λ v. is_refusal (if v then act_reply limits T a else plain reply.NotActive).reply ≡ true
      → (if v then after_act limits rules t T (act_marks limits T a b) else T) ≡ T) [
        | true ↦ λ q.
            elim (is_closed_act a T) as (λ v. is_refusal (if v then plain reply.Closed else open_act_reply limits T a).reply ≡ true
            → after_act limits rules t T (if v then None else open_act_marks limits T a b) ≡ T) [
              | true ↦ λ x. refl
              | false ↦ λ x. open_act_unfollowed rules a b x
            ] q
        | false ↦ λ q. refl
      ] e

  -- an act that isn't refused is followed by the moves of the container
  settled_open_act : (rules : List Rule) (a : Act) (b : List ℕ) → is_refusal (open_act_reply limits T a).reply ≡ false
      → settled limits rules t (rested_act limits t T (open_act_marks limits T a b)) ≡ after_act limits rules t T (open_act_marks limits T a b)
  settled_open_act rules (act.Read n) b e =
      elim (reading_in n T) as (λ r. is_refusal (reading_reply r).reply ≡ false
      → settled limits rules t (rested_act limits t T (reading_marks r)) ≡ after_act limits rules t T (reading_marks r)) [
        | content_read content ↦ λ q. settled-rested limits rules t ((t, given (length content)) ∷ T)
        | end_read ↦ λ q. settled-rested limits rules t ((t, end_given) ∷ T)
        | nothing_read ↦ λ q. cc
      ] e
  settled_open_act rules (act.Write n) b e =
      elim (is_full (answer_of T) n) as (λ v. let o = if v then None else Some (put (take (write_takes (answer_of T) n) b) ∷ []) in
      is_refusal (if v then reply.Again else reply.Taken (write_takes (answer_of T) n)) ≡ false → settled limits rules t (rested_act limits t T o) ≡ after_act limits rules t T o) [
        | true ↦ λ q. cc
        | false ↦ λ q. settled-rested limits rules t ((t, put (take (write_takes (answer_of T) n) b)) ∷ T)
      ] e
  settled_open_act rules act.Return b e = settled-rested limits rules t (with_marks t (return_marks T) T)

  pub settled_callback : (rules : List Rule) (a : Act) (b : List ℕ) → is_refusal (callback_reply limits T a).reply ≡ false
      → settled limits rules t (rested_callback limits t T a b) ≡ after_callback limits rules t T a b
  settled_callback rules a b e =
      elim (is_some (running T)) as (λ v. is_refusal (if v then act_reply limits T a else plain reply.NotActive).reply ≡ false
      → settled limits rules t (if v then rested_act limits t T (act_marks limits T a b) else T) ≡ (if v then after_act limits rules t T (act_marks limits T a b) else T)) [
        | true ↦ λ q.
            elim (is_closed_act a T) as (λ v. let o = if v then None else open_act_marks limits T a b in
            is_refusal (if v then plain reply.Closed else open_act_reply limits T a).reply ≡ false → settled limits rules t (rested_act limits t T o) ≡ after_act limits rules t T o) [
              | true ↦ λ x. cc
              | false ↦ λ x. settled_open_act rules a b x
            ] q
        | false ↦ λ q. cc
      ] e

-- how many requests have ended
ended_length : (T : Trace) (p : LiveParts) → is_over_at p.processor.stage ≡ false → Lives T p → length p.charts ≡ ended_count T
ended_length T p kept s = ap length (all_charts T p kept s) ∙ length-map (ended_charts T) chart_of

none_owed : (T S : Trace) → (ended_count S == ended_count T) ≡ false → owed_after T S ≡ None
none_owed T S e = ap (λ (v : Bool). if v then next_job S else None) e

-- a turn of a worker, behind what was settled
abbrev pub AnswersTurn : LiveParts → Trace → Trace → Reply → LiveParts → Type 0
AnswersTurn old T S r new = AnswersLive (turn_reply T S) (after_turn old.line.moment T S) (plain r) new

-- nothing is owed where a request has ended, or none is open
pub idle_turn : (rules : List Rule) (T : Trace) (p mid : LiveParts) → is_over_at p.processor.stage ≡ false → is_over_at mid.processor.stage ≡ false → Lives T p → SettlesEach rules p mid → ((length mid.charts ≡ length p.charts → ⊥) ⊎ (is_open_at mid.processor.stage ≡ false)) → AnswersTurn p T (settled p.limits rules p.line.moment T) reply.Idle mid
idle_turn rules T p mid kept kept_mid s settles why =
    let S = settled p.limits rules p.line.moment T in
    let lives = settles T s in
    let none : owed_after T S ≡ None = ⊎_elim
    (λ other. none_owed T S (ne_eqb (ended_count S) (ended_count T) (λ e. other (ended_length S mid kept_mid lives ∙ e ∙ sym (ended_length T p kept s)))))
    (λ closed.
    elim (ended_count S == ended_count T) as (λ v. (if v then next_job S else None) ≡ None) [
      | true ↦ ap (λ (v : Bool). if v && is_none (running S) then job_owed (asking S) else None) (stands_open S mid.processor lives.serves.processor ∙ closed)
      | false ↦ refl
    ])
    why in
    record {
      reply = sym (ap (λ (o : Option Job). plain (job_reply o)) none);
      lives = subst (λ (o : Option Job). Lives (with_marks p.line.moment (job_marks o) S) mid) (sym none) lives;
    }

pub turn_lives : (rules : List Rule) (r : Reply) (T : Trace) (p mid : LiveParts) (l : LineParts) (q : ProcessorParts) → is_over_at p.processor.stage ≡ false → is_over_at mid.processor.stage ≡ false → Lives T p → SettlesEach rules p mid → length mid.charts ≡ length p.charts → is_open_at mid.processor.stage ≡ true → mid.limits ≡ p.limits → mid.line.moment ≡ p.line.moment → l.moment ≡ max mid.line.moment 0 → q.limits ≡ mid.processor.limits → AnswersEachTurn mid.line mid.processor r l q → AnswersTurn p T (settled p.limits rules p.line.moment T) r (record mid { line = l; processor = q })
turn_lives rules r T p mid l q kept kept_mid s settles equal o same_limits same_moment later same answers =
    let S = settled p.limits rules p.line.moment T in
    let lives = settles T s in
    let w = answers S lives.serves in
    let to_mid : q.limits ≡ mid.limits = same ∙ lives.limits in
    let at : l.moment ≡ p.line.moment = later ∙ last_moment mid.line.moment ∙ same_moment in
    let rests : rested q.limits l.moment S ≡ S = rested_open q.limits l.moment S mid.line lives.serves.line (stands_open S mid.processor lives.serves.processor ∙ o) in
    let counts : (ended_count S == ended_count T) ≡ true = eq-eqb (ended_count S) (ended_count T) (sym (ended_length S mid kept_mid lives) ∙ equal ∙ ended_length T p kept s) in
    let owed : owed_after S (rested q.limits l.moment S) ≡ owed_after T S =
    ap (owed_after S) rests
    ∙ ap (λ (v : Bool). if v then next_job S else None) (eq-eqb (ended_count S) (ended_count S) refl ∙ sym counts) in
    let trace : rested_turn q.limits l.moment S ≡ after_turn p.line.moment T S =
    ap (λ (o : Option Job). with_marks l.moment (job_marks o) (rested q.limits l.moment S)) owed
    ∙ ap (with_marks l.moment (job_marks (owed_after T S))) rests
    ∙ ap (λ (t : ℕ). with_marks t (job_marks (owed_after T S)) S) at in
    record {
      reply = w.reply ∙ ap (λ (o : Option Job). plain (job_reply o)) owed;
      lives = subst (λ (R : Trace). Lives R (record mid { line = l; processor = q })) trace (served_lives S (rested_turn q.limits l.moment S) mid l q kept_mid to_mid lives w.after);
    }

-- after a turn it goes on
pub turn_alive : (p : LiveParts) (r : Reply) (l : LineParts) (q : ProcessorParts) → IsAlive p → is_open_at p.processor.stage ≡ true → q.limits ≡ p.processor.limits → AnswersEachTurn p.line p.processor r l q → IsAlive (record p { line = l; processor = q })
turn_alive p r l q a o same answers =
    let w = answers a.0 a.1.serves in
    (rested_turn q.limits l.moment a.0, served_lives a.0 (rested_turn q.limits l.moment a.0) p l q (open_not_over p.processor.stage o) (same ∙ a.1.limits) a.1 w.after)

-- and after an act
pub act_alive : (a : Act) (b into : List ℕ) (p : LiveParts) (r : Reply) (l : LineParts) (q : ProcessorParts) → IsAlive p → is_open_at p.processor.stage ≡ true → q.limits ≡ p.processor.limits → AnswersEachAct a b p.line p.processor r into l q → IsAlive (record p { line = l; processor = q })
act_alive a b into p r l q alive o same answers =
    let w = answers alive.0 alive.1.serves in
    (rested_callback q.limits l.moment alive.0 a b, served_lives alive.0 (rested_callback q.limits l.moment alive.0 a b) p l q (open_not_over p.processor.stage o) (same ∙ alive.1.limits) alive.1 w.after)

-- ---- what follows an entry

-- what follows is settled; behind a turn of a worker nothing begins
pub follows : (rules : List Rule) (turn : Bool) (told : Reply) (p new : LiveParts) → (turn ≡ true → told ≡ reply.Idle) → SettlesEach rules p new
    → (turn ≡ false) ⊎ ((T : Trace) → Lives T p → AnswersTurn p T (settled p.limits rules p.line.moment T) reply.Idle new) → LivesAfterFollowing rules turn told p told new
follows rules true told p new idle settles why T s =
    ⊎_elim (λ e. absurd (not_both e)) (λ turns. subst (λ (r : Reply). AnswersTurn p T (settled p.limits rules p.line.moment T) r new) (sym (idle refl)) (turns T s)) why
  where
    not_both : true ≡ false → ⊥
    not_both e = cc
follows rules false told p new idle settles why T s = record { reply = refl; lives = settles T s }

-- or the callback that is owed begins
pub turn_follows : (rules : List Rule) (turn : Bool) (told : Reply) (p new : LiveParts) (r : Reply) → turn ≡ true
    → ((T : Trace) → Lives T p → AnswersTurn p T (settled p.limits rules p.line.moment T) r new) → LivesAfterFollowing rules turn told p r new
turn_follows rules true told p new r is turns T s = turns T s
turn_follows rules false told p new r is turns T s = cc
