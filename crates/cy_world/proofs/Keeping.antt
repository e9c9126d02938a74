-- A connection with all that it wrote goes on standing for its entries.
use Rattle.std.proofs.Common.{◌≡◌, ℕ, ◌+◌, Bool, true, false, List, [], ◌∷◌, ◌++◌, length, drop, map, Option, Some, None, refl, sym, ap, ◌∙◌, subst, arith, length-append, if◌then◌else◌}
use Rattle.std.proofs.lemmas.List.{length-map, map-append}
use mir.Val.{bool_byte}
use Rattle.cy_event.specs.declared.limits.Limits.{Limits}
use Rattle.cy_event.specs.declared.steps.Act.{Act}
use Rattle.cy_event.specs.declared.steps.Event.{Event}
use Rattle.cy_event.specs.declared.steps.Event.TheVariants as event
use Rattle.cy_event.specs.declared.steps.Job.{Job}
use Rattle.cy_event.specs.declared.steps.Reply.{Reply}
use Rattle.cy_event.specs.declared.steps.Reply.TheVariants as reply
use Rattle.cy_event.specs.declared.table.ChartItem.{ChartItem}
use Rattle.cy_event.specs.Charts.{chart_of}
use Rattle.cy_event.specs.declared.steps.Call.{Call}
use Rattle.cy_proc.specs.Lines.{LineParts}
use Rattle.cy_proc.specs.ProcessorAnswers.{ended_items}
use Rattle.cy_proc.specs.Processors.{ProcessorParts, StandsForRequest, is_open_at, is_over_at}
use Rattle.cy_proc.proofs.Lines.{plainly}
use Rattle.cy_proc.proofs.Requests.{stands_open, stands_request}
use Rattle.cy_states.specs.Progress.{Progress, progress_of}
use Rattle.cy_world.specs.declared.seat.Account.{Account}
use Rattle.cy_event.specs.declared.steps.Step.{Step}
use Rattle.cy_event.specs.declared.steps.Step.TheVariants as step
use Rattle.cy_world.proofs.Lives.{AnswersTurn, all_charts, callback_refused, callback_unfollowed, settled_callback}
use Rattle.cy_model.specs.Entries.{after_callback, after_turn, callback_reply, after, event_marks, event_reply, is_closed_to, job_reply, on_act, on_event, on_run, opening, reply_to, reply_to_event, rested_callback, rested_event, turn_reply}
use Rattle.cy_model.specs.Folds.{calls, charts, ended_charts, is_open}
use Rattle.cy_model.specs.Outputs.{is_gone, output, took}
use Rattle.cy_model.specs.Marks.{opened, Trace}
use Rattle.cy_model.specs.Replies.{Replied, is_refusal, plain, replied_in}
use Rattle.cy_model.specs.Settling.{rested, settled, with_marks}
use Rattle.cy_model.proofs.Settlings.{settled-rested}
use Rattle.cy_world.specs.Answered.{Answers, IsOwn, Keeps, Parts, Tells, entry_by, is_turn, start}
use Rattle.cy_world.specs.Lives.{AnswersLive, KeepsEach, LivesAfterEvent, LivesAfterFollowing, LivesAfterTelling, SettlesEach, first_of}
use Rattle.cy_world.specs.Places.{LiveParts, Lives, charts_in}
use Rattle.cy_world.specs.Told.{request_count, tally_of}
use Rattle.cy_world.specs.declared.seat.Tally.{Tally}
use Rattle.cy_world.specs.declared.terms.Terms.{Terms}
use Rattle.cy_world.proofs.Written.{Writes, act_writes, event_output, settling_writes, turn_writes, written_since}

-- ---- events

closed_reply : (T : Trace) (e : Event) (b : List ℕ) → is_refusal (reply_to_event T e b) ≡ is_closed_to e T
closed_reply T e b =
    elim (is_closed_to e T) as (λ v. is_refusal (if v then reply.Closed else event_reply T e b) ≡ v) [
      | true ↦ refl
      | false ↦ not_closed T e b
    ]
  where
    not_closed : (T : Trace) (e : Event) (b : List ℕ) → is_refusal (event_reply T e b) ≡ false
    not_closed T event.In b = refl
    not_closed T event.End b = refl
    not_closed T (event.Took n) b = refl

-- the answer of a connection that goes on, under the terms and at the moment
at_terms : (s : Terms) (T : Trace) (p : Parts) (next : Limits → ℕ → Trace) (k : LiveParts) → Keeps s T p → Lives (next p.live.limits p.live.line.moment) k → Lives (next s.limits start) k
at_terms s T p next k keeps lives =
    subst (λ (l : Limits). Lives (next l start) k) keeps.limits (subst (λ (t : ℕ). Lives (next p.live.limits t) k) keeps.moment lives)

-- what is kept, when the connection has gone on to another trace
goes_on : (s : Terms) (T R : Trace) (p : Parts) (k : LiveParts) (written : List ℕ) → Keeps s T p → Lives R k → KeepsEach p.live k → written ≡ output R → Keeps s R (record { live = k; written = written })
goes_on s T R p k written keeps lives each out = record {
  lives = lives;
  limits = each.limits ∙ keeps.limits;
  moment = each.moment ∙ keeps.moment;
  kept = each.kept keeps.kept;
  written = out;
}

both_keep : (p k n : LiveParts) → KeepsEach p k → KeepsEach k n → KeepsEach p n
both_keep p k n first second = record {
  limits = second.limits ∙ first.limits;
  moment = second.moment ∙ first.moment;
  kept = λ was. second.kept (first.kept was);
}

closed_keeps : (s : Terms) (e : Event) (b : List ℕ) (r : Reply) (T : Trace) (p : Parts) (k : LiveParts) → Keeps s T p → is_refusal r ≡ true → LivesAfterEvent e b p.live r k → KeepsEach p.live k → Answers s T (on_event e b) (plain r) (record { live = k; written = p.written })
unfolding after reply_to
closed_keeps s e b r T p k keeps closed answers each =
    let w = answers T keeps.lives in
    let is : is_closed_to e T ≡ true = sym (closed_reply T e b) ∙ ap (λ (x : Replied). is_refusal x.reply) (sym w.reply) ∙ closed in
    let here : Lives T k = subst (λ (v : Bool). Lives (if v then T else rested p.live.limits p.live.line.moment (with_marks p.live.line.moment (event_marks T e b) T)) k) is w.lives in
    record {
      reply = w.reply;
      keeps = subst (λ (v : Bool). Keeps s (if v then T else settled s.limits s.rules start (with_marks start (event_marks T e b) T)) (record { live = k; written = p.written })) (sym is)
          (goes_on s T T p k p.written keeps here each keeps.written);
    }

event_keeps : (s : Terms) (e : Event) (b : List ℕ) (r : Reply) (T : Trace) (p : Parts) (k n : LiveParts) (written : List ℕ) → Keeps s T p → is_refusal r ≡ false → LivesAfterEvent e b p.live r k → KeepsEach p.live k → SettlesEach s.rules k n → KeepsEach k n → written ≡ p.written ++ drop (length k.line.unsent) n.line.unsent → Answers s T (on_event e b) (plain r) (record { live = n; written = written })
unfolding after reply_to
event_keeps s e b r T p k n written keeps open_now answers each settles settled_each pushed =
    let w = answers T keeps.lives in
    let is : is_closed_to e T ≡ false = sym (closed_reply T e b) ∙ ap (λ (x : Replied). is_refusal x.reply) (sym w.reply) ∙ open_now in
    let told : Trace = with_marks start (event_marks T e b) T in
    let E = rested_event s.limits start T e b in
    let lives_event : Lives E k = at_terms s T p (λ l t. rested_event l t T e b) k keeps w.lives in
    let same : E ≡ rested s.limits start told = ap (λ (v : Bool). if v then T else rested s.limits start told) is in
    let limits : k.limits ≡ s.limits = each.limits ∙ keeps.limits in
    let moment : k.line.moment ≡ start = each.moment ∙ keeps.moment in
    let R = settled s.limits s.rules start E in
    let lives : Lives R n = subst (λ (l : Limits). Lives (settled l s.rules start E) n) limits (subst (λ (t : ℕ). Lives (settled k.limits s.rules t E) n) moment (settles E lives_event)) in
    let trace : R ≡ settled s.limits s.rules start told = ap (settled s.limits s.rules start) same ∙ settled-rested s.limits s.rules start told in
    let out : written ≡ output R =
    pushed
    ∙ ap (λ (u : List ℕ). u ++ drop (length k.line.unsent) n.line.unsent) (keeps.written ∙ sym (event_output s.limits start e b T (plainly T keeps.lives.serves.line.sound)))
    ∙ written_since E R k.line n.line lives_event.serves.line lives.serves.line (settling_writes s.limits s.rules start E) in
    let all : KeepsEach p.live n = both_keep p.live k n each settled_each in
    record {
      reply = w.reply;
      keeps = subst (λ (v : Bool). Keeps s (if v then T else settled s.limits s.rules start told) (record { live = n; written = written })) (sym is)
          (subst (λ (X : Trace). Keeps s X (record { live = n; written = written })) trace (goes_on s T R p n written keeps lives all out));
    }

-- a reply beside which no bytes stand
bare : (r q : Reply) (into : List ℕ) → replied_in r into ≡ plain q → replied_in r into ≡ plain r
bare r q into same = same ∙ sym (ap (λ (x : Replied). plain x.reply) same)

-- no bytes stand beside what the socket is answered
told_event : (e : Event) (b : List ℕ) (p k : LiveParts) (r : Reply) (into : List ℕ) → LivesAfterTelling (on_event e b) p r into k → LivesAfterEvent e b p r k
told_event e b p k r into tells T lives =
    let w = tells T lives in
    record { reply = sym (bare r (reply_to_event T e b) into w.reply) ∙ w.reply; lives = w.lives }

-- ---- turns and acts

-- a connection that is gone takes no turn and no act
pub gone_run : (s : Terms) (T : Trace) (p : Parts) → Keeps s T p → is_gone T ≡ true → Answers s T on_run (plain reply.Closed) p
unfolding after reply_to
gone_run s T p keeps gone =
    let S = settled s.limits s.rules start T in
    record {
      reply = sym (ap (λ (v : Bool). if v then plain reply.Closed else turn_reply T S) gone);
      keeps = subst (λ (v : Bool). Keeps s (if v then T else after_turn start T S) p) (sym gone) keeps;
    }

pub gone_act : (s : Terms) (a : Act) (b : List ℕ) (T : Trace) (p : Parts) → Keeps s T p → is_gone T ≡ true → Answers s T (on_act a b) (plain reply.Closed) p
unfolding after reply_to
gone_act s a b T p keeps gone = record {
  reply = sym (ap (λ (v : Bool). if v then plain reply.Closed else callback_reply s.limits T a) gone);
  keeps = subst (λ (v : Bool). Keeps s (if v then T else after_callback s.limits s.rules start T a b) p) (sym gone) keeps;
}

-- what waits was written behind what waited
written_on : (T R : Trace) (p : Parts) (n : LiveParts) (s : Terms) (written : List ℕ) → Keeps s T p → Lives R n → Writes T R → written ≡ p.written ++ drop (length p.live.line.unsent) n.line.unsent → written ≡ output R
written_on T R p n s written keeps lives writes pushed =
    pushed
    ∙ ap (λ (u : List ℕ). u ++ drop (length p.live.line.unsent) n.line.unsent) keeps.written
    ∙ written_since T R p.live.line n.line keeps.lives.serves.line lives.serves.line writes

run_keeps : (s : Terms) (r : Reply) (T : Trace) (p : Parts) (n : LiveParts) (written : List ℕ) → Keeps s T p → is_gone T ≡ false
    → AnswersTurn p.live T (settled p.live.limits s.rules p.live.line.moment T) r n → KeepsEach p.live n → written ≡ p.written ++ drop (length p.live.line.unsent) n.line.unsent
    → Answers s T on_run (plain r) (record { live = n; written = written })
unfolding after reply_to
run_keeps s r T p n written keeps here w each pushed =
    let S : Limits → ℕ → Trace = λ l t. settled l s.rules t T in
    let R = after_turn start T (S s.limits start) in
    let lives : Lives R n = at_terms s T p (λ l t. after_turn t T (S l t)) n keeps w.lives in
    let replied : plain r ≡ turn_reply T (S s.limits start) =
    w.reply
    ∙ ap (λ (l : Limits). turn_reply T (S l p.live.line.moment)) keeps.limits
    ∙ ap (λ (t : ℕ). turn_reply T (S s.limits t)) keeps.moment in
    record {
      reply = replied ∙ sym (ap (λ (v : Bool). if v then plain reply.Closed else turn_reply T (S s.limits start)) here);
      keeps = subst (λ (v : Bool). Keeps s (if v then T else R) (record { live = n; written = written })) (sym here)
          (goes_on s T R p n written keeps lives each (written_on T R p n s written keeps lives (turn_writes s.limits s.rules start T) pushed));
    }

-- an act, by the trace that it leaves
acted_keeps : (s : Terms) (a : Act) (b : List ℕ) (r : Replied) (T R : Trace) (p : Parts) (n : LiveParts) (written : List ℕ) → Keeps s T p → is_gone T ≡ false
    → r ≡ callback_reply p.live.limits T a → after_callback s.limits s.rules start T a b ≡ R → Lives R n → KeepsEach p.live n → written ≡ output R
    → Answers s T (on_act a b) r (record { live = n; written = written })
unfolding after reply_to
acted_keeps s a b r T R p n written keeps here replied after_is lives each out = record {
  reply = replied ∙ ap (λ (l : Limits). callback_reply l T a) keeps.limits ∙ sym (ap (λ (v : Bool). if v then plain reply.Closed else callback_reply s.limits T a) here);
  keeps = subst (λ (v : Bool). Keeps s (if v then T else after_callback s.limits s.rules start T a b) (record { live = n; written = written })) (sym here)
      (subst (λ (X : Trace). Keeps s X (record { live = n; written = written })) (sym after_is) (goes_on s T R p n written keeps lives each out));
}

-- an act that is refused
refused_act_keeps : (s : Terms) (a : Act) (b : List ℕ) (r : Reply) (into : List ℕ) (T : Trace) (p : Parts) (k : LiveParts) → Keeps s T p → is_gone T ≡ false → is_refusal r ≡ true
    → LivesAfterTelling (on_act a b) p.live r into k → KeepsEach p.live k → Answers s T (on_act a b) (replied_in r into) (record { live = k; written = p.written })
refused_act_keeps s a b r into T p k keeps here refused tells each =
    let w = tells T keeps.lives in
    let refused_then : is_refusal (callback_reply p.live.limits T a).reply ≡ true = sym (ap (λ (x : Replied). is_refusal x.reply) w.reply) ∙ refused in
    let refused_now : is_refusal (callback_reply s.limits T a).reply ≡ true = sym (ap (λ (l : Limits). is_refusal (callback_reply l T a).reply) keeps.limits) ∙ refused_then in
    let lives : Lives T k = subst (λ (R : Trace). Lives R k) (callback_refused p.live.limits p.live.line.moment T a b refused_then) w.lives in
    acted_keeps s a b (replied_in r into) T T p k p.written keeps here w.reply (callback_unfollowed s.limits start T s.rules a b refused_now) lives each keeps.written

-- an act, and what follows
act_keeps : (s : Terms) (a : Act) (b : List ℕ) (r : Reply) (into : List ℕ) (T : Trace) (p : Parts) (k n : LiveParts) (written : List ℕ) → Keeps s T p → is_gone T ≡ false → is_refusal r ≡ false
    → LivesAfterTelling (on_act a b) p.live r into k → KeepsEach p.live k → SettlesEach s.rules k n → KeepsEach k n → written ≡ p.written ++ drop (length p.live.line.unsent) n.line.unsent
    → Answers s T (on_act a b) (replied_in r into) (record { live = n; written = written })
act_keeps s a b r into T p k n written keeps here taken tells each settles settled_each pushed =
    let w = tells T keeps.lives in
    let C : Trace = rested_callback s.limits start T a b in
    let R : Trace = after_callback s.limits s.rules start T a b in
    let taken_now : is_refusal (callback_reply s.limits T a).reply ≡ false =
    sym (ap (λ (l : Limits). is_refusal (callback_reply l T a).reply) keeps.limits) ∙ sym (ap (λ (x : Replied). is_refusal x.reply) w.reply) ∙ taken in
    let told : Lives C k = at_terms s T p (λ l t. rested_callback l t T a b) k keeps w.lives in
    let limits : k.limits ≡ s.limits = each.limits ∙ keeps.limits in
    let moment : k.line.moment ≡ start = each.moment ∙ keeps.moment in
    let lives : Lives R n = subst (λ (X : Trace). Lives X n) (settled_callback s.limits start T s.rules a b taken_now)
    (subst (λ (l : Limits). Lives (settled l s.rules start C) n) limits (subst (λ (t : ℕ). Lives (settled k.limits s.rules t C) n) moment (settles C told))) in
    acted_keeps s a b (replied_in r into) T R p n written keeps here w.reply refl lives (both_keep p.live k n each settled_each)
    (written_on T R p n s written keeps lives (act_writes s.limits s.rules start T a b) pushed)

-- ---- an entry

-- an entry that is refused is followed by nothing
pub step_refused : (s : Terms) (step : Step) (told : Reply) (into : List ℕ) (T : Trace) (p : Parts) (k : LiveParts) → IsOwn step → Keeps s T p → is_gone T ≡ false → is_refusal told ≡ true
    → LivesAfterTelling (entry_by step) p.live told into k → KeepsEach p.live k → Answers s T (entry_by step) (replied_in told into) (record { live = k; written = p.written })
step_refused s (step.At t) told into T p k own keeps here refused tells each = absurd own
step_refused s (step.Admit c) told into T p k own keeps here refused tells each = absurd own
step_refused s (step.On c e b) told into T p k own keeps here refused tells each =
    subst (λ (v : Replied). Answers s T (on_event e b) v (record { live = k; written = p.written })) (sym (bare told _ into (tells T keeps.lives).reply))
    (closed_keeps s e b told T p k keeps refused (told_event e b p.live k told into tells) each)
step_refused s (step.Act c a b) told into T p k own keeps here refused tells each = refused_act_keeps s a b told into T p k keeps here refused tells each
step_refused s (step.Run c) told into T p k own keeps here refused tells each =
    let clash : false ≡ true = sym (ap (λ (x : Replied). is_refusal x.reply) (tells T keeps.lives).reply) ∙ refused in cc

reply_is : (r q : Reply) → plain r ≡ plain q → r ≡ q
reply_is r q same = ap (λ (x : Replied). x.reply) same

-- nor do they beside what a worker is told
job_bare : (o : Option Job) (into : List ℕ) → replied_in (job_reply o) into ≡ plain (job_reply o)
job_bare None into = refl
job_bare (Some j) into = refl

turn_bare : (r : Reply) (o : Option Job) (into : List ℕ) → plain r ≡ plain (job_reply o) → plain r ≡ replied_in r into
turn_bare r o into same = subst (λ (q : Reply). plain q ≡ replied_in q into) (sym (reply_is r (job_reply o) same)) (sym (job_bare o into))

-- an entry that is taken, and what follows
pub step_followed : (s : Terms) (step : Step) (told r : Reply) (into : List ℕ) (first : ℕ) (T : Trace) (p : Parts) (k n : LiveParts) (written : List ℕ) → IsOwn step → Keeps s T p → is_gone T ≡ false → is_refusal told ≡ false
    → LivesAfterTelling (entry_by step) p.live told into k → KeepsEach p.live k → LivesAfterFollowing s.rules (is_turn step) told k r n → KeepsEach k n
    → first ≡ first_of (entry_by step) p.live k → written ≡ p.written ++ drop first n.line.unsent
    → Answers s T (entry_by step) (replied_in r into) (record { live = n; written = written })
step_followed s (step.At t) told r into first T p k n written own keeps here taken tells each follows each_then from pushed = absurd own
step_followed s (step.Admit c) told r into first T p k n written own keeps here taken tells each follows each_then from pushed = absurd own
step_followed s (step.On c e b) told r into first T p k n written own keeps here taken tells each follows each_then from pushed =
    let same : r ≡ told = reply_is r told (follows _ (tells T keeps.lives).lives).reply in
    subst (λ (v : Replied). Answers s T (on_event e b) v (record { live = n; written = written }))
    (sym (ap (λ (q : Reply). replied_in q into) same ∙ bare told _ into (tells T keeps.lives).reply))
    (event_keeps s e b told T p k n written keeps taken (told_event e b p.live k told into tells) each (λ R lives. (follows R lives).lives) each_then
    (pushed ∙ ap (λ (i : ℕ). p.written ++ drop i n.line.unsent) from))
step_followed s (step.Act c a b) told r into first T p k n written own keeps here taken tells each follows each_then from pushed =
    let same : r ≡ told = reply_is r told (follows _ (tells T keeps.lives).lives).reply in
    subst (λ (q : Reply). Answers s T (on_act a b) (replied_in q into) (record { live = n; written = written })) (sym same)
    (act_keeps s a b told into T p k n written keeps here taken tells each (λ R lives. (follows R lives).lives) each_then
    (pushed ∙ ap (λ (i : ℕ). p.written ++ drop i n.line.unsent) from))
step_followed s (step.Run c) told r into first T p k n written own keeps here taken tells each follows each_then from pushed =
    subst (λ (v : Replied). Answers s T on_run v (record { live = n; written = written })) (turn_bare r _ into (follows _ (tells T keeps.lives).lives).reply)
    (run_keeps s r T p n written keeps here
    (subst (λ (l : Limits). AnswersLive (turn_reply T (settled l s.rules p.live.line.moment T)) (after_turn p.live.line.moment T (settled l s.rules p.live.line.moment T)) (plain r) n) each.limits
    (subst (λ (t : ℕ). AnswersLive (turn_reply T (settled k.limits s.rules t T)) (after_turn t T (settled k.limits s.rules t T)) (plain r) n) each.moment (follows T (tells T keeps.lives).lives)))
    (both_keep p.live k n each each_then)
    (pushed ∙ ap (λ (i : ℕ). p.written ++ drop i n.line.unsent) from))

-- ---- the opening

pub open_keeps : (s : Terms) (k n : LiveParts) (written : List ℕ) → Lives ((start, opened) ∷ []) k → k.limits ≡ s.limits → k.line.moment ≡ start → is_over_at k.processor.stage ≡ false → SettlesEach s.rules k n → KeepsEach k n
    → written ≡ [] ++ drop (length k.line.unsent) n.line.unsent → Keeps s (after s.limits s.rules start [] opening) (record { live = n; written = written })
unfolding after
open_keeps s k n written lives limits moment kept settles each pushed =
    let T : Trace = (start, opened) ∷ [] in
    let R = settled s.limits s.rules start T in
    let p : Parts = record { live = k; written = [] } in
    let first : Keeps s T p = record { lives = lives; limits = limits; moment = moment; kept = kept; written = refl } in
    let after_all : Lives R n = at_terms s T p (λ l t. settled l s.rules t T) n first (settles T lives) in
    goes_on s T R p n written first after_all each (written_on T R p n s written first after_all (settling_writes s.limits s.rules start T) pushed)

-- ---- what is told in the end

-- with the chart of an open request
open_told : (ks : List Call) (T : Trace) (cs : List (List ChartItem)) (progress : Progress) → is_open T ≡ true → calls T ≡ ks → progress ≡ progress_of ks → cs ≡ ended_items T → cs ++ progress.chart ∷ [] ≡ map chart_of (charts T)
open_told ks T cs progress o called same kept =
    ap (λ (x : List (List ChartItem)). x ++ progress.chart ∷ []) kept
    ∙ ap (λ (g : Progress). ended_items T ++ g.chart ∷ []) same
    ∙ ap (λ (k : List Call). ended_items T ++ chart_of k ∷ []) (sym called)
    ∙ sym (map-append chart_of (ended_charts T) (calls T ∷ []))
    ∙ ap (map chart_of) (sym (ap (λ (v : Bool). if v then ended_charts T ++ calls T ∷ [] else ended_charts T) o))

pub charts_told : (v : Bool) (T : Trace) (cs : List (List ChartItem)) (q : ProcessorParts) → is_open_at q.stage ≡ v → StandsForRequest T q → cs ≡ ended_items T → (if v then cs ++ q.progress.chart ∷ [] else cs) ≡ map chart_of (charts T)
charts_told true T cs q o s same =
    let w = stands_request T q o s in
    open_told (calls T) T cs q.progress (stands_open T q s ∙ o) refl (ap (λ (k : ProcessorParts). k.progress) w.same) same
charts_told false T cs q o s same =
    same ∙ ap (map chart_of) (sym (ap (λ (v : Bool). if v then ended_charts T ++ calls T ∷ [] else ended_charts T) (stands_open T q s ∙ o)))

requests_told : (v : Bool) (T : Trace) (n : ℕ) → is_open T ≡ v → n ≡ length (ended_charts T) → n + bool_byte v ≡ request_count T
requests_told true T n o same =
    omega (arith, length-append (ended_charts T) (calls T ∷ []), ap (λ (v : Bool). length (if v then ended_charts T ++ calls T ∷ [] else ended_charts T)) o)
requests_told false T n o same =
    omega (arith, ap (λ (v : Bool). length (if v then ended_charts T ++ calls T ∷ [] else ended_charts T)) o)

pub tallies : (s : Terms) (T : Trace) (p : Parts) (t : Tally) → Keeps s T p → t.cause ≡ p.live.line.cause → t.took ≡ took T → t.requests ≡ length p.live.charts + bool_byte (is_open_at p.live.processor.stage) → t.ended ≡ length p.live.charts → t ≡ tally_of T
tallies s T p t keeps why taken begun done =
    let ended : length p.live.charts ≡ length (ended_charts T) = ap length (all_charts T p.live keeps.kept keeps.lives) ∙ length-map (ended_charts T) chart_of in
    let cause = why ∙ ap (λ (l : LineParts). l.cause) keeps.lives.serves.line.same in
    let requests =
    begun ∙ requests_told (is_open_at p.live.processor.stage) T (length p.live.charts) (stands_open T p.live.processor keeps.lives.serves.processor) ended in
    λ i. record { cause = cause i; took = taken i; requests = requests i; ended = (done ∙ ended) i }

pub tells : (s : Terms) (T : Trace) (p : Parts) (a : Account) → Keeps s T p → a.cause ≡ p.live.line.cause → a.took ≡ took T → a.written ≡ p.written → a.charts.items ≡ charts_in p.live → Tells T a
tells s T p a keeps why taken wrote drawn = record {
  cause = why ∙ ap (λ (l : LineParts). l.cause) keeps.lives.serves.line.same;
  took = taken;
  written = wrote ∙ keeps.written;
  charts = drawn ∙ charts_told (is_open_at p.live.processor.stage) T p.live.charts p.live.processor refl keeps.lives.serves.processor (all_charts T p.live keeps.kept keeps.lives);
}
