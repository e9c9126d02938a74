-- A tenant's calls are answered alike in a slot that was used and released and in a new one.
use Rattle.std.proofs.Common.{◌≡◌, ◌<◌, ℕ, ◌+◌, max, Bool, true, false, ◌&&◌, cond, eqb, List, [], ◌∷◌, Option, Some, None, is_some, refl, ap, sym, ◌∙◌, subst, arith, inl, inr}
use Rattle.std.proofs.lemmas.Bool.{eq-eqb, ne_eqb, false≢true, true≢false}
use Rattle.cy_event.specs.declared.limits.Limits.{Limits}
use Rattle.cy_event.specs.declared.steps.Reply.{Reply}
use Rattle.cy_event.specs.declared.steps.Reply.TheVariants as reply
use Rattle.cy_map.specs.declared.rule.Rule.{Rule}
use Rattle.cy_model.specs.Entries.{callback_reply, reply_to_event, rested_callback, rested_event, rested_turn, turn_reply}
use Rattle.cy_model.specs.Marks.{Trace}
use Rattle.cy_model.specs.Replies.{Replied, plain, replied_in}
use Rattle.cy_model.specs.Settling.{rested, taken_up}
use Rattle.cy_proc.specs.Lines.{LineParts, Represents, line_parts}
use Rattle.cy_proc.specs.ProcessorAnswers.{Answers, Serves, TakesUp, is_ended}
use Rattle.cy_proc.specs.Processors.{ProcessorParts, StandsForRequest, fresh_processor, is_free_at, is_open_at, processor_parts, request_folds}
use Rattle.cy_slot.specs.declared.conn.Conn.{Conn}
use Rattle.cy_slot.specs.declared.slot.TheConstants.{GREATEST_TENANCY}
use Rattle.cy_slot.specs.Slots.{SlotParts, fresh_slot, line_in, line_of, released, with_state}
use Rattle.cy_slot.specs.Reaching.{KeepsAllElse, Who, after_bind, has_head_due, lent_by, may_open, reaches, tenant_after, who_is}
use Rattle.cy_slot.specs.Courses.{AreTwins, OwnCall, IsCalled, IsCourse, IsOpening, IsStep, SlotForgets, acted, kept, kept_reply, opening, told, turned}

-- ---- what stands for one trace is the same

same_line : (R : Trace) (l m : LineParts) → Represents R l → Represents R m → l.moment ≡ m.moment → l ≡ m
same_line R l m of_l of_m e = of_l.same ∙ ap (λ (n : ℕ). line_parts n R) e ∙ sym of_m.same

of_last_request : (R : Trace) (p : ProcessorParts) → is_free_at p.stage ≡ false → StandsForRequest R p → p ≡ processor_parts p.limits (request_folds R)
of_last_request R p not_free (inl own) = own.same
of_last_request R p not_free (inr none) =
    absurd (true≢false (sym (ap (λ (q : ProcessorParts). is_free_at q.stage) none.fresh) ∙ not_free))

same_processor : (R : Trace) (p q : ProcessorParts) → StandsForRequest R p → StandsForRequest R q → is_free_at p.stage ≡ false → is_free_at q.stage ≡ false → p.limits ≡ q.limits → p ≡ q
same_processor R p q of_p of_q busy_p busy_q e =
    of_last_request R p busy_p of_p ∙ ap (λ (k : Limits). processor_parts k (request_folds R)) e ∙ sym (of_last_request R q busy_q of_q)

abbrev share_of : Option Who → ℕ
share_of None = 0
share_of (Some w) = w.share

abbrev number_of : Option Who → ℕ
number_of None = 0
number_of (Some w) = w.number

same_tenant : (o p : Option Conn) → who_is o ≡ who_is p → line_of o ≡ line_of p → o ≡ p
same_tenant None None who line = refl
same_tenant None (Some d) who line = absurd (false≢true (ap is_some who))
same_tenant (Some c) None who line = absurd (true≢false (ap is_some who))
same_tenant (Some c) (Some d) who line =
    let e : c ≡ d = λ i. record { line = line i; share = ap share_of who i; number = ap number_of who i } in
    ap Some e

same_slot : (a b na nb : SlotParts) → AreTwins a b → KeepsAllElse a na → KeepsAllElse b nb → line_in na ≡ line_in nb → na.processor ≡ nb.processor → AreTwins na nb
same_slot a b na nb alike keeps_a keeps_b line processor =
    λ i. record { tenant = tenant i; processor = processor i; state = state i; tenancy = na.tenancy; first = na.first }
  where
    tenant : na.tenant ≡ nb.tenant
    tenant =
        same_tenant na.tenant nb.tenant
        (keeps_a.who ∙ ap (λ (s : SlotParts). who_is s.tenant) alike ∙ sym keeps_b.who)
        line

    state : na.state ≡ nb.state
    state =
        ap (λ (s : SlotParts). s.state) keeps_a.same
        ∙ ap (λ (s : SlotParts). s.state) alike
        ∙ sym (ap (λ (s : SlotParts). s.state) keeps_b.same)

-- ---- what is for the own tenant

reach_own : (s : SlotParts) → reaches s.tenancy s ≡ (is_some s.tenant && true && is_open_at s.processor.stage)
reach_own s = ap (λ (c : Bool). is_some s.tenant && c && is_open_at s.processor.stage) (eq-eqb s.tenancy s.tenancy refl)

same_reach : (a b : SlotParts) → AreTwins a b → reaches a.tenancy a ≡ reaches b.tenancy b
same_reach a b alike =
    reach_own a ∙ ap (λ (s : SlotParts). is_some s.tenant && true && is_open_at s.processor.stage) alike ∙ sym (reach_own b)

open_own : (s : SlotParts) → may_open s.tenancy s ≡ (true && is_free_at s.processor.stage && has_head_due s.processor.limits s.tenant)
open_own s =
    ap (λ (c : Bool). c && is_free_at s.processor.stage && has_head_due s.processor.limits s.tenant) (eq-eqb s.tenancy s.tenancy refl)

same_opening : (a b : SlotParts) → AreTwins a b → may_open a.tenancy a ≡ may_open b.tenancy b
same_opening a b alike =
    open_own a
    ∙ ap (λ (s : SlotParts). true && is_free_at s.processor.stage && has_head_due s.processor.limits s.tenant) alike
    ∙ sym (open_own b)

ended_is : (r : Reply) → is_ended r ≡ true → r ≡ reply.Ended
ended_is reply.Ended e = refl
ended_is r e = absurd (false≢true e)

-- ---- one call

record Alike (r q : Reply) (a b : SlotParts) : Type 0 where
  pub replies : r ≡ q
  pub alike : AreTwins a b
  pub trace : Trace
  pub serves : Serves trace (line_in b) b.processor

serves_too : (T : Trace) (a b : SlotParts) → AreTwins a b → Serves T (line_in b) b.processor → Serves T (line_in a) a.processor
serves_too T a b alike serves = subst (λ (s : SlotParts). Serves T (line_in s) s.processor) (sym alike) serves

same_limits : (a b na nb : SlotParts) → AreTwins a b → KeepsAllElse a na → KeepsAllElse b nb → na.processor.limits ≡ nb.processor.limits
same_limits a b na nb alike keeps_a keeps_b =
    keeps_a.limits ∙ ap (λ (s : SlotParts). s.processor.limits) alike ∙ sym keeps_b.limits

-- both stand for one trace afterwards
behind : (R : Trace) (r q : Reply) (a b na nb : SlotParts) → r ≡ q → AreTwins a b → KeepsAllElse a na → KeepsAllElse b nb → (line_in na).moment ≡ (line_in nb).moment → is_free_at na.processor.stage ≡ false → is_free_at nb.processor.stage ≡ false → Serves R (line_in na) na.processor → Serves R (line_in nb) nb.processor → Alike r q na nb
behind R r q a b na nb replies alike keeps_a keeps_b moment busy_a busy_b at_a at_b = record {
  replies = replies;
  alike =
      same_slot a b na nb alike keeps_a keeps_b
      (same_line R (line_in na) (line_in nb) at_a.line at_b.line moment)
      (same_processor R na.processor nb.processor at_a.processor at_b.processor busy_a busy_b (same_limits a b na nb alike keeps_a keeps_b));
  trace = R;
  serves = at_b;
}

-- what a step is to be answered, and which trace follows, by limits and moment
on_step : (f : Limits → ℕ → Replied) (g : Limits → ℕ → Trace) (T : Trace) (at : ℕ) (r q : Replied) (a b na nb : SlotParts) (reached : Bool)
    → IsStep reached at r.reply a na → IsStep reached at q.reply b nb
    → (reached ≡ true → Answers T (f na.processor.limits (line_in na).moment) (g na.processor.limits (line_in na).moment) r (line_in na) na.processor)
    → (reached ≡ true → Answers T (f nb.processor.limits (line_in nb).moment) (g nb.processor.limits (line_in nb).moment) q (line_in nb) nb.processor)
    → AreTwins a b → Serves T (line_in b) b.processor → Alike r.reply q.reply na nb
on_step f g T at r q a b na nb true of_a of_b answers_a answers_b alike serves =
    behind (g nb.processor.limits (line_in nb).moment) r.reply q.reply a b na nb replies alike of_a.all_else of_b.all_else moment
    (of_a.opened refl) (of_b.opened refl) at_a (answers_b refl).after.serves
  where
    limits : na.processor.limits ≡ nb.processor.limits
    limits = same_limits a b na nb alike of_a.all_else of_b.all_else

    moment : (line_in na).moment ≡ (line_in nb).moment
    moment = of_a.moment refl ∙ ap (λ (s : SlotParts). max (line_in s).moment at) alike ∙ sym (of_b.moment refl)

    replies : r.reply ≡ q.reply
    replies =
        ap (λ (v : Replied). v.reply)
        ((answers_a refl).reply
        ∙ ap (λ (k : Limits). f k (line_in na).moment) limits
        ∙ ap (f nb.processor.limits) moment
        ∙ sym (answers_b refl).reply)

    at_a : Serves (g nb.processor.limits (line_in nb).moment) (line_in na) na.processor
    at_a =
        subst (λ (R : Trace). Serves R (line_in na) na.processor)
        (ap (λ (k : Limits). g k (line_in na).moment) limits ∙ ap (g nb.processor.limits) moment)
        (answers_a refl).after.serves
on_step f g T at r q a b na nb false of_a of_b answers_a answers_b alike serves = record {
  replies = ended_is r.reply of_a.ended ∙ sym (ended_is q.reply of_b.ended);
  alike =
      subst (λ (s : SlotParts). AreTwins s nb) (sym (of_a.others refl))
      (subst (λ (s : SlotParts). AreTwins a s) (sym (of_b.others refl)) alike);
  trace = T;
  serves = subst (λ (s : SlotParts). Serves T (line_in s) s.processor) (sym (of_b.others refl)) serves;
}

abbrev some_trace : Option Trace → Trace
some_trace None = []
some_trace (Some T) = T

on_opening : (rules : List Rule) (T : Trace) (r q : Reply) (a b na nb : SlotParts) (may : Bool)
    → r ≡ q → IsOpening may rules r a na → IsOpening may rules q b nb
    → AreTwins a b → Serves T (line_in b) b.processor → Alike r q na nb
on_opening rules T r q a b na nb true replies of_a of_b alike serves =
    behind (rested nb.processor.limits (line_in nb).moment up_b.trace) r q a b na nb replies alike of_a.all_else of_b.all_else moment
    (of_a.opened refl) (of_b.opened refl) at_a up_b.after.serves
  where
    up_a : TakesUp rules T (line_in na) na.processor
    up_a = of_a.takes refl T (serves_too T a b alike serves)

    up_b : TakesUp rules T (line_in nb) nb.processor
    up_b = of_b.takes refl T serves

    limits : na.processor.limits ≡ nb.processor.limits
    limits = same_limits a b na nb alike of_a.all_else of_b.all_else

    moment : (line_in na).moment ≡ (line_in nb).moment
    moment = of_a.moment ∙ ap (λ (s : SlotParts). (line_in s).moment) alike ∙ sym of_b.moment

    trace : up_a.trace ≡ up_b.trace
    trace =
        ap some_trace
        (sym up_a.taken
        ∙ ap (λ (k : Limits). taken_up k rules (line_in na).moment T) limits
        ∙ ap (λ (t : ℕ). taken_up nb.processor.limits rules t T) moment
        ∙ up_b.taken)

    at_a : Serves (rested nb.processor.limits (line_in nb).moment up_b.trace) (line_in na) na.processor
    at_a =
        subst (λ (R : Trace). Serves R (line_in na) na.processor)
        (ap (λ (k : Limits). rested k (line_in na).moment up_a.trace) limits
        ∙ ap (λ (t : ℕ). rested nb.processor.limits t up_a.trace) moment
        ∙ ap (rested nb.processor.limits (line_in nb).moment) trace)
        up_a.after.serves
on_opening rules T r q a b na nb false replies of_a of_b alike serves = record {
  replies = replies;
  alike =
      subst (λ (s : SlotParts). AreTwins s nb) (sym (of_a.others refl))
      (subst (λ (s : SlotParts). AreTwins a s) (sym (of_b.others refl)) alike);
  trace = T;
  serves = subst (λ (s : SlotParts). Serves T (line_in s) s.processor) (sym (of_b.others refl)) serves;
}

on_call : (c : OwnCall) (T : Trace) (r q : Reply) (a b na nb : SlotParts) → AreTwins a b → Serves T (line_in b) b.processor → IsCalled a c r na → IsCalled b c q nb → Alike r q na nb
on_call (opening rules) T r q a b na nb alike serves of_a of_b =
    on_opening rules T r q a b na nb (may_open b.tenancy b)
    (of_a.answer ∙ ap (λ (v : Bool). cond v reply.Done reply.Ended) (same_opening a b alike) ∙ sym of_b.answer)
    (subst (λ (v : Bool). IsOpening v rules r a na) (same_opening a b alike) of_a) of_b alike serves
on_call (told at e bytes) T r q a b na nb alike serves of_a of_b =
    on_step (λ k t. plain (reply_to_event T e bytes)) (λ k t. rested_event k t T e bytes) T at (plain r) (plain q) a b na nb (reaches b.tenancy b)
    (subst (λ (v : Bool). IsStep v at r a na) (same_reach a b alike) of_a.0) of_b.0
    (λ v. of_a.1 (same_reach a b alike ∙ v) T (serves_too T a b alike serves)) (λ v. of_b.1 v T serves) alike serves
on_call (turned at) T r q a b na nb alike serves of_a of_b =
    on_step (λ k t. turn_reply T (rested k t T)) (λ k t. rested_turn k t T) T at (plain r) (plain q) a b na nb (reaches b.tenancy b)
    (subst (λ (v : Bool). IsStep v at r a na) (same_reach a b alike) of_a.0) of_b.0
    (λ v. of_a.1 (same_reach a b alike ∙ v) T (serves_too T a b alike serves)) (λ v. of_b.1 v T serves) alike serves
on_call (acted at act bytes) T r q a b na nb alike serves of_a of_b =
    on_step (λ k t. callback_reply k T act) (λ k t. rested_callback k t T act bytes) T at (replied_in r of_a.0) (replied_in q of_b.0) a b na nb (reaches b.tenancy b)
    (subst (λ (v : Bool). IsStep v at r a na) (same_reach a b alike) of_a.1) of_b.1
    (λ v. of_a.2 (same_reach a b alike ∙ v) T (serves_too T a b alike serves)) (λ v. of_b.2 v T serves) alike serves
on_call (kept bytes) T r q a b na nb alike serves of_a of_b = record {
  replies = of_a.0 ∙ ap kept_reply (same_reach a b alike) ∙ sym of_b.0;
  alike =
      subst (λ (s : SlotParts). AreTwins s nb) (sym of_a.1)
      (subst (λ (s : SlotParts). AreTwins (with_state (lent_by (reaches a.tenancy a) bytes a.state) a) s) (sym of_b.1)
      (ap (λ (v : Bool). with_state (lent_by v bytes a.state) a) (same_reach a b alike)
      ∙ ap (λ (s : SlotParts). with_state (lent_by (reaches b.tenancy b) bytes s.state) s) alike));
  trace = T;
  serves = subst (λ (s : SlotParts). Serves T (line_in s) s.processor) (sym of_b.1) serves;
}

-- ---- many calls

record AllAlike (rs qs : List Reply) (a b : SlotParts) : Type 0 where
  pub replies : rs ≡ qs
  pub alike : AreTwins a b
  pub trace : Trace
  pub serves : Serves trace (line_in b) b.processor

one_more : (r q : Reply) (rs qs : List Reply) → r ≡ q → rs ≡ qs → r ∷ rs ≡ q ∷ qs
one_more r q rs qs e es = λ i. e i ∷ es i

along : (start other : SlotParts) (T : Trace) (calls : List OwnCall) (rs qs : List Reply) (a b : SlotParts) → AreTwins start other → Serves T (line_in other) other.processor → IsCourse start calls rs a → IsCourse other calls qs b → AllAlike rs qs a b
along start other T [] [] [] a b alike serves run_a run_b = record {
  replies = refl;
  alike =
      subst (λ (s : SlotParts). AreTwins s b) (sym run_a)
      (subst (λ (s : SlotParts). AreTwins start s) (sym run_b) alike);
  trace = T;
  serves = subst (λ (s : SlotParts). Serves T (line_in s) s.processor) (sym run_b) serves;
}
along start other T [] [] (q ∷ qs) a b alike serves run_a run_b = absurd run_b
along start other T [] (r ∷ rs) qs a b alike serves run_a run_b = absurd run_a
along start other T (c ∷ cs) [] qs a b alike serves run_a run_b = absurd run_a
along start other T (c ∷ cs) (r ∷ rs) [] a b alike serves run_a run_b = absurd run_b
along start other T (c ∷ cs) (r ∷ rs) (q ∷ qs) a b alike serves run_a run_b =
    let before = along start other T cs rs qs run_a.0 run_b.0 alike serves run_a.1 run_b.1 in
    let last = on_call c before.trace r q run_a.0 run_b.0 a b before.alike before.serves run_a.2 run_b.2 in
    record {
      replies = one_more r q rs qs last.replies before.replies;
      alike = last.alike;
      trace = last.trace;
      serves = last.serves;
    }

-- ---- the start

not_worn : (n : ℕ) → n < GREATEST_TENANCY → eqb n GREATEST_TENANCY ≡ false
not_worn n below = ne_eqb n GREATEST_TENANCY (λ e. omega (arith, below, e))

bound_is : (conn : Conn) (n : ℕ) → n < GREATEST_TENANCY → tenant_after None (eqb n GREATEST_TENANCY) conn ≡ Some conn
bound_is conn n below = ap (λ (v : Bool). tenant_after None v conn) (not_worn n below)

pub slot_forgets : SlotForgets
slot_forgets used first conn T calls rs qs a b below_used below stands idle run_a run_b =
    let all = along (after_bind conn (released used)) (after_bind conn (fresh_slot used.processor.limits first)) T calls rs qs a b start serves run_a run_b in
    (all.replies, all.alike)
  where
    tenants : tenant_after None (eqb (used.tenancy + 1) GREATEST_TENANCY) conn ≡ tenant_after None (eqb first GREATEST_TENANCY) conn
    tenants = bound_is conn (used.tenancy + 1) below_used ∙ sym (bound_is conn first below)

    start : AreTwins (after_bind conn (released used)) (after_bind conn (fresh_slot used.processor.limits first))
    start = ap (λ (o : Option Conn). record (released used) { tenant = o }) tenants

    serves : Serves T (line_in (after_bind conn (fresh_slot used.processor.limits first))) (fresh_processor used.processor.limits)
    serves =
        subst (λ (o : Option Conn). Serves T (line_of o) (fresh_processor used.processor.limits)) (sym (bound_is conn first below))
        (record { line = stands; processor = inr (record { idle = idle; fresh = refl }) })
