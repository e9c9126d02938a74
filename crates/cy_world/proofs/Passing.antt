-- A step that reaches nobody: of a number that isn't in the book, or of a connection that is gone.
use Rattle.std.proofs.Common.{◌≡◌, ℕ, Bool, true, cond, not, ◌&&◌, ◌==◌, List, ◌∷◌, length, Option, Some, None, is_some, option_map, refl, sym, ap, ◌∙◌, subst, arith, if◌then◌else◌}
use Rattle.std.proofs.lemmas.Bool.{and_parts, or_left}
use Rattle.cy_event.specs.declared.limits.Limits.{Limits}
use Rattle.cy_event.specs.declared.steps.Act.{Act}
use Rattle.cy_event.specs.declared.steps.Event.{Event}
use Rattle.cy_event.specs.declared.steps.Event.TheVariants as event
use Rattle.cy_event.specs.declared.steps.Reply.TheVariants as reply
use Rattle.cy_event.specs.declared.steps.Step.{Step}
use Rattle.cy_event.specs.declared.steps.Step.TheVariants as step
use Rattle.cy_map.specs.declared.rule.Rule.{Rule}
use Rattle.cy_model.specs.Connections.{History, Kind, add_own, connections, counted, find_own, kind_of, moment, moment_after, own, own_reply, reply_by, with_step}
use Rattle.cy_model.specs.Entries.{Entry, after, after_callback, after_turn, callback_reply, event_marks, event_reply, is_closed_to, on_act, on_event, on_run, reply_to, trace_of, turn_reply}
use Rattle.cy_model.specs.Folds.{cause_of, has_ended, is_broken, is_open}
use Rattle.cy_model.specs.Marks.{Trace}
use Rattle.cy_model.specs.Outputs.{is_gone, unsent}
use Rattle.cy_model.specs.Replies.{plain}
use Rattle.cy_model.specs.Settling.{settled, with_marks}
use Rattle.cy_model.proofs.OwnEntries.{own_steps_add_own_entries}
use Rattle.cy_world.specs.Answered.{start}
use Rattle.cy_world.specs.Counts.{AddUp}
use Rattle.cy_world.specs.Worlds.{AreDistinct, IsGoneAs, StandsFor, StandsForOne, TakesStep, WorldParts, find_in}
use Rattle.cy_world.specs.declared.seat.Account.{Account}
use Rattle.cy_world.specs.declared.terms.Terms.{Terms}
use Rattle.cy_world.specs.declared.world.Admitted.{Admitted}
use Rattle.cy_world.specs.declared.world.Admitted.TheVariants.{Gone}
use Rattle.cy_world.proofs.Admitting.{none_found}
use Rattle.cy_world.proofs.Counting.{add_none, count_own, distinct_own, one}
use Rattle.cy_world.proofs.Retiring.{of_each, stands_for_self}
use Rattle.cy_world.proofs.Stepping.{all_of}
use Rattle.cy_world.proofs.Tenants.{none_adds}

-- ---- nobody has the number

pub nobody_answers : (w : List Step) (s : Step) (c : ℕ) (e : Entry) (p : WorldParts) → kind_of s ≡ own c e → StandsFor w p → find_in c p.book ≡ None → TakesStep w s p (plain reply.NoConn) p
nobody_answers w s c e p kind stands unknown =
    let limits = p.terms.limits in
    let rules = p.terms.rules in
    let hs = all_of p w in
    let none : find_own c hs ≡ None = none_found p.terms p.seats c (find_own c hs) (find_in c p.book) unknown (stands.each c) in
    let at : moment (s ∷ w) ≡ start = ap (λ (k : Kind). moment_after k (moment w)) kind ∙ stands.moment in
    let same : connections limits rules (s ∷ w) ≡ hs =
    ap (λ (k : Kind). with_step limits rules k (moment (s ∷ w)) hs) kind ∙ add_none (moment (s ∷ w)) c e hs none in
    record {
      reply = sym (
          ap (λ (k : Kind). reply_by limits rules k (moment (s ∷ w)) hs) kind
          ∙ ap (λ (o : Option (List (ℕ × Entry))). own_reply limits rules (moment (s ∷ w)) o e) none
          );
      stands = record {
        moment = at;
        distinct = subst AreDistinct (sym same) stands.distinct;
        each = λ d. subst (λ (gs : List History). StandsForOne p.terms p.seats d (find_own d gs) (find_in d p.book)) (sym same) (stands.each d);
        counted = stands.counted ∙ ap (counted limits rules) (sym same);
        places = stands.places;
        tenancies = subst (AddUp p.terms p.seats) (sym same) stands.tenancies;
      };
    }

-- ---- the connection is gone

has_cause : (T : Trace) → is_gone T ≡ true → is_some (cause_of T) ≡ true
has_cause T gone = (and_parts (is_some (cause_of T)) (not (is_open T) && (length (unsent T) == 0)) gone).0

closed_where_gone : (e : Event) (T : Trace) → is_gone T ≡ true → is_closed_to e T ≡ true
closed_where_gone event.In T gone = or_left (is_some (cause_of T)) (has_ended T) (has_cause T gone)
closed_where_gone event.End T gone = or_left (is_some (cause_of T)) (has_ended T) (has_cause T gone)
closed_where_gone (event.Took n) T gone = or_left (is_gone T) (is_broken T) gone

-- no entry of a step changes it, and each is answered so
record PassesBy (limits : Limits) (rules : List Rule) (t : ℕ) (T : Trace) (e : Entry) : Type 0 where
  reply : reply_to limits rules t T e ≡ plain reply.Closed
  trace : after limits rules t T e ≡ T

event_passes : (limits : Limits) (rules : List Rule) (t : ℕ) (T : Trace) (e : Event) (b : List ℕ) → is_gone T ≡ true → PassesBy limits rules t T (on_event e b)
unfolding after reply_to
event_passes limits rules t T e b gone = record {
  reply = ap (λ (v : Bool). plain (if v then reply.Closed else event_reply T e b)) (closed_where_gone e T gone);
  trace = ap (λ (v : Bool). if v then T else settled limits rules t (with_marks t (event_marks T e b) T)) (closed_where_gone e T gone);
}

turn_passes : (limits : Limits) (rules : List Rule) (t : ℕ) (T : Trace) → is_gone T ≡ true → PassesBy limits rules t T on_run
unfolding after reply_to
turn_passes limits rules t T gone = record {
  reply = ap (λ (v : Bool). if v then plain reply.Closed else turn_reply T (settled limits rules t T)) gone;
  trace = ap (λ (v : Bool). if v then T else after_turn t T (settled limits rules t T)) gone;
}

act_passes : (limits : Limits) (rules : List Rule) (t : ℕ) (T : Trace) (a : Act) (b : List ℕ) → is_gone T ≡ true → PassesBy limits rules t T (on_act a b)
unfolding after reply_to
act_passes limits rules t T a b gone = record {
  reply = ap (λ (v : Bool). if v then plain reply.Closed else callback_reply limits T a) gone;
  trace = ap (λ (v : Bool). if v then T else after_callback limits rules t T a b) gone;
}

entry_by : (d c : ℕ) (x e : Entry) → own d x ≡ own c e → x ≡ e
entry_by d c x e same = cc

passes : (limits : Limits) (rules : List Rule) (t : ℕ) (T : Trace) (s : Step) (c : ℕ) (e : Entry) → kind_of s ≡ own c e → is_gone T ≡ true → PassesBy limits rules t T e
passes limits rules t T (step.At u) c e kind gone = cc
passes limits rules t T (step.Admit d) c e kind gone = cc
passes limits rules t T (step.On d ev b) c e kind gone = subst (PassesBy limits rules t T) (entry_by d c (on_event ev b) e kind) (event_passes limits rules t T ev b gone)
passes limits rules t T (step.Run d) c e kind gone = subst (PassesBy limits rules t T) (entry_by d c on_run e kind) (turn_passes limits rules t T gone)
passes limits rules t T (step.Act d a b) c e kind gone = subst (PassesBy limits rules t T) (entry_by d c (on_act a b) e kind) (act_passes limits rules t T a b gone)

-- ---- what is kept of it

record WasGone (s : Terms) (a : Account) (o : Option (List (ℕ × Entry))) : Type 0 where
  entries : List (ℕ × Entry)
  is : o ≡ Some entries
  gone : IsGoneAs (trace_of s.limits s.rules entries) a

was_gone : (s : Terms) (p : WorldParts) (c : ℕ) (o : Option (List (ℕ × Entry))) (a : Option Admitted) (k : Account) → a ≡ Some (Gone k) → StandsForOne s p.seats c o a → WasGone s k o
was_gone s p c None a k is stands = absurd (subst (λ (b : Option Admitted). StandsForOne s p.seats c None b) is stands)
was_gone s p c (Some entries) a k is stands =
    record { entries = entries; is = refl; gone = subst (λ (b : Option Admitted). StandsForOne s p.seats c (Some entries) b) is stands }

pub gone_answers : (w : List Step) (s : Step) (c : ℕ) (e : Entry) (p : WorldParts) (k : Account) → kind_of s ≡ own c e → StandsFor w p → find_in c p.book ≡ Some (Gone k) → TakesStep w s p (plain reply.Closed) p
gone_answers w s c e p k kind stands booked =
    let limits = p.terms.limits in
    let rules = p.terms.rules in
    let hs = all_of p w in
    let f = was_gone p.terms p c (find_own c hs) (find_in c p.book) k booked (stands.each c) in
    let T = trace_of limits rules f.entries in
    let by = passes limits rules start T s c e kind f.gone.gone in
    let at : moment (s ∷ w) ≡ start = ap (λ (x : Kind). moment_after x (moment w)) kind ∙ stands.moment in
    let all : connections limits rules (s ∷ w) ≡ add_own start c e hs =
    ap (λ (x : Kind). with_step limits rules x (moment (s ∷ w)) hs) kind ∙ ap (λ (t : ℕ). add_own t c e hs) at in
    let law = own_steps_add_own_entries limits rules w s c e kind in
    let found_now : find_own c (connections limits rules (s ∷ w)) ≡ Some ((start, e) ∷ f.entries) =
    law.own ∙ ap (option_map (λ (es : List (ℕ × Entry)). (moment w, e) ∷ es)) f.is ∙ ap (λ (t : ℕ). Some ((t, e) ∷ f.entries)) stands.moment in
    let one_same : one limits rules ((start, e) ∷ f.entries) ≡ one limits rules f.entries = ap (λ (R : Trace). cond (not (is_gone R)) 1 0) by.trace in
    record {
      reply = sym (
          ap (λ (x : Kind). reply_by limits rules x (moment (s ∷ w)) hs) kind
          ∙ ap (λ (t : ℕ). reply_by limits rules (own c e) t hs) at
          ∙ ap (λ (o : Option (List (ℕ × Entry))). own_reply limits rules start o e) f.is
          ∙ by.reply
          );
      stands = record {
        moment = at;
        distinct = subst AreDistinct (sym all) (distinct_own start c e hs stands.distinct);
        each = of_each p.terms p.seats c (λ d. find_own d (connections limits rules (s ∷ w))) (λ d. find_in d p.book)
            (stands_for_self p.terms p.seats c ((start, e) ∷ f.entries) T (find_own c (connections limits rules (s ∷ w))) (find_in c p.book) (Gone k) found_now by.trace booked f.gone)
            (λ d away. subst (λ (o : Option (List (ℕ × Entry))). StandsForOne p.terms p.seats d o (find_in d p.book)) (sym (law.other d away)) (stands.each d));
        counted = omega (
          arith,
          stands.counted,
          ap (counted limits rules) all,
          count_own limits rules start c e hs f.entries stands.distinct f.is,
          one_same,
        );
        places = stands.places;
        tenancies = subst (AddUp p.terms p.seats) (sym all) (none_adds p.terms p.seats hs c e f.entries stands.distinct f.is by.trace stands.tenancies);
      };
    }
