-- The laws of the connector that speak of two connectors.
use Rattle.std.proofs.Common.{◌≡◌, ℕ, List, [], ◌∷◌, Option, option_map, unwrap_or, refl, sym, ap, ◌∙◌, subst}
use Rattle.std.specs.Option.{option_flatten}
use Rattle.cy_event.specs.declared.steps.Step.{Step}
use Rattle.cy_model.specs.Connections.{Kind, connections, kind_of, moment, moment_after, own, own_entries, own_reply, reply_by}
use Rattle.cy_model.specs.Entries.{Entry, ended_count, trace_of}
use Rattle.cy_model.specs.Folds.{cause_of, charts}
use Rattle.cy_model.specs.Marks.{Trace}
use Rattle.cy_model.specs.Outputs.{output, took}
use Rattle.cy_model.specs.Replies.{Replied}
use Rattle.cy_model.specs.Reports.{trace_text}
use Rattle.cy_model.proofs.OwnEntries.{own_steps_add_own_entries}
use Rattle.cy_world.specs.Answered.{entry_by, start}
use Rattle.cy_world.specs.Laws.{HasSameEntries, OwnStepsDecide, RecycledSlotsAnswerAsFresh, SlotsStandInNoReply, TellAlike, replies_alone, replies_to}
use Rattle.cy_world.specs.Told.{request_count, told_of}
use Rattle.cy_world.specs.Worlds.{IsOwnOf, StandsFor, TakesStep, WorldParts}
use Rattle.cy_world.specs.declared.terms.Terms.{Terms}
use Rattle.cy_world.proofs.OwnReplies.{replies_are_own}
use Rattle.cy_world.proofs.Stepping.{kind_of_own}

-- ---- own entries decide

-- what is told of own entries
abbrev told_by : {X : Type 0} → (Trace → X) → Terms → Option (List (ℕ × Entry)) → Option X
told_by f s o = option_map (λ entries. f (trace_of s.limits s.rules entries)) o

same_told : {X : Type 0} (f : Trace → X) (v w : List Step) (p q : WorldParts) (c : ℕ) → p.terms ≡ q.terms → HasSameEntries p v q w c → told_of f p v c ≡ told_of f q w c
same_told f v w p q c terms entries =
    ap (told_by f p.terms) entries
    ∙ ap (λ (s : Terms). told_by f s (own_entries q.terms.limits q.terms.rules w c)) terms

same_replies : (v w : List Step) (p q : WorldParts) (c : ℕ) → p.terms ≡ q.terms → HasSameEntries p v q w c
    → replies_to p.terms.limits p.terms.rules c v ≡ replies_to q.terms.limits q.terms.rules c w
same_replies v w p q c terms entries =
    replies_are_own p.terms.limits p.terms.rules v c
    ∙ ap (λ (o : Option (List (ℕ × Entry))). replies_alone p.terms.limits p.terms.rules (unwrap_or o [])) entries
    ∙ ap (λ (s : Terms). replies_alone s.limits s.rules (unwrap_or (own_entries q.terms.limits q.terms.rules w c) [])) terms
    ∙ sym (replies_are_own q.terms.limits q.terms.rules w c)

tell_alike : {X : Type 0} (told : WorldParts → List Step → X) (v w : List Step) (p q : WorldParts) → StandsFor v p → StandsFor w q → told p v ≡ told q w → TellAlike told p q
tell_alike told v w p q one other same a b right right_too = right v one ∙ same ∙ sym (right_too w other)

pub own_steps_decide : OwnStepsDecide
own_steps_decide v w p q c one other terms entries = record {
  replies = same_replies v w p q c terms entries;
  out = tell_alike (λ r u. told_of output r u c) v w p q one other (same_told output v w p q c terms entries);
  took = tell_alike (λ r u. told_of took r u c) v w p q one other (same_told took v w p q c terms entries);
  cause = tell_alike (λ r u. option_flatten (told_of cause_of r u c)) v w p q one other (ap option_flatten (same_told cause_of v w p q c terms entries));
  requests = tell_alike (λ r u. unwrap_or (told_of request_count r u c) 0) v w p q one other
      (ap (λ (o : Option ℕ). unwrap_or o 0) (same_told request_count v w p q c terms entries));
  ended = tell_alike (λ r u. unwrap_or (told_of ended_count r u c) 0) v w p q one other
      (ap (λ (o : Option ℕ). unwrap_or o 0) (same_told ended_count v w p q c terms entries));
  charts = tell_alike (λ r u. told_of charts r u c) v w p q one other (same_told charts v w p q c terms entries);
  lines = tell_alike (λ r u. unwrap_or (told_of (trace_text c) r u c) []) v w p q one other
      (ap (λ (o : Option (List ℕ)). unwrap_or o []) (same_told (trace_text c) v w p q c terms entries));
}

-- ---- steps that are taken one after another

both : (r q : Replied) (rs qs : List Replied) → r ≡ q → rs ≡ qs → r ∷ rs ≡ q ∷ qs
both r q rs qs one other = cc

same_reply : (w : List Step) (s : Step) (p q p_next q_next : WorldParts) (r other : Replied) → p.terms ≡ q.terms → TakesStep w s p r p_next → TakesStep w s q other q_next → r ≡ other
same_reply w s p q p_next q_next r other terms one two =
    one.reply
    ∙ ap (λ (x : Terms). reply_by x.limits x.rules (kind_of s) (moment (s ∷ w)) (connections x.limits x.rules w)) terms
    ∙ sym two.reply

pub slots_stand_in_no_reply : SlotsStandInNoReply
slots_stand_in_no_reply w [] p q p_last q_last [] [] one other terms here there = record {
  replies = refl;
  one = subst (StandsFor w) here one;
  other = subst (StandsFor w) there other;
  terms = ap (λ (x : WorldParts). x.terms) (sym here) ∙ terms ∙ ap (λ (x : WorldParts). x.terms) there;
}
slots_stand_in_no_reply w [] p q p_last q_last [] (b ∷ bs) one other terms here there = absurd there
slots_stand_in_no_reply w [] p q p_last q_last (a ∷ more) bs one other terms here there = absurd here
slots_stand_in_no_reply w (s ∷ u) p q p_last q_last [] bs one other terms here there = absurd here
slots_stand_in_no_reply w (s ∷ u) p q p_last q_last (a ∷ more) [] one other terms here there = absurd there
slots_stand_in_no_reply w (s ∷ u) p q p_last q_last (a ∷ more) (b ∷ further) one other terms here there =
    let mine = here.1 w one in
    let yours = there.1 w other in
    let next = here.2 ∙ terms ∙ sym there.2 in
    let rest = slots_stand_in_no_reply (s ∷ w) u here.0 there.0 p_last q_last more further mine.stands yours.stands next here.3 there.3 in
    record {
      replies = both a b more further (same_reply w s p q here.0 there.0 a b terms mine yours) rest.replies;
      one = rest.one;
      other = rest.other;
      terms = rest.terms;
    }

-- ---- further steps of a connection

-- what a step of the connection is answered
own_answer : (v : List Step) (s : Step) (c : ℕ) (e : Entry) (x : Terms) (start_at : ℕ) → kind_of s ≡ own c e → moment v ≡ start_at
    → reply_by x.limits x.rules (kind_of s) (moment (s ∷ v)) (connections x.limits x.rules v) ≡ own_reply x.limits x.rules start_at (own_entries x.limits x.rules v c) e
own_answer v s c e x start_at kind at =
    ap (λ (k : Kind). reply_by x.limits x.rules k (moment_after k (moment v)) (connections x.limits x.rules v)) kind
    ∙ ap (λ (t : ℕ). own_reply x.limits x.rules t (own_entries x.limits x.rules v c) e) at

-- the entries after it
own_more : (v : List Step) (s : Step) (c : ℕ) (e : Entry) (x : Terms) (start_at : ℕ) → kind_of s ≡ own c e → moment v ≡ start_at
    → own_entries x.limits x.rules (s ∷ v) c ≡ option_map (λ entries. (start_at, e) ∷ entries) (own_entries x.limits x.rules v c)
own_more v s c e x start_at kind at =
    let law = own_steps_add_own_entries x.limits x.rules v s c e kind in
    law.own ∙ ap (λ (t : ℕ). option_map (λ (entries : List (ℕ × Entry)). (t, e) ∷ entries) (own_entries x.limits x.rules v c)) at

same_own_reply : (v w : List Step) (s : Step) (c : ℕ) (p q p_next q_next : WorldParts) (r other : Replied) → IsOwnOf c s → StandsFor v p → StandsFor w q → p.terms ≡ q.terms
    → HasSameEntries p v q w c → TakesStep v s p r p_next → TakesStep w s q other q_next → r ≡ other
same_own_reply v w s c p q p_next q_next r other is one two terms entries mine yours =
    let kind = kind_of_own c s is in
    mine.reply
    ∙ own_answer v s c (entry_by s) p.terms start kind one.moment
    ∙ ap (λ (o : Option (List (ℕ × Entry))). own_reply p.terms.limits p.terms.rules start o (entry_by s)) entries
    ∙ ap (λ (x : Terms). own_reply x.limits x.rules start (own_entries q.terms.limits q.terms.rules w c) (entry_by s)) terms
    ∙ sym (own_answer w s c (entry_by s) q.terms start kind two.moment)
    ∙ sym yours.reply

same_own_entries : (v w : List Step) (s : Step) (c : ℕ) (p q p_next q_next : WorldParts) → IsOwnOf c s → StandsFor v p → StandsFor w q → p_next.terms ≡ p.terms → q_next.terms ≡ q.terms
    → HasSameEntries p v q w c → HasSameEntries p_next (s ∷ v) q_next (s ∷ w) c
same_own_entries v w s c p q p_next q_next is one two kept kept_too entries =
    let kind = kind_of_own c s is in
    ap (λ (x : Terms). own_entries x.limits x.rules (s ∷ v) c) kept
    ∙ own_more v s c (entry_by s) p.terms start kind one.moment
    ∙ ap (option_map (λ (es : List (ℕ × Entry)). (start, (entry_by s)) ∷ es)) entries
    ∙ sym (own_more w s c (entry_by s) q.terms start kind two.moment)
    ∙ ap (λ (x : Terms). own_entries x.limits x.rules (s ∷ w) c) (sym kept_too)

pub recycled_slots_answer_as_fresh : RecycledSlotsAnswerAsFresh
recycled_slots_answer_as_fresh v w [] c p q p_last q_last [] [] one two terms entries are here there = refl
recycled_slots_answer_as_fresh v w [] c p q p_last q_last [] (b ∷ further) one two terms entries are here there = absurd there
recycled_slots_answer_as_fresh v w [] c p q p_last q_last (a ∷ more) others one two terms entries are here there = absurd here
recycled_slots_answer_as_fresh v w (s ∷ u) c p q p_last q_last [] others one two terms entries are here there = absurd here
recycled_slots_answer_as_fresh v w (s ∷ u) c p q p_last q_last (a ∷ more) [] one two terms entries are here there = absurd there
recycled_slots_answer_as_fresh v w (s ∷ u) c p q p_last q_last (a ∷ more) (b ∷ further) one two terms entries are here there =
    let mine = here.1 v one in
    let yours = there.1 w two in
    both a b more further
    (same_own_reply v w s c p q here.0 there.0 a b are.0 one two terms entries mine yours)
    (recycled_slots_answer_as_fresh (s ∷ v) (s ∷ w) u c here.0 there.0 p_last q_last more further mine.stands yours.stands
    (here.2 ∙ terms ∙ sym there.2)
    (same_own_entries v w s c p q here.0 there.0 are.0 one two here.2 there.2 entries)
    are.1 here.3 there.3)
