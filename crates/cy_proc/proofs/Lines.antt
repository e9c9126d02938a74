-- The parts that follow each thing that happens stand for the trace that follows it.
use Rattle.std.proofs.Common.{◌≡◌, ◌≤◌, ℕ, ◌+◌, ◌-◌, ◌==◌, Bool, true, false, not, ◌&&◌, ◌||◌, nat_le, nat_lt, ltb-true, is_none, is_some, List, [], ◌∷◌, ◌++◌, length, take, drop, max, Option, Some, None, refl, sym, ap, ◌∙◌, subst, arith, length-append, length-take-le, if◌then◌else◌}
use Rattle.std.proofs.lemmas.Bool.{and_left}
use Rattle.std.proofs.lemmas.List.Elements.{All-cons, All-weaker}
use Rattle.cy_event.specs.declared.limits.Limits.{Limits}
use Rattle.cy_event.specs.declared.steps.CloseCause.{CloseCause}
use Rattle.cy_event.specs.declared.steps.CloseCause.TheVariants.{BadBody, InputEnd, Refused, SwallowLimit}
use Rattle.cy_event.specs.Answers.{refusal_text}
use Rattle.cy_event.specs.declared.steps.Event.{Event}
use Rattle.cy_event.specs.declared.steps.Event.TheVariants as event
use Rattle.cy_event.specs.declared.steps.Reply.{Reply}
use Rattle.cy_event.specs.declared.steps.Reply.TheVariants as reply
use Rattle.cy_model.specs.Entries.{event_marks, event_reply, is_closed_by, is_closed_to, rested_event, sent_of}
use Rattle.cy_model.specs.Folds.{bytes_of, cause_of, earlier, has_ended, is_broken, is_open, last_taken}
use Rattle.cy_model.specs.Endings.{is_bad_request}
use Rattle.cy_model.specs.Inputs.{consumed, given_count, has_bad_body, has_whole_body, head_end, is_end_told, room, scan_of, unread, used, used_at_end}
use Rattle.cy_model.specs.Outputs.{is_gone, unsent, writing}
use Rattle.cy_model.specs.Marks.{Mark, ended, came, sent, began, refused, caused, TakenUp, Trace}
use Rattle.cy_model.specs.Settling.{body_cause, body_cause_by, front_of, is_awaited, may_begin, rested, swallow_place, with_marks}
use Rattle.cy_model.specs.Unbuilt.{is_unbuilt_request}
use Rattle.cy_model.proofs.Built.{IsPlain, plain_of}
use Rattle.cy_model.proofs.Gone.{open_may_not_begin}
use Rattle.cy_proc.specs.LineBodies.{IsAllGiven, IsGivenWithin, IsSoundInput}
use Rattle.cy_proc.specs.Lines.{IsAtRest, LineParts, line_parts, IsSound, NoneLater, Represents, is_body_cause}
use Rattle.cy_proc.proofs.LineInputs.{began_input, began_parts, came_input, came_parts}
use Rattle.cy_proc.proofs.Rests.{at_rest_is, cause_now, ends_inside, ends_now, now_built, pick, rested_closed, rested_now, with_cause}
use Rattle.cy_proc.specs.LineChanges.{after_begin, after_event, after_refusal, after_rest, after_told, at_moment, cause_at_rest, event_answer, gone_on, is_closed_line, passed_line, room_of, scanned_line, told_answer, with_more}
use Rattle.cy_proc.specs.LineAnswers.{AnswersEvent}
use Rattle.cy_proc.proofs.Built.{built_more}

-- the parts stand for the trace, of which a body may still be a cause to close
pub record Holds (T : Trace) (l : LineParts) : Type 0 where
  pub same : l ≡ line_parts l.moment T
  pub sound : IsSound T
  pub none_later : NoneLater l.moment T

pub holds : (T : Trace) (l : LineParts) → Represents T l → Holds T l
holds T l s = record { same = s.same; sound = s.sound; none_later = s.none_later }

-- what holds at the parts of a trace holds at each value that stands for it
pub at_parts : (T : Trace) (l : LineParts) (P : LineParts → Type 0) → Represents T l → (Represents T (line_parts l.moment T) → P (line_parts l.moment T)) → P l
at_parts T l P s h = subst P (sym s.same) (h (record { same = refl; sound = s.sound; none_later = s.none_later; at_rest = s.at_rest }))

pub at_held : (T : Trace) (l : LineParts) (P : LineParts → Type 0) → Holds T l → (Holds T (line_parts l.moment T) → P (line_parts l.moment T)) → P l
at_held T l P s h = subst P (sym s.same) (h (record { same = refl; sound = s.sound; none_later = s.none_later }))

-- nothing that isn't built stands in the trace
pub plainly : (T : Trace) → IsSound T → IsPlain T
plainly T s = plain_of T s.built

-- nothing breaks so far
pub whole : {T : Trace} → IsSound T → is_broken T ≡ false
whole {T} s = (plainly T s).whole

pub both : (v : Bool) → v ≡ true → v ≡ false → ⊥
both v p q = cc

-- ---- moments

-- marks of a moment that isn't later
pub marks_by : (t m : ℕ) (ms : List Mark) (T : Trace) → t ≤ m → NoneLater m T → NoneLater m (with_marks t ms T)
marks_by t m [] T by none = none
marks_by t m (k ∷ ms) T by none = marks_by t m ms ((t, k) ∷ T) by (All-cons (λ (e : ℕ × Mark). e.0 ≤ m) (t, k) T by none)

-- marks of the line's own moment
pub marks_at : (ms : List Mark) (T : Trace) (l : LineParts) → Represents T l → NoneLater l.moment (with_marks l.moment ms T)
marks_at ms T l s = marks_by l.moment l.moment ms T (omega arith) s.none_later

-- the moment comes, or a later one has come
pub moved_stands : (at : ℕ) (T : Trace) (old moved : LineParts) → Represents T old → moved ≡ at_moment at old → Represents T moved
moved_stands at T old moved s later =
    let m = max old.moment at in
    subst (Represents T) (sym later) (record {
      same = ap (λ (k : LineParts). record k { moment = m }) s.same;
      sound = s.sound;
      none_later = All-weaker (λ (e : ℕ × Mark). e.0 ≤ old.moment) (λ (e : ℕ × Mark). e.0 ≤ m) (λ e by. omega (arith, by)) T s.none_later;
      at_rest = s.at_rest;
    })

pub rest_moment : (limits : Limits) (l : LineParts) → (after_rest limits l).moment ≡ l.moment
rest_moment limits l =
    elim (is_none l.cause) as (λ v. (if v then record l { cause = cause_at_rest limits l } else l).moment ≡ l.moment) [ true ↦ refl | false ↦ refl ]

marked_moment : (e : Event) (b : List ℕ) (l : LineParts) → (after_event e b l).moment ≡ l.moment
marked_moment event.In b l =
    let L = with_more (take (room_of l) b) l in
    elim (L.is_open || (L.begun == 0)) as (λ v. (if v then scanned_line L else passed_line L).moment ≡ l.moment) [ true ↦ refl | false ↦ refl ]
marked_moment event.End b l = refl
marked_moment (event.Took n) b l = refl

-- what is told of a moment changes nothing of it
pub told_moment : (limits : Limits) (e : Event) (b : List ℕ) (l : LineParts) → (after_told limits e b l).moment ≡ l.moment
told_moment limits e b l =
    elim (is_closed_line e l) as (λ v. (if v then l else after_rest limits (after_event e b l)).moment ≡ l.moment) [
      | true ↦ refl
      | false ↦ rest_moment limits (after_event e b l) ∙ marked_moment e b l
    ]

-- ---- events

-- nothing of the input changes
pub same_input : (T R : Trace) → IsSoundInput T → IsGivenWithin (last_taken R) (bytes_of R) (given_count R) → head_end (last_taken R) ≤ length (bytes_of R)
    → (is_open R ≡ true → is_end_told R ≡ true → IsAllGiven R) → IsSoundInput R
same_input T R i given heads told = record { heads_came = heads; given = given; told = told }

came_held : (t m : ℕ) (b : List ℕ) (T : Trace) → t ≤ m → Holds T (line_parts m T) → Holds ((t, came b) ∷ T) (gone_on (with_more b (line_parts m T)))
came_held t m b T by s =
    subst (Holds ((t, came b) ∷ T)) (sym (came_parts t m b T s.sound.input))
    (record {
      same = refl;
      sound = record {
        input = came_input t m b T s.sound.input;
        took_past = s.sound.took_past;
        built = built_more t (came b) T refl s.sound.built;
        calm = s.sound.calm;
      };
      none_later = marks_by t m (came b ∷ []) T by s.none_later;
    })

ended_held : (t : ℕ) (T : Trace) (l : LineParts) → t ≤ l.moment → Holds T l → Holds ((t, ended) ∷ T) (record l { has_ended = true })
ended_held t T l by s = let i = s.sound.input in record {
  same = ap (λ (k : LineParts). record k { has_ended = true }) s.same;
  sound = record {
    input = same_input T ((t, ended) ∷ T) i i.given i.heads_came i.told;
    took_past = s.sound.took_past;
    built = built_more t ended T refl s.sound.built;
    calm = s.sound.calm;
  };
  none_later = marks_by t l.moment (ended ∷ []) T by s.none_later;
}

sent_held : (t n : ℕ) (T : Trace) (l : LineParts) → t ≤ l.moment → n ≤ length (unsent T) → Holds T l → Holds ((t, sent n) ∷ T) (record l { unsent = drop n l.unsent })
sent_held t n T l by few s = let i = s.sound.input in record {
  same = ap (λ (k : LineParts). record k { unsent = drop n k.unsent }) s.same;
  sound = record {
    input = same_input T ((t, sent n) ∷ T) i i.given i.heads_came i.told;
    took_past = omega (arith, s.sound.took_past, length-append (writing T).past (take n (unsent T)), length-take-le n (unsent T) few);
    built = built_more t (sent n) T refl s.sound.built;
    calm = s.sound.calm;
  };
  none_later = marks_by t l.moment (sent n ∷ []) T by s.none_later;
}

mark_held : (t : ℕ) (e : Event) (b : List ℕ) (T : Trace) (l : LineParts) → t ≤ l.moment → Holds T l → Holds (with_marks t (event_marks T e b) T) (after_event e b l)
mark_held t event.In b T l by s =
    at_held T l (λ k. Holds ((t, came (take (room T) b)) ∷ T) (after_event event.In b k)) s
    (λ own. came_held t l.moment (take (room T) b) T by own)
mark_held t event.End b T l by s = ended_held t T l by s
mark_held t (event.Took n) b T l by s =
    at_held T l (λ k. Holds ((t, sent (sent_of n T)) ∷ T) (after_event (event.Took n) b k)) s
    (λ own. sent_held t (sent_of n T) T (line_parts l.moment T) by (omega arith) own)

-- ---- resting

some_none : (o : Option CloseCause) (k : CloseCause) → o ≡ Some k → o ≡ None → ⊥
some_none o k e none = cc

first_some : (o : Option CloseCause) (k : CloseCause) → earlier o k ≡ None → ⊥
first_some None k e = cc
first_some (Some j) k e = cc

pick_none : (o : Option CloseCause) (inside awaits : Bool) → pick o inside awaits ≡ None → (o ≡ None) × (inside ≡ false)
pick_none (Some k) inside awaits e = cc
pick_none None true awaits e = cc
pick_none None false true e = cc
pick_none None false false e = (refl, refl)

bad_none : (v : Bool) (raw : ℕ) (long : Option ℕ) → body_cause_by (if v then Some raw else None) long ≡ None → v ≡ false
bad_none true raw None e = cc
bad_none true raw (Some place) e =
    elim (nat_le raw place) as (λ w. (if w then Some BadBody else Some SwallowLimit) ≡ None → true ≡ false) [ true ↦ λ q. cc | false ↦ λ q. cc ] e
bad_none false raw long e = refl

-- where no cause comes, the body is at rest
at_rest_now : (limits : Limits) (T : Trace) → cause_now limits T ≡ None → IsAtRest T
at_rest_now limits T e =
    let none = pick_none (body_cause limits T) (ends_inside T) (ends_now limits T) e in
    record {
      good = bad_none (has_bad_body T) (scan_of T).raw (swallow_place limits T) none.0;
      goes_on = λ ended. not_true (has_whole_body T) (ap (λ (v : Bool). v && not (has_whole_body T)) (sym ended) ∙ none.1);
    }
  where
    not_true : (v : Bool) → not v ≡ false → v ≡ true
    not_true true q = refl
    not_true false q = cc

below_none : (n : ℕ) → nat_lt n 0 ≡ false
below_none n = elim (nat_lt n 0) as (λ v. nat_lt n 0 ≡ v → v ≡ false) [ true ↦ λ e. absurd (omega (arith, ltb-true n 0 e)) | false ↦ λ e. refl ] refl

pick_bad : (w : Bool) (raw : ℕ) (inside awaits : Bool) (k : CloseCause) → pick (body_cause_by (if w then Some raw else None) None) inside awaits ≡ Some k → is_bad_request (Some k) ≡ true
pick_bad true raw inside awaits k e = let same : BadBody ≡ k = cc in subst (λ (c : CloseCause). is_bad_request (Some c) ≡ true) same refl
pick_bad false raw true awaits k e = let same : InputEnd ≡ k = cc in subst (λ (c : CloseCause). is_bad_request (Some c) ≡ true) same refl
pick_bad false raw false true k e = let same : InputEnd ≡ k = cc in subst (λ (c : CloseCause). is_bad_request (Some c) ≡ true) same refl
pick_bad false raw false false k e = cc

-- an open request gets no cause but its body
open_cause : (limits : Limits) (T : Trace) (k : CloseCause) → is_open T ≡ true → cause_now limits T ≡ Some k → is_bad_request (Some k) ≡ true
open_cause limits T k o e =
    let few = (λ i. nat_lt limits.max_swallow (if o i then 0 else used T - used_at_end T)) ∙ below_none limits.max_swallow in
    let none : swallow_place limits T ≡ None = (λ i. if few i then Some (used_at_end T + limits.max_swallow) else None) in
    pick_bad (has_bad_body T) (scan_of T).raw (ends_inside T) (ends_now limits T) k
    (sym (λ i. pick (body_cause_by (if has_bad_body T then Some (scan_of T).raw else None) (none i)) (ends_inside T) (ends_now limits T)) ∙ e)

caused_now : (limits : Limits) (t m : ℕ) (T : Trace) (o : Option CloseCause) → cause_now limits T ≡ o → t ≤ m → cause_of T ≡ None → Holds T (line_parts m T)
    → Represents (with_cause t T o) (record (line_parts m T) { cause = o })
caused_now limits t m T None q by none s = record {
  same = ap (λ (c : Option CloseCause). record (line_parts m T) { cause = c }) (sym none);
  sound = s.sound;
  none_later = s.none_later;
  at_rest = λ o calm. at_rest_now limits T q;
}
caused_now limits t m T (Some k) q by none s = let i = s.sound.input in record {
  same = ap (λ (c : Option CloseCause). record (line_parts m T) { cause = earlier c k }) (sym none);
  sound = record {
    input = same_input T ((t, caused k) ∷ T) i i.given i.heads_came i.told;
    took_past = s.sound.took_past;
    built = built_more t (caused k) T (now_built limits T k q) s.sound.built;
    calm = λ o. ap (λ (c : Option CloseCause). is_body_cause (earlier c k)) none ∙ open_cause limits T k o q;
  };
  none_later = marks_by t m (caused k ∷ []) T by s.none_later;
  at_rest = λ o calm. absurd (first_some (cause_of T) k calm);
}

rest_by : (limits : Limits) (t m : ℕ) (T : Trace) (o : Option CloseCause) → cause_of T ≡ o → t ≤ m → Holds T (line_parts m T)
    → Represents (rested limits t T) (after_rest limits (line_parts m T))
rest_by limits t m T None e by s =
    let L = line_parts m T in
    subst (λ (S : Trace). Represents S (after_rest limits L)) (sym (rested_now limits t T (plainly T s.sound) e))
    (subst (λ (v : Bool). Represents (with_cause t T (cause_now limits T)) (if v then record L { cause = cause_at_rest limits L } else L)) (sym (ap is_none e))
    (subst (λ (c : Option CloseCause). Represents (with_cause t T (cause_now limits T)) (record L { cause = c })) (sym (at_rest_is limits m T))
    (caused_now limits t m T (cause_now limits T) refl by e s)))
rest_by limits t m T (Some k) e by s =
    let L = line_parts m T in
    subst (λ (S : Trace). Represents S (after_rest limits L)) (sym (rested_closed limits t T (plainly T s.sound) (ap is_some e)))
    (subst (λ (v : Bool). Represents T (if v then record L { cause = cause_at_rest limits L } else L)) (sym (ap is_none e))
    (record { same = refl; sound = s.sound; none_later = s.none_later; at_rest = λ o calm. absurd (some_none (cause_of T) k e calm) }))

pub rest_stands : (limits : Limits) (t : ℕ) (T : Trace) (l : LineParts) → t ≤ l.moment → Holds T l → Represents (rested limits t T) (after_rest limits l)
rest_stands limits t T l by s =
    at_held T l (λ k. Represents (rested limits t T) (after_rest limits k)) s (λ own. rest_by limits t l.moment T (cause_of T) refl by own)

inside_false : (v w : Bool) → (v ≡ true → w ≡ true) → (v && not w) ≡ false
inside_false true w whole = ap not (whole refl)
inside_false false w whole = refl

-- nothing is done while a request is open whose body is at rest
pub rested_open : (limits : Limits) (t : ℕ) (T : Trace) (l : LineParts) → Represents T l → is_open T ≡ true → rested limits t T ≡ T
rested_open limits t T l s o = by_cause (cause_of T) refl
  where
    none_now : IsAtRest T → cause_now limits T ≡ None
    none_now rest =
        let few = (λ i. nat_lt limits.max_swallow (if o i then 0 else used T - used_at_end T)) ∙ below_none limits.max_swallow in
        let none : swallow_place limits T ≡ None = (λ i. if few i then Some (used_at_end T + limits.max_swallow) else None) in
        let good = rest.good in
        let inside = inside_false (has_ended T) (has_whole_body T) rest.goes_on in
        let awaits = and_left (may_begin T) (has_ended T && is_awaited (front_of limits T)) (open_may_not_begin T o) in
        λ i. pick (body_cause_by (if good i then Some (scan_of T).raw else None) (none i)) (inside i) (awaits i)

    by_cause : (c : Option CloseCause) → cause_of T ≡ c → rested limits t T ≡ T
    by_cause None e = rested_now limits t T (plainly T s.sound) e ∙ ap (with_cause t T) (none_now (s.at_rest o e))
    by_cause (Some k) e = rested_closed limits t T (plainly T s.sound) (ap is_some e)

-- ---- what the socket tells

answers_event : (e : Event) (b : List ℕ) (m : ℕ) (T : Trace) → event_answer e b (line_parts m T) ≡ event_reply T e b
answers_event event.In b m T = refl
answers_event event.End b m T = refl
answers_event (event.Took n) b m T = refl

told_by : (limits : Limits) (t : ℕ) (e : Event) (b : List ℕ) (T : Trace) (l : LineParts) (v : Bool) → is_closed_to e T ≡ v → t ≤ l.moment → Represents T l → event_answer e b l ≡ event_reply T e b → AnswersEvent limits t e b T (if v then reply.Closed else event_answer e b l) (if v then l else after_rest limits (after_event e b l))
told_by limits t e b T l true closed by s same = record {
  reply = sym (ap (λ (v : Bool). if v then reply.Closed else event_reply T e b) closed);
  stands = subst (λ (S : Trace). Represents S l) (sym (ap (λ (v : Bool). if v then T else rested limits t (with_marks t (event_marks T e b) T)) closed)) s;
}
told_by limits t e b T l false closed by s same = record {
  reply = same ∙ sym (ap (λ (v : Bool). if v then reply.Closed else event_reply T e b) closed);
  stands = subst (λ (S : Trace). Represents S (after_rest limits (after_event e b l))) (sym (ap (λ (v : Bool). if v then T else rested limits t (with_marks t (event_marks T e b) T)) closed))
      (rest_stands limits t (with_marks t (event_marks T e b) T) (after_event e b l) (subst (λ (m : ℕ). t ≤ m) (sym (marked_moment e b l)) by) (mark_held t e b T l by (holds T l s)));
}

told_answers : (limits : Limits) (t : ℕ) (e : Event) (b : List ℕ) (T : Trace) (l : LineParts) → t ≤ l.moment → Represents T l → AnswersEvent limits t e b T (told_answer e b l) (after_told limits e b l)
told_answers limits t e b T l by s =
    at_parts T l (λ k. AnswersEvent limits t e b T (told_answer e b k) (after_told limits e b k)) s
    (λ own. told_by limits t e b T (line_parts l.moment T) (is_closed_line e (line_parts l.moment T))
    (ap (λ (v : Bool). is_closed_by e (cause_of T) (has_ended T) (is_gone T) v) (whole s.sound)) by own (answers_event e b l.moment T))

-- an event that comes at the later of two moments, as a line takes it
pub told_from : (limits : Limits) (at : ℕ) (e : Event) (b : List ℕ) (T : Trace) (old moved new : LineParts) (r : Reply) → Represents T old → moved ≡ at_moment at old → r ≡ told_answer e b moved → new ≡ after_told limits e b moved → AnswersEvent limits new.moment e b T r new
told_from limits at e b T old moved new r s later replied parts =
    let t = new.moment in
    let here : t ≡ moved.moment = ap (λ (k : LineParts). k.moment) parts ∙ told_moment limits e b moved in
    let told = told_answers limits t e b T moved (omega (arith, here)) (moved_stands at T old moved s later) in
    record { reply = replied ∙ told.reply; stands = subst (Represents (rested_event limits t T e b)) (sym parts) told.stands }

-- resting, as a line does it
pub rest_from : (limits : Limits) (T : Trace) (old new : LineParts) → Represents T old → new ≡ after_rest limits old → Represents (rested limits old.moment T) new
rest_from limits T old new s parts =
    subst (Represents (rested limits old.moment T)) (sym parts) (rest_stands limits old.moment T old (omega arith) (holds T old s))

-- ---- taking up a head

-- a head is refused
pub refused_stands : (status : ℕ) (to_head : Bool) (T : Trace) (l : LineParts) → is_open T ≡ false → cause_of T ≡ None → Represents T l → Represents ((l.moment, caused Refused) ∷ (l.moment, refused status to_head) ∷ T) (after_refusal status to_head l)
refused_stands status to_head T l closed none s =
    let m = l.moment in
    let R : Trace = (m, caused Refused) ∷ (m, refused status to_head) ∷ T in
    let text = refusal_text status to_head m in
    at_parts T l (λ k. Represents R (record k { unsent = k.unsent ++ refusal_text status to_head k.moment; cause = Some Refused })) s
    (λ own. record {
      same = ap (λ (c : Option CloseCause). record (line_parts m T) { unsent = unsent T ++ text; cause = earlier c Refused }) (sym none);
      sound = record {
        input = same_input T R own.sound.input own.sound.input.given own.sound.input.heads_came own.sound.input.told;
        took_past = s.sound.took_past;
        built = built_more m (caused Refused) ((m, refused status to_head) ∷ T) refl (built_more m (refused status to_head) T refl s.sound.built);
        calm = λ o. absurd (both (is_open T) o closed);
      };
      none_later = marks_at (refused status to_head ∷ caused Refused ∷ []) T l s;
      at_rest = λ o. absurd (both (is_open T) o closed);
    })

-- a request begins
pub began_held : (r : TakenUp) (T : Trace) (l : LineParts) → r.place ≡ consumed T → r.size ≤ length (unread T) → is_unbuilt_request r ≡ false → cause_of T ≡ None → 1 ≤ r.size → Represents T l
    → Holds ((l.moment, began r) ∷ T) (after_begin r.size r.framing r.max_trailer r.go_on l)
began_held r T l at_place fits built none some s =
    let m = l.moment in
    let R : Trace = (m, began r) ∷ T in
    at_parts T l (λ k. Holds R (after_begin r.size r.framing r.max_trailer r.go_on k)) s
    (λ own. subst (Holds R) (sym (began_parts m r T at_place))
    (record {
      same = refl;
      sound = record {
        input = began_input m r T at_place some fits;
        took_past = s.sound.took_past;
        built = built_more m (began r) T built s.sound.built;
        calm = λ o. ap is_body_cause none;
      };
      none_later = marks_at (began r ∷ []) T l s;
    }))
