-- The parts that follow an act, taken or refused, stand for the trace that follows it.
use Rattle.std.proofs.Common.{◌≡◌, ◌≤◌, inl, ℕ, ◌+◌, Bool, true, false, List, [], ◌∷◌, ◌++◌, length, take, Option, Some, None, is_some, refl, sym, ap, ◌∙◌, subst, arith, length-append, length-take, if◌then◌else◌}
use Rattle.std.proofs.lemmas.List.{append-nil, take-take}
use Rattle.cy_event.specs.declared.limits.Limits.{Limits}
use Rattle.cy_event.specs.declared.steps.Act.{Act}
use Rattle.cy_event.specs.declared.steps.Act.TheVariants as act
use Rattle.cy_event.specs.declared.steps.CloseCause.{CloseCause}
use Rattle.cy_event.specs.declared.steps.Job.{Job}
use Rattle.cy_event.specs.declared.steps.Job.TheVariants as job
use Rattle.cy_event.specs.declared.steps.Reply.{Reply}
use Rattle.cy_event.specs.declared.steps.Reply.TheVariants as reply
use Rattle.cy_event.specs.declared.table.ChartItem.{ChartItem}
use Rattle.cy_event.specs.Answers.{Answer, after_put, fresh_answer}
use Rattle.cy_model.specs.Entries.{act_marks, act_reply, callback_reply, is_closed_act, is_full, open_act_marks, open_act_reply, rested_act, rested_callback, write_takes}
use Rattle.cy_event.specs.Answering.{Answering, Sending, with_bytes}
use Rattle.cy_model.specs.Folds.{cause_of, is_open, part_of, running}
use Rattle.cy_model.specs.Outputs.{answer_of, answering_of, put_by, sending_of}
use Rattle.cy_model.specs.Marks.{put, Trace}
use Rattle.cy_model.specs.Replies.{plain, replied_in}
use Rattle.cy_model.specs.Settling.{rested}
use Rattle.cy_proc.proofs.Plain.{put_is}
use Rattle.cy_proc.specs.Lines.{LineParts, Represents, line_parts}
use Rattle.cy_proc.specs.declared.processor.Stage.TheVariants as stage
use Rattle.cy_proc.specs.LineChanges.{at_moment}
use Rattle.cy_proc.specs.ProcessorAnswers.{Answers, Serves, ServesAfter, ended_items}
use Rattle.cy_proc.specs.ProcessorChanges.{after_write, has_no_room, write_reply, write_room}
use Rattle.cy_proc.specs.Processors.{IsOfRequest, ProcessorParts, RequestFolds, is_open_at, processor_parts, request_folds, waiting_content}
use Rattle.cy_proc.proofs.Built.{built_more}
use Rattle.cy_proc.proofs.Lines.{marks_at, moved_stands, rested_open, same_input}
use Rattle.cy_proc.proofs.Requests.{open_charts, owed_request, serves_same, serving_request, stands_request}

-- ---- acts

-- content that fits waits, and nothing is written
put_waits : (T : Trace) (t : ℕ) (b : List ℕ) (p : ProcessorParts) → cause_of T ≡ None → is_open T ≡ true → IsOfRequest (request_folds T) p → length (answer_of T).content + length b ≤ 8192
    → answering_of ((t, put b) ∷ T) ≡ record (answering_of T) { sending = with_bytes b (sending_of T) }
put_waits T t b p none o s fits =
    let waits : length (sending_of T).waiting ≡ length (answer_of T).content = ap (λ (x : Sending). length x.waiting) (s.alone.sending o) in
    ap (λ (c : Option CloseCause). put_by c (answer_of T) t b (answering_of T)) none
    ∙ put_is (answer_of T) t b (answering_of T) (omega (arith, waits, fits))

put_mark : (b : List ℕ) (T : Trace) (l : LineParts) (p : ProcessorParts) → cause_of T ≡ None → is_open T ≡ true → IsOfRequest (request_folds T) p → length (answer_of T).content + length b ≤ 8192 → Represents T l → Represents ((l.moment, put b) ∷ T) l
put_mark b T l p none o r fits s =
    let waits = put_waits T l.moment b p none o r fits in
    let i = s.sound.input in
    record {
      same = s.same ∙ ap (λ (u : List ℕ). record (line_parts l.moment T) { unsent = u }) (sym (ap (λ (a : Answering). a.output) waits));
      sound = record {
        input = same_input T ((l.moment, put b) ∷ T) i i.given i.heads_came i.told;
        took_past = s.sound.took_past;
        built = built_more l.moment (put b) T refl s.sound.built;
        calm = s.sound.calm;
      };
      none_later = marks_at (put b ∷ []) T l s;
      at_rest = λ o calm. let rest = s.at_rest o calm in record { good = rest.good; goes_on = rest.goes_on };
    }

-- what is put waits behind what waits
waits_more : (o : Bool) (a : Answer) (b : List ℕ) → o ≡ true → waiting_content o a ++ b ≡ waiting_content o (after_put b a)
waits_more true a b e = refl
waits_more false a b e = cc

put_parts : (T : Trace) (t : ℕ) (b : List ℕ) (p : ProcessorParts) → cause_of T ≡ None → is_open T ≡ true → length (answer_of T).content + length b ≤ 8192 → IsOfRequest (request_folds T) p → IsOfRequest (request_folds ((t, put b) ∷ T)) (record p { content = p.content ++ b })
put_parts T t b p none o fits s =
    let f = request_folds T in
    let R : Trace = (t, put b) ∷ T in
    let waits = put_waits T t b p none o s fits in
    record {
      same = ap (λ (q : ProcessorParts). record q { content = q.content ++ b }) s.same
          ∙ ap (λ (x : List ℕ). record (processor_parts p.limits f) { content = x }) (waits_more (is_open T) (answer_of T) b o);
      alone = record {
        minor = s.alone.minor;
        begun = s.alone.begun;
        taken = s.alone.taken;
        state = s.alone.state;
        running = s.alone.running;
        calls = s.alone.calls;
        answer = λ e. ap (after_put b) (s.alone.answer e);
        few = λ e. omega (arith, fits, length-append (answer_of T).content b);
        sending = λ e. ap (λ (a : Answering). a.sending) waits ∙ ap (with_bytes b) (s.alone.sending o);
      };
    }

put_stands : (limits : Limits) (b : List ℕ) (T : Trace) (l : LineParts) (p : ProcessorParts) → is_open_at p.stage ≡ true → cause_of T ≡ None → is_open T ≡ true → length (answer_of T).content + length b ≤ 8192 → IsOfRequest (request_folds T) p → Represents T l → ServesAfter T (rested limits l.moment ((l.moment, put b) ∷ T)) l (record p { content = p.content ++ b })
put_stands limits b T l p at none o fits s line =
    let m = l.moment in
    let R : Trace = (m, put b) ∷ T in
    let q : ProcessorParts = record p { content = p.content ++ b } in
    let marked = put_mark b T l p none o s fits line in
    subst (λ (S : Trace). ServesAfter T S l q) (sym (rested_open limits m R l marked o)) (record {
      serves = record { line = marked; processor = inl (put_parts T m b p none o fits s) };
      charts = sym (append-nil (ended_items T)) ∙ ap (λ (x : List (List ChartItem)). ended_items T ++ x) (sym (open_charts p.stage p.progress at));
    })

-- what is taken of the first n bytes is taken of all
taken_first : (k n : ℕ) (b : List ℕ) → k ≤ n → take k (take n b) ≡ take k b
taken_first k n b few = take-take k n b few

-- the answer of an open request is its content
pub content_is : (f : RequestFolds) (p : ProcessorParts) → f.is_open ≡ true → IsOfRequest f p → f.answer ≡ after_put p.content fresh_answer
content_is f p o s =
    s.alone.answer o
    ∙ ap (λ (x : List ℕ). after_put x fresh_answer) (sym (ap (λ (q : ProcessorParts). q.content) s.same ∙ ap (λ (v : Bool). waiting_content v f.answer) o))

-- what a write takes fits
room_fits : (a : Answer) (p : ProcessorParts) (n : ℕ) (b : List ℕ) → length a.content ≤ 8192 → a ≡ after_put p.content fresh_answer
    → length a.content + length (take (write_room p n) b) ≤ 8192
room_fits a p n b few is =
    omega (arith, few, ap (λ (x : Answer). length x.content) is, length-take (write_room p n) b)

no_cause_of : (o : Option CloseCause) → is_some o ≡ false → o ≡ None
no_cause_of None e = refl
no_cause_of (Some k) e = cc

-- a reply to a write hands over no bytes
write_plain : (p : ProcessorParts) (n : ℕ) (into : List ℕ) → replied_in (write_reply p n) into ≡ plain (write_reply p n)
write_plain p n into =
    elim (has_no_room p n) as (λ v. replied_in (if v then reply.Again else reply.Taken (write_room p n)) into ≡ plain (if v then reply.Again else reply.Taken (write_room p n))) [
      | true ↦ refl
      | false ↦ refl
    ]

pub write_answers : (limits : Limits) (at n : ℕ) (b given into : List ℕ) (T : Trace) (old new : LineParts) (p q : ProcessorParts) (r : Reply) → p.stage ≡ stage.Serving → is_some new.cause ≡ false → n ≤ length b → Serves T old p → new ≡ at_moment at old → given ≡ take n b → r ≡ write_reply p (length given) → q ≡ after_write (length given) given p → Answers T (callback_reply limits T (act.Write n)) (rested_callback limits new.moment T (act.Write n) b) (replied_in r into) new q
write_answers limits at n b given into T old new p q r at_stage no_cause within s later sliced replied parts =
    let m = new.moment in
    let line = moved_stands at T old new s.line later in
    let stands = stands_request T p (ap is_open_at at_stage) s.processor in
    let here = serving_request (request_folds T) p at_stage stands in
    let runs : running T ≡ Some (job.Service (part_of T)) = here.runs in
    let answer : answer_of T ≡ after_put p.content fresh_answer = content_is (request_folds T) p here.is_open stands in
    let cause : is_some (cause_of T) ≡ false = sym (ap (λ (l : LineParts). is_some l.cause) line.same) ∙ no_cause in
    let size : length given ≡ n = ap length sliced ∙ omega (arith, within, length-take n b) in
    let put_in : take (write_room p n) given ≡ take (write_room p n) b = ap (take (write_room p n)) sliced ∙ taken_first (write_room p n) n b (omega arith) in
    let wanted : callback_reply limits T (act.Write n) ≡ plain (write_reply p n) =
    ap (λ (o : Option Job). if is_some o then act_reply limits T (act.Write n) else plain reply.NotActive) runs
    ∙ ap (λ (v : Bool). if v then plain reply.Closed else open_act_reply limits T (act.Write n)) cause
    ∙ ap (λ (a : Answer). plain (if is_full a n then reply.Again else reply.Taken (write_takes a n))) answer in
    let trace : rested_callback limits m T (act.Write n) b ≡ rested_act limits m T (if has_no_room p n then None else Some (put (take (write_room p n) b) ∷ [])) =
    ap (λ (o : Option Job). if is_some o then rested_act limits m T (act_marks limits T (act.Write n) b) else T) runs
    ∙ ap (λ (v : Bool). rested_act limits m T (if v then None else open_act_marks limits T (act.Write n) b)) cause
    ∙ ap (λ (a : Answer). rested_act limits m T (if is_full a n then None else Some (put (take (write_takes a n) b) ∷ []))) answer in
    let left : after_write (length given) given p ≡ (if has_no_room p n then p else record p { content = p.content ++ take (write_room p n) b }) =
    ap (λ (k : ℕ). after_write k given p) size
    ∙ ap (λ (x : List ℕ). if has_no_room p n then p else record p { content = p.content ++ x }) put_in in
    let follows : (v : Bool) → ServesAfter T (rested_act limits m T (if v then None else Some (put (take (write_room p n) b) ∷ []))) new (if v then p else record p { content = p.content ++ take (write_room p n) b }) = λ v.
    elim v as (λ u. ServesAfter T (rested_act limits m T (if u then None else Some (put (take (write_room p n) b) ∷ []))) new (if u then p else record p { content = p.content ++ take (write_room p n) b })) [
      | true ↦ serves_same T T new p (ap is_open_at at_stage) (record { folds = refl; charts = refl }) s.processor line
      | false ↦ put_stands limits (take (write_room p n) b) T new p (ap is_open_at at_stage) (no_cause_of (cause_of T) cause) here.is_open
          (room_fits (answer_of T) p n b (stands.alone.few here.is_open) answer) stands line
    ] in
    record {
      reply = ap (λ (x : Reply). replied_in x into) (replied ∙ ap (write_reply p) size) ∙ write_plain p n into ∙ sym wanted;
      after = subst (λ (R : Trace). ServesAfter T R new q) (sym trace) (subst (λ (k : ProcessorParts). ServesAfter T (rested_act limits m T (if has_no_room p n then None else Some (put (take (write_room p n) b) ∷ []))) new k) (sym (parts ∙ left)) (follows (has_no_room p n)));
    }

-- ---- a refused act

-- nothing follows of it but the moment
pub refused_act_answers : (limits : Limits) (at : ℕ) (T : Trace) (old new : LineParts) (p : ProcessorParts) (a : Act) (b : List ℕ) (r : Reply) (into : List ℕ) → is_open_at p.stage ≡ true → Serves T old p → new ≡ at_moment at old → callback_reply limits T a ≡ replied_in r into → rested_callback limits new.moment T a b ≡ T → Answers T (callback_reply limits T a) (rested_callback limits new.moment T a b) (replied_in r into) new p
refused_act_answers limits at T old new p a b r into o s later wanted still = record {
  reply = sym wanted;
  after = subst (λ (R : Trace). ServesAfter T R new p) (sym still)
      (serves_same T T new p o (record { folds = refl; charts = refl }) s.processor (moved_stands at T old new s.line later));
}

-- no callback runs
pub idle_act : (limits : Limits) (at : ℕ) (T : Trace) (old new : LineParts) (p : ProcessorParts) (a : Act) (b into : List ℕ) → p.stage ≡ stage.Owed → Serves T old p → new ≡ at_moment at old → Answers T (callback_reply limits T a) (rested_callback limits new.moment T a b) (replied_in reply.NotActive into) new p
idle_act limits at T old new p a b into at_stage s later =
    let stands = stands_request T p (ap is_open_at at_stage) s.processor in
    let here = owed_request (request_folds T) p at_stage stands in
    let runs : running T ≡ None = here.runs in
    refused_act_answers limits at T old new p a b reply.NotActive into (ap is_open_at at_stage) s later
    (ap (λ (o : Option Job). if is_some o then act_reply limits T a else plain reply.NotActive) runs)
    (ap (λ (o : Option Job). if is_some o then rested_act limits new.moment T (act_marks limits T a b) else T) runs)

-- there is a cause to close
pub closed_act : (limits : Limits) (at : ℕ) (T : Trace) (old new : LineParts) (p : ProcessorParts) (a : Act) (b into : List ℕ) → p.stage ≡ stage.Serving → is_closed_act a T ≡ is_some (cause_of T) → is_some new.cause ≡ true → Serves T old p → new ≡ at_moment at old → Answers T (callback_reply limits T a) (rested_callback limits new.moment T a b) (replied_in reply.Closed into) new p
closed_act limits at T old new p a b into at_stage by_cause has_cause s later =
    let stands = stands_request T p (ap is_open_at at_stage) s.processor in
    let here = serving_request (request_folds T) p at_stage stands in
    let runs : running T ≡ Some (job.Service (part_of T)) = here.runs in
    let line = moved_stands at T old new s.line later in
    let cause : is_closed_act a T ≡ true = by_cause ∙ sym (ap (λ (l : LineParts). is_some l.cause) line.same) ∙ has_cause in
    refused_act_answers limits at T old new p a b reply.Closed into (ap is_open_at at_stage) s later
    (ap (λ (o : Option Job). if is_some o then act_reply limits T a else plain reply.NotActive) runs
    ∙ ap (λ (v : Bool). if v then plain reply.Closed else open_act_reply limits T a) cause)
    (ap (λ (o : Option Job). if is_some o then rested_act limits new.moment T (act_marks limits T a b) else T) runs
    ∙ ap (λ (v : Bool). rested_act limits new.moment T (if v then None else open_act_marks limits T a b)) cause)

-- a write, whether there is a cause to close or not
pub write_by : (limits : Limits) (at n : ℕ) (b given into : List ℕ) (T : Trace) (old new : LineParts) (p q : ProcessorParts) (r : Reply) → p.stage ≡ stage.Serving → n ≤ length b → Serves T old p → new ≡ at_moment at old → given ≡ take n b
    → r ≡ (if is_some new.cause then reply.Closed else write_reply p (length given)) → q ≡ (if is_some new.cause then p else after_write (length given) given p)
    → Answers T (callback_reply limits T (act.Write n)) (rested_callback limits new.moment T (act.Write n) b) (replied_in r into) new q
write_by limits at n b given into T old new p q r at_stage within s later sliced replied parts =
    elim (is_some new.cause) as (λ v. is_some new.cause ≡ v → r ≡ (if v then reply.Closed else write_reply p (length given)) → q ≡ (if v then p else after_write (length given) given p)
    → Answers T (callback_reply limits T (act.Write n)) (rested_callback limits new.moment T (act.Write n) b) (replied_in r into) new q) [
      | true ↦ λ has told left.
          subst (λ (x : Reply). Answers T (callback_reply limits T (act.Write n)) (rested_callback limits new.moment T (act.Write n) b) (replied_in x into) new q) (sym told)
          (subst (λ (x : ProcessorParts). Answers T (callback_reply limits T (act.Write n)) (rested_callback limits new.moment T (act.Write n) b) (replied_in reply.Closed into) new x) (sym left)
          (closed_act limits at T old new p (act.Write n) b into at_stage refl has s later))
      | false ↦ λ calm told left. write_answers limits at n b given into T old new p q r at_stage calm within s later sliced told left
    ] refl replied parts
