-- The parts that follow a read stand for the trace that follows it.
use Rattle.std.proofs.Common.{◌≡◌, ◌≤◌, ℕ, suc, Bool, true, false, ◌||◌, nat_lt, List, [], ◌∷◌, ◌++◌, length, take, drop, Option, Some, None, is_none, is_some, refl, sym, ap, ◌∙◌, subst, arith, append_assoc, length-drop, length-take, length-take-le, if◌then◌else◌}
use Rattle.std.specs.Prelude.{min}
use Rattle.std.proofs.Math.Seq.{drop-append_seam, take-append_seam}
use Rattle.std.proofs.lemmas.Bool.{ltb-false}
use Rattle.std.proofs.lemmas.List.{drop-append-le, take-append-drop}
use Rattle.cy_event.specs.Bodies.{content_in}
use Rattle.cy_in.specs.Laws.{IsGiven}
use Rattle.cy_in.proofs.Gives.{given_is}
use Rattle.cy_event.specs.declared.limits.Limits.{Limits}
use Rattle.cy_event.specs.declared.steps.Act.TheVariants as act
use Rattle.cy_event.specs.declared.steps.CloseCause.{CloseCause}
use Rattle.cy_event.specs.declared.steps.Job.{Job}
use Rattle.cy_event.specs.declared.steps.Job.TheVariants as job
use Rattle.cy_event.specs.declared.steps.Reply.{Reply}
use Rattle.cy_event.specs.declared.steps.Reply.TheVariants as reply
use Rattle.cy_in.specs.Intakes.{after_read, ahead, content_read, has_content, is_ready, is_whole, piece, taken_by, waiting as waits_in}
use Rattle.cy_in.specs.Reads.{reply_of_read}
use Rattle.cy_in.proofs.Choices.{never_both, where_not, where_yes}
use Rattle.cy_model.specs.Entries.{act_reply, callback_reply, act_marks, rested_act, rested_callback}
use Rattle.cy_model.specs.Folds.{cause_of, is_open, last_taken, part_of, running}
use Rattle.cy_model.specs.Inputs.{has_whole_body, is_end_told, scan_of, unread, waiting}
use Rattle.cy_model.specs.Marks.{TakenUp, Trace, given, end_given}
use Rattle.cy_model.specs.Reads.{Reading, content_read as content_given, end_read, nothing_read, reading_by, reading_in, reading_marks, reading_reply}
use Rattle.cy_model.specs.Replies.{plain, replied_in}
use Rattle.cy_model.specs.Settling.{rested}
use Rattle.cy_proc.specs.LineBodies.{IsSoundInput, intake_of}
use Rattle.cy_proc.specs.LineChanges.{after_rest, at_moment, cause_at_rest, read_line, work_of}
use Rattle.cy_proc.specs.Lines.{IsAtRest, LineParts, Represents, line_parts}
use Rattle.cy_proc.specs.ProcessorAnswers.{Answers, GivesInto, Serves, ServesAfter}
use Rattle.cy_proc.specs.ProcessorChanges.{line_read, read_content, read_into, read_reply}
use Rattle.cy_proc.specs.Processors.{ProcessorParts, StandsForRequest, is_open_at, request_folds}
use Rattle.cy_proc.specs.declared.processor.Stage.TheVariants as stage
use Rattle.cy_proc.proofs.ActParts.{closed_act}
use Rattle.cy_proc.proofs.Built.{built_more}
use Rattle.cy_proc.proofs.Lines.{Holds, marks_at, moved_stands, plainly, rest_moment, rest_stands}
use Rattle.cy_proc.proofs.LineInputs.{open_taken}
use Rattle.cy_proc.proofs.Readings.{end_input, end_parts, given_input, given_parts, piece_given, waits_same}
use Rattle.cy_proc.proofs.Work.{work_after_rest}
use Rattle.cy_proc.proofs.Requests.{IsOpenBy, SameRequests, joined, rested_same, serves_same, serving_request, stands_request}

-- what follows where nothing of the request changes
follows : (limits : Limits) (T R : Trace) (next : LineParts) (p : ProcessorParts) → is_open_at p.stage ≡ true → SameRequests T R → StandsForRequest T p → Holds R next
    → ServesAfter T (rested limits next.moment R) (after_rest limits next) p
follows limits T R next p o same s held =
    serves_same T (rested limits next.moment R) (after_rest limits next) p o
    (joined T R (rested limits next.moment R) same (rested_same limits next.moment R (plainly R held.sound)))
    s (rest_stands limits next.moment R next (omega arith) held)

given_holds : (m k : ℕ) (T : Trace) → Represents T (line_parts m T) → IsSoundInput ((m, given k) ∷ T) → Holds ((m, given k) ∷ T) (line_parts m ((m, given k) ∷ T))
given_holds m k T s input = record {
  same = refl;
  sound = record {
    input = input;
    took_past = s.sound.took_past;
    built = built_more m (given k) T refl s.sound.built;
    calm = s.sound.calm;
  };
  none_later = marks_at (given k ∷ []) T (line_parts m T) s;
}

end_holds : (m : ℕ) (T : Trace) → Represents T (line_parts m T) → IsSoundInput ((m, end_given) ∷ T) → Holds ((m, end_given) ∷ T) (line_parts m ((m, end_given) ∷ T))
end_holds m T s input = record {
  same = refl;
  sound = record {
    input = input;
    took_past = s.sound.took_past;
    built = built_more m end_given T refl s.sound.built;
    calm = s.sound.calm;
  };
  none_later = marks_at (end_given ∷ []) T (line_parts m T) s;
}

some_more : (n : ℕ) → nat_lt 0 (suc n) ≡ true
some_more n = elim (nat_lt 0 (suc n)) as (λ v. nat_lt 0 (suc n) ≡ v → v ≡ true) [ true ↦ λ e. refl | false ↦ λ e. absurd (omega (arith, ltb-false 0 (suc n) e)) ] refl

never_some : (b : ℕ) (c : List ℕ) → b ∷ c ≡ [] → ⊥
never_some b c e = cc

-- ---- a read where there is no cause to close

-- at the parts of a trace
module _ (limits : Limits) (n : ℕ) (T : Trace) (m : ℕ) (p : ProcessorParts) (open_stage : is_open_at p.stage ≡ true) (stands : StandsForRequest T p) (s : Represents T (line_parts m T)) (o : is_open T ≡ true) (none : cause_of T ≡ None) where
  abbrev L : LineParts
  L = line_parts m T

  rest : IsAtRest T
  rest = s.at_rest o none

  waits : nat_lt 0 (length (waiting T)) ≡ has_content (intake_of T)
  waits = ap (nat_lt 0) (sym (waits_same m T o rest.good s.sound.input))

  -- what it is answered, what it gives, and what follows of it
  pub record Finds (found : Reading) : Type 0 where
    pub reply : read_reply n L ≡ (reading_reply found).reply
    pub content : read_content n L ≡ (reading_reply found).got
    pub after : ServesAfter T (rested_act limits m T (reading_marks found)) (line_read limits n L) p

  calm_reply : read_reply n L ≡ reply_of_read n (intake_of T) (unread T)
  calm_reply = ap (λ (c : Option CloseCause). if is_some c then reply.Closed else reply_of_read n (intake_of T) (unread T)) none

  calm_content : read_content n L ≡ content_read n (intake_of T) (unread T)
  calm_content = ap (λ (c : Option CloseCause). if is_some c then [] else content_read n (intake_of T) (unread T)) none

  calm_line : line_read limits n L ≡ (if is_ready (intake_of T) then after_rest limits (read_line n L) else L)
  calm_line = ap (λ (c : Option CloseCause). if is_some c then L else if is_ready (intake_of T) then after_rest limits (read_line n L) else L) none

  -- content
  some_found : (r : TakenUp) → last_taken T ≡ Some r → (is_end_told T ≡ false) → has_content (intake_of T) ≡ true → Finds (content_given (take n (waiting T)))
  some_found r is untold some =
      let R : Trace = (m, given (length (take n (waiting T)))) ∷ T in
      let gives : content_read n (intake_of T) (unread T) ≡ take n (waiting T) =
      where_yes (has_content (intake_of T)) _ _ some ∙ piece_given m T r is o untold rest.good s.sound.input n in
      let line : line_read limits n L ≡ after_rest limits (line_parts m R) =
      calm_line
      ∙ ap (λ (v : Bool). if v || is_whole (scan_of T).stage then after_rest limits (read_line n L) else L) some
      ∙ ap (after_rest limits) (given_parts m T r is o untold rest.good s.sound.input n some) in
      let next = follows limits T R (line_parts m R) p open_stage (record { folds = refl; charts = refl }) stands
      (given_holds m (length (take n (waiting T))) T s (given_input m T r is o untold rest.good s.sound.input n)) in
      record {
        reply = calm_reply
            ∙ where_yes (has_content (intake_of T)) (reply.Got (length (content_read n (intake_of T) (unread T)))) (if is_whole (scan_of T).stage then reply.GotEnd else reply.Again) some
            ∙ ap (λ (c : List ℕ). reply.Got (length c)) gives;
        content = calm_content ∙ gives;
        after = subst (λ (l : LineParts). ServesAfter T (rested limits m R) l p) (sym line) next;
      }

  -- the end
  end_found : waiting T ≡ [] → has_whole_body T ≡ true → has_content (intake_of T) ≡ false → Finds end_read
  end_found empty whole not_some =
      let R : Trace = (m, end_given) ∷ T in
      let line : line_read limits n L ≡ after_rest limits (line_parts m R) =
      calm_line
      ∙ (λ i. if not_some i || whole i then after_rest limits (read_line n L) else L)
      ∙ ap (after_rest limits) (end_parts m T o whole empty s.sound.input n not_some whole) in
      let next = follows limits T R (line_parts m R) p open_stage (record { folds = refl; charts = refl }) stands
      (end_holds m T s (end_input m T o whole empty s.sound.input)) in
      record {
        reply = calm_reply ∙ (λ i. if not_some i then reply.Got (length (content_read n (intake_of T) (unread T))) else if whole i then reply.GotEnd else reply.Again);
        content = calm_content ∙ where_not (has_content (intake_of T)) _ _ not_some;
        after = subst (λ (l : LineParts). ServesAfter T (rested limits m R) l p) (sym line) next;
      }

  -- nothing yet
  nothing_found : has_whole_body T ≡ false → has_content (intake_of T) ≡ false → Finds nothing_read
  nothing_found going not_some =
      let line : line_read limits n L ≡ L = calm_line ∙ (λ i. if not_some i || going i then after_rest limits (read_line n L) else L) in
      record {
        reply = calm_reply ∙ (λ i. if not_some i then reply.Got (length (content_read n (intake_of T) (unread T))) else if going i then reply.GotEnd else reply.Again);
        content = calm_content ∙ where_not (has_content (intake_of T)) _ _ not_some;
        after = subst (λ (l : LineParts). ServesAfter T T l p) (sym line) (serves_same T T L p open_stage (record { folds = refl; charts = refl }) stands s);
      }

  by_whole : (v : Bool) → has_whole_body T ≡ v → waiting T ≡ [] → Finds (reading_by n [] v)
  by_whole true whole empty = end_found empty whole (sym waits ∙ ap (λ (c : List ℕ). nat_lt 0 (length c)) empty)
  by_whole false going empty = nothing_found going (sym waits ∙ ap (λ (c : List ℕ). nat_lt 0 (length c)) empty)

  -- of one whose end was told none waits
  by_told : (v : Bool) (t : Option TakenUp) (b : ℕ) (c : List ℕ) → is_end_told T ≡ v → last_taken T ≡ t → waiting T ≡ b ∷ c → Finds (content_given (take n (b ∷ c)))
  by_told true t b c told is some = absurd (never_some b c (sym some ∙ (s.sound.input.told o told).1))
  by_told false None b c untold is some = absurd (never_both (is_some (last_taken T)) (open_taken T o) (ap is_some is))
  by_told false (Some r) b c untold is some =
      subst (λ (w : List ℕ). Finds (content_given (take n w))) some
      (some_found r is untold (sym waits ∙ ap (λ (w : List ℕ). nat_lt 0 (length w)) some ∙ some_more (length c)))

  by_waiting : (w : List ℕ) → waiting T ≡ w → Finds (reading_by n w (has_whole_body T))
  by_waiting [] empty = by_whole (has_whole_body T) refl empty
  by_waiting (b ∷ c) some = by_told (is_end_told T) (last_taken T) b c refl refl some

  pub finds : Finds (reading_in n T)
  finds = by_waiting (waiting T) refl

-- ---- a read

-- what a reply hands over of a buffer that begins with it
handed_by : (found : Reading) (into : List ℕ) → take (length (reading_reply found).got) into ≡ (reading_reply found).got → replied_in (reading_reply found).reply into ≡ reading_reply found
handed_by (content_given content) into front = ap (λ (c : List ℕ). record { reply = reply.Got (length content); got = c }) front
handed_by end_read into front = refl
handed_by nothing_read into front = refl

handed : (n : ℕ) (T : Trace) (into : List ℕ) → take (length (reading_reply (reading_in n T)).got) into ≡ (reading_reply (reading_in n T)).got
    → replied_in (reading_reply (reading_in n T)).reply into ≡ reading_reply (reading_in n T)
handed n T into front = handed_by (reading_in n T) into front

pub read_moment : (limits : Limits) (n : ℕ) (l : LineParts) → (line_read limits n l).moment ≡ l.moment
read_moment limits n l =
    elim (is_some l.cause) as (λ v. (if v then l else if is_ready l.body then after_rest limits (read_line n l) else l).moment ≡ l.moment) [
      | true ↦ refl
      | false ↦ elim (is_ready l.body) as (λ v. (if v then after_rest limits (read_line n l) else l).moment ≡ l.moment) [
        | true ↦ rest_moment limits (read_line n l)
        | false ↦ refl
      ]
    ]

pub read_answers : (limits : Limits) (at n : ℕ) (b into : List ℕ) (T : Trace) (old moved new : LineParts) (p : ProcessorParts) (r : Reply) → p.stage ≡ stage.Serving → Serves T old p → moved ≡ at_moment at old → r ≡ read_reply n moved → take (length (read_content n moved)) into ≡ read_content n moved → new ≡ line_read limits n moved
    → Answers T (callback_reply limits T (act.Read n)) (rested_callback limits new.moment T (act.Read n) b) (replied_in r into) new p
read_answers limits at n b into T old moved new p r at_stage s later replied front parts = by_cause (cause_of T) refl
  where
    line : Represents T moved
    line = moved_stands at T old moved s.line later

    open_stage : is_open_at p.stage ≡ true
    open_stage = ap is_open_at at_stage

    here : IsOpenBy (request_folds T) true
    here = serving_request (request_folds T) p at_stage (stands_request T p open_stage s.processor)

    by_cause : (c : Option CloseCause) → cause_of T ≡ c → Answers T (callback_reply limits T (act.Read n)) (rested_callback limits new.moment T (act.Read n) b) (replied_in r into) new p
    by_cause (Some k) has =
        let its : is_some moved.cause ≡ true = ap (λ (l : LineParts). is_some l.cause) line.same ∙ ap is_some has in
        let same : new ≡ moved = parts ∙ ap (λ (v : Bool). if v then moved else if is_ready moved.body then after_rest limits (read_line n moved) else moved) its in
        let closed : r ≡ reply.Closed = replied ∙ ap (λ (v : Bool). if v then reply.Closed else reply_of_read n moved.body moved.unread) its in
        subst (λ (x : Reply). Answers T (callback_reply limits T (act.Read n)) (rested_callback limits new.moment T (act.Read n) b) (replied_in x into) new p) (sym closed)
        (closed_act limits at T old new p (act.Read n) b into at_stage refl (ap (λ (l : LineParts). is_some l.cause) same ∙ its) s (same ∙ later))
    by_cause None none =
        let m = moved.moment in
        let found = finds limits n T m p open_stage s.processor (subst (Represents T) line.same line) here.is_open none in
        let runs : running T ≡ Some (job.Service (part_of T)) = here.runs in
        let its = line.same in
        let reply_so : r ≡ (reading_reply (reading_in n T)).reply = replied ∙ ap (read_reply n) its ∙ found.reply in
        let content_so : read_content n moved ≡ (reading_reply (reading_in n T)).got = ap (read_content n) its ∙ found.content in
        let line_so : new ≡ line_read limits n (line_parts m T) = parts ∙ ap (line_read limits n) its in
        let moment : new.moment ≡ m = ap (λ (k : LineParts). k.moment) parts ∙ read_moment limits n moved in
        let wanted : callback_reply limits T (act.Read n) ≡ reading_reply (reading_in n T) =
        ap (λ (j : Option Job). if is_some j then act_reply limits T (act.Read n) else plain reply.NotActive) runs
        ∙ ap (λ (c : Option CloseCause). if is_some c then plain reply.Closed else reading_reply (reading_in n T)) none in
        let trace : rested_callback limits new.moment T (act.Read n) b ≡ rested_act limits m T (reading_marks (reading_in n T)) =
        ap (λ (t : ℕ). rested_callback limits t T (act.Read n) b) moment
        ∙ ap (λ (j : Option Job). if is_some j then rested_act limits m T (act_marks limits T (act.Read n) b) else T) runs
        ∙ ap (λ (c : Option CloseCause). rested_act limits m T (if is_some c then None else reading_marks (reading_in n T))) none in
        record {
          reply = ap (λ (x : Reply). replied_in x into) reply_so
              ∙ handed n T into (sym (ap (λ (c : List ℕ). take (length c) into) content_so) ∙ front ∙ content_so)
              ∙ sym wanted;
          after = subst (λ (R : Trace). ServesAfter T R new p) (sym trace)
              (subst (λ (l : LineParts). ServesAfter T (rested_act limits m T (reading_marks (reading_in n T))) l p) (sym line_so) found.after);
        }

-- ---- a read into the first n bytes of a buffer

-- so much is given at most
pub content_fits : (n : ℕ) (l : LineParts) → length (read_content n l) ≤ n
content_fits n l =
    let i = l.body in
    let g : IsGiven i.max_trailer (min n (waits_in i)) i.taken (take (ahead i) l.unread) = given_is i.max_trailer (min n (waits_in i)) i.taken (take (ahead i) l.unread) in
    let few : length (piece n i l.unread).content ≤ n =
    omega (arith, ap length g.content, length-take (min n (waits_in i)) (content_in i.max_trailer i.taken (take (ahead i) l.unread))) in
    elim (is_some l.cause) as (λ v. length (if v then [] else content_read n i l.unread) ≤ n) [
      | true ↦ omega arith
      | false ↦ elim (has_content i) as (λ v. length (if v then (piece n i l.unread).content else []) ≤ n) [ true ↦ few | false ↦ omega arith ]
    ]

-- what stands in it then begins with the content
front_is : (content into : List ℕ) (n : ℕ) → take (length content) ((content ++ drop (length content) (take n into)) ++ drop n into) ≡ content
front_is content into n =
    ap (take (length content)) (append_assoc content (drop (length content) (take n into)) (drop n into))
    ∙ take-append_seam content (drop (length content) (take n into) ++ drop n into)

-- and goes on as before
rest_is : (content into : List ℕ) (n : ℕ) → length content ≤ n → n ≤ length into
    → drop (length content) ((content ++ drop (length content) (take n into)) ++ drop n into) ≡ drop (length content) into
rest_is content into n few within =
    ap (drop (length content)) (append_assoc content (drop (length content) (take n into)) (drop n into))
    ∙ drop-append_seam content (drop (length content) (take n into) ++ drop n into)
    ∙ sym (drop-append-le (length content) (take n into) (drop n into) (omega (arith, few, length-take-le n into within)))
    ∙ ap (drop (length content)) (take-append-drop n into)

gives_by : (v w x : Bool) (c into new : List ℕ) → (let content = if v then [] else if w then c else [] in drop (length content) new ≡ drop (length content) into)
    → GivesInto (if v then reply.Closed else if w then reply.Got (length (if w then c else [])) else if x then reply.GotEnd else reply.Again) into new
gives_by true w x c into new same = same
gives_by false true x c into new same = same
gives_by false false true c into new same = same
gives_by false false false c into new same = same

-- the buffer, where its first n bytes were read into
module _ (n : ℕ) (into front : List ℕ) (l : LineParts) (within : n ≤ length into) (is : front ≡ read_into l (take n into)) where
  asked : length (take n into) ≡ n
  asked = length-take-le n into within

  buffer_is : front ++ drop n into ≡ (read_content n l ++ drop (length (read_content n l)) (take n into)) ++ drop n into
  buffer_is = ap (λ (x : List ℕ). x ++ drop n into) is ∙ ap (λ (k : ℕ). (read_content k l ++ drop (length (read_content k l)) (take n into)) ++ drop n into) asked

  pub begins : take (length (read_content n l)) (front ++ drop n into) ≡ read_content n l
  begins = ap (take (length (read_content n l))) buffer_is ∙ front_is (read_content n l) into n

  pub gives_into : (r : Reply) → r ≡ read_reply (length (take n into)) l → GivesInto r into (front ++ drop n into)
  gives_into r replied =
      subst (λ (x : Reply). GivesInto x into (front ++ drop n into)) (sym (replied ∙ ap (λ (k : ℕ). read_reply k l) asked))
      (gives_by (is_some l.cause) (has_content l.body) (is_whole l.body.scanned.stage) (piece n l.body l.unread).content into (front ++ drop n into)
      (ap (drop (length (read_content n l))) buffer_is ∙ rest_is (read_content n l) into n (content_fits n l) within))

pub read_buffer : (at n : ℕ) (b into front : List ℕ) (T : Trace) (old moved new : LineParts) (p q : ProcessorParts) (r : Reply) → p.stage ≡ stage.Serving → n ≤ length into → Serves T old p → moved ≡ at_moment at old
    → r ≡ read_reply (length (take n into)) moved → front ≡ read_into moved (take n into) → new ≡ line_read p.limits (length (take n into)) moved → q ≡ p
    → Answers T (callback_reply q.limits T (act.Read n)) (rested_callback q.limits new.moment T (act.Read n) b) (replied_in r (front ++ drop n into)) new q
read_buffer at n b into front T old moved new p q r at_stage within s later replied given_front parts same =
    let asked : length (take n into) ≡ n = length-take-le n into within in
    subst (λ (x : ProcessorParts). Answers T (callback_reply x.limits T (act.Read n)) (rested_callback x.limits new.moment T (act.Read n) b) (replied_in r (front ++ drop n into)) new x) (sym same)
    (read_answers p.limits at n b (front ++ drop n into) T old moved new p r at_stage s later
    (replied ∙ ap (λ (k : ℕ). read_reply k moved) asked) (begins n into front moved within given_front) (parts ∙ ap (λ (k : ℕ). line_read p.limits k moved) asked))

-- ---- what a read leaves

pub read_open : (limits : Limits) (n : ℕ) (l : LineParts) → (line_read limits n l).is_open ≡ l.is_open
read_open limits n l =
    elim (is_some l.cause) as (λ v. (if v then l else if is_ready l.body then after_rest limits (read_line n l) else l).is_open ≡ l.is_open) [
      | true ↦ refl
      | false ↦ elim (is_ready l.body) as (λ v. (if v then after_rest limits (read_line n l) else l).is_open ≡ l.is_open) [
        | true ↦ rest_open limits (read_line n l)
        | false ↦ refl
      ]
    ]
  where
    rest_open : (limits : Limits) (k : LineParts) → (after_rest limits k).is_open ≡ k.is_open
    rest_open limits k =
        elim (is_none k.cause) as (λ v. (if v then record k { cause = cause_at_rest limits k } else k).is_open ≡ k.is_open) [ true ↦ refl | false ↦ refl ]

pub read_work : (limits : Limits) (n : ℕ) (l : LineParts) → work_of (line_read limits n l) ≤ work_of l
read_work limits n l =
    elim (is_some l.cause) as (λ v. work_of (if v then l else if is_ready l.body then after_rest limits (read_line n l) else l) ≤ work_of l) [
      | true ↦ omega arith
      | false ↦ elim (is_ready l.body) as (λ v. work_of (if v then after_rest limits (read_line n l) else l) ≤ work_of l) [
        | true ↦ omega (arith, work_after_rest limits (read_line n l), length-drop (taken_by l.body (after_read n l.body l.unread)) l.unread)
        | false ↦ omega arith
      ]
    ]
