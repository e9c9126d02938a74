-- Whatever is called, one answer is written: what is cut of it is out, and a client reads the content that was put.
use Rattle.std.proofs.Common.{◌≡◌, ℕ, ◌+◌, ◌≤◌, Bool, true, false, List, [], ◌∷◌, ◌++◌, length, Option, None, Some, refl, sym, ap, subst, ◌∙◌, arith, append_assoc, append-nil}
use Rattle.std.specs.Prelude.{not, ◌||◌, ◌==◌, nat_lt, if◌then◌else◌, option_map, unwrap_or}
use Rattle.std.specs.List.{flat_map}
use Rattle.std.proofs.lemmas.Bool.Decides.{nat_tests}
use Rattle.std.proofs.lemmas.List.{append_cancel_right}
use Rattle.std.proofs.lemmas.List.Concat.{flat_map-append}
use Rattle.cy_event.specs.Answers.{content_buffer}
use Rattle.cy_event.specs.AnswerModes.{Asked, counted, head_of_shape, last_text, mode_of, piece_text, shape_of, void}
use Rattle.cy_event.specs.Answering.{Sending, is_short, with_length}
use Rattle.cy_event.specs.declared.steps.Reply.TheVariants as reply
use Rattle.cy_respond.specs.Fields.{is_status}
use Rattle.cy_out.specs.Calls.{Call, Change, UnderWay, aborts, acted, adds_header, after_call, after_calls, begun, changed, changes, does, puts_error, resets, sending, sets_close, sets_length, sets_status, with_sending}
use Rattle.cy_out.specs.Exchanges.{Act, finished, is_out, marks_by, written}
use Rattle.cy_event.specs.AnswerBytes.{answer_bytes, known_length}
use Rattle.cy_out.specs.Laws.{AbortedGainsNothing, AllCallsAreRead, AllCallsGoByTheLength, AllCallsMakeOneAnswer, AllCallsWriteWhatIsCut, IsOneAnswer, bytes_under_way, is_above, is_below, length_under_way, so_far_under_way}
use Rattle.cy_event.specs.Pieces.{PutOrFlush, content_put, cut_pieces, is_cut_early, pieces_behind, run_pieces}
use Rattle.cy_out.proofs.ClientReading.{known_alike, known_is, pieces_are_read, says_size}
use Rattle.cy_out.proofs.ContentSent.{finish_sends}
use Rattle.cy_out.proofs.CutsSoFar.{act_leaves_rest, all_pieces, few_wait, uncut}
use Rattle.cy_out.proofs.LawLemmas.{finish_adds_none}
use Rattle.cy_out.proofs.MarkLemmas.{one_run}
use Rattle.cy_out.proofs.PieceLemmas.{pieces_are_the_content, pieces_have_bytes}
use Rattle.cy_out.proofs.WholeAnswers.{answers_are_whole, is_in}
use Rattle.cy_out.proofs.AnswerCourses.{Course, IsLeft, Out, Stays, Unsent, abort_changes_nothing, abort_stays, call_stays, early_bytes, error_in_place, error_is_short, out_is_out, void_is_out, unsent, out, given_up}
use Rattle.cy_out.proofs.CallCourses.{call_course, calls_course, kept_marks, unsent_left}

-- ---- after an abort

calls_stay : (text : List ℕ) (calls : List Call) (u : UnderWay) → Stays text u → Stays text (after_calls calls u)
calls_stay text [] u v = v
calls_stay text (call ∷ calls) u v = calls_stay text calls (after_call call u) (call_stays text call u v)

finish_stays : (text : List ℕ) (at : ℕ) (u : UnderWay) → Stays text u → written (finished u.head at u.exchange) ≡ text
finish_stays text at u v = finish_adds_none u.head at v.closing u.exchange.received text u.exchange.answering v.void

pub aborted_gains_nothing : AbortedGainsNothing
aborted_gains_nothing calls at u outside =
    let text = written u.exchange in
    let first = after_call aborts u in
    finish_stays text at (after_calls calls first) (calls_stay text calls first (abort_stays u outside))

-- ---- the end

unsent_whole : (before : List ℕ) (at : ℕ) (u : UnderWay) → Unsent before u → written (finished u.head at u.exchange) ≡ before ++ bytes_under_way at u
unsent_whole before at u w =
    let s = sending u in
    let none = append-nil s.waiting in
    let early : is_cut_early s.waiting [] ≡ is_cut_early [] u.marks
    = (λ i. sym w.unflushed i || nat_lt content_buffer (length ((none ∙ w.content) i))) in
    let pieces : pieces_behind s.waiting [] ≡ pieces_behind [] u.marks
    = ap (λ (run : List ℕ). pieces_behind run []) w.content ∙ sym (one_run [] u.marks [] w.unflushed) ∙ ap (pieces_behind []) (append-nil u.marks) in
    answers_are_whole u.head [] at u.exchange w.commit w.few
    ∙ (λ i. w.stands i ++ answer_bytes u.head s.asked (known_length (early i) (w.set_length i) (length ((none ∙ w.content) i)))
    (unwrap_or (sym w.moment i) at) (pieces i))

out_whole : (before : List ℕ) (at : ℕ) (u : UnderWay) → Out before u → written (finished u.head at u.exchange) ≡ before ++ bytes_under_way at u
out_whole before at u o =
    let mode = mode_of (sending u).asked u.head.status u.set_length in
    let headed = before ++ head_of_shape u.head (shape_of (sending u).asked u.head.status u.set_length) o.put_at in
    let pieces = flat_map (piece_text mode) (pieces_behind [] (u.marks ++ [])) in
    let p = o.promises [] in
    finish_sends u.head at mode p.0 u.exchange.received (headed ++ pieces) u.exchange.answering p.1
    ∙ append_assoc headed pieces (last_text mode)
    ∙ early_bytes before at u o

one_answer : (before : List ℕ) (at : ℕ) (u : UnderWay) → Course before u → IsOneAnswer before at u
one_answer before at u (unsent w) =
    let all = unsent_whole before at u w in
    record { unsent = λ inside. w.stands; whole = λ kept. all; rest = []; front = append-nil (written (finished u.head at u.exchange)) ∙ all }
one_answer before at u (out o) =
    let all = out_whole before at u o in
    record {
      unsent = λ inside. let never : true ≡ false = sym (out_is_out before u o) ∙ inside in cc;
      whole = λ kept. all;
      rest = [];
      front = append-nil (written (finished u.head at u.exchange)) ∙ all;
    }
one_answer before at u (given_up g) =
    record {
      unsent = λ inside. let never : true ≡ false = sym (void_is_out g.text u g.stays) ∙ inside in cc;
      whole = λ kept. let never : true ≡ false = sym g.kept ∙ kept in cc;
      rest = g.rest;
      front = ap (λ (xs : List ℕ). xs ++ g.rest) (finish_stays g.text at u g.stays) ∙ g.front at;
    }

pub begins : (asked : Asked) (received output : List ℕ) → Course (received ++ output) (begun asked received output)
begins asked received output =
    unsent (record { commit = refl; kept = refl; moment = refl; set_length = refl; content = refl; few = omega arith; unflushed = refl; stands = refl })

pub all_calls_make_one_answer : AllCallsMakeOneAnswer
all_calls_make_one_answer asked received output calls at =
    let u = begun asked received output in
    let before = received ++ output in
    one_answer before at (after_calls calls u) (calls_course before calls u (begins asked received output))

-- ---- the length that was set

above_is : (left set_length : Option ℕ) (there size : ℕ) → set_length ≡ option_map (λ n. n + there) left
    → elim left [ None ↦ false | Some l ↦ nat_lt l size ] ≡ is_above set_length (there + size)
above_is None set_length there size is = ap (λ (s : Option ℕ). is_above s (there + size)) (sym is)
above_is (Some l) set_length there size is = same_test ∙ ap (λ (s : Option ℕ). is_above s (there + size)) (sym is)
  where
    same_test : nat_lt l size ≡ nat_lt (l + there) (there + size)
    same_test = elim (nat_lt l size) as (λ v. nat_lt l size ≡ v → v ≡ nat_lt (l + there) (there + size)) [
      | true ↦ λ less. let h : nat_lt (l + there) (there + size) ≡ true = grind (arith, nat_tests) in sym h
      | false ↦ λ enough. let h : nat_lt (l + there) (there + size) ≡ false = grind (arith, nat_tests) in sym h
    ] refl

below_is : (left set_length : Option ℕ) (there : ℕ) → set_length ≡ option_map (λ n. n + there) left → is_short counted left ≡ is_below set_length there
below_is None set_length there is = ap (λ (s : Option ℕ). is_below s there) (sym is)
below_is (Some l) set_length there is = same_test ∙ ap (λ (s : Option ℕ). is_below s there) (sym is)
  where
    same_test : not (l == 0) ≡ nat_lt there (l + there)
    same_test = elim (l == 0) as (λ v. (l == 0) ≡ v → not v ≡ nat_lt there (l + there)) [
      | true ↦ λ none. let h : nat_lt there (l + there) ≡ false = grind (arith, nat_tests) in sym h
      | false ↦ λ some. let h : nat_lt there (l + there) ≡ true = grind (arith, nat_tests) in sym h
    ] refl

none_left : (left : Option ℕ) → is_short counted left ≡ false → unwrap_or left 0 ≡ 0
none_left None whole = refl
none_left (Some l) whole = is_none_left l whole
  where
    is_none_left : (l : ℕ) → not (l == 0) ≡ false → l ≡ 0
    is_none_left l whole = grind (arith, nat_tests)

void_is_whole : (left : Option ℕ) → is_short void left ≡ false
void_is_whole None = refl
void_is_whole (Some l) = refl

-- ---- what a client reads

course_left : (before : List ℕ) (u : UnderWay) → u.is_given_up ≡ false → Course before u → IsLeft u
course_left before u kept (unsent w) = unsent_left before u w
course_left before u kept (out o) = o.left
course_left before u kept (given_up g) = let never : true ≡ false = sym g.kept ∙ kept in cc

pub all_calls_are_read : AllCallsAreRead
all_calls_are_read asked received output calls at kept enough =
    let u = after_calls calls (begun asked received output) in
    let size = length (content_put u.marks) in
    let left = (sending u).left in
    let known = length_under_way u in
    let is = course_left (received ++ output) u kept (calls_course (received ++ output) calls (begun asked received output) (begins asked received output)) in
    let none = none_left left (below_is left u.set_length size is ∙ enough) in
    let knows = known_alike known u.set_length (option_map (λ m. m + size) left) size size is refl (known_is (is_cut_early [] u.marks) u.set_length size) in
    pieces_are_read u.head (sending u).asked known (unwrap_or u.moment at) (pieces_behind [] u.marks) (content_put u.marks)
    (pieces_have_bytes [] u.marks) (pieces_are_the_content [] u.marks) (λ n says. says_size left size n known none knows says)

-- ---- all calls go by the length

-- all content waits where the head isn't out
course_waits : (before : List ℕ) (u : UnderWay) → is_out u.exchange ≡ false → Course before u → length (sending u).waiting ≡ length (content_put u.marks)
course_waits before u inside (unsent w) = ap length w.content
course_waits before u inside (out o) = let never : true ≡ false = sym (out_is_out before u o) ∙ inside in cc
course_waits before u inside (given_up g) = let never : true ≡ false = sym (void_is_out g.text u g.stays) ∙ inside in cc

pub all_calls_go_by_the_length : AllCallsGoByTheLength
all_calls_go_by_the_length asked received output calls kept =
    let u = after_calls calls (begun asked received output) in
    let there = length (content_put u.marks) in
    let course = calls_course (received ++ output) calls (begun asked received output) (begins asked received output) in
    let is = course_left (received ++ output) u kept course in
    record {
      writes = λ size. above_is (sending u).left u.set_length there size is;
      lengths = λ inside n. ap (λ (m : ℕ). if nat_lt n m then reply.BadValue else reply.Done) (course_waits (received ++ output) u inside course);
      counted_end = below_is (sending u).left u.set_length there is;
      void_end = void_is_whole (sending u).left;
    }

-- ---- what is written already

-- What waits is what no cut has sent, and so it is with what happens then.
record IsUncut (u : UnderWay) : Type 0 where
  few : length (sending u).waiting ≤ content_buffer
  waits : (more : List PutOrFlush) → uncut (sending u).waiting more ≡ uncut [] (u.marks ++ more)

change_uncut : (change : Change) (u : UnderWay) → IsUncut u → IsUncut (changed change u)
change_uncut (sets_status status) u s = record { few = s.few; waits = s.waits }
change_uncut (adds_header field) u s = record { few = s.few; waits = s.waits }
change_uncut (sets_length n) u s =
    elim (nat_lt n (length (sending u).waiting)) as (λ v.
    IsUncut (record (with_sending (if v then sending u else with_length n (sending u)) u) {
      set_length = if nat_lt n (length (content_put u.marks)) then u.set_length else Some n;
    })) [
      | true ↦ record { few = s.few; waits = s.waits }
      | false ↦ record { few = s.few; waits = s.waits }
    ]
change_uncut resets u s = record { few = omega arith; waits = λ more. refl }
change_uncut (puts_error status) u s =
    elim (is_status status) as (λ v. is_status status ≡ v → IsUncut (if v then error_in_place status u else u)) [
      | true ↦ λ known. record { few = error_is_short status known; waits = λ more. refl }
      | false ↦ λ unknown. s
    ] refl

act_uncut : (act : Act) (u : UnderWay) → u.is_given_up ≡ false → IsUncut u → IsUncut (acted act u)
act_uncut act u kept s =
    let x = u.exchange in
    let now = marks_by u.head act x in
    let after = λ (more : List PutOrFlush). act_leaves_rest u.head act more (uncut [] (u.marks ++ (now ++ more))) x (record { few = s.few; waits = s.waits (now ++ more) }) in
    record {
      few = (after []).few;
      waits = λ more. (after more).waits
          ∙ ap (uncut []) (sym (append_assoc u.marks now more))
          ∙ ap (λ (ms : List PutOrFlush). uncut [] (ms ++ more)) (sym (kept_marks u.is_given_up u.marks now kept));
    }

close_uncut : (u : UnderWay) → IsUncut u → IsUncut (after_call sets_close u)
close_uncut u s =
    let t = sending u in
    elim t.commit as (λ c. let closed : Sending = elim c [
      | None ↦ record t { asked = record { minor = t.asked.minor; is_head = t.asked.is_head; keep = false } }
      | Some k ↦ t
    ] in IsUncut (with_sending closed u)) [
      | None ↦ record { few = s.few; waits = s.waits }
      | Some k ↦ s
    ]

change_keeps_given : (change : Change) (u : UnderWay) → (changed change u).is_given_up ≡ u.is_given_up
change_keeps_given (sets_status status) u = refl
change_keeps_given (adds_header field) u = refl
change_keeps_given (sets_length n) u = refl
change_keeps_given resets u = refl
change_keeps_given (puts_error status) u =
    elim (is_status status) as (λ v. let w : UnderWay = if v then error_in_place status u else u in w.is_given_up ≡ u.is_given_up) [
      | true ↦ refl
      | false ↦ refl
    ]

abort_uncut : (before : List ℕ) (u : UnderWay) → Unsent before u → IsUncut u → IsUncut (after_call aborts u)
abort_uncut before u w s =
    subst (λ (t : Sending). IsUncut (record (with_sending t u) { is_given_up = is_out u.exchange })) (abort_changes_nothing (sending u) w.commit)
    (record { few = s.few; waits = s.waits })

abort_is_uncut : (before : List ℕ) (u : UnderWay) → Course before u → (u.is_given_up ≡ false → IsUncut u) → is_out u.exchange ≡ false → IsUncut (after_call aborts u)
abort_is_uncut before u (unsent w) s inside = abort_uncut before u w (s w.kept)
abort_is_uncut before u (out o) s inside = let never : true ≡ false = sym (out_is_out before u o) ∙ inside in cc
abort_is_uncut before u (given_up g) s inside = let never : true ≡ false = sym (void_is_out g.text u g.stays) ∙ inside in cc

call_uncut : (before : List ℕ) (call : Call) (u : UnderWay) → Course before u → (u.is_given_up ≡ false → IsUncut u)
    → (after_call call u).is_given_up ≡ false → IsUncut (after_call call u)
call_uncut before (changes change) u course s =
    elim (is_out u.exchange) as (λ v. let w : UnderWay = if v then u else changed change u in w.is_given_up ≡ false → IsUncut w) [
      | true ↦ s
      | false ↦ λ kept. change_uncut change u (s (sym (change_keeps_given change u) ∙ kept))
    ]
call_uncut before sets_close u course s = λ kept. close_uncut u (s kept)
call_uncut before aborts u course s = abort_is_uncut before u course s
call_uncut before (does act) u course s = λ kept. act_uncut act u kept (s kept)

calls_uncut : (before : List ℕ) (calls : List Call) (u : UnderWay) → Course before u → (u.is_given_up ≡ false → IsUncut u)
    → (after_calls calls u).is_given_up ≡ false → IsUncut (after_calls calls u)
calls_uncut before [] u course s = s
calls_uncut before (call ∷ calls) u course s =
    calls_uncut before calls (after_call call u) (call_course before call u course) (call_uncut before call u course s)

-- the head, and the pieces that were cut
out_so_far : (before : List ℕ) (at : ℕ) (u : UnderWay) → Out before u → IsUncut u → written u.exchange ≡ before ++ so_far_under_way at u
out_so_far before at u o s =
    let asked = (sending u).asked in
    let mode = mode_of asked u.head.status u.set_length in
    let head = head_of_shape u.head (shape_of asked u.head.status u.set_length) o.put_at in
    let waiting = (sending u).waiting in
    let cut_text = flat_map (piece_text mode) (cut_pieces [] u.marks) in
    let rest = flat_map (piece_text mode) (run_pieces waiting) in
    let all = append-nil u.marks in
    let here : uncut [] u.marks ≡ waiting = ap (uncut []) (sym all) ∙ sym (s.waits []) ∙ few_wait waiting s.few in
    let pieces : pieces_behind [] (u.marks ++ []) ≡ cut_pieces [] u.marks ++ run_pieces waiting
    = ap (pieces_behind []) all ∙ all_pieces [] u.marks ∙ ap (λ (xs : List ℕ). cut_pieces [] u.marks ++ run_pieces xs) here in
    let whole : written u.exchange ++ rest ≡ ((before ++ head) ++ cut_text) ++ rest
    = (o.promises []).1.all
    ∙ ap (λ (ps : List (List ℕ)). (before ++ head) ++ flat_map (piece_text mode) ps) pieces
    ∙ ap (λ (xs : List ℕ). (before ++ head) ++ xs) (flat_map-append (piece_text mode) (cut_pieces [] u.marks) (run_pieces waiting))
    ∙ sym (append_assoc (before ++ head) cut_text rest) in
    let set : u.set_length ≡ length_under_way u = sym (ap (λ (t : Bool). known_length t u.set_length (length (content_put u.marks))) o.early) in
    let put_then : o.put_at ≡ unwrap_or u.moment at = sym (ap (λ (m : Option ℕ). unwrap_or m at) o.moment) in
    append_cancel_right (written u.exchange) ((before ++ head) ++ cut_text) rest whole
    ∙ append_assoc before head cut_text
    ∙ (λ i. before ++ (head_of_shape u.head (shape_of asked u.head.status (set i)) (put_then i)
    ++ flat_map (piece_text (mode_of asked u.head.status (set i))) (cut_pieces [] u.marks)))

course_so_far : (before : List ℕ) (at : ℕ) (u : UnderWay) → is_out u.exchange ≡ true → u.is_given_up ≡ false → Course before u → IsUncut u
    → written u.exchange ≡ before ++ so_far_under_way at u
course_so_far before at u outside kept (unsent w) s = let never : true ≡ false = sym outside ∙ is_in u.exchange w.commit in cc
course_so_far before at u outside kept (out o) s = out_so_far before at u o s
course_so_far before at u outside kept (given_up g) s = let never : true ≡ false = sym g.kept ∙ kept in cc

pub all_calls_write_what_is_cut : AllCallsWriteWhatIsCut
all_calls_write_what_is_cut asked received output calls at outside kept =
    let first = begun asked received output in
    let before = received ++ output in
    let course = begins asked received output in
    course_so_far before at (after_calls calls first) outside kept (calls_course before calls first course)
    (calls_uncut before calls first course (λ fresh. record { few = omega arith; waits = λ more. refl }) kept)
