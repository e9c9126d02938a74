-- Where an answer stands after an act, and after any calls.
use Rattle.std.proofs.Common.{◌≡◌, ℕ, ◌+◌, ◌≤◌, Bool, true, false, List, [], ◌∷◌, ◌++◌, length, Option, None, Some, refl, sym, ap, subst, ◌∙◌, arith, append_assoc, append-nil, length-append}
use Rattle.std.specs.Prelude.{◌||◌, nat_lt, if◌then◌else◌, option_map, unwrap_or}
use Rattle.std.specs.List.{list_any}
use Rattle.std.proofs.lemmas.Bool.Decides.{nat_tests}
use Rattle.cy_event.specs.Answers.{content_buffer}
use Rattle.cy_event.specs.AnswerModes.{void}
use Rattle.cy_event.specs.Answering.{set_length_of}
use Rattle.cy_out.specs.Calls.{Call, UnderWay, aborts, acted, after_call, after_calls, changed, changes, does, sending, sets_close}
use Rattle.cy_out.specs.Exchanges.{Act, after_act, flushes, is_out, marks_by, moment_of, receives, writes, written}
use Rattle.cy_event.specs.AnswerBytes.{answer_bytes, known_length}
use Rattle.cy_event.specs.Pieces.{PutOrFlush, content_put, is_cut_early, is_flush, pieces_behind}
use Rattle.cy_out.proofs.ClientReading.{act_leaves, more_by_both}
use Rattle.cy_out.proofs.ContentSent.{act_sends}
use Rattle.cy_out.proofs.MarkLemmas.{act_keeps_asked, content_of_both, early_stays, flushes_in_both, one_run}
use Rattle.cy_out.proofs.WholeAnswers.{Coming, began, has_gone, is_in, start_of, starts, waiting_act, waits}
use Rattle.cy_out.proofs.AnswerCourses.{Course, GivenUp, IsLeft, Out, Promises, Settled, Unsent, abort_again, abort_out, abort_unsent, call_stays, change_kept, close_kept, close_late, head_then_pieces, mode_by, out_is_out, refused, settled_of, void_is_out, unsent, out, given_up}

-- ---- acts

-- marks that are kept, since the answer isn't given up
pub kept_marks : (given : Bool) (marks now : List PutOrFlush) → given ≡ false → (if given then marks else marks ++ now) ≡ marks ++ now
kept_marks given marks now kept = ap (λ (t : Bool). if t then marks else marks ++ now) kept

pub unsent_left : (before : List ℕ) (u : UnderWay) → Unsent before u → IsLeft u
unsent_left before u w = sym w.set_length ∙ ap (λ (xs : List ℕ). option_map (λ n. n + length xs) (sending u).left) w.content

left_after : (act : Act) (u : UnderWay) → u.is_given_up ≡ false → IsLeft u → IsLeft (acted act u)
left_after act u kept is =
    let now = marks_by u.head act u.exchange in
    let left = (after_act u.head act u.exchange).answering.sending.left in
    let put_before = length (content_put u.marks) in
    let put_now = length (content_put now) in
    let size : put_before + put_now ≡ length (content_put (acted act u).marks)
    = sym (ap (λ (ms : List PutOrFlush). length (content_put ms)) (kept_marks u.is_given_up u.marks now kept)
    ∙ ap length (content_of_both u.marks now)
    ∙ length-append (content_put u.marks) (content_put now)) in
    is
    ∙ ap (option_map (λ n. n + put_before)) (sym (act_leaves u.head act u.exchange))
    ∙ more_by_both left put_before put_now
    ∙ ap (λ (k : ℕ). option_map (λ n. n + k) left) size

pub moment_inside : (is : Bool) (moment next : Option ℕ) → is ≡ false → (if is then moment else next) ≡ next
moment_inside is moment next inside = ap (λ (t : Bool). if t then moment else next) inside

pub moment_outside : (is : Bool) (moment next : Option ℕ) → is ≡ true → (if is then moment else next) ≡ moment
moment_outside is moment next outside = ap (λ (t : Bool). if t then moment else next) outside

not_early : (waiting : List ℕ) → length waiting ≤ content_buffer → is_cut_early waiting [] ≡ false
not_early waiting few =
    ap (λ (xs : List ℕ). nat_lt content_buffer (length xs)) (append-nil waiting) ∙ not_long waiting few
  where
    not_long : (xs : List ℕ) → length xs ≤ content_buffer → nat_lt content_buffer (length xs) ≡ false
    not_long xs few = grind (arith, nat_tests)

no_flush : (a b : Bool) → a || b ≡ false → a ≡ false
no_flush true b is = cc
no_flush false b is = refl

none_of_both : (marks now : List PutOrFlush) → list_any is_flush marks ≡ false → list_any is_flush (now ++ []) ≡ false → list_any is_flush (marks ++ now) ≡ false
none_of_both marks now before here =
    flushes_in_both marks now
    ∙ (λ i. before i || list_any is_flush (sym (append-nil now) i))
    ∙ here

act_inside : (before : List ℕ) (act : Act) (u : UnderWay) → Unsent before u → is_out (after_act u.head act u.exchange) ≡ false → Unsent before (acted act u)
act_inside before act u w inside =
    let x = u.exchange in
    let next = after_act u.head act x in
    let now = marks_by u.head act x in
    elim (waiting_act u.head act (start_of x (now ++ [])) 0 [] x (starts x (now ++ []) w.commit w.few)) as (λ _. Unsent before (acted act u)) [
      | waits v ↦ let early = sym (ap (λ (c : Coming). c.early) v.coming) ∙ not_early next.answering.sending.waiting v.few in
          let marks = kept_marks u.is_given_up u.marks now w.kept in
          record {
            commit = v.commit;
            kept = w.kept;
            moment = moment_inside (is_out x) u.moment (if is_out next then moment_of act else None) (is_in x w.commit)
                ∙ moment_inside (is_out next) (moment_of act) None inside;
            set_length = v.set_length ∙ w.set_length;
            content = sym (append-nil next.answering.sending.waiting)
                ∙ ap (λ (c : Coming). c.content) v.coming
                ∙ (λ i. w.content i ++ content_put (append-nil now i))
                ∙ sym (content_of_both u.marks now)
                ∙ sym (ap content_put marks);
            few = v.few;
            unflushed = ap (list_any is_flush) marks
                ∙ none_of_both u.marks now w.unflushed
                (no_flush (list_any is_flush (now ++ [])) (nat_lt content_buffer (length ((sending u).waiting ++ content_put (now ++ [])))) early);
            stands = v.before ∙ w.stands;
          }
      | began early g ↦ let never : true ≡ false = sym (has_gone next (record { mode = _; closes = g.closing }) g.sends.commit) ∙ inside in cc
    ]

-- an act that puts the head has a moment
has_moment : (before : List ℕ) (act : Act) (u : UnderWay) → Unsent before u → is_out (after_act u.head act u.exchange) ≡ true
    → moment_of act ≡ Some (unwrap_or (moment_of act) 0)
has_moment before (writes bytes at) u w outside = refl
has_moment before (flushes at) u w outside = refl
has_moment before (receives n) u w outside = let never : true ≡ false = sym outside ∙ is_in u.exchange w.commit in cc

-- the promise of the act is that of the answer
act_promises : (before : List ℕ) (act : Act) (u : UnderWay) (more : List PutOrFlush) → Unsent before u → is_out (after_act u.head act u.exchange) ≡ true
    → Promises (acted act u) (unwrap_or (moment_of act) 0) more (settled_of before ((acted act u).marks ++ more) (acted act u))
act_promises before act u more w outside =
    let x = u.exchange in
    let next = after_act u.head act x in
    let now = marks_by u.head act x in
    let moment = unwrap_or (moment_of act) 0 in
    let marks = kept_marks u.is_given_up u.marks now w.kept in
    let asked = act_keeps_asked u.head act x in
    let pieces = ap (λ (run : List ℕ). pieces_behind run (now ++ more)) w.content
    ∙ sym (one_run [] u.marks (now ++ more) w.unflushed)
    ∙ ap (pieces_behind []) (sym (append_assoc u.marks now more))
    ∙ ap (λ (ms : List PutOrFlush). pieces_behind [] (ms ++ more)) (sym marks) in
    let here : Settled = record {
      asked = (sending u).asked;
      set_length = set_length_of (sending u);
      before = written x;
      pieces = pieces_behind (sending u).waiting (now ++ more);
    } in
    let same : here ≡ settled_of before ((acted act u).marks ++ more) (acted act u)
    = λ i. record { asked = sym asked i; set_length = w.set_length i; before = w.stands i; pieces = pieces i } in
    elim (waiting_act u.head act (start_of x (now ++ more)) 0 more x (starts x (now ++ more) w.commit w.few)) as (λ _.
    Promises (acted act u) moment more (settled_of before ((acted act u).marks ++ more) (acted act u))) [
      | waits v ↦ let never : true ≡ false = sym outside ∙ is_in next v.commit in cc
      | began early g ↦ subst (Promises (acted act u) moment more) same (g.closing, g.sends)
    ]

act_is_early : (before : List ℕ) (act : Act) (u : UnderWay) → Unsent before u → is_out (after_act u.head act u.exchange) ≡ true
    → is_cut_early [] (u.marks ++ marks_by u.head act u.exchange) ≡ true
act_is_early before act u w outside =
    let x = u.exchange in
    let next = after_act u.head act x in
    let now = marks_by u.head act x in
    elim (waiting_act u.head act (start_of x (now ++ [])) 0 [] x (starts x (now ++ []) w.commit w.few)) as (λ _. is_cut_early [] (u.marks ++ now) ≡ true) [
      | waits v ↦ let never : true ≡ false = sym outside ∙ is_in next v.commit in cc
      | began early g ↦ (λ i. flushes_in_both u.marks now i || nat_lt content_buffer (length (content_of_both u.marks now i)))
          ∙ (λ i. (w.unflushed i || list_any is_flush (sym (append-nil now) i)) || nat_lt content_buffer (length (sym w.content i ++ content_put (sym (append-nil now) i))))
          ∙ early
    ]

pub act_outside : (before : List ℕ) (act : Act) (u : UnderWay) → Unsent before u → is_out (after_act u.head act u.exchange) ≡ true
    → Out before (acted act u)
act_outside before act u w outside =
    let x = u.exchange in
    let next = after_act u.head act x in
    record {
      kept = w.kept;
      put_at = unwrap_or (moment_of act) 0;
      moment = moment_inside (is_out x) u.moment (if is_out next then moment_of act else None) (is_in x w.commit)
          ∙ moment_outside (is_out next) (moment_of act) None outside
          ∙ has_moment before act u w outside;
      early = ap (is_cut_early []) (kept_marks u.is_given_up u.marks (marks_by u.head act x) w.kept) ∙ act_is_early before act u w outside;
      left = left_after act u w.kept (unsent_left before u w);
      promises = λ more. act_promises before act u more w outside;
    }

act_unsent : (before : List ℕ) (act : Act) (u : UnderWay) → Unsent before u → Course before (acted act u)
act_unsent before act u w =
    elim (is_out (after_act u.head act u.exchange)) as (λ v. is_out (after_act u.head act u.exchange) ≡ v → Course before (acted act u)) [
      | true ↦ λ outside. out (act_outside before act u w outside)
      | false ↦ λ inside. unsent (act_inside before act u w inside)
    ] refl

act_out : (before : List ℕ) (act : Act) (u : UnderWay) → Out before u → Out before (acted act u)
act_out before act u o =
    let x = u.exchange in
    let next = after_act u.head act x in
    let now = marks_by u.head act x in
    let marks = kept_marks u.is_given_up u.marks now o.kept in
    record {
      kept = o.kept;
      put_at = o.put_at;
      moment = moment_outside (is_out x) u.moment (if is_out next then moment_of act else None) (out_is_out before u o) ∙ o.moment;
      early = ap (is_cut_early []) marks ∙ early_stays u.marks now o.early;
      left = left_after act u o.kept o.left;
      promises = λ more. let p = o.promises (now ++ more) in
          let s = settled_of before (u.marks ++ (now ++ more)) u in
          let pieces = ap (pieces_behind []) (sym (append_assoc u.marks now more) ∙ ap (λ (ms : List PutOrFlush). ms ++ more) (sym marks)) in
          let same : s ≡ settled_of before ((acted act u).marks ++ more) (acted act u)
          = λ i. record { asked = sym (act_keeps_asked u.head act x) i; set_length = u.set_length; before = before; pieces = pieces i } in
          subst (Promises (acted act u) o.put_at more) same
          (p.0, act_sends u.head act (mode_by u.head.status s) p.0 more (head_then_pieces u o.put_at s) x p.1);
    }

act_given_up : (before : List ℕ) (act : Act) (u : UnderWay) → GivenUp before u → GivenUp before (acted act u)
act_given_up before act u g =
    let x = u.exchange in
    let next = after_act u.head act x in
    let marks : u.marks ≡ (acted act u).marks = sym (ap (λ (t : Bool). if t then u.marks else u.marks ++ marks_by u.head act x) g.kept) in
    let moment : u.moment ≡ (acted act u).moment = sym (moment_outside (is_out x) u.moment (if is_out next then moment_of act else None) (void_is_out g.text u g.stays)) in
    let asked = act_keeps_asked u.head act x in
    record {
      kept = g.kept;
      text = g.text;
      stays = call_stays g.text (does act) u g.stays;
      rest = g.rest;
      front = λ at. g.front at ∙ (λ i. before ++ answer_bytes u.head (sym asked i)
          (known_length (is_cut_early [] (marks i)) u.set_length (length (content_put (marks i)))) (unwrap_or (moment i) at) (pieces_behind [] (marks i)));
    }

-- ---- all calls

pub call_course : (before : List ℕ) (call : Call) (u : UnderWay) → Course before u → Course before (after_call call u)
call_course before (changes change) u (unsent w) =
    subst (λ (t : Bool). Course before (if t then u else changed change u)) (sym (is_in u.exchange w.commit)) (unsent (change_kept before change u w))
call_course before (changes change) u (out o) = refused (Course before) change u (out_is_out before u o) (out o)
call_course before (changes change) u (given_up g) = refused (Course before) change u (void_is_out g.text u g.stays) (given_up g)
call_course before sets_close u (unsent w) = unsent (close_kept before u w)
call_course before sets_close u (out o) =
    let p = o.promises [] in
    close_late (Course before) u (record { mode = mode_by u.head.status (settled_of before (u.marks ++ []) u); closes = p.0 }) p.1.commit (out o)
call_course before sets_close u (given_up g) = close_late (Course before) u (record { mode = void; closes = g.stays.closing }) g.stays.void.commit (given_up g)
call_course before aborts u (unsent w) = unsent (abort_unsent before u w)
call_course before aborts u (out o) = given_up (abort_out before u o)
call_course before aborts u (given_up g) = given_up (abort_again before u g)
call_course before (does act) u (unsent w) = act_unsent before act u w
call_course before (does act) u (out o) = out (act_out before act u o)
call_course before (does act) u (given_up g) = given_up (act_given_up before act u g)

pub calls_course : (before : List ℕ) (calls : List Call) (u : UnderWay) → Course before u → Course before (after_calls calls u)
calls_course before [] u course = course
calls_course before (call ∷ calls) u course = calls_course before calls (after_call call u) (call_course before call u course)
