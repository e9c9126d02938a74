-- A HEAD and another request that are answered by the same calls: up to the first cut both go alike, and then neither head
-- changes.
use Rattle.std.proofs.Common.{◌≡◌, ℕ, Bool, true, false, List, [], ◌∷◌, ◌++◌, length, Option, None, Some, refl, sym, ap, subst, ◌∙◌}
use Rattle.std.specs.Prelude.{not, ◌&&◌, ◌==◌, nat_lt, if◌then◌else◌, is_none}
use Rattle.cy_event.specs.Answers.{Answer}
use Rattle.cy_event.specs.AnswerModes.{Asked, framing_lines, has_no_content, void}
use Rattle.cy_event.specs.Answering.{Answering, Commit, Sending, closing, cut, can_cut, has_to_cut, is_committed, passes_length, push_bytes, with_length}
use Rattle.cy_respond.specs.Fields.{is_status}
use Rattle.cy_out.specs.Calls.{Call, Change, UnderWay, aborts, acted, adds_header, after_call, after_calls, begun, changed, changes, does, puts_error, resets, sending, sets_close, sets_length, sets_status, with_sending}
use Rattle.cy_out.specs.Exchanges.{Act, Exchange, after_act, flushes, is_out, marks_by, moment_of, receives, writes}
use Rattle.cy_event.specs.AnswerBytes.{known_length}
use Rattle.cy_out.specs.Laws.{AllCallsFrameAlike, AreFramedAlike, asked_by, framing_under_way, length_under_way}
use Rattle.cy_event.specs.Pieces.{content_put, is_cut_early}
use Rattle.cy_out.proofs.AnswerCourses.{Course, Unsent, abort_changes_nothing, error_in_place, refused, unsent_is}
use Rattle.cy_out.proofs.CallCourses.{act_outside, call_course, moment_inside, moment_outside}
use Rattle.cy_out.proofs.CallsOneAnswer.{begins}
use Rattle.cy_out.proofs.HeadsAlike.{acts_alike, both_in, both_out, cut_commits, push_keeps}
use Rattle.cy_out.proofs.LawLemmas.{aborted_is_void}
use Rattle.cy_out.proofs.MarkLemmas.{abort_keeps_asked, act_keeps_asked, early_stays}
use Rattle.cy_out.proofs.RequestsKept.{closed, requests_are_kept}
use Rattle.cy_out.proofs.WholeAnswers.{has_gone, is_in}

-- the same answer under way, whose request is a HEAD or isn't
abbrev as_by : Bool → UnderWay → UnderWay
as_by m u = record u { exchange = asked_by m u.exchange }

-- a head that is out, of an answer that was cut early
record IsSettled (head : Answer) (set_length moment : Option ℕ) (minor : ℕ) (u : UnderWay) : Type 0 where
  out : is_out u.exchange ≡ true
  early : is_cut_early [] u.marks ≡ true
  head_is : u.head ≡ head
  set_is : u.set_length ≡ set_length
  moment_is : u.moment ≡ moment
  minor_is : (sending u).asked.minor ≡ minor

-- Of both nothing is out, and they are the same; or both heads are out, and are the same.
data Alike (by : Bool → UnderWay) : Type 0 where
  both_inside : (u : UnderWay) → (sending u).commit ≡ None → ((m : Bool) → by m ≡ as_by m u) → Alike by
  both_settled : (head : Answer) (set_length moment : Option ℕ) (minor : ℕ) → ((m : Bool) → IsSettled head set_length moment minor (by m)) → Alike by

-- ---- before the first cut

change_alike : (change : Change) (m : Bool) (u : UnderWay) → changed change (as_by m u) ≡ as_by m (changed change u)
change_alike (sets_status status) m u = refl
change_alike (adds_header field) m u = refl
change_alike (sets_length n) m u =
    let s = sending u in
    let t = sending (as_by m u) in
    let set_length = if nat_lt n (length (content_put u.marks)) then u.set_length else Some n in
    elim (nat_lt n (length s.waiting)) as (λ v.
    (let w : UnderWay = record (with_sending (if v then t else with_length n t) (as_by m u)) { set_length = set_length } in w)
    ≡ as_by m (record (with_sending (if v then s else with_length n s) u) { set_length = set_length })) [
      | true ↦ refl
      | false ↦ refl
    ]
change_alike resets m u = refl
change_alike (puts_error status) m u =
    elim (is_status status) as (λ v. (if v then error_in_place status (as_by m u) else as_by m u) ≡ as_by m (if v then error_in_place status u else u)) [
      | true ↦ refl
      | false ↦ refl
    ]

change_puts_none : (change : Change) (u : UnderWay) → (sending u).commit ≡ None → (sending (changed change u)).commit ≡ None
change_puts_none (sets_status status) u none = none
change_puts_none (adds_header field) u none = none
change_puts_none (sets_length n) u none =
    let s = sending u in
    elim (nat_lt n (length s.waiting)) as (λ v. let t : Sending = if v then s else with_length n s in t.commit ≡ None) [
      | true ↦ none
      | false ↦ none
    ]
change_puts_none resets u none = none
change_puts_none (puts_error status) u none =
    elim (is_status status) as (λ v. let w : UnderWay = if v then error_in_place status u else u in (sending w).commit ≡ None) [
      | true ↦ none
      | false ↦ none
    ]

close_is : (s : Sending) → s.commit ≡ None → closing s ≡ closed s
close_is s none = ap (λ (c : Option Commit). elim c as (λ _. Sending) [ None ↦ closed s | Some k ↦ s ]) none

act_alike : (before : List ℕ) (act : Act) (u : UnderWay) → (sending u).commit ≡ None → ((m : Bool) → Unsent before (as_by m u))
    → Alike (λ m. acted act (as_by m u))
act_alike before act u none w =
    let x = u.exchange in
    let minor = (sending u).asked.minor in
    elim (acts_alike u.head act x none) as (λ _. Alike (λ m. acted act (as_by m u))) [
      | both_out outside ↦ both_settled u.head u.set_length (moment_of act) minor (λ m.
          let next = after_act u.head act (asked_by m x) in
          record {
            out = outside m;
            early = (act_outside before act (as_by m u) (w m) (outside m)).early;
            head_is = refl;
            set_is = refl;
            moment_is = moment_inside (is_out x) u.moment (if is_out next then moment_of act else None) (is_in x none)
                ∙ moment_outside (is_out next) (moment_of act) None (outside m);
            minor_is = ap (λ (a : Asked). a.minor) (act_keeps_asked u.head act (asked_by m x));
          })
      | both_in next now still same marked ↦ both_inside (record u {
        exchange = next;
        marks = if u.is_given_up then u.marks else u.marks ++ now;
        moment = if is_out x then u.moment else (if is_out next then moment_of act else None);
      }) still (λ m i. record u {
        exchange = same m i;
        marks = if u.is_given_up then u.marks else u.marks ++ marked m i;
        moment = if is_out x then u.moment else (if is_out (same m i) then moment_of act else None);
      })
    ]

call_alike : (before : List ℕ) (call : Call) (u : UnderWay) → (sending u).commit ≡ None → ((m : Bool) → Unsent before (as_by m u))
    → Alike (λ m. after_call call (as_by m u))
call_alike before (changes change) u none w =
    both_inside (changed change u) (change_puts_none change u none)
    (λ m. ap (λ (v : Bool). if v then as_by m u else changed change (as_by m u)) (is_in u.exchange none) ∙ change_alike change m u)
call_alike before sets_close u none w =
    both_inside (with_sending (closed (sending u)) u) none (λ m. ap (λ (s : Sending). with_sending s (as_by m u)) (close_is (sending (as_by m u)) none))
call_alike before aborts u none w =
    both_inside (record u { is_given_up = is_out u.exchange }) none
    (λ m. ap (λ (s : Sending). record (with_sending s (as_by m u)) { is_given_up = is_out u.exchange }) (sym (abort_changes_nothing (sending (as_by m u)) none)))
call_alike before (does act) u none w = act_alike before act u none w

-- ---- behind it

act_stays_out : (head : Answer) (act : Act) (x : Exchange) → is_out x ≡ true → is_out (after_act head act x) ≡ true
act_stays_out head (writes bytes at) x outside =
    let a = x.answering in
    elim (passes_length a.sending (length bytes)) as (λ v. let b : Answering = if v then a else (push_bytes head at bytes a).after in is_committed b.sending ≡ true) [
      | true ↦ outside
      | false ↦ push_keeps head at bytes a outside
    ]
act_stays_out head (flushes at) x outside =
    let a = x.answering in
    elim (has_to_cut a.sending && can_cut a.output) as (λ v. let b : Answering = if v then cut head at a else a in is_committed b.sending ≡ true) [
      | true ↦ cut_commits head at a
      | false ↦ outside
    ]
act_stays_out head (receives n) x outside = outside

call_settled : (head : Answer) (set_length moment : Option ℕ) (minor : ℕ) (call : Call) (u : UnderWay)
    → IsSettled head set_length moment minor u → IsSettled head set_length moment minor (after_call call u)
call_settled head set_length moment minor (changes change) u s = refused (IsSettled head set_length moment minor) change u s.out s
call_settled head set_length moment minor sets_close u s =
    subst (λ (t : Sending). IsSettled head set_length moment minor (with_sending t u)) (sym (requests_are_kept.late u s.out)) s
call_settled head set_length moment minor aborts u s =
    let is_void = aborted_is_void (sending u) s.out in
    record {
      out = has_gone (after_call aborts u).exchange (record { mode = void; closes = is_void.0 }) is_void.1;
      early = s.early;
      head_is = s.head_is;
      set_is = s.set_is;
      moment_is = s.moment_is;
      minor_is = ap (λ (a : Asked). a.minor) (abort_keeps_asked (sending u)) ∙ s.minor_is;
    }
call_settled head set_length moment minor (does act) u s =
    let x = u.exchange in
    let next = after_act u.head act x in
    let now = marks_by u.head act x in
    record {
      out = act_stays_out u.head act x s.out;
      early = elim u.is_given_up as (λ v. is_cut_early [] (if v then u.marks else u.marks ++ now) ≡ true) [
        | true ↦ s.early
        | false ↦ early_stays u.marks now s.early
      ];
      head_is = s.head_is;
      set_is = s.set_is;
      moment_is = moment_outside (is_out x) u.moment (if is_out next then moment_of act else None) s.out ∙ s.moment_is;
      minor_is = ap (λ (a : Asked). a.minor) (act_keeps_asked u.head act x) ∙ s.minor_is;
    }

-- ---- all calls

call_both : (before : List ℕ) (call : Call) (by : Bool → UnderWay) → ((m : Bool) → Course before (by m)) → Alike by → Alike (λ m. after_call call (by m))
call_both before call by course (both_inside u none same) =
    subst (λ (w : Bool → UnderWay). Alike (λ m. after_call call (w m))) (λ i m. sym (same m) i)
    (call_alike before call u none (λ m. unsent_is before (as_by m u) none (subst (Course before) (same m) (course m))))
call_both before call by course (both_settled head set_length moment minor settled) =
    both_settled head set_length moment minor (λ m. call_settled head set_length moment minor call (by m) (settled m))

calls_both : (before : List ℕ) (calls : List Call) (by : Bool → UnderWay) → ((m : Bool) → Course before (by m)) → Alike by → Alike (λ m. after_calls calls (by m))
calls_both before [] by course alike = alike
calls_both before (call ∷ calls) by course alike =
    calls_both before calls (λ m. after_call call (by m)) (λ m. call_course before call (by m) (course m)) (call_both before call by course alike)

-- ---- the law

abbrev framing_by : ℕ → Option ℕ → ℕ → List ℕ
framing_by status known minor =
    let none = has_no_content status in framing_lines (if none then None else known) (not none && is_none known && (minor == 1))

settled_framing : (head : Answer) (set_length moment : Option ℕ) (minor : ℕ) (u : UnderWay) → IsSettled head set_length moment minor u
    → framing_under_way u ≡ framing_by head.status set_length minor
settled_framing head set_length moment minor u s =
    let known : length_under_way u ≡ set_length = ap (λ (t : Bool). known_length t u.set_length (length (content_put u.marks))) s.early ∙ s.set_is in
    λ i. framing_by (s.head_is i).status (known i) (s.minor_is i)

alike_is : (by : Bool → UnderWay) → Alike by → AreFramedAlike (by true) (by false)
alike_is by (both_inside u none same) =
    record {
      framing = ap framing_under_way (same true) ∙ sym (ap framing_under_way (same false));
      head = ap (λ (w : UnderWay). w.head) (same true) ∙ sym (ap (λ (w : UnderWay). w.head) (same false));
      out = ap (λ (w : UnderWay). is_out w.exchange) (same true) ∙ sym (ap (λ (w : UnderWay). is_out w.exchange) (same false));
      moment = ap (λ (w : UnderWay). w.moment) (same true) ∙ sym (ap (λ (w : UnderWay). w.moment) (same false));
    }
alike_is by (both_settled head set_length moment minor settled) =
    let h = settled true in
    let g = settled false in
    record {
      framing = settled_framing head set_length moment minor (by true) h ∙ sym (settled_framing head set_length moment minor (by false) g);
      head = h.head_is ∙ sym g.head_is;
      out = h.out ∙ sym g.out;
      moment = h.moment_is ∙ sym g.moment_is;
    }

pub all_calls_frame_alike : AllCallsFrameAlike
all_calls_frame_alike asked received output calls =
    let first = begun asked received output in
    let by = λ (m : Bool). begun (record asked { is_head = m }) received output in
    alike_is (λ m. after_calls calls (by m))
    (calls_both (received ++ output) calls by (λ m. begins (record asked { is_head = m }) received output) (both_inside first refl (λ m. refl)))
