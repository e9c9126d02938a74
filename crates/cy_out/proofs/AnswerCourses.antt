-- Where an answer stands: not out, out, or given up; and where it stands after a change, a close and an abort.
use Rattle.std.proofs.Common.{◌≡◌, ℕ, ◌+◌, ◌-◌, ◌≤◌, Bool, true, false, List, [], ◌∷◌, ◌++◌, length, codes, Option, None, Some, refl, sym, ap, subst, ◌∙◌, arith, append_assoc, append-nil, length-append}
use Rattle.std.specs.Prelude.{nat_lt, decimal, if◌then◌else◌, option_map, unwrap_or}
use Rattle.std.specs.List.{flat_map, list_any}
use Rattle.std.proofs.lemmas.Bool.Decides.{nat_tests}
use Rattle.cy_event.specs.Answers.{Answer, content_buffer}
use Rattle.cy_event.specs.AnswerModes.{Asked, Mode, head_of_shape, last_text, mode_of, piece_text, shape_of, void}
use Rattle.cy_event.specs.Answering.{Commit, Sending, aborted, after_length, closing, error_content, error_head, set_length_of, with_error, with_length}
use Rattle.cy_respond.specs.Fields.{after_field, after_status, is_status}
use Rattle.cy_out.specs.Calls.{Call, Change, UnderWay, aborts, adds_header, after_call, changed, changes, does, puts_error, resets, sending, sets_close, sets_length, sets_status, with_sending}
use Rattle.cy_out.specs.Exchanges.{is_out, written}
use Rattle.cy_event.specs.AnswerBytes.{answer_bytes, known_length}
use Rattle.cy_out.specs.Laws.{bytes_under_way, length_under_way}
use Rattle.cy_event.specs.Pieces.{PutOrFlush, content_put, is_cut_early, is_flush, pieces_behind, put}
use Rattle.cy_out.proofs.ContentSent.{Sends, to_come}
use Rattle.cy_out.proofs.LawLemmas.{StaysVoid, act_stays, aborted_is_void}
use Rattle.cy_out.proofs.MarkLemmas.{abort_keeps_asked}
use Rattle.cy_out.proofs.RoomKept.{status_size}
use Rattle.cy_out.proofs.WholeAnswers.{has_gone, is_in}

-- ---- where an answer stands

-- nothing is out
pub record Unsent (before : List ℕ) (u : UnderWay) : Type 0 where
  pub commit : (sending u).commit ≡ None
  pub kept : u.is_given_up ≡ false
  pub moment : u.moment ≡ None
  pub set_length : set_length_of (sending u) ≡ u.set_length
  pub content : (sending u).waiting ≡ content_put u.marks
  pub few : length (sending u).waiting ≤ content_buffer
  pub unflushed : list_any is_flush u.marks ≡ false
  pub stands : written u.exchange ≡ before

-- what settles the bytes of an answer that was cut early
pub record Settled : Type 0 where
  pub asked : Asked
  pub set_length : Option ℕ
  pub before : List ℕ
  pub pieces : List (List ℕ)

abbrev pub settled_of : List ℕ → List PutOrFlush → UnderWay → Settled
settled_of before marks u = record { asked = (sending u).asked; set_length = u.set_length; before = before; pieces = pieces_behind [] marks }

abbrev pub mode_by : ℕ → Settled → Mode
mode_by status s = mode_of s.asked status s.set_length

-- the head of this moment, and the pieces
abbrev pub head_then_pieces : UnderWay → ℕ → Settled → List ℕ
head_then_pieces u moment s =
    (s.before ++ head_of_shape u.head (shape_of s.asked u.head.status s.set_length) moment) ++ flat_map (piece_text (mode_by u.head.status s)) s.pieces

-- with what is to come, if this happens, the bytes become these
abbrev pub Promises : UnderWay → ℕ → List PutOrFlush → Settled → Type 0
Promises u moment more s =
    (closing : Bool) × Sends (mode_by u.head.status s) closing u.exchange.received more (head_then_pieces u moment s) u.exchange.answering

-- what is left of a set length and what was put are that length
abbrev pub IsLeft : UnderWay → Type 0
IsLeft u = u.set_length ≡ option_map (λ n. n + length (content_put u.marks)) (sending u).left

-- the head is out
pub record Out (before : List ℕ) (u : UnderWay) : Type 0 where
  pub kept : u.is_given_up ≡ false
  pub put_at : ℕ
  pub moment : u.moment ≡ Some put_at
  pub early : is_cut_early [] u.marks ≡ true
  pub left : IsLeft u
  pub promises : (more : List PutOrFlush) → Promises u put_at more (settled_of before (u.marks ++ more) u)

-- these bytes were written, and no more are
pub record Stays (text : List ℕ) (u : UnderWay) : Type 0 where
  pub closing : Bool
  pub void : StaysVoid closing u.exchange.received text u.exchange.answering

pub record GivenUp (before : List ℕ) (u : UnderWay) : Type 0 where
  pub kept : u.is_given_up ≡ true
  pub text : List ℕ
  pub stays : Stays text u
  pub rest : List ℕ
  pub front : (at : ℕ) → text ++ rest ≡ before ++ bytes_under_way at u

pub data Course (before : List ℕ) (u : UnderWay) : Type 0 where
  unsent : Unsent before u → Course before u
  out : Out before u → Course before u
  given_up : GivenUp before u → Course before u

pub out_is_out : (before : List ℕ) (u : UnderWay) → Out before u → is_out u.exchange ≡ true
out_is_out before u o =
    let p = o.promises [] in
    has_gone u.exchange (record { mode = mode_by u.head.status (settled_of before (u.marks ++ []) u); closes = p.0 }) p.1.commit

pub void_is_out : (text : List ℕ) (u : UnderWay) → Stays text u → is_out u.exchange ≡ true
void_is_out text u v = has_gone u.exchange (record { mode = void; closes = v.closing }) v.void.commit

pub unsent_is : (before : List ℕ) (u : UnderWay) → (sending u).commit ≡ None → Course before u → Unsent before u
unsent_is before u none (unsent w) = w
unsent_is before u none (out o) = let never : true ≡ false = sym (out_is_out before u o) ∙ is_in u.exchange none in cc
unsent_is before u none (given_up g) = let never : true ≡ false = sym (void_is_out g.text u g.stays) ∙ is_in u.exchange none in cc

-- ---- changes of what isn't out

pub error_is_short : (status : ℕ) → is_status status ≡ true → length (error_content status) ≤ content_buffer
error_is_short status known =
    let name = codes "Error " in
    let line = codes "\n" in
    omega (arith, status_size status known, length-append name (decimal status ++ line), length-append (decimal status) line)

length_kept : (before : List ℕ) (n : ℕ) (u : UnderWay) → Unsent before u → Unsent before (changed (sets_length n) u)
length_kept before n u w =
    let s = sending u in
    let same : length s.waiting ≡ length (content_put u.marks) = ap length w.content in
    subst (λ (m : ℕ). Unsent before (record (with_sending (after_length n s) u) { set_length = if nat_lt n m then u.set_length else Some n })) same
    (elim (nat_lt n (length s.waiting)) as (λ v. nat_lt n (length s.waiting) ≡ v
    → Unsent before (record (with_sending (if v then s else with_length n s) u) { set_length = if v then u.set_length else Some n })) [
      | true ↦ λ less. w
      | false ↦ λ enough. let most : length s.waiting ≤ n = grind (arith, nat_tests) in
          let sum : n - length s.waiting + length s.waiting ≡ n = omega arith in
          record {
            commit = w.commit;
            kept = w.kept;
            moment = w.moment;
            set_length = ap Some sum;
            content = w.content;
            few = w.few;
            unflushed = w.unflushed;
            stands = w.stands;
          }
    ] refl)

-- another head, before it is out
head_alone : (before : List ℕ) (head : Answer) (u : UnderWay) → Unsent before u → Unsent before (record u { head = head })
head_alone before head u w =
    record {
      commit = w.commit;
      kept = w.kept;
      moment = w.moment;
      set_length = w.set_length;
      content = w.content;
      few = w.few;
      unflushed = w.unflushed;
      stands = w.stands;
    }

abbrev pub error_in_place : ℕ → UnderWay → UnderWay
error_in_place status u = record (with_sending (with_error status (sending u)) u) {
  head = error_head status;
  set_length = None;
  marks = put (error_content status) ∷ [];
}

pub change_kept : (before : List ℕ) (change : Change) (u : UnderWay) → Unsent before u → Unsent before (changed change u)
change_kept before (sets_status status) u w = head_alone before (after_status status u.head) u w
change_kept before (adds_header field) u w = head_alone before (after_field field u.head) u w
change_kept before (sets_length n) u w = length_kept before n u w
change_kept before resets u w =
    record { commit = w.commit; kept = w.kept; moment = w.moment; set_length = refl; content = refl; few = omega arith; unflushed = refl; stands = w.stands }
change_kept before (puts_error status) u w =
    elim (is_status status) as (λ v. is_status status ≡ v → Unsent before (if v then error_in_place status u else u)) [
      | true ↦ λ known. record {
        commit = w.commit;
        kept = w.kept;
        moment = w.moment;
        set_length = refl;
        content = sym (append-nil (error_content status));
        few = error_is_short status known;
        unflushed = refl;
        stands = w.stands;
      }
      | false ↦ λ unknown. w
    ] refl

-- ---- a close that is asked for

pub close_kept : (before : List ℕ) (u : UnderWay) → Unsent before u → Unsent before (after_call sets_close u)
close_kept before u w =
    let s = sending u in
    elim s.commit as (λ c. let t : Sending = elim c [
      | None ↦ record s { asked = record { minor = s.asked.minor; is_head = s.asked.is_head; keep = false } }
      | Some k ↦ s
    ] in
    Unsent before (with_sending t u)) [
      | None ↦ record {
        commit = w.commit;
        kept = w.kept;
        moment = w.moment;
        set_length = w.set_length;
        content = w.content;
        few = w.few;
        unflushed = w.unflushed;
        stands = w.stands;
      }
      | Some k ↦ w
    ]

-- a head that is out says what it said
close_is_late : (s : Sending) (k : Commit) → s.commit ≡ Some k → s ≡ closing s
close_is_late s k given =
    sym (ap (λ (c : Option Commit). elim c as (λ _. Sending) [
      | None ↦ record s { asked = record { minor = s.asked.minor; is_head = s.asked.is_head; keep = false } }
      | Some m ↦ s
    ]) given)

-- so what holds of the answer still does
pub close_late : (P : UnderWay → Type 0) (u : UnderWay) (k : Commit) → (sending u).commit ≡ Some k → P u → P (after_call sets_close u)
close_late P u k given holds = subst (λ (s : Sending). P (with_sending s u)) (close_is_late (sending u) k given) holds

-- a change is refused where the head is out
pub refused : (P : UnderWay → Type 0) (change : Change) (u : UnderWay) → is_out u.exchange ≡ true → P u → P (after_call (changes change) u)
refused P change u outside holds = subst (λ (t : Bool). P (if t then u else changed change u)) (sym outside) holds

-- ---- an answer that is given up

pub abort_changes_nothing : (s : Sending) → s.commit ≡ None → s ≡ aborted s
abort_changes_nothing s given =
    sym (ap (λ (c : Option Commit). elim c as (λ _. Sending) [ None ↦ s | Some k ↦ record s { commit = Some (record { mode = void; closes = k.closes }) } ]) given)

pub abort_unsent : (before : List ℕ) (u : UnderWay) → Unsent before u → Unsent before (after_call aborts u)
abort_unsent before u w =
    subst (λ (s : Sending). Unsent before (record (with_sending s u) { is_given_up = is_out u.exchange })) (abort_changes_nothing (sending u) w.commit)
    (record {
      commit = w.commit;
      kept = is_in u.exchange w.commit;
      moment = w.moment;
      set_length = w.set_length;
      content = w.content;
      few = w.few;
      unflushed = w.unflushed;
      stands = w.stands;
    })

-- the bytes of an answer that was cut early
pub early_bytes : (before : List ℕ) (at : ℕ) (u : UnderWay) (o : Out before u)
    → (before ++ head_of_shape u.head (shape_of (sending u).asked u.head.status u.set_length) o.put_at)
    ++ (flat_map (piece_text (mode_of (sending u).asked u.head.status u.set_length)) (pieces_behind [] (u.marks ++ []))
    ++ last_text (mode_of (sending u).asked u.head.status u.set_length))
    ≡ before ++ bytes_under_way at u
early_bytes before at u o =
    let asked = (sending u).asked in
    let known = length_under_way u in
    let set : u.set_length ≡ known = sym (ap (λ (t : Bool). known_length t u.set_length (length (content_put u.marks))) o.early) in
    let put_then : o.put_at ≡ unwrap_or u.moment at = sym (ap (λ (m : Option ℕ). unwrap_or m at) o.moment) in
    let all = append-nil u.marks in
    append_assoc before (head_of_shape u.head (shape_of asked u.head.status u.set_length) o.put_at)
    (flat_map (piece_text (mode_of asked u.head.status u.set_length)) (pieces_behind [] (u.marks ++ [])) ++ last_text (mode_of asked u.head.status u.set_length))
    ∙ (λ i. before ++ answer_bytes u.head asked (set i) (put_then i) (pieces_behind [] (all i)))

-- what a finish would add
abbrev rest_of : UnderWay → List ℕ
rest_of u =
    let mode = mode_of (sending u).asked u.head.status u.set_length in
    to_come mode [] u.exchange.answering ++ last_text mode

out_front : (before : List ℕ) (at : ℕ) (u : UnderWay) → Out before u → written u.exchange ++ rest_of u ≡ before ++ bytes_under_way at u
out_front before at u o =
    let mode = mode_of (sending u).asked u.head.status u.set_length in
    let coming = to_come mode [] u.exchange.answering in
    let headed = before ++ head_of_shape u.head (shape_of (sending u).asked u.head.status u.set_length) o.put_at in
    let pieces = flat_map (piece_text mode) (pieces_behind [] (u.marks ++ [])) in
    sym (append_assoc (written u.exchange) coming (last_text mode))
    ∙ ap (λ (xs : List ℕ). xs ++ last_text mode) (o.promises []).1.all
    ∙ append_assoc headed pieces (last_text mode)
    ∙ early_bytes before at u o

-- the request is what settles the bytes beside what stays
same_bytes : (at : ℕ) (u : UnderWay) (s : Sending) (given : Bool) → s.asked ≡ (sending u).asked
    → bytes_under_way at u ≡ bytes_under_way at (record (with_sending s u) { is_given_up = given })
same_bytes at u s given same =
    let known = length_under_way u in
    ap (λ (a : Asked). answer_bytes u.head a known (unwrap_or u.moment at) (pieces_behind [] u.marks)) (sym same)

pub abort_stays : (u : UnderWay) → is_out u.exchange ≡ true → Stays (written u.exchange) (after_call aborts u)
abort_stays u outside =
    let is_void = aborted_is_void (sending u) outside in
    record { closing = is_void.0; void = record { commit = is_void.1; all = refl } }

pub abort_out : (before : List ℕ) (u : UnderWay) → Out before u → GivenUp before (after_call aborts u)
abort_out before u o =
    record {
      kept = out_is_out before u o;
      text = written u.exchange;
      stays = abort_stays u (out_is_out before u o);
      rest = rest_of u;
      front = λ at. out_front before at u o
          ∙ ap (λ (xs : List ℕ). before ++ xs) (same_bytes at u (aborted (sending u)) (is_out u.exchange) (abort_keeps_asked (sending u)));
    }

pub call_stays : (text : List ℕ) (call : Call) (u : UnderWay) → Stays text u → Stays text (after_call call u)
call_stays text (changes change) u v = refused (Stays text) change u (void_is_out text u v) v
call_stays text sets_close u v = close_late (Stays text) u (record { mode = void; closes = v.closing }) v.void.commit v
call_stays text aborts u v =
    let s = sending u in
    record {
      closing = v.closing;
      void = record {
        commit = ap (λ (c : Option Commit). (elim c as (λ _. Sending) [
          | None ↦ s
          | Some k ↦ record s { commit = Some (record { mode = void; closes = k.closes }) }
        ]).commit) v.void.commit;
        all = v.void.all;
      };
    }
call_stays text (does act) u v = record { closing = v.closing; void = act_stays u.head act v.closing text u.exchange v.void }

pub abort_again : (before : List ℕ) (u : UnderWay) → GivenUp before u → GivenUp before (after_call aborts u)
abort_again before u g =
    record {
      kept = void_is_out g.text u g.stays;
      text = g.text;
      stays = call_stays g.text aborts u g.stays;
      rest = g.rest;
      front = λ at. g.front at
          ∙ ap (λ (xs : List ℕ). before ++ xs) (same_bytes at u (aborted (sending u)) (is_out u.exchange) (abort_keeps_asked (sending u)));
    }
