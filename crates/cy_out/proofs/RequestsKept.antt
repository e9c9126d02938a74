-- What the calls leave of the request.
use Rattle.std.proofs.Common.{◌≡◌, Bool, true, false, List, [], ◌∷◌, length, Option, None, Some, refl, ◌∙◌}
use Rattle.std.specs.Prelude.{nat_lt, if◌then◌else◌}
use Rattle.std.specs.List.{All}
use Rattle.std.proofs.lemmas.List.Elements.{All-head, All-tail}
use Rattle.cy_event.specs.Answering.{Commit, Sending, with_length}
use Rattle.cy_respond.specs.Fields.{is_status}
use Rattle.cy_out.specs.Calls.{Call, Change, UnderWay, aborts, adds_header, after_call, after_calls, changed, changes, does, puts_error, resets, sending, sets_close, sets_length, sets_status}
use Rattle.cy_out.specs.Exchanges.{is_out}
use Rattle.cy_out.specs.Laws.{IsNoClose, RequestsAreKept}
use Rattle.cy_out.proofs.AnswerCourses.{error_in_place}
use Rattle.cy_out.proofs.MarkLemmas.{abort_keeps_asked, act_keeps_asked}

change_keeps : (change : Change) (u : UnderWay) → (sending (changed change u)).asked ≡ (sending u).asked
change_keeps (sets_status status) u = refl
change_keeps (adds_header field) u = refl
change_keeps (sets_length n) u =
    let s = sending u in
    elim (nat_lt n (length s.waiting)) as (λ v. let t : Sending = if v then s else with_length n s in t.asked ≡ s.asked) [
      | true ↦ refl
      | false ↦ refl
    ]
change_keeps resets u = refl
change_keeps (puts_error status) u =
    elim (is_status status) as (λ v. let w : UnderWay = if v then error_in_place status u else u in (sending w).asked ≡ (sending u).asked) [
      | true ↦ refl
      | false ↦ refl
    ]

call_keeps : (call : Call) (u : UnderWay) → IsNoClose call → (sending (after_call call u)).asked ≡ (sending u).asked
call_keeps (changes change) u other =
    elim (is_out u.exchange) as (λ v. let w : UnderWay = if v then u else changed change u in (sending w).asked ≡ (sending u).asked) [
      | true ↦ refl
      | false ↦ change_keeps change u
    ]
call_keeps sets_close u other = absurd other
call_keeps aborts u other = abort_keeps_asked (sending u)
call_keeps (does act) u other = act_keeps_asked u.head act u.exchange

calls_keep : (calls : List Call) (u : UnderWay) → All IsNoClose calls → (sending (after_calls calls u)).asked ≡ (sending u).asked
calls_keep [] u others = refl
calls_keep (call ∷ calls) u others =
    calls_keep calls (after_call call u) (All-tail IsNoClose call calls others) ∙ call_keeps call u (All-head IsNoClose call calls others)

abbrev pub closed : Sending → Sending
closed s = record s { asked = record { minor = s.asked.minor; is_head = s.asked.is_head; keep = false } }

close_is : (s : Sending) (c : Option Commit) → (elim c as (λ _. Bool) [ None ↦ false | Some k ↦ true ]) ≡ false
    → (let t : Sending = elim c [ None ↦ closed s | Some k ↦ s ] in t.asked ≡ record s.asked { keep = false })
close_is s None inside = refl
close_is s (Some k) inside = cc

close_is_late : (s : Sending) (c : Option Commit) → (elim c as (λ _. Bool) [ None ↦ false | Some k ↦ true ]) ≡ true
    → (let t : Sending = elim c [ None ↦ closed s | Some k ↦ s ] in t ≡ s)
close_is_late s None outside = cc
close_is_late s (Some k) outside = refl

pub requests_are_kept : RequestsAreKept
requests_are_kept = record {
  kept = calls_keep;
  close = λ u inside. close_is (sending u) (sending u).commit inside;
  late = λ u outside. close_is_late (sending u) (sending u).commit outside;
}
