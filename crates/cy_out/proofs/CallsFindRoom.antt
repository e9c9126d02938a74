-- Whatever is called, the end of an answer finds room.
use Rattle.std.proofs.Common.{◌≡◌, ℕ, ◌+◌, ◌^◌, ◌<◌, ◌≤◌, Bool, true, false, List, [], ◌∷◌, ◌++◌, length, Option, None, Some, refl, ap, arith, length-append}
use Rattle.std.specs.Prelude.{not, ◌&&◌, if◌then◌else◌, nat_lt}
use Rattle.std.specs.List.{All}
use Rattle.std.proofs.lemmas.Bool.Decides.{nat_tests}
use Rattle.std.proofs.lemmas.List.Elements.{All-head, All-tail}
use Rattle.cy_event.specs.Answers.{Answer}
use Rattle.cy_event.specs.AnswerModes.{void}
use Rattle.cy_event.specs.Answering.{Answering, Commit, Sending, aborted, after_length, closing, with_length}
use Rattle.cy_event.specs.Heads.{Field}
use Rattle.cy_respond.specs.Fields.{after_field, after_status, field_size, has_most_fields, is_status, is_too_long, may_stand, size_of_field, with_field}
use Rattle.cy_out.specs.Calls.{Call, Change, UnderWay, aborts, adds_header, after_call, after_calls, begun, changed, changes, does, puts_error, resets, sets_close, sets_length, sets_status}
use Rattle.cy_out.specs.Exchanges.{is_out}
use Rattle.cy_out.specs.Kept.{finish_room}
use Rattle.cy_out.specs.Laws.{AllCallsFindRoom, IsWithinLimits, IsWithinWords}
use Rattle.cy_out.proofs.AnswerCourses.{error_is_short, error_in_place}
use Rattle.cy_out.proofs.RoomKept.{Fits, act_fits, beginnings_find_room, finish_fits}

-- a head that a component may set, and an answer whose end fits
record Roomy (u : UnderWay) : Type 0 where
  within : IsWithinLimits u.head
  fits : Fits u.exchange.answering

-- ---- heads

pub status_within : (head : Answer) (status : ℕ) → IsWithinLimits head → IsWithinLimits (after_status status head)
status_within head status w =
    elim (is_status status) as (λ v. is_status status ≡ v → IsWithinLimits (if v then record head { status = status } else head)) [
      | true ↦ λ known. record { status = known; count = w.count; size = w.size }
      | false ↦ λ unknown. w
    ] refl

size_of_both : (fields : List Field) (f : Field) → field_size (fields ++ f ∷ []) ≡ field_size fields + size_of_field f
size_of_both [] f = omega arith
size_of_both (g ∷ fields) f = omega (arith, size_of_both fields f)

-- what three tests say that all hold
three : (a b c : Bool) → a && not b && not c ≡ true → (b ≡ false) × (c ≡ false)
three true false false all = (refl, refl)
three true false true all = cc
three true true c all = cc
three false b c all = cc

pub field_within : (head : Answer) (f : Field) → IsWithinLimits head → IsWithinLimits (after_field f head)
field_within head f w =
    elim (may_stand f && not (has_most_fields head.fields) && not (is_too_long f head.fields)) as (λ v.
    may_stand f && not (has_most_fields head.fields) && not (is_too_long f head.fields) ≡ v → IsWithinLimits (if v then with_field f head else head)) [
      | true ↦ λ taken. let both = three (may_stand f) (has_most_fields head.fields) (is_too_long f head.fields) taken in
          let few : length head.fields < 100 = let not_full = both.0 in grind (arith, nat_tests) in
          let short : field_size head.fields + size_of_field f ≤ 7000 = let not_long = both.1 in grind (arith, nat_tests) in
          record {
            status = w.status;
            count = omega (arith, length-append head.fields (f ∷ []));
            size = omega (arith, size_of_both head.fields f);
          }
      | false ↦ λ refused. w
    ] refl

-- ---- changes

length_fits : (n : ℕ) (a : Answering) → n < 2 ^ 64 → Fits a → Fits (record a { sending = after_length n a.sending })
length_fits n a small f =
    let s = a.sending in
    elim (nat_lt n (length s.waiting)) as (λ v. nat_lt n (length s.waiting) ≡ v → Fits (record a { sending = if v then s else with_length n s })) [
      | true ↦ λ less. f
      | false ↦ λ enough. let most : length s.waiting ≤ n = grind (arith, nat_tests) in
          record { kept = record { few = f.kept.few; set_length = omega arith }; finish = record { room = f.finish.room } }
    ] refl

change_is_roomy : (change : Change) (u : UnderWay) → IsWithinWords (changes change) → Roomy u → Roomy (changed change u)
change_is_roomy (sets_status status) u small r = record { within = status_within u.head status r.within; fits = r.fits }
change_is_roomy (adds_header field) u small r = record { within = field_within u.head field r.within; fits = r.fits }
change_is_roomy (sets_length n) u small r = record { within = r.within; fits = length_fits n u.exchange.answering small r.fits }
change_is_roomy resets u small r = record {
  within = record { status = refl; count = omega arith; size = omega arith };
  fits = record { kept = record { few = omega arith; set_length = omega arith }; finish = record { room = r.fits.finish.room } };
}
change_is_roomy (puts_error status) u small r =
    elim (is_status status) as (λ v. is_status status ≡ v → Roomy (if v then error_in_place status u else u)) [
      | true ↦ λ known. let short = error_is_short status known in
          record {
            within = record { status = known; count = omega arith; size = omega arith };
            fits = record { kept = record { few = short; set_length = omega (arith, short) }; finish = record { room = r.fits.finish.room } };
          }
      | false ↦ λ unknown. r
    ] refl

-- ---- other calls

close_fits : (a : Answering) → Fits a → Fits (record a { sending = closing a.sending })
close_fits a f =
    let s = a.sending in
    elim s.commit as (λ c. let t : Sending = elim c [
      | None ↦ record s { asked = record { minor = s.asked.minor; is_head = s.asked.is_head; keep = false } }
      | Some k ↦ s
    ] in Fits (record a { sending = t })) [
      | None ↦ record { kept = record { few = f.kept.few; set_length = f.kept.set_length }; finish = record { room = f.finish.room } }
      | Some k ↦ f
    ]

abort_fits : (a : Answering) → Fits a → Fits (record a { sending = aborted a.sending })
abort_fits a f =
    let s = a.sending in
    elim s.commit as (λ c. s.commit ≡ c → (let t : Sending = elim c [
      | None ↦ s
      | Some k ↦ record s { commit = Some (record { mode = void; closes = k.closes }) }
    ] in Fits (record a { sending = t }))) [
      | None ↦ λ given. f
      | Some k ↦ λ given. let no_head : finish_room s ≡ 8205
          = ap (λ (c : Option Commit). (if (elim c as (λ _. Bool) [ None ↦ false | Some m ↦ true ]) then 0 else 7544) + (8200 + 5)) given in
          record { kept = record { few = f.kept.few; set_length = f.kept.set_length }; finish = record { room = omega (arith, f.finish.room, no_head) } }
    ] refl

call_is_roomy : (call : Call) (u : UnderWay) → IsWithinWords call → Roomy u → Roomy (after_call call u)
call_is_roomy (changes change) u small r =
    elim (is_out u.exchange) as (λ v. Roomy (if v then u else changed change u)) [
      | true ↦ r
      | false ↦ change_is_roomy change u small r
    ]
call_is_roomy sets_close u small r = record { within = r.within; fits = close_fits u.exchange.answering r.fits }
call_is_roomy aborts u small r = record { within = r.within; fits = abort_fits u.exchange.answering r.fits }
call_is_roomy (does act) u small r = record { within = r.within; fits = act_fits u.head act u.exchange r.within r.fits }

calls_are_roomy : (calls : List Call) (u : UnderWay) → All IsWithinWords calls → Roomy u → Roomy (after_calls calls u)
calls_are_roomy [] u small r = r
calls_are_roomy (call ∷ calls) u small r =
    calls_are_roomy calls (after_call call u) (All-tail IsWithinWords call calls small) (call_is_roomy call u (All-head IsWithinWords call calls small) r)

pub all_calls_find_room : AllCallsFindRoom
all_calls_find_room asked received output calls few small =
    let begins : Roomy (begun asked received output) = record {
      within = record { status = refl; count = omega arith; size = omega arith };
      fits = record { kept = record { few = omega arith; set_length = omega arith }; finish = beginnings_find_room asked output few };
    } in
    let u = after_calls calls (begun asked received output) in
    let r = calls_are_roomy calls (begun asked received output) small begins in
    record { can_finish = r.fits.finish; fits = λ at. finish_fits u.head at u.exchange.answering r.within r.fits }
