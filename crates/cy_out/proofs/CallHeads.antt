-- Whatever is called, the head is one that a component may set, and its first empty line is its end.
use Rattle.std.proofs.Common.{◌≡◌, ℕ, Bool, true, false, List, [], ◌∷◌, codes, refl, subst, arith}
use Rattle.std.specs.Prelude.{not, ◌&&◌, if◌then◌else◌}
use Rattle.std.specs.List.{list_all}
use Rattle.cy_event.specs.Answers.{Answer, fresh_answer}
use Rattle.cy_event.specs.Answering.{error_head}
use Rattle.cy_event.specs.Heads.{Field}
use Rattle.cy_respond.specs.Fields.{after_field, after_status, has_most_fields, is_status, is_too_long, may_stand, with_field}
use Rattle.cy_respond.proofs.ErrorFields.{plain_text_is_added}
use Rattle.cy_respond.proofs.HeadEnds.{heads_end_once}
use Rattle.cy_respond.proofs.LineLemmas.{stand_more}
use Rattle.cy_out.specs.Calls.{Call, Change, UnderWay, aborts, adds_header, after_call, after_calls, begun, changed, changes, does, puts_error, resets, sets_close, sets_length, sets_status}
use Rattle.cy_out.specs.Exchanges.{is_out}
use Rattle.cy_out.specs.Laws.{AllCallsKeepTheHead, IsWithinLimits}
use Rattle.cy_out.proofs.CallsFindRoom.{field_within, status_within}
use Rattle.cy_out.proofs.AnswerCourses.{error_in_place}

record MaySet (head : Answer) : Type 0 where
  within : IsWithinLimits head
  fields : list_all may_stand head.fields ≡ true

first_of : (a b c : Bool) → a && b && c ≡ true → a ≡ true
first_of true b c all = refl
first_of false b c all = cc

status_set : (head : Answer) (status : ℕ) → MaySet head → MaySet (after_status status head)
status_set head status m =
    record {
      within = status_within head status m.within;
      fields = elim (is_status status) as (λ v. let a : Answer = if v then record head { status = status } else head in list_all may_stand a.fields ≡ true) [
        | true ↦ m.fields
        | false ↦ m.fields
      ];
    }

field_added : (head : Answer) (f : Field) → MaySet head → MaySet (after_field f head)
field_added head f m =
    record {
      within = field_within head f m.within;
      fields = elim (may_stand f && not (has_most_fields head.fields) && not (is_too_long f head.fields)) as (λ v.
          may_stand f && not (has_most_fields head.fields) && not (is_too_long f head.fields) ≡ v
          → (let a : Answer = if v then with_field f head else head in list_all may_stand a.fields ≡ true)) [
            | true ↦ λ taken. stand_more head.fields f m.fields (first_of (may_stand f) (not (has_most_fields head.fields)) (not (is_too_long f head.fields)) taken)
            | false ↦ λ refused. m.fields
          ] refl;
    }

error_set : (status : ℕ) → is_status status ≡ true → MaySet (error_head status)
error_set status known =
    subst MaySet (plain_text_is_added status)
    (field_added (record fresh_answer { status = status }) (record { name = codes "Content-Type"; value = codes "text/plain" })
    (record { within = record { status = known; count = omega arith; size = omega arith }; fields = refl }))

change_keeps : (change : Change) (u : UnderWay) → MaySet u.head → MaySet (changed change u).head
change_keeps (sets_status status) u m = status_set u.head status m
change_keeps (adds_header field) u m = field_added u.head field m
change_keeps (sets_length n) u m = m
change_keeps resets u m = record { within = record { status = refl; count = omega arith; size = omega arith }; fields = refl }
change_keeps (puts_error status) u m =
    elim (is_status status) as (λ v. is_status status ≡ v → (let w : UnderWay = if v then error_in_place status u else u in MaySet w.head)) [
      | true ↦ λ known. error_set status known
      | false ↦ λ unknown. m
    ] refl

call_keeps : (call : Call) (u : UnderWay) → MaySet u.head → MaySet (after_call call u).head
call_keeps (changes change) u m =
    elim (is_out u.exchange) as (λ v. let w : UnderWay = if v then u else changed change u in MaySet w.head) [
      | true ↦ m
      | false ↦ change_keeps change u m
    ]
call_keeps sets_close u m = m
call_keeps aborts u m = m
call_keeps (does act) u m = m

calls_keep : (calls : List Call) (u : UnderWay) → MaySet u.head → MaySet (after_calls calls u).head
calls_keep [] u m = m
calls_keep (call ∷ calls) u m = calls_keep calls (after_call call u) (call_keeps call u m)

pub all_calls_keep_the_head : AllCallsKeepTheHead
all_calls_keep_the_head asked received output calls =
    let u = after_calls calls (begun asked received output) in
    let m = calls_keep calls (begun asked received output) (record { within = record { status = refl; count = omega arith; size = omega arith }; fields = refl }) in
    record { within = m.within; fields = m.fields; end = λ shape at content. heads_end_once u.head shape at content m.fields }
