-- What is left to do of a line: a head that is taken up or refused makes it less, and what the socket tells makes it more
-- by the bytes that came at most.
use Rattle.std.proofs.Common.{◌≡◌, ◌≤◌, ℕ, ◌+◌, ◌<◌, ◌++◌, Bool, true, false, not, ◌&&◌, ◌||◌, ◌==◌, leb, List, length, Option, Some, None, is_none, refl, ap, arith, length-drop, length-append, length-take, take, if◌then◌else◌}
use Rattle.std.proofs.lemmas.Bool.{and_parts}
use Rattle.cy_event.specs.declared.limits.Limits.{Limits}
use Rattle.cy_event.specs.declared.steps.Event.{Event}
use Rattle.cy_event.specs.declared.steps.Event.TheVariants as event
use Rattle.cy_event.specs.declared.steps.CloseCause.{CloseCause}
use Rattle.cy_event.specs.Answers.{Answer, answer_text, error_answer}
use Rattle.cy_event.specs.Heads.{Front, awaited, found, malformed}
use Rattle.cy_event.proofs.Fronts.{front_length-bounds, head_of-found}
use Rattle.cy_in.specs.Intakes.{after_swallow, is_whole, taken_by}
use Rattle.cy_map.specs.declared.rule.Rule.{Rule}
use Rattle.cy_model.specs.Settling.{Due, nothing, refusal, not_found, request, due_by_front, due_by_verdict, is_awaited, begin_bound}
use Rattle.cy_model.specs.Verdicts.{turned_away, unserved, served, not_found_status, verdict_of}
use Rattle.cy_proc.specs.Lines.{LineParts}
use Rattle.cy_proc.specs.LineChanges.{after_begin, after_end_of, after_event, after_rest, after_told, cause_after, cause_at_rest, causes_left, closed_request, connection_by, front_at, gone_on, is_closed_line, is_due, may_begin_line, passed_line, room_of, scanned_line, with_more, work_of}
use Rattle.cy_proc.specs.ProcessorChanges.{due_at, line_with}

-- ---- each head makes the work less

cause_count : (c : Option CloseCause) → causes_left c ≤ 1
cause_count None = omega arith
cause_count (Some k) = omega arith

pub work_after_rest : (limits : Limits) (l : LineParts) → work_of (after_rest limits l) ≤ work_of l
work_after_rest limits l =
    elim l.cause as (λ o. l.cause ≡ o → work_of (if is_none o then record l { cause = cause_at_rest limits l } else l) ≤ work_of l) [
      | None ↦ λ e. omega (arith, cause_count (cause_at_rest limits l), ap causes_left e)
      | Some k ↦ λ e. omega arith
    ] refl

-- what is passed over makes it no more, nor does what is scanned
passed_work : (l : LineParts) → work_of (passed_line l) ≤ work_of l
passed_work l = omega (arith, length-drop (taken_by l.body (after_swallow l.body.max_trailer l.body l.unread)) l.unread)

gone_on_work : (l : LineParts) → work_of (gone_on l) ≤ work_of l
gone_on_work l =
    elim (l.is_open || l.begun == 0) as (λ v. work_of (if v then scanned_line l else passed_line l) ≤ work_of l) [ true ↦ omega arith | false ↦ passed_work l ]

closed_work : (keep : Bool) (l : LineParts) → work_of (closed_request keep l) ≤ length l.unread + 1
closed_work keep l =
    omega (arith, length-drop (taken_by l.body (after_swallow l.body.max_trailer l.body l.unread)) l.unread, cause_count (cause_after keep l.cause))

end_work : (keep : Bool) (minor : ℕ) (a : Answer) (l : LineParts) → work_of (after_end_of keep minor a l) ≤ length l.unread + 1
end_work keep minor a l = closed_work keep (record l { unsent = l.unsent ++ answer_text a l.moment (connection_by keep l.cause minor) })

-- a head that is found has a byte at least, and stands in what waits
FindsHead : Due → LineParts → Type 0
FindsHead nothing l = ⊥
FindsHead (refusal status to_head) l = Unit {0}
FindsHead (not_found r) l = (1 ≤ r.size) × (r.size ≤ length l.unread)
FindsHead (request r) l = (1 ≤ r.size) × (r.size ≤ length l.unread)

less_work : (d : Due) (l : LineParts) → l.cause ≡ None → FindsHead d l → work_of (line_with d l) < work_of l
unfolding FindsHead
less_work nothing l none finds = absurd finds
less_work (refusal status to_head) l none finds = omega (arith, ap causes_left none)
less_work (not_found r) l none finds =
    omega (
      arith,
      finds.0,
      finds.1,
      length-drop r.size l.unread,
      ap causes_left none,
      end_work r.keep r.head.minor (error_answer not_found_status) (after_begin r.size r.framing r.max_trailer r.go_on l),
    )
less_work (request r) l none finds =
    omega (arith, finds.0, finds.1, length-drop r.size l.unread, ap causes_left none)

finds_head : (limits : Limits) (rules : List Rule) (number : ℕ) (l : LineParts) (f : Front) → front_at limits l ≡ f → is_awaited f ≡ false → FindsHead (due_by_front limits rules 0 number f) l
unfolding FindsHead
finds_head limits rules number l awaited at some = cc
finds_head limits rules number l malformed at some = tt
finds_head limits rules number l (found n h) at some =
    let bounds = front_length-bounds l.unread n (head_of-found limits.max_head limits.max_fields l.unread n h at) in
    elim (verdict_of rules h) as (λ v. FindsHead (due_by_verdict limits 0 number n h v) l) [
      | turned_away status ↦ tt
      | unserved f ↦ bounds
      | served rule f ↦ bounds
    ]

not_true : (v : Bool) → not v ≡ true → v ≡ false
not_true true e = cc
not_true false e = refl

no_cause : (c : Option CloseCause) → is_none c ≡ true → c ≡ None
no_cause None e = refl
no_cause (Some k) e = cc

pub opened_less : (limits : Limits) (rules : List Rule) (l taken new : LineParts) → is_due limits l ≡ true → taken ≡ line_with (due_at limits rules l) l → new ≡ after_rest limits taken → work_of new < work_of l
opened_less limits rules l taken new due begun rests =
    let tests = and_parts (may_begin_line l) (not (is_awaited (front_at limits l))) due in
    let fits = is_whole l.body.scanned.stage && leb (length l.unsent) begin_bound in
    let may = and_parts (not l.is_open) (is_none l.cause && fits) tests.0 in
    let none = no_cause l.cause (and_parts (is_none l.cause) fits may.1).0 in
    let less = less_work (due_at limits rules l) l none (finds_head limits rules (l.begun + 1) l (front_at limits l) refl (not_true (is_awaited (front_at limits l)) tests.1)) in
    omega (arith, less, work_after_rest limits taken, ap work_of rests, ap work_of begun)

-- ---- what the socket tells makes it more by the bytes that came

work_of_event : (e : Event) (b : List ℕ) (l : LineParts) → work_of (after_event e b l) ≤ work_of l + length b
work_of_event event.In b l =
    let some = take (room_of l) b in
    omega (arith, gone_on_work (with_more some l), length-append l.unread some, length-take (room_of l) b)
work_of_event event.End b l = omega arith
work_of_event (event.Took n) b l = omega arith

pub told_work : (limits : Limits) (e : Event) (b : List ℕ) (l : LineParts) → work_of (after_told limits e b l) ≤ work_of l + length b
told_work limits e b l =
    elim (is_closed_line e l) as (λ v. work_of (if v then l else after_rest limits (after_event e b l)) ≤ work_of l + length b) [
      | true ↦ omega arith
      | false ↦ omega (arith, work_after_rest limits (after_event e b l), work_of_event e b l)
    ]
