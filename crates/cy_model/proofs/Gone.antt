-- A connection that is gone stays gone, and nothing is added to its output.
use Rattle.std.proofs.Common.{◌≡◌, ℕ, Bool, true, false, not, ◌&&◌, ◌==◌, leb, List, [], ◌∷◌, length, Option, Some, None, is_none, is_some, option_map, refl, ap, ◌∙◌, if◌then◌else◌}
use Rattle.std.proofs.lemmas.Bool.{and_left, and_parts, and_right, or_left}
use Rattle.cy_event.specs.declared.limits.Limits.{Limits}
use Rattle.cy_event.specs.declared.steps.CloseCause.TheVariants.{InputEnd}
use Rattle.cy_event.specs.declared.steps.Event.{Event}
use Rattle.cy_event.specs.declared.steps.Event.TheVariants as event
use Rattle.cy_map.specs.declared.rule.Rule.{Rule}
use Rattle.cy_model.specs.Entries.{opening, tick, on_event, on_run, on_act, after, is_closed_to}
use Rattle.cy_model.specs.Folds.{cause_of, has_ended, is_broken, is_open, state_of}
use Rattle.cy_model.specs.Inputs.{has_whole_body}
use Rattle.cy_model.specs.Laws.{GoneStaysGone, StaysGone}
use Rattle.cy_model.specs.Marks.{opened, caused, Trace}
use Rattle.cy_model.specs.Outputs.{is_gone, output, unsent}
use Rattle.cy_model.specs.Settling.{after_move, begin_bound, body_cause, body_move, cause_and_fault, due_move, due_of, end_move, first_move, front_of, head_move, input_move, is_awaited, is_quiet, may_begin, next_move, return_marks_in, return_move, settled}
use Rattle.cy_model.proofs.Moves.{false_where}
use Rattle.cy_model.proofs.Settlings.{settled-done}

-- ---- where there is a cause, or a request is open, no move applies

some_not_none : {X : Type 0} (o : Option X) → is_some o ≡ true → is_none o ≡ false
some_not_none None e = cc
some_not_none (Some x) e = refl

pub may_not_begin : (T : Trace) → is_some (cause_of T) ≡ true → may_begin T ≡ false
may_not_begin T e =
    let rest = has_whole_body T && leb (length (unsent T)) begin_bound in
    and_right (not (is_open T)) (is_none (cause_of T) && rest) (and_left (is_none (cause_of T)) rest (some_not_none (cause_of T) e))

-- while a request is open no head may be taken up
pub open_may_not_begin : (T : Trace) → is_open T ≡ true → may_begin T ≡ false
open_may_not_begin T e =
    ap (λ (v : Bool). not v && (is_none (cause_of T) && (has_whole_body T && leb (length (unsent T)) begin_bound))) e

-- ---- no move applies where none of the five does

pub all_still : (limits : Limits) (rules : List Rule) (T : Trace) → body_move limits T ≡ None → input_move T ≡ None → return_move T ≡ None
    → end_move limits T ≡ None → head_move limits rules T ≡ None → next_move limits rules T ≡ None
all_still limits rules T a b c d e = λ i. first_move (a i ∷ b i ∷ c i ∷ d i ∷ e i ∷ [])

pub no_end : (limits : Limits) (T : Trace) → may_begin T ≡ false → end_move limits T ≡ None
no_end limits T e = ap (λ (v : Bool). if v && (has_ended T && is_awaited (front_of limits T)) then Some (caused InputEnd ∷ []) else None) e

pub no_head : (limits : Limits) (rules : List Rule) (T : Trace) → may_begin T ≡ false → head_move limits rules T ≡ None
no_head limits rules T e = ap (λ (v : Bool). if v then due_move (due_of limits rules T) else None) e

-- there is a cause, and no request is open
closed_still : (limits : Limits) (rules : List Rule) (T : Trace) → is_some (cause_of T) ≡ true → is_open T ≡ false → next_move limits rules T ≡ None
closed_still limits rules T cause_set closed =
    let set = some_not_none (cause_of T) cause_set in
    let may = may_not_begin T cause_set in
    all_still limits rules T
    (ap (λ (v : Bool). if v then option_map (cause_and_fault T) (body_cause limits T) else None) set)
    (ap (λ (v : Bool). if v && (has_ended T && not (has_whole_body T)) then Some (cause_and_fault T InputEnd) else None) set)
    (ap (λ (v : Bool). if v && is_quiet T then return_marks_in (state_of T) T else None) closed)
    (no_end limits T may) (no_head limits rules T may)

-- ---- where it is gone

gone_has_cause : (T : Trace) → is_gone T ≡ true → is_some (cause_of T) ≡ true
gone_has_cause T gone = (and_parts (is_some (cause_of T)) (not (is_open T) && (length (unsent T) == 0)) gone).0

gone_is_closed : (T : Trace) → is_gone T ≡ true → is_open T ≡ false
gone_is_closed T gone =
    let parts = and_parts (is_some (cause_of T)) (not (is_open T) && (length (unsent T) == 0)) gone in
    false_where (is_open T) (and_parts (not (is_open T)) (length (unsent T) == 0) parts.1).0

settled_gone : (limits : Limits) (rules : List Rule) (t : ℕ) (T : Trace) → is_gone T ≡ true → settled limits rules t T ≡ T
settled_gone limits rules t T gone =
    settled-done limits rules t T (ap (after_move t T) (closed_still limits rules T (gone_has_cause T gone) (gone_is_closed T gone)))

closed_where_gone : (e : Event) (T : Trace) → is_gone T ≡ true → is_closed_to e T ≡ true
closed_where_gone event.In T gone = or_left (is_some (cause_of T)) (has_ended T) (gone_has_cause T gone)
closed_where_gone event.End T gone = or_left (is_some (cause_of T)) (has_ended T) (gone_has_cause T gone)
closed_where_gone (event.Took n) T gone = or_left (is_gone T) (is_broken T) gone

chosen : (v : Bool) (T R : Trace) → v ≡ true → (if v then T else R) ≡ T
chosen v T R e = ap (λ (b : Bool). if b then T else R) e

-- where an entry leads to a trace that is gone with the same output
still_gone : (T R S : Trace) → S ≡ R → is_gone R ≡ true → output R ≡ output T → StaysGone T S
still_gone T R S same gone written = record { gone = ap is_gone same ∙ gone; written = ap output same ∙ written }

-- no entry but an opening changes the trace
pub gone_stays_gone : GoneStaysGone
unfolding after
gone_stays_gone limits rules t T opening gone =
    let R : Trace = (t, opened) ∷ T in
    still_gone T R (settled limits rules t R) (settled_gone limits rules t R gone) gone refl
gone_stays_gone limits rules t T tick gone = still_gone T T (settled limits rules t T) (settled_gone limits rules t T gone) gone refl
gone_stays_gone limits rules t T (on_event e b) gone =
    still_gone T T _ (chosen (is_closed_to e T) T _ (closed_where_gone e T gone)) gone refl
gone_stays_gone limits rules t T on_run gone = still_gone T T _ (chosen (is_gone T) T _ gone) gone refl
gone_stays_gone limits rules t T (on_act a b) gone = still_gone T T _ (chosen (is_gone T) T _ gone) gone refl
