-- Settling comes to an end: its bound is never reached, what each move keeps is kept, and no move applies then.
use Rattle.std.proofs.Common.{◌≡◌, ℕ, ◌+◌, ◌≤◌, ⊎_elim, Bool, true, false, not, ◌&&◌, List, [], ◌∷◌, ◌++◌, Some, None, refl, sym, ap, ◌∙◌, subst, arith, if◌then◌else◌}
use Rattle.cy_event.specs.declared.limits.Limits.{Limits}
use Rattle.cy_event.specs.declared.steps.CloseCause.{CloseCause}
use Rattle.cy_event.specs.declared.steps.CloseCause.TheVariants.{InputEnd}
use Rattle.cy_event.specs.Heads.{Front, awaited, found, malformed}
use Rattle.cy_map.specs.declared.rule.Rule.{Rule}
use Rattle.cy_model.proofs.Moves.{IsCauseMove, IsEndMove, IsReturnMove, quiet_cases}
use Rattle.cy_model.proofs.Repeats.{until_none-none, until_none-rests, until_none-bound, until_none-step, until_none-first, until_none-size, until_none-second, until_none-keeps}
use Rattle.cy_model.specs.Folds.{begun_count, has_ended}
use Rattle.cy_model.specs.Inputs.{consumed}
use Rattle.cy_model.specs.Marks.{Mark, caused, Trace}
use Rattle.cy_model.specs.Settling.{with_marks, Move, first_move, after_move, cause_and_fault, may_begin, front_of, due_by_front, due_by_verdict, due_of, due_move, head_move, is_awaited, end_move, next_move, quiet_moves, quiet_step, body_move, input_move, return_move, settle_step, enough_moves, rested, taken_up, settled, rested_and_taken_up}
use Rattle.cy_model.specs.Verdicts.{turned_away, unserved, served, verdict_of}
use Rattle.cy_model.proofs.LeftToDo.{after_move-none, after_move-some, last_move, left_to_do, left_to_do-bound, quiet_step-falls, settle_step-falls, settle_step-some, settle_step-two}

-- ---- the laws

-- settling goes on where its first step leads
pub settled-step : (limits : Limits) (rules : List Rule) (t : ℕ) (T R : Trace) → settle_step limits rules t T ≡ Some R → settled limits rules t T ≡ settled limits rules t R
unfolding settled
settled-step limits rules t T R e =
    until_none-step left_to_do (settle_step limits rules t) (settle_step-falls limits rules t) (enough_moves T) (enough_moves R) T R e (left_to_do-bound T) (left_to_do-bound R)

-- what each move by these rules keeps is kept
pub record KeepsQuietMoves (limits : Limits) (P : Trace → Type 0) : Type 0 where
  pub causes : (t : ℕ) (k : CloseCause) (T : Trace) → IsCauseMove limits k T → P T → P (with_marks t (cause_and_fault T k) T)
  pub returns : (t : ℕ) (T : Trace) (ms : List Mark) → IsReturnMove T ms → P T → P (with_marks t ms T)
  pub input_ends : (t : ℕ) (T : Trace) → IsEndMove limits T → P T → P ((t, caused InputEnd) ∷ T)

pub record KeepsMovesBy (limits : Limits) (rules : List Rule) (P : Trace → Type 0) : Type 0 where
  pub quiet : KeepsQuietMoves limits P
  pub heads : (t : ℕ) (T : Trace) (ms : List Mark) → head_move limits rules T ≡ Some ms → P T → P (with_marks t ms T)

quiet_keeps : (limits : Limits) (t : ℕ) (P : Trace → Type 0) → KeepsQuietMoves limits P → (T R : Trace) → quiet_step limits t T ≡ Some R → P T → P R
quiet_keeps limits t P k T R e p =
    let w = after_move-some t T R (first_move (quiet_moves limits T)) e in
    subst P (sym w.2)
    (quiet_cases limits T w.0 (λ ms. P (with_marks t ms T)) (λ c m. k.causes t c T m p) (λ ms m. k.returns t T ms m p) (λ m. k.input_ends t T m p) w.1)

step_keeps : (limits : Limits) (rules : List Rule) (t : ℕ) (P : Trace → Type 0) → KeepsMovesBy limits rules P → (T R : Trace)
    → settle_step limits rules t T ≡ Some R → P T → P R
step_keeps limits rules t P k T R e p =
    ⊎_elim
    (λ quiet. quiet_keeps limits t P k.quiet T R quiet p)
    (λ head.
    let w = after_move-some t T R (head_move limits rules T) head in
    subst P (sym w.2) (k.heads t T w.0 w.1 p))
    (settle_step-some limits rules t T R e)

pub settled-keeps-by : (limits : Limits) (rules : List Rule) (t : ℕ) (P : Trace → Type 0) → KeepsMovesBy limits rules P → (T : Trace) → P T → P (settled limits rules t T)
unfolding settled
settled-keeps-by limits rules t P k T p =
    until_none-keeps P (settle_step limits rules t) (step_keeps limits rules t P k) (enough_moves T) T p

-- the same of resting
pub rested-keeps : (limits : Limits) (t : ℕ) (P : Trace → Type 0) → KeepsQuietMoves limits P → (T : Trace) → P T → P (rested limits t T)
unfolding rested
rested-keeps limits t P k T p = until_none-keeps P (quiet_step limits t) (quiet_keeps limits t P k) (enough_moves T) T p

pub rested-step : (limits : Limits) (t : ℕ) (T R : Trace) → quiet_step limits t T ≡ Some R → rested limits t T ≡ rested limits t R
unfolding rested
rested-step limits t T R e =
    until_none-step left_to_do (quiet_step limits t) (quiet_step-falls limits t) (enough_moves T) (enough_moves R) T R e (left_to_do-bound T) (left_to_do-bound R)

pub rested-done : (limits : Limits) (t : ℕ) (T : Trace) → quiet_step limits t T ≡ None → rested limits t T ≡ T
unfolding rested
rested-done limits t T e = until_none-none (quiet_step limits t) (enough_moves T) T e

-- nothing is done where no step applies
pub settled-done : (limits : Limits) (rules : List Rule) (t : ℕ) (T : Trace) → settle_step limits rules t T ≡ None → settled limits rules t T ≡ T
unfolding settled
settled-done limits rules t T e = until_none-none (settle_step limits rules t) (enough_moves T) T e

-- no move applies to what is settled
pub settled-rests : (limits : Limits) (rules : List Rule) (t : ℕ) (T : Trace) → next_move limits rules (settled limits rules t T) ≡ None
unfolding settled
settled-rests limits rules t T =
    let S = settled limits rules t T in
    after_move-none t S (next_move limits rules S)
    (until_none-rests left_to_do (settle_step limits rules t) (settle_step-falls limits rules t) (enough_moves T) T (left_to_do-bound T))

rested-rests : (limits : Limits) (t : ℕ) (T : Trace) → quiet_step limits t (rested limits t T) ≡ None
unfolding rested
rested-rests limits t T =
    until_none-rests left_to_do (quiet_step limits t) (quiet_step-falls limits t) (enough_moves T) T (left_to_do-bound T)

rested-size : (limits : Limits) (t : ℕ) (T : Trace) → left_to_do (rested limits t T) ≤ left_to_do T
unfolding rested
rested-size limits t T = until_none-size left_to_do (quiet_step limits t) (quiet_step-falls limits t) (enough_moves T) T

-- settling what is rested is settling
pub settled-rested : (limits : Limits) (rules : List Rule) (t : ℕ) (T : Trace) → settled limits rules t (rested limits t T) ≡ settled limits rules t T
unfolding settled rested
settled-rested limits rules t T =
    let f = settle_step limits rules t in
    let R = rested limits t T in
    until_none-bound left_to_do f (settle_step-falls limits rules t) (enough_moves R) (enough_moves T) R (left_to_do-bound R)
    (omega (arith, rested-size limits t T, left_to_do-bound T))
    ∙ sym (until_none-first left_to_do f (quiet_step limits t) (taken_up limits rules t) (settle_step-two limits rules t) (settle_step-falls limits rules t) (enough_moves T) (enough_moves T) T (left_to_do-bound T))

-- a head that is taken up when all else is at rest is the next move of settling
pub settled-taken : (limits : Limits) (rules : List Rule) (t : ℕ) (T R : Trace) → taken_up limits rules t (rested limits t T) ≡ Some R → settled limits rules t T ≡ settled limits rules t R
settled-taken limits rules t T R e =
    sym (settled-rested limits rules t T)
    ∙ settled-step limits rules t (rested limits t T) R ((settle_step-two limits rules t).after (rested limits t T) (rested-rests limits t T) ∙ e)

-- where no head is due then, all is settled
pub settled-at-rest : (limits : Limits) (rules : List Rule) (t : ℕ) (T : Trace) → taken_up limits rules t (rested limits t T) ≡ None → settled limits rules t T ≡ rested limits t T
settled-at-rest limits rules t T e =
    sym (settled-rested limits rules t T)
    ∙ settled-done limits rules t (rested limits t T) ((settle_step-two limits rules t).after (rested limits t T) (rested-rests limits t T) ∙ e)

-- none is due while none may be taken up, or while one is awaited
pub none-due : (limits : Limits) (rules : List Rule) (t : ℕ) (T : Trace) → (may_begin T && not (is_awaited (front_of limits T))) ≡ false → taken_up limits rules t T ≡ None
none-due limits rules t T e = ap (after_move t T) (none_moves (may_begin T) (consumed T) (begun_count T + 1) (front_of limits T) e)
  where
    none_moves : (may : Bool) (place number : ℕ) (f : Front) → (may && not (is_awaited f)) ≡ false → (if may then due_move (due_by_front limits rules place number f) else None) ≡ None
    none_moves false place number f e = refl
    none_moves true place number awaited e = refl
    none_moves true place number malformed e = cc
    none_moves true place number (found n h) e = cc

-- rested and taken up together are settling
pub rested_and_taken_up-settled : (limits : Limits) (rules : List Rule) (t : ℕ) (T : Trace) → rested_and_taken_up limits rules t T ≡ settled limits rules t T
unfolding rested_and_taken_up
rested_and_taken_up-settled limits rules t T =
    until_none-second left_to_do (settle_step limits rules t) (quiet_step limits t) (taken_up limits rules t) (rested limits t) (settled limits rules t)
    (settle_step-two limits rules t) (settle_step-falls limits rules t)
    (record {
      rests = rested-rests limits t;
      same = settled-rested limits rules t;
      smaller = rested-size limits t;
      step = settled-step limits rules t;
      done = settled-done limits rules t;
    })
    (enough_moves T) (rested limits t T) (rested-rests limits t T)
    (omega (arith, rested-size limits t T, left_to_do-bound T))
    ∙ settled-rested limits rules t T

-- where a head may be taken up and none is due, it is awaited
awaited_where_none : (limits : Limits) (rules : List Rule) (place number : ℕ) (f : Front) → due_move (due_by_front limits rules place number f) ≡ None → is_awaited f ≡ true
awaited_where_none limits rules place number awaited e = refl
awaited_where_none limits rules place number malformed e = cc
awaited_where_none limits rules place number (found n h) e =
    elim (verdict_of rules h) as (λ v. due_move (due_by_verdict limits place number n h v) ≡ None → is_awaited (found n h) ≡ true) [
      | turned_away status ↦ λ d. cc
      | unserved f ↦ λ d. cc
      | served rule f ↦ λ d. cc
    ] e

-- where no move applies, neither does the last, nor one before it
none_before : (moves : List Move) (last : Move) → first_move (moves ++ last ∷ []) ≡ None → first_move moves ≡ None
none_before [] last e = refl
none_before (None ∷ moves) last e = none_before moves last e
none_before (Some ms ∷ moves) last e = cc

none_last : (moves : List Move) (last : Move) → first_move (moves ++ last ∷ []) ≡ None → last ≡ None
none_last moves last e = sym (last_move moves last (none_before moves last e)) ∙ e

fourth_none : (a b c d : Move) → first_move (a ∷ b ∷ c ∷ d ∷ []) ≡ None → d ≡ None
fourth_none None None None None e = refl
fourth_none None None None (Some ms) e = cc
fourth_none None None (Some ms) d e = cc
fourth_none None (Some ms) c d e = cc
fourth_none (Some ms) b c d e = cc

-- where no move applies and a head may be taken up, it is awaited
pub awaited_at_rest : (limits : Limits) (rules : List Rule) (T : Trace) → next_move limits rules T ≡ None → may_begin T ≡ true → is_awaited (front_of limits T) ≡ true
awaited_at_rest limits rules T rests may =
    awaited_where_none limits rules (consumed T) (begun_count T + 1) (front_of limits T)
    (sym (ap (λ (v : Bool). if v then due_move (due_of limits rules T) else None) may) ∙ none_last (quiet_moves limits T) (head_move limits rules T) rests)

-- and the input has not ended
pub goes_on_at_rest : (limits : Limits) (rules : List Rule) (T : Trace) → next_move limits rules T ≡ None → may_begin T ≡ true → has_ended T ≡ false
goes_on_at_rest limits rules T rests may =
    by_tests (may_begin T) (has_ended T) (is_awaited (front_of limits T)) may (awaited_at_rest limits rules T rests may)
    (fourth_none (body_move limits T) (input_move T) (return_move T) (end_move limits T) (none_before (quiet_moves limits T) (head_move limits rules T) rests))
  where
    by_tests : (may has_ended awaits : Bool) → may ≡ true → awaits ≡ true
        → (if may && (has_ended && awaits) then Some (caused InputEnd ∷ []) else None) ≡ None → has_ended ≡ false
    by_tests true true true m a e = cc
    by_tests true true false m a e = cc
    by_tests true false awaits m a e = refl
    by_tests false has_ended awaits m a e = cc
