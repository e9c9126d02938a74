-- The marks that moves make are the container's.
use Rattle.std.proofs.Common.{◌≡◌, ℕ, Bool, true, false, List, [], ◌∷◌, ◌++◌, Option, Some, None, refl, sym, ◌∙◌, subst, if◌then◌else◌}
use Rattle.cy_event.specs.declared.limits.Limits.{Limits}
use Rattle.cy_event.specs.declared.steps.Call.TheVariants as call
use Rattle.cy_event.specs.declared.steps.CloseCause.{CloseCause}
use Rattle.cy_event.specs.declared.steps.CloseCause.TheVariants.{InputEnd, Refused}
use Rattle.cy_event.specs.declared.steps.State.{State}
use Rattle.cy_event.specs.declared.steps.State.TheVariants as state
use Rattle.cy_event.specs.Framings.{bad_request}
use Rattle.cy_map.specs.declared.rule.Rule.{Rule}
use Rattle.cy_model.specs.Endings.{cause_behind, closing_marks_by, end_marks, ends_closed, ends_short, error_marks, failure_marks, fault_marks_by, hears_fault, is_bad_request, server_error}
use Rattle.cy_model.specs.Folds.{cause_of, state_of}
use Rattle.cy_model.specs.Laws.{AllContainers, MovesAreTheContainers, is_containers}
use Rattle.cy_model.specs.Marks.{Mark, Trace, began, called, caused, error_answer, over, refused}
use Rattle.cy_model.specs.Outputs.{is_aborted, is_committed}
use Rattle.cy_model.specs.Settling.{Due, Move, cause_and_fault, due_move, due_of, first_move, head_move, last_answer_marks, nothing, not_found, quiet_moves, refusal, request, return_marks_in, settled, with_marks}
use Rattle.cy_model.specs.Verdicts.{not_found_status}
use Rattle.cy_model.proofs.Moves.{quiet_cases}
use Rattle.cy_model.proofs.LeftToDo.{earlier_move, head_move-parts, last_move}
use Rattle.cy_model.proofs.Settlings.{settled-keeps-by}

-- ---- each move

cause_containers : (T : Trace) (k : CloseCause) → AllContainers (cause_and_fault T k)
cause_containers T k =
    elim (hears_fault T) as (λ v. AllContainers (caused k ∷ fault_marks_by v)) [ true ↦ (refl, (refl, tt)) | false ↦ (refl, tt) ]

failure_containers : (v : Bool) (status : ℕ) → AllContainers (error_marks v status)
failure_containers true status = (refl, tt)
failure_containers false status = (refl, tt)

closing_containers : (first : Option CloseCause) (broken_off short closed : Bool) → AllContainers (over ∷ closing_marks_by first (cause_behind broken_off short closed))
closing_containers None true short closed = (refl, (refl, tt))
closing_containers None false true closed = (refl, (refl, tt))
closing_containers None false false true = (refl, (refl, tt))
closing_containers None false false false = (refl, tt)
closing_containers (Some k) broken_off short closed = (refl, tt)

both_containers : (ms ns : List Mark) → AllContainers ms → AllContainers ns → AllContainers (ms ++ ns)
both_containers [] ns a b = b
both_containers (m ∷ ms) ns a b = (a.0, both_containers ms ns a.1 b)

pub end_containers : (T : Trace) → AllContainers (end_marks T)
end_containers T =
    let last = closing_containers (cause_of T) (is_aborted T) (ends_short T) (ends_closed T) in
    let behind = over ∷ closing_marks_by (cause_of T) (cause_behind (is_aborted T) (ends_short T) (ends_closed T)) in
    elim (is_bad_request (cause_of T)) as (λ v. AllContainers ((if v then failure_marks bad_request T else []) ++ behind)) [
      | true ↦ both_containers (failure_marks bad_request T) behind (failure_containers (is_committed T) bad_request) last
      | false ↦ last
    ]

return_containers : (T : Trace) (s : State) (ms : List Mark) → return_marks_in s T ≡ Some ms → AllContainers ms
return_containers T state.TimingOut ms e =
    let same : ms ≡ called call.Return None ∷ [] = cc in
    subst AllContainers (sym same) (refl, tt)
return_containers T state.Error ms e =
    let same : ms ≡ called call.Return None ∷ failure_marks server_error T = cc in
    subst AllContainers (sym same) (refl, failure_containers (is_committed T) server_error)
return_containers T state.Completing ms e =
    let same : ms ≡ called call.Return None ∷ end_marks T = cc in
    subst AllContainers (sym same) (refl, end_containers T)
return_containers T s ms e = cc

due_containers : (d : Due) (ms : List Mark) → due_move d ≡ Some ms → AllContainers ms
due_containers nothing ms e = cc
due_containers (refusal status to_head) ms e =
    let same : ms ≡ refused status to_head ∷ caused Refused ∷ [] = cc in
    subst AllContainers (sym same) (refl, (refl, tt))
due_containers (not_found r) ms e =
    let same : ms ≡ began r ∷ error_answer not_found_status ∷ over ∷ last_answer_marks r.keep = cc in
    subst AllContainers (sym same) (refl, (refl, (refl, last_containers r.keep)))
  where
    last_containers : (v : Bool) → AllContainers (last_answer_marks v)
    last_containers true = tt
    last_containers false = (refl, tt)
due_containers (request r) ms e =
    let same : ms ≡ began r ∷ [] = cc in
    subst AllContainers (sym same) (refl, tt)

quiet_containers : (limits : Limits) (T : Trace) (ms : List Mark) → first_move (quiet_moves limits T) ≡ Some ms → AllContainers ms
quiet_containers limits T ms e =
    quiet_cases limits T ms AllContainers (λ k m. cause_containers T k) (λ ns m. return_containers T (state_of T) ns m.marks) (λ m. (refl, tt)) e

head_containers : (limits : Limits) (rules : List Rule) (T : Trace) (ms : List Mark) → head_move limits rules T ≡ Some ms → AllContainers ms
head_containers limits rules T ms e = due_containers (due_of limits rules T) ms (head_move-parts limits rules T ms e).1

pub moves_are_the_containers : MovesAreTheContainers
moves_are_the_containers limits rules T ms e = by_quiet (first_move (quiet_moves limits T)) refl
  where
    same_marks : (ns : List Mark) → Some ns ≡ Some ms → ns ≡ ms
    same_marks ns q = cc

    by_quiet : (o : Move) → first_move (quiet_moves limits T) ≡ o → AllContainers ms
    by_quiet None q = head_containers limits rules T ms (sym (last_move (quiet_moves limits T) (head_move limits rules T) q) ∙ e)
    by_quiet (Some ns) q =
        subst AllContainers (same_marks ns (sym (earlier_move (quiet_moves limits T) (head_move limits rules T) ns q) ∙ e)) (quiet_containers limits T ns q)

-- ---- so what they keep is kept by settling

pub marks_keep : (P : Trace → Type 0) → ((t : ℕ) (m : Mark) (T : Trace) → is_containers m ≡ true → P T → P ((t, m) ∷ T))
    → (t : ℕ) (ms : List Mark) (T : Trace) → AllContainers ms → P T → P (with_marks t ms T)
marks_keep P keeps t [] T all p = p
marks_keep P keeps t (m ∷ ms) T all p = marks_keep P keeps t ms ((t, m) ∷ T) all.1 (keeps t m T all.0 p)

pub settled-by-marks : (limits : Limits) (rules : List Rule) (P : Trace → Type 0) → ((t : ℕ) (m : Mark) (T : Trace) → is_containers m ≡ true → P T → P ((t, m) ∷ T))
    → (t : ℕ) (T : Trace) → P T → P (settled limits rules t T)
settled-by-marks limits rules P keeps t T p =
    settled-keeps-by limits rules t P (record {
      quiet = record {
        causes = λ u k S m q. marks_keep P keeps u (cause_and_fault S k) S (cause_containers S k) q;
        returns = λ u S ms m q. marks_keep P keeps u ms S (return_containers S (state_of S) ms m.marks) q;
        input_ends = λ u S m q. keeps u (caused InputEnd) S refl q;
      };
      heads = λ u S ms e q. marks_keep P keeps u ms S (head_containers limits rules S ms e) q;
    }) T p
