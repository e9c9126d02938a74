-- What is left to do: each step of settling is made by a move, and leaves less of it.
use Rattle.std.proofs.Common.{◌≡◌, ℕ, ◌+◌, ◌-◌, ◌*◌, ◌<◌, ◌≤◌, ◌⊎◌, inl, inr, ⊎_elim, Bool, true, false, List, [], ◌∷◌, ◌++◌, length, Option, Some, None, refl, sym, ap, ◌∙◌, subst, arith, length-drop}
use Rattle.cy_event.specs.declared.limits.Limits.{Limits}
use Rattle.cy_event.specs.declared.steps.Call.TheVariants as call
use Rattle.cy_event.specs.declared.steps.CloseCause.{CloseCause}
use Rattle.cy_event.specs.declared.steps.CloseCause.TheVariants.{InputEnd, LastAnswer, Refused}
use Rattle.cy_event.specs.declared.steps.State.{State}
use Rattle.cy_event.specs.declared.steps.State.TheVariants as state
use Rattle.cy_event.specs.Heads.{Front, awaited, found, malformed}
use Rattle.cy_event.specs.Table.{next_state}
use Rattle.cy_map.specs.declared.rule.Rule.{Rule}
use Rattle.cy_event.proofs.Fronts.{front_length-bounds, head_of-found}
use Rattle.cy_model.proofs.Moves.{end_keeps, quiet_cases, may_begin-parts, when_true}
use Rattle.cy_model.proofs.Repeats.{Falls, IsFirstOf}
use Rattle.cy_model.specs.Endings.{end_marks, error_marks, failure_marks, fault_marks_by, hears_fault, server_error}
use Rattle.cy_model.specs.Folds.{begun_count, bytes_of, cause_of, earlier, is_open, last_taken, state_of}
use Rattle.cy_model.specs.Inputs.{consumed, consumed_by, head_end, unread, used}
use Rattle.cy_model.specs.Marks.{Mark, began, called, refused, error_answer, over, caused, TakenUp, Trace}
use Rattle.cy_model.specs.Outputs.{is_committed}
use Rattle.cy_model.specs.Settling.{with_marks, Move, first_move, after_move, cause_and_fault, may_begin, front_of, Due, nothing, refusal, not_found, request, due_by_front, due_by_verdict, due_of, due_move, head_move, last_answer_marks, quiet_moves, quiet_step, return_marks_in, settle_step, enough_moves, taken_up}
use Rattle.cy_model.specs.Verdicts.{turned_away, unserved, served, verdict_of, not_found_status}

-- ---- what is left to do

-- the bytes behind the head of the last request
abbrev pub beyond : Trace → ℕ
beyond T = length (bytes_of T) - head_end (last_taken T)

-- how far an open request is from its end
abbrev pub distance : Bool → State → ℕ
distance true state.TimingOut = 3
distance true state.Error = 2
distance true state.Completing = 1
distance v s = 0

-- the bytes behind the last head, a cause that may be set, and the way to the end of the request
abbrev pub work_by : ℕ → Option CloseCause → ℕ → ℕ
work_by n None d = 16 * n + 8 + d
work_by n (Some k) d = 16 * n + d

abbrev pub left_to_do : Trace → ℕ
left_to_do T = work_by (beyond T) (cause_of T) (distance (is_open T) (state_of T))

distance-bound : (v : Bool) (s : State) → distance v s ≤ 3
distance-bound true state.TimingOut = omega arith
distance-bound true state.Error = omega arith
distance-bound true state.Completing = omega arith
distance-bound v s = omega arith

work_by-bounds : (n : ℕ) (cause : Option CloseCause) (d : ℕ) → (16 * n + d ≤ work_by n cause d) × (work_by n cause d ≤ 16 * n + 8 + d)
work_by-bounds n None d = (omega arith, omega arith)
work_by-bounds n (Some k) d = (omega arith, omega arith)

-- fewer bytes are less to do, whatever the causes are
work_by-fewer : (n m : ℕ) (cause other : Option CloseCause) (d e : ℕ) → n < m → d ≤ 3 → work_by n cause d < work_by m other e
work_by-fewer n m cause other d e h small = omega (arith, h, small, work_by-bounds n cause d, work_by-bounds m other e)

-- a first cause is less to do
work_by-cause : (n : ℕ) (k : CloseCause) (cause : Option CloseCause) (d e : ℕ) → cause ≡ None → d ≤ 3 → work_by n (earlier cause k) d < work_by n cause e
work_by-cause n k cause d e none small = subst (λ (c : Option CloseCause). work_by n (earlier c k) d < work_by n c e) (sym none) (omega (arith, small))

-- a step to the end is less to do
work_by-nearer : (n : ℕ) (cause : Option CloseCause) (d e : ℕ) → d < e → work_by n cause d < work_by n cause e
work_by-nearer n None d e h = omega (arith, h)
work_by-nearer n (Some k) d e h = omega (arith, h)

-- a cause may be set beside it
work_by-ended : (n : ℕ) (cause : Option CloseCause) (k : CloseCause) (d e : ℕ) → d < e → work_by n (earlier cause k) d < work_by n cause e
work_by-ended n None k d e h = omega (arith, h)
work_by-ended n (Some j) k d e h = omega (arith, h)

pub left_to_do-bound : (T : Trace) → left_to_do T ≤ enough_moves T
left_to_do-bound T =
    omega (arith, work_by-bounds (beyond T) (cause_of T) (distance (is_open T) (state_of T)), distance-bound (is_open T) (state_of T))

-- ---- steps

-- a step is made by a move
pub after_move-some : (t : ℕ) (T R : Trace) (o : Move) → after_move t T o ≡ Some R → (ms : List Mark) × (o ≡ Some ms) × (R ≡ with_marks t ms T)
after_move-some t T R None e = cc
after_move-some t T R (Some ms) e = (ms, refl, cc)

pub after_move-none : (t : ℕ) (T : Trace) (o : Move) → after_move t T o ≡ None → o ≡ None
after_move-none t T None e = refl
after_move-none t T (Some ms) e = cc

-- a move before the last, and the last
pub earlier_move : (moves : List Move) (last : Move) (ms : List Mark) → first_move moves ≡ Some ms → first_move (moves ++ last ∷ []) ≡ Some ms
earlier_move [] last ms e = cc
earlier_move (None ∷ moves) last ms e = earlier_move moves last ms e
earlier_move (Some ns ∷ moves) last ms e = e

pub last_move : (moves : List Move) (last : Move) → first_move moves ≡ None → first_move (moves ++ last ∷ []) ≡ last
last_move [] None e = refl
last_move [] (Some ms) e = refl
last_move (None ∷ moves) last e = last_move moves last e
last_move (Some ns ∷ moves) last e = cc

-- ---- what is due

-- a head that is taken up is the one that stands at the front of what waits
unfoldable pub DueTakes : ℕ → Front → Due → Type 0
DueTakes place f nothing = Unit {0}
DueTakes place f (refusal status to_head) = Unit {0}
DueTakes place f (not_found r) = (f ≡ found r.size r.head) × (r.place ≡ place)
DueTakes place f (request r) = (f ≡ found r.size r.head) × (r.place ≡ place)

pub due_takes : (limits : Limits) (rules : List Rule) (place number : ℕ) (f : Front) → DueTakes place f (due_by_front limits rules place number f)
unfolding DueTakes
due_takes limits rules place number awaited = tt
due_takes limits rules place number malformed = tt
due_takes limits rules place number (found n h) =
    elim (verdict_of rules h) as (λ v. DueTakes place (found n h) (due_by_verdict limits place number n h v)) [
      | turned_away status ↦ tt
      | unserved f ↦ (refl, refl)
      | served rule f ↦ (refl, refl)
    ]

-- the marks of a head move
pub record IsHeadMove (limits : Limits) (T : Trace) (ms : List Mark) : Type 0 where
  pub may : may_begin T ≡ true
  pub due : Due
  pub takes : DueTakes (consumed T) (front_of limits T) due
  pub marks : due_move due ≡ Some ms

pub head_move-parts : (limits : Limits) (rules : List Rule) (T : Trace) (ms : List Mark) → head_move limits rules T ≡ Some ms
    → (may_begin T ≡ true) × (due_move (due_of limits rules T) ≡ Some ms)
head_move-parts limits rules T ms e = when_true (may_begin T) (due_move (due_of limits rules T)) ms e

head_move-some : (limits : Limits) (rules : List Rule) (T : Trace) (ms : List Mark) → head_move limits rules T ≡ Some ms → IsHeadMove limits T ms
head_move-some limits rules T ms e =
    let w = head_move-parts limits rules T ms e in
    record {
      may = w.0;
      due = due_of limits rules T;
      takes = due_takes limits rules (consumed T) (begun_count T + 1) (front_of limits T);
      marks = w.1;
    }

-- ---- each move leaves less to do

-- a head that is found stands in the bytes behind the last head
fewer_beyond : (limits : Limits) (t : ℕ) (T : Trace) (r : TakenUp) → front_of limits T ≡ found r.size r.head → r.place ≡ consumed T
    → beyond ((t, began r) ∷ T) < beyond T
fewer_beyond limits t T r front place =
    let bounds = front_length-bounds (unread T) r.size (head_of-found limits.max_head limits.max_fields (unread T) r.size r.head front) in
    omega (arith, bounds, place, length-drop (consumed T) (bytes_of T), head_before (last_taken T) (used T))
  where
    head_before : (o : Option TakenUp) (n : ℕ) → head_end o ≤ consumed_by o n
    head_before None n = omega arith
    head_before (Some r) n = omega arith

due_falls : (limits : Limits) (t : ℕ) (T : Trace) (d : Due) (ms : List Mark) → cause_of T ≡ None → DueTakes (consumed T) (front_of limits T) d → due_move d ≡ Some ms → left_to_do (with_marks t ms T) < left_to_do T
unfolding DueTakes
due_falls limits t T nothing ms none takes e = cc
due_falls limits t T (refusal status to_head) ms none takes e =
    let same : ms ≡ refused status to_head ∷ caused Refused ∷ [] = cc in
    subst (λ (ns : List Mark). left_to_do (with_marks t ns T) < left_to_do T) (sym same)
    (work_by-cause (beyond T) Refused (cause_of T) _ _ none (distance-bound (is_open T) state.Dispatched))
due_falls limits t T (not_found r) ms none takes e =
    let same : ms ≡ began r ∷ error_answer not_found_status ∷ over ∷ last_answer_marks r.keep = cc in
    let fewer = fewer_beyond limits t T r takes.0 takes.1 in
    subst (λ (ns : List Mark). left_to_do (with_marks t ns T) < left_to_do T) (sym same)
    (elim r.keep as (λ v. left_to_do (with_marks t (began r ∷ error_answer not_found_status ∷ over ∷ last_answer_marks v) T) < left_to_do T) [
      | true ↦ work_by-fewer _ _ (cause_of T) (cause_of T) 0 _ fewer (omega arith)
      | false ↦ work_by-fewer _ _ (earlier (cause_of T) LastAnswer) (cause_of T) 0 _ fewer (omega arith)
    ])
due_falls limits t T (request r) ms none takes e =
    let same : ms ≡ began r ∷ [] = cc in
    subst (λ (ns : List Mark). left_to_do (with_marks t ns T) < left_to_do T) (sym same)
    (work_by-fewer _ _ (cause_of T) (cause_of T) 0 _ (fewer_beyond limits t T r takes.0 takes.1) (omega arith))

taken_up-falls : (limits : Limits) (rules : List Rule) (t : ℕ) → Falls left_to_do (taken_up limits rules t)
taken_up-falls limits rules t T R e =
    let w = after_move-some t T R (head_move limits rules T) e in
    let h = head_move-some limits rules T w.0 w.1 in
    subst (λ (S : Trace). left_to_do S < left_to_do T) (sym w.2)
    (due_falls limits t T h.due w.0 (may_begin-parts T h.may).1 h.takes h.marks)

-- a cause, with the fault that is told of it
cause_falls : (t : ℕ) (T : Trace) (k : CloseCause) → cause_of T ≡ None → left_to_do (with_marks t (cause_and_fault T k) T) < left_to_do T
cause_falls t T k none =
    elim (hears_fault T) as (λ v. left_to_do (with_marks t (caused k ∷ fault_marks_by v) T) < left_to_do T) [
      | true ↦ work_by-cause (beyond T) k (cause_of T) _ _ none (distance-bound (is_open T) (next_state (state_of T) call.Fault))
      | false ↦ work_by-cause (beyond T) k (cause_of T) _ _ none (distance-bound (is_open T) (state_of T))
    ]

-- the way to the end becomes shorter by a return
nearer : (o : Bool) (s to : State) → o ≡ true → s ≡ to → distance true (next_state to call.Return) < distance true to
    → distance o (next_state s call.Return) < distance o s
nearer o s to is_open is_state shorter = rw (is_open, is_state) shorter

at_end : (o : Bool) (s : State) → o ≡ true → s ≡ state.Completing → 0 < distance o s
at_end o s is_open is_state = rw (is_open, is_state) (omega arith)

return_falls : (t : ℕ) (T : Trace) (s : State) (ms : List Mark) → is_open T ≡ true → state_of T ≡ s → return_marks_in s T ≡ Some ms
    → left_to_do (with_marks t ms T) < left_to_do T
return_falls t T state.TimingOut ms o s e =
    let same : ms ≡ called call.Return None ∷ [] = cc in
    subst (λ (ns : List Mark). left_to_do (with_marks t ns T) < left_to_do T) (sym same)
    (work_by-nearer (beyond T) (cause_of T) _ _ (nearer (is_open T) (state_of T) state.TimingOut o s (omega arith)))
return_falls t T state.Error ms o s e =
    let same : ms ≡ called call.Return None ∷ failure_marks server_error T = cc in
    let near = nearer (is_open T) (state_of T) state.Error o s (omega arith) in
    subst (λ (ns : List Mark). left_to_do (with_marks t ns T) < left_to_do T) (sym same)
    (elim (is_committed T) as (λ v. left_to_do (with_marks t (called call.Return None ∷ error_marks v server_error) T) < left_to_do T) [
      | true ↦ work_by-nearer (beyond T) (cause_of T) _ _ near
      | false ↦ work_by-nearer (beyond T) (cause_of T) _ _ near
    ])
return_falls t T state.Completing ms o s e =
    let same : ms ≡ called call.Return None ∷ end_marks T = cc in
    let near = at_end (is_open T) (state_of T) o s in
    let R : Trace = (t, called call.Return None) ∷ T in
    subst (λ (ns : List Mark). left_to_do (with_marks t ns T) < left_to_do T) (sym same)
    (end_keeps (λ S. left_to_do S < left_to_do T) t T R
    (record { plain = work_by-nearer (beyond T) (cause_of T) 0 _ near; closes = λ k q. work_by-ended (beyond T) (cause_of T) k 0 _ near })
    (λ status. record { plain = work_by-nearer (beyond T) (cause_of T) 0 _ near; closes = λ k q. work_by-ended (beyond T) (cause_of T) k 0 _ near })
    (record { plain = work_by-nearer (beyond T) (cause_of T) 0 _ near; closes = λ k q. work_by-ended (beyond T) (cause_of T) k 0 _ near }))
return_falls t T s ms o is e = cc

end_falls : (t : ℕ) (T : Trace) → cause_of T ≡ None → left_to_do ((t, caused InputEnd) ∷ T) < left_to_do T
end_falls t T none = work_by-cause (beyond T) InputEnd (cause_of T) _ _ none (distance-bound (is_open T) (state_of T))

pub quiet_step-falls : (limits : Limits) (t : ℕ) → Falls left_to_do (quiet_step limits t)
quiet_step-falls limits t T R e =
    let w = after_move-some t T R (first_move (quiet_moves limits T)) e in
    subst (λ (S : Trace). left_to_do S < left_to_do T) (sym w.2)
    (quiet_cases limits T w.0 (λ ms. left_to_do (with_marks t ms T) < left_to_do T)
    (λ k m. cause_falls t T k m.none)
    (λ ms m. return_falls t T (state_of T) ms m.open_now refl m.marks)
    (λ m. end_falls t T (may_begin-parts T m.may).1)
    w.1)

-- a settling step is the first of the two that applies
pub settle_step-two : (limits : Limits) (rules : List Rule) (t : ℕ) → IsFirstOf (settle_step limits rules t) (quiet_step limits t) (taken_up limits rules t)
settle_step-two limits rules t = record {
  before = λ T R e.
      let w = after_move-some t T R (first_move (quiet_moves limits T)) e in
      ap (after_move t T) (earlier_move (quiet_moves limits T) (head_move limits rules T) w.0 w.1) ∙ ap Some (sym w.2);
  after = λ T e.
      ap (after_move t T) (last_move (quiet_moves limits T) (head_move limits rules T) (after_move-none t T (first_move (quiet_moves limits T)) e));
}

-- it is one of the two
pub settle_step-some : (limits : Limits) (rules : List Rule) (t : ℕ) (T R : Trace) → settle_step limits rules t T ≡ Some R → (quiet_step limits t T ≡ Some R) ⊎ (taken_up limits rules t T ≡ Some R)
settle_step-some limits rules t T R e =
    elim (quiet_step limits t T) as (λ o. quiet_step limits t T ≡ o → (o ≡ Some R) ⊎ (taken_up limits rules t T ≡ Some R)) [
      | None ↦ λ q. inr (sym ((settle_step-two limits rules t).after T q) ∙ e)
      | Some S ↦ λ q. inl (sym ((settle_step-two limits rules t).before T S q) ∙ e)
    ] refl

pub settle_step-falls : (limits : Limits) (rules : List Rule) (t : ℕ) → Falls left_to_do (settle_step limits rules t)
settle_step-falls limits rules t T R e =
    ⊎_elim (quiet_step-falls limits t T R) (taken_up-falls limits rules t T R) (settle_step-some limits rules t T R e)
