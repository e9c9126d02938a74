-- What a complete decides, and what a complete or dispatch of another thread waits for.
use Rattle.std.proofs.Common.{◌≡◌, ◌≤◌, Bool, true, false, ◌&&◌, ◌||◌, not, Option, Some, None, IsSome, is_none, List, [], ◌∷◌, ◌++◌, length, All, refl, ap, ◌∙◌, subst, arith}
use Rattle.std.proofs.lemmas.Bool.{and_from, and_left, and_parts, not-true, or_from}
use Rattle.std.proofs.lemmas.List.Elements.{All-nil, All-cons}
use Rattle.cy_event.specs.declared.steps.Call.{Call}
use Rattle.cy_event.specs.declared.steps.Call.TheVariants as call
use Rattle.cy_event.specs.declared.steps.State.{State}
use Rattle.cy_event.specs.declared.steps.State.TheVariants as state
use Rattle.cy_event.specs.declared.table.Row.{Row}
use Rattle.cy_event.specs.Table.{row, next_state, is_end, IsLegalFrom, IsLegal, state_from, state_after, ends_from, has_request_ended}
use Rattle.cy_event.proofs.Histories.{first_has_row, rest_is_legal, back_is_legal, front_is_legal, state_from-append, ends_from-append, nothing_follows_an_end}
use Rattle.cy_states.specs.Rules.{implies, is_coming_back, is_complete, is_completed, is_from_other, is_in_callback, is_pending, may_end}
use Rattle.cy_states.specs.Laws.{CompleteDecides, OnlyReturnsEnd, OthersWaitForTheCallback}
use Rattle.cy_states.proofs.Cells.{cell_completes, cell_ends_rightly, cell_is_kept, cell_stays_completed, cell_waits_for_callback}

-- ---- tests

implied : (a b : Bool) → implies a b ≡ true → a ≡ true → b ≡ true
implied true b h e = h
implied false b h e = cc

row_or : (o : Option Row) (b : Bool) → (is_none o || b) ≡ true → IsSome o → b ≡ true
row_or None b h some = cc
row_or (Some r) b h some = h

no_row_or : (o : Option Row) (b : Bool) → (is_none o || b) ≡ true → b ≡ false → o ≡ None
no_row_or None b h e = refl
no_row_or (Some r) b h e = cc

-- ---- a completed request

completed_by : (s : State) (k : Call) → is_complete k ≡ true → IsSome (row s k) → is_completed (next_state s k) ≡ true
completed_by s k complete some = row_or (row s k) (is_completed (next_state s k)) (implied (is_complete k) (is_none (row s k) || is_completed (next_state s k)) (cell_completes s k) complete) some

-- what a completed state says of a call
stays : (s : State) (k : Call) → is_completed s ≡ true → (is_none (row s k) || (is_coming_back k && is_completed (next_state s k))) ≡ true
stays s k completed = implied (is_completed s) (is_none (row s k) || (is_coming_back k && is_completed (next_state s k))) (cell_stays_completed s k) completed

goes_on : (s : State) (k : Call) → is_completed s ≡ true → IsSome (row s k) → (is_coming_back k ≡ true) × (is_completed (next_state s k) ≡ true)
goes_on s k completed some =
    and_parts (is_coming_back k) (is_completed (next_state s k)) (row_or (row s k) (is_coming_back k && is_completed (next_state s k)) (stays s k completed) some)

refuses : (s : State) (k : Call) → is_completed s ≡ true → is_coming_back k ≡ false → row s k ≡ None
refuses s k completed other = no_row_or (row s k) (is_coming_back k && is_completed (next_state s k)) (stays s k completed) (and_left (is_coming_back k) (is_completed (next_state s k)) other)

all_come_back : (s : State) (js : List Call) → is_completed s ≡ true → IsLegalFrom s js → All (λ j. is_coming_back j ≡ true) js
all_come_back s [] completed legal = All-nil (λ (j : Call). is_coming_back j ≡ true)
all_come_back s (j ∷ js) completed legal =
    let on = goes_on s j completed (first_has_row s j js legal) in
    All-cons (λ (i : Call). is_coming_back i ≡ true) j js on.0 (all_come_back (next_state s j) js on.1 (rest_is_legal s j js legal))

stays_by : (s : State) (js : List Call) → is_completed s ≡ true → IsLegalFrom s js → is_completed (state_from s js) ≡ true
stays_by s [] completed legal = completed
stays_by s (j ∷ js) completed legal =
    let on = goes_on s j completed (first_has_row s j js legal) in
    stays_by (next_state s j) js on.1 (rest_is_legal s j js legal)

-- ---- it takes two calls at most

-- in COMPLETING a call that is accepted ends the request
completing_ends : (k : Call) → IsSome (row state.Completing k) → is_end (row state.Completing k) ≡ true
completing_ends call.Return some = refl
completing_ends k some = cc

completing_is_short : (js : List Call) → IsLegalFrom state.Completing js → length js ≤ 1
completing_is_short [] legal = omega arith
completing_is_short (j ∷ []) legal = omega arith
completing_is_short (j ∷ i ∷ js) legal = let ends = completing_ends j legal.0 in cc

must_complete_leads : (k : Call) → IsSome (row state.MustComplete k) → next_state state.MustComplete k ≡ state.Completing
must_complete_leads call.Return some = refl
must_complete_leads call.Fail some = refl
must_complete_leads k some = cc

complete_pending_leads : (k : Call) → IsSome (row state.CompletePending k) → next_state state.CompletePending k ≡ state.Completing
complete_pending_leads call.Return some = refl
complete_pending_leads call.Fail some = refl
complete_pending_leads k some = cc

then_short : (s : State) (js : List Call) → s ≡ state.Completing → IsLegalFrom s js → length js ≤ 1
then_short s js e legal = completing_is_short js (subst (λ (v : State). IsLegalFrom v js) e legal)

pub few_follow : (s : State) (js : List Call) → is_completed s ≡ true → IsLegalFrom s js → length js ≤ 2
few_follow s [] completed legal = omega arith
few_follow state.Completing (j ∷ js) completed legal = omega (arith, completing_is_short (j ∷ js) legal)
few_follow state.MustComplete (j ∷ js) completed legal =
    omega (arith, then_short (next_state state.MustComplete j) js (must_complete_leads j (first_has_row state.MustComplete j js legal)) (rest_is_legal state.MustComplete j js legal))
few_follow state.CompletePending (j ∷ js) completed legal =
    omega (arith, then_short (next_state state.CompletePending j) js (complete_pending_leads j (first_has_row state.CompletePending j js legal)) (rest_is_legal state.CompletePending j js legal))
few_follow s (j ∷ js) completed legal = cc

-- ---- the laws

pub only_returns_end : OnlyReturnsEnd
only_returns_end s k ends = implied (is_end (row s k)) (may_end s k) (cell_ends_rightly s k) ends

pub complete_decides : CompleteDecides
complete_decides ks js k complete legal =
    let front = front_is_legal state.Dispatched (ks ++ k ∷ []) js legal in
    let some : IsSome (row (state_after ks) k) = back_is_legal state.Dispatched ks (k ∷ []) front in
    let s : State = next_state (state_after ks) k in
    let here : state_after (ks ++ k ∷ []) ≡ s = state_from-append state.Dispatched ks (k ∷ []) in
    let completed : is_completed s ≡ true = completed_by (state_after ks) k complete some in
    let rest : IsLegalFrom s js = subst (λ (v : State). IsLegalFrom v js) here (back_is_legal state.Dispatched (ks ++ k ∷ []) js legal) in
    let there : state_after ((ks ++ k ∷ []) ++ js) ≡ state_from s js = state_from-append state.Dispatched (ks ++ k ∷ []) js ∙ ap (λ (v : State). state_from v js) here in
    record {
      accepted = all_come_back s js completed rest;
      few = few_follow s js completed rest;
      refused = λ j other. ap (λ (v : State). row v j) there ∙ refuses (state_from s js) j (stays_by s js completed rest) other;
      completed = ap (λ (v : State). is_completed v) there ∙ stays_by s js completed rest;
    }

-- a history that goes on hasn't ended
goes_on_open : (ks : List Call) (k : Call) (b : Bool) → has_request_ended ks ≡ b → IsLegal (ks ++ k ∷ []) → has_request_ended ks ≡ false
goes_on_open ks k true e legal = let none = nothing_follows_an_end state.Dispatched ks (k ∷ []) legal e in cc
goes_on_open ks k false e legal = e

-- a call that ends nothing leaves the request open
open_after : (ks : List Call) (k : Call) → IsLegal (ks ++ k ∷ []) → is_end (row (state_after ks) k) ≡ false → has_request_ended (ks ++ k ∷ []) ≡ false
open_after ks k legal no_end =
    ends_from-append state.Dispatched ks (k ∷ [])
    ∙ or_from (has_request_ended ks) (ends_from (state_after ks) (k ∷ [])) (goes_on_open ks k (has_request_ended ks) refl legal) (or_from (is_end (row (state_after ks) k)) false no_end refl)

-- what a pending state says of a call that is accepted
waits : (s : State) (j : Call) → is_pending s ≡ true → IsSome (row s j) → (is_coming_back j ≡ true) × (not (is_end (row s j)) ≡ true)
waits s j pending some =
    and_parts (is_coming_back j) (not (is_end (row s j)))
    (row_or (row s j) (is_coming_back j && not (is_end (row s j))) (implied (is_pending s) (is_none (row s j) || (is_coming_back j && not (is_end (row s j)))) (cell_waits_for_callback s j) pending) some)

pub others_wait : OthersWaitForTheCallback
others_wait ks k from_other in_callback legal =
    let was : State = state_after ks in
    let here : state_after (ks ++ k ∷ []) ≡ next_state was k = state_from-append state.Dispatched ks (k ∷ []) in
    let asked : (is_in_callback was && is_from_other k) ≡ true = and_from (is_in_callback was) (is_from_other k) in_callback from_other in
    let kept = and_parts (not (is_end (row was k))) (is_pending (next_state was k)) (implied (is_in_callback was && is_from_other k) (not (is_end (row was k)) && is_pending (next_state was k)) (cell_is_kept was k) asked) in
    let pending : is_pending (state_after (ks ++ k ∷ [])) ≡ true = ap is_pending here ∙ kept.1 in
    record {
      unended = open_after ks k legal (not-true (is_end (row was k)) kept.0);
      next = λ j more. (accepted j pending more).0;
      still = λ j more.
          open_after (ks ++ k ∷ []) j more (not-true (is_end (row (state_after (ks ++ k ∷ [])) j)) (accepted j pending more).1);
    }
  where
    accepted : (j : Call) → is_pending (state_after (ks ++ k ∷ [])) ≡ true → IsLegal (ks ++ k ∷ [] ++ j ∷ []) → (is_coming_back j ≡ true) × (not (is_end (row (state_after (ks ++ k ∷ [])) j)) ≡ true)
    accepted j pending more = waits (state_after (ks ++ k ∷ [])) j pending (back_is_legal state.Dispatched (ks ++ k ∷ []) (j ∷ []) more)
