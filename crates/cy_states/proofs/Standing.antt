-- A request that stands for a legal list of accepted calls stands for the list with one more, where it is accepted.
use Rattle.std.proofs.Common.{◌≡◌, Bool, true, false, cond, ◌||◌, Option, Some, None, is_some, List, [], ◌∷◌, ◌++◌, refl, ap, sym, ◌∙◌, subst}
use Rattle.cy_event.specs.declared.steps.Call.{Call}
use Rattle.cy_event.specs.declared.steps.State.{State}
use Rattle.cy_event.specs.declared.steps.State.TheVariants as state
use Rattle.cy_event.specs.declared.table.ChartItem.{ChartItem}
use Rattle.cy_event.specs.declared.table.Row.{Row}
use Rattle.cy_event.specs.declared.table.Row.TheVariants.{On, Wake, Ends}
use Rattle.cy_event.specs.Charts.{chart_of}
use Rattle.cy_event.specs.Table as table
use Rattle.cy_event.specs.Table.{row, is_end, next_state, IsLegal, state_after, has_request_ended, ends_from}
use Rattle.cy_event.proofs.Histories.{ends_from-append, legal_more, state_from-append}
use Rattle.cy_states.specs.Laws.{RequestsAreLegal, accepted_from, after_calls}
use Rattle.cy_states.specs.Progress.{IsLegalProgress, Progress, IsLeftBy, after_call, progress_after, fresh, progress_of, with_accepted, with_call}
use Rattle.cy_states.proofs.ChartsMore.{chart_more}

same_progress : (s t : State) (a b : Bool) (x y : List ChartItem) → s ≡ t → a ≡ b → x ≡ y → (let p : Progress = record { state = s; is_ended = a; chart = x } in let q : Progress = record { state = t; is_ended = b; chart = y } in p ≡ q)
same_progress s t a b x y e f g = cc

-- what an accepted call leaves
more_left : (ks : List Call) (k : Call) (r : Row) → IsLegal ks → has_request_ended ks ≡ false → row (state_after ks) k ≡ Some r → progress_after (Some r) (progress_of ks) k ≡ progress_of (ks ++ k ∷ [])
more_left ks k r legal unended is =
    let state_is : state_after (ks ++ k ∷ []) ≡ table.after_row (state_after ks) (Some r) =
    state_from-append state.Dispatched ks (k ∷ []) ∙ ap (λ (o : Option Row). table.after_row (state_after ks) o) is in
    let end_is : has_request_ended (ks ++ k ∷ []) ≡ is_end (Some r) =
    ends_from-append state.Dispatched ks (k ∷ [])
    ∙ ap (λ (b : Bool). b || ends_from (state_after ks) (k ∷ [])) unended
    ∙ ap (λ (o : Option Row). is_end o || false) is
    ∙ or_false (is_end (Some r)) in
    by_row r state_is end_is
  where
    or_false : (b : Bool) → (b || false) ≡ b
    or_false true = refl
    or_false false = refl

    chart_is : chart_of (ks ++ k ∷ []) ≡ with_call (state_after ks) k (chart_of ks)
    chart_is = chart_more state.Dispatched ks k legal

    by_row : (q : Row) → state_after (ks ++ k ∷ []) ≡ table.after_row (state_after ks) (Some q) → has_request_ended (ks ++ k ∷ []) ≡ is_end (Some q) → progress_after (Some q) (progress_of ks) k ≡ progress_of (ks ++ k ∷ [])
    by_row (On t) e f = same_progress t (state_after (ks ++ k ∷ [])) false (has_request_ended (ks ++ k ∷ [])) (with_call (state_after ks) k (chart_of ks)) (chart_of (ks ++ k ∷ [])) (sym e) (sym f) (sym chart_is)
    by_row (Wake t) e f = same_progress t (state_after (ks ++ k ∷ [])) false (has_request_ended (ks ++ k ∷ [])) (with_call (state_after ks) k (chart_of ks)) (chart_of (ks ++ k ∷ [])) (sym e) (sym f) (sym chart_is)
    by_row Ends e f = same_progress (state_after ks) (state_after (ks ++ k ∷ [])) true (has_request_ended (ks ++ k ∷ [])) (with_call (state_after ks) k (chart_of ks)) (chart_of (ks ++ k ∷ [])) (sym e) (sym f) (sym chart_is)

-- the case of an ended request, and then of each row
by_case : (ks : List Call) (k : Call) (b : Bool) (o : Option Row) → IsLegal ks → has_request_ended ks ≡ b → row (state_after ks) k ≡ o → IsLeftBy (progress_after (cond b None o) (progress_of ks) k) (cond (is_some (cond b None o)) (ks ++ k ∷ []) ks)
by_case ks k true o legal ended is = record { legal = legal; left = refl }
by_case ks k false None legal ended is = record { legal = legal; left = refl }
by_case ks k false (Some r) legal ended is = record {
  legal = legal_more state.Dispatched ks k legal ended (ap (λ (o : Option Row). is_some o) is);
  left = more_left ks k r legal ended is;
}

pub stands_more : (p : Progress) (k : Call) (ks : List Call) → IsLeftBy p ks → IsLeftBy (after_call p k) (with_accepted p k ks)
stands_more p k ks stands =
    subst (λ (q : Progress). IsLeftBy (after_call q k) (with_accepted q k ks)) (sym stands.left)
    (by_case ks k (has_request_ended ks) (row (state_after ks) k) stands.legal refl refl)

pub fresh_stands : IsLeftBy fresh []
fresh_stands = record { legal = tt; left = refl }

pub fresh_is_sound : IsLegalProgress fresh
fresh_is_sound = ([], fresh_stands)

pub sound_more : (p : Progress) (k : Call) → IsLegalProgress p → IsLegalProgress (after_call p k)
sound_more p k sound = (with_accepted p k sound.0, stands_more p k sound.0 sound.1)

pub calls_stand : (p : Progress) (accepted ks : List Call) → IsLeftBy p accepted → IsLeftBy (after_calls p ks) (accepted_from p accepted ks)
calls_stand p accepted [] stands = stands
calls_stand p accepted (k ∷ ks) stands = calls_stand (after_call p k) (with_accepted p k accepted) ks (stands_more p k accepted stands)

pub requests_are_legal : RequestsAreLegal
requests_are_legal ks = calls_stand fresh [] ks fresh_stands

-- ---- the same of what an accepted call leaves, under any spelling

accepted_as : (p q : Progress) (k : Call) (r : Row) → p.is_ended ≡ false → row p.state k ≡ Some r → progress_after (Some r) p k ≡ q → after_call p k ≡ q
accepted_as p q k r unended is left =
    ap (λ (b : Bool). progress_after (cond b None (row p.state k)) p k) unended
    ∙ ap (λ (o : Option Row). progress_after o p k) is
    ∙ left

pub sound_as : (p q : Progress) (k : Call) (r : Row) → p.is_ended ≡ false → row p.state k ≡ Some r → progress_after (Some r) p k ≡ q → IsLegalProgress p → IsLegalProgress q
sound_as p q k r unended is left sound = subst IsLegalProgress (accepted_as p q k r unended is left) (sound_more p k sound)

pub stands_as : (p q : Progress) (k : Call) (r : Row) → p.is_ended ≡ false → row p.state k ≡ Some r → progress_after (Some r) p k ≡ q → (ks : List Call) → IsLeftBy p ks → IsLeftBy q (with_accepted p k ks)
stands_as p q k r unended is left ks stands =
    subst (λ (v : Progress). IsLeftBy v (with_accepted p k ks)) (accepted_as p q k r unended is left) (stands_more p k ks stands)
