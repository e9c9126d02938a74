-- How many heads of a connection are done with, by its trace: all that were taken up or refused, but the open one.
use Rattle.std.proofs.Common.{◌≡◌, ◌≤◌, ℕ, ◌+◌, Bool, true, false, cond, List, [], ◌∷◌, ◌++◌, length, length-append, Option, Some, None, refl, sym, ap, ◌∙◌, arith, if◌then◌else◌}
use Rattle.cy_event.specs.declared.limits.Limits.{Limits}
use Rattle.cy_event.specs.declared.steps.Call.{Call}
use Rattle.cy_event.specs.declared.steps.CloseCause.{CloseCause}
use Rattle.cy_event.specs.declared.steps.CloseCause.TheVariants.{InputEnd, LastAnswer, Refused}
use Rattle.cy_map.specs.declared.rule.Rule.{Rule}
use Rattle.cy_model.specs.Endings.{end_marks}
use Rattle.cy_model.specs.Entries.{Entry, trace_of}
use Rattle.cy_model.specs.Folds.{begun_count, calls, cause_of, earlier, ended_charts, is_open, requests_of}
use Rattle.cy_model.specs.Marks.{aborted, began, caused, error_answer, over, refused, TakenUp, Trace}
use Rattle.cy_model.specs.Settling.{with_marks}
use Rattle.cy_model.specs.Verdicts.{not_found_status}
use Rattle.cy_model.proofs.Ends.{requests_end_once}
use Rattle.cy_model.proofs.Growth.{nothing_is_taken_back}
use Rattle.cy_model.proofs.Moves.{EndsWith, end_keeps, may_begin-parts}
use Rattle.cy_model.proofs.TraceInduction.{IsKept, job_begins, not_found_keeps, return_keeps, returned, trace_keeps, went_on}
use Rattle.cy_world.specs.Counts.{done_count, refused_count}
use Rattle.cy_world.specs.Places.{refusals_by}
use Rattle.cy_world.proofs.Heads.{answers_none, heads_in, later_cause, move_none}

-- ---- a head that was refused closes its connection, so there is one at most

abbrev TellsRefusals : Trace → Type 0
TellsRefusals T = refused_count T ≡ refusals_by (cause_of T)

-- a cause that is none of a refusal
told_with : (t : ℕ) (k : CloseCause) (T : Trace) → refusals_by (Some k) ≡ 0 → TellsRefusals T → TellsRefusals ((t, caused k) ∷ T)
told_with t k T none told = told ∙ sym (later_cause (cause_of T) k none)

told_over : (t : ℕ) (T : Trace) → TellsRefusals T → EndsWith TellsRefusals t T
told_over t T told = record { plain = told; closes = λ k a. told_with t k ((t, over) ∷ T) (answers_none k a) told }

told_end : (t : ℕ) (T R : Trace) → TellsRefusals R → TellsRefusals (with_marks t (end_marks T) R)
told_end t T R told =
    end_keeps TellsRefusals t T R (told_over t R told) (λ status. told_over t ((t, error_answer status) ∷ R) told)
    (told_over t ((t, aborted) ∷ R) told)

told_first : (t status : ℕ) (to_head : Bool) (T : Trace) → cause_of T ≡ None → TellsRefusals T → TellsRefusals ((t, caused Refused) ∷ (t, refused status to_head) ∷ T)
told_first t status to_head T none told =
    ap (λ (n : ℕ). n + 1) (told ∙ ap refusals_by none) ∙ sym (ap (λ (o : Option CloseCause). refusals_by (earlier o Refused)) none)

told_kept : (limits : Limits) (rules : List Rule) → IsKept limits rules TellsRefusals
told_kept limits rules = record {
  opens = λ t T told. told;
  ends = λ t T told. told;
  comes = λ t b T taken told. told;
  sends = λ t n T told. told;
  causes = λ t k T m told. told_with t k T (move_none limits k T m) told;
  faults = λ t k T m hears told. told_with t k T (move_none limits k T m) told;
  times_out = λ t T q told. told;
  fails = λ t T q told. told;
  breaks_off = λ t T q told. told;
  completes = λ t T q told. told_end t T (went_on t T) told;
  input_ends = λ t T m told. told_with t InputEnd T refl told;
  refuses = λ t status to_head T may due told. told_first t status to_head T (may_begin-parts T may).1 told;
  finds_none = λ t r T may at due told.
      let S : Trace = (t, over) ∷ (t, error_answer not_found_status) ∷ (t, began r) ∷ T in
      not_found_keeps TellsRefusals t r T told (told_with t LastAnswer S refl told);
  begins = λ t r T may at due told. told;
  serves = λ t j T e told. job_begins TellsRefusals t j T (λ q. told) (λ q. told);
  gives = λ t j n T e may told. told;
  tells_end = λ t j T e may told. told;
  puts = λ t j b T e few told. told;
  returns = λ t j T e told. return_keeps TellsRefusals t T (λ q. told) (λ q. told_end t T (returned t T) told);
}

-- ---- all heads but the open one

begun_is : (T : Trace) → begun_count T ≡ length (requests_of T)
begun_is [] = refl
begun_is ((t, began r) ∷ T) = ap (λ (n : ℕ). n + 1) (begun_is T) ∙ sym (length-append (requests_of T) (r ∷ []))
begun_is ((t, m) ∷ T) = begun_is T

-- as many as are open
abbrev pub open_count : Trace → ℕ
open_count T = cond (is_open T) 1 0

-- the charts of the ended requests, and that of the open one
all_charts : (v : Bool) (ended : List (List Call)) (chart : List Call) (requests : List TakenUp) → length (if v then ended ++ chart ∷ [] else ended) ≡ length requests
    → length ended + cond v 1 0 ≡ length requests
all_charts true ended chart requests same = sym (length-append ended (chart ∷ [])) ∙ same
all_charts false ended chart requests same = omega (arith, same)

module _ (limits : Limits) (rules : List Rule) where
  told_refusals : (entries : List (ℕ × Entry)) → TellsRefusals (trace_of limits rules entries)
  told_refusals entries = trace_keeps TellsRefusals limits rules (told_kept limits rules) refl entries

  pub heads_are : (entries : List (ℕ × Entry)) → heads_in (trace_of limits rules entries) ≡ done_count (trace_of limits rules entries) + open_count (trace_of limits rules entries)
  heads_are entries =
      let T = trace_of limits rules entries in
      omega (arith, begun_is T, told_refusals entries, all_charts (is_open T) (ended_charts T) (calls T) (requests_of T) (requests_end_once limits rules entries).charts)

  -- what is done with stays so
  pub done_grows : (entries : List (ℕ × Entry)) (t : ℕ) (e : Entry) → done_count (trace_of limits rules entries) ≤ done_count (trace_of limits rules ((t, e) ∷ entries))
  done_grows entries t e =
      let T = trace_of limits rules entries in
      let R = trace_of limits rules ((t, e) ∷ entries) in
      let grows = nothing_is_taken_back limits rules t T e in
      omega (
        arith,
        ap length grows.ended.1,
        length-append (ended_charts T) grows.ended.0,
        told_refusals entries,
        told_refusals ((t, e) ∷ entries),
        more (cause_of T) (cause_of R) grows.cause,
      )
    where
      more : (a b : Option CloseCause) → ((k : CloseCause) → a ≡ Some k → b ≡ Some k) → refusals_by a ≤ refusals_by b
      more None b stays = omega arith
      more (Some k) b stays = omega (arith, ap refusals_by (stays k refl))
