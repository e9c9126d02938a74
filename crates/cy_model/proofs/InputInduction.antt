-- What only the bytes that come and the heads that are taken up change.
use Rattle.std.proofs.Common.{◌≡◌, ◌⊎◌, inl, inr, ℕ, Bool, true, false, List, ◌∷◌, None, refl}
use Rattle.cy_event.specs.declared.limits.Limits.{Limits}
use Rattle.cy_event.specs.declared.steps.Call.TheVariants as call
use Rattle.cy_event.specs.declared.steps.CloseCause.TheVariants.{InputEnd, LastAnswer, Refused}
use Rattle.cy_event.specs.declared.steps.Event.TheVariants as event
use Rattle.cy_map.specs.declared.rule.Rule.{Rule}
use Rattle.cy_model.specs.Endings.{end_marks, server_error}
use Rattle.cy_model.specs.Entries.{is_closed_to}
use Rattle.cy_model.specs.Marks.{Mark, opened, ended, end_given, came, given, sent, back, began, refused, called, over, started, put, error_answer, aborted, caused, TakenUp, Trace}
use Rattle.cy_model.specs.Settling.{due_of, may_begin, not_found, request, with_marks}
use Rattle.cy_model.specs.Verdicts.{not_found_status}
use Rattle.cy_model.proofs.Moves.{EndsWith, end_keeps}
use Rattle.cy_model.proofs.TraceInduction.{IsKept, IsTakenAt, job_begins, not_found_keeps, return_keeps, returned, went_on}

-- bytes come, or a head is taken up
abbrev pub brings : Mark → Bool
brings (came b) = true
brings (began r) = true
brings m = false

pub record KeptByInput (limits : Limits) (rules : List Rule) (P : Trace → Type 0) : Type 0 where
  pub others : (t : ℕ) (m : Mark) (T : Trace) → brings m ≡ false → P T → P ((t, m) ∷ T)
  pub comes : (t : ℕ) (b : List ℕ) (T : Trace) → is_closed_to event.In T ≡ false → P T → P ((t, came b) ∷ T)
  pub begins : (t : ℕ) (r : TakenUp) (T : Trace) → may_begin T ≡ true → IsTakenAt limits r T
      → (due_of limits rules T ≡ request r) ⊎ (due_of limits rules T ≡ not_found r) → P T → P ((t, began r) ∷ T)

module _ (P : Trace → Type 0) (limits : Limits) (rules : List Rule) (k : KeptByInput limits rules P) where
  over_kept : (t : ℕ) (T : Trace) → P T → EndsWith P t T
  over_kept t T p =
      let ended_here = k.others t over T refl p in
      record { plain = ended_here; closes = λ c q. k.others t (caused c) ((t, over) ∷ T) refl ended_here }

  end_kept : (t : ℕ) (T R : Trace) → P R → P (with_marks t (end_marks T) R)
  end_kept t T R p =
      end_keeps P t T R (over_kept t R p)
      (λ status. over_kept t ((t, error_answer status) ∷ R) (k.others t (error_answer status) R refl p))
      (over_kept t ((t, aborted) ∷ R) (k.others t aborted R refl p))

  pub kept_by_input : IsKept limits rules P
  kept_by_input = record {
    opens = λ t T p. k.others t opened T refl p;
    ends = λ t T p. k.others t ended T refl p;
    comes = k.comes;
    sends = λ t n T p. k.others t (sent n) T refl p;
    causes = λ t c T m p. k.others t (caused c) T refl p;
    faults = λ t c T m hears p. k.others t (called call.Fault None) ((t, caused c) ∷ T) refl (k.others t (caused c) T refl p);
    times_out = λ t T q p. k.others t (called call.Return None) T refl p;
    fails = λ t T q p. k.others t (error_answer server_error) (went_on t T) refl (k.others t (called call.Return None) T refl p);
    breaks_off = λ t T q p. k.others t aborted (went_on t T) refl (k.others t (called call.Return None) T refl p);
    completes = λ t T q p. end_kept t T (went_on t T) (k.others t (called call.Return None) T refl p);
    input_ends = λ t T end p. k.others t (caused InputEnd) T refl p;
    refuses = λ t status to_head T may due p.
        k.others t (caused Refused) ((t, refused status to_head) ∷ T) refl (k.others t (refused status to_head) T refl p);
    finds_none = λ t r T may at due p.
        let B : Trace = (t, began r) ∷ T in
        let e = over_kept t ((t, error_answer not_found_status) ∷ B) (k.others t (error_answer not_found_status) B refl (k.begins t r T may at (inr due) p)) in
        not_found_keeps P t r T e.plain (e.closes LastAnswer refl);
    begins = λ t r T may at due p. k.begins t r T may at (inl due) p;
    serves = λ t j T e p.
        let begun = k.others t (started j) T refl p in
        job_begins P t j T (λ e. begun) (λ e. k.others t (called call.Run None) ((t, started j) ∷ T) refl begun);
    gives = λ t j n T e may p. k.others t (given n) T refl p;
    tells_end = λ t j T e may p. k.others t end_given T refl p;
    puts = λ t j b T e few p. k.others t (put b) T refl p;
    returns = λ t j T e p.
        let here = k.others t (called call.Return None) ((t, back) ∷ T) refl (k.others t back T refl p) in
        return_keeps P t T (λ e. here) (λ e. end_kept t T (returned t T) here);
  }
