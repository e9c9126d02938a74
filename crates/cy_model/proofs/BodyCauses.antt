-- Where a connection closes for a body, the bytes that came say so.
use Rattle.std.proofs.Common.{◌≡◌, ◌<◌, ◌⊎◌, ⊎_elim, ℕ, ◌+◌, ◌-◌, Bool, true, false, List, ◌∷◌, Option, Some, None, is_some, ltb-true, nat_lt, arith, refl, sym, ap, ◌∙◌, if◌then◌else◌}
use Rattle.std.proofs.lemmas.Bool.{or_left}
use Rattle.cy_event.specs.declared.limits.Limits.{Limits}
use Rattle.cy_event.specs.declared.steps.CloseCause.{CloseCause}
use Rattle.cy_event.specs.declared.steps.CloseCause.TheVariants.{BadBody, InputEnd, LastAnswer, Refused, SwallowLimit}
use Rattle.cy_event.specs.declared.steps.Event.TheVariants as event
use Rattle.cy_map.specs.declared.rule.Rule.{Rule}
use Rattle.cy_model.specs.Endings.{end_marks}
use Rattle.cy_model.specs.Entries.{is_closed_to}
use Rattle.cy_model.specs.Folds.{cause_of, earlier, has_ended, is_open}
use Rattle.cy_model.specs.Inputs.{has_bad_body, scan_of, swallowed, used, used_at_end}
use Rattle.cy_model.specs.Laws.{BodiesDecide}
use Rattle.cy_model.specs.Marks.{aborted, error_answer, Trace}
use Rattle.cy_model.specs.Settling.{bad_place, body_cause, body_cause_by, swallow_place, with_marks}
use Rattle.cy_model.proofs.Built.{owed_open}
use Rattle.cy_model.proofs.Ends.{Ends, ends_kept, nothing_ends, runs_open}
use Rattle.cy_model.proofs.Moves.{EndsWith, IsCauseMove, end_keeps, is_answers, may_begin-parts}
use Rattle.cy_model.proofs.TraceInduction.{IsKept, job_begins, not_found_keeps, return_keeps, returned, trace_keeps, went_on}

both : (v : Bool) → v ≡ true → v ≡ false → ⊥
both v p q = cc

-- a later cause of another kind is not the first
first_cause : (known : CloseCause) (first : Option CloseCause) (k : CloseCause) → (k ≡ known → ⊥) → earlier first k ≡ Some known → first ≡ Some known
first_cause known None k other e = absurd (other cc)
first_cause known (Some j) k other e = e

no_cause : (known : CloseCause) (first : Option CloseCause) → first ≡ None → first ≡ Some known → ⊥
no_cause known first none e = cc

-- nothing is taken of the input of a connection that closes
still_taken : (known : CloseCause) (T : Trace) → is_closed_to event.In T ≡ false → cause_of T ≡ Some known → ⊥
still_taken known T taken e =
    let closed = or_left (is_some (cause_of T)) (has_ended T) (ap is_some e) in
    cc

-- ---- a body is a cause

of_first : (first : Option CloseCause) (k known : CloseCause) → first ≡ None → earlier first k ≡ Some known → k ≡ known
of_first None k known n q = cc
of_first (Some j) k known n q = cc

bad_decides : (v : Bool) (raw : ℕ) (swallow : Option ℕ) → body_cause_by (if v then Some raw else None) swallow ≡ Some BadBody → v ≡ true
bad_decides true raw swallow q = refl
bad_decides false raw None q = cc
bad_decides false raw (Some place) q = cc

long_decides : (bad : Option ℕ) (v : Bool) (place : ℕ) → body_cause_by bad (if v then Some place else None) ≡ Some SwallowLimit → v ≡ true
long_decides bad true place q = refl
long_decides None false place q = cc
long_decides (Some raw) false place q = cc

-- while a request is open nothing is passed over
passed_over : (limits : Limits) (T : Trace) → nat_lt limits.max_swallow (swallowed T) ≡ true → (is_open T ≡ false) × (limits.max_swallow < swallowed T)
passed_over limits T long = (
  elim (is_open T) as (λ v. nat_lt limits.max_swallow (if v then 0 else used T - used_at_end T) ≡ true → v ≡ false) [
    | true ↦ λ q. absurd (omega (arith, ltb-true limits.max_swallow 0 q))
    | false ↦ λ q. refl
  ] long,
  ltb-true limits.max_swallow (swallowed T) long,
)

cause_of_bad : (limits : Limits) (k : CloseCause) (T : Trace) → IsCauseMove limits k T → earlier (cause_of T) k ≡ Some BadBody → has_bad_body T ≡ true
cause_of_bad limits k T m e =
    let is = of_first (cause_of T) k BadBody m.none e in
    ⊎_elim (λ (b : body_cause limits T ≡ Some k). bad_decides (has_bad_body T) (scan_of T).raw (swallow_place limits T) (b ∙ ap Some is))
    (λ i. absurd (input_other (sym i.0 ∙ is))) m.why
  where
    input_other : InputEnd ≡ BadBody → ⊥
    input_other q = cc

cause_of_long : (limits : Limits) (k : CloseCause) (T : Trace) → IsCauseMove limits k T → earlier (cause_of T) k ≡ Some SwallowLimit
    → (is_open T ≡ false) × (limits.max_swallow < swallowed T)
cause_of_long limits k T m e =
    let is = of_first (cause_of T) k SwallowLimit m.none e in
    ⊎_elim (λ (b : body_cause limits T ≡ Some k). passed_over limits T
    (long_decides (bad_place T) (nat_lt limits.max_swallow (swallowed T)) (used_at_end T + limits.max_swallow) (b ∙ ap Some is)))
    (λ i. absurd (input_other (sym i.0 ∙ is))) m.why
  where
    input_other : InputEnd ≡ SwallowLimit → ⊥
    input_other q = cc

-- ---- what is known

abbrev IsBadSo : Trace → Type 0
IsBadSo T = cause_of T ≡ Some BadBody → has_bad_body T ≡ true

abbrev IsNotLong : Trace → Type 0
IsNotLong T = cause_of T ≡ Some SwallowLimit → ⊥

record Decides (limits : Limits) (T : Trace) : Type 0 where
  ends : Ends T
  bad : IsBadSo T
  long : cause_of T ≡ Some SwallowLimit → (is_open T ≡ false) × (limits.max_swallow < swallowed T)

open_isnt_long : (limits : Limits) (T : Trace) → Decides limits T → is_open T ≡ true → IsNotLong T
open_isnt_long limits T d o e = both (is_open T) o (d.long e).0

-- ---- ends

answers_are_others : (known k : CloseCause) → is_answers known ≡ false → is_answers k ≡ true → k ≡ known → ⊥
answers_are_others known k other a e = both (is_answers k) a (ap is_answers e ∙ other)

over_bad : (t : ℕ) (T : Trace) → IsBadSo T → EndsWith IsBadSo t T
over_bad t T b = record { plain = b; closes = λ k a e. b (first_cause BadBody (cause_of T) k (answers_are_others BadBody k refl a) e) }

end_bad : (t : ℕ) (T R : Trace) → IsBadSo R → IsBadSo (with_marks t (end_marks T) R)
end_bad t T R b = end_keeps IsBadSo t T R (over_bad t R b) (λ status. over_bad t ((t, error_answer status) ∷ R) b) (over_bad t ((t, aborted) ∷ R) b)

over_not_long : (t : ℕ) (T : Trace) → IsNotLong T → EndsWith IsNotLong t T
over_not_long t T n = record {
  plain = n;
  closes = λ k a e. n (first_cause SwallowLimit (cause_of T) k (answers_are_others SwallowLimit k refl a) e);
}

end_not_long : (t : ℕ) (T R : Trace) → IsNotLong R → IsNotLong (with_marks t (end_marks T) R)
end_not_long t T R n =
    end_keeps IsNotLong t T R (over_not_long t R n) (λ status. over_not_long t ((t, error_answer status) ∷ R) n) (over_not_long t ((t, aborted) ∷ R) n)

decides_kept : (limits : Limits) (rules : List Rule) → IsKept limits rules (Decides limits)
decides_kept limits rules =
    let k = ends_kept limits rules in
    record {
      opens = λ t T d. record { ends = k.opens t T d.ends; bad = d.bad; long = d.long };
      ends = λ t T d. record { ends = k.ends t T d.ends; bad = d.bad; long = d.long };
      comes = λ t b T taken d. record {
        ends = k.comes t b T taken d.ends;
        bad = λ e. absurd (still_taken BadBody T taken e);
        long = λ e. absurd (still_taken SwallowLimit T taken e);
      };
      sends = λ t n T d. record { ends = k.sends t n T d.ends; bad = d.bad; long = d.long };
      causes = λ t c T m d. record { ends = k.causes t c T m d.ends; bad = λ e. cause_of_bad limits c T m e; long = λ e. cause_of_long limits c T m e };
      faults = λ t c T m hears d. record {
        ends = k.faults t c T m hears d.ends;
        bad = λ e. cause_of_bad limits c T m e;
        long = λ e. cause_of_long limits c T m e;
      };
      times_out = λ t T q d. record {
        ends = k.times_out t T q d.ends;
        bad = d.bad;
        long = λ e. absurd (open_isnt_long limits T d q.open_now e);
      };
      fails = λ t T q d. record { ends = k.fails t T q d.ends; bad = d.bad; long = λ e. absurd (open_isnt_long limits T d q.open_now e) };
      breaks_off = λ t T q d. record {
        ends = k.breaks_off t T q d.ends;
        bad = d.bad;
        long = λ e. absurd (open_isnt_long limits T d q.open_now e);
      };
      completes = λ t T q d. record {
        ends = k.completes t T q d.ends;
        bad = end_bad t T (went_on t T) d.bad;
        long = λ e. absurd (end_not_long t T (went_on t T) (open_isnt_long limits T d q.open_now) e);
      };
      input_ends = λ t T end d. record {
        ends = k.input_ends t T end d.ends;
        bad = λ e. d.bad (first_cause BadBody (cause_of T) InputEnd (λ q. cc) e);
        long = λ e. d.long (first_cause SwallowLimit (cause_of T) InputEnd (λ q. cc) e);
      };
      refuses = λ t status to_head T may due d.
          let none = (may_begin-parts T may).1 in record {
            ends = k.refuses t status to_head T may due d.ends;
            bad = λ e. absurd (no_cause BadBody (cause_of T) none (first_cause BadBody (cause_of T) Refused (λ q. cc) e));
            long = λ e. absurd (no_cause SwallowLimit (cause_of T) none (first_cause SwallowLimit (cause_of T) Refused (λ q. cc) e));
          };
      finds_none = λ t r T may at due d.
          let none = (may_begin-parts T may).1 in record {
            ends = k.finds_none t r T may at due d.ends;
            bad = λ e. absurd (not_found_keeps (λ S. cause_of S ≡ Some BadBody → ⊥) t r T (no_cause BadBody (cause_of T) none)
                (λ c. no_cause BadBody (cause_of T) none (first_cause BadBody (cause_of T) LastAnswer (λ q. cc) c)) e);
            long = λ e. absurd (not_found_keeps IsNotLong t r T (no_cause SwallowLimit (cause_of T) none)
                (λ c. no_cause SwallowLimit (cause_of T) none (first_cause SwallowLimit (cause_of T) LastAnswer (λ q. cc) c)) e);
          };
      begins = λ t r T may at due d.
          let none = (may_begin-parts T may).1 in record {
            ends = k.begins t r T may at due d.ends;
            bad = λ e. absurd (no_cause BadBody (cause_of T) none e);
            long = λ e. absurd (no_cause SwallowLimit (cause_of T) none e);
          };
      serves = λ t j T e d.
          let o = owed_open T j e in record {
            ends = k.serves t j T e d.ends;
            bad = job_begins IsBadSo t j T (λ q. d.bad) (λ q. d.bad);
            long = λ c. absurd (job_begins IsNotLong t j T (λ q. open_isnt_long limits T d o) (λ q. open_isnt_long limits T d o) c);
          };
      gives = λ t j n T e may d. record {
        ends = k.gives t j n T e may d.ends;
        bad = d.bad;
        long = λ c. absurd (open_isnt_long limits T d (runs_open T j d.ends e) c);
      };
      tells_end = λ t j T e may d. record {
        ends = k.tells_end t j T e may d.ends;
        bad = d.bad;
        long = λ c. absurd (open_isnt_long limits T d (runs_open T j d.ends e) c);
      };
      puts = λ t j b T e few d. record {
        ends = k.puts t j b T e few d.ends;
        bad = d.bad;
        long = λ c. absurd (open_isnt_long limits T d (runs_open T j d.ends e) c);
      };
      returns = λ t j T e d.
          let n = open_isnt_long limits T d (runs_open T j d.ends e) in record {
            ends = k.returns t j T e d.ends;
            bad = return_keeps IsBadSo t T (λ q. d.bad) (λ q. end_bad t T (returned t T) d.bad);
            long = λ c. absurd (return_keeps IsNotLong t T (λ q. n) (λ q. end_not_long t T (returned t T) n) c);
          };
    }

pub bodies_decide : BodiesDecide
bodies_decide limits rules entries =
    let d = trace_keeps (Decides limits) limits rules (decides_kept limits rules) (record { ends = nothing_ends; bad = λ e. cc; long = λ e. cc }) entries in
    record { bad = d.bad; long = λ e. (d.long e).1 }
