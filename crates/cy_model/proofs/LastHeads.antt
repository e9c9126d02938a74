-- Where a connection closes for the end of its input, no head was left.
use Rattle.std.proofs.Common.{◌≡◌, ◌⊎◌, inl, inr, ⊎_elim, ℕ, Bool, true, false, List, ◌∷◌, Option, Some, None, is_some, sym, ap, ◌∙◌, nat_le, if◌then◌else◌}
use Rattle.std.proofs.lemmas.Bool.{or_left}
use Rattle.cy_event.specs.declared.limits.Limits.{Limits}
use Rattle.cy_event.specs.declared.steps.CloseCause.{CloseCause}
use Rattle.cy_event.specs.declared.steps.CloseCause.TheVariants.{BadBody, InputEnd, LastAnswer, Refused, SwallowLimit}
use Rattle.cy_event.specs.declared.steps.Event.TheVariants as event
use Rattle.cy_map.specs.declared.rule.Rule.{Rule}
use Rattle.cy_model.specs.Endings.{end_marks}
use Rattle.cy_model.specs.Entries.{is_closed_to}
use Rattle.cy_model.specs.Folds.{cause_of, earlier, has_ended, is_open}
use Rattle.cy_model.specs.Inputs.{has_whole_body}
use Rattle.cy_model.specs.Laws.{NoHeadIsLost}
use Rattle.cy_model.specs.Marks.{aborted, error_answer, Trace}
use Rattle.cy_model.specs.Settling.{bad_place, body_cause, body_cause_by, front_of, is_awaited, swallow_place, with_marks}
use Rattle.cy_model.proofs.Built.{owed_open}
use Rattle.cy_model.proofs.Ends.{Ends, ends_kept, nothing_ends, runs_open}
use Rattle.cy_model.proofs.Moves.{EndsWith, IsCauseMove, end_keeps, is_answers, may_begin-parts}
use Rattle.cy_model.proofs.TraceInduction.{IsKept, job_begins, not_found_keeps, return_keeps, returned, trace_keeps, went_on}

-- the input ended inside a body
abbrev IsCutOff : Trace → Type 0
IsCutOff T = cause_of T ≡ Some InputEnd → has_whole_body T ≡ false

-- or where a head is awaited, while no request is open
record Lasts (limits : Limits) (T : Trace) : Type 0 where
  ends : Ends T
  last : cause_of T ≡ Some InputEnd → (has_whole_body T ≡ false) ⊎ ((is_open T ≡ false) × (is_awaited (front_of limits T) ≡ true))

both : (v : Bool) → v ≡ true → v ≡ false → ⊥
both v p q = cc

open_cut_off : (limits : Limits) (T : Trace) → Lasts limits T → is_open T ≡ true → IsCutOff T
open_cut_off limits T l o e = ⊎_elim (λ cut_off. cut_off) (λ closed. absurd (both (is_open T) o closed.0)) (l.last e)

-- a later cause of another kind is not the first
first_cause : (first : Option CloseCause) (k : CloseCause) → (k ≡ InputEnd → ⊥) → earlier first k ≡ Some InputEnd → first ≡ Some InputEnd
first_cause None k other e = absurd (other cc)
first_cause (Some j) k other e = e

no_cause : (first : Option CloseCause) → first ≡ None → first ≡ Some InputEnd → ⊥
no_cause first none e = cc

-- nothing is taken of an input that has ended
still_taken : (T : Trace) → is_closed_to event.In T ≡ false → cause_of T ≡ Some InputEnd → ⊥
still_taken T taken e =
    let closed = or_left (is_some (cause_of T)) (has_ended T) (ap is_some e) in
    cc

-- ---- a cause of the body or of the end of the input

body_other : (a b : Option ℕ) → body_cause_by a b ≡ Some InputEnd → ⊥
body_other None None q = cc
body_other (Some x) None q = cc
body_other None (Some y) q = cc
body_other (Some x) (Some y) q = by_places (nat_le x y) q
  where
    by_places : (v : Bool) → (if v then Some BadBody else Some SwallowLimit) ≡ Some InputEnd → ⊥
    by_places true q = cc
    by_places false q = cc

cause_cuts_off : (limits : Limits) (k : CloseCause) (T : Trace) → IsCauseMove limits k T → earlier (cause_of T) k ≡ Some InputEnd → has_whole_body T ≡ false
cause_cuts_off limits k T m e =
    let is : k ≡ InputEnd = of_first (cause_of T) m.none e in
    ⊎_elim (λ (b : body_cause limits T ≡ Some k). absurd (body_other (bad_place T) (swallow_place limits T) (b ∙ ap Some is))) (λ i. i.2) m.why
  where
    of_first : (o : Option CloseCause) → o ≡ None → earlier o k ≡ Some InputEnd → k ≡ InputEnd
    of_first None n q = cc
    of_first (Some j) n q = cc

-- ---- ends

answers_end_no_input : (k : CloseCause) → is_answers k ≡ true → k ≡ InputEnd → ⊥
answers_end_no_input k a e = no_answer (sym (ap is_answers e) ∙ a)
  where
    no_answer : is_answers InputEnd ≡ true → ⊥
    no_answer q = cc

over_cut_off : (t : ℕ) (T : Trace) → IsCutOff T → EndsWith IsCutOff t T
over_cut_off t T c = record { plain = c; closes = λ k a e. c (first_cause (cause_of T) k (answers_end_no_input k a) e) }

end_cut_off : (t : ℕ) (T R : Trace) → IsCutOff R → IsCutOff (with_marks t (end_marks T) R)
end_cut_off t T R c =
    end_keeps IsCutOff t T R (over_cut_off t R c) (λ status. over_cut_off t ((t, error_answer status) ∷ R) c) (over_cut_off t ((t, aborted) ∷ R) c)

lasts_kept : (limits : Limits) (rules : List Rule) → IsKept limits rules (Lasts limits)
lasts_kept limits rules =
    let k = ends_kept limits rules in
    record {
      opens = λ t T l. record { ends = k.opens t T l.ends; last = l.last };
      ends = λ t T l. record { ends = k.ends t T l.ends; last = l.last };
      comes = λ t b T taken l. record { ends = k.comes t b T taken l.ends; last = λ e. absurd (still_taken T taken e) };
      sends = λ t n T l. record { ends = k.sends t n T l.ends; last = l.last };
      causes = λ t c T m l. record { ends = k.causes t c T m l.ends; last = λ e. inl (cause_cuts_off limits c T m e) };
      faults = λ t c T m hears l. record { ends = k.faults t c T m hears l.ends; last = λ e. inl (cause_cuts_off limits c T m e) };
      times_out = λ t T q l. record { ends = k.times_out t T q l.ends; last = λ e. inl (open_cut_off limits T l q.open_now e) };
      fails = λ t T q l. record { ends = k.fails t T q l.ends; last = λ e. inl (open_cut_off limits T l q.open_now e) };
      breaks_off = λ t T q l. record { ends = k.breaks_off t T q l.ends; last = λ e. inl (open_cut_off limits T l q.open_now e) };
      completes = λ t T q l. record {
        ends = k.completes t T q l.ends;
        last = λ e. inl (end_cut_off t T (went_on t T) (open_cut_off limits T l q.open_now) e);
      };
      input_ends = λ t T end l. record { ends = k.input_ends t T end l.ends; last = λ e. inr ((may_begin-parts T end.may).0, end.awaits) };
      refuses = λ t status to_head T may due l. record {
        ends = k.refuses t status to_head T may due l.ends;
        last = λ e. absurd (no_cause (cause_of T) (may_begin-parts T may).1 (first_cause (cause_of T) Refused (λ q. cc) e));
      };
      finds_none = λ t r T may at due l.
          let none = (may_begin-parts T may).1 in record {
            ends = k.finds_none t r T may at due l.ends;
            last = λ e. absurd (not_found_keeps (λ S. cause_of S ≡ Some InputEnd → ⊥) t r T (no_cause (cause_of T) none)
                (λ c. no_cause (cause_of T) none (first_cause (cause_of T) LastAnswer (λ q. cc) c)) e);
          };
      begins = λ t r T may at due l. record {
        ends = k.begins t r T may at due l.ends;
        last = λ e. absurd (no_cause (cause_of T) (may_begin-parts T may).1 e);
      };
      serves = λ t j T e l.
          let c = open_cut_off limits T l (owed_open T j e) in
          record { ends = k.serves t j T e l.ends; last = λ f. inl (job_begins IsCutOff t j T (λ q. c) (λ q. c) f) };
      gives = λ t j n T e may l. record {
        ends = k.gives t j n T e may l.ends;
        last = λ f. inl (open_cut_off limits T l (runs_open T j l.ends e) f);
      };
      tells_end = λ t j T e may l. record {
        ends = k.tells_end t j T e may l.ends;
        last = λ f. inl (open_cut_off limits T l (runs_open T j l.ends e) f);
      };
      puts = λ t j b T e few l. record {
        ends = k.puts t j b T e few l.ends;
        last = λ f. inl (open_cut_off limits T l (runs_open T j l.ends e) f);
      };
      returns = λ t j T e l.
          let c = open_cut_off limits T l (runs_open T j l.ends e) in
          record { ends = k.returns t j T e l.ends; last = λ f. inl (return_keeps IsCutOff t T (λ q. c) (λ q. end_cut_off t T (returned t T) c) f) };
    }

pub no_head_is_lost : NoHeadIsLost
no_head_is_lost limits rules entries e =
    ⊎_elim inl (λ closed. inr closed.1)
    ((trace_keeps (Lasts limits) limits rules (lasts_kept limits rules) (record { ends = nothing_ends; last = λ q. cc }) entries).last e)
