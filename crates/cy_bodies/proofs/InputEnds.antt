-- Where a connection closes for the end of its input, the input has ended, and no body is left that is whole.
use Rattle.std.proofs.Common.{◌≡◌, inl, inr, ⊎_elim, ℕ, Bool, true, false, List, ◌∷◌, ◌++◌, length, Option, Some, None, nat_le, sym, ap, ◌∙◌, refl, if◌then◌else◌}
use Rattle.cy_event.specs.declared.limits.Limits.{Limits}
use Rattle.cy_event.specs.declared.body.BodyMark.{BodyMark}
use Rattle.cy_event.specs.declared.steps.CloseCause.{CloseCause}
use Rattle.cy_event.specs.declared.steps.CloseCause.TheVariants.{BadBody, InputEnd, LastAnswer, Refused, SwallowLimit}
use Rattle.cy_event.specs.Bodies.{body_of, body_start, content_in, scan_bytes}
use Rattle.cy_event.specs.BodyGrammar.{IsBody}
use Rattle.cy_in.proofs.BodiesAt.{whole_stage}
use Rattle.cy_in.proofs.BodyWritten.{written_is_whole}
use Rattle.cy_map.specs.declared.rule.Rule.{Rule}
use Rattle.cy_model.specs.Endings.{end_marks}
use Rattle.cy_model.specs.Entries.{trace_of}
use Rattle.cy_model.specs.Folds.{bytes_of, cause_of, earlier, has_ended, last_taken}
use Rattle.cy_model.specs.Inputs.{behind_head, has_whole_body, is_whole, scan_by}
use Rattle.cy_model.specs.Marks.{TakenUp, Trace, aborted, error_answer}
use Rattle.cy_model.specs.Settling.{bad_place, body_cause, body_cause_by, swallow_place, with_marks}
use Rattle.cy_model.proofs.LastHeads.{no_head_is_lost}
use Rattle.cy_model.proofs.Moves.{EndsWith, IsCauseMove, end_keeps, is_answers}
use Rattle.cy_model.proofs.TraceInduction.{IsKept, job_begins, not_found_keeps, return_keeps, returned, trace_keeps, went_on}
use Rattle.cy_bodies.specs.Laws.{InputEndsWithin, IsUnwritten}

-- ---- the input has ended

abbrev HasEnded : Trace → Type 0
HasEnded T = cause_of T ≡ Some InputEnd → has_ended T ≡ true

-- a later cause of another kind is not the first
first_cause : (first : Option CloseCause) (k : CloseCause) → (k ≡ InputEnd → ⊥) → earlier first k ≡ Some InputEnd → first ≡ Some InputEnd
first_cause None k other e = absurd (other cc)
first_cause (Some j) k other e = e

of_first : (first : Option CloseCause) (k : CloseCause) → first ≡ None → earlier first k ≡ Some InputEnd → k ≡ InputEnd
of_first None k n q = cc
of_first (Some j) k n q = cc

body_is_other : (bad long : Option ℕ) → body_cause_by bad long ≡ Some InputEnd → ⊥
body_is_other None None q = cc
body_is_other (Some x) None q = cc
body_is_other None (Some y) q = cc
body_is_other (Some x) (Some y) q = by_places (nat_le x y) q
  where
    by_places : (v : Bool) → (if v then Some BadBody else Some SwallowLimit) ≡ Some InputEnd → ⊥
    by_places true q = cc
    by_places false q = cc

cause_has_ended : (limits : Limits) (k : CloseCause) (T : Trace) → IsCauseMove limits k T → earlier (cause_of T) k ≡ Some InputEnd → has_ended T ≡ true
cause_has_ended limits k T m e =
    let is : k ≡ InputEnd = of_first (cause_of T) k m.none e in
    ⊎_elim (λ (b : body_cause limits T ≡ Some k). absurd (body_is_other (bad_place T) (swallow_place limits T) (b ∙ ap Some is))) (λ i. i.1) m.why

answers_end_no_input : (k : CloseCause) → is_answers k ≡ true → k ≡ InputEnd → ⊥
answers_end_no_input k a e = no_answer (sym (ap is_answers e) ∙ a)
  where
    no_answer : is_answers InputEnd ≡ true → ⊥
    no_answer q = cc

over_ended : (t : ℕ) (T : Trace) → HasEnded T → EndsWith HasEnded t T
over_ended t T p = record { plain = p; closes = λ k a e. p (first_cause (cause_of T) k (answers_end_no_input k a) e) }

end_ended : (t : ℕ) (T R : Trace) → HasEnded R → HasEnded (with_marks t (end_marks T) R)
end_ended t T R p =
    end_keeps HasEnded t T R (over_ended t R p) (λ status. over_ended t ((t, error_answer status) ∷ R) p) (over_ended t ((t, aborted) ∷ R) p)

ended_kept : (limits : Limits) (rules : List Rule) → IsKept limits rules HasEnded
ended_kept limits rules = record {
  opens = λ t T p. p;
  ends = λ t T p e. refl;
  comes = λ t b T taken p. p;
  sends = λ t n T p. p;
  causes = λ t c T m p e. cause_has_ended limits c T m e;
  faults = λ t c T m hears p e. cause_has_ended limits c T m e;
  times_out = λ t T q p. p;
  fails = λ t T q p. p;
  breaks_off = λ t T q p. p;
  completes = λ t T q p. end_ended t T (went_on t T) p;
  input_ends = λ t T end p e. end.ended;
  refuses = λ t status to_head T may due p e. p (first_cause (cause_of T) Refused (λ q. cc) e);
  finds_none = λ t r T may at due p. not_found_keeps HasEnded t r T p (λ e. p (first_cause (cause_of T) LastAnswer (λ q. cc) e));
  begins = λ t r T may at due p. p;
  serves = λ t j T e p. job_begins HasEnded t j T (λ q. p) (λ q. p);
  gives = λ t j n T e may p. p;
  tells_end = λ t j T e may p. p;
  puts = λ t j b T e few p. p;
  returns = λ t j T e p. return_keeps HasEnded t T (λ q. p) (λ q. end_ended t T (returned t T) p);
}

-- ---- what isn't whole isn't written

not_whole : (v : Bool) → v ≡ true → v ≡ false → ⊥
not_whole v p q = cc

written_whole : (r : TakenUp) (bytes body content behind : List ℕ) → IsBody r.max_trailer r.framing body content
    → body ++ behind ≡ bytes → is_whole (scan_bytes r.max_trailer (body_start r.framing) bytes).stage ≡ true
written_whole r bytes body content behind written front =
    let m : BodyMark = scan_bytes r.max_trailer (body_start r.framing) bytes in
    ap is_whole (whole_stage m (content_in r.max_trailer (body_start r.framing) bytes) m.stage content (length body)
    (ap (body_of r.max_trailer r.framing) (sym front) ∙ written_is_whole r.max_trailer r.framing body content behind written))

unwritten : (T : Trace) → has_whole_body T ≡ false → IsUnwritten T
unwritten T e = by_last (last_taken T) refl
  where
    by_last : (o : Option TakenUp) → last_taken T ≡ o → IsUnwritten T
    by_last None is =
        absurd (not_whole (has_whole_body T) (ap (λ (o : Option TakenUp). is_whole (scan_by o (bytes_of T)).stage) is) e)
    by_last (Some r) is = (
      r,
      is,
      λ body content behind written front.
          not_whole (has_whole_body T)
          (ap (λ (o : Option TakenUp). is_whole (scan_by o (bytes_of T)).stage) is
          ∙ written_whole r (behind_head (bytes_of T) r) body content behind written front) e,
    )

pub input_ends_within : InputEndsWithin
input_ends_within limits rules entries e =
    let T = trace_of limits rules entries in
    record {
      ended = trace_keeps HasEnded limits rules (ended_kept limits rules) (λ q. cc) entries e;
      within = ⊎_elim (λ cut_off. inl (unwritten T cut_off)) (λ awaits. inr awaits) (no_head_is_lost limits rules entries e);
    }
