-- What came, what was taken up, what was written and the charts only grow, and a cause stays.
use Rattle.std.proofs.Common.{◌≡◌, ℕ, Bool, true, false, take, drop, take-append-drop, List, [], ◌∷◌, ◌++◌, Option, None, Some, refl, sym, ap, ◌∙◌, append_assoc, append-nil, subst}
use Rattle.cy_event.specs.declared.limits.Limits.{Limits}
use Rattle.cy_map.specs.declared.rule.Rule.{Rule}
use Rattle.cy_event.specs.declared.steps.CloseCause.{CloseCause}
use Rattle.cy_event.specs.Answers.{Answer, refusal_text}
use Rattle.cy_event.specs.AnswerModes.{last_text, piece_text}
use Rattle.cy_event.specs.Answering.{Answering, Commit, Took, after_finish, can_take, cut, is_buffer_full, mode_in, more_by, push_byte, push_bytes, set_length_of, whole_length_of, with_head, with_piece, with_room}
use Rattle.cy_model.specs.Folds.{bytes_of, calls, cause_of, earlier, ended_charts, requests_of}
use Rattle.cy_model.specs.Outputs.{answer_of, answering_of, begin_text, finished_by, is_silent, output, said_by, unsent, writing}
use Rattle.cy_model.specs.Laws.{NothingIsTakenBack, OnlyGrows}
use Rattle.cy_model.specs.Marks.{Mark, came, sent, began, refused, put, flushed, over, caused, broken, Trace}
use Rattle.cy_model.proofs.InputInduction.{KeptByInput, kept_by_input}
use Rattle.cy_model.proofs.TraceInduction.{entry_keeps}

-- the first list stands at the front of the second
abbrev pub Begins : {X : Type 0} → List X → List X → Type 0
Begins {X} xs ys = (more : List X) × (ys ≡ xs ++ more)

same_begins : {X : Type 0} (xs : List X) → Begins xs xs
same_begins xs = ([], sym (append-nil xs))

begins_further : {X : Type 0} (xs ys zs : List X) → Begins xs ys → Begins ys zs → Begins xs zs
begins_further {X} xs ys zs m n = (m.0 ++ n.0, n.1 ∙ ap (λ (l : List X). l ++ n.0) m.1 ∙ append_assoc xs m.0 n.0)

same_grows : (T : Trace) → OnlyGrows T T
same_grows T = record {
  bytes = same_begins (bytes_of T);
  requests = same_begins (requests_of T);
  written = same_begins (output T);
  ended = same_begins (ended_charts T);
  cause = λ k e. e;
}

grows_further : (T R S : Trace) → OnlyGrows T R → OnlyGrows R S → OnlyGrows T S
grows_further T R S g h = record {
  bytes = begins_further (bytes_of T) (bytes_of R) (bytes_of S) g.bytes h.bytes;
  requests = begins_further (requests_of T) (requests_of R) (requests_of S) g.requests h.requests;
  written = begins_further (output T) (output R) (output S) g.written h.written;
  ended = begins_further (ended_charts T) (ended_charts R) (ended_charts S) g.ended h.ended;
  cause = λ k e. h.cause k (g.cause k e);
}

-- a cause that was set stays the first
first_stays : (cause : Option CloseCause) (later k : CloseCause) → cause ≡ Some k → earlier cause later ≡ Some k
first_stays None later k e = cc
first_stays (Some first) later k e = e

-- ---- what is written of an answer

-- a head may be put first
head_begins : (head : Answer) (t : ℕ) (n : Option ℕ) (a : Answering) → Begins a.output (with_head head t n a).output
head_begins head t n a = by_commit a.sending.commit refl
  where
    by_commit : (o : Option Commit) → a.sending.commit ≡ o → Begins a.output (with_head head t n a).output
    by_commit None e = rw (e, with_head) (_, refl)
    by_commit (Some c) e = rw (e, with_head) (same_begins a.output)

piece_begins : (a : Answering) → Begins a.output (with_piece a).output
piece_begins a = (piece_text (mode_in a.sending) a.sending.waiting, refl)

cut_begins : (head : Answer) (t : ℕ) (a : Answering) → Begins a.output (cut head t a).output
cut_begins head t a =
    let h = with_head head t (set_length_of a.sending) a in
    begins_further a.output h.output (with_piece h).output (head_begins head t (set_length_of a.sending) a) (piece_begins h)

room_begins : (head : Answer) (t : ℕ) (a : Answering) → Begins a.output (with_room head t a).output
room_begins head t a =
    elim (is_buffer_full a.sending) as (λ v. let r : Answering = elim v [ true ↦ cut head t a | false ↦ a ] in Begins a.output r.output) [
      | true ↦ cut_begins head t a
      | false ↦ same_begins a.output
    ]

push_begins : (head : Answer) (t : ℕ) (bytes : List ℕ) (a : Answering) → Begins a.output (push_bytes head t bytes a).after.output
push_begins head t [] a = same_begins a.output
push_begins head t (b ∷ bytes) a =
    elim (can_take a) as (λ v. let r : Took = elim v [
      | true ↦ more_by 1 (push_bytes head t bytes (push_byte head t b a))
      | false ↦ record { count = 0; after = a }
    ] in Begins a.output r.after.output) [
      | true ↦ begins_further a.output (with_room head t a).output (push_bytes head t bytes (push_byte head t b a)).after.output
          (room_begins head t a) (push_begins head t bytes (push_byte head t b a))
      | false ↦ same_begins a.output
    ]

finish_begins : (head : Answer) (t : ℕ) (a : Answering) → Begins a.output (after_finish head t a).output
finish_begins head t a =
    let h = with_head head t (Some (whole_length_of a.sending)) a in
    let p = with_piece h in
    begins_further a.output h.output (after_finish head t a).output (head_begins head t (Some (whole_length_of a.sending)) a)
    (begins_further h.output p.output (after_finish head t a).output (piece_begins h) (last_text (mode_in p.sending), refl))

-- what is said of the connection changes nothing of what waits
same_said : (cause : Option CloseCause) (a : Answering) → (said_by cause a).output ≡ a.output
same_said None a = refl
same_said (Some k) a = refl

said_begins : (cause : Option CloseCause) (a : Answering) (ys : List ℕ) → Begins (said_by cause a).output ys → Begins a.output ys
said_begins cause a ys b = subst (λ (xs : List ℕ). Begins xs ys) (same_said cause a) b

end_begins : (silent : Bool) (head : Answer) (t : ℕ) (a : Answering) → Begins a.output (finished_by silent head t a).output
end_begins true head t a = same_begins a.output
end_begins false head t a = finish_begins head t a

-- behind what is past
behind_past : (past xs ys : List ℕ) → Begins xs ys → Begins (past ++ xs) (past ++ ys)
behind_past past xs ys m = (m.0, ap (λ (l : List ℕ). past ++ l) m.1 ∙ sym (append_assoc past xs m.0))

-- what is past is the front of what waited
same_output : (past xs : List ℕ) (n : ℕ) → Begins (past ++ xs) ((past ++ take n xs) ++ drop n xs)
same_output past xs n =
    ([], append_assoc past (take n xs) (drop n xs) ∙ ap (λ (l : List ℕ). past ++ l) (take-append-drop n xs) ∙ sym (append-nil (past ++ xs)))

-- the socket takes of what waits, or it is dropped
abbrev pub takes_output : Mark → Bool
takes_output (sent n) = true
takes_output broken = true
takes_output m = false

-- each other mark only adds to what waits
pub unsent_begins : (t : ℕ) (m : Mark) (T : Trace) → takes_output m ≡ false → Begins (unsent T) (unsent ((t, m) ∷ T))
unsent_begins t (sent n) T e = cc
unsent_begins t broken T e = cc
unsent_begins t (began r) T e = (begin_text r.go_on, refl)
unsent_begins t (refused status to_head) T e = (refusal_text status to_head t, refl)
unsent_begins t (put b) T e =
    let a = answering_of T in
    said_begins (cause_of T) a _ (push_begins (answer_of T) t b (said_by (cause_of T) a))
unsent_begins t flushed T e =
    let a = answering_of T in
    said_begins (cause_of T) a _ (cut_begins (answer_of T) t (said_by (cause_of T) a))
unsent_begins t over T e =
    let a = answering_of T in
    said_begins (cause_of T) a _ (end_begins (is_silent T) (answer_of T) t (said_by (cause_of T) a))
unsent_begins t m T e = same_begins (unsent T)

pub past_stays : (t : ℕ) (m : Mark) (T : Trace) → takes_output m ≡ false → (writing ((t, m) ∷ T)).past ≡ (writing T).past
past_stays t (sent n) T e = cc
past_stays t broken T e = cc
past_stays t m T e = refl

-- nothing is taken back of the output, whatever mark comes
output_begins : (t : ℕ) (m : Mark) (T : Trace) → Begins (output T) (output ((t, m) ∷ T))
output_begins t (sent n) T = same_output (writing T).past (answering_of T).output n
output_begins t broken T = ([], refl)
output_begins t m T = behind_past (writing T).past (unsent T) (unsent ((t, m) ∷ T)) (unsent_begins t m T refl)

-- no mark takes anything back
bytes_begin : (t : ℕ) (m : Mark) (T : Trace) → Begins (bytes_of T) (bytes_of ((t, m) ∷ T))
bytes_begin t (came b) T = (b, refl)
bytes_begin t m T = same_begins (bytes_of T)

requests_begin : (t : ℕ) (m : Mark) (T : Trace) → Begins (requests_of T) (requests_of ((t, m) ∷ T))
requests_begin t (began r) T = (r ∷ [], refl)
requests_begin t m T = same_begins (requests_of T)

charts_begin : (t : ℕ) (m : Mark) (T : Trace) → Begins (ended_charts T) (ended_charts ((t, m) ∷ T))
charts_begin t over T = (calls T ∷ [], refl)
charts_begin t m T = same_begins (ended_charts T)

cause_stays : (t : ℕ) (m : Mark) (T : Trace) (k : CloseCause) → cause_of T ≡ Some k → cause_of ((t, m) ∷ T) ≡ Some k
cause_stays t (caused later) T k e = first_stays (cause_of T) later k e
cause_stays t m T k e = e

mark_grows : (t : ℕ) (m : Mark) (T : Trace) → OnlyGrows T ((t, m) ∷ T)
mark_grows t m T = record {
  bytes = bytes_begin t m T;
  requests = requests_begin t m T;
  written = output_begins t m T;
  ended = charts_begin t m T;
  cause = cause_stays t m T;
}

-- what was added to a trace stays
growth_by_input : (limits : Limits) (rules : List Rule) (T : Trace) → KeptByInput limits rules (OnlyGrows T)
growth_by_input limits rules T = record {
  others = λ t m R brought g. grows_further T R ((t, m) ∷ R) g (mark_grows t m R);
  comes = λ t b R taken g. grows_further T R ((t, came b) ∷ R) g (mark_grows t (came b) R);
  begins = λ t r R may at due g. grows_further T R ((t, began r) ∷ R) g (mark_grows t (began r) R);
}

pub nothing_is_taken_back : NothingIsTakenBack
nothing_is_taken_back limits rules t T e =
    entry_keeps (OnlyGrows T) limits rules (kept_by_input (OnlyGrows T) limits rules (growth_by_input limits rules T)) t T e (same_grows T)
