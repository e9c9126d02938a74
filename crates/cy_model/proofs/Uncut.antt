-- An answer that is being made, of which nothing is out yet.
use Rattle.std.proofs.Common.{◌≡◌, ◌≤◌, ◌<◌, ℕ, ◌+◌, ◌-◌, Bool, true, false, not, ◌||◌, List, [], ◌∷◌, ◌++◌, length, Option, None, Some, refl, sym, ap, ◌∙◌, arith, append_assoc, append-nil, length-append}
use Rattle.std.proofs.lemmas.Bool.Decides.{nat_tests}
use Rattle.cy_event.specs.declared.steps.CloseCause.{CloseCause}
use Rattle.cy_event.specs.Answers.{Answer, content_buffer}
use Rattle.cy_event.specs.Answering.{Answering, Commit, Sending, Took, can_cut, can_take, cut, is_buffer_full, more_by, push_byte, push_bytes, with_bytes, with_room}
use Rattle.cy_model.specs.Marks.{put, Trace}
use Rattle.cy_model.specs.Folds.{cause_of}
use Rattle.cy_model.specs.Outputs.{answer_of, answering_of, is_committed, said_by, sending_of}

-- nothing of it is out, and all of its content waits
pub record IsUncut (T : Trace) : Type 0 where
  pub whole : (sending_of T).commit ≡ None
  pub waits : (sending_of T).waiting ≡ (answer_of T).content

pub uncut_is_whole : (T : Trace) → IsUncut T → is_committed T ≡ false
uncut_is_whole T u = ap (λ (o : Option Commit). elim o [ None ↦ false | Some c ↦ true ]) u.whole

-- nothing changes of it
pub same_uncut : (T R : Trace) → sending_of R ≡ sending_of T → answer_of R ≡ answer_of T → IsUncut T → IsUncut R
same_uncut T R sending answer u = record {
  whole = ap (λ (s : Sending). s.commit) sending ∙ u.whole;
  waits = ap (λ (s : Sending). s.waiting) sending ∙ u.waits ∙ sym (ap (λ (a : Answer). a.content) answer);
}

-- what is said of the connection cuts nothing
said_whole : (cause : Option CloseCause) (a : Answering) → a.sending.commit ≡ None → (said_by cause a).sending.commit ≡ None
said_whole None a whole = whole
said_whole (Some k) a whole =
    elim a.sending.commit as (λ o. o ≡ None → let s : Sending = elim o [
      | None ↦ record a.sending { asked = record { minor = a.sending.asked.minor; is_head = a.sending.asked.is_head; keep = false } }
      | Some c ↦ a.sending
    ] in s.commit ≡ None) [ None ↦ λ e. whole | Some c ↦ λ e. whole ] whole

said_waits : (cause : Option CloseCause) (a : Answering) → (said_by cause a).sending.waiting ≡ a.sending.waiting
said_waits None a = refl
said_waits (Some k) a =
    elim a.sending.commit as (λ o. let s : Sending = elim o [
      | None ↦ record a.sending { asked = record { minor = a.sending.asked.minor; is_head = a.sending.asked.is_head; keep = false } }
      | Some c ↦ a.sending
    ] in s.waiting ≡ a.sending.waiting) [ None ↦ refl | Some c ↦ refl ]

-- one byte for which the buffer has room
push_into_room : (head : Answer) (t b : ℕ) (bytes : List ℕ) (a : Answering) → length a.sending.waiting < content_buffer
    → (push_bytes head t (b ∷ bytes) a).after ≡ (push_bytes head t bytes (record a { sending = with_bytes (b ∷ []) a.sending })).after
push_into_room head t b bytes a few =
    let roomy : is_buffer_full a.sending ≡ false = grind (arith, nat_tests) in
    let takes : can_take a ≡ true = ap (λ (v : Bool). not v || can_cut a.output) roomy in
    let same : with_room head t a ≡ a = ap (λ (v : Bool). elim v [ true ↦ cut head t a | false ↦ a ]) roomy in
    let taken : push_bytes head t (b ∷ bytes) a ≡ more_by 1 (push_bytes head t bytes (push_byte head t b a))
    = ap (λ (v : Bool). elim v [ true ↦ more_by 1 (push_bytes head t bytes (push_byte head t b a)) | false ↦ record { count = 0; after = a } ]) takes in
    ap (λ (k : Took). k.after) taken
    ∙ ap (λ (r : Answering). (push_bytes head t bytes (record r { sending = with_bytes (b ∷ []) r.sending })).after) same

-- bytes for which the buffer has room wait
push_waits : (head : Answer) (t : ℕ) (b : List ℕ) (a : Answering) → a.sending.commit ≡ None → length a.sending.waiting + length b ≤ content_buffer
    → ((push_bytes head t b a).after.sending.commit ≡ None) × ((push_bytes head t b a).after.sending.waiting ≡ a.sending.waiting ++ b)
push_waits head t [] a whole fits = (whole, sym (append-nil a.sending.waiting))
push_waits head t (b ∷ bytes) a whole fits =
    let one : Answering = record a { sending = with_bytes (b ∷ []) a.sending } in
    let longer : length one.sending.waiting ≡ length a.sending.waiting + 1 = length-append a.sending.waiting (b ∷ []) in
    let step = push_into_room head t b bytes a (omega arith) in
    let rest = push_waits head t bytes one whole (omega arith) in
    (ap (λ (r : Answering). r.sending.commit) step ∙ rest.0, ap (λ (r : Answering). r.sending.waiting) step ∙ rest.1 ∙ append_assoc a.sending.waiting (b ∷ []) bytes)

-- content for which the buffer has room cuts nothing
pub put_uncut : (t : ℕ) (b : List ℕ) (T : Trace) → length b ≤ content_buffer - length (answer_of T).content → IsUncut T → IsUncut ((t, put b) ∷ T)
put_uncut t [] T few u = record {
  whole = said_whole (cause_of T) (answering_of T) u.whole;
  waits = said_waits (cause_of T) (answering_of T) ∙ u.waits ∙ sym (append-nil (answer_of T).content);
}
put_uncut t (b ∷ bytes) T few u =
    let a = said_by (cause_of T) (answering_of T) in
    let waits = said_waits (cause_of T) (answering_of T) ∙ u.waits in
    let size = ap length waits in
    let pushed = push_waits (answer_of T) t (b ∷ bytes) a (said_whole (cause_of T) (answering_of T) u.whole) (omega arith) in
    record { whole = pushed.0; waits = pushed.1 ∙ ap (λ (l : List ℕ). l ++ (b ∷ bytes)) waits }
