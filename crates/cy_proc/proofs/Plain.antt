-- What a trace comes to in which nothing stands that isn't built yet: a service is owed, and nothing is cut before the end
-- of an answer.
use Rattle.std.proofs.Common.{◌≡◌, ◌≤◌, ℕ, ◌+◌, Bool, true, false, not, ◌&&◌, ◌||◌, List, [], ◌++◌, length, Option, Some, None, refl, sym, ap, ◌∙◌, append_assoc, append-nil, if◌then◌else◌}
use Rattle.std.specs.Prelude.{unwrap_or, is_none, ◌==◌}
use Rattle.cy_event.specs.declared.steps.Job.{Job}
use Rattle.cy_event.specs.declared.steps.State.TheVariants as state
use Rattle.cy_event.specs.AnswerModes.{Mode, connection_of, counted, framing_lines, has_no_content, is_until_close, last_text, piece_text, void}
use Rattle.cy_event.specs.Answering.{Answering, Took, after_finish, has_closed, push_bytes, with_bytes}
use Rattle.cy_event.specs.Answers.{Answer, answer_text, content_length, head_text}
use Rattle.cy_out.proofs.Pushes.{push_front}
use Rattle.cy_model.specs.Folds.{is_open, is_served, part_of, running}
use Rattle.cy_model.specs.Jobs.{next_job, service_in}
use Rattle.cy_model.specs.Marks.{Trace}
use Rattle.cy_model.specs.Outputs.{is_silent, put_by}
use Rattle.cy_model.proofs.Built.{IsPlain, asked_service}
use Rattle.cy_proc.specs.LineChanges.{connection_by}
use Rattle.cy_proc.specs.Processors.{asked_at, uncut}

-- ---- the callback that is owed

pub plain_job : (T : Trace) → IsPlain T → next_job T ≡ (if is_open T && is_none (running T) then service_in state.Dispatched (is_served T) (part_of T) else None)
plain_job T p = ap (λ (o : Option Job). if is_open T && is_none (running T) then o else None) (asked_service T p)

-- ---- answers

pub plain_silent : (T : Trace) → IsPlain T → is_silent T ≡ false
plain_silent T p = let whole = p.whole in let going = p.going in λ i. whole i || going i

-- content that fits the buffer waits
pub put_is : (head : Answer) (t : ℕ) (b : List ℕ) (a : Answering) → length a.sending.waiting + length b ≤ 8192
    → put_by None head t b a ≡ record a { sending = with_bytes b a.sending }
put_is head t b a fits =
    ap (λ (x : List ℕ). (push_bytes head t x a).after) (sym (append-nil b))
    ∙ ap (λ (k : Took). k.after) (push_front head t b [] a fits)

-- the text of an answer of which nothing was cut before its end
finish_by : Bool → Answer → ℕ → ℕ → Bool → List ℕ → List ℕ
finish_by none a t minor keep u =
    let mode : Mode = if none then void else counted in
    let n = length a.content in
    ((u ++ head_text a (framing_lines (if none then None else Some n) (not none && is_none (Some n) && (minor == 1))) t (connection_of (asked_at minor keep) mode))
    ++ piece_text mode a.content)
    ++ last_text mode

finish_counted : (a : Answer) (t minor : ℕ) (keep : Bool) (u : List ℕ) → a.set_length ≡ None
    → finish_by false a t minor keep u ≡ u ++ answer_text a t (connection_by keep None minor)
unfolding finish_by
finish_counted a t minor keep u unset =
    let c = connection_of (asked_at minor keep) counted in
    let h = head_text a (content_length (length a.content)) t c in
    append-nil ((u ++ head_text a (content_length (length a.content) ++ []) t c) ++ a.content)
    ∙ ap (λ (f : List ℕ). (u ++ head_text a f t c) ++ a.content) (append-nil (content_length (length a.content)))
    ∙ append_assoc u h a.content
    ∙ ap (λ (o : Option ℕ). u ++ (head_text a (content_length (unwrap_or o (length a.content))) t c ++ a.content)) (sym unset)
    ∙ ap (λ (k : Bool). u ++ answer_text a t (connection_of (asked_at minor k) counted)) (kept keep)
  where
    kept : (k : Bool) → k ≡ (k && true)
    kept true = refl
    kept false = refl

pub finish_text : (a : Answer) (t minor : ℕ) (keep : Bool) (u : List ℕ) → has_no_content a.status ≡ false → a.set_length ≡ None
    → (after_finish a t (record { sending = uncut minor keep a; output = u })).output ≡ u ++ answer_text a t (connection_by keep None minor)
unfolding finish_by
finish_text a t minor keep u content unset =
    ap (λ (v : Bool). finish_by v a t minor keep u) content ∙ finish_counted a t minor keep u unset

-- its head says that the connection closes where it isn't to be kept
pub finish_closes : (a : Answer) (t minor : ℕ) (keep : Bool) (u : List ℕ) → has_no_content a.status ≡ false
    → has_closed (after_finish a t (record { sending = uncut minor keep a; output = u })).sending ≡ not keep
finish_closes a t minor keep u content = ap (λ (v : Bool). closes_by (if v then void else counted) keep) content ∙ plainly keep
  where
    closes_by : Mode → Bool → Bool
    closes_by mode k = not k || is_until_close mode

    plainly : (k : Bool) → (not k || false) ≡ not k
    plainly true = refl
    plainly false = refl
