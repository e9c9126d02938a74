-- The parts that follow the end of a request, well or with the answer 400, stand for the trace that follows it.
use Rattle.std.proofs.Common.{◌≡◌, ℕ, Bool, true, false, ◌&&◌, [], ◌∷◌, ◌++◌, Option, Some, None, refl, sym, ap, ◌∙◌, arith}
use Rattle.cy_event.specs.declared.steps.CloseCause.{CloseCause}
use Rattle.cy_event.specs.declared.steps.CloseCause.TheVariants.{LastAnswer}
use Rattle.cy_event.specs.Answers.{answer_text}
use Rattle.cy_event.specs.AnswerModes.{connection_of, counted, has_no_content}
use Rattle.cy_model.specs.Folds.{cause_of, earlier, is_open}
use Rattle.cy_model.specs.Inputs.{unread}
use Rattle.cy_model.specs.Outputs.{answer_of, end_by, sending_of, unsent}
use Rattle.cy_model.specs.Marks.{over, caused, Trace}
use Rattle.cy_event.specs.Answers.{Answer}
use Rattle.cy_model.specs.Settling.{last_answer_marks, with_marks}
use Rattle.cy_model.proofs.Built.{IsPlain}
use Rattle.cy_proc.specs.LineBodies.{IsSoundInput, intake_of}
use Rattle.cy_proc.specs.Lines.{LineParts, line_parts, IsSound, Represents}
use Rattle.cy_proc.proofs.LineInputs.{over_line}
use Rattle.cy_proc.proofs.Plain.{finish_text, plain_silent}
use Rattle.cy_proc.specs.Processors.{uncut}
use Rattle.cy_proc.specs.LineChanges.{connection_by, after_end_of, cause_after}
use Rattle.cy_proc.proofs.Built.{built_more}
use Rattle.cy_proc.proofs.Lines.{Holds, at_held, both, marks_by, plainly, same_input}

-- ---- the end of a request

-- what waits for the socket once the answer is written
over_unsent : (T : Trace) (m minor : ℕ) (keep : Bool) (a : Answer) → IsPlain T → sending_of T ≡ uncut minor keep a → answer_of T ≡ a → has_no_content a.status ≡ false → a.set_length ≡ None → cause_of T ≡ None
    → unsent ((m, over) ∷ T) ≡ unsent T ++ answer_text a m (connection_by keep None minor)
over_unsent T m minor keep a p sent_so is content unset none =
    let silent = plain_silent T p in
    (λ i. (end_by (none i) (silent i) (is i) m (record { sending = sent_so i; output = unsent T })).output)
    ∙ finish_text a m minor keep (unsent T) content unset

-- an end that leaves the connection open, and one that closes it
over_parts : (keep : Bool) (T : Trace) (m minor : ℕ) (a : Answer) → IsSound T → is_open T ≡ true → sending_of T ≡ uncut minor keep a → answer_of T ≡ a → has_no_content a.status ≡ false → a.set_length ≡ None → cause_of T ≡ None
    → after_end_of keep minor a (line_parts m T) ≡ line_parts m (with_marks m (over ∷ last_answer_marks keep) T)
over_parts keep T m minor a s o sent_so is content unset none =
    let O : Trace = (m, over) ∷ T in
    let L : LineParts = line_parts m T in
    let text = sym (over_unsent T m minor keep a (plainly T s) sent_so is content unset none) in
    let answered : LineParts = record L {
      unsent = unsent T ++ answer_text a m (connection_by keep (cause_of T) minor);
      is_open = false;
      cause = cause_after keep (cause_of T);
    } in
    over_line m T o answered refl refl
    ∙ (λ i. record L { body = intake_of O; unread = unread O; unsent = unsent T ++ answer_text a m (connection_by keep (none i) minor); is_open = false; cause = cause_after keep (none i) })
    ∙ (λ i. record L { body = intake_of O; unread = unread O; unsent = text i; is_open = false; cause = cause_after keep None })
    ∙ by_keep keep
  where
    by_keep : (v : Bool) → record (line_parts m T) { body = intake_of ((m, over) ∷ T); unread = unread ((m, over) ∷ T); unsent = unsent ((m, over) ∷ T); is_open = false; cause = cause_after v None } ≡ line_parts m (with_marks m (over ∷ last_answer_marks v) T)
    by_keep true = ap (λ (c : Option CloseCause). record (line_parts m ((m, over) ∷ T)) { cause = c }) (sym none)
    by_keep false = ap (λ (c : Option CloseCause). record (line_parts m ((m, over) ∷ T)) { cause = earlier c LastAnswer }) (sym none)

over_input : (T : Trace) (m : ℕ) → IsSoundInput T → IsSoundInput ((m, over) ∷ T)
over_input T m s = record { heads_came = s.heads_came; given = s.given; told = λ o told. cc }

over_sound : (keep : Bool) (T : Trace) (m : ℕ) → IsSound T → IsSound (with_marks m (over ∷ last_answer_marks keep) T)
over_sound true T m s = record { input = over_input T m s.input; took_past = s.took_past; built = built_more m over T refl s.built; calm = λ o. cc }
over_sound false T m s = let i = over_input T m s.input in record {
  input = same_input ((m, over) ∷ T) ((m, caused LastAnswer) ∷ (m, over) ∷ T) i i.given i.heads_came i.told;
  took_past = s.took_past;
  built = built_more m (caused LastAnswer) ((m, over) ∷ T) refl (built_more m over T refl s.built);
  calm = λ o. cc;
}

over_closed : (keep : Bool) (T : Trace) (m : ℕ) → is_open (with_marks m (over ∷ last_answer_marks keep) T) ≡ false
over_closed true T m = refl
over_closed false T m = refl

pub over_stands : (T : Trace) (l : LineParts) (minor : ℕ) (keep : Bool) (a : Answer) → is_open T ≡ true → sending_of T ≡ uncut minor keep a → answer_of T ≡ a → has_no_content a.status ≡ false → a.set_length ≡ None → cause_of T ≡ None → Holds T l
    → Represents (with_marks l.moment (over ∷ last_answer_marks keep) T) (after_end_of keep minor a l)
over_stands T l minor keep a o sent_so is content unset none s =
    let m = l.moment in
    let R : Trace = with_marks m (over ∷ last_answer_marks keep) T in
    at_held T l (λ k. Represents R (after_end_of keep minor a k)) s
    (λ own. record {
      same = over_parts keep T m minor a s.sound o sent_so is content unset none;
      sound = over_sound keep T m s.sound;
      none_later = marks_by m m (over ∷ last_answer_marks keep) T (omega arith) s.none_later;
      at_rest = λ still. absurd (both (is_open R) still (over_closed keep T m));
    })

-- one whose body was none: there is a cause already, which stays
never_kept : (keep : Bool) → false ≡ (keep && false)
never_kept true = refl
never_kept false = refl

bad_unsent : (T : Trace) (m minor : ℕ) (keep : Bool) (a : Answer) (k : CloseCause) → IsPlain T → sending_of T ≡ uncut minor keep a → answer_of T ≡ a → has_no_content a.status ≡ false → a.set_length ≡ None → cause_of T ≡ Some k
    → unsent ((m, over) ∷ T) ≡ unsent T ++ answer_text a m (connection_by keep (Some k) minor)
bad_unsent T m minor keep a k p sent_so is content unset has =
    let silent = plain_silent T p in
    (λ i. (end_by (has i) (silent i) (is i) m (record { sending = sent_so i; output = unsent T })).output)
    ∙ finish_text a m minor false (unsent T) content unset
    ∙ ap (λ (v : Bool). unsent T ++ answer_text a m (connection_of (record { minor = minor; is_head = false; keep = v }) counted)) (never_kept keep)

bad_parts : (keep : Bool) (T : Trace) (m minor : ℕ) (a : Answer) (k : CloseCause) → IsSound T → is_open T ≡ true → sending_of T ≡ uncut minor keep a → answer_of T ≡ a → has_no_content a.status ≡ false → a.set_length ≡ None → cause_of T ≡ Some k
    → after_end_of keep minor a (line_parts m T) ≡ line_parts m ((m, over) ∷ T)
bad_parts keep T m minor a k s o sent_so is content unset has =
    let O : Trace = (m, over) ∷ T in
    let L : LineParts = line_parts m T in
    let text = sym (bad_unsent T m minor keep a k (plainly T s) sent_so is content unset has) in
    let answered : LineParts = record L {
      unsent = unsent T ++ answer_text a m (connection_by keep (cause_of T) minor);
      is_open = false;
      cause = cause_after keep (cause_of T);
    } in
    over_line m T o answered refl refl
    ∙ (λ i. record L { body = intake_of O; unread = unread O; unsent = unsent T ++ answer_text a m (connection_by keep (has i) minor); is_open = false; cause = cause_after keep (has i) })
    ∙ (λ i. record L { body = intake_of O; unread = unread O; unsent = text i; is_open = false; cause = Some k })
    ∙ ap (λ (c : Option CloseCause). record (line_parts m O) { cause = c }) (sym has)

pub bad_stands : (T : Trace) (l : LineParts) (minor : ℕ) (keep : Bool) (a : Answer) (k : CloseCause) → is_open T ≡ true → sending_of T ≡ uncut minor keep a → answer_of T ≡ a → has_no_content a.status ≡ false → a.set_length ≡ None → cause_of T ≡ Some k → Holds T l
    → Represents ((l.moment, over) ∷ T) (after_end_of keep minor a l)
bad_stands T l minor keep a k o sent_so is content unset has s =
    let m = l.moment in
    let R : Trace = (m, over) ∷ T in
    at_held T l (λ x. Represents R (after_end_of keep minor a x)) s
    (λ own. record {
      same = bad_parts keep T m minor a k s.sound o sent_so is content unset has;
      sound = over_sound true T m s.sound;
      none_later = marks_by m m (over ∷ []) T (omega arith) s.none_later;
      at_rest = λ still. absurd (both (is_open R) still refl);
    })
