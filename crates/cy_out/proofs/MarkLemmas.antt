-- Marks one after another, and what a call leaves of the request.
use Rattle.std.proofs.Common.{◌≡◌, ℕ, ◌+◌, Bool, true, false, List, [], ◌∷◌, ◌++◌, length, Option, None, Some, refl, sym, ap, ◌∙◌, arith, append_assoc, append-nil, length-append}
use Rattle.std.specs.Prelude.{◌||◌, ◌&&◌, nat_lt, if◌then◌else◌}
use Rattle.std.specs.List.{list_any}
use Rattle.std.proofs.lemmas.Bool.Decides.{nat_tests}
use Rattle.cy_event.specs.Answers.{Answer, content_buffer}
use Rattle.cy_event.specs.AnswerModes.{head_of_shape, shape_of, void}
use Rattle.cy_event.specs.Answering.{Answering, Sending, Took, aborted, can_cut, can_take, commit_by, cut, has_to_cut, is_buffer_full, more_by, passes_length, push_byte, push_bytes, set_length_of, with_head}
use Rattle.cy_out.specs.Exchanges.{Act, Exchange, after_act, flushes, receives, writes}
use Rattle.cy_event.specs.Pieces.{PutOrFlush, content_put, flushed, is_cut_early, is_flush, pieces_behind, put}

-- ---- marks

pub content_of_both : (marks others : List PutOrFlush) → content_put (marks ++ others) ≡ content_put marks ++ content_put others
content_of_both [] others = refl
content_of_both (put bytes ∷ marks) others =
    ap (λ (xs : List ℕ). bytes ++ xs) (content_of_both marks others) ∙ sym (append_assoc bytes (content_put marks) (content_put others))
content_of_both (flushed ∷ marks) others = content_of_both marks others

or_assoc : (a b c : Bool) → a || (b || c) ≡ (a || b) || c
or_assoc true b c = refl
or_assoc false b c = refl

pub flushes_in_both : (marks others : List PutOrFlush) → list_any is_flush (marks ++ others) ≡ list_any is_flush marks || list_any is_flush others
flushes_in_both [] others = refl
flushes_in_both (mark ∷ marks) others =
    ap (λ (t : Bool). is_flush mark || t) (flushes_in_both marks others) ∙ or_assoc (is_flush mark) (list_any is_flush marks) (list_any is_flush others)

-- what no flush divides is one run
pub one_run : (run : List ℕ) (marks later : List PutOrFlush) → list_any is_flush marks ≡ false
    → pieces_behind run (marks ++ later) ≡ pieces_behind (run ++ content_put marks) later
one_run run [] later unflushed = ap (λ (r : List ℕ). pieces_behind r later) (sym (append-nil run))
one_run run (put bytes ∷ marks) later unflushed =
    one_run (run ++ bytes) marks later unflushed ∙ ap (λ (r : List ℕ). pieces_behind r later) (append_assoc run bytes (content_put marks))
one_run run (flushed ∷ marks) later unflushed = cc

-- what is cut early stays so
pub early_stays : (marks later : List PutOrFlush) → is_cut_early [] marks ≡ true → is_cut_early [] (marks ++ later) ≡ true
early_stays marks later early =
    (λ i. flushes_in_both marks later i || nat_lt content_buffer (length (content_of_both marks later i)))
    ∙ (λ i. (list_any is_flush marks || list_any is_flush later) || nat_lt content_buffer (length-append (content_put marks) (content_put later) i))
    ∙ grows (list_any is_flush marks) (list_any is_flush later) (length (content_put marks)) (length (content_put later)) early
  where
    grows : (a b : Bool) (m n : ℕ) → a || nat_lt content_buffer m ≡ true → (a || b) || nat_lt content_buffer (m + n) ≡ true
    grows true b m n is = refl
    grows false true m n is = refl
    grows false false m n is = grind (arith, nat_tests)

-- ---- the request that is answered

-- with the head, unless it was out
head_keeps_asked : (head : Answer) (at : ℕ) (known : Option ℕ) (a : Answering) → (with_head head at known a).sending.asked ≡ a.sending.asked
head_keeps_asked head at known a =
    elim a.sending.commit as (λ c. let x : Answering = elim c [
      | None ↦ record {
        sending = record a.sending { commit = Some (commit_by head known a.sending.asked) };
        output = a.output ++ head_of_shape head (shape_of a.sending.asked head.status known) at;
      }
      | Some k ↦ a
    ] in x.sending.asked ≡ a.sending.asked) [
      | None ↦ refl
      | Some k ↦ refl
    ]

cut_keeps_asked : (head : Answer) (at : ℕ) (a : Answering) → (cut head at a).sending.asked ≡ a.sending.asked
cut_keeps_asked head at a = head_keeps_asked head at (set_length_of a.sending) a

byte_keeps_asked : (head : Answer) (at b : ℕ) (a : Answering) → (push_byte head at b a).sending.asked ≡ a.sending.asked
byte_keeps_asked head at b a =
    elim (is_buffer_full a.sending) as (λ v. let x : Answering = elim v [ true ↦ cut head at a | false ↦ a ] in x.sending.asked ≡ a.sending.asked) [
      | true ↦ cut_keeps_asked head at a
      | false ↦ refl
    ]

push_keeps_asked : (head : Answer) (at : ℕ) (more : List ℕ) (a : Answering) → (push_bytes head at more a).after.sending.asked ≡ a.sending.asked
push_keeps_asked head at [] a = refl
push_keeps_asked head at (b ∷ more) a =
    elim (can_take a) as (λ v. let t : Took = elim v [ true ↦ more_by 1 (push_bytes head at more (push_byte head at b a)) | false ↦ record { count = 0; after = a } ] in
    t.after.sending.asked ≡ a.sending.asked) [
      | true ↦ push_keeps_asked head at more (push_byte head at b a) ∙ byte_keeps_asked head at b a
      | false ↦ refl
    ]

pub act_keeps_asked : (head : Answer) (act : Act) (x : Exchange) → (after_act head act x).answering.sending.asked ≡ x.answering.sending.asked
act_keeps_asked head (writes more at) x =
    let a = x.answering in
    elim (passes_length a.sending (length more)) as (λ v. let y : Answering = if v then a else (push_bytes head at more a).after in y.sending.asked ≡ a.sending.asked) [
      | true ↦ refl
      | false ↦ push_keeps_asked head at more a
    ]
act_keeps_asked head (flushes at) x =
    let a = x.answering in
    elim (has_to_cut a.sending && can_cut a.output) as (λ v. let y : Answering = if v then cut head at a else a in y.sending.asked ≡ a.sending.asked) [
      | true ↦ cut_keeps_asked head at a
      | false ↦ refl
    ]
act_keeps_asked head (receives n) x = refl

pub abort_keeps_asked : (s : Sending) → (aborted s).asked ≡ s.asked
abort_keeps_asked s =
    elim s.commit as (λ c. let x : Sending = elim c [ None ↦ s | Some k ↦ record s { commit = Some (record { mode = void; closes = k.closes }) } ] in x.asked ≡ s.asked) [
      | None ↦ refl
      | Some k ↦ refl
    ]
