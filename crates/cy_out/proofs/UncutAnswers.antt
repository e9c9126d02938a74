-- Answers of which nothing is cut before their end, and writes that fill the buffer.
use Rattle.std.proofs.Common.{◌≡◌, ℕ, ◌+◌, ◌≤◌, Bool, true, false, List, [], ◌∷◌, ◌++◌, length, Option, None, Some, refl, ap, ◌∙◌, arith, append-nil, length-append}
use Rattle.std.specs.Prelude.{not, ◌&&◌, ◌||◌, ◌==◌, if◌then◌else◌, is_none, unwrap_or}
use Rattle.std.specs.List.{concat, flat_map}
use Rattle.std.proofs.lemmas.Bool.Decides.{nat_tests}
use Rattle.cy_event.specs.Answers.{Answer, Connection, answer_text, content_length, head_of_answer, head_text, takes}
use Rattle.cy_event.specs.AnswerModes.{Asked, Mode, connection_of, counted, framing_lines, has_no_content, piece_text, void}
use Rattle.cy_event.specs.Answering.{Took, can_cut, can_take, is_buffer_full, push_bytes, set_length_of}
use Rattle.cy_out.specs.Exchanges.{marks_of, written}
use Rattle.cy_event.specs.AnswerBytes.{answer_bytes, content_text, known_length}
use Rattle.cy_out.specs.Laws.{UncutAnswersAreOneText, WritesFillTheBuffer}
use Rattle.cy_event.specs.Pieces.{content_put, pieces_behind}
use Rattle.cy_out.proofs.ClientReading.{counted_text, void_text}
use Rattle.cy_out.proofs.ContentSent.{room_is}
use Rattle.cy_out.proofs.PieceLemmas.{pieces_are_the_content}
use Rattle.cy_out.proofs.Pushes.{filled, push_into_room, push_none}
use Rattle.cy_out.proofs.WholeAnswers.{answers_are_whole, start_of, starts, uncut_moment}

-- ---- writes

pub writes_fill_the_buffer : WritesFillTheBuffer
writes_fill_the_buffer head at [] a stuck = omega arith
writes_fill_the_buffer head at (b ∷ bytes) a stuck =
    elim (is_buffer_full a.sending) as (λ v. is_buffer_full a.sending ≡ v
    → (push_bytes head at (b ∷ bytes) a).count ≡ takes (length a.sending.waiting) (length (b ∷ bytes))) [
      | true ↦ λ full. let no_room : can_take a ≡ false = ap (λ (t : Bool). not t || can_cut a.output) full ∙ stuck in
          let many : 8192 ≤ length a.sending.waiting = grind (arith, nat_tests) in
          let none : 0 ≡ takes (length a.sending.waiting) (length (b ∷ bytes)) = omega arith in
          ap (λ (t : Took). t.count) (push_none head at (b ∷ bytes) a no_room) ∙ none
      | false ↦ λ room. let few = room_is a.sending room in
          let one = filled (b ∷ []) a in
          let later = writes_fill_the_buffer head at bytes one stuck in
          let sum : 1 + (push_bytes head at bytes one).count ≡ takes (length a.sending.waiting) (length (b ∷ bytes))
          = omega (arith, later, few, length-append a.sending.waiting (b ∷ [])) in
          ap (λ (t : Took). t.count) (push_into_room head at b bytes a few) ∙ sum
    ] refl

-- ---- answers

-- a head has nothing of the content
same_head : (head : Answer) (set_length : Option ℕ) (content framing : List ℕ) (at : ℕ) (connection : Connection)
    → head_text head framing at connection ≡ head_text (record head { set_length = set_length; content = content }) framing at connection
unfolding head_text
same_head head set_length content framing at connection = refl

-- the mode of content whose length is known
abbrev mode_by : Bool → Bool → Mode
mode_by none is_head = if is_head || none then void else counted

by_cases : (none is_head : Bool) (head : Answer) (asked : Asked) (set_length : Option ℕ) (content : List ℕ) (pieces : List (List ℕ)) (at : ℕ)
    → concat pieces ≡ content
    → (let n : ℕ = unwrap_or set_length (length content) in
    let a : Answer = record head { set_length = set_length; content = content } in
    let c : Connection = connection_of asked counted in
    head_text head (framing_lines (if none then None else Some n) (not none && is_none (Some n) && (asked.minor == 1))) at (connection_of asked (mode_by none is_head))
    ++ content_text (mode_by none is_head) pieces
    ≡ (if none then head_text a [] at c else (if is_head then head_of_answer a at c else answer_text a at c)))
by_cases true true head asked set_length content pieces at held =
    let c = connection_of asked counted in
    ap (λ (xs : List ℕ). head_text head [] at c ++ xs) (append-nil (flat_map (piece_text void) pieces) ∙ void_text pieces)
    ∙ append-nil (head_text head [] at c)
    ∙ same_head head set_length content [] at c
by_cases true false head asked set_length content pieces at held =
    let c = connection_of asked counted in
    ap (λ (xs : List ℕ). head_text head [] at c ++ xs) (append-nil (flat_map (piece_text void) pieces) ∙ void_text pieces)
    ∙ append-nil (head_text head [] at c)
    ∙ same_head head set_length content [] at c
by_cases false true head asked set_length content pieces at held =
    let c = connection_of asked counted in
    let line = content_length (unwrap_or set_length (length content)) in
    ap (λ (xs : List ℕ). head_text head (line ++ []) at c ++ xs) (append-nil (flat_map (piece_text void) pieces) ∙ void_text pieces)
    ∙ append-nil (head_text head (line ++ []) at c)
    ∙ ap (λ (xs : List ℕ). head_text head xs at c) (append-nil line)
    ∙ same_head head set_length content line at c
by_cases false false head asked set_length content pieces at held =
    let c = connection_of asked counted in
    let line = content_length (unwrap_or set_length (length content)) in
    let framed = ap (λ (xs : List ℕ). head_text head xs at c) (append-nil line) ∙ same_head head set_length content line at c in
    let body = append-nil (flat_map (piece_text counted) pieces) ∙ counted_text pieces ∙ held in
    λ i. framed i ++ body i

pub uncut_answers_are_one_text : UncutAnswersAreOneText
uncut_answers_are_one_text head acts at x given few uncut =
    let sending = x.answering.sending in
    let marks = marks_of head acts x in
    let content = sending.waiting ++ content_put marks in
    let pieces = pieces_behind sending.waiting marks in
    let known = ap (λ (t : Bool). known_length t (set_length_of sending) (length content)) uncut in
    let moment = uncut_moment head acts at (start_of x marks) x (starts x marks given few) uncut in
    answers_are_whole head acts at x given few
    ∙ (λ i. written x ++ answer_bytes head sending.asked (known i) (moment i) pieces)
    ∙ ap (λ (xs : List ℕ). written x ++ xs)
    (by_cases (has_no_content head.status) sending.asked.is_head head sending.asked (set_length_of sending) content pieces at
    (pieces_are_the_content sending.waiting marks))
