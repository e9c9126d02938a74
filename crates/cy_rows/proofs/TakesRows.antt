-- How much is taken of the input and of content, and where content is cut, at the bounds of the buffers. Written down
-- by hand.
use Rattle.std.proofs.Common.{◌≡◌, ℕ, true, false, List, [], ◌∷◌, ◌++◌, Some, None, codes, length, refl, replicate}
use Rattle.std.specs.Prelude.{drop, map}
use Rattle.std.specs.Fmt.{digits}
use Rattle.cy_event.specs.declared.steps.CloseCause.TheVariants as cause
use Rattle.cy_event.specs.declared.steps.Reply.TheVariants as reply
use Rattle.cy_event.specs.AnswerModes.{Asked}
use Rattle.cy_event.specs.Answering.{Answering, after_finish, after_flush, after_length, after_write, beginning, can_cut}
use Rattle.cy_event.specs.Answering.{flush_reply, is_buffer_full, length_reply, with_length, write_reply}
use Rattle.cy_event.specs.Answers.{fresh_answer, head_text, takes}
use Rattle.cy_event.specs.Dates.{count_off, date_at}
use Rattle.cy_model.specs.Inputs.{room_by}
use Rattle.cy_model.specs.Settling.{may_begin_by}

-- ---- room for input: what the buffer has left, and what may come at all

room_of_nothing : room_by [] 0 ≡ 16384
room_of_nothing = refl

room_behind_waiting : room_by (replicate 16383 0) 20000 ∷ room_by (replicate 16384 0) 20000 ∷ [] ≡ 1 ∷ 0 ∷ []
room_behind_waiting = refl

room_at_the_total : map (room_by [])
    (4611686018427371520 ∷ 4611686018427371521 ∷ 4611686018427387903 ∷ 4611686018427387904 ∷ [])
    ≡ 16384 ∷ 16383 ∷ 1 ∷ 0 ∷ []
room_at_the_total = refl

lesser_of_both : map (room_by (replicate 16381 0)) (4611686018427387902 ∷ 4611686018427387900 ∷ []) ≡ 2 ∷ 3 ∷ []
lesser_of_both = refl

-- ---- a further head is taken up while 16,000 bytes wait for the socket

begins_at_16000 : may_begin_by false None true (replicate 16000 0) ≡ true
begins_at_16000 = refl

not_at_16001 : may_begin_by false None true (replicate 16001 0) ≡ false
not_at_16001 = refl

-- nor in an open request, nor with a cause, nor inside a body
not_in_a_request : may_begin_by true None true [] ≡ false
not_in_a_request = refl

not_with_a_cause : may_begin_by false (Some cause.LastAnswer) true [] ≡ false
not_with_a_cause = refl

not_inside_a_body : may_begin_by false None false [] ≡ false
not_inside_a_body = refl

-- ---- writes

abbrev asked : Asked
asked = record { minor = 1; is_head = false; keep = true }

abbrev fresh : Answering
fresh = record { sending = beginning asked; output = [] }

abbrev letters : ℕ → List ℕ
letters n = replicate n 97

abbrev written : ℕ → Answering → Answering
written n a = after_write fresh_answer 0 (letters n) a

abbrev flushed : Answering → Answering
flushed a = after_flush fresh_answer 0 a

abbrev sent : ℕ → Answering → Answering
sent n a = record a { output = drop n a.output }

-- how much is written for the client, and how much content waits behind the last cut
abbrev sizes : Answering → List ℕ
sizes a = length a.output ∷ length a.sending.waiting ∷ []

-- the buffer once, cut as one chunk behind the head, and the buffer again
large_write : write_reply fresh_answer 0 (letters 100000) fresh ≡ reply.Taken 16384
unfolding head_text date_at count_off digits
large_write = refl

large_write_leaves : sizes (written 100000 fresh) ≡ 8282 ∷ 8192 ∷ []
unfolding head_text date_at count_off digits
large_write_leaves = refl

then_no_byte : write_reply fresh_answer 0 (letters 1) (written 100000 fresh) ≡ reply.Again
unfolding head_text date_at count_off digits
then_no_byte = refl

no_bytes_are_taken : write_reply fresh_answer 0 [] (written 100000 fresh) ≡ reply.Taken 0
unfolding head_text date_at count_off digits
no_bytes_are_taken = refl

then_no_flush : flush_reply (written 100000 fresh) ≡ reply.Again
unfolding head_text date_at count_off digits
then_no_flush = refl

no_flush_changes_nothing : sizes (flushed (written 100000 fresh)) ≡ 8282 ∷ 8192 ∷ []
unfolding head_text date_at count_off digits
no_flush_changes_nothing = refl

-- 8,192 bytes of output may wait where more is cut, and not one more
sent_but_8193 : write_reply fresh_answer 0 (letters 1) (sent 89 (written 100000 fresh)) ≡ reply.Again
unfolding head_text date_at count_off digits
sent_but_8193 = refl

sent_but_8192 : write_reply fresh_answer 0 (letters 1) (sent 90 (written 100000 fresh)) ≡ reply.Taken 1
unfolding head_text date_at count_off digits
sent_but_8192 = refl

sent_all : write_reply fresh_answer 0 (letters 1) (sent 8282 (written 100000 fresh)) ≡ reply.Taken 1
unfolding head_text date_at count_off digits
sent_all = refl

room_of_a_cut : map can_cut (replicate 0 0 ∷ replicate 8192 0 ∷ replicate 8193 0 ∷ replicate 32768 0 ∷ [])
    ≡ true ∷ true ∷ false ∷ false ∷ []
room_of_a_cut = refl

-- ---- where content is cut

buffer_isnt_full : map (λ n. is_buffer_full (written n fresh).sending) (8191 ∷ 8192 ∷ []) ≡ false ∷ true ∷ []
unfolding head_text date_at count_off digits
buffer_isnt_full = refl

-- content that fits isn't cut before the end, and has its length in the head
not_cut : sizes (written 8192 fresh) ≡ 0 ∷ 8192 ∷ []
unfolding head_text date_at count_off digits
not_cut = refl

cut_before_one_more : sizes (written 8193 fresh) ≡ 8282 ∷ 1 ∷ []
unfolding head_text date_at count_off digits
cut_before_one_more = refl

cut_before_one_later : sizes (written 1 (written 8192 fresh)) ≡ 8282 ∷ 1 ∷ []
unfolding head_text date_at count_off digits
cut_before_one_later = refl

-- pieces are counted from the last flush on: behind 100 bytes in a chunk of 106
counted_from_a_flush : sizes (written 8192 (flushed (written 100 fresh))) ≡ 188 ∷ 8192 ∷ []
unfolding head_text date_at count_off digits
counted_from_a_flush = refl

cut_behind_a_flush : sizes (written 8193 (flushed (written 100 fresh))) ≡ 8388 ∷ 1 ∷ []
unfolding head_text date_at count_off digits
cut_behind_a_flush = refl

-- a flush of nothing cuts the head, and a second one nothing
flush_of_the_head : sizes (flushed fresh) ∷ sizes (flushed (flushed fresh)) ∷ [] ≡ (82 ∷ 0 ∷ []) ∷ (82 ∷ 0 ∷ []) ∷ []
unfolding head_text date_at count_off digits
flush_of_the_head = refl

-- where nothing is to be cut, a flush needs no room
nothing_to_flush : flush_reply (record (flushed fresh) { output = replicate 32768 0 }) ≡ reply.Done
unfolding head_text date_at count_off digits
nothing_to_flush = refl

head_to_flush : map (λ n. flush_reply (record fresh { output = replicate n 0 })) (8192 ∷ 8193 ∷ [])
    ≡ reply.Done ∷ reply.Again ∷ []
head_to_flush = refl

-- ---- how it ends

abbrev ended : Answering → List ℕ
ended a = (after_finish fresh_answer 0 a).output

abbrev date_line : List ℕ
date_line = codes "Date: Thu, 01 Jan 1970 00:00:00 GMT\r\n"

end_of_8192 : ended (written 8192 fresh)
    ≡ codes "HTTP/1.1 200 \r\nContent-Length: 8192\r\n" ++ date_line ++ codes "\r\n" ++ letters 8192
unfolding head_text date_at count_off digits
end_of_8192 = refl

end_of_8193 : ended (written 8193 fresh)
    ≡ codes "HTTP/1.1 200 \r\nTransfer-Encoding: chunked\r\n" ++ date_line ++ codes "\r\n2000\r\n" ++ letters 8192
    ++ codes "\r\n1\r\na\r\n0\r\n\r\n"
unfolding head_text date_at count_off digits
end_of_8193 = refl

-- ---- a length that was set

abbrev of_length : ℕ → Answering
of_length n = record { sending = with_length n (beginning asked); output = [] }

within_the_length : write_reply fresh_answer 0 (letters 5) (of_length 5) ≡ reply.Taken 5
unfolding head_text date_at count_off digits
within_the_length = refl

past_the_length : write_reply fresh_answer 0 (letters 6) (of_length 5) ≡ reply.BadValue
unfolding head_text date_at count_off digits
past_the_length = refl

-- by the bytes that are asked, also where they would not all be taken
past_a_large_length : write_reply fresh_answer 0 (letters 100000) (of_length 99999) ≡ reply.BadValue
unfolding head_text date_at count_off digits
past_a_large_length = refl

at_a_large_length : write_reply fresh_answer 0 (letters 100000) (of_length 100000) ≡ reply.Taken 16384
unfolding head_text date_at count_off digits
at_a_large_length = refl

-- a length may be that of the content so far, and not less
length_of_content : map (λ n. length_reply n (written 3 fresh).sending) (2 ∷ 3 ∷ 4 ∷ [])
    ≡ reply.BadValue ∷ reply.Done ∷ reply.Done ∷ []
unfolding head_text date_at count_off digits
length_of_content = refl

bad_length_changes_nothing : after_length 2 (written 3 fresh).sending ≡ (written 3 fresh).sending
unfolding head_text date_at count_off digits
bad_length_changes_nothing = refl

-- with a length large content goes as it is
end_of_a_length : ended (written 8193 (of_length 8193))
    ≡ codes "HTTP/1.1 200 \r\nContent-Length: 8193\r\n" ++ date_line ++ codes "\r\n" ++ letters 8193
unfolding head_text date_at count_off digits
end_of_a_length = refl

-- where nothing can be cut, a write takes what the buffer has room for
taken_without_cuts : map (takes 8000) (0 ∷ 1 ∷ 192 ∷ 193 ∷ []) ∷ map (takes 8192) (0 ∷ 1 ∷ []) ∷ []
    ≡ (0 ∷ 1 ∷ 192 ∷ 192 ∷ []) ∷ (0 ∷ 0 ∷ []) ∷ []
taken_without_cuts = refl
