-- Answers as they are sent, and writes that are refused or cut, as they compute.
use Rattle.std.proofs.Common.{◌≡◌, ℕ, true, false, ◌++◌, List, [], codes, refl, replicate}
use Rattle.std.specs.Fmt.{digits}
use Rattle.cy_event.specs.Answers.{fresh_answer, head_text}
use Rattle.cy_event.specs.Dates.{count_off, date_at}
use Rattle.cy_event.specs.AnswerModes.{Asked, hex_text}
use Rattle.cy_event.specs.Answering.{Answering, after_finish, after_flush, after_write, beginning, flush_reply, with_length, write_reply}
use Rattle.cy_event.specs.declared.steps.Reply.TheVariants as reply

-- a request of HTTP/1.minor
abbrev asks : ℕ → Asked
asks minor = record { minor = minor; is_head = false; keep = true }

abbrev asks_head : Asked
asks_head = record { minor = 1; is_head = true; keep = true }

abbrev began : Asked → Answering
began asked = record { sending = beginning asked; output = [] }

abbrev put : List ℕ → Answering → Answering
put bytes a = after_write fresh_answer 0 bytes a

abbrev flushed : Answering → Answering
flushed a = after_flush fresh_answer 0 a

abbrev finished : Answering → List ℕ
finished a = (after_finish fresh_answer 0 a).output

abbrev first_line : List ℕ
first_line = codes "HTTP/1.1 200 \r\n"

abbrev date_line : List ℕ
date_line = codes "Date: Thu, 01 Jan 1970 00:00:00 GMT\r\n"

pub nothing_cut : finished (put (codes "ab") (began (asks 1)))
    ≡ first_line ++ codes "Content-Length: 2\r\n" ++ date_line ++ codes "\r\nab"
unfolding head_text date_at count_off digits
nothing_cut = refl

pub flushed_in_chunks : finished (put (codes "c") (flushed (flushed (put (codes "ab") (began (asks 1))))))
    ≡ first_line ++ codes "Transfer-Encoding: chunked\r\n" ++ date_line ++ codes "\r\n2\r\nab\r\n1\r\nc\r\n0\r\n\r\n"
unfolding head_text date_at count_off digits
flushed_in_chunks = refl

pub flushed_for_an_old_client : finished (put (codes "c") (flushed (put (codes "ab") (began (asks 0)))))
    ≡ first_line ++ date_line ++ codes "Connection: close\r\n\r\nabc"
unfolding head_text date_at count_off digits
flushed_for_an_old_client = refl

pub flushed_for_head : finished (put (codes "c") (flushed (put (codes "ab") (began asks_head))))
    ≡ first_line ++ codes "Transfer-Encoding: chunked\r\n" ++ date_line ++ codes "\r\n"
unfolding head_text date_at count_off digits
flushed_for_head = refl

pub whole_for_head : finished (put (codes "ab") (began asks_head))
    ≡ first_line ++ codes "Content-Length: 2\r\n" ++ date_line ++ codes "\r\n"
unfolding head_text date_at count_off digits
whole_for_head = refl

-- where the ring is full, what fits the buffer is taken, and then nothing
abbrev slow : Answering
slow = record { sending = beginning (asks 1); output = replicate 8193 0 }

pub buffer_is_filled : write_reply fresh_answer 0 (replicate 8193 97) slow ≡ reply.Taken 8192
unfolding head_text date_at count_off digits
buffer_is_filled = refl

pub then_nothing : write_reply fresh_answer 0 (codes "a") (put (replicate 8192 97) slow) ≡ reply.Again
unfolding head_text date_at count_off digits
then_nothing = refl

pub no_room_to_flush : flush_reply slow ≡ reply.Again
no_room_to_flush = refl

-- one byte past the length
pub past_the_length : write_reply fresh_answer 0 (codes "abc") (record { sending = with_length 2 (beginning (asks 1)); output = [] }) ≡ reply.BadValue
past_the_length = refl

pub sizes_in_hexadecimal : hex_text 8192 ++ hex_text 26 ++ hex_text 15 ++ hex_text 4095 ≡ codes "20001affff"
unfolding digits
sizes_in_hexadecimal = refl
