-- What the head of an answer says of its content and its connection, for each sort of request and status, and how
-- content is sent. Written down by hand.
use Rattle.std.proofs.Common.{◌≡◌, ℕ, Bool, true, false, List, [], ◌∷◌, ◌++◌, Option, Some, None, codes, refl, replicate}
use Rattle.std.specs.Prelude.{map}
use Rattle.std.specs.Fmt.{digits}
use Rattle.cy_event.specs.declared.steps.Reply.TheVariants as reply
use Rattle.cy_event.specs.AnswerModes.{Asked, chunk_text, chunked, counted, head_of_shape, hex_text, last_text, mode_of}
use Rattle.cy_event.specs.AnswerModes.{piece_text, shape_of, until_close, void}
use Rattle.cy_event.specs.Answering.{Answering, aborted, after_finish, after_flush, after_length, after_write, beginning}
use Rattle.cy_event.specs.Answering.{closing, emptied, length_reply, with_error}
use Rattle.cy_event.specs.Answers.{Answer, fresh_answer, head_text}
use Rattle.cy_event.specs.Dates.{count_off, date_at}

abbrev asks : ℕ → Bool → Bool → Asked
asks minor is_head keep = record { minor = minor; is_head = is_head; keep = keep }

abbrev of_status : ℕ → Answer
of_status status = record fresh_answer { status = status }

-- the head of an answer of this status, whose content has this length where that is known
abbrev says : Asked → ℕ → Option ℕ → List ℕ
says asked status known = head_of_shape (of_status status) (shape_of asked status known) 0

abbrev head_with : List ℕ → List ℕ → List ℕ → List ℕ
head_with status before behind =
    codes "HTTP/1.1 " ++ status ++ codes " \r\n" ++ before ++ codes "Date: Thu, 01 Jan 1970 00:00:00 GMT\r\n"
    ++ behind
    ++ codes "\r\n"

abbrev length_5 : List ℕ
length_5 = codes "Content-Length: 5\r\n"

abbrev in_chunks : List ℕ
in_chunks = codes "Transfer-Encoding: chunked\r\n"

abbrev close : List ℕ
close = codes "Connection: close\r\n"

abbrev keep_alive : List ℕ
keep_alive = codes "Connection: keep-alive\r\n"

abbrev known : List (Option ℕ)
known = Some 5 ∷ None ∷ []

-- ---- HTTP/1.1: by a known length, else in chunks

kept_1_1 : map (says (asks 1 false true) 200) known
    ≡ head_with (codes "200") length_5 [] ∷ head_with (codes "200") in_chunks [] ∷ []
unfolding head_text date_at count_off digits
kept_1_1 = refl

closed_1_1 : map (says (asks 1 false false) 200) known
    ≡ head_with (codes "200") length_5 close ∷ head_with (codes "200") in_chunks close ∷ []
unfolding head_text date_at count_off digits
closed_1_1 = refl

-- ---- HTTP/1.0: by a known length, else until the connection closes

kept_1_0 : map (says (asks 0 false true) 200) known
    ≡ head_with (codes "200") length_5 keep_alive ∷ head_with (codes "200") [] close ∷ []
unfolding head_text date_at count_off digits
kept_1_0 = refl

closed_1_0 : map (says (asks 0 false false) 200) known
    ≡ head_with (codes "200") length_5 close ∷ head_with (codes "200") [] close ∷ []
unfolding head_text date_at count_off digits
closed_1_0 = refl

-- ---- HEAD: what GET would say of the content; the connection may stay

head_1_1 : map (says (asks 1 true true) 200) known
    ≡ head_with (codes "200") length_5 [] ∷ head_with (codes "200") in_chunks [] ∷ []
unfolding head_text date_at count_off digits
head_1_1 = refl

head_1_0 : map (says (asks 0 true true) 200) known
    ≡ head_with (codes "200") length_5 keep_alive ∷ head_with (codes "200") [] keep_alive ∷ []
unfolding head_text date_at count_off digits
head_1_0 = refl

-- ---- 204 and 304 say nothing of a content

no_content_1_1 : map (says (asks 1 false true) 204) known
    ≡ head_with (codes "204") [] [] ∷ head_with (codes "204") [] [] ∷ []
unfolding head_text date_at count_off digits
no_content_1_1 = refl

not_modified_1_1 : map (says (asks 1 true false) 304) known
    ≡ head_with (codes "304") [] close ∷ head_with (codes "304") [] close ∷ []
unfolding head_text date_at count_off digits
not_modified_1_1 = refl

no_content_1_0 : map (says (asks 0 false true) 204) known
    ≡ head_with (codes "204") [] keep_alive ∷ head_with (codes "204") [] keep_alive ∷ []
unfolding head_text date_at count_off digits
no_content_1_0 = refl

-- ---- modes: of GET, of HEAD, and of statuses without content

modes_of_1_1 : map (mode_of (asks 1 false true) 200) known ≡ counted ∷ chunked ∷ []
modes_of_1_1 = refl

modes_of_1_0 : map (mode_of (asks 0 false true) 200) known ≡ counted ∷ until_close ∷ []
modes_of_1_0 = refl

modes_of_head : map (mode_of (asks 1 true true) 200) known ≡ void ∷ void ∷ []
modes_of_head = refl

modes_of_statuses : map (λ status. mode_of (asks 1 false true) status None) (204 ∷ 205 ∷ 304 ∷ 404 ∷ [])
    ≡ void ∷ chunked ∷ void ∷ chunked ∷ []
modes_of_statuses = refl

-- ---- pieces

pieces_in_each_mode : map (λ mode. piece_text mode (codes "abc")) (void ∷ counted ∷ chunked ∷ until_close ∷ [])
    ≡ [] ∷ codes "abc" ∷ codes "3\r\nabc\r\n" ∷ codes "abc" ∷ []
unfolding digits
pieces_in_each_mode = refl

ends_in_each_mode : map last_text (void ∷ counted ∷ chunked ∷ until_close ∷ [])
    ≡ [] ∷ [] ∷ codes "0\r\n\r\n" ∷ [] ∷ []
ends_in_each_mode = refl

-- a chunk of no bytes would be the last one
no_empty_chunk : chunk_text [] ≡ []
no_empty_chunk = refl

chunk_of_26 : chunk_text (replicate 26 97) ≡ codes "1a\r\naaaaaaaaaaaaaaaaaaaaaaaaaa\r\n"
unfolding digits
chunk_of_26 = refl

sizes_in_hexadecimal : map hex_text (0 ∷ 9 ∷ 10 ∷ 15 ∷ 16 ∷ 255 ∷ 8192 ∷ [])
    ≡ codes "0" ∷ codes "9" ∷ codes "a" ∷ codes "f" ∷ codes "10" ∷ codes "ff" ∷ codes "2000" ∷ []
unfolding digits
sizes_in_hexadecimal = refl

-- ---- the order of the lines: fields as they were added, the length, the date, the connection

abbrev with_fields : Answer
with_fields = record fresh_answer {
  status = 599;
  fields = record { name = codes "B"; value = codes "1" } ∷ record { name = codes "A"; value = [] }
      ∷ record { name = codes "B"; value = codes "2" } ∷ [];
}

fields_in_their_order : head_of_shape with_fields (shape_of (asks 0 false true) 599 (Some 5)) 0
    ≡ head_with (codes "599") (codes "B: 1\r\nA: \r\nB: 2\r\nContent-Length: 5\r\n") keep_alive
unfolding head_text date_at count_off digits
fields_in_their_order = refl

-- ---- answers as they are made

abbrev begun : Asked → Answering
begun asked = record { sending = beginning asked; output = [] }

abbrev written : List ℕ → Answering → Answering
written bytes a = after_write fresh_answer 0 bytes a

abbrev flushed : Answering → Answering
flushed a = after_flush fresh_answer 0 a

abbrev sends : Answering → List ℕ
sends a = (after_finish fresh_answer 0 a).output

nothing_written : sends (begun (asks 1 false true)) ≡ head_with (codes "200") (codes "Content-Length: 0\r\n") []
unfolding head_text date_at count_off digits
nothing_written = refl

flushed_before_the_end : sends (flushed (written (codes "abcde") (begun (asks 1 false true))))
    ≡ head_with (codes "200") in_chunks [] ++ codes "5\r\nabcde\r\n0\r\n\r\n"
unfolding head_text date_at count_off digits
flushed_before_the_end = refl

flushed_before_anything : sends (written (codes "abcde") (flushed (begun (asks 1 false true))))
    ≡ head_with (codes "200") in_chunks [] ++ codes "5\r\nabcde\r\n0\r\n\r\n"
unfolding head_text date_at count_off digits
flushed_before_anything = refl

-- a length that was set stands also where something is cut, and where less comes
abbrev by_length : Asked → Answering
by_length asked = record (begun asked) { sending = after_length 5 (beginning asked) }

flushed_with_a_length : sends (written (codes "e") (flushed (written (codes "abcd") (by_length (asks 0 false true)))))
    ≡ head_with (codes "200") length_5 keep_alive ++ codes "abcde"
unfolding head_text date_at count_off digits
flushed_with_a_length = refl

less_than_the_length : sends (written (codes "abc") (by_length (asks 1 false true)))
    ≡ head_with (codes "200") length_5 [] ++ codes "abc"
unfolding head_text date_at count_off digits
less_than_the_length = refl

-- HEAD is told of a length alone where nothing is cut before the end
head_of_what_was_written : sends (written (codes "abcde") (begun (asks 1 true true)))
    ≡ head_with (codes "200") length_5 []
unfolding head_text date_at count_off digits
head_of_what_was_written = refl

head_of_what_was_flushed : sends (flushed (written (codes "abcde") (begun (asks 0 true true))))
    ≡ head_with (codes "200") [] keep_alive
unfolding head_text date_at count_off digits
head_of_what_was_flushed = refl

-- ---- other changes

-- a cause that comes before the head is out closes the connection, and one behind it changes nothing
abbrev closed : Answering → Answering
closed a = record a { sending = closing a.sending }

closed_before : sends (closed (begun (asks 1 false true)))
    ≡ head_with (codes "200") (codes "Content-Length: 0\r\n") close
unfolding head_text date_at count_off digits
closed_before = refl

closed_behind : sends (closed (flushed (begun (asks 1 false true))))
    ≡ head_with (codes "200") in_chunks [] ++ codes "0\r\n\r\n"
unfolding head_text date_at count_off digits
closed_behind = refl

-- behind an answer that was broken off nothing is written, whatever is put
abbrev off : Answering → Answering
off a = record a { sending = aborted a.sending }

abbrev flushed_ab : Answering
flushed_ab = flushed (written (codes "ab") (begun (asks 1 false true)))

nothing_behind : sends (flushed (written (codes "cd") (off flushed_ab)))
    ≡ head_with (codes "200") in_chunks [] ++ codes "2\r\nab\r\n"
unfolding head_text date_at count_off digits
nothing_behind = refl

-- the content of an error answer counts as taken
length_of_an_error : map (λ n. length_reply n (with_error 500 (beginning (asks 1 false true)))) (9 ∷ 10 ∷ [])
    ≡ reply.BadValue ∷ reply.Done ∷ []
unfolding digits
length_of_an_error = refl

-- the date is that of the first cut, or of the end where nothing was cut before
abbrev dated : List ℕ → List ℕ → List ℕ
dated framing seconds =
    codes "HTTP/1.1 200 \r\n" ++ framing ++ codes "Date: Thu, 01 Jan 1970 00:00:" ++ seconds ++ codes " GMT\r\n\r\n"

date_of_the_end : (after_finish fresh_answer 5000 (written (codes "abcde") (begun (asks 1 false true)))).output
    ≡ dated length_5 (codes "05") ++ codes "abcde"
unfolding head_text date_at count_off digits
date_of_the_end = refl

abbrev cut_at_2000 : Answering
cut_at_2000 = after_flush fresh_answer 2000 (begun (asks 1 false true))

date_of_the_first_cut : (after_finish fresh_answer 5000 cut_at_2000).output
    ≡ dated in_chunks (codes "02") ++ codes "0\r\n\r\n"
unfolding head_text date_at count_off digits
date_of_the_first_cut = refl

-- a reset takes back the content, and the length that was set
abbrev reset : Answering → Answering
reset a = record a { sending = emptied a.sending }

reset_takes_all_back : sends (written (codes "c") (reset (written (codes "ab") (by_length (asks 1 false true)))))
    ≡ head_with (codes "200") (codes "Content-Length: 1\r\n") [] ++ codes "c"
unfolding head_text date_at count_off digits
reset_takes_all_back = refl
