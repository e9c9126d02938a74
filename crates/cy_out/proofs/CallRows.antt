-- Calls for an answer, and the bytes that they make, as they compute.
use Rattle.std.proofs.Common.{◌≡◌, ℕ, false, true, List, [], ◌∷◌, ◌++◌, codes, refl}
use Rattle.std.specs.Fmt.{digits}
use Rattle.cy_event.specs.Answers.{head_text}
use Rattle.cy_event.specs.Dates.{count_off, date_at}
use Rattle.cy_event.specs.Answering.{error_head}
use Rattle.cy_respond.proofs.ErrorFields.{plain_text_is_added}
use Rattle.cy_out.specs.Calls.{Call, UnderWay, aborts, adds_header, after_calls, begun, changes, does, puts_error, resets, sets_close, sets_length, sets_status}
use Rattle.cy_out.specs.Exchanges.{finished, flushes, writes, written}

abbrev first : UnderWay
first = begun (record { minor = 1; is_head = false; keep = true }) [] []

-- the bytes of an answer that ends behind these calls
abbrev bytes : List Call → List ℕ
bytes calls = let u = after_calls calls first in written (finished u.head 0 u.exchange)

abbrev put : List ℕ → Call
put content = does (writes content 0)

abbrev flush : Call
flush = does (flushes 0)

abbrev date_line : List ℕ
date_line = codes "Date: Thu, 01 Jan 1970 00:00:00 GMT\r\n"

pub status_is_set : bytes (changes (sets_status 404) ∷ put (codes "ab") ∷ changes (sets_status 199) ∷ [])
    ≡ codes "HTTP/1.1 404 \r\nContent-Length: 2\r\n" ++ date_line ++ codes "\r\nab"
unfolding head_text date_at count_off digits
status_is_set = refl

pub field_is_added : (after_calls (changes (adds_header (record { name = codes "Content-Type"; value = codes "text/plain" })) ∷ []) first).head ≡ error_head 200
field_is_added = plain_text_is_added 200

pub reset_takes_all_back : bytes (changes (sets_status 404) ∷ put (codes "ab") ∷ changes (sets_length 5) ∷ changes resets ∷ put (codes "c") ∷ [])
    ≡ codes "HTTP/1.1 200 \r\nContent-Length: 1\r\n" ++ date_line ++ codes "\r\nc"
unfolding head_text date_at count_off digits
reset_takes_all_back = refl

pub error_stands_alone : bytes (put (codes "ab") ∷ changes (sets_length 5) ∷ changes (puts_error 500) ∷ changes (puts_error 600) ∷ [])
    ≡ codes "HTTP/1.1 500 \r\nContent-Type: text/plain\r\nContent-Length: 10\r\n" ++ date_line ++ codes "\r\nError 500\n"
unfolding head_text date_at count_off digits
error_stands_alone = refl

-- a length below what was put is refused, and the last that isn't counts
pub last_length_counts : bytes (put (codes "ab") ∷ changes (sets_length 5) ∷ changes (sets_length 3) ∷ changes (sets_length 1) ∷ put (codes "cd") ∷ put (codes "c") ∷ [])
    ≡ codes "HTTP/1.1 200 \r\nContent-Length: 3\r\n" ++ date_line ++ codes "\r\nabc"
unfolding head_text date_at count_off digits
last_length_counts = refl

pub close_is_said : bytes (sets_close ∷ put (codes "a") ∷ [])
    ≡ codes "HTTP/1.1 200 \r\nContent-Length: 1\r\n" ++ date_line ++ codes "Connection: close\r\n\r\na"
unfolding head_text date_at count_off digits
close_is_said = refl

-- the head is out, and nothing changes it
pub late_changes_are_refused : bytes (
    flush ∷ put (codes "a") ∷ changes (sets_status 404) ∷ changes (sets_length 3) ∷ changes resets ∷ changes (puts_error 500) ∷ sets_close ∷ []
    )
    ≡ codes "HTTP/1.1 200 \r\nTransfer-Encoding: chunked\r\n" ++ date_line ++ codes "\r\n1\r\na\r\n0\r\n\r\n"
unfolding head_text date_at count_off digits
late_changes_are_refused = refl

pub given_up : bytes (put (codes "a") ∷ flush ∷ put (codes "b") ∷ aborts ∷ put (codes "c") ∷ flush ∷ [])
    ≡ codes "HTTP/1.1 200 \r\nTransfer-Encoding: chunked\r\n" ++ date_line ++ codes "\r\n1\r\na\r\n"
unfolding head_text date_at count_off digits
given_up = refl

-- nothing is given up before the head is out
pub not_given_up : bytes (put (codes "a") ∷ aborts ∷ put (codes "b") ∷ [])
    ≡ codes "HTTP/1.1 200 \r\nContent-Length: 2\r\n" ++ date_line ++ codes "\r\nab"
unfolding head_text date_at count_off digits
not_given_up = refl
