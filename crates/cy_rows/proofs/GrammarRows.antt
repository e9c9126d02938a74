-- How bodies are framed by their fields, and which texts are heads and bodies, line by line. Written down by hand.
use Rattle.std.proofs.Common.{◌≡◌, ℕ, List, [], ◌∷◌, ◌++◌, Ok, Err, Result, codes, refl, replicate}
use Rattle.std.specs.Prelude.{map}
use Rattle.cy_event.specs.declared.framing.Framing.{Framing}
use Rattle.cy_event.specs.declared.framing.Framing.TheVariants as framing
use Rattle.cy_event.specs.Bodies.{Body, bad, bodies_on_literals, body_of, malformed_at, partial, whole}
use Rattle.cy_event.specs.Framings.{body_framing, framings_on_literals}
use Rattle.cy_event.specs.Heads.{Field, Front, awaited, found, head_of, heads_on_literals, malformed}

-- ---- the framing of a body, by the lines of the two fields

abbrev lines_of : List ℕ → List (List ℕ) → List Field
lines_of name values = map (λ value. record { name = name; value = value }) values

abbrev framing_of : ℕ → List (List ℕ) → List (List ℕ) → Result Framing ℕ
framing_of minor codings lengths =
    body_framing minor (lines_of (codes "transfer-encoding") codings ++ lines_of (codes "CONTENT-LENGTH") lengths)

abbrev bad_request : Result Framing ℕ
bad_request = Err 400

abbrev not_built : Result Framing ℕ
not_built = Err 501

abbrev in_chunks : Result Framing ℕ
in_chunks = Ok framing.Chunked

abbrev of_length : ℕ → Result Framing ℕ
of_length n = Ok (framing.Length n)

neither_field : framing_of 0 [] [] ∷ framing_of 1 [] [] ∷ [] ≡ Ok framing.None ∷ Ok framing.None ∷ []
unfolding framings_on_literals
neither_field = refl

-- one number in each element, in digits
lengths : map (framing_of 0 [])
    ((codes "0" ∷ []) ∷ (codes "007" ∷ []) ∷ (codes "7,7" ∷ codes ",07" ∷ []) ∷ (codes "7" ∷ codes "" ∷ []) ∷ [])
    ≡ of_length 0 ∷ of_length 7 ∷ of_length 7 ∷ of_length 7 ∷ []
unfolding framings_on_literals
lengths = refl

no_lengths : map (framing_of 1 [])
    ((codes "" ∷ []) ∷ (codes ", ," ∷ codes "" ∷ []) ∷ (codes "7" ∷ codes "8" ∷ []) ∷ (codes "7,8" ∷ [])
    ∷ (codes "-7" ∷ [])
    ∷ (codes "7 7" ∷ []) ∷ (codes "a" ∷ []) ∷ (codes "7,x" ∷ []) ∷ [])
    ≡ bad_request ∷ bad_request ∷ bad_request ∷ bad_request ∷ bad_request ∷ bad_request ∷ bad_request ∷ bad_request
    ∷ []
unfolding framings_on_literals
no_lengths = refl

-- any field beside any field
both_fields : framing_of 1 (codes "chunked" ∷ []) (codes "7" ∷ []) ∷ framing_of 1 (codes "" ∷ []) (codes "" ∷ [])
    ∷ framing_of 0 (codes "gzip,chunked" ∷ []) (codes "7" ∷ []) ∷ []
    ≡ bad_request ∷ bad_request ∷ bad_request ∷ []
unfolding framings_on_literals
both_fields = refl

-- chunked alone
codings : map (λ values. framing_of 1 values [])
    ((codes "chunked" ∷ []) ∷ (codes "CHUNKED" ∷ []) ∷ (codes " ,chunked\t, " ∷ [])
    ∷ (codes "" ∷ codes "chunked" ∷ []) ∷ [])
    ≡ in_chunks ∷ in_chunks ∷ in_chunks ∷ in_chunks ∷ []
unfolding framings_on_literals
codings = refl

-- none, another one last, or chunked twice
bad_codings : map (λ values. framing_of 1 values [])
    ((codes "" ∷ []) ∷ (codes "," ∷ []) ∷ (codes "gzip" ∷ []) ∷ (codes "chunked, gzip" ∷ [])
    ∷ (codes "chunked" ∷ codes "x" ∷ [])
    ∷ (codes "chunked,chunked" ∷ []) ∷ (codes "chunked, gzip, chunked" ∷ []) ∷ (codes "chunked;q=1" ∷ []) ∷ [])
    ≡ bad_request ∷ bad_request ∷ bad_request ∷ bad_request ∷ bad_request ∷ bad_request ∷ bad_request ∷ bad_request
    ∷ []
unfolding framings_on_literals
bad_codings = refl

-- chunked last, and others before it
other_codings : map (λ values. framing_of 1 values [])
    ((codes "gzip, chunked" ∷ []) ∷ (codes "x" ∷ codes "y, Chunked" ∷ []) ∷ (codes "identity,chunked" ∷ []) ∷ [])
    ≡ not_built ∷ not_built ∷ not_built ∷ []
unfolding framings_on_literals
other_codings = refl

-- HTTP/1.0 has no codings
old_codings : map (λ values. framing_of 0 values []) ((codes "chunked" ∷ []) ∷ (codes "gzip, chunked" ∷ [])
    ∷ (codes "" ∷ []) ∷ [])
    ≡ bad_request ∷ bad_request ∷ bad_request ∷ []
unfolding framings_on_literals
old_codings = refl

-- any number of zeros may stand before it
abbrev zeros : List ℕ
zeros = replicate 40 48

zeros_before_a_length : map (framing_of 1 [])
    (((zeros ++ codes "7") ∷ []) ∷ (zeros ∷ []) ∷ ((zeros ++ codes "7") ∷ codes "7" ∷ []) ∷ [])
    ≡ of_length 7 ∷ of_length 0 ∷ of_length 7 ∷ []
unfolding framings_on_literals
zeros_before_a_length = refl

-- ---- heads

-- the size of a head that is found; 0 where it is malformed or awaited
abbrev size_of : Front → ℕ
size_of (found n h) = n
size_of f = 0

abbrev sizes : List (List ℕ) → List ℕ
sizes texts = map (λ text. size_of (head_of 8192 100 text)) texts

abbrev with_first : List ℕ → List ℕ
with_first line = line ++ codes "\r\nHost:\r\n\r\n"

-- a method, a target and a version, each behind one space
first_lines : sizes (map with_first (codes "GET / HTTP/1.1" ∷ codes "get * HTTP/1.0"
    ∷ codes "!#$%&'*+-.^_`|~ a HTTP/1.1" ∷ codes "X http://h#\\?/ HTTP/1.1" ∷ []))
    ≡ 25 ∷ 25 ∷ 37 ∷ 34 ∷ []
unfolding heads_on_literals
first_lines = refl

no_first_lines : sizes (map with_first
    (codes "GET  / HTTP/1.1" ∷ codes "GET /  HTTP/1.1" ∷ codes " GET / HTTP/1.1" ∷ codes "GET / HTTP/1.1 "
    ∷ codes "GET /" ∷ codes "GET / HTTP/1.2"
    ∷ codes "GET / HTTP/2.0" ∷ codes "GET / http/1.1" ∷ codes "GET / HTTP/1.1\r" ∷ codes "G@T / HTTP/1.1"
    ∷ codes "GET /\t HTTP/1.1" ∷ codes "GET" ∷ []))
    ≡ 0 ∷ 0 ∷ 0 ∷ 0 ∷ 0 ∷ 0 ∷ 0 ∷ 0 ∷ 0 ∷ 0 ∷ 0 ∷ 0 ∷ []
unfolding heads_on_literals
no_first_lines = refl

abbrev with_line : List ℕ → List ℕ
with_line line = codes "GET / HTTP/1.1\r\nHost:\r\n" ++ line ++ codes "\r\n\r\n"

-- a token, a colon, and a value of any bytes but those of control, which may have blanks around it
field_lines : sizes (map with_line (codes "a:" ∷ codes "a: b" ∷ codes "a:b:c" ∷ codes "a:\tb c \t" ∷ codes "A!~:\""
    ∷ []))
    ≡ 29 ∷ 31 ∷ 32 ∷ 35 ∷ 32 ∷ []
unfolding heads_on_literals
field_lines = refl

no_field_lines : sizes (map with_line
    (codes "a" ∷ codes ":b" ∷ codes "a :b" ∷ codes " a:b" ∷ codes "\ta:b" ∷ codes "a b:c" ∷ codes "a:b\rc"
    ∷ codes "a:b\r" ∷ codes "a:\0" ∷ codes "a:\u{7f}"
    ∷ codes "a/b:c" ∷ []))
    ≡ 0 ∷ 0 ∷ 0 ∷ 0 ∷ 0 ∷ 0 ∷ 0 ∷ 0 ∷ 0 ∷ 0 ∷ 0 ∷ []
unfolding heads_on_literals
no_field_lines = refl

-- lines may end in LF alone, and empty ones stand before the first
line_ends : sizes (codes "GET / HTTP/1.1\nHost:\n\n" ∷ codes "\r\n\n\r\nGET / HTTP/1.1\r\nHost:\n\r\n"
    ∷ codes "GET / HTTP/1.1\nHost:\n\nx" ∷ [])
    ≡ 22 ∷ 29 ∷ 22 ∷ []
unfolding heads_on_literals
line_ends = refl

-- a value stands without the blanks around it
value_is_trimmed : head_of 8192 100 (codes "GET / HTTP/1.0\nA: \t b c\t \n\n")
    ≡ found 27 (record {
      method = codes "GET";
      target = codes "/";
      minor = 0;
      fields = record { name = codes "A"; value = codes "b c" } ∷ [];
    })
unfolding heads_on_literals
value_is_trimmed = refl

-- what is no head is malformed only where its empty line has come
malformed_at_its_end : head_of 8192 100 (codes "x\r\n\r\n") ≡ malformed
unfolding heads_on_literals
malformed_at_its_end = refl

malformed_and_awaited : head_of 8192 100 (codes "x\r\n\r") ≡ awaited
unfolding heads_on_literals
malformed_and_awaited = refl

empty_lines_are_no_end : head_of 8192 100 (codes "\r\n\r\n\r\n") ≡ awaited
unfolding heads_on_literals
empty_lines_are_no_end = refl

-- ---- bodies in chunks

abbrev body : List ℕ → Body
body bytes = body_of 8192 framing.Chunked bytes

digits_of_both_cases : body (codes "aF\r\n") ∷ body (codes "g") ∷ [] ≡ partial [] ∷ bad (malformed_at 0) ∷ []
unfolding bodies_on_literals
digits_of_both_cases = refl

extensions : map body (codes "0;\r\n\r\n" ∷ codes "0 \t;a=\"b\"\0\r\n\r\n" ∷ codes "0\t\r\n" ∷ codes "0;\n"
    ∷ codes "0;\rx" ∷ codes "0x" ∷ [])
    ≡ whole [] 6 ∷ whole [] 14 ∷ bad (malformed_at 2) ∷ bad (malformed_at 2) ∷ bad (malformed_at 3)
    ∷ bad (malformed_at 1) ∷ []
unfolding bodies_on_literals
extensions = refl

line_ends_of_chunks : map body (codes "1\na" ∷ codes "1\r\na\n" ∷ codes "1\r\na\rx" ∷ codes "1\r\nab"
    ∷ codes "1\r\na\r\n\r\n" ∷ [])
    ≡ bad (malformed_at 1) ∷ bad (malformed_at 4) ∷ bad (malformed_at 5) ∷ bad (malformed_at 4) ∷ bad (malformed_at 6)
    ∷ []
unfolding bodies_on_literals
line_ends_of_chunks = refl

trailer_lines : map body (codes "0\r\nA:b c\r\nD:\r\n\r\nE" ∷ codes "0\r\n A:b" ∷ codes "0\r\n:b" ∷ codes "0\r\nA b"
    ∷ codes "0\r\nA:b\n" ∷ codes "0\r\n\n" ∷ [])
    ≡ whole [] 16 ∷ bad (malformed_at 3) ∷ bad (malformed_at 3) ∷ bad (malformed_at 4) ∷ bad (malformed_at 6)
    ∷ bad (malformed_at 3) ∷ []
unfolding bodies_on_literals
trailer_lines = refl

-- no blank stands before a size, and no digit behind a blank
before_a_size : map body (codes " 1\r\n" ∷ codes "\t1\r\n" ∷ codes "1\r\na\r\n 0" ∷ codes ";" ∷ codes "\r\n" ∷ [])
    ≡ bad (malformed_at 0) ∷ bad (malformed_at 0) ∷ bad (malformed_at 6) ∷ bad (malformed_at 0) ∷ bad (malformed_at 0)
    ∷ []
unfolding bodies_on_literals
before_a_size = refl

blanks_in_a_size : map body (codes "1 1\r\n" ∷ codes "1\t0" ∷ codes "0 \t0\r\n\r\n" ∷ codes "0 a" ∷ [])
    ≡ bad (malformed_at 2) ∷ bad (malformed_at 2) ∷ bad (malformed_at 3) ∷ bad (malformed_at 2) ∷ []
unfolding bodies_on_literals
blanks_in_a_size = refl

-- behind the CR of a trailer, and of the last line, LF alone
line_ends_of_trailers : map body (codes "0\r\nA:b\rx" ∷ codes "0\r\nA:b\r\r" ∷ codes "0\r\nA:b\rC:d" ∷ codes "0\r\n\rx" ∷ codes "0\r\n\r\r" ∷ [])
    ≡ bad (malformed_at 7) ∷ bad (malformed_at 7) ∷ bad (malformed_at 7) ∷ bad (malformed_at 4) ∷ bad (malformed_at 4)
    ∷ []
unfolding bodies_on_literals
line_ends_of_trailers = refl

-- the last chunk has the size 0, in any number of digits
last_chunks : map body (codes "000\r\n\r\n" ∷ codes "00001\r\na\r\n0\r\n\r\n" ∷ codes "0\r\n" ∷ [])
    ≡ whole [] 7 ∷ whole (codes "a") 15 ∷ partial [] ∷ []
unfolding bodies_on_literals
last_chunks = refl

-- content is what the chunks have, also where it looks like a line
content_of_chunks : body (codes "4\r\n0\r\n\r\r\n3\r\n\n1\r\r\n0\r\n\r\n") ≡ whole (codes "0\r\n\r\n1\r") 22
unfolding bodies_on_literals
content_of_chunks = refl
