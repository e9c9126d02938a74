-- Each limit of heads, bodies and answers at its bound and one beyond, written down by hand.
use Rattle.std.proofs.Common.{◌≡◌, ℕ, true, false, List, [], ◌∷◌, ◌++◌, Ok, Err, Result, codes, refl, replicate}
use Rattle.std.specs.Prelude.{flat_map, map}
use Rattle.cy_event.specs.declared.body.BodyMark.{BodyMark}
use Rattle.cy_event.specs.declared.body.BodyStage.TheVariants as stage
use Rattle.cy_event.specs.declared.framing.Framing.TheVariants as framing
use Rattle.cy_event.specs.Bodies.{Body, bad, body_of, body_start, malformed_at, partial, scan_bytes, trailers_too_large, whole}
use Rattle.cy_event.specs.Bodies.{bodies_on_literals}
use Rattle.cy_event.specs.Framings.{Framed, framed, framings_on_literals}
use Rattle.cy_event.specs.Heads.{Field, Front, Head, awaited, found, head_of, heads_on_literals, malformed}

-- ---- heads

abbrev field : List ℕ → List ℕ → Field
field name value = record { name = name; value = value }

abbrev of_fields : ℕ → List Field → Head
of_fields minor fields = record { method = codes "GET"; target = codes "/"; minor = minor; fields = fields }

-- 32 bytes and those of the value
abbrev of_value : List ℕ → List ℕ
of_value value = codes "GET / HTTP/1.1\r\nHost: a\r\nX: " ++ (value ++ codes "\r\n\r\n")

head_of_8192 : head_of 8192 100 (of_value (replicate 8160 97))
    ≡ found 8192 (of_fields 1 (field (codes "Host") (codes "a") ∷ field (codes "X") (replicate 8160 97) ∷ []))
unfolding heads_on_literals
head_of_8192 = refl

head_of_8193 : head_of 8192 100 (of_value (replicate 8161 97)) ≡ malformed
unfolding heads_on_literals
head_of_8193 = refl

-- as many bytes as a head may have, and no empty line among them
no_front_in_8191 : head_of 8192 100 (replicate 8191 97) ≡ awaited
unfolding heads_on_literals
no_front_in_8191 = refl

no_front_in_8192 : head_of 8192 100 (replicate 8192 97) ≡ malformed
unfolding heads_on_literals
no_front_in_8192 = refl

-- 27 bytes, the last of which are due: empty lines before a head count too
no_front_in_26_of_27 : head_of 27 1 (codes "GET / HTTP/1.1\r\nHost: a\r\n\r") ≡ awaited
unfolding heads_on_literals
no_front_in_26_of_27 = refl

no_front_in_26_of_26 : head_of 26 1 (codes "GET / HTTP/1.1\r\nHost: a\r\n\r") ≡ malformed
unfolding heads_on_literals
no_front_in_26_of_26 = refl

empty_line_counts : head_of 28 1 (codes "\nGET / HTTP/1.1\r\nHost: a\r\n\r\n")
    ≡ found 28 (of_fields 1 (field (codes "Host") (codes "a") ∷ []))
unfolding heads_on_literals
empty_line_counts = refl

empty_line_is_too_much : head_of 27 1 (codes "\nGET / HTTP/1.1\r\nHost: a\r\n\r\n") ≡ malformed
unfolding heads_on_literals
empty_line_is_too_much = refl

-- ---- fields of a head

abbrev with_fields : ℕ → List ℕ
with_fields n =
    codes "GET / HTTP/1.1\r\nHost: a\r\n" ++ (flat_map (λ line. line) (replicate n (codes "b:c\n")) ++ codes "\r\n")

head_of_100_fields : head_of 8192 100 (with_fields 99)
    ≡ found 423 (of_fields 1 (field (codes "Host") (codes "a") ∷ replicate 99 (field (codes "b") (codes "c"))))
unfolding heads_on_literals
head_of_100_fields = refl

head_of_101_fields : head_of 8192 100 (with_fields 100) ≡ malformed
unfolding heads_on_literals
head_of_101_fields = refl

head_of_2_fields : head_of 8192 2 (with_fields 1)
    ≡ found 31 (of_fields 1 (field (codes "Host") (codes "a") ∷ field (codes "b") (codes "c") ∷ []))
unfolding heads_on_literals
head_of_2_fields = refl

head_of_3_fields : head_of 8192 2 (with_fields 2) ≡ malformed
unfolding heads_on_literals
head_of_3_fields = refl

-- ---- Host

-- 0 where a head is malformed or awaited, else its size
abbrev size_of : Front → ℕ
size_of (found n h) = n
size_of f = 0

abbrev with_hosts : List ℕ → List (List ℕ) → ℕ
with_hosts version values =
    let lines = flat_map (λ value. codes "\nhost:" ++ value) values ++ codes "\n\n" in
    size_of (head_of 8192 100 (codes "GET / " ++ (version ++ lines)))

abbrev none_one_two : List (List (List ℕ))
none_one_two = [] ∷ (codes "a" ∷ []) ∷ (codes "a" ∷ codes "a" ∷ []) ∷ []

hosts_of_1_1 : map (with_hosts (codes "HTTP/1.1")) none_one_two ≡ 0 ∷ 23 ∷ 0 ∷ []
unfolding heads_on_literals
hosts_of_1_1 = refl

hosts_of_1_0 : map (with_hosts (codes "HTTP/1.0")) none_one_two ≡ 16 ∷ 23 ∷ 0 ∷ []
unfolding heads_on_literals
hosts_of_1_0 = refl

abbrev host_sizes : List (List ℕ) → List ℕ
host_sizes values = map (λ value. with_hosts (codes "HTTP/1.1") (value ∷ [])) values

right_hosts : host_sizes (codes "" ∷ codes " \t" ∷ codes " a.b-c:80\t" ∷ codes "a:" ∷ codes "%20" ∷ codes "[::1]"
    ∷ codes "[f.]:0" ∷ codes "~_!;=" ∷ [])
    ≡ 22 ∷ 24 ∷ 32 ∷ 24 ∷ 25 ∷ 27 ∷ 28 ∷ 27 ∷ []
unfolding heads_on_literals
right_hosts = refl

wrong_hosts : host_sizes (codes "a b" ∷ codes ":80" ∷ codes "a:b" ∷ codes "a:1:2" ∷ codes "%2" ∷ codes "%zz"
    ∷ codes "[]" ∷ codes "[::1" ∷ codes "[g]" ∷ codes "[::1]80" ∷ codes "a/b" ∷ codes "a@b" ∷ [])
    ≡ 0 ∷ 0 ∷ 0 ∷ 0 ∷ 0 ∷ 0 ∷ 0 ∷ 0 ∷ 0 ∷ 0 ∷ 0 ∷ 0 ∷ []
unfolding heads_on_literals
wrong_hosts = refl

-- ---- the length of a body

abbrev length_of : List ℕ → Result Framed ℕ
length_of value = framed 1 (field (codes "Content-Length") value ∷ [])

abbrev has_length : ℕ → Result Framed ℕ
has_length n = Ok (record { body = framing.Length n; keep = true; go_on = false })

greatest_length : length_of (codes "4611686018427387904") ≡ has_length 4611686018427387904
unfolding framings_on_literals
greatest_length = refl

past_the_greatest_length : length_of (codes "4611686018427387905") ≡ Err 400
unfolding framings_on_literals
past_the_greatest_length = refl

-- zeros before it don't count, and each element has to be the same number
zeros_before_the_greatest : length_of (codes "4611686018427387904,0000004611686018427387904")
    ≡ has_length 4611686018427387904
unfolding framings_on_literals
zeros_before_the_greatest = refl

one_length_is_another : length_of (codes "5, 6") ≡ Err 400
unfolding framings_on_literals
one_length_is_another = refl

no_lengths : map length_of
    (codes "" ∷ codes " ,\t," ∷ codes "-1" ∷ codes "+1" ∷ codes "0x1" ∷ codes "1 1" ∷ codes "1.0" ∷ [])
    ≡ Err 400 ∷ Err 400 ∷ Err 400 ∷ Err 400 ∷ Err 400 ∷ Err 400 ∷ Err 400 ∷ []
unfolding framings_on_literals
no_lengths = refl

-- ---- the size of a chunk

abbrev line_end : List ℕ
line_end = 13 ∷ 10 ∷ []

abbrev chunked : List ℕ → BodyMark
chunked bytes = scan_bytes 8192 (body_start framing.Chunked) bytes

greatest_chunk : chunked (codes "4000000000000000" ++ line_end)
    ≡ record { raw = 18; content = 0; stage = stage.InChunk 4611686018427387904 }
unfolding bodies_on_literals
greatest_chunk = refl

-- the byte that makes it bad isn't part of it
past_the_greatest_chunk : chunked (codes "4000000000000001" ++ line_end)
    ≡ record { raw = 15; content = 0; stage = stage.Malformed }
unfolding bodies_on_literals
past_the_greatest_chunk = refl

digits_of_a_chunk : chunked (codes "0000000000000001") ≡ record { raw = 16; content = 0; stage = stage.InSize 16 1 }
unfolding bodies_on_literals
digits_of_a_chunk = refl

one_digit_more : body_of 8192 framing.Chunked (codes "00000000000000001") ≡ bad (malformed_at 16)
unfolding bodies_on_literals
one_digit_more = refl

no_digit : body_of 8192 framing.Chunked (codes ";x") ≡ bad (malformed_at 0)
unfolding bodies_on_literals
no_digit = refl

-- ---- the line before a chunk, of 1,024 bytes with its CR LF at most

extension_within : chunked (codes "5;" ++ (replicate 1020 120 ++ line_end))
    ≡ record { raw = 1024; content = 0; stage = stage.InChunk 5 }
unfolding bodies_on_literals
extension_within = refl

extension_past : chunked (codes "5;" ++ (replicate 1021 120 ++ line_end))
    ≡ record { raw = 1022; content = 0; stage = stage.Malformed }
unfolding bodies_on_literals
extension_past = refl

-- behind a blank a semicolon has to come too
blanks_within : chunked (codes "5" ++ (replicate 1020 32 ++ codes ";" ++ line_end))
    ≡ record { raw = 1024; content = 0; stage = stage.InChunk 5 }
unfolding bodies_on_literals
blanks_within = refl

blanks_past : chunked (codes "5" ++ replicate 1021 32) ≡ record { raw = 1021; content = 0; stage = stage.Malformed }
unfolding bodies_on_literals
blanks_past = refl

extension_behind_blanks : chunked (codes "5" ++ (replicate 1020 9 ++ codes ";x"))
    ≡ record { raw = 1022; content = 0; stage = stage.Malformed }
unfolding bodies_on_literals
extension_behind_blanks = refl

-- the last line has the same limit
last_line_past : chunked (codes "0;" ++ replicate 1021 120)
    ≡ record { raw = 1022; content = 0; stage = stage.Malformed }
unfolding bodies_on_literals
last_line_past = refl

-- ---- trailers

-- the body of no chunk with this trailer section
abbrev trailers : ℕ → List ℕ → Body
trailers max_trailer section = body_of max_trailer framing.Chunked (codes "0\r\n" ++ section)

no_trailer_within_2 : trailers 2 (codes "\r\n") ≡ whole [] 5
unfolding bodies_on_literals
no_trailer_within_2 = refl

name_past_2 : trailers 2 (codes "T") ≡ bad trailers_too_large
unfolding bodies_on_literals
name_past_2 = refl

-- where no trailer has the byte at all, the limit is no reason
no_name_past_2 : trailers 2 (codes "(") ≡ bad (malformed_at 3)
unfolding bodies_on_literals
no_name_past_2 = refl

-- behind a byte of a name five more are needed, of a value four, behind its CR three
one_trailer_within_6 : trailers 6 (codes "T:\r\n\r\n") ≡ whole [] 9
unfolding bodies_on_literals
one_trailer_within_6 = refl

one_trailer_past_5 : trailers 5 (codes "T") ≡ bad trailers_too_large
unfolding bodies_on_literals
one_trailer_past_5 = refl

name_within_7 : trailers 7 (codes "Tx") ≡ partial []
unfolding bodies_on_literals
name_within_7 = refl

name_past_6 : trailers 6 (codes "Tx") ≡ bad trailers_too_large
unfolding bodies_on_literals
name_past_6 = refl

value_within_7 : trailers 7 (codes "T: \r\n\r\n") ≡ whole [] 10
unfolding bodies_on_literals
value_within_7 = refl

value_past_6 : trailers 6 (codes "T: ") ≡ bad trailers_too_large
unfolding bodies_on_literals
value_past_6 = refl

no_value_past_6 : trailers 6 (codes "T:\0") ≡ bad (malformed_at 5)
unfolding bodies_on_literals
no_value_past_6 = refl

second_within_10 : trailers 10 (codes "T:\r\nU:\r\n\r\n") ≡ whole [] 13
unfolding bodies_on_literals
second_within_10 = refl

second_past_9 : trailers 9 (codes "T:\r\nU") ≡ bad trailers_too_large
unfolding bodies_on_literals
second_past_9 = refl

trailer_of_8192 : trailers 8192 (codes "T:" ++ (replicate 8186 120 ++ codes "\r\n\r\n")) ≡ whole [] 8195
unfolding bodies_on_literals
trailer_of_8192 = refl

trailer_of_8193 : trailers 8192 (codes "T:" ++ (replicate 8187 120 ++ codes "\r\n\r\n")) ≡ bad trailers_too_large
unfolding bodies_on_literals
trailer_of_8193 = refl
