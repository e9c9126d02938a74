-- Where content is cut into pieces, by what was put and flushed, and the bytes of an answer by its pieces. Written
-- down by hand.
use Rattle.std.proofs.Common.{◌≡◌, ℕ, true, false, List, [], ◌∷◌, ◌++◌, Some, None, codes, length, refl, replicate}
use Rattle.std.specs.Prelude.{map}
use Rattle.std.specs.Fmt.{digits}
use Rattle.cy_event.specs.AnswerBytes.{answer_bytes, bytes_so_far, content_text, known_length}
use Rattle.cy_event.specs.AnswerModes.{Asked, chunked, counted, until_close, void}
use Rattle.cy_event.specs.Answers.{fresh_answer, head_text}
use Rattle.cy_event.specs.Dates.{count_off, date_at}
use Rattle.cy_event.specs.Pieces.{PutOrFlush, content_put, cut_pieces, flushed, is_cut_early, piece_count}
use Rattle.cy_event.specs.Pieces.{pieces_behind, put, run_pieces, runs_behind}

-- ---- how many pieces: one begins at 0 and at each multiple of 8,192

counts : map piece_count (0 ∷ 1 ∷ 8191 ∷ 8192 ∷ 8193 ∷ 16384 ∷ 16385 ∷ 100000 ∷ [])
    ≡ 0 ∷ 1 ∷ 1 ∷ 1 ∷ 2 ∷ 2 ∷ 3 ∷ 13 ∷ []
counts = refl

abbrev letters : ℕ → List ℕ
letters n = replicate n 97

abbrev sizes : List (List ℕ) → List ℕ
sizes pieces = map (λ (piece : List ℕ). length piece) pieces

sizes_of_runs : map (λ n. sizes (run_pieces (letters n))) (0 ∷ 8192 ∷ 8193 ∷ 20000 ∷ [])
    ≡ [] ∷ (8192 ∷ []) ∷ (8192 ∷ 1 ∷ []) ∷ (8192 ∷ 8192 ∷ 3616 ∷ []) ∷ []
sizes_of_runs = refl

-- ---- puts run together, and flushes divide

abbrev marks : List PutOrFlush
marks =
    put (codes "ab") ∷ put (codes "c") ∷ flushed ∷ flushed ∷ put (codes "d") ∷ put [] ∷ flushed ∷ put (codes "ef")
    ∷ put (codes "g") ∷ []

all_pieces : pieces_behind [] marks ≡ codes "abc" ∷ codes "d" ∷ codes "efg" ∷ []
all_pieces = refl

-- the last run is cut at the end alone
pieces_before_the_end : cut_pieces [] marks ≡ codes "abc" ∷ codes "d" ∷ []
pieces_before_the_end = refl

runs : runs_behind [] marks ≡ codes "abc" ∷ [] ∷ codes "d" ∷ codes "efg" ∷ []
runs = refl

content : content_put marks ≡ codes "abcdefg"
content = refl

-- a run of 8,192 bytes waits for the end, and one byte more cuts it
cut_before_the_end : map (λ n. sizes (cut_pieces [] (put (letters n) ∷ []))) (0 ∷ 8192 ∷ 8193 ∷ 16384 ∷ 16385 ∷ [])
    ≡ [] ∷ [] ∷ (8192 ∷ []) ∷ (8192 ∷ []) ∷ (8192 ∷ 8192 ∷ []) ∷ []
cut_before_the_end = refl

-- the count begins anew behind a flush
counted_anew : sizes (pieces_behind [] (put (letters 100) ∷ flushed ∷ put (letters 8192) ∷ put (letters 1) ∷ []))
    ≡ 100 ∷ 8192 ∷ 1 ∷ []
counted_anew = refl

cut_early : map (is_cut_early [])
    ([] ∷ (put (letters 8192) ∷ []) ∷ (put (letters 8192) ∷ put (letters 1) ∷ []) ∷ (flushed ∷ [])
    ∷ (put (codes "a") ∷ flushed ∷ []) ∷ [])
    ≡ false ∷ false ∷ true ∷ true ∷ true ∷ []
cut_early = refl

-- ---- the length that a head knows: the one that was set, or that of content that isn't cut before its end

lengths : known_length true None 5 ∷ known_length true (Some 7) 5 ∷ known_length false None 5
    ∷ known_length false (Some 7) 5 ∷ []
    ≡ None ∷ Some 7 ∷ Some 5 ∷ Some 7 ∷ []
lengths = refl

-- ---- what pieces are written as

abbrev pieces : List (List ℕ)
pieces = codes "abc" ∷ codes "d" ∷ []

pieces_in_each_mode : map (λ mode. content_text mode pieces) (void ∷ counted ∷ chunked ∷ until_close ∷ [])
    ≡ [] ∷ codes "abcd" ∷ codes "3\r\nabc\r\n1\r\nd\r\n0\r\n\r\n" ∷ codes "abcd" ∷ []
unfolding digits
pieces_in_each_mode = refl

abbrev asked : Asked
asked = record { minor = 1; is_head = false; keep = true }

abbrev head_with : List ℕ → List ℕ
head_with framing = codes "HTTP/1.1 200 \r\n" ++ framing ++ codes "Date: Thu, 01 Jan 1970 00:00:00 GMT\r\n\r\n"

in_chunks : answer_bytes fresh_answer asked None 0 pieces
    ≡ head_with (codes "Transfer-Encoding: chunked\r\n") ++ codes "3\r\nabc\r\n1\r\nd\r\n0\r\n\r\n"
unfolding head_text date_at count_off digits
in_chunks = refl

by_a_length : answer_bytes fresh_answer asked (Some 4) 0 pieces
    ≡ head_with (codes "Content-Length: 4\r\n") ++ codes "abcd"
unfolding head_text date_at count_off digits
by_a_length = refl

so_far : bytes_so_far fresh_answer asked None 0 pieces
    ≡ head_with (codes "Transfer-Encoding: chunked\r\n") ++ codes "3\r\nabc\r\n1\r\nd\r\n"
unfolding head_text date_at count_off digits
so_far = refl
