-- Pieces that are sent as chunks are a body by the grammar of bodies.
use Rattle.std.proofs.Common.{◌≡◌, ℕ, zero, suc, ◌+◌, ◌*◌, ◌/◌, ◌%◌, ◌<◌, ◌≤◌, Bool, true, false, List, [], ◌∷◌, ◌++◌, length, map, codes, None, refl, sym, ap, subst, ◌∙◌, arith, append_assoc, length-append}
use Rattle.std.specs.Prelude.{◌&&◌, ◌==◌, nat_lt}
use Rattle.std.specs.List.{All, concat, flat_map, list_all}
use Rattle.std.specs.Char.{is_digit, digit_value}
use Rattle.std.proofs.lemmas.Bool.Decides.{nat_tests}
use Rattle.std.proofs.lemmas.List.Elements.{All-cons, All-head, All-nil, All-tail}
use Rattle.cy_event.specs.Answers.{crlf}
use Rattle.cy_event.specs.AnswerModes.{chunked, hex_text, piece_text}
use Rattle.cy_event.specs.BodyGrammar.{Chunk, ChunkedBody, IsBody, IsChunk, IsChunked, IsLine, IsTrailer, SizeLine, chunk_text, line_end, size_of}
use Rattle.cy_event.specs.declared.framing.Framing.TheVariants as framing
use Rattle.cy_event.specs.AnswerBytes.{content_text}
use Rattle.cy_event.specs.Pieces.{IsPiece}
use Rattle.cy_out.proofs.HexSizes.{glyph, one_digit_text, two_digits_text, three_digits_text, four_digits_text}

-- ---- digits

-- the test holds of all numbers below n
abbrev tests : (ℕ → Bool) → ℕ → Bool
tests p zero = true
tests p (suc n) = p n && tests p n

both : (a b : Bool) → a && b ≡ true → (a ≡ true) × (b ≡ true)
both true b h = (refl, h)
both false b h = cc

below : (p : ℕ → Bool) (n k : ℕ) → tests p n ≡ true → k < n → p k ≡ true
below p zero k all small = absurd (omega arith)
below p (suc n) k all small =
    let parts = both (p n) (tests p n) all in
    elim (nat_lt k n) as (λ v. nat_lt k n ≡ v → p k ≡ true) [
      | true ↦ λ less. below p n k parts.1 (grind (arith, nat_tests))
      | false ↦ λ last. let same : k ≡ n = grind (arith, nat_tests) in ap p same ∙ parts.0
    ] refl

-- a digit stands for its number
digit_back : (n : ℕ) → n < 16 → digit_value (glyph n) ≡ n
digit_back n small =
    let same = below (λ k. digit_value (glyph k) == k) 16 n refl small in
    grind (arith, nat_tests)

digit_is : (n : ℕ) → n < 16 → is_digit (glyph n) 16 ≡ true
digit_is n small = below (λ k. is_digit (glyph k) 16) 16 n refl small

-- ---- sizes

-- 1 to 4 digits that stand for this number
pub record IsHex (n : ℕ) (text : List ℕ) : Type 0 where
  pub some : 1 ≤ length text
  pub few : length text ≤ 4
  pub digits : list_all (λ b. is_digit b 16) text ≡ true
  pub size : size_of text ≡ n

one_digit : (n a : ℕ) → a < 16 → a ≡ n → IsHex n (glyph a ∷ [])
one_digit n a small sum = record {
  some = omega arith;
  few = omega arith;
  digits = rw (digit_is a small) refl;
  size = omega (arith, digit_back a small);
}

two_digits : (n a b : ℕ) → a < 16 → b < 16 → 16 * a + b ≡ n → IsHex n (glyph a ∷ glyph b ∷ [])
two_digits n a b small smaller sum = record {
  some = omega arith;
  few = omega arith;
  digits = rw (digit_is a small, digit_is b smaller) refl;
  size = omega (arith, digit_back a small, digit_back b smaller);
}

three_digits : (n a b c : ℕ) → a < 16 → b < 16 → c < 16 → 16 * (16 * a + b) + c ≡ n → IsHex n (glyph a ∷ glyph b ∷ glyph c ∷ [])
three_digits n a b c fa fb fc sum = record {
  some = omega arith;
  few = omega arith;
  digits = rw (digit_is a fa, digit_is b fb, digit_is c fc) refl;
  size = omega (arith, digit_back a fa, digit_back b fb, digit_back c fc);
}

four_digits : (n a b c d : ℕ) → a < 16 → b < 16 → c < 16 → d < 16 → 16 * (16 * (16 * a + b) + c) + d ≡ n
    → IsHex n (glyph a ∷ glyph b ∷ glyph c ∷ glyph d ∷ [])
four_digits n a b c d fa fb fc fd sum = record {
  some = omega arith;
  few = omega arith;
  digits = rw (digit_is a fa, digit_is b fb, digit_is c fc, digit_is d fd) refl;
  size = omega (arith, digit_back a fa, digit_back b fb, digit_back c fc, digit_back d fd);
}

-- it is below the bound, or at least it
sides : {X : Type 0} (n bound : ℕ) → (n < bound → X) → (bound ≤ n → X) → X
sides {X} n bound below_it above =
    elim (nat_lt n bound) as (λ v. nat_lt n bound ≡ v → X) [
      | true ↦ λ less. below_it (grind (arith, nat_tests))
      | false ↦ λ not_less. above (grind (arith, nat_tests))
    ] refl

pub size_is_hex : (n : ℕ) → n < 65536 → IsHex n (hex_text n)
size_is_hex n small = sides n 16
    (λ one. subst (IsHex n) (sym (one_digit_text n one)) (one_digit n (n % 16) (omega arith) (omega arith)))
    (λ two. sides n 256
    (λ less. subst (IsHex n) (sym (two_digits_text n two less)) (two_digits n (n / 16 % 16) (n % 16) (omega arith) (omega arith) (omega arith)))
    (λ three. sides n 4096
    (λ less. subst (IsHex n) (sym (three_digits_text n three less))
    (three_digits n (n / 256 % 16) (n / 16 % 16) (n % 16) (omega arith) (omega arith) (omega arith) (omega arith)))
    (λ four. subst (IsHex n) (sym (four_digits_text n four small))
    (four_digits n (n / 4096) (n / 256 % 16) (n / 16 % 16) (n % 16) (omega arith) (omega arith) (omega arith) (omega arith) (omega arith)))))

-- ---- chunks

abbrev line_of : List ℕ → SizeLine
line_of digits = record { digits = digits; extension = None }

abbrev chunk_of : List ℕ → Chunk
chunk_of p = record { line = line_of (hex_text (length p)); bytes = p }

line_is_right : (n : ℕ) (digits : List ℕ) → n ≤ 65535 → IsHex n digits → IsLine (line_of digits)
line_is_right n digits small h = record {
  some = h.some;
  few = omega (arith, h.few);
  digits = h.digits;
  size = omega (arith, h.size);
  extension = tt;
  short = omega (arith, h.few, length-append digits line_end);
}

chunk_is_right : (p : List ℕ) → IsPiece p → IsChunk (chunk_of p)
chunk_is_right p right =
    let h = size_is_hex (length p) (omega (arith, right.few)) in
    record { line = line_is_right (length p) (hex_text (length p)) (omega (arith, right.few)) h; size = h.size; some = right.some }

chunk_written : (p : List ℕ) → IsPiece p → piece_text chunked p ≡ chunk_text (chunk_of p)
chunk_written [] right = absurd (omega (arith, right.some))
chunk_written (b ∷ p) right = append_assoc (hex_text (length (b ∷ p)) ++ crlf) (b ∷ p) crlf

-- ---- bodies

abbrev body_of_pieces : List (List ℕ) → ChunkedBody
body_of_pieces pieces = record { chunks = map chunk_of pieces; last = line_of (48 ∷ []); trailers = [] }

chunks_are_right : (pieces : List (List ℕ)) → All IsPiece pieces → All IsChunk (map chunk_of pieces)
chunks_are_right [] right = All-nil IsChunk
chunks_are_right (p ∷ pieces) right =
    All-cons IsChunk (chunk_of p) (map chunk_of pieces) (chunk_is_right p (All-head IsPiece p pieces right)) (chunks_are_right pieces (All-tail IsPiece p pieces right))

chunks_written : (pieces : List (List ℕ)) → All IsPiece pieces → flat_map (piece_text chunked) pieces ≡ flat_map chunk_text (map chunk_of pieces)
chunks_written [] right = refl
chunks_written (p ∷ pieces) right =
    let one = chunk_written p (All-head IsPiece p pieces right) in
    let others = chunks_written pieces (All-tail IsPiece p pieces right) in
    λ i. one i ++ others i

chunks_hold : (pieces : List (List ℕ)) → flat_map (λ (c : Chunk). c.bytes) (map chunk_of pieces) ≡ concat pieces
chunks_hold [] = refl
chunks_hold (p ∷ pieces) = ap (λ (xs : List ℕ). p ++ xs) (chunks_hold pieces)

body_is_right : (pieces : List (List ℕ)) → All IsPiece pieces → IsChunked 2 (body_of_pieces pieces)
body_is_right pieces right = record {
  chunks = chunks_are_right pieces right;
  last = record { some = omega arith; few = omega arith; digits = refl; size = omega arith; extension = tt; short = omega arith };
  end = refl;
  trailers = All-nil IsTrailer;
  short = omega arith;
}

pub chunks_are_a_body : (pieces : List (List ℕ)) → All IsPiece pieces → IsBody 2 framing.Chunked (content_text chunked pieces) (concat pieces)
chunks_are_a_body pieces right =
    (body_of_pieces pieces, body_is_right pieces right, ap (λ (xs : List ℕ). xs ++ codes "0\r\n\r\n") (sym (chunks_written pieces right)), chunks_hold pieces)
