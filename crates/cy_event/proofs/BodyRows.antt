-- Bodies that are whole, a part or bad, as they compute.
use Rattle.std.proofs.Common.{◌≡◌, ◌++◌, List, [], ◌∷◌, ℕ, codes, refl}
use Rattle.cy_event.specs.Bodies.{body_of, whole, partial, bad, malformed_at, trailers_too_large, bodies_on_literals}
use Rattle.cy_event.specs.declared.framing.Framing.TheVariants.{None as no_body, Length, Chunked}

abbrev line_end : List ℕ
line_end = 13 ∷ 10 ∷ []

pub nothing_is_whole : body_of 8192 no_body (codes "GET") ≡ whole [] 0
unfolding bodies_on_literals
nothing_is_whole = refl

pub a_length_is_counted : body_of 8192 (Length 3) (codes "xyzG") ≡ whole (codes "xyz") 3
unfolding bodies_on_literals
a_length_is_counted = refl

pub a_part_of_a_length : body_of 8192 (Length 3) (codes "xy") ≡ partial (codes "xy")
unfolding bodies_on_literals
a_part_of_a_length = refl

pub chunks_and_a_trailer : body_of 8192 Chunked (codes "3;x=1" ++ line_end ++ codes "abc" ++ line_end ++ codes "2" ++ line_end ++ codes "de" ++ line_end ++ codes "0" ++ line_end ++ codes "T: v" ++ line_end ++ line_end ++ codes "G") ≡ whole (codes "abcde") 30
unfolding bodies_on_literals
chunks_and_a_trailer = refl

pub a_part_of_a_chunk : body_of 8192 Chunked (codes "A" ++ line_end ++ codes "ab") ≡ partial (codes "ab")
unfolding bodies_on_literals
a_part_of_a_chunk = refl

pub trailers_are_due : body_of 8192 Chunked (codes "0" ++ line_end) ≡ partial []
unfolding bodies_on_literals
trailers_are_due = refl

pub blanks_need_a_semicolon : body_of 8192 Chunked (codes "5 " ++ line_end) ≡ bad (malformed_at 2)
unfolding bodies_on_literals
blanks_need_a_semicolon = refl

pub a_size_past_the_greatest : body_of 8192 Chunked (codes "4000000000000001") ≡ bad (malformed_at 15)
unfolding bodies_on_literals
a_size_past_the_greatest = refl

pub the_greatest_size : body_of 8192 Chunked (codes "4000000000000000") ≡ partial []
unfolding bodies_on_literals
the_greatest_size = refl

pub seventeen_digits : body_of 8192 Chunked (codes "00000000000000001") ≡ bad (malformed_at 16)
unfolding bodies_on_literals
seventeen_digits = refl

pub a_letter_behind_a_chunk : body_of 8192 Chunked (codes "3" ++ line_end ++ codes "abcX") ≡ bad (malformed_at 6)
unfolding bodies_on_literals
a_letter_behind_a_chunk = refl

pub a_bare_line_feed : body_of 8192 Chunked (codes "3" ++ (10 ∷ []) ++ codes "abc") ≡ bad (malformed_at 1)
unfolding bodies_on_literals
a_bare_line_feed = refl

pub a_trailer_too_large : body_of 6 Chunked (codes "0" ++ line_end ++ codes "T: ") ≡ bad trailers_too_large
unfolding bodies_on_literals
a_trailer_too_large = refl

pub a_trailer_within : body_of 6 Chunked (codes "0" ++ line_end ++ codes "T:" ++ line_end ++ line_end) ≡ whole [] 9
unfolding bodies_on_literals
a_trailer_within = refl
