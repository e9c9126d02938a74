-- Framings that are found and refused, as they compute.
use Rattle.std.proofs.Common.{◌≡◌, true, false, List, [], ◌∷◌, ℕ, Ok, Err, codes, refl}
use Rattle.cy_event.specs.Heads.{Field}
use Rattle.cy_event.specs.Framings.{framed, framings_on_literals}
use Rattle.cy_event.specs.declared.framing.Framing.TheVariants.{None as no_body, Length, Chunked}

abbrev line : List ℕ → List ℕ → Field
line name value = record { name = name; value = value }

pub nothing_is_said : framed 1 [] ≡ Ok (record { body = no_body; keep = true; go_on = false })
unfolding framings_on_literals
nothing_is_said = refl

pub one_length_in_many_spellings : framed 0 (line (codes "content-length") (codes "1,, 0001") ∷ line (codes "Content-Length") [] ∷ []) ≡ Ok (record { body = Length 1; keep = false; go_on = false })
unfolding framings_on_literals
one_length_in_many_spellings = refl

pub chunks_are_waited_for : framed 1 (line (codes "Transfer-Encoding") (codes " Chunked ,") ∷ line (codes "Expect") (codes "100-Continue") ∷ line (codes "Connection") (codes "x, CLOSE") ∷ []) ≡ Ok (record { body = Chunked; keep = false; go_on = true })
unfolding framings_on_literals
chunks_are_waited_for = refl

pub both_are_refused : framed 1 (line (codes "Transfer-Encoding") (codes "chunked") ∷ line (codes "Content-Length") (codes "1") ∷ []) ≡ Err 400
unfolding framings_on_literals
both_are_refused = refl

pub other_coding_first : framed 1 (line (codes "Transfer-Encoding") (codes "gzip") ∷ line (codes "Transfer-Encoding") (codes "chunked") ∷ []) ≡ Err 501
unfolding framings_on_literals
other_coding_first = refl

pub other_expectation : framed 1 (line (codes "Expect") (codes "100-continue, x") ∷ []) ≡ Err 417
unfolding framings_on_literals
other_expectation = refl
