-- Codings: what is remembered of them tells the framing.
use Rattle.std.proofs.Common.{◌≡◌, ℕ, Bool, true, false, not, ◌&&◌, ◌||◌, cond, List, [], ◌∷◌, reverse, refl, sym, ap, ◌∙◌, Ok, Err}
use Rattle.std.specs.Prelude.{fold}
use Rattle.std.specs.List.{list_any}
use Rattle.std.proofs.lemmas.Grind.{fold-append}
use Rattle.std.proofs.lemmas.List.{reverse-append, reverse-reverse}
use Rattle.cy_event.specs.Framings.{framing_by_last, is_chunked}
use Rattle.cy_event.specs.declared.framing.Framing.TheVariants as body
use Rattle.cy_framing.specs.Lists.{after_chunked, after_coding, codings_verdict}
use Rattle.cy_framing.specs.declared.codings.Codings.{Codings}
use Rattle.cy_framing.specs.declared.codings.Codings.TheVariants.{Unknown, Others, Chunked, ChunkedLast, Refused}

-- what is remembered, by the last coding and those before it
abbrev of_last : List (List ℕ) → Codings
of_last [] = Unknown
of_last (last ∷ before) = after_coding (of_last before) last

-- where one came before, and whether it was chunked
abbrev some_before : List (List ℕ) → Bool
some_before [] = false
some_before (last ∷ before) = true

-- what is remembered, by whether chunked came before the last, whether anything did, and whether the last is chunked
abbrev state : Bool → Bool → Bool → Codings
state true some chunked = Refused
state false true chunked = cond chunked ChunkedLast Others
state false false chunked = cond chunked Chunked Others

next_state : (early some last chunked : Bool) → after_chunked (state early some last) chunked ≡ state (last || early) true chunked
next_state true some true chunked = refl
next_state true some false chunked = refl
next_state false true true chunked = refl
next_state false true false true = refl
next_state false true false false = refl
next_state false false true chunked = refl
next_state false false false true = refl
next_state false false false false = refl

first_state : (chunked : Bool) → after_chunked Unknown chunked ≡ state false false chunked
first_state true = refl
first_state false = refl

state_is : (last : List ℕ) (before : List (List ℕ)) → of_last (last ∷ before) ≡ state (list_any is_chunked before) (some_before before) (is_chunked last)
state_is last [] = first_state (is_chunked last)
state_is last (coding ∷ codings) =
    ap (λ (s : Codings). after_chunked s (is_chunked last)) (state_is coding codings)
    ∙ next_state (list_any is_chunked codings) (some_before codings) (is_chunked coding) (is_chunked last)

alone_tells : (chunked : Bool) → codings_verdict (state false false chunked) ≡ cond chunked (Ok body.Chunked) (Err 400)
alone_tells true = refl
alone_tells false = refl

more_tell : (early chunked : Bool) → codings_verdict (state early true chunked) ≡ cond (chunked && not early) (Err 501) (Err 400)
more_tell true true = refl
more_tell true false = refl
more_tell false true = refl
more_tell false false = refl

last_tells : (codings : List (List ℕ)) → codings_verdict (of_last codings) ≡ framing_by_last codings
last_tells [] = refl
last_tells (last ∷ []) = ap codings_verdict (state_is last []) ∙ alone_tells (is_chunked last)
last_tells (last ∷ coding ∷ codings) = ap codings_verdict (state_is last (coding ∷ codings)) ∙ more_tell (list_any is_chunked (coding ∷ codings)) (is_chunked last)

-- the last one is taken last
folded : (codings : List (List ℕ)) → fold after_coding Unknown (reverse codings) ≡ of_last codings
folded [] = refl
folded (last ∷ before) =
    ap (fold after_coding Unknown) (reverse-append (last ∷ []) before)
    ∙ fold-append after_coding Unknown (reverse before) (last ∷ [])
    ∙ ap (λ (s : Codings). after_coding s last) (folded before)

pub codings_tell : (codings : List (List ℕ)) → codings_verdict (fold after_coding Unknown codings) ≡ framing_by_last (reverse codings)
codings_tell codings =
    ap (λ (cs : List (List ℕ)). codings_verdict (fold after_coding Unknown cs)) (sym (reverse-reverse codings))
    ∙ ap codings_verdict (folded (reverse codings)) ∙ last_tells (reverse codings)
