-- What the steps of reading a target do to a text.
use Rattle.std.specs.Prelude.{◌≡◌, ℕ, Bool, false, not, List, [], ◌∷◌, ◌++◌, length, drop, if◌then◌else◌, ◌==◌, Option, Some, None, option_map, option_and_then, Result, Ok, Err, codes}
use Rattle.cy_event.specs.Targets.{begins_with, slash, is_escape, unescaped, without_parameters, is_dot_dot, is_ordinary}
use Rattle.cy_target.specs.declared.bad_target.BadTarget.{BadTarget}
use Rattle.cy_target.specs.declared.segments.Move.{Move}
use Rattle.cy_target.specs.declared.segments.Move.TheVariants.{Stay, Leave, Enter}

-- what stands behind the scheme of HTTP, where it stands first
abbrev pub behind_scheme : List ℕ → Option (List ℕ)
behind_scheme target =
    if begins_with (codes "http://") target then Some (drop (length (codes "http://")) target)
    else if begins_with (codes "https://") target then Some (drop (length (codes "https://")) target)
    else None

-- what stands behind a slash, or all
abbrev pub without_slash : List ℕ → List ℕ
without_slash [] = []
without_slash (b ∷ bytes) = if b == slash then bytes else b ∷ bytes

-- the digits of an escape stand first
abbrev pub begins_with_escape : List ℕ → Bool
begins_with_escape [] = false
begins_with_escape (high ∷ []) = false
begins_with_escape (high ∷ low ∷ bytes) = is_escape high low

-- the bytes were put at the end, or there are none
abbrev pub Appends : List ℕ → Option (List ℕ) → List ℕ → Result (Unit {0}) BadTarget → Type 0
Appends old None new (Ok done) = ⊥
Appends old (Some bytes) new (Ok done) = new ≡ old ++ bytes
Appends old None new (Err bad) = new ≡ old
Appends old (Some bytes) new (Err bad) = ⊥

-- what a segment does
abbrev pub move_of : List ℕ → Move
move_of segment = if is_dot_dot segment then Leave else if is_ordinary segment then Enter else Stay

-- what stands before the last slash
abbrev pub onto_parent : ℕ → Option (List ℕ) → Option (List ℕ)
onto_parent b None = if b == slash then Some [] else None
onto_parent b (Some front) = Some (b ∷ front)

abbrev pub parent_text : List ℕ → Option (List ℕ)
parent_text [] = None
parent_text (b ∷ text) = onto_parent b (parent_text text)

-- the text of a place after a segment
abbrev pub step_text : List ℕ → List ℕ → Option (List ℕ)
step_text text segment =
    if is_dot_dot segment then parent_text text
    else Some (if is_ordinary segment then text ++ slash ∷ segment else text)

-- whether the segment is none of a name, and the text after it
abbrev pub after_plain : List ℕ → List ℕ → Option (Bool × List ℕ)
after_plain text segment = option_map (λ new. (not (is_ordinary segment), new)) (step_text text segment)

-- the same for a segment as it was sent
abbrev pub after_segment : List ℕ → List ℕ → Option (Bool × List ℕ)
after_segment text raw = option_and_then (after_plain text) (unescaped (without_parameters raw))
