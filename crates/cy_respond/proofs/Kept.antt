-- What the lines and places that are kept say of the fields' size.
use Rattle.std.proofs.Common.{◌≡◌, ℕ, ◌+◌, ◌*◌, List, [], ◌∷◌, ◌++◌, length, map, vec_len, sym, ap, subst, ◌∙◌, arith}
use Rattle.std.proofs.lemmas.List.{length-map}
use Rattle.std.specs.List.{All}
use Rattle.cy_event.specs.Answers.{field_line}
use Rattle.cy_respond.specs.Fields.{field_size}
use Rattle.cy_respond.specs.FieldLines.{IsPlaceWithin, KeepsFields, field_at, fields_of}
use Rattle.cy_respond.specs.declared.head.RespHead.TheInside.{Inside}
use Rattle.cy_respond.specs.declared.head.FieldPlace.{FieldPlace}
use Rattle.cy_respond.proofs.LineLemmas.{fields_more, length_of_lines}

pub kept_count : (b : Inside) → length (fields_of b) ≡ vec_len b.places
kept_count b = simp length-map (sym b.places.ok.0)

pub kept_size : (b : Inside) → KeepsFields b → vec_len b.lines ≡ field_size (fields_of b) + 4 * vec_len b.places
kept_size b kept =
    b.lines.ok.0 ∙ ap length kept.lines ∙ length_of_lines (fields_of b) ∙ ap (λ (n : ℕ). field_size (fields_of b) + 4 * n) (kept_count b)

-- the fields, where a line and its place came behind the others
pub grown : (b : Inside) → KeepsFields b → (name value : List ℕ) (p : FieldPlace) (lines : List ℕ) (places : List FieldPlace)
    → lines ≡ b.lines.items ++ field_line (record { name = name; value = value }) → places ≡ b.places.items ++ p ∷ []
    → p.start ≡ vec_len b.lines → p.colon ≡ vec_len b.lines + length name → p.end ≡ vec_len b.lines + length name + 2 + length value
    → map (field_at lines) places ≡ fields_of b ++ record { name = name; value = value } ∷ []
grown b kept name value p lines places line placed start colon end =
    let size : vec_len b.lines ≡ length b.lines.items = b.lines.ok.0 in
    let within : All (IsPlaceWithin (length b.lines.items)) b.places.items
    = subst (λ (n : ℕ). All (IsPlaceWithin n) b.places.items) size kept.places in
    ap (λ (xs : List ℕ). map (field_at xs) places) line
    ∙ ap (map (field_at (b.lines.items ++ field_line (record { name = name; value = value })))) placed
    ∙ fields_more b.lines.items name value b.places.items p within (start ∙ size) (omega arith) (omega arith)
