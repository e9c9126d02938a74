-- The trailers, as they are written, are read to the body's end.
use Rattle.std.proofs.Common.{◌≡◌, ℕ, ◌+◌, ◌≤◌, true, false, List, [], ◌∷◌, ◌++◌, length, refl, sym, ap, ◌∙◌, subst, arith, leb, eqb, length-append, append_assoc}
use Rattle.std.specs.Prelude.{All}
use Rattle.std.specs.List.{flat_map, list_all}
use Rattle.std.proofs.lemmas.Bool.{le-leb, eqb-true, and_parts}
use Rattle.std.proofs.lemmas.List.Elements.{All-head, All-tail}
use Rattle.cy_event.specs.Heads.{Field, is_name, is_name_byte}
use Rattle.cy_event.specs.Bodies.{is_trailer_byte, next_stage, within_limit}
use Rattle.cy_event.specs.BodyGrammar.{IsTrailer, line_end, trailer_text, trailers_text}
use Rattle.cy_event.specs.declared.body.BodyStage.{BodyStage}
use Rattle.cy_event.specs.declared.body.BodyStage.TheVariants as stage
use Rattle.cy_in.proofs.Reaching.{Reaches, cons, join, of_bytes, one, to_stage}
use Rattle.cy_in.proofs.Choices.{neither, tested, where_not, where_yes}

pub fits : (max t : ℕ) (next : BodyStage) → t ≤ max → within_limit max t next ≡ next
fits max t next short = where_yes (leb t max) _ _ (le-leb t max short)

-- ---- names

name_no_return : (b : ℕ) → is_name_byte b ≡ true → eqb b 13 ≡ false
unfolding is_name_byte
name_no_return b name =
    tested (eqb b 13) (eqb b 13 ≡ false)
    (λ h. absurd (let wrong : is_name_byte 13 ≡ true = subst (λ (x : ℕ). is_name_byte x ≡ true) (eqb-true b 13 h) name in cc))
    (λ h. h)

name_no_colon : (b : ℕ) → is_name_byte b ≡ true → eqb b 58 ≡ false
unfolding is_name_byte
name_no_colon b name =
    tested (eqb b 58) (eqb b 58 ≡ false)
    (λ h. absurd (let wrong : is_name_byte 58 ≡ true = subst (λ (x : ℕ). is_name_byte x ≡ true) (eqb-true b 58 h) name in cc))
    (λ h. h)

-- ---- a trailer

pub value_reach : (max t : ℕ) (value : List ℕ) → list_all is_trailer_byte value ≡ true → t + length value + 2 + 2 ≤ max →
    Reaches max (stage.InValue t) (value ++ line_end) [] (stage.FieldDue (t + length value + 2))
value_reach max t [] all short =
    let e : t + 1 + 1 ≡ t + 0 + 2 = omega arith in
    cons max (stage.InValue t) 13 (stage.FieldEnds (t + 1)) (10 ∷ []) [] _
    (one max (stage.InValue t) 13 (stage.FieldEnds (t + 1)) (fits max (t + 4) (stage.FieldEnds (t + 1)) (omega arith)) refl refl refl)
    (to_stage max (stage.FieldEnds (t + 1)) (10 ∷ []) [] (stage.FieldDue (t + 1 + 1)) _
    (one max (stage.FieldEnds (t + 1)) 10 (stage.FieldDue (t + 1 + 1)) (fits max (t + 1 + 3) (stage.FieldDue (t + 1 + 1)) (omega arith)) refl refl refl)
    (ap stage.FieldDue e))
value_reach max t (b ∷ value) all short =
    let parts = and_parts (is_trailer_byte b) (list_all is_trailer_byte value) all in
    let step : next_stage max (stage.InValue t) b ≡ stage.InValue (t + 1) =
    where_not (eqb b 13) _ _ (neither (eqb b 13) _ parts.0)
    ∙ (where_yes (is_trailer_byte b) _ _ parts.0 ∙ fits max (t + 5) (stage.InValue (t + 1)) (omega arith)) in
    let e : t + 1 + length value + 2 ≡ t + length (b ∷ value) + 2 = omega arith in
    cons max (stage.InValue t) b (stage.InValue (t + 1)) (value ++ line_end) [] _
    (one max (stage.InValue t) b (stage.InValue (t + 1)) step refl refl refl)
    (to_stage max _ _ [] _ _ (value_reach max (t + 1) value parts.1 (omega arith)) (ap stage.FieldDue e))

pub name_reach : (max t : ℕ) (name value : List ℕ) → list_all is_name_byte name ≡ true → list_all is_trailer_byte value ≡ true →
    t + length name + 1 + length value + 2 + 2 ≤ max →
    Reaches max (stage.InName t) (name ++ (58 ∷ (value ++ line_end))) [] (stage.FieldDue (t + length name + 1 + length value + 2))
name_reach max t [] value names values short =
    let e : t + 1 + length value + 2 ≡ t + 0 + 1 + length value + 2 = omega arith in
    cons max (stage.InName t) 58 (stage.InValue (t + 1)) (value ++ line_end) [] _
    (one max (stage.InName t) 58 (stage.InValue (t + 1)) (fits max (t + 5) (stage.InValue (t + 1)) (omega arith)) refl refl refl)
    (to_stage max _ _ [] _ _ (value_reach max (t + 1) value values (omega arith)) (ap stage.FieldDue e))
name_reach max t (b ∷ name) value names values short =
    let parts = and_parts (is_name_byte b) (list_all is_name_byte name) names in
    let step : next_stage max (stage.InName t) b ≡ stage.InName (t + 1) =
    where_not (eqb b 58) _ _ (name_no_colon b parts.0)
    ∙ (where_yes (is_name_byte b) _ _ parts.0 ∙ fits max (t + 6) (stage.InName (t + 1)) (omega arith)) in
    let e : t + 1 + length name + 1 + length value + 2 ≡ t + length (b ∷ name) + 1 + length value + 2 = omega arith in
    cons max (stage.InName t) b (stage.InName (t + 1)) (name ++ (58 ∷ (value ++ line_end))) [] _
    (one max (stage.InName t) b (stage.InName (t + 1)) step refl refl refl)
    (to_stage max _ _ [] _ _ (name_reach max (t + 1) name value parts.1 values (omega arith)) (ap stage.FieldDue e))

field_reach : (max t : ℕ) (name value : List ℕ) → is_name name ≡ true → list_all is_trailer_byte value ≡ true →
    t + length name + 1 + length value + 2 + 2 ≤ max →
    Reaches max (stage.FieldDue t) (name ++ (58 ∷ (value ++ line_end))) [] (stage.FieldDue (t + length name + 1 + length value + 2))
field_reach max t [] value names values short = cc
field_reach max t (b ∷ name) value names values short =
    let parts = and_parts (is_name_byte b) (list_all is_name_byte name) names in
    let step : next_stage max (stage.FieldDue t) b ≡ stage.InName (t + 1) =
    where_not (eqb b 13) _ _ (name_no_return b parts.0)
    ∙ (where_yes (is_name_byte b) _ _ parts.0 ∙ fits max (t + 6) (stage.InName (t + 1)) (omega arith)) in
    let e : t + 1 + length name + 1 + length value + 2 ≡ t + length (b ∷ name) + 1 + length value + 2 = omega arith in
    cons max (stage.FieldDue t) b (stage.InName (t + 1)) (name ++ (58 ∷ (value ++ line_end))) [] _
    (one max (stage.FieldDue t) b (stage.InName (t + 1)) step refl refl refl)
    (to_stage max _ _ [] _ _ (name_reach max (t + 1) name value parts.1 values (omega arith)) (ap stage.FieldDue e))

-- ---- all of them

pub trailers_reach : (max t : ℕ) (fields : List Field) → All IsTrailer fields → t + length (trailers_text fields) ≤ max →
    Reaches max (stage.FieldDue t) (trailers_text fields) [] stage.Whole
trailers_reach max t [] right short =
    cons max (stage.FieldDue t) 13 stage.LastEnds (10 ∷ []) [] _
    (one max (stage.FieldDue t) 13 stage.LastEnds (fits max (t + 2) stage.LastEnds (omega arith)) refl refl refl)
    (one max stage.LastEnds 10 stage.Whole refl refl refl refl)
trailers_reach max t (f ∷ fields) right short =
    let this : IsTrailer f = All-head IsTrailer f fields right in
    let size : length (trailers_text (f ∷ fields)) ≡ length f.name + 1 + length f.value + 2 + length (trailers_text fields) =
    omega (
      arith,
      length-append (trailer_text f ++ flat_map trailer_text fields) line_end,
      length-append (trailer_text f) (flat_map trailer_text fields),
      length-append (flat_map trailer_text fields) line_end,
      length-append f.name (58 ∷ (f.value ++ line_end)),
      length-append f.value line_end,
    ) in
    let rest : 2 ≤ length (trailers_text fields) = omega (arith, length-append (flat_map trailer_text fields) line_end) in
    of_bytes max (stage.FieldDue t) _ _ [] _
    (join max (stage.FieldDue t) (trailer_text f) [] (stage.FieldDue (t + length f.name + 1 + length f.value + 2)) (trailers_text fields) [] stage.Whole
    (field_reach max t f.name f.value this.name this.value (omega arith))
    (trailers_reach max (t + length f.name + 1 + length f.value + 2) fields (All-tail IsTrailer f fields right) (omega arith)))
    (sym (append_assoc (trailer_text f) (flat_map trailer_text fields) line_end))
