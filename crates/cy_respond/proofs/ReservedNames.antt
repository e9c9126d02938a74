-- Fields that may stand in an answer have none of the connector's names.
use Rattle.std.proofs.Common.{◌≡◌, ℕ, zero, suc, ◌<◌, Bool, true, false, List, [], ◌∷◌, length, refl, sym, ap, ◌∙◌, arith, slice_index_or}
use Rattle.std.specs.List.{Contains, list_all, list_any}
use Rattle.std.specs.Str.{str_eq_ignore_ascii_case}
use Rattle.std.proofs.lemmas.Bool.{and_parts, not-true, or_parts}
use Rattle.cy_bytes.specs.Tokens.{is_token}
use Rattle.cy_event.specs.Heads.{Field, is_named, value_before, values_of}
use Rattle.cy_respond.specs.Fields.{is_free_name, is_one_line, is_reserved, may_stand, reserved_names}
use Rattle.cy_respond.specs.Laws.{ReservedNamesAreKept}

fails_at : (test : List ℕ → Bool) (names : List (List ℕ)) (k : ℕ) (name : List ℕ) → list_any test names ≡ false → k < length names
    → test (slice_index_or names k name) ≡ false
fails_at test [] k name none inside = absurd (omega arith)
fails_at test (first ∷ names) zero name none inside = (or_parts (test first) (list_any test names) none).0
fails_at test (first ∷ names) (suc k) name none inside =
    fails_at test names k name (or_parts (test first) (list_any test names) none).1 (omega arith)

fails_of : (test : List ℕ → Bool) (names : List (List ℕ)) (name : List ℕ) → list_any test names ≡ false → Contains names name → test name ≡ false
fails_of test names name none among = ap test (sym among.2) ∙ fails_at test names among.0 name none among.1

has_other_name : (f : Field) (name : List ℕ) → may_stand f ≡ true → Contains reserved_names name → is_named name f ≡ false
has_other_name f name stands among =
    let free = (and_parts (is_free_name f.name) (is_one_line f.value) stands).0 in
    let other = not-true (is_reserved f.name) (and_parts (is_token f.name) _ free).1 in
    fails_of (λ (reserved : List ℕ). str_eq_ignore_ascii_case f.name reserved) reserved_names name other among

pub reserved_names_are_kept : ReservedNamesAreKept
reserved_names_are_kept [] name stand among = refl
reserved_names_are_kept (f ∷ fields) name stand among =
    let parts = and_parts (may_stand f) (list_all may_stand fields) stand in
    ap (λ (named : Bool). value_before named f.value (values_of name fields)) (has_other_name f name parts.0 among)
    ∙ reserved_names_are_kept fields name parts.1 among
